-- The first part is the recording itself.
use Rattle.vme_auditor.proofs.WholeRecordings.{first_determines_verdict, slice_get-breaks}
use Rattle.vme_auditor.proofs.laws.first_break_is_named.Goals as goal

pub returns-clause-named : goal.returns-clause-named
returns-clause-named c = λ t. slice_get-breaks t

pub returns-clause-verdict : goal.returns-clause-verdict
returns-clause-verdict c = λ t b e. first_determines_verdict t b e
