-- A recording without a break is its only part.
use Rattle.vme_auditor.proofs.WholeRecordings.{counts-recorded_rows, breaks-unbroken, named_break-no_breaks}
use Rattle.vme_auditor.proofs.WholeRecordings.{verdict-unbroken}
use Rattle.vme_auditor.proofs.laws.unbroken_is_listed.Goals as goal

pub returns-clause-breaks : goal.returns-clause-breaks
returns-clause-breaks c = λ t. (named_break-no_breaks t, breaks-unbroken t)

pub returns-clause-verdict : goal.returns-clause-verdict
returns-clause-verdict c = λ t e. verdict-unbroken t (named_break-no_breaks t e)

pub returns-clause-counts : goal.returns-clause-counts
returns-clause-counts c = λ t e. counts-recorded_rows t (named_break-no_breaks t e)
