-- Where nothing is broken, the verdict depends on whether anything is judged.
use Rattle.vme_auditor.proofs.OutcomeVerdicts.{verdict-conforming, verdict-never_idle, never_idle_outcome}
use Rattle.vme_auditor.proofs.laws.outcome_has_verdict.Goals as goal

pub returns-clause-conforming : goal.returns-clause-conforming
returns-clause-conforming c = λ allowances wanted t e. verdict-conforming allowances wanted t e

pub returns-clause-never_idle : goal.returns-clause-never_idle
returns-clause-never_idle c = λ allowances wanted t. (
  verdict-never_idle allowances wanted t,
  never_idle_outcome allowances wanted t,
)
