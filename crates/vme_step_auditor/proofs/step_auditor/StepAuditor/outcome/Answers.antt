-- The findings and the counts are those of what is read.
use Rattle.vme_step_auditor.specs.ReadBy.{read_of}
use Rattle.vme_step_auditor.proofs.step_auditor.StepAuditor.outcome.Goals as goal

pub returns : goal.returns
returns c =
    λ ok.
    c.outcome.ensures.defined c.args.self.now.allowances (read_of c.args.self.now) (c.audited.ensures ok)
    (c.break_counts.ensures ok)
