-- The auditor's fields before the first step.
use Rattle.vme_auditor.proofs.Folds.{HasAudited-opening}
use Rattle.vme_auditor.proofs.auditor.Auditor.new.Goals as goal

pub invariant_of-result : goal.invariant_of-result
invariant_of-result c =
    rw c.new-2.ensures
    (HasAudited-opening c.args.opening.now c.new.result c.at.result c.new.ensures.before c.new.ensures.after
    c.at.ensures)
