-- Before the first step there is no current group.
use Rattle.vme_skew.proofs.SettlerSteps.{KeepsGroup-first}
use Rattle.vme_skew.proofs.step_settler.StepSettler.new.Goals as goal

pub invariant_of-result : goal.invariant_of-result
invariant_of-result c =
    KeepsGroup-first c.args.skew c.args.opening c.new-2.result.items c.new-3.result.items c.new.result
    c.new.ensures.group
    c.new-2.ensures c.new-3.ensures
