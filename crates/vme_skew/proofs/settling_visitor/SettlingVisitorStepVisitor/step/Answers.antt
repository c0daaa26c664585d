-- One more step is taken, and the step that comes out by it is passed on.
use Rattle.vme_skew.proofs.PassedOnLemmas.{KeepsSettled-taken}
use Rattle.vme_skew.proofs.settling_visitor.SettlingVisitorStepVisitor.step.Goals as goal

pub invariant_of-self-2 : goal.invariant_of-self-2
invariant_of-self-2 g c =
    let i = c.self.inside in
    KeepsSettled-taken g.K.GhostSkew.skew i.skew i.count c.next_count-self-inside.result i.is_whole i.settler
    c.take.new.self
    (g.F.StepVisitor.recorded i.taker) (g.F.StepVisitor.recorded c.pass_on.new.taker) c.args.step
    c.in_ok-settled.settled c.self.invariant c.in_ok-settled.ensures.taken c.next_count-self-inside.ensures
    c.in_ok-pass_on.ensures
