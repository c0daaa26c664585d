-- The step of the last group is passed on, too.
use Rattle.std.proofs.Common.{◌≡◌, subst}
use Rattle.std.specs.Prelude.{None}
use Rattle.vme_trace.specs.Trace.{Trace}
use Rattle.vme_trace.specs.WellFormed.{malformed_step}
use Rattle.vme_skew.specs.Settled.{settled}
use Rattle.vme_skew.proofs.PassedOnLemmas.{malformed_step-made, made-settled}
use Rattle.vme_skew.proofs.settling_visitor.SettlingVisitor.finish.Goals as goal

pub returns-clause-settled : goal.returns-clause-settled
returns-clause-settled g c =
    let i = c.self.inside in
    let made : Trace = g.F.StepVisitor.recorded c.pass_on.new.taker in
    subst (λ (t : Trace). malformed_step t ≡ None → made ≡ settled g.K.GhostSkew.skew t) c.self.view_is
    (made-settled g.K.GhostSkew.skew i.skew i.count i.is_whole i.settler (g.F.StepVisitor.recorded i.taker)
    c.self.invariant c.if-not-is_whole.false c.in_ok-last.last made c.in_ok-last.ensures c.in_ok-pass_on.ensures)

pub returns-clause-formed : goal.returns-clause-formed
returns-clause-formed g c =
    let i = c.self.inside in
    let made : Trace = g.F.StepVisitor.recorded c.pass_on.new.taker in
    subst (λ (t : Trace). malformed_step t ≡ None → malformed_step made ≡ None) c.self.view_is
    (malformed_step-made g.K.GhostSkew.skew i.skew i.count i.is_whole i.settler (g.F.StepVisitor.recorded i.taker)
    c.self.invariant c.if-not-is_whole.false c.in_ok-last.last made c.in_ok-last.ensures c.in_ok-pass_on.ensures)
