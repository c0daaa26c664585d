-- After all steps that came have been judged, the judge has the lines that they leave.
use Rattle.std.proofs.Common.{sym, ◌∙◌, ap}
use Rattle.vme_trace.specs.Trace.{Trace, levels_after}
use Rattle.vme_trace.proofs.LevelsEquality.{levels_eq-Decides}
use Rattle.vme_summary.proofs.StreamJudging.{IsNext-all_steps}
use Rattle.vme_summary.proofs.stream_judge.StreamJudge.leaves.Goals as goal

pub returns-clause-leaves : goal.returns-clause-leaves
returns-clause-leaves g c =
    let i = c.self.inside in
    let judged =
    IsNext-all_steps (g.J.ChunkJudge.is_past i.judging) i.count i.opening i.taken.items i.waiting.items c.self.invariant
    c.if-self-gt-MOST_STEPS.false (g.J.ChunkJudge.is_past c.go_on.new.self)
    (rw c.deref.ensures.value at c.in_ok-go_on.ensures.past) in
    let left = c.left.ensures i.opening i.taken.items judged in
    λ same. ap (λ (t : Trace). levels_after t.opening t.steps) (sym c.self.view_is) ∙ sym left
    ∙ (levels_eq-Decides c.left.result.now c.args.lines.now c.eq.result c.eq.ensures).0 same
