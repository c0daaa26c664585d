-- The waiting steps are judged at the end.
use Rattle.std.proofs.Common.{subst}
use Rattle.vme_trace.specs.Trace.{Trace}
use Rattle.vme_summary.proofs.StreamJudging.{length-judged_and_waiting, IsNext-all_steps}
use Rattle.vme_summary.proofs.stream_judge.StreamJudge.finish.Goals as goal

pub go_on-requires : goal.go_on-requires
go_on-requires g c =
    let i = c.self.inside in
    rw c.deref.ensures.value (length-judged_and_waiting (g.J.ChunkJudge.is_past i.judging) i.count i.opening
    i.taken.items
    i.waiting.items c.self.invariant c.if-self-gt-MOST_STEPS.false)

pub returns-in-Ok-clause-past : goal.returns-in-Ok-clause-past
returns-in-Ok-clause-past g c =
    let i = c.self.inside in
    let t : Trace = record { opening = i.opening; steps = i.taken.items } in
    let judged =
    IsNext-all_steps (g.J.ChunkJudge.is_past i.judging) i.count i.opening i.taken.items i.waiting.items c.self.invariant
    c.if-self-gt-MOST_STEPS.false (g.J.ChunkJudge.is_past c.go_on.new.self)
    (rw c.deref.ensures.value at c.in-Ok.ensures.past) in
    subst (λ (t : Trace). g.J.ChunkJudge.is_past c.go_on.new.self t.opening t.steps) c.self.view_is judged
