-- With steps that were judged by themselves, and follow those so far, all steps have been judged.
use Rattle.std.proofs.Common.{◌≡◌, ◌+◌, List, ◌++◌, append-nil, length, length-append, sym, ◌∙◌, ap, subst, arith}
use Rattle.vme_trace.specs.Levels.{Levels}
use Rattle.vme_trace.specs.Trace.{Trace, levels_after}
use Rattle.vme_trace.specs.declared.step.Step.{Step}
use Rattle.vme_summary.proofs.StreamJudging.{IsNext-all_steps}
use Rattle.vme_summary.proofs.stream_judge.StreamJudge.pass.Goals as goal

pub invariant_of-self-2 : goal.invariant_of-self-2
invariant_of-self-2 g c =
    let i = c.self.inside in
    let p = c.chunk.inside in
    let few = c.if-count-gt-MOST_STEPS.false in
    let all : List Step = i.taken.items ++ p.taken.items in
    let long : length all ≡ length i.taken.items + length p.taken.items = length-append i.taken.items p.taken.items in
    let judged =
    IsNext-all_steps (g.J.ChunkJudge.is_past i.judging) i.count i.opening i.taken.items i.waiting.items c.self.invariant
    (omega (arith, few)) (g.J.ChunkJudge.is_past c.go_on.new.self)
    (rw c.deref.ensures.value at c.in_ok-go_on.ensures.past) in
    let opens : p.opening ≡ levels_after i.opening i.taken.items = ap (λ (t : Trace). t.opening) c.chunk.view_is
    ∙ c.requires ∙ sym (ap (λ (t : Trace). levels_after t.opening t.steps) c.self.view_is) in
    let made = subst (λ (v : Levels). g.J.ChunkJudge.is_made_of p.chunk_summary v p.taken.items) opens
    (c.chunk.invariant.made (omega (arith, few, c.chunk.invariant.counted))) in
    let past = c.in_ok-pass.ensures.past i.opening i.taken.items p.taken.items judged made in
    rw (c.and_all-taken.ensures, c.clear.ensures.items)
    (record {
      counted = omega (arith, few, long, c.self.invariant.counted, c.chunk.invariant.counted);
      kept = λ le.
          (all, past, append-nil all);
    })
