use Rattle.std.proofs.Common.{◌≡◌, ◌∷◌, ◌∙◌, List, ap, arith, length}
use Rattle.std.specs.Vec.Iter.{into_iter_items}
use Rattle.vme_trace.specs.Trace.{Trace}
use Rattle.vme_text_workers.proofs.ChunkLemmas.{Follow-rest, with_steps-first}
use Rattle.vme_text_workers.proofs.chunks.JudgedChunks.pass.Goals as goal

pub loop-chunk-preserved : goal.loop-chunk-preserved
loop-chunk-preserved g c =
    let inv = c.loop-chunk.invariant in
    let before : Trace = c.loop-chunk.stream_judge in
    let after : Trace = c.pass.new.self in
    let chunks : List Trace = into_iter_items c.loop-chunk.chunk-iterator in
    let rest : List Trace = into_iter_items c.next.new.self in
    let chunk : Trace = c.in-Some.chunk in
    let steps = c.in-Some.ensures.steps in
    let at : chunks ≡ chunk ∷ rest = steps.0 in
    let long = ap length steps.0 in
    let less = steps.1 in
    let counted = inv.counted in
    record {
      next = tt;
      finite = tt;
      counted = omega (arith, counted, less, long);
      follow = Follow-rest before after chunks rest chunk at inv.follow c.in_ok-pass.ensures;
      passed = with_steps-first before after chunks rest chunk at inv.follow c.in_ok-pass.ensures ∙ inv.passed;
    }
