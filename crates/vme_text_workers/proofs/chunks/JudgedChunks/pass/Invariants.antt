-- The chunks so far were passed, and the rest follow them.
use Rattle.std.proofs.Common.{◌≡◌, length}
use Rattle.std.specs.Vec.Iter.{into_iter_items, into_iter_len}
use Rattle.vme_trace.specs.Followed.{with_steps}
use Rattle.vme_trace.specs.Trace.{levels_after}
use Rattle.vme_text_workers.specs.Chunks.{Follow, steps_in}
use Rattle.vme_text_workers.proofs.chunks.JudgedChunks.pass.Given as goal

abbrev pub invariant-loop-chunk : goal.invariant-loop-chunk
invariant-loop-chunk g l = record {
  next : (goal.iterator-loop-chunk g).can_next l.chunk-iterator;
  finite : (goal.iterator-loop-chunk g).is_finite l.chunk-iterator;
  counted : length (into_iter_items l.chunk-iterator) ≡ into_iter_len l.chunk-iterator;
  follow : Follow (levels_after l.stream_judge.opening l.stream_judge.steps) (into_iter_items l.chunk-iterator);
  passed : with_steps l.stream_judge (steps_in (into_iter_items l.chunk-iterator))
      ≡ with_steps l.fn.stream_judge l.fn.self.steps;
}
