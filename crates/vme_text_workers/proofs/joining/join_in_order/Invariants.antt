-- The pieces so far were taken, and the rest were read ahead, or again, or not at all.
use Rattle.std.proofs.Common.{◌≤◌, drop, length}
use Rattle.std.specs.Vec.Iter.{into_iter_items}
use Rattle.vme_bind.specs.SpeculativeReading.{with_recording}
use Rattle.vme_text_workers.specs.SpeculativeChunks.{AreAhead, AreTaken}
use Rattle.vme_text_workers.proofs.joining.join_in_order.Given as goal

abbrev pub invariant-loop-ahead : goal.invariant-loop-ahead
invariant-loop-ahead g l = record {
  next : (goal.iterator-loop-ahead g).can_next l.ahead-iterator;
  finite : (goal.iterator-loop-ahead g).is_finite l.ahead-iterator;
  count : l.count ≤ length l.pieces;
  ahead : AreAhead l.speculative.body.nets l.speculative.line_bits (drop l.count l.pieces)
      (into_iter_items l.ahead-iterator);
  again : AreAhead l.speculative.body.nets l.speculative.line_bits (drop l.count l.pieces) (into_iter_items l.again);
  taken : AreTaken l.pieces (with_recording l.fn.stream_judge l.fn.speculative)
      (with_recording l.stream_judge l.speculative)
      (drop l.count l.pieces);
}
