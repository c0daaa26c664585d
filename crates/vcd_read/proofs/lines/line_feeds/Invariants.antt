-- The loop over pieces of 240 bytes: the line feeds so far, and those of the bytes that are left, are all of them.
use Rattle.std.proofs.Common.{◌≡◌, ◌+◌, ◌==◌, ℕ, count_by}
use Rattle.std.specs.Slice.Iter.{chunks_rest, chunks_size}
use Rattle.vcd_read.proofs.lines.line_feeds.Given as goal

abbrev pub invariant-loop-few : goal.invariant-loop-few
invariant-loop-few l = record {
  can_next : goal.iterator-loop-few.can_next l.few-iterator;
  is_finite : goal.iterator-loop-few.is_finite l.few-iterator;
  size : chunks_size l.few-iterator ≡ 240;
  counted : l.total + count_by (λ (b : ℕ). b == 10) (chunks_rest l.few-iterator) ≡ count_by (λ (b : ℕ). b == 10)
      l.bytes;
}
