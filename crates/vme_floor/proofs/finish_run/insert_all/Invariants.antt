-- The loop over the blocks that were left on the board: those so far are in the book, and the others are still to be
-- inserted.
use Rattle.std.proofs.Common.{◌≡◌, ℕ, length}
use Rattle.std.specs.Vec.Iter.{into_iter_items, into_iter_len}
use Rattle.vme_floor.proofs.Uniting.{IsPart}
use Rattle.vme_floor.proofs.finish_run.insert_all.Given as goal

abbrev pub invariant-loop-content : goal.invariant-loop-content
invariant-loop-content l = record {
  next : (goal.iterator-loop-content).can_next l.content-iterator;
  finite : (goal.iterator-loop-content).is_finite l.content-iterator;
  part : (i : ℕ) × IsPart l.fn.book l.fn.contents.items i l.book (into_iter_items l.content-iterator);
  counted : length (into_iter_items l.content-iterator) ≡ into_iter_len l.content-iterator;
}
