-- The loop over the blocks: the steps so far and those of the blocks that are left are all steps, for which there is
-- room.
use Rattle.std.proofs.Common.{◌≡◌, ◌≤◌, ◌++◌, List, length, map, Some, vec_capacity}
use Rattle.std.specs.Vec.Iter.{into_iter_items, into_iter_len}
use Rattle.vme_trace.specs.Blocks.{joined_steps}
use Rattle.vme_trace.specs.declared.block.Block.{Block}
use Rattle.vme_book.proofs.recording.recording.Given as goal

abbrev pub invariant-loop-place : goal.invariant-loop-place
invariant-loop-place l = record {
  next : (goal.iterator-loop-place).can_next l.place-iterator;
  finite : (goal.iterator-loop-place).is_finite l.place-iterator;
  counted : length (into_iter_items l.place-iterator) ≡ into_iter_len l.place-iterator;
  parts : (bs : List Block) → l.fn.blocks.items ≡ map Some bs → (rest : List Block) × (into_iter_items l.place-iterator
      ≡ map Some rest) × (l.steps.items ++ joined_steps rest ≡ joined_steps bs);
  room : vec_capacity l.fn.room ≤ vec_capacity l.steps;
}
