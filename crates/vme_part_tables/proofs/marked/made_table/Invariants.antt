-- The loop over the memories: there is one entry for each memory so far, made of its item of `onward`.
use Rattle.std.proofs.Common.{◌≡◌, ℕ, ◌<◌, length, vec_len}
use Rattle.std.specs.Prelude.{Some, slice_get}
use Rattle.vme_part_tables.specs.Marked.{entry_made, onward_at}
use Rattle.vme_part_tables.proofs.marked.made_table.Given as goal

abbrev pub invariant-loop-place : goal.invariant-loop-place
invariant-loop-place l =
    record {
      as_many : vec_len l.entries ≡ l.place;
      entries : (k : ℕ) → k < l.place → slice_get l.entries.items k
          ≡ Some (entry_made l.made.memories (length l.made.nodes.items) (onward_at l.onward k));
    }
