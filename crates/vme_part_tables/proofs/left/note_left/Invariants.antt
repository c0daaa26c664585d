-- The loop over the memories: for each one so far, the memory in which its run ends is marked as needed.
use Rattle.std.proofs.Common.{◌≡◌, ℕ, ◌<◌, false, get_or, length, true}
use Rattle.vme_part_format.specs.Tables.{table_value}
use Rattle.vme_part_tables.specs.Ways.{outcome_in}
use Rattle.vme_part_tables.proofs.left.note_left.Given as goal

abbrev pub invariant-loop-memory : goal.invariant-loop-memory
invariant-loop-memory l =
    record {
      as_many : length l.needs ≡ length l.fn.needs;
      noted : (k : ℕ) → k < l.memory → get_or l.needs (outcome_in (table_value l.table) k).leaving false ≡ true;
    }
