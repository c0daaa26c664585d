-- The loop over the memories of two tables: the runs from the memories so far end in the same memories and have the
-- same first breaks.
use Rattle.std.proofs.Common.{◌≡◌, ℕ, ◌<◌}
use Rattle.vme_part_format.specs.Tables.{table_value}
use Rattle.vme_part_tables.specs.Ways.{outcome_in}
use Rattle.vme_parts.proofs.same.are_tables_same.Given as goal

abbrev pub invariant-loop-memory : goal.invariant-loop-memory
invariant-loop-memory l =
    record {
      leaving : (k : ℕ) → k < l.memory
          → (outcome_in (table_value l.first) k).leaving ≡ (outcome_in (table_value l.second) k).leaving;
      first_break : (k : ℕ) → k < l.memory
          → (outcome_in (table_value l.first) k).first_break ≡ (outcome_in (table_value l.second) k).first_break;
    }
