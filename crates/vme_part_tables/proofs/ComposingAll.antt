-- The composition of two tables, when pruned, has the outcomes of both, one after the other.
use Rattle.std.proofs.Common.{ℕ, ◌+◌, ◌∙◌, arith}
use Rattle.vme_part_format.specs.Tables.{TableValue}
use Rattle.vme_part_tables.specs.Composed.{CanCompose, table_on}
use Rattle.vme_part_tables.specs.Pruned.{IsPruned}
use Rattle.vme_part_tables.specs.Runs.{IsComposition}
use Rattle.vme_part_tables.proofs.Composing.{composed_count, composed_memories, outcome_in-composed}
use Rattle.vme_part_tables.proofs.Fitting.{composed_fits}

-- if two tables can be composed, a table that is their composition pruned has the outcomes of both, one after the other
pub IsComposition-pruned : (a b : TableValue) (steps : ℕ) → CanCompose a b → (u : TableValue)
    → IsPruned (table_on a b steps) u
    → IsComposition steps a b u
IsComposition-pruned a b steps c u p =
    record {
      counted = p.counted ∙ composed_memories a b steps c;
      few = omega (arith, p.few, composed_count a b steps c);
      ways = p.ways;
      fits = λ listing count more small f g.
          p.fits listing count (steps + more) (composed_fits steps more small listing count a b f g c);
      outcomes = λ k. p.outcomes k ∙ outcome_in-composed a b steps c k;
    }
