-- A table without the nodes that no run reaches is a pruned one: it has the same outcomes, and can be written if the
-- whole can.
use Rattle.std.proofs.Common.{◌≡◌, ℕ, Bool, List, length, map, ap, subst, ◌∙◌}
use Rattle.vme_part_format.specs.Tables.{NodeValue, TableValue}
use Rattle.vme_part_format.specs.declared.table.TableEntry.{TableEntry}
use Rattle.vme_part_tables.specs.Ways.{HasWays}
use Rattle.vme_part_tables.specs.Pruned.{KeepsWays, IsPruned, entry_kept, nodes_kept, table_kept}
use Rattle.vme_part_tables.proofs.FittingPruned.{FitsTable-table_kept}
use Rattle.vme_part_tables.proofs.Pruning.{length-nodes_table_kept, length-entries_table_kept, outcome_in-table_kept}
use Rattle.vme_part_tables.proofs.Pruning.{HasWays-table_kept}

-- if all nodes that a run of t reaches are kept, the table of the kept nodes is t pruned
pub IsPruned-table_kept : (t : TableValue) (keeps : List Bool)
    (c : KeepsWays (length t.entries) keeps t.entries t.nodes)
    → HasWays t
    → IsPruned t (table_kept keeps t)
IsPruned-table_kept t keeps c h =
    record {
      counted = length-entries_table_kept t keeps c;
      few = length-nodes_table_kept t keeps c;
      ways = HasWays-table_kept t keeps c h;
      fits = λ listing count steps f. FitsTable-table_kept listing count steps t keeps c h f;
      outcomes = outcome_in-table_kept t keeps c;
    }

-- the same of a table whose entries and nodes are those of the table of the kept nodes
pub IsPruned-of_kept : (t : TableValue) (keeps : List Bool) (m : ℕ) (es : List TableEntry) (ns : List NodeValue)
    → m ≡ length t.entries → KeepsWays m keeps t.entries t.nodes → HasWays t → es ≡ map (entry_kept m keeps) t.entries
    → ns ≡ nodes_kept m keeps t.nodes → IsPruned t (record { entries = es; nodes = ns })
IsPruned-of_kept t keeps m es ns count c h e f =
    let closed = subst (λ k. KeepsWays k keeps t.entries t.nodes) count c in
    let entries : es ≡ map (entry_kept (length t.entries) keeps) t.entries
    = e ∙ ap (λ k. map (entry_kept k keeps) t.entries) count in
    let nodes : ns ≡ nodes_kept (length t.entries) keeps t.nodes = f ∙ ap (λ k. nodes_kept k keeps t.nodes) count in
    rw (entries, nodes) (IsPruned-table_kept t keeps closed h)
