-- The loop over the nodes: the marks so far and those of the run from `way` through the nodes that are left, `by`
-- later, are the marks of the whole run.
use Rattle.std.proofs.Common.{◌≡◌, ◌++◌, drop, length, map}
use Rattle.vme_part_format.specs.Tables.{node_value, table_value}
use Rattle.vme_part_tables.specs.Ways.{later_mark, outcome_in, run_from}
use Rattle.vme_part_tables.proofs.ways.put_marks_of_run.Given as goal

abbrev pub invariant-loop-node : goal.invariant-loop-node
invariant-loop-node l =
    record {
      memories : l.memories ≡ length l.table.entries.items;
      marks : l.marks.items ++ map (later_mark l.by)
          (run_from (length l.table.entries.items) (map node_value (drop l.node-index l.table.nodes.items)) l.way).marks
          ≡ l.fn.marks.items ++ map (later_mark l.by) (outcome_in (table_value l.fn.table) l.fn.memory).marks;
    }
