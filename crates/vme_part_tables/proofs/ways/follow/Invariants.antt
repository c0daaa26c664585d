-- The loop over the nodes: the run from `way` through the nodes that are left ends where the whole run does, and the
-- break so far, or else its first break, is that of the whole run.
use Rattle.std.proofs.Common.{◌≡◌, drop, length, map}
use Rattle.std.specs.Option.{option_or}
use Rattle.vme_part_format.specs.Tables.{node_value, table_value}
use Rattle.vme_part_tables.specs.Ways.{outcome_in, run_from}
use Rattle.vme_part_tables.proofs.ways.follow.Given as goal

abbrev pub invariant-loop-node : goal.invariant-loop-node
invariant-loop-node l =
    record {
      memories : l.memories ≡ length l.table.entries.items;
      leaving : (run_from (length l.table.entries.items) (map node_value (drop l.node-index l.table.nodes.items))
          l.way).leaving
          ≡ (outcome_in (table_value l.fn.table) l.fn.memory).leaving;
      first_break : option_or l.first_break
          (run_from (length l.table.entries.items) (map node_value (drop l.node-index l.table.nodes.items))
          l.way).first_break
          ≡ (outcome_in (table_value l.fn.table) l.fn.memory).first_break;
    }
