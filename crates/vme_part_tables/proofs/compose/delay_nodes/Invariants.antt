-- The loop over nodes: those so far are `by` later, and the others are as they were.
use Rattle.std.proofs.Common.{◌≡◌, drop, map, take}
use Rattle.vme_part_format.specs.Tables.{node_value}
use Rattle.vme_part_tables.specs.Composed.{later_node}
use Rattle.vme_part_tables.proofs.compose.delay_nodes.Given as goal

abbrev pub invariant-loop-node : goal.invariant-loop-node
invariant-loop-node l =
    record {
      done : map node_value (take l.node-index l.nodes)
          ≡ map (later_node l.by) (map node_value (take l.node-index l.fn.nodes));
      rest : drop l.node-index l.nodes ≡ drop l.node-index l.fn.nodes;
    }
