-- The loop over the nodes of the first table: those so far are continued in the second table, the others are as they
-- were, and `between` counts these.
use Rattle.std.proofs.Common.{◌≡◌, ◌+◌, drop, length, map, take}
use Rattle.vme_part_format.specs.Tables.{node_value}
use Rattle.vme_part_tables.specs.Composed.{nodes_on}
use Rattle.vme_part_tables.proofs.compose.connect_nodes.Given as goal

abbrev pub invariant-loop-node : goal.invariant-loop-node
invariant-loop-node l =
    record {
      between : l.between + l.node-index ≡ length l.fn.nodes;
      done : map node_value (take l.node-index l.nodes)
          ≡ take l.node-index (nodes_on l.second l.steps (map node_value l.fn.nodes));
      rest : drop l.node-index l.nodes ≡ drop l.node-index l.fn.nodes;
    }
