-- The loop over the nodes from the last one back: the nodes that are left are the first ones, and those that were
-- collected are, in reverse, the kept ones of the others. Fewer nodes are left after each round.
use Rattle.std.proofs.Common.{◌≡◌, ◌≤◌, drop, length, map, reverse, take, vec_len}
use Rattle.vme_part_format.specs.Tables.{node_value}
use Rattle.vme_part_tables.specs.Pruned.{nodes_kept}
use Rattle.vme_part_tables.proofs.prune.kept_nodes.Given as goal

abbrev pub invariant-loop-node : goal.invariant-loop-node
invariant-loop-node l =
    record {
      few : vec_len l.nodes ≤ length l.fn.nodes.items;
      left : l.nodes.items ≡ take (vec_len l.nodes) l.fn.nodes.items;
      kept : map node_value (reverse l.kept.items)
          ≡ nodes_kept l.memories (drop (vec_len l.nodes) l.keeps)
          (map node_value (drop (vec_len l.nodes) l.fn.nodes.items));
    }

abbrev pub decreases-loop-node : goal.decreases-loop-node
decreases-loop-node l = vec_len l.nodes
