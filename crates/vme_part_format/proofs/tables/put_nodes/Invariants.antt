-- The loop over the nodes: what is written, and then the bytes of those that are left, is all that is to be written.
use Rattle.std.proofs.Common.{◌≡◌, ◌++◌, drop, map}
use Rattle.std.specs.Prelude.{flat_map}
use Rattle.vme_part_format.specs.PartText.{node_bytes}
use Rattle.vme_part_format.specs.Tables.{node_value}
use Rattle.vme_part_format.proofs.tables.put_nodes.Given as goal

abbrev pub invariant-loop-node : goal.invariant-loop-node
invariant-loop-node l =
    l.out.items ++ flat_map node_bytes (map node_value (drop l.node-index l.nodes))
    ≡ l.fn.out.items ++ flat_map node_bytes (map node_value l.nodes)
