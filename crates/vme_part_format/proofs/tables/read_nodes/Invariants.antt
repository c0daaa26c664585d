-- The loop over the nodes: those read so far, before what is read of the rest, are what is read of all.
use Rattle.std.proofs.Common.{◌≡◌, ◌-◌, map}
use Rattle.vme_part_format.specs.Reading.{after_items, nodes_at}
use Rattle.vme_part_format.specs.Tables.{node_value}
use Rattle.vme_part_format.proofs.tables.read_nodes.Given as goal

abbrev pub invariant-loop-place : goal.invariant-loop-place
invariant-loop-place l =
    after_items (map node_value l.nodes.items) (nodes_at l.memories l.steps (l.count - l.place) l.fields)
    ≡ nodes_at l.memories l.steps l.count l.fn.fields
