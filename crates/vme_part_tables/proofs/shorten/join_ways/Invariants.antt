-- The loop over the nodes: the nodes as they are give the same outcomes as before.
use Rattle.std.proofs.Common.{map}
use Rattle.vme_part_format.specs.Tables.{node_value}
use Rattle.vme_part_tables.specs.Shortened.{SayTheSame}
use Rattle.vme_part_tables.proofs.shorten.join_ways.Given as goal

abbrev pub invariant-loop-place : goal.invariant-loop-place
invariant-loop-place l = SayTheSame l.memories (map node_value l.fn.nodes) (map node_value l.nodes)
