-- The loop that merges into one node those that it continues with: the nodes as they are give the same outcomes as
-- before.
use Rattle.std.proofs.Common.{map}
use Rattle.vme_part_format.specs.Tables.{node_value}
use Rattle.vme_part_tables.specs.Shortened.{SayTheSame}
use Rattle.vme_part_tables.proofs.shorten.take_in_all.Given as goal

abbrev pub invariant-loop : goal.invariant-loop
invariant-loop l = SayTheSame l.memories (map node_value l.fn.nodes) (map node_value l.nodes)
