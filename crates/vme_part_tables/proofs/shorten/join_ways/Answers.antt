use Rattle.std.proofs.Common.{map}
use Rattle.vme_part_format.specs.Tables.{node_value}
use Rattle.vme_part_tables.proofs.Shortening.{SayTheSame-trans}
use Rattle.vme_part_tables.proofs.shorten.join_ways.Goals as goal

pub loop-place-preserved : goal.loop-place-preserved
loop-place-preserved c =
    SayTheSame-trans c.args.memories (map node_value c.args.nodes.now) (map node_value c.loop-place.nodes)
    (map node_value c.take_in_all.new.nodes) c.loop-place.invariant c.in_ok-take_in_all.ensures
