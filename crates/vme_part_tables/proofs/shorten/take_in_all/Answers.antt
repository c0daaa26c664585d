use Rattle.std.proofs.Common.{map}
use Rattle.vme_part_format.specs.Tables.{node_value}
use Rattle.vme_part_tables.proofs.Shortening.{SayTheSame-trans}
use Rattle.vme_part_tables.proofs.shorten.take_in_all.Goals as goal

pub loop-preserved : goal.loop-preserved
loop-preserved c =
    SayTheSame-trans c.args.memories (map node_value c.args.nodes.now) (map node_value c.loop.nodes)
    (map node_value c.take_in.new.nodes) c.loop.invariant c.in_ok-take_in.ensures
