use Rattle.vme_part_format.proofs.LevelLoops.{four_set}
use Rattle.vme_part_format.proofs.levels.set_four.Goals as goal

pub returns : goal.returns
returns c =
    four_set c.set_level-4.result c.args.lines.now c.set_level.new.lines c.set_level-2.new.lines c.set_level-3.new.lines
    c.set_level-4.new.lines c.args.first c.args.byte c.if-not-set_level.ensures c.if-not-set_level-2.ensures
    c.if-not-set_level-3.ensures c.set_level-4.ensures
