use Rattle.vme_part_format.specs.PartText.{levels_bytes}
use Rattle.vme_part_format.proofs.LevelLaws.{put_levels-all, put_levels-one_more}
use Rattle.vme_part_format.proofs.levels.put_levels.Goals as goal

pub loop-place-preserved : goal.loop-place-preserved
loop-place-preserved c =
    put_levels-one_more c.args.lines.now c.loop-place.out.items c.push.new.self.items _ c.loop-place.place
    c.four_codes.result
    c.loop-place-test.true c.four_codes.ensures c.in_ok-push.ensures.items c.loop-place.invariant

pub returns : goal.returns
unfolding levels_bytes
returns c = put_levels-all c.args.lines.now c.loop-place.out.items _ c.loop-place.place c.loop-place-test.false
    c.loop-place.invariant
