use Rattle.std.proofs.Common.{None}
use Rattle.vme_part_format.proofs.WriteLaws.{FitsSegment-at}
use Rattle.vme_part_format.proofs.write.put_segments.Goals as goal

pub put_segment-requires : goal.put_segment-requires
put_segment-requires c =
    rw c.segment-item.is (FitsSegment-at c.args.listing None c.args.segments.now c.loop-segment.segment-index _
    c.loop-segment-test.true c.requires)
