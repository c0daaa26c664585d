-- The loop over the segments: what is written, and then the bytes of those that are left, is all that is to be written.
use Rattle.std.proofs.Common.{◌≡◌, ◌++◌, drop, map}
use Rattle.std.specs.Prelude.{flat_map}
use Rattle.vme_part_format.specs.PartText.{segment_bytes}
use Rattle.vme_part_format.specs.Tables.{segment_value}
use Rattle.vme_part_format.proofs.write.put_segments.Given as goal

abbrev pub invariant-loop-segment : goal.invariant-loop-segment
invariant-loop-segment l =
    l.out.items ++ flat_map (segment_bytes l.listing) (map segment_value (drop l.segment-index l.segments))
    ≡ l.fn.out.items ++ flat_map (segment_bytes l.listing) (map segment_value l.segments)
