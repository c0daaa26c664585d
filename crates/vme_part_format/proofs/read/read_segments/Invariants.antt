-- The loop over the segments: those read so far, before what is read of the rest, are what is read of all.
use Rattle.std.proofs.Common.{◌≡◌, ◌-◌, None, map}
use Rattle.vme_part_format.specs.Reading.{after_items, segments_at}
use Rattle.vme_part_format.specs.Tables.{segment_value}
use Rattle.vme_part_format.proofs.read.read_segments.Given as goal

abbrev pub invariant-loop : goal.invariant-loop
invariant-loop l =
    after_items (map segment_value l.segments.items) (segments_at l.listing l.before (l.count - l.counter) l.fields)
    ≡ segments_at l.listing None l.count l.fn.fields
