use Rattle.std.proofs.Common.{◌++◌, take}
use Rattle.std.specs.Prelude.{flat_map}
use Rattle.vme_annotate.specs.Outputs.{HasPut}
use Rattle.vme_annotate.specs.TimedListings.{timed_header}
use Rattle.vme_annotate.specs.TimedRows.{timed_line}
use Rattle.vme_annotate.proofs.listing_times.write_times.Given as goal

abbrev pub invariant-loop-row : goal.invariant-loop-row
invariant-loop-row g l =
    HasPut (g.W.Sink.writing l.fn.sink) (g.W.Sink.writing l.sink) l.buffer
    (timed_header ++ flat_map (timed_line l.listing.times) (take l.row-index l.listing.listing.rows))
