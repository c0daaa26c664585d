-- More rows were given, but none if no more were to come.
use Rattle.std.proofs.Common.{◌≡◌, List, [], ◌++◌}
use Rattle.vme_trace.specs.Streams.{Reading}
use Rattle.vme_listing.specs.declared.row.Row.{Row}
use Rattle.vme_listing.specs.declared.row.Version.{Version}
use Rattle.vme_confirm_command.specs.RowsOfListing.{ListingGaveRows, IsOver, bytes_left}
use Rattle.vme_confirm_command.proofs.listing_rows.ListingRows.finish.Given as goal

abbrev pub invariant-loop : goal.invariant-loop
invariant-loop g l =
    record {
      gave : (old : Reading) (version : Version) (rows : List Row)
          → ListingGaveRows old version (g.L.Source.reading l.initial.rows.source) l.initial.rows.input
          l.initial.rows.reader
          l.initial.rows.fault rows
          → (more : List Row) × ListingGaveRows old version (g.L.Source.reading l.rows.source) l.rows.input
          l.rows.reader
          l.rows.fault (rows ++ more)
          × (IsOver l.initial.rows.reader l.initial.rows.fault → more ≡ []);
      over : IsOver l.initial.rows.reader l.initial.rows.fault → IsOver l.rows.reader l.rows.fault;
    }

abbrev pub decreases-loop : goal.decreases-loop
decreases-loop g l = bytes_left l.rows.input
