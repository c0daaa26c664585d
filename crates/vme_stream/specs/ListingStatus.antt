-- The exit status that a listing has by its last row.
use Rattle.std.specs.Prelude.{ℕ, List, Option, None}
use Rattle.std.specs.List.{last_or}
use Rattle.std.specs.Option.{option_map_or}
use Rattle.vme_listing.specs.Listed.{Listed}
use Rattle.vme_listing.specs.declared.row.ListedVerdict.{ListedVerdict}
use Rattle.vme_listing.specs.declared.row.ListedVerdict.TheVariants.{Conforming, NeverIdle, Broken, Unreadable}
use Rattle.vme_listing.specs.declared.row.Row.{Row}
use Rattle.vme_listing.specs.declared.row.Row.TheVariants.{Verdict}

-- by its verdict: 0 conforming, 1 broken, 2 unreadable or never idle
abbrev pub verdict_row_status : ListedVerdict → ℕ
verdict_row_status Conforming = 0
verdict_row_status NeverIdle = 2
verdict_row_status (Broken rule instant line) = 1
verdict_row_status (Unreadable rule instant line) = 2

-- by its last row; if this isn't a verdict, the status is that of a bus that is never idle
abbrev pub row_status : Row → ℕ
row_status (Verdict outcome) = verdict_row_status outcome
row_status row = 2

-- by the last row, or 2 if there is none
abbrev pub status_of_last : Option Row → ℕ
status_of_last row = option_map_or row_status row 2

-- by all rows
abbrev pub rows_status : List Row → ℕ
rows_status rows = status_of_last (last_or None rows)

-- the exit status of a listing
abbrev pub listing_status : Listed → ℕ
listing_status listing = rows_status listing.rows
