-- A listing as a value: its version, and its rows in their order.
use Rattle.std.specs.Prelude.{Bool, true, false, List}
use Rattle.vme_listing.specs.declared.row.Row.{Row}
use Rattle.vme_listing.specs.declared.row.Version.{Version}
use Rattle.vme_listing.specs.declared.row.Version.TheVariants.{One, Two, Three}

-- the rows of answered writes have their data
abbrev pub includes_data : Version → Bool
includes_data One = false
includes_data Two = true
includes_data Three = true

-- resets have rows
abbrev pub includes_resets : Version → Bool
includes_resets One = false
includes_resets Two = false
includes_resets Three = true

-- a listing
pub record Listed : Type 0 where
  pub version : Version
  pub rows : List Row

-- rows as a listing of the newest version
abbrev pub in_newest_version : List Row → Listed
in_newest_version rows = record { version = Three; rows = rows }
