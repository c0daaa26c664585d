-- The listing of a recording: the starts and resets of the judged stretches, the tenures, cycles and transfers, before
-- the least break; and the verdict.
use Rattle.std.specs.Prelude.{ℕ, zero, suc, ◌+◌, ◌/◌, ◌^◌, ◌==◌, ◌&&◌, List, [], ◌∷◌, ◌++◌, map, flat_map}
use Rattle.std.specs.Prelude.{min, nat_lt, Option, None, Some, if◌then◌else◌}
use Rattle.vme_trace.specs.Instants.{least}
use Rattle.vme_trace.specs.LineNumbers.{AS, DTACK, BBSY, A}
use Rattle.vme_trace.specs.Levels.{Levels, level_at, is_high}
use Rattle.vme_trace.specs.Cycle.{modifier_of, highest_address, class_of}
use Rattle.vme_trace.specs.Trace.{Trace, levels_at, last_instant}
use Rattle.vme_trace.specs.Signals.{low, falls, rises}
use Rattle.vme_trace.specs.Judged.{Stretch, is_reset_at, judged_stretches}
use Rattle.vme_trace.specs.Transfers.{strobes_high, transfer_starts, answers, is_write, data_at}
use Rattle.vme_trace.specs.Cycles.{cycle_starts, cycle_of}
use Rattle.vme_trace.specs.Tenures.{tenure_starts, tenure_level, tenure_slot}
use Rattle.vme_trace.specs.Rules.{all_rules, is_unreadable}
use Rattle.vme_trace.specs.Verdict.{least_of}
use Rattle.vme_trace.specs.declared.class.Class.{Class}
use Rattle.vme_trace.specs.declared.class.Class.TheVariants as class
use Rattle.vme_trace.specs.declared.data.Lanes.{Lanes}
use Rattle.vme_trace.specs.declared.rule.Rule.{Rule}
use Rattle.vme_trace.specs.declared.verdict.Break.{Break}
use Rattle.vme_listing.specs.declared.row.AnswerLine.{AnswerLine}
use Rattle.vme_listing.specs.declared.row.AnswerLine.TheVariants.{Dtack, Berr}
use Rattle.vme_listing.specs.declared.row.Direction.{Direction}
use Rattle.vme_listing.specs.declared.row.Direction.TheVariants.{Read, Write}
use Rattle.vme_listing.specs.declared.row.ListedVerdict.{ListedVerdict}
use Rattle.vme_listing.specs.declared.row.ListedVerdict.TheVariants.{Conforming, NeverIdle, Broken, Unreadable}
use Rattle.vme_listing.specs.Listed.{Listed, in_newest_version, includes_data}
use Rattle.vme_listing.specs.declared.row.Version.{Version}
use Rattle.vme_listing.specs.declared.row.Row.{Row}
use Rattle.vme_listing.specs.declared.row.Row.TheVariants.{Start, Reset, OpenTenure, Tenure, AddressedCycle}
use Rattle.vme_listing.specs.declared.row.Row.TheVariants.{FreeCycle, InterruptCycle, Transfer, PendingTransfer}
use Rattle.vme_listing.specs.declared.row.Row.TheVariants.{Verdict}

-- the address on lines 1 to n, a high line being 1 and any other 0
abbrev pub address_to : Levels → ℕ → ℕ
address_to v zero = 0
address_to v (suc n) = address_to v n + (if is_high (level_at v (A (suc n))) then 2 ^ (suc n) else 0)

-- a cycle with an address: its class, the modifier code, and the address on the lines that are meaningful with the code
abbrev pub addressed : ℕ → Class → Levels → Option ℕ → Row
addressed i class v end = AddressedCycle i class (modifier_of v) (address_to v (highest_address (modifier_of v))) end

-- the row of a cycle, from the levels v as the address strobe falls. The level of an interrupt acknowledge is on
-- address lines 3, 2 and 1
abbrev pub cycle_row : ℕ → Levels → Option ℕ → Class → Row
cycle_row i v end class.S = addressed i class.S v end
cycle_row i v end class.K = addressed i class.K v end
cycle_row i v end class.F = FreeCycle i (modifier_of v) end
cycle_row i v end class.I = InterruptCycle i (address_to v 3 / 2) end

-- a tenure is listed by its level and its slot; where there are none, a rule is broken as it starts
abbrev pub tenure_row : ℕ → Option ℕ → Option ℕ → Option ℕ → List Row
tenure_row i None slot end = []
tenure_row i (Some level) None end = []
tenure_row i (Some level) (Some slot) end = Tenure i level slot end ∷ []

-- end: the first instant that isn't listed
module _ (t : Trace) (stretch : Stretch) (end : ℕ) where
  -- a tenure starts where the bus becomes busy, and is open at the start of the stretch where the bus is busy there; it
  -- ends where the bus is next free
  unfoldable pub tenure_rows : ℕ → List Row
  tenure_rows i =
      if (i == stretch.start) && low t BBSY i then OpenTenure i (least (rises t BBSY) (i + 1) end) ∷ []
      else if tenure_starts t stretch i then tenure_row i (tenure_level t i) (tenure_slot t i)
      (least (rises t BBSY) (i + 1) end)
      else []

  -- the row of the cycle that starts at i, if one does; it ends where the address strobe next rises
  unfoldable pub cycle_rows : ℕ → List Row
  cycle_rows i = if cycle_starts t stretch i then cycle_row i (levels_at t i) (least (rises t AS) (i + 1) end)
      (class_of (levels_at t i)) ∷ [] else []

  -- the direction of the transfer that starts at i
  abbrev pub direction_of : ℕ → Direction
  direction_of i = if is_write t stretch i then Write else Read

  -- the answer line that falls at r
  abbrev pub answer_line : ℕ → AnswerLine
  answer_line r = if falls t DTACK r then Dtack else Berr

  -- the data of a write, by its answer at r; None for a read
  abbrev pub data_of : ℕ → ℕ → Option Lanes
  data_of i r = if is_write t stretch i then Some (data_at t stretch r) else None

  -- an answer outside every cycle breaks a rule, so it isn't listed
  abbrev pub answered_row : ℕ → ℕ → Option ℕ → Row
  answered_row i r None = PendingTransfer i (direction_of i)
  answered_row i r (Some cycle) =
      Transfer (direction_of i) (answer_line r) i cycle r (least (strobes_high t) (i + 1) end) (data_of i r)

  -- the row of the transfer that starts at i, by the instant of its answer, if it has one
  abbrev pub transfer_row : ℕ → Option ℕ → Row
  transfer_row i None = PendingTransfer i (direction_of i)
  transfer_row i (Some r) = answered_row i r (cycle_of t stretch r)

  -- the row of the transfer that starts at i, if one does
  unfoldable pub transfer_rows : ℕ → List Row
  transfer_rows i = if transfer_starts t stretch i then transfer_row i (least (answers t stretch i) i end) ∷ [] else []

  -- the rows of the tenures, cycles and transfers that begin before an instant
  unfoldable pub rows_before : ℕ → List Row
  rows_before zero = []
  rows_before (suc i) = rows_before i ++ tenure_rows i ++ cycle_rows i ++ transfer_rows i

-- limit: the first instant of the recording that isn't listed
module _ (t : Trace) (limit : ℕ) (stretch : Stretch) where
  -- the first instant of the stretch that isn't listed, or its end
  abbrev pub limit_in : ℕ
  limit_in = min stretch.end limit

  -- the reset that ends the stretch, where it is listed
  abbrev pub reset_rows : List Row
  reset_rows = if is_reset_at t stretch.end && nat_lt stretch.end limit then Reset stretch.end ∷ [] else []

  -- the rows of a stretch: its start, what begins in the stretch, and its reset; none where the start isn't listed
  unfoldable pub rows_of_stretch : List Row
  rows_of_stretch =
      if nat_lt stretch.start limit then Start stretch.start ∷ rows_before t stretch limit_in limit_in
      ++ reset_rows else []

-- the first instant that isn't listed: that of the break, or without a break one more than the last
abbrev pub listed_end : Trace → Option Break → ℕ
listed_end t None = last_instant t + 1
listed_end t (Some b) = b.instant

-- the verdict where something is judged, by the least break
abbrev pub outcome_of : Option Break → ListedVerdict
outcome_of None = Conforming
outcome_of (Some b) = if is_unreadable b.rule then Unreadable b.rule b.instant b.line
    else Broken b.rule b.instant b.line

-- the rows of the stretches and the verdict, where `found` is the least break of the stretches
abbrev pub listing_before : Trace → List Stretch → Option Break → List Row
listing_before t stretches found =
    flat_map (rows_of_stretch t (listed_end t found)) stretches ++ Verdict (outcome_of found) ∷ []

-- the rows of the stretches by some rules, with the verdict
abbrev pub listing_of_stretches : List Rule → Trace → List Stretch → List Row
listing_of_stretches rules t [] = Verdict NeverIdle ∷ []
listing_of_stretches rules t (stretch ∷ stretches) = listing_before t (stretch ∷ stretches)
    (least_of rules t (stretch ∷ stretches))

-- the listing of a recording by some rules
unfoldable pub listing_by : List Rule → Trace → List Row
listing_by rules t = listing_of_stretches rules t (judged_stretches t)

-- the rows of a recording's listing, in the newest version
abbrev pub recorded_rows : Trace → List Row
recorded_rows t = listing_by all_rules t

-- the listing of a recording
abbrev pub listing_of : Trace → Listed
listing_of t = in_newest_version (recorded_rows t)

-- the row without its data
abbrev pub without_data : Row → Row
without_data (Transfer direction line start cycle answer close lanes) =
    Transfer direction line start cycle answer close None
without_data row = row

-- a row of a listing of the newest version, in a listing of this version
abbrev pub row_in : Version → Row → Row
row_in version row = if includes_data version then row else without_data row

-- the rows of a listing of the newest version, in a listing of this version
unfoldable pub rows_in : Version → List Row → List Row
rows_in version rows = if includes_data version then rows else map without_data rows
