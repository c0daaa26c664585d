-- Which listings are well placed: each row is one that its form allows and may follow the row before it, and the rows
-- before the last ascend by their first instant and then by their kind.
use Rattle.std.specs.Prelude.{ℕ, Bool, true, false, not, ◌+◌, ◌^◌, ◌%◌, ◌==◌, ◌&&◌, ◌||◌, List, [], ◌∷◌}
use Rattle.std.specs.Prelude.{Option, None, Some, nat_lt, nat_le, if◌then◌else◌}
use Rattle.std.specs.List.{list_all}
use Rattle.vme_trace.specs.Cycle.{highest_address, is_block}
use Rattle.vme_trace.specs.LineNumbers.{line_count}
use Rattle.vme_trace.specs.Rules.{is_unreadable}
use Rattle.vme_trace.specs.declared.class.Class.{Class}
use Rattle.vme_trace.specs.declared.class.Class.TheVariants as class
use Rattle.vme_trace.specs.declared.data.Lanes.{Lanes}
use Rattle.vme_listing.specs.LaneDigits.{is_moved_in, digit_in, flag_in}
use Rattle.vme_listing.specs.Listed.{Listed, includes_data, includes_resets}
use Rattle.vme_listing.specs.declared.row.Direction.{Direction}
use Rattle.vme_listing.specs.declared.row.Direction.TheVariants.{Read, Write}
use Rattle.vme_listing.specs.declared.row.Version.{Version}
use Rattle.vme_listing.specs.declared.row.ListedVerdict.{ListedVerdict}
use Rattle.vme_listing.specs.declared.row.ListedVerdict.TheVariants.{Conforming, NeverIdle, Broken, Unreadable}
use Rattle.vme_listing.specs.declared.row.Row.{Row}
use Rattle.vme_listing.specs.declared.row.Row.TheVariants.{Start, Reset, OpenTenure, Tenure, AddressedCycle}
use Rattle.vme_listing.specs.declared.row.Row.TheVariants.{FreeCycle, InterruptCycle, Transfer, PendingTransfer}
use Rattle.vme_listing.specs.declared.row.Row.TheVariants.{Verdict}

-- a number is at most 4,294,967,295
abbrev pub is_number : ℕ → Bool
is_number n = nat_lt n (2 ^ 32)

-- the instant of an end or a close, if there is one, is such a number
abbrev pub is_end_instant : Option ℕ → Bool
is_end_instant None = true
is_end_instant (Some n) = is_number n

-- a cycle with an address and this modifier code has the class: K where the code is of block transfers, else S
abbrev pub has_class : ℕ → Class → Bool
has_class modifier class.S = not (is_block modifier)
has_class modifier class.K = is_block modifier
has_class modifier class.I = false
has_class modifier class.F = false

-- address lines are meaningful with the modifier code, and the address has only bits of these: bit 0 is 0
abbrev pub is_address : ℕ → ℕ → Bool
is_address modifier address = not (highest_address modifier == 0)
    && nat_lt address (2 ^ (highest_address modifier + 1)) && (address % 2 == 0)

-- a verdict that a listing may have: its numbers are in their ranges, and exactly the breaks of rules that say so are
-- unreadable
abbrev pub is_allowed_outcome : ListedVerdict → Bool
is_allowed_outcome Conforming = true
is_allowed_outcome NeverIdle = true
is_allowed_outcome (Broken rule instant line) = not (is_unreadable rule) && is_number instant && nat_lt line line_count
is_allowed_outcome (Unreadable rule instant line) = is_unreadable rule && is_number instant && nat_lt line line_count

-- a digit is unknown only where it is moved, and is other than 0 only where it is moved and known
abbrev pub is_allowed_digit : Bool → ℕ → ℕ → Bool
is_allowed_digit moved digit flag = (moved || (flag == 0)) && ((moved && (flag == 0)) || (digit == 0))

-- the digit at `place` is one that the form of data allows
abbrev pub is_allowed_digit_in : Lanes → ℕ → Bool
is_allowed_digit_in a place = is_allowed_digit (is_moved_in a place) (digit_in a place) (flag_in a place)

-- the four digits from `place` on are ones that the form of data allows
abbrev pub are_digits_from : Lanes → ℕ → Bool
are_digits_from a place =
    is_allowed_digit_in a place && is_allowed_digit_in a (place + 1) && is_allowed_digit_in a (place + 2)
    && is_allowed_digit_in a (place + 3)

-- the value is below 2^32, `unknown` is below 256, and all eight digits are ones that the form of data allows
unfoldable pub is_allowed_data : Lanes → Bool
is_allowed_data a = nat_lt a.value (2 ^ 32) && nat_lt a.unknown 256 && are_digits_from a 0 && are_digits_from a 4

-- the direction is that of a write
abbrev pub is_write : Direction → Bool
is_write Read = false
is_write Write = true

-- the row of an answered write has data where the version has them; no other row has data
abbrev pub has_data : Version → Direction → Option Lanes → Bool
has_data version direction None = not (includes_data version && is_write direction)
has_data version direction (Some a) = includes_data version && is_write direction && is_allowed_data a

-- the row is one that its form allows
unfoldable pub is_row : Version → Row → Bool
is_row version (Start instant) = is_number instant
is_row version (Reset instant) = includes_resets version && is_number instant
is_row version (OpenTenure start end) = is_number start && is_end_instant end
is_row version (Tenure start level slot end) =
    is_number start && nat_lt level 4 && nat_le 1 slot && nat_le slot 21 && is_end_instant end
is_row version (AddressedCycle start class modifier address end) =
    is_number start && has_class modifier class && is_address modifier address && is_end_instant end
is_row version (FreeCycle start modifier end) =
    is_number start && nat_lt modifier 64 && (highest_address modifier == 0) && is_end_instant end
is_row version (InterruptCycle start level end) = is_number start && nat_lt level 8 && is_end_instant end
is_row version (Transfer direction line start cycle answer close lanes) =
    is_number start && is_number cycle && is_number answer && is_end_instant close && has_data version direction lanes
is_row version (PendingTransfer start direction) = is_number start
is_row version (Verdict outcome) = is_allowed_outcome outcome

-- the row is a start
abbrev pub is_start : Row → Bool
is_start (Start instant) = true
is_start row = false

-- the row is a reset
abbrev pub is_reset : Row → Bool
is_reset (Reset instant) = true
is_reset row = false

-- the row is the verdict
abbrev pub is_verdict : Row → Bool
is_verdict (Verdict outcome) = true
is_verdict row = false

-- the verdict is that the bus is never idle
abbrev pub never_idles : ListedVerdict → Bool
never_idles NeverIdle = true
never_idles outcome = false

-- the row is that verdict
abbrev pub is_never_idle : Row → Bool
is_never_idle (Verdict outcome) = never_idles outcome
is_never_idle row = false

-- the place of a row: its first instant, and the number of its kind in the order of the kinds. The verdict has no
-- place, and a start has one only where the version has resets
abbrev pub place_of : Version → Row → Option (ℕ × ℕ)
place_of version (Start instant) = if includes_resets version then Some (instant, 1) else None
place_of version (Reset instant) = Some (instant, 0)
place_of version (OpenTenure start end) = Some (start, 2)
place_of version (Tenure start level slot end) = Some (start, 2)
place_of version (AddressedCycle start class modifier address end) = Some (start, 3)
place_of version (FreeCycle start modifier end) = Some (start, 3)
place_of version (InterruptCycle start level end) = Some (start, 3)
place_of version (Transfer direction line start cycle answer close lanes) = Some (start, 4)
place_of version (PendingTransfer start direction) = Some (start, 4)
place_of version (Verdict outcome) = None

-- by its form the row may follow the row before it, or be the first. A listing is the one row that the bus is never
-- idle; or it is a start, then tenures, cycles and transfers, and then another verdict. A reset may come before that
-- verdict, or before another start and what may follow a start
abbrev pub may_follow : Option Row → Row → Bool
may_follow None row = is_start row || is_never_idle row
may_follow (Some before) row =
    not (is_verdict before) && not (is_never_idle row)
    && (if is_reset before then is_start row || is_verdict row else not (is_start row))

-- the second place is later than the first, or one of them isn't there
abbrev pub is_later_place : Option (ℕ × ℕ) → Option (ℕ × ℕ) → Bool
is_later_place None after = true
is_later_place (Some before) None = true
is_later_place (Some before) (Some after) = nat_lt before.0 after.0
    || ((before.0 == after.0) && nat_lt before.1 after.1)

-- where both rows have a place, the second has a later instant, or the same instant and a later kind
abbrev pub ascends : Version → Option Row → Row → Bool
ascends version None row = true
ascends version (Some before) row = is_later_place (place_of version before) (place_of version row)

-- the row may follow the row before it, by its form and by its place
unfoldable pub follows : Version → Option Row → Row → Bool
follows version before row = is_row version row && may_follow before row && ascends version before row

-- the row, if there is one, is the verdict
abbrev pub ends_listing : Option Row → Bool
ends_listing None = false
ends_listing (Some row) = is_verdict row

-- each row may follow the one before it, the first one the row `before`, and the last is the verdict
unfoldable pub is_rest : Version → Option Row → List Row → Bool
is_rest version before [] = ends_listing before
is_rest version before (row ∷ rows) = follows version before row && is_rest version (Some row) rows

-- a listing of the version can have these rows: the version has resets, or none of the rows is a reset
abbrev pub can_include : Version → List Row → Bool
can_include version rows = includes_resets version || list_all (λ row. not (is_reset row)) rows

-- the rows of the listing are placed as they may be
abbrev pub is_well_placed : Listed → Bool
is_well_placed l = is_rest l.version None l.rows
