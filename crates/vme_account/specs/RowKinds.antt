-- Which rows of a listing are counted, and which are open where it ends.
use Rattle.std.specs.Prelude.{ℕ, Bool, true, false, ◌&&◌, ◌==◌, Option, None, Some, is_none, if◌then◌else◌}
use Rattle.vme_listing.specs.Places.{is_reset}
use Rattle.vme_listing.specs.declared.row.AnswerLine.{AnswerLine}
use Rattle.vme_listing.specs.declared.row.AnswerLine.TheVariants.{Dtack, Berr}
use Rattle.vme_listing.specs.declared.row.Direction.{Direction}
use Rattle.vme_listing.specs.declared.row.Direction.TheVariants.{Read, Write}
use Rattle.vme_listing.specs.declared.row.Row.{Row}
use Rattle.vme_listing.specs.declared.row.Row.TheVariants as row
use Rattle.vme_trace.specs.declared.class.Class.{Class}
use Rattle.vme_trace.specs.declared.class.Class.TheVariants.{S, K, I, F}
use Rattle.vme_audit.specs.Counted.{is_acknowledge_cycle, is_free_cycle, is_pending}
use Rattle.vme_account.specs.declared.row_kind.RowKind.{RowKind}
use Rattle.vme_account.specs.declared.row_kind.RowKind.TheVariants as kind
use Rattle.vme_account.specs.declared.row_kind.Part.{Part}
use Rattle.vme_account.specs.declared.row_kind.Part.TheVariants as part

-- the row is a tenure that was open at the start
abbrev pub is_open_tenure_row : Row → Bool
is_open_tenure_row (row.OpenTenure start end) = true
is_open_tenure_row r = false

-- the row is a tenure by the grant of this level in this slot
abbrev pub is_tenure_of : ℕ → ℕ → Row → Bool
is_tenure_of level slot (row.Tenure start granted taken end) = granted == level && taken == slot
is_tenure_of level slot r = false

-- the classes are equal
abbrev pub same_class : Class → Class → Bool
same_class S S = true
same_class K K = true
same_class I I = true
same_class F F = true
same_class a b = false

-- the directions are equal
abbrev pub same_direction : Direction → Direction → Bool
same_direction Read Read = true
same_direction Write Write = true
same_direction a b = false

-- the answer lines are equal
abbrev pub same_answer : AnswerLine → AnswerLine → Bool
same_answer Dtack Dtack = true
same_answer Berr Berr = true
same_answer a b = false

-- the row is a cycle with an address, of this class
abbrev pub is_cycle_of : Class → Row → Bool
is_cycle_of class (row.AddressedCycle start own modifier address end) = same_class own class
is_cycle_of class r = false

-- the row is an answered transfer in this direction
abbrev pub is_transfer_in : Direction → Row → Bool
is_transfer_in direction (row.Transfer own line start cycle answer close lanes) = same_direction own direction
is_transfer_in direction r = false

-- the row is a transfer that this line answered
abbrev pub is_answered_by : AnswerLine → Row → Bool
is_answered_by line (row.Transfer direction own start cycle answer close lanes) = same_answer own line
is_answered_by line r = false

-- a row is of a kind
abbrev pub is_of : RowKind → Row → Bool
is_of kind.OpenTenures r = is_open_tenure_row r
is_of (kind.Tenures level slot) r = is_tenure_of level slot r
is_of kind.SingleCycles r = is_cycle_of S r
is_of kind.BlockCycles r = is_cycle_of K r
is_of kind.FreeCycles r = is_free_cycle r
is_of kind.InterruptCycles r = is_acknowledge_cycle r
is_of kind.AnsweredReads r = is_transfer_in Read r
is_of kind.AnsweredWrites r = is_transfer_in Write r
is_of kind.AnsweredByDtack r = is_answered_by Dtack r
is_of kind.AnsweredByBerr r = is_answered_by Berr r
is_of kind.PendingTransfers r = is_pending r
is_of kind.Resets r = is_reset r

-- ---- what is open

-- the row is a tenure without an end
abbrev pub is_tenure_open : Row → Bool
is_tenure_open (row.OpenTenure start end) = is_none end
is_tenure_open (row.Tenure start level slot end) = is_none end
is_tenure_open r = false

-- the row is a cycle without an end
abbrev pub is_cycle_open : Row → Bool
is_cycle_open (row.AddressedCycle start class modifier address end) = is_none end
is_cycle_open (row.FreeCycle start modifier end) = is_none end
is_cycle_open (row.InterruptCycle start level end) = is_none end
is_cycle_open r = false

-- the row is a transfer without an answer or without a close
abbrev pub is_transfer_open : Row → Bool
is_transfer_open (row.Transfer direction line start cycle answer close lanes) = is_none close
is_transfer_open (row.PendingTransfer start direction) = true
is_transfer_open r = false

-- a row is of this part, and is open where the listing ends
abbrev pub is_open : Part → Row → Bool
is_open part.Tenure r = is_tenure_open r
is_open part.Cycle r = is_cycle_open r
is_open part.Transfer r = is_transfer_open r

-- the row, unless it is a reset, after which nothing from before is open
abbrev pub unless_reset : Row → Option Row
unless_reset r = if is_reset r then None else Some r
