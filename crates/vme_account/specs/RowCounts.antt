-- The numbers of rows of each kind, row by row.
use Rattle.std.specs.Prelude.{◌+◌, ◌*◌, ℕ, Bool, true, ◌&&◌, List, nat_lt, if◌then◌else◌, replicate, slice_index_or}
use Rattle.std.specs.Prelude.{slice_set}
use Rattle.vme_listing.specs.declared.row.AnswerLine.TheVariants.{Dtack, Berr}
use Rattle.vme_listing.specs.declared.row.Direction.TheVariants.{Read, Write}
use Rattle.vme_listing.specs.declared.row.Row.{Row}
use Rattle.vme_listing.specs.declared.row.Row.TheVariants as row
use Rattle.vme_trace.specs.declared.class.Class.TheVariants.{S, K}
use Rattle.vme_listing.specs.Places.{is_reset}
use Rattle.vme_audit.specs.Counted.{is_acknowledge_cycle, is_free_cycle, is_pending}
use Rattle.vme_account.specs.RowKinds.{is_answered_by, is_cycle_of}
use Rattle.vme_account.specs.RowKinds.{is_open_tenure_row, is_transfer_in}
use Rattle.vme_account.specs.declared.row_counts.RowCounts.{RowCounts}
use Rattle.vme_account.specs.declared.row_kind.RowKind.{RowKind}
use Rattle.vme_account.specs.declared.row_kind.RowKind.TheVariants as kind

-- 1 if `b` is true, else 0
abbrev pub one_if : Bool → ℕ
one_if b = if b then 1 else 0

-- ---- tenures by the level and the slot

-- the level is at most 3, and the slot at most 21
abbrev pub is_place : ℕ → ℕ → Bool
is_place level slot = nat_lt level 4 && nat_lt slot 22

-- the index of the count of a level and a slot
abbrev pub place_of : ℕ → ℕ → ℕ
place_of level slot = level * 22 + slot

-- the number of tenures of a level in a slot
abbrev pub tenures_of : List ℕ → ℕ → ℕ → ℕ
tenures_of tenures level slot =
    if is_place level slot then slice_index_or tenures (place_of level slot) 0 else 0

-- the counts with one more at `place`
abbrev pub with_one : List ℕ → ℕ → List ℕ
with_one tenures place = slice_set tenures place (slice_index_or tenures place 0 + 1)

-- the counts after one more row, which is counted if it is a tenure with a place
abbrev pub with_tenure : List ℕ → Row → List ℕ
with_tenure tenures (row.Tenure start level slot end) =
    if is_place level slot then with_one tenures (place_of level slot) else tenures
with_tenure tenures r = tenures

-- ---- all kinds

-- the counts before any row
abbrev pub no_rows : RowCounts
no_rows =
    record {
      open_tenures = 0;
      single_cycles = 0;
      block_cycles = 0;
      free_cycles = 0;
      interrupt_cycles = 0;
      answered_reads = 0;
      answered_writes = 0;
      answered_by_dtack = 0;
      answered_by_berr = 0;
      pending_transfers = 0;
      resets = 0;
      tenures = replicate 88 0;
    }

-- the counts after one more row
abbrev pub with_row : RowCounts → Row → RowCounts
with_row c r =
    record {
      open_tenures = c.open_tenures + one_if (is_open_tenure_row r);
      single_cycles = c.single_cycles + one_if (is_cycle_of S r);
      block_cycles = c.block_cycles + one_if (is_cycle_of K r);
      free_cycles = c.free_cycles + one_if (is_free_cycle r);
      interrupt_cycles = c.interrupt_cycles + one_if (is_acknowledge_cycle r);
      answered_reads = c.answered_reads + one_if (is_transfer_in Read r);
      answered_writes = c.answered_writes + one_if (is_transfer_in Write r);
      answered_by_dtack = c.answered_by_dtack + one_if (is_answered_by Dtack r);
      answered_by_berr = c.answered_by_berr + one_if (is_answered_by Berr r);
      pending_transfers = c.pending_transfers + one_if (is_pending r);
      resets = c.resets + one_if (is_reset r);
      tenures = with_tenure c.tenures r;
    }

-- rows of this kind are counted
abbrev pub is_counted : RowKind → Bool
is_counted (kind.Tenures level slot) = is_place level slot
is_counted k = true

-- the number of rows of a kind
abbrev pub count_in : RowCounts → RowKind → ℕ
count_in c kind.OpenTenures = c.open_tenures
count_in c (kind.Tenures level slot) = tenures_of c.tenures level slot
count_in c kind.SingleCycles = c.single_cycles
count_in c kind.BlockCycles = c.block_cycles
count_in c kind.FreeCycles = c.free_cycles
count_in c kind.InterruptCycles = c.interrupt_cycles
count_in c kind.AnsweredReads = c.answered_reads
count_in c kind.AnsweredWrites = c.answered_writes
count_in c kind.AnsweredByDtack = c.answered_by_dtack
count_in c kind.AnsweredByBerr = c.answered_by_berr
count_in c kind.PendingTransfers = c.pending_transfers
count_in c kind.Resets = c.resets
