-- How many tenures, cycles, transfers and resets a recording has, by the rows of the listings of its parts.
use Rattle.std.specs.Prelude.{ℕ, Bool, true, false, not, List, filter, flat_map, length}
use Rattle.vme_trace.specs.Rules.{is_single, is_block_class}
use Rattle.vme_trace.specs.Trace.{Trace}
use Rattle.vme_listing.specs.Places.{is_reset, is_verdict, is_write}
use Rattle.vme_listing.specs.Recorded.{recorded_rows}
use Rattle.vme_listing.specs.declared.row.AnswerLine.{AnswerLine}
use Rattle.vme_listing.specs.declared.row.AnswerLine.TheVariants.{Dtack, Berr}
use Rattle.vme_listing.specs.declared.row.Row.{Row}
use Rattle.vme_listing.specs.declared.row.Row.TheVariants.{Tenure, AddressedCycle, FreeCycle, InterruptCycle, Transfer}
use Rattle.vme_listing.specs.declared.row.Row.TheVariants.{PendingTransfer}
use Rattle.vme_audit.specs.Parts.{Part, parts}
use Rattle.vme_audit.specs.declared.counts.Counts.{Counts}

-- the rows of a part's listing, but for its verdict
abbrev pub rows_of : Part → List Row
rows_of p = filter (λ row. not (is_verdict row)) (recorded_rows p.trace)

-- a tenure that a fall of BBSY began
abbrev pub is_tenure : Row → Bool
is_tenure (Tenure start level slot end) = true
is_tenure row = false

-- the row of an addressed cycle that is no block transfer
abbrev pub is_single_cycle : Row → Bool
is_single_cycle (AddressedCycle start class modifier address end) = is_single class
is_single_cycle row = false

-- the row of a block transfer
abbrev pub is_block_cycle : Row → Bool
is_block_cycle (AddressedCycle start class modifier address end) = is_block_class class
is_block_cycle row = false

-- the row of a cycle of class F: its address modifier code is user-defined or reserved, or has an unknown bit
abbrev pub is_free_cycle : Row → Bool
is_free_cycle (FreeCycle start modifier end) = true
is_free_cycle row = false

-- the row of an interrupt acknowledge cycle
abbrev pub is_acknowledge_cycle : Row → Bool
is_acknowledge_cycle (InterruptCycle start level end) = true
is_acknowledge_cycle row = false

-- the row of a read, answered or not
abbrev pub is_read_row : Row → Bool
is_read_row (Transfer direction line start cycle answer close lanes) = not (is_write direction)
is_read_row (PendingTransfer start direction) = not (is_write direction)
is_read_row row = false

-- the row of a write, answered or not
abbrev pub is_write_row : Row → Bool
is_write_row (Transfer direction line start cycle answer close lanes) = is_write direction
is_write_row (PendingTransfer start direction) = is_write direction
is_write_row row = false

-- the answer is by DTACK
abbrev pub is_dtack : AnswerLine → Bool
is_dtack Dtack = true
is_dtack Berr = false

-- the row of a transfer that DTACK answered
abbrev pub is_answered_by_dtack : Row → Bool
is_answered_by_dtack (Transfer direction line start cycle answer close lanes) = is_dtack line
is_answered_by_dtack row = false

-- the row of a transfer that BERR answered
abbrev pub is_answered_by_berr : Row → Bool
is_answered_by_berr (Transfer direction line start cycle answer close lanes) = not (is_dtack line)
is_answered_by_berr row = false

-- the row of a transfer without an answer
abbrev pub is_pending : Row → Bool
is_pending (PendingTransfer start direction) = true
is_pending row = false

-- how many of the rows are of a kind
abbrev pub count_of : (Row → Bool) → List Row → ℕ
count_of is rows = length (filter is rows)

-- nothing is counted
abbrev pub nothing_counted : Counts
nothing_counted =
    record {
      resets = 0;
      tenures = 0;
      single = 0;
      block = 0;
      free = 0;
      acknowledge = 0;
      reads = 0;
      writes = 0;
      by_dtack = 0;
      by_berr = 0;
      pending = 0;
    }

-- the counts of a list of rows
unfoldable pub counts_of_rows : List Row → Counts
counts_of_rows rows =
    record {
      resets = count_of is_reset rows;
      tenures = count_of is_tenure rows;
      single = count_of is_single_cycle rows;
      block = count_of is_block_cycle rows;
      free = count_of is_free_cycle rows;
      acknowledge = count_of is_acknowledge_cycle rows;
      reads = count_of is_read_row rows;
      writes = count_of is_write_row rows;
      by_dtack = count_of is_answered_by_dtack rows;
      by_berr = count_of is_answered_by_berr rows;
      pending = count_of is_pending rows;
    }

-- the counts of a recording. What a break cuts off has its row in the part in which it began, and none in a later part
abbrev pub counts : Trace → Counts
counts t = counts_of_rows (flat_map rows_of (parts t))
