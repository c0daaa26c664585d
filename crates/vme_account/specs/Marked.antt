-- What is kept of the marks of a recording.
use Rattle.std.specs.Prelude.{List}
use Rattle.std.specs.List.{fold}
use Rattle.vme_monitor.specs.declared.mark.Mark.{Mark}
use Rattle.vme_account.specs.KnownRows.{known_at, pending_rows}
use Rattle.vme_account.specs.UnendedRows.{nothing_open, open_next}
use Rattle.vme_account.specs.RowCounts.{no_rows, with_row}
use Rattle.vme_account.specs.declared.marked.Marked.{Marked}
use Rattle.vme_account.specs.declared.row_counts.RowCounts.{RowCounts}

-- the state before any mark
abbrev pub nothing_marked : Marked
nothing_marked = record { unended = nothing_open; counts = no_rows }

-- the state after one more mark
abbrev pub marked_next : Marked → Mark → Marked
marked_next m k =
    record {
      unended = open_next m.unended k;
      counts = fold with_row m.counts (known_at k.instant k.kind m.unended);
    }

-- the state after some marks
abbrev pub marked : List Mark → Marked
marked ms = fold marked_next nothing_marked ms

-- the counts if no mark follows
abbrev pub counts_in : Marked → RowCounts
counts_in m = fold with_row m.counts (pending_rows m.unended.waiting)
