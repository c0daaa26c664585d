-- The rows that are open after some marks, as the marks come.
use Rattle.std.specs.Prelude.{ℕ, List, Option, None, Some, find, reverse, ◌||◌}
use Rattle.std.specs.List.{fold}
use Rattle.std.specs.Option.{option_and_then, option_map_or, option_or}
use Rattle.vme_listing.specs.declared.row.Row.{Row}
use Rattle.vme_listing.specs.declared.row.Row.TheVariants as row
use Rattle.vme_monitor.specs.Run.{write_answer}
use Rattle.vme_monitor.specs.declared.mark.Mark.{Mark}
use Rattle.vme_monitor.specs.declared.mark.MarkKind.{MarkKind}
use Rattle.vme_monitor.specs.declared.mark.MarkKind.TheVariants as kind
use Rattle.vme_monitor.specs.declared.mark.TransferAnswer.{TransferAnswer}
use Rattle.vme_summary.specs.MarkedRows.{marked_cycle, marked_direction, marked_line}
use Rattle.vme_listing.specs.Places.{is_reset}
use Rattle.vme_account.specs.RowKinds.{is_open, unless_reset}
use Rattle.vme_account.specs.declared.unended_rows.UnendedRows.{UnendedRows}
use Rattle.vme_account.specs.declared.row_kind.Part.{Part}
use Rattle.vme_account.specs.declared.row_kind.Part.TheVariants as part
use Rattle.vme_account.specs.declared.unended_rows.Waiting.{Waiting}

-- the last row of a listing that is of part `p` and is open, if no reset follows it
abbrev pub open_row : Part → List Row → Option Row
open_row p rows = option_and_then unless_reset (find (λ r. is_open p r || is_reset r) (reverse rows))

-- nothing is open
abbrev pub nothing_open : UnendedRows
nothing_open =
    record { tenure = None; cycle = None; unanswered = None; answered = None; waiting = None; latest = None }

-- the row of a waiting transfer, if it stays without an answer
abbrev pub pending_row : Waiting → Row
pending_row w = row.PendingTransfer w.start w.direction

-- that row, if a transfer is waiting
abbrev pub pending : Option Waiting → Option Row
pending w = option_map_or (λ w. Some (pending_row w)) w None

-- ---- transfers

-- the waiting transfer, closed at instant `i` unless it was closed before
abbrev pub closed : ℕ → Option Waiting → Option Waiting
closed i None = None
closed i (Some w) = Some (record w { close = option_or w.close (Some i) })

-- `other`, unless a waiting transfer stays without an answer, which then is after all others
abbrev pub unless_left : Option Waiting → Option Row → Option Row
unless_left None other = other
unless_left (Some w) other = None

-- the last unanswered transfer after an answer: the waiting one, if no cycle has started
abbrev pub unanswered_by : Option ℕ → Option Waiting → Option Row → Option Row
unanswered_by None w other = option_or (pending w) other
unanswered_by (Some cycle) w other = other

-- the last answered transfer that is open, after the waiting transfer `w` of a cycle is answered at `i`: it is `w`,
-- unless it was closed before
abbrev pub answered_in : ℕ → TransferAnswer → ℕ → Waiting → Option ℕ → Option Row → Option Row
answered_in i a cycle w None other =
    Some (row.Transfer w.direction (marked_line a.line) w.start cycle i None a.lanes)
answered_in i a cycle w (Some close) other = other

-- the last answered transfer that is open, after an answer at `i`, where `latest` is the last cycle and `other` was the
-- last one before
abbrev pub answered_by : ℕ → TransferAnswer → Option ℕ → Option Waiting → Option Row → Option Row
answered_by i a latest None other = other
answered_by i a None (Some w) other = None
answered_by i a (Some cycle) (Some w) other = answered_in i a cycle w w.close other

-- the open rows after an answer at `i`
abbrev pub after_answer : ℕ → TransferAnswer → UnendedRows → UnendedRows
after_answer i a o = record o {
  unanswered = unanswered_by o.latest o.waiting o.unanswered;
  answered = answered_by i a o.latest o.waiting o.answered;
  waiting = None;
}

-- ---- one mark more

-- the open rows after a mark of this kind at `i`
abbrev pub open_after : ℕ → MarkKind → UnendedRows → UnendedRows
open_after i kind.Reset o = nothing_open
open_after i kind.Start o = o
open_after i kind.Open o = record o { tenure = Some (row.OpenTenure i None) }
open_after i (kind.Tenure level slot) o = record o { tenure = Some (row.Tenure i level slot None) }
open_after i kind.TenureEnd o = record o { tenure = None }
open_after i (kind.Cycle c modifier address) o =
    record o { cycle = Some (marked_cycle i modifier address None c); latest = Some i }
open_after i kind.CycleEnd o = record o { cycle = None }
open_after i (kind.Transfer write) o = record o {
  unanswered = option_or (pending o.waiting) o.unanswered;
  answered = unless_left o.waiting o.answered;
  waiting = Some (record { start = i; direction = marked_direction write; close = None });
}
open_after i (kind.Answer line) o = after_answer i (record { line = line; lanes = None }) o
open_after i (kind.WriteAnswer line moved unknown value) o =
    after_answer i (write_answer line moved unknown value) o
open_after i kind.Close o = record o { answered = None; waiting = closed i o.waiting }

-- ---- some marks

-- the open rows after a mark
abbrev pub open_next : UnendedRows → Mark → UnendedRows
open_next o m = open_after m.instant m.kind o

-- the open rows after the marks
abbrev pub opens : List Mark → UnendedRows
opens ms = fold open_next nothing_open ms

-- the last open row of a part
abbrev pub open_in : UnendedRows → Part → Option Row
open_in o part.Tenure = o.tenure
open_in o part.Cycle = o.cycle
open_in o part.Transfer = option_or (pending o.waiting) (option_or o.answered o.unanswered)
