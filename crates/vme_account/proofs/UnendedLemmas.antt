-- The open rows that are kept mark by mark are the last open rows of the listing.
use Rattle.std.proofs.Common.{◌≡◌, ℕ, Bool, true, false, List, [], ◌∷◌, ◌++◌, Option, None, Some, reverse}
use Rattle.std.proofs.Common.{refl, sym, ap, ◌∙◌}
use Rattle.std.specs.Prelude.{◌||◌, find, is_some, if◌then◌else◌}
use Rattle.std.specs.List.{fold}
use Rattle.std.specs.Option.{option_and_then, option_map_or, option_or}
use Rattle.std.proofs.lemmas.List.{reverse-append}
use Rattle.std.proofs.lemmas.List.Folds.{find-append}
use Rattle.vme_listing.specs.declared.row.AnswerLine.{AnswerLine}
use Rattle.vme_listing.specs.declared.row.Direction.{Direction}
use Rattle.vme_listing.specs.declared.row.Row.{Row}
use Rattle.vme_listing.specs.declared.row.Row.TheVariants as row
use Rattle.vme_trace.specs.declared.class.Class.{Class}
use Rattle.vme_trace.specs.declared.class.Class.TheVariants as class
use Rattle.vme_trace.specs.declared.data.Lanes.{Lanes}
use Rattle.vme_monitor.specs.Run.{write_answer}
use Rattle.vme_monitor.specs.declared.mark.Mark.{Mark}
use Rattle.vme_monitor.specs.declared.mark.MarkKind.{MarkKind}
use Rattle.vme_monitor.specs.declared.mark.MarkKind.TheVariants as kind
use Rattle.vme_monitor.specs.declared.mark.TransferAnswer.{TransferAnswer}
use Rattle.vme_summary.specs.MarkedRows.{answer_of, cycle_after, first_instant, is_close, is_cycle_end}
use Rattle.vme_summary.specs.MarkedRows.{is_reset as resets, is_tenure_end, is_transfer, marked_answer, marked_cycle}
use Rattle.vme_summary.specs.MarkedRows.{marked_direction, marked_line, marked_transfer, rows_of}
use Rattle.vme_account.specs.UnendedRows.{answered_by, answered_in, closed, nothing_open, open_after}
use Rattle.vme_account.specs.UnendedRows.{open_in, open_next, open_row, opens, pending, pending_row, unanswered_by}
use Rattle.vme_account.specs.UnendedRows.{unless_left}
use Rattle.vme_listing.specs.Places.{is_reset}
use Rattle.vme_account.specs.RowKinds.{is_open, unless_reset}
use Rattle.vme_account.specs.declared.unended_rows.UnendedRows.{UnendedRows}
use Rattle.vme_account.specs.declared.unended_rows.Waiting.{Waiting}
use Rattle.vme_account.specs.declared.row_kind.Part.{Part}
use Rattle.vme_account.specs.declared.row_kind.Part.TheVariants as part

-- the mark of the kind `k` at instant `i`
abbrev mark : ℕ → MarkKind → Mark
mark i k = record { instant = i; kind = k }

-- ---- the last open row, from the front

-- the last open row of part `p` after one more row `r`
abbrev after : Part → Option Row → Row → Option Row
after p found r = if is_open p r then Some r else if is_reset r then None else found

-- the last open row of part `p` after the rows, where `found` is the one before them
abbrev last_in : Part → Option Row → List Row → Option Row
last_in p found rows = fold (after p) found rows

-- the search from the end stops at the row: it is of part `p` and open, or a reset
abbrev stops : Part → Row → Bool
stops p r = is_open p r || is_reset r

-- the row that the search finds, unless it is a reset, or `found` if it finds none
abbrev or_found : Option Row → Option Row → Option Row
or_found None found = found
or_found (Some r) found = unless_reset r

-- a reset row isn't open
is_open-reset : (p : Part) (i : ℕ) → is_open p (row.Reset i) ≡ false
is_open-reset part.Tenure i = refl
is_open-reset part.Cycle i = refl
is_open-reset part.Transfer i = refl

-- an open row is no reset
unless_reset-open : (p : Part) (r : Row) → is_open p r ≡ true → unless_reset r ≡ Some r
unless_reset-open p (row.Reset instant) e = absurd (cc (sym (is_open-reset p instant) ∙ e))
unless_reset-open p (row.OpenTenure start end) e = refl
unless_reset-open p (row.Tenure start level slot end) e = refl
unless_reset-open p (row.Start instant) e = refl
unless_reset-open p (row.AddressedCycle start class modifier address end) e = refl
unless_reset-open p (row.FreeCycle start modifier end) e = refl
unless_reset-open p (row.InterruptCycle start level end) e = refl
unless_reset-open p (row.Transfer direction line start own answer end lanes) e = refl
unless_reset-open p (row.PendingTransfer start direction) e = refl
unless_reset-open p (row.Verdict outcome) e = refl

-- after a reset nothing from before is open
unless_reset-reset : (r : Row) → is_reset r ≡ true → unless_reset r ≡ None
unless_reset-reset r e = rw e refl

module _ (p : Part) where
  -- the search from the end finds the last open row
  last_in-from_end : (rows : List Row) (found : Option Row)
      → or_found (find (stops p) (reverse rows)) found ≡ last_in p found rows
  last_in-from_end [] found = refl
  last_in-from_end (r ∷ rows) found =
      let turned : reverse (r ∷ rows) ≡ reverse rows ++ r ∷ [] = reverse-append (r ∷ []) rows in
      ap (λ (xs : List Row). or_found (find (stops p) xs) found) turned
      ∙ ap (λ (o : Option Row). or_found o found) (find-append (stops p) (reverse rows) (r ∷ []))
      ∙ by_found (find (stops p) (reverse rows)) ∙ last_in-from_end rows (after p found r)
    where
      by_tests : (opened reset : Bool) → is_open p r ≡ opened → is_reset r ≡ reset
          → or_found (if opened || reset then Some r else None) found
          ≡ (if opened then Some r else if reset then None else found)
      by_tests true reset e o = unless_reset-open p r e
      by_tests false true e o = unless_reset-reset r o
      by_tests false false e o = refl

      by_found : (o : Option Row) → or_found (option_or o (find (stops p) (r ∷ []))) found
          ≡ or_found o (after p found r)
      by_found None = by_tests (is_open p r) (is_reset r) refl refl
      by_found (Some s) = refl

  -- the open row of a listing is its last open row
  open_row-last_in : (rows : List Row) → open_row p rows ≡ last_in p None rows
  open_row-last_in rows = same (find (stops p) (reverse rows)) ∙ last_in-from_end rows None
    where
      same : (o : Option Row) → option_and_then unless_reset o ≡ or_found o None
      same None = refl
      same (Some r) = refl

-- ---- what may end

-- the open row, if no mark that ends it follows
abbrev unless_ended : (MarkKind → Bool) → List Mark → Option Row → Option Row
unless_ended is ms found = if is_some (first_instant is ms) then None else found

-- no row stays no row
unless_ended-none : (is : MarkKind → Bool) (ms : List Mark) → unless_ended is ms None ≡ None
unless_ended-none is ms = by_test (is_some (first_instant is ms)) None refl
  where
    by_test : (b : Bool) (found : Option Row) → found ≡ None → (if b then None else found) ≡ None
    by_test true found none = refl
    by_test false found none = none

-- ---- rows of other parts

-- the row of a cycle changes no open tenure
after-cycle_row_tenure : (i modifier address : ℕ) (e : Option ℕ) (found : Option Row) (c : Class)
    → after part.Tenure found (marked_cycle i modifier address e c) ≡ found
after-cycle_row_tenure i modifier address e found class.S = refl
after-cycle_row_tenure i modifier address e found class.K = refl
after-cycle_row_tenure i modifier address e found class.F = refl
after-cycle_row_tenure i modifier address e found class.I = refl

-- the row of a cycle changes no open transfer
after-cycle_row_transfer : (i modifier address : ℕ) (e : Option ℕ) (found : Option Row) (c : Class)
    → after part.Transfer found (marked_cycle i modifier address e c) ≡ found
after-cycle_row_transfer i modifier address e found class.S = refl
after-cycle_row_transfer i modifier address e found class.K = refl
after-cycle_row_transfer i modifier address e found class.F = refl
after-cycle_row_transfer i modifier address e found class.I = refl

-- if the row of a transfer, answered or not, changes no open row of part `p`
module _ (p : Part) (found : Option Row)
    (answered : (d : Direction) (line : AnswerLine) (i cycle r : ℕ) (e : Option ℕ) (lanes : Option Lanes)
    → after p found (row.Transfer d line i cycle r e lanes) ≡ found)
    (unanswered : (i : ℕ) (d : Direction) → after p found (row.PendingTransfer i d) ≡ found) where
  -- the row that marks make of a transfer changes no open row of part `p`
  after-transfer_row : (i : ℕ) (d : Direction) (e latest : Option ℕ) (ms : List Mark)
      → after p found (marked_transfer i d e latest ms) ≡ found
  after-transfer_row i d e latest [] = unanswered i d
  after-transfer_row i d e latest (m ∷ ms) =
      by_answer (after-transfer_row i d e (cycle_after latest m) ms) (answer_of m.kind)
    where
      by_test : after p found (marked_transfer i d e (cycle_after latest m) ms) ≡ found → (ends : Bool)
          → after p found (if ends then row.PendingTransfer i d else marked_transfer i d e (cycle_after latest m) ms)
          ≡ found
      by_test rest true = unanswered i d
      by_test rest false = rest

      by_cycle : (a : TransferAnswer) (latest : Option ℕ)
          → after p found (marked_answer i d e m.instant latest a) ≡ found
      by_cycle a None = unanswered i d
      by_cycle a (Some cycle) = answered d (marked_line a.line) i cycle m.instant e a.lanes

      by_answer : after p found (marked_transfer i d e (cycle_after latest m) ms) ≡ found → (a : Option TransferAnswer)
          → after p found (option_map_or (marked_answer i d e m.instant latest) a (if is_transfer m.kind
          || resets m.kind
          then row.PendingTransfer i d else marked_transfer i d e (cycle_after latest m) ms)) ≡ found
      by_answer rest None = by_test rest (is_transfer m.kind || resets m.kind)
      by_answer rest (Some a) = by_cycle a latest

-- ---- tenures

-- the open tenure of the listing, by the open rows `o` before the marks `ms`
abbrev tenure_value : UnendedRows → List Mark → Option Row
tenure_value o ms = last_in part.Tenure (unless_ended is_tenure_end ms o.tenure) (rows_of o.latest ms)

-- the open tenure is the same by the open rows after one more mark
tenure_value-next : (o : UnendedRows) (i : ℕ) (k : MarkKind) (ms : List Mark) → tenure_value o (mark i k ∷ ms)
    ≡ tenure_value (open_after i k o) ms
tenure_value-next o i kind.Reset ms = ap (λ (f : Option Row). last_in part.Tenure f (rows_of None ms))
    (sym (unless_ended-none is_tenure_end ms))
tenure_value-next o i kind.Start ms = refl
tenure_value-next o i kind.Open ms = ap (λ (f : Option Row). last_in part.Tenure f (rows_of o.latest ms))
    (by_end (first_instant is_tenure_end ms))
  where
    by_end : (e : Option ℕ) → after part.Tenure (if is_some e then None else o.tenure) (row.OpenTenure i e)
        ≡ (if is_some e then None else Some (row.OpenTenure i None))
    by_end None = refl
    by_end (Some e) = refl
tenure_value-next o i (kind.Tenure level slot) ms = ap (λ (f : Option Row). last_in part.Tenure f (rows_of o.latest ms))
    (by_end (first_instant is_tenure_end ms))
  where
    by_end : (e : Option ℕ) → after part.Tenure (if is_some e then None else o.tenure) (row.Tenure i level slot e)
        ≡ (if is_some e then None else Some (row.Tenure i level slot None))
    by_end None = refl
    by_end (Some e) = refl
tenure_value-next o i kind.TenureEnd ms = ap (λ (f : Option Row). last_in part.Tenure f (rows_of o.latest ms))
    (sym (unless_ended-none is_tenure_end ms))
tenure_value-next o i (kind.Cycle c modifier address) ms =
    ap (λ (f : Option Row). last_in part.Tenure f (rows_of (Some i) ms))
    (after-cycle_row_tenure i modifier address (first_instant is_cycle_end ms) (unless_ended is_tenure_end ms o.tenure)
    c)
tenure_value-next o i kind.CycleEnd ms = refl
tenure_value-next o i (kind.Transfer write) ms = ap (λ (f : Option Row). last_in part.Tenure f (rows_of o.latest ms))
    (after-transfer_row part.Tenure (unless_ended is_tenure_end ms o.tenure) (λ d line i cycle r e lanes. refl)
    (λ i d. refl) i
    (marked_direction write) (first_instant is_close ms) o.latest ms)
tenure_value-next o i (kind.Answer line) ms = refl
tenure_value-next o i (kind.WriteAnswer line moved unknown written) ms = refl
tenure_value-next o i kind.Close ms = refl

-- the open tenure of the listing is the one that is kept mark by mark
tenure_value-open_next : (o : UnendedRows) (ms : List Mark) → tenure_value o ms ≡ (fold open_next o ms).tenure
tenure_value-open_next o [] = refl
tenure_value-open_next o (m ∷ ms) = tenure_value-next o m.instant m.kind ms ∙ tenure_value-open_next (open_next o m) ms

-- ---- cycles

-- the open cycle of the listing, by the open rows `o` before the marks `ms`
abbrev cycle_value : UnendedRows → List Mark → Option Row
cycle_value o ms = last_in part.Cycle (unless_ended is_cycle_end ms o.cycle) (rows_of o.latest ms)

-- the row of a cycle is the open one, unless the cycle ends
after-cycle_begun : (i modifier address : ℕ) (e : Option ℕ) (found : Option Row) (c : Class)
    → after part.Cycle (if is_some e then None else found) (marked_cycle i modifier address e c)
    ≡ (if is_some e then None else Some (marked_cycle i modifier address None c))
after-cycle_begun i modifier address None found class.S = refl
after-cycle_begun i modifier address (Some e) found class.S = refl
after-cycle_begun i modifier address None found class.K = refl
after-cycle_begun i modifier address (Some e) found class.K = refl
after-cycle_begun i modifier address None found class.F = refl
after-cycle_begun i modifier address (Some e) found class.F = refl
after-cycle_begun i modifier address None found class.I = refl
after-cycle_begun i modifier address (Some e) found class.I = refl

-- the open cycle is the same by the open rows after one more mark
cycle_value-next : (o : UnendedRows) (i : ℕ) (k : MarkKind) (ms : List Mark) → cycle_value o (mark i k ∷ ms)
    ≡ cycle_value (open_after i k o) ms
cycle_value-next o i kind.Reset ms = ap (λ (f : Option Row). last_in part.Cycle f (rows_of None ms))
    (sym (unless_ended-none is_cycle_end ms))
cycle_value-next o i kind.Start ms = refl
cycle_value-next o i kind.Open ms = refl
cycle_value-next o i (kind.Tenure level slot) ms = refl
cycle_value-next o i kind.TenureEnd ms = refl
cycle_value-next o i (kind.Cycle c modifier address) ms =
    ap (λ (f : Option Row). last_in part.Cycle f (rows_of (Some i) ms))
    (after-cycle_begun i modifier address (first_instant is_cycle_end ms) o.cycle c)
cycle_value-next o i kind.CycleEnd ms = ap (λ (f : Option Row). last_in part.Cycle f (rows_of o.latest ms))
    (sym (unless_ended-none is_cycle_end ms))
cycle_value-next o i (kind.Transfer write) ms = ap (λ (f : Option Row). last_in part.Cycle f (rows_of o.latest ms))
    (after-transfer_row part.Cycle (unless_ended is_cycle_end ms o.cycle) (λ d line i cycle r e lanes. refl)
    (λ i d. refl) i
    (marked_direction write) (first_instant is_close ms) o.latest ms)
cycle_value-next o i (kind.Answer line) ms = refl
cycle_value-next o i (kind.WriteAnswer line moved unknown written) ms = refl
cycle_value-next o i kind.Close ms = refl

-- the open cycle of the listing is the one that is kept mark by mark
cycle_value-open_next : (o : UnendedRows) (ms : List Mark) → cycle_value o ms ≡ (fold open_next o ms).cycle
cycle_value-open_next o [] = refl
cycle_value-open_next o (m ∷ ms) = cycle_value-next o m.instant m.kind ms ∙ cycle_value-open_next (open_next o m) ms

-- ---- transfers

-- the last open transfer that doesn't wait any more
abbrev open_not_waiting : Option Row → Option Row → List Mark → Option Row
open_not_waiting unanswered answered ms = option_or (unless_ended is_close ms answered) unanswered

-- the last open transfer, with the waiting one
abbrev with_waiting : Option Row → Option ℕ → List Mark → Waiting → Option Row
with_waiting found latest ms w = after part.Transfer found
    (marked_transfer w.start w.direction (option_or w.close (first_instant is_close ms)) latest ms)

-- the last open transfer, with the waiting one if there is one
abbrev with_any_waiting : Option Row → Option Waiting → Option ℕ → List Mark → Option Row
with_any_waiting found w latest ms = option_map_or (with_waiting found latest ms) w found

-- the open transfer of the listing, by the open rows `o` before the marks `ms`
abbrev transfer_value : UnendedRows → List Mark → Option Row
transfer_value o ms = last_in part.Transfer
    (with_any_waiting (open_not_waiting o.unanswered o.answered ms) o.waiting o.latest ms) (rows_of o.latest ms)

-- without an answered transfer the open one is the unanswered one
open_not_waiting-none : (unanswered : Option Row) (ms : List Mark) → open_not_waiting unanswered None ms ≡ unanswered
open_not_waiting-none unanswered ms = ap (λ (o : Option Row). option_or o unanswered) (unless_ended-none is_close ms)

module _ (o : UnendedRows) (i : ℕ) (ms : List Mark) where
  -- where a transfer starts, the one that waited becomes the last unanswered one
  with_any_waiting-starts : (write : Bool) (w : Option Waiting)
      → with_any_waiting (open_not_waiting o.unanswered o.answered ms) w o.latest (mark i (kind.Transfer write) ∷ ms)
      ≡ open_not_waiting (option_or (pending w) o.unanswered) (unless_left w o.answered) ms
  with_any_waiting-starts write None = refl
  with_any_waiting-starts write (Some w) = sym (open_not_waiting-none (Some (pending_row w)) ms)

  -- the waiting transfer is answered
  module _ (k : MarkKind) (a : TransferAnswer)
      (row_is : (w : Waiting) → with_waiting (open_not_waiting o.unanswered o.answered ms) o.latest (mark i k ∷ ms) w
      ≡ after part.Transfer (open_not_waiting o.unanswered o.answered ms)
      (marked_answer w.start w.direction (option_or w.close (first_instant is_close ms)) i o.latest a)) where
    -- the answered transfer is open unless it was closed before, or is closed by the marks that follow
    by_close : (cycle : ℕ) (w : Waiting) (close next : Option ℕ)
        → after part.Transfer (option_or (if is_some next then None else o.answered) o.unanswered)
        (row.Transfer w.direction (marked_line a.line) w.start cycle i (option_or close next) a.lanes)
        ≡ option_or (if is_some next then None else answered_in i a cycle w close o.answered) o.unanswered
    by_close cycle w (Some close) next = refl
    by_close cycle w None None = refl
    by_close cycle w None (Some next) = refl

    -- the waiting transfer is answered if a cycle has started, and else stays without an answer
    by_cycle : (w : Waiting) (latest : Option ℕ) → after part.Transfer (open_not_waiting o.unanswered o.answered ms)
        (marked_answer w.start w.direction (option_or w.close (first_instant is_close ms)) i latest a)
        ≡ open_not_waiting (unanswered_by latest (Some w) o.unanswered) (answered_by i a latest (Some w) o.answered) ms
    by_cycle w None = sym (open_not_waiting-none (Some (pending_row w)) ms)
    by_cycle w (Some cycle) = by_close cycle w w.close (first_instant is_close ms)

    -- without a waiting transfer an answer changes nothing
    without_waiting : (latest : Option ℕ) → open_not_waiting o.unanswered o.answered ms
        ≡ open_not_waiting (unanswered_by latest None o.unanswered) (answered_by i a latest None o.answered) ms
    without_waiting None = refl
    without_waiting (Some cycle) = refl

    -- a mark that answers makes of the waiting transfer, if there is one, what is kept of it
    with_waiting-answered : (w : Option Waiting)
        → option_map_or (with_waiting (open_not_waiting o.unanswered o.answered ms) o.latest (mark i k ∷ ms)) w
        (open_not_waiting o.unanswered o.answered ms)
        ≡ open_not_waiting (unanswered_by o.latest w o.unanswered) (answered_by i a o.latest w o.answered) ms
    with_waiting-answered None = without_waiting o.latest
    with_waiting-answered (Some w) = row_is w ∙ by_cycle w o.latest

  -- where the strobes are High again, no answered transfer is open any more, and the waiting one is closed
  with_any_waiting-closes : (w : Option Waiting) → with_any_waiting o.unanswered w o.latest (mark i kind.Close ∷ ms)
      ≡ with_any_waiting (open_not_waiting o.unanswered None ms) (closed i w) o.latest ms
  with_any_waiting-closes None = sym (open_not_waiting-none o.unanswered ms)
  with_any_waiting-closes (Some w) = by_close w.close ∙ ap (λ (f : Option Row). after part.Transfer f
      (marked_transfer w.start w.direction (option_or (option_or w.close (Some i)) (first_instant is_close ms)) o.latest
      ms)) (sym (open_not_waiting-none o.unanswered ms))
    where
      by_close : (close : Option ℕ)
          → after part.Transfer o.unanswered
          (marked_transfer w.start w.direction (option_or close (Some i)) o.latest ms)
          ≡ after part.Transfer o.unanswered (marked_transfer w.start w.direction
          (option_or (option_or close (Some i)) (first_instant is_close ms)) o.latest ms)
      by_close None = refl
      by_close (Some close) = refl

-- the last open transfer after the rows, where `found` is the one before them
abbrev open_transfer_after : List Row → Option Row → Option Row
open_transfer_after rows found = last_in part.Transfer found rows

-- the open transfer is the same by the open rows after one more mark
transfer_value-next : (o : UnendedRows) (i : ℕ) (k : MarkKind) (ms : List Mark) → transfer_value o (mark i k ∷ ms)
    ≡ transfer_value (open_after i k o) ms
transfer_value-next o i kind.Reset ms = ap (open_transfer_after (rows_of None ms)) (sym (open_not_waiting-none None ms))
transfer_value-next o i kind.Start ms = refl
transfer_value-next o i kind.Open ms = refl
transfer_value-next o i (kind.Tenure level slot) ms = refl
transfer_value-next o i kind.TenureEnd ms = refl
transfer_value-next o i (kind.Cycle c modifier address) ms = ap (open_transfer_after (rows_of (Some i) ms))
    (after-cycle_row_transfer i modifier address (first_instant is_cycle_end ms)
    (with_any_waiting (open_not_waiting o.unanswered o.answered ms) o.waiting (Some i) ms) c)
transfer_value-next o i kind.CycleEnd ms = refl
transfer_value-next o i (kind.Transfer write) ms = ap
    (λ (f : Option Row). open_transfer_after (rows_of o.latest ms) (after part.Transfer f
    (marked_transfer i (marked_direction write) (first_instant is_close ms) o.latest ms)))
    (with_any_waiting-starts o i ms write o.waiting)
transfer_value-next o i (kind.Answer line) ms = ap (open_transfer_after (rows_of o.latest ms))
    (with_waiting-answered o i ms (kind.Answer line) (record { line = line; lanes = None }) (λ w. refl) o.waiting)
transfer_value-next o i (kind.WriteAnswer line moved unknown written) ms =
    ap (open_transfer_after (rows_of o.latest ms))
    (with_waiting-answered o i ms (kind.WriteAnswer line moved unknown written)
    (write_answer line moved unknown written) (λ w. refl) o.waiting)
transfer_value-next o i kind.Close ms =
    ap (open_transfer_after (rows_of o.latest ms)) (with_any_waiting-closes o i ms o.waiting)

-- the open transfer of the listing is the one that is kept mark by mark
transfer_value-open_in : (o : UnendedRows) (ms : List Mark) → transfer_value o ms
    ≡ open_in (fold open_next o ms) part.Transfer
transfer_value-open_in o [] = by_waiting o.waiting
  where
    by_waiting : (w : Option Waiting) → with_any_waiting (option_or o.answered o.unanswered) w o.latest []
        ≡ option_or (pending w) (option_or o.answered o.unanswered)
    by_waiting None = refl
    by_waiting (Some w) = refl
transfer_value-open_in o (m ∷ ms) =
    transfer_value-next o m.instant m.kind ms ∙ transfer_value-open_in (open_next o m) ms

-- ---- each part

-- for each part the open row that is kept is the open row of the listing
pub open_in-opens : (p : Part) (ms : List Mark) → open_in (opens ms) p ≡ open_row p (rows_of None ms)
open_in-opens part.Tenure ms =
    sym (open_row-last_in part.Tenure (rows_of None ms)
    ∙ ap (λ (f : Option Row). last_in part.Tenure f (rows_of None ms)) (sym (unless_ended-none is_tenure_end ms))
    ∙ tenure_value-open_next nothing_open ms)
open_in-opens part.Cycle ms =
    sym (open_row-last_in part.Cycle (rows_of None ms)
    ∙ ap (λ (f : Option Row). last_in part.Cycle f (rows_of None ms)) (sym (unless_ended-none is_cycle_end ms))
    ∙ cycle_value-open_next nothing_open ms)
open_in-opens part.Transfer ms =
    sym (open_row-last_in part.Transfer (rows_of None ms)
    ∙ ap (open_transfer_after (rows_of None ms)) (sym (open_not_waiting-none None ms))
    ∙ transfer_value-open_in nothing_open ms)
