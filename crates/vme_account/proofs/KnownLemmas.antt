-- The rows that are known mark by mark are the rows of all marks, except for their ends.
use Rattle.std.proofs.Common.{◌≡◌, ◌+◌, ℕ, Bool, true, false, List, [], ◌∷◌, ◌++◌, Option, None, Some}
use Rattle.std.proofs.Common.{refl, ap, arith}
use Rattle.std.specs.Prelude.{◌||◌, if◌then◌else◌}
use Rattle.std.specs.List.{fold, sum_by}
use Rattle.std.specs.Option.{option_map_or}
use Rattle.std.proofs.lemmas.List.Sums.{sum_by-append, sum_by-cons}
use Rattle.vme_listing.specs.declared.row.Direction.{Direction}
use Rattle.vme_listing.specs.declared.row.Row.{Row}
use Rattle.vme_listing.specs.declared.row.Row.TheVariants as row
use Rattle.vme_trace.specs.declared.class.Class.{Class}
use Rattle.vme_monitor.specs.Run.{write_answer}
use Rattle.vme_monitor.specs.declared.mark.Mark.{Mark}
use Rattle.vme_monitor.specs.declared.mark.MarkKind.{MarkKind}
use Rattle.vme_monitor.specs.declared.mark.MarkKind.TheVariants as kind
use Rattle.vme_monitor.specs.declared.mark.TransferAnswer.{TransferAnswer}
use Rattle.vme_summary.specs.MarkedRows.{answer_of, cycle_after, first_instant, is_close, is_cycle_end, is_reset}
use Rattle.vme_summary.specs.MarkedRows.{is_tenure_end, is_transfer, marked_answer, marked_cycle, marked_direction}
use Rattle.vme_summary.specs.MarkedRows.{marked_transfer, rows_of}
use Rattle.vme_account.specs.KnownRows.{answered_row, answered_rows, known_at, knowns_from, pending_rows}
use Rattle.vme_account.specs.UnendedRows.{closed, nothing_open, open_after, open_next, opens, pending_row}
use Rattle.vme_account.specs.declared.unended_rows.UnendedRows.{UnendedRows}
use Rattle.vme_account.specs.declared.unended_rows.Waiting.{Waiting}

-- the mark of the kind `k` at instant `i`
abbrev mark : ℕ → MarkKind → Mark
mark i k = record { instant = i; kind = k }

-- `f` gives a number for each row that doesn't depend on where the row ends
pub record IgnoresEnd (f : Row → ℕ) : Type 0 where
  pub open_tenure : (i : ℕ) (e : Option ℕ) → f (row.OpenTenure i e) ≡ f (row.OpenTenure i None)
  pub tenure : (i level slot : ℕ) (e : Option ℕ) → f (row.Tenure i level slot e) ≡ f (row.Tenure i level slot None)
  pub cycle : (i modifier address : ℕ) (e : Option ℕ) (c : Class)
      → f (marked_cycle i modifier address e c) ≡ f (marked_cycle i modifier address None c)
  pub answer : (i : ℕ) (d : Direction) (e : Option ℕ) (r : ℕ) (latest : Option ℕ) (a : TransferAnswer)
      → f (marked_answer i d e r latest a) ≡ f (marked_answer i d None r latest a)

module _ (f : Row → ℕ) (no_end : IgnoresEnd f) where
  -- the sum of the numbers of the rows
  abbrev pub total : List Row → ℕ
  total rows = sum_by f rows

  -- the total of one row is its number
  total-one : (r : Row) → total (r ∷ []) ≡ f r
  total-one r = let e : total (r ∷ []) ≡ f r + total [] = sum_by-cons f r [] in
      let n : total [] ≡ 0 = refl in omega (arith, e, n)

  -- the number of a transfer's row doesn't depend on where the transfer closes
  marked_transfer-ignores_close : (i : ℕ) (d : Direction) (e latest : Option ℕ) (ms : List Mark)
      → f (marked_transfer i d e latest ms) ≡ f (marked_transfer i d None latest ms)
  marked_transfer-ignores_close i d e latest [] = refl
  marked_transfer-ignores_close i d e latest (m ∷ ms) =
      by_answer (marked_transfer-ignores_close i d e (cycle_after latest m) ms) (answer_of m.kind)
    where
      by_test : f (marked_transfer i d e (cycle_after latest m) ms)
          ≡ f (marked_transfer i d None (cycle_after latest m) ms) → (ends : Bool)
          → f (if ends then row.PendingTransfer i d else marked_transfer i d e (cycle_after latest m) ms)
          ≡ f (if ends then row.PendingTransfer i d else marked_transfer i d None (cycle_after latest m) ms)
      by_test rest true = refl
      by_test rest false = rest

      by_answer : f (marked_transfer i d e (cycle_after latest m) ms)
          ≡ f (marked_transfer i d None (cycle_after latest m) ms) → (a : Option TransferAnswer)
          → f (option_map_or (marked_answer i d e m.instant latest) a (if is_transfer m.kind || is_reset m.kind
          then row.PendingTransfer i d else marked_transfer i d e (cycle_after latest m) ms))
          ≡ f (option_map_or (marked_answer i d None m.instant latest) a (if is_transfer m.kind || is_reset m.kind
          then row.PendingTransfer i d else marked_transfer i d None (cycle_after latest m) ms))
      by_answer rest None = by_test rest (is_transfer m.kind || is_reset m.kind)
      by_answer rest (Some a) = no_end.answer i d e m.instant latest a

  -- the row of the waiting transfer, by the marks that follow
  abbrev waiting_row : Option ℕ → List Mark → Waiting → Row
  waiting_row latest ms w = marked_transfer w.start w.direction None latest ms

  -- the row of the waiting transfer, if there is one
  abbrev waiting_rows : Option Waiting → Option ℕ → List Mark → List Row
  waiting_rows w latest ms = option_map_or (λ w. waiting_row latest ms w ∷ []) w []

  -- the total of the rows of the waiting transfer and of the marks `ms`, where `o` are the open rows before them
  abbrev value : UnendedRows → List Mark → ℕ
  value o ms = total (waiting_rows o.waiting o.latest ms) + total (rows_of o.latest ms)

  -- if the first row has the number of r, the total of the rows is that of r and of the other rows
  total-begins : (r shown : Row) (rows : List Row) → f shown ≡ f r → total (shown ∷ rows) ≡ total (r ∷ []) + total rows
  total-begins r shown rows same = omega (arith, sum_by-cons f shown rows, total-one r, same)

  -- if a mark leaves the waiting transfer's row as it is, it leaves the total of this row
  total-waits : (i : ℕ) (k : MarkKind) (w : Option Waiting) (latest next : Option ℕ) (ms : List Mark)
      → ((w : Waiting) → waiting_row latest (mark i k ∷ ms) w ≡ waiting_row next ms w)
      → total (waiting_rows w latest (mark i k ∷ ms)) ≡ total (waiting_rows w next ms)
  total-waits i k None latest next ms same = refl
  total-waits i k (Some w) latest next ms same = ap (λ (r : Row). total (r ∷ [])) (same w)

  -- where the waiting transfer stays without an answer at a mark, the total of its row is that of the pending transfer
  total-pending : (i : ℕ) (k : MarkKind) (w : Option Waiting) (latest : Option ℕ) (ms : List Mark)
      → ((w : Waiting) → waiting_row latest (mark i k ∷ ms) w ≡ pending_row w)
      → total (waiting_rows w latest (mark i k ∷ ms)) ≡ total (pending_rows w)
  total-pending i k None latest ms same = refl
  total-pending i k (Some w) latest ms same = ap (λ (r : Row). total (r ∷ [])) (same w)

  -- where the waiting transfer is answered at a mark, the total of its row is that of the answered transfer
  total-answered : (o : UnendedRows) (i : ℕ) (k : MarkKind) (a : TransferAnswer) (ms : List Mark)
      → ((w : Waiting) → waiting_row o.latest (mark i k ∷ ms) w ≡ answered_row i a o.latest w)
      → total (waiting_rows o.waiting o.latest (mark i k ∷ ms)) ≡ total (answered_rows i a o)
  total-answered o i k a ms same = by_waiting o.waiting
    where
      by_waiting : (w : Option Waiting) → total (waiting_rows w o.latest (mark i k ∷ ms))
          ≡ total (option_map_or (λ w. answered_row i a o.latest w ∷ []) w [])
      by_waiting None = refl
      by_waiting (Some w) = ap (λ (r : Row). total (r ∷ [])) (same w)

  -- the total of no rows is 0
  total-nothing : total [] ≡ 0
  total-nothing = refl

  -- the value before a mark is the total of the rows that are known at the mark, and the value after it
  value-next : (o : UnendedRows) (i : ℕ) (k : MarkKind) (ms : List Mark) → value o (mark i k ∷ ms)
      ≡ total (known_at i k o) + value (open_after i k o) ms
  value-next o i kind.Reset ms =
      let rows : total (rows_of o.latest (mark i kind.Reset ∷ ms)) ≡ f (row.Reset i) + total (rows_of None ms) =
      sum_by-cons f (row.Reset i) (rows_of None ms) in
      let known : total (pending_rows o.waiting ++ row.Reset i ∷ []) ≡ total (pending_rows o.waiting)
      + total (row.Reset i ∷ []) = sum_by-append f (pending_rows o.waiting) (row.Reset i ∷ []) in
      let e : value o (mark i kind.Reset ∷ ms) ≡ total (pending_rows o.waiting ++ row.Reset i ∷ [])
      + (total [] + total (rows_of None ms)) =
      omega (
        arith,
        rows,
        known,
        total-one (row.Reset i),
        total-nothing,
        total-pending i kind.Reset o.waiting o.latest
            ms (λ w. refl),
      ) in
      e
  value-next o i kind.Start ms =
      omega (
        arith,
        total-begins (row.Start i) (row.Start i) (rows_of o.latest ms) refl,
        total-waits i kind.Start o.waiting o.latest o.latest ms (λ w. refl),
      )
  value-next o i kind.Open ms =
      omega (
        arith,
        total-begins (row.OpenTenure i None) (row.OpenTenure i (first_instant is_tenure_end ms)) (rows_of o.latest ms)
            (no_end.open_tenure i (first_instant is_tenure_end ms)),
        total-waits i kind.Open o.waiting o.latest o.latest ms (λ w. refl),
      )
  value-next o i (kind.Tenure level slot) ms =
      omega (
        arith,
        total-begins (row.Tenure i level slot None) (row.Tenure i level slot (first_instant is_tenure_end ms))
            (rows_of o.latest ms) (no_end.tenure i level slot (first_instant is_tenure_end ms)),
        total-waits i (kind.Tenure level slot) o.waiting o.latest o.latest ms (λ w. refl),
      )
  value-next o i kind.TenureEnd ms =
      omega (arith, total-nothing, total-waits i kind.TenureEnd o.waiting o.latest o.latest ms (λ w. refl))
  value-next o i (kind.Cycle c modifier address) ms =
      omega (
        arith,
        total-begins (marked_cycle i modifier address None c)
            (marked_cycle i modifier address (first_instant is_cycle_end ms) c) (rows_of (Some i) ms)
            (no_end.cycle i modifier address (first_instant is_cycle_end ms) c),
        total-waits i (kind.Cycle c modifier address) o.waiting o.latest (Some i) ms (λ w. refl),
      )
  value-next o i kind.CycleEnd ms =
      omega (arith, total-nothing, total-waits i kind.CycleEnd o.waiting o.latest o.latest ms (λ w. refl))
  value-next o i (kind.Transfer write) ms =
      let d : Direction = marked_direction write in
      let w : Waiting = record { start = i; direction = d; close = None } in
      let shown : Row = marked_transfer i d (first_instant is_close ms) o.latest ms in
      let rows : total (rows_of o.latest (mark i (kind.Transfer write) ∷ ms)) ≡ f shown + total (rows_of o.latest ms) =
      sum_by-cons f shown (rows_of o.latest ms) in
      let e : value o (mark i (kind.Transfer write) ∷ ms) ≡ total (pending_rows o.waiting)
      + (total (waiting_row o.latest ms w ∷ []) + total (rows_of o.latest ms)) =
      omega (
        arith,
        rows,
        marked_transfer-ignores_close i d (first_instant is_close ms) o.latest ms,
        total-one (waiting_row o.latest ms w),
        total-pending i (kind.Transfer write) o.waiting o.latest ms (λ w. refl),
      ) in
      e
  value-next o i (kind.Answer line) ms =
      omega (
        arith,
        total-nothing,
        total-answered o i (kind.Answer line) (record { line = line; lanes = None }) ms
            (λ w. refl),
      )
  value-next o i (kind.WriteAnswer line moved unknown written) ms =
      omega (
        arith,
        total-nothing,
        total-answered o i (kind.WriteAnswer line moved unknown written) (write_answer line moved unknown written) ms
            (λ w. refl),
      )
  value-next o i kind.Close ms = omega (arith, total-nothing, closes o.waiting)
    where
      closes : (w : Option Waiting) → total (waiting_rows w o.latest (mark i kind.Close ∷ ms))
          ≡ total (waiting_rows (closed i w) o.latest ms)
      closes None = refl
      closes (Some w) = refl

  -- where no mark follows, the waiting transfer stays without an answer
  total-last_waiting : (w : Option Waiting) (latest : Option ℕ) → total (waiting_rows w latest [])
      ≡ total (pending_rows w)
  total-last_waiting None latest = refl
  total-last_waiting (Some w) latest = refl

  -- the total from `o` on is that of the rows that become known, and of the transfer that still waits
  value-knowns : (o : UnendedRows) (ms : List Mark) → value o ms
      ≡ total (knowns_from o ms) + total (pending_rows (fold open_next o ms).waiting)
  value-knowns o [] = omega (arith, total-nothing, total-last_waiting o.waiting o.latest)
  value-knowns o (m ∷ ms) =
      let o2 : UnendedRows = open_next o m in
      let all : total (knowns_from o (m ∷ ms)) ≡ total (known_at m.instant m.kind o) + total (knowns_from o2 ms) =
      sum_by-append f (known_at m.instant m.kind o) (knowns_from o2 ms) in
      let e : value o (m ∷ ms) ≡ total (knowns_from o (m ∷ ms)) + total (pending_rows (fold open_next o2 ms).waiting) =
      omega (arith, value-next o m.instant m.kind ms, value-knowns o2 ms, all) in
      e

  -- the total of the rows of all marks is that of the rows that become known, and of the transfer that still waits
  pub total-rows_of : (ms : List Mark) → total (rows_of None ms)
      ≡ total (knowns_from nothing_open ms) + total (pending_rows (opens ms).waiting)
  total-rows_of ms =
      let whole : total [] + total (rows_of None ms)
      ≡ total (knowns_from nothing_open ms) + total (pending_rows (opens ms).waiting) = value-knowns nothing_open ms in
      omega (arith, total-nothing, whole)
