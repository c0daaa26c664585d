-- What marks add to a tally, one by one, is what is counted of the rows that they make.
use Rattle.std.proofs.Common.{◌≡◌, ℕ, suc, ◌+◌, Bool, true, false, ◌||◌, List, [], ◌∷◌, refl, sym}
use Rattle.std.proofs.Common.{◌∙◌}
use Rattle.std.proofs.Common.{ap, arith, cond, Option, None, Some}
use Rattle.std.specs.Prelude.{◌==◌, is_some}
use Rattle.std.specs.List.{fold}
use Rattle.std.specs.Option.{option_map_or, option_or}
use Rattle.vme_trace.specs.LineNumbers.{DTACK}
use Rattle.vme_trace.specs.declared.class.Class.{Class}
use Rattle.vme_trace.specs.declared.class.Class.TheVariants as class
use Rattle.vme_trace.specs.declared.data.Lanes.{Lanes}
use Rattle.vme_listing.specs.declared.row.AnswerLine.TheVariants.{Berr, Dtack}
use Rattle.vme_listing.specs.declared.row.Row.{Row}
use Rattle.vme_listing.specs.declared.row.Row.TheVariants as row
use Rattle.vme_monitor.specs.Run.{write_answer}
use Rattle.vme_monitor.specs.declared.mark.Mark.{Mark}
use Rattle.vme_monitor.specs.declared.mark.MarkKind.{MarkKind}
use Rattle.vme_monitor.specs.declared.mark.MarkKind.TheVariants as kind
use Rattle.vme_monitor.specs.declared.mark.TransferAnswer.{TransferAnswer}
use Rattle.vme_summary.specs.MarkedRows.{answer_of, cycle_after, first_instant, is_close, is_reset, is_transfer}
use Rattle.vme_summary.specs.MarkedRows.{marked_answer, marked_direction, marked_line, marked_transfer, rows_of}
use Rattle.vme_audit.specs.Counted.{counts_of_rows, nothing_counted}
use Rattle.vme_audit.specs.declared.counts.Counts.{Counts}
use Rattle.vme_auditor.specs.Tallied.{at_answer, at_cycle, at_reset, at_tenure, at_transfer, by_line, counts_so_far}
use Rattle.vme_auditor.specs.Tallied.{of_direction}
use Rattle.vme_auditor.specs.declared.tally.StartedTransfer.{StartedTransfer}
use Rattle.vme_auditor.specs.declared.tally.Tally.{Tally}

-- the sum of two counts, field by field
abbrev pub sum_of : Counts → Counts → Counts
sum_of c d =
    record {
      resets = c.resets + d.resets;
      tenures = c.tenures + d.tenures;
      single = c.single + d.single;
      block = c.block + d.block;
      free = c.free + d.free;
      acknowledge = c.acknowledge + d.acknowledge;
      reads = c.reads + d.reads;
      writes = c.writes + d.writes;
      by_dtack = c.by_dtack + d.by_dtack;
      by_berr = c.by_berr + d.by_berr;
      pending = c.pending + d.pending;
    }

-- one transfer without an answer is counted, and nothing else
abbrev one_pending : Counts
one_pending = record nothing_counted { pending = 1 }

-- what a mark adds to a tally; `at` gives the start of a transfer by its instant
module _ (at : ℕ → StartedTransfer) where
  -- the tally `a` after a mark of this kind at instant `i`
  abbrev pub kind_tallied : Tally → ℕ → MarkKind → Tally
  kind_tallied a i kind.Reset = at_reset suc a
  kind_tallied a i kind.Start = a
  kind_tallied a i kind.Open = a
  kind_tallied a i (kind.Tenure level slot) = at_tenure suc a (record { level = level; slot = slot })
  kind_tallied a i kind.TenureEnd = a
  kind_tallied a i (kind.Cycle c modifier address) =
      at_cycle suc a (record { class = c; modifier = modifier; address = address })
  kind_tallied a i kind.CycleEnd = a
  kind_tallied a i (kind.Transfer write) = at_transfer suc a (at i) write
  kind_tallied a i (kind.Answer line) = at_answer suc a (record { line = line; lanes = None })
  kind_tallied a i (kind.WriteAnswer line moved unknown value) =
      at_answer suc a (write_answer line moved unknown value)
  kind_tallied a i kind.Close = a

  -- the tally `a` after a mark
  abbrev pub mark_tallied : Tally → Mark → Tally
  mark_tallied a m = kind_tallied a m.instant m.kind

-- what an answer by `line` counts for the transfer that started last: it stays pending if no cycle started
abbrev answer_counts : Option ℕ → ℕ → Counts
answer_counts None line = one_pending
answer_counts (Some cycle) line = by_line suc nothing_counted line

-- what is counted for the transfer that started last by the marks `ms` after it: its answer, or that it stays without
-- one
abbrev waiting_counts : Option ℕ → List Mark → Counts
waiting_counts latest [] = one_pending
waiting_counts latest (m ∷ ms) =
    option_map_or (λ (a : TransferAnswer). answer_counts latest a.line) (answer_of m.kind)
    (cond (is_transfer m.kind || is_reset m.kind) one_pending (waiting_counts (cycle_after latest m) ms))

-- the count of the waiting transfer's outcome by the marks `ms`, if a transfer waits
abbrev still_counts : Option StartedTransfer → Option ℕ → List Mark → Counts
still_counts None latest ms = nothing_counted
still_counts (Some started) latest ms = waiting_counts latest ms

-- the counts with these numbers, in the order of the fields
abbrev counts_with : ℕ → ℕ → ℕ → ℕ → ℕ → ℕ → ℕ → ℕ → ℕ → ℕ → ℕ → Counts
counts_with a b c d e f g h i j k =
    record {
      resets = a;
      tenures = b;
      single = c;
      block = d;
      free = e;
      acknowledge = f;
      reads = g;
      writes = h;
      by_dtack = i;
      by_berr = j;
      pending = k;
    }

-- counts with equal numbers are equal
counts_with-equal : (a b c d e f g h i j k a' b' c' d' e' f' g' h' i' j' k' : ℕ) → a ≡ a' → b ≡ b' → c ≡ c' → d ≡ d'
    → e ≡ e' → f ≡ f' → g ≡ g' → h ≡ h' → i ≡ i' → j ≡ j' → k ≡ k'
    → counts_with a b c d e f g h i j k ≡ counts_with a' b' c' d' e' f' g' h' i' j' k'
counts_with-equal a b c d e f g h i j k a' b' c' d' e' f' g' h' i' j' k' p q r s t u v w x y z =
    rw (p, q, r, s, t, u, v, w, x, y, z) refl

-- counts whose fields are equal are equal
pub Counts-equal : (c d : Counts) → c.resets ≡ d.resets → c.tenures ≡ d.tenures → c.single ≡ d.single → c.block
    ≡ d.block
    → c.free ≡ d.free → c.acknowledge ≡ d.acknowledge → c.reads ≡ d.reads → c.writes ≡ d.writes
    → c.by_dtack ≡ d.by_dtack → c.by_berr ≡ d.by_berr → c.pending ≡ d.pending → c ≡ d
Counts-equal c d e f g h i j k l m n o =
    counts_with-equal c.resets c.tenures c.single c.block c.free c.acknowledge c.reads c.writes c.by_dtack c.by_berr
    c.pending
    d.resets d.tenures d.single d.block d.free d.acknowledge d.reads d.writes d.by_dtack d.by_berr d.pending e f g h i j
    k l m n o

-- adding to no counts changes nothing
pub sum_of-nothing : (c : Counts) → sum_of nothing_counted c ≡ c
sum_of-nothing c =
    Counts-equal (sum_of nothing_counted c) c (omega arith) (omega arith) (omega arith) (omega arith) (omega arith)
    (omega arith) (omega arith) (omega arith) (omega arith) (omega arith) (omega arith)

-- the sum of counts is associative
pub sum_of-assoc : (b c d : Counts) → sum_of (sum_of b c) d ≡ sum_of b (sum_of c d)
sum_of-assoc b c d =
    Counts-equal (sum_of (sum_of b c) d) (sum_of b (sum_of c d)) (omega arith) (omega arith) (omega arith) (omega arith)
    (omega arith) (omega arith) (omega arith) (omega arith) (omega arith) (omega arith) (omega arith)

-- one more of a kind may be counted in the first of three counts or in the last
module _ (c w r : Counts) where
  -- one more reset may be counted in the first of three counts or in the last
  sum_of-reset : sum_of (record c { resets = suc c.resets }) (sum_of w r)
      ≡ sum_of c (sum_of w (record r { resets = suc r.resets }))
  sum_of-reset =
      Counts-equal (sum_of (record c { resets = suc c.resets }) (sum_of w r))
      (sum_of c (sum_of w (record r { resets = suc r.resets }))) (omega arith) refl refl refl refl refl refl refl refl
      refl refl

  -- one more tenure may be counted in the first of three counts or in the last
  sum_of-tenure : sum_of (record c { tenures = suc c.tenures }) (sum_of w r)
      ≡ sum_of c (sum_of w (record r { tenures = suc r.tenures }))
  sum_of-tenure =
      Counts-equal (sum_of (record c { tenures = suc c.tenures }) (sum_of w r))
      (sum_of c (sum_of w (record r { tenures = suc r.tenures }))) refl (omega arith) refl refl refl refl refl refl refl
      refl refl

  -- one more single cycle may be counted in the first of three counts or in the last
  sum_of-single : sum_of (record c { single = suc c.single }) (sum_of w r)
      ≡ sum_of c (sum_of w (record r { single = suc r.single }))
  sum_of-single =
      Counts-equal (sum_of (record c { single = suc c.single }) (sum_of w r))
      (sum_of c (sum_of w (record r { single = suc r.single }))) refl refl (omega arith) refl refl refl refl refl refl
      refl refl

  -- one more block transfer may be counted in the first of three counts or in the last
  sum_of-block : sum_of (record c { block = suc c.block }) (sum_of w r)
      ≡ sum_of c (sum_of w (record r { block = suc r.block }))
  sum_of-block =
      Counts-equal (sum_of (record c { block = suc c.block }) (sum_of w r))
      (sum_of c (sum_of w (record r { block = suc r.block }))) refl refl refl (omega arith) refl refl refl refl refl
      refl refl

  -- one more free cycle may be counted in the first of three counts or in the last
  sum_of-free : sum_of (record c { free = suc c.free }) (sum_of w r)
      ≡ sum_of c (sum_of w (record r { free = suc r.free }))
  sum_of-free =
      Counts-equal (sum_of (record c { free = suc c.free }) (sum_of w r))
      (sum_of c (sum_of w (record r { free = suc r.free }))) refl refl refl refl (omega arith) refl refl refl refl refl
      refl

  -- one more interrupt acknowledge may be counted in the first of three counts or in the last
  sum_of-acknowledge : sum_of (record c { acknowledge = suc c.acknowledge }) (sum_of w r)
      ≡ sum_of c (sum_of w (record r { acknowledge = suc r.acknowledge }))
  sum_of-acknowledge =
      Counts-equal (sum_of (record c { acknowledge = suc c.acknowledge }) (sum_of w r))
      (sum_of c (sum_of w (record r { acknowledge = suc r.acknowledge }))) refl refl refl refl refl (omega arith) refl
      refl refl refl refl

-- a transfer without an answer may be counted in the first of two counts or in the last
sum_of-pending : (c r : Counts) → sum_of (record c { pending = suc c.pending }) r ≡ sum_of c (sum_of one_pending r)
sum_of-pending c r =
    Counts-equal (sum_of (record c { pending = suc c.pending }) r) (sum_of c (sum_of one_pending r)) (omega arith)
    (omega arith) (omega arith) (omega arith) (omega arith) (omega arith) (omega arith) (omega arith) (omega arith)
    (omega arith) (omega arith)

-- a read, or a write, may be counted in the first of two counts or in the last
sum_of-direction : (c r : Counts) (write : Bool) → sum_of (of_direction suc c write) r
    ≡ sum_of c (sum_of (of_direction suc nothing_counted write) r)
sum_of-direction c r true =
    Counts-equal (sum_of (of_direction suc c true) r) (sum_of c (sum_of (of_direction suc nothing_counted true) r))
    (omega arith) (omega arith) (omega arith) (omega arith) (omega arith) (omega arith) (omega arith) (omega arith)
    (omega arith) (omega arith) (omega arith)
sum_of-direction c r false =
    Counts-equal (sum_of (of_direction suc c false) r) (sum_of c (sum_of (of_direction suc nothing_counted false) r))
    (omega arith) (omega arith) (omega arith) (omega arith) (omega arith) (omega arith) (omega arith) (omega arith)
    (omega arith) (omega arith) (omega arith)

-- the counts `c` and one more answer, by DTACK if `b` holds, else by BERR
abbrev by_line_if_dtack : Bool → Counts → Counts
by_line_if_dtack b c = cond b (record c { by_dtack = suc c.by_dtack }) (record c { by_berr = suc c.by_berr })

-- an answer, by DTACK or else by BERR, may be counted in the first of two counts or in the last
sum_of-by_line_if_dtack : (c r : Counts) (b : Bool) → sum_of (by_line_if_dtack b c) r
    ≡ sum_of c (sum_of (by_line_if_dtack b nothing_counted) r)
sum_of-by_line_if_dtack c r true =
    Counts-equal (sum_of (by_line_if_dtack true c) r) (sum_of c (sum_of (by_line_if_dtack true nothing_counted) r))
    (omega arith)
    (omega arith) (omega arith) (omega arith) (omega arith) (omega arith) (omega arith) (omega arith) (omega arith)
    (omega arith) (omega arith)
sum_of-by_line_if_dtack c r false =
    Counts-equal (sum_of (by_line_if_dtack false c) r) (sum_of c (sum_of (by_line_if_dtack false nothing_counted) r))
    (omega arith)
    (omega arith) (omega arith) (omega arith) (omega arith) (omega arith) (omega arith) (omega arith) (omega arith)
    (omega arith) (omega arith)

-- an answer by a line may be counted in the first of two counts or in the last
sum_of-by_line : (c r : Counts) (line : ℕ) → sum_of (by_line suc c line) r
    ≡ sum_of c (sum_of (by_line suc nothing_counted line) r)
sum_of-by_line c r line = sum_of-by_line_if_dtack c r (line == DTACK)

-- the row of a transfer without an answer counts its direction, and that it is without one
counts_of_rows-pending_transfer : (write : Bool) (i : ℕ) (rows : List Row)
    → counts_of_rows (row.PendingTransfer i (marked_direction write) ∷ rows)
    ≡ sum_of (of_direction suc nothing_counted write) (sum_of one_pending (counts_of_rows rows))
unfolding counts_of_rows
counts_of_rows-pending_transfer true i rows =
    Counts-equal (counts_of_rows (row.PendingTransfer i (marked_direction true) ∷ rows))
    (sum_of (of_direction suc nothing_counted true) (sum_of one_pending (counts_of_rows rows))) (omega arith)
    (omega arith) (omega arith) (omega arith) (omega arith) (omega arith) (omega arith) (omega arith) (omega arith)
    (omega arith) (omega arith)
counts_of_rows-pending_transfer false i rows =
    Counts-equal (counts_of_rows (row.PendingTransfer i (marked_direction false) ∷ rows))
    (sum_of (of_direction suc nothing_counted false) (sum_of one_pending (counts_of_rows rows))) (omega arith)
    (omega arith) (omega arith) (omega arith) (omega arith) (omega arith) (omega arith) (omega arith) (omega arith)
    (omega arith) (omega arith)

-- the row of an answered transfer
module _ (i cycle answer : ℕ) (close : Option ℕ) (lanes : Option Lanes) (rows : List Row) where
  -- the row of a transfer that was answered, by its direction and whether DTACK answered it
  abbrev answered_row_of : Bool → Bool → Row
  answered_row_of write dtack =
      row.Transfer (marked_direction write) (cond dtack Dtack Berr) i cycle answer close lanes

  -- the counts of the row of a transfer that was answered, and of `rows`
  abbrev answered_counts : Bool → Bool → Counts
  answered_counts write dtack =
      sum_of (of_direction suc nothing_counted write)
      (sum_of
      (cond dtack (record nothing_counted { by_dtack = 1 }) (record nothing_counted { by_berr = 1 }))
      (counts_of_rows rows))

  -- the row of a transfer that was answered counts its direction and its answer
  counts_of_rows-answered_row_of : (write dtack : Bool) → counts_of_rows (answered_row_of write dtack ∷ rows)
      ≡ answered_counts write dtack
  unfolding counts_of_rows
  counts_of_rows-answered_row_of true true =
      Counts-equal (counts_of_rows (answered_row_of true true ∷ rows)) (answered_counts true true) (omega arith)
      (omega arith) (omega arith) (omega arith) (omega arith) (omega arith) (omega arith) (omega arith) (omega arith)
      (omega arith) (omega arith)
  counts_of_rows-answered_row_of true false =
      Counts-equal (counts_of_rows (answered_row_of true false ∷ rows)) (answered_counts true false) (omega arith)
      (omega arith) (omega arith) (omega arith) (omega arith) (omega arith) (omega arith) (omega arith) (omega arith)
      (omega arith) (omega arith)
  counts_of_rows-answered_row_of false true =
      Counts-equal (counts_of_rows (answered_row_of false true ∷ rows)) (answered_counts false true) (omega arith)
      (omega arith) (omega arith) (omega arith) (omega arith) (omega arith) (omega arith) (omega arith) (omega arith)
      (omega arith) (omega arith)
  counts_of_rows-answered_row_of false false =
      Counts-equal (counts_of_rows (answered_row_of false false ∷ rows)) (answered_counts false false) (omega arith)
      (omega arith) (omega arith) (omega arith) (omega arith) (omega arith) (omega arith) (omega arith) (omega arith)
      (omega arith) (omega arith)

  -- the row of a transfer that `line` answered counts its direction and that line
  counts_of_rows-answered_transfer : (write : Bool) (line : ℕ)
      → counts_of_rows (row.Transfer (marked_direction write) (marked_line line) i cycle answer close lanes ∷ rows)
      ≡ sum_of (of_direction suc nothing_counted write)
      (sum_of (by_line suc nothing_counted line) (counts_of_rows rows))
  counts_of_rows-answered_transfer write line = counts_of_rows-answered_row_of write (line == DTACK)

-- a transfer is counted by its direction and by its outcome
module _ (i : ℕ) (write : Bool) (close : Option ℕ) (rows : List Row) where
  -- the row of the transfer that starts at `i` counts its direction, and its outcome by the marks `ms` after it
  abbrev CountsTransfer : Option ℕ → List Mark → Type 0
  CountsTransfer latest ms = counts_of_rows (marked_transfer i (marked_direction write) close latest ms ∷ rows)
      ≡ sum_of (of_direction suc nothing_counted write) (sum_of (waiting_counts latest ms) (counts_of_rows rows))

  -- the row of a transfer that a mark answers counts its direction, and the answer or that no cycle started
  counts_of_rows-marked_answer : (latest : Option ℕ) (at line : ℕ) (lanes : Option Lanes) → counts_of_rows
      (marked_answer i (marked_direction write) close at latest (record { line = line; lanes = lanes }) ∷ rows)
      ≡ sum_of (of_direction suc nothing_counted write) (sum_of (answer_counts latest line) (counts_of_rows rows))
  counts_of_rows-marked_answer None at line lanes = counts_of_rows-pending_transfer write i rows
  counts_of_rows-marked_answer (Some cycle) at line lanes =
      counts_of_rows-answered_transfer i cycle at close lanes rows write line

  -- `CountsTransfer` holds of any marks
  CountsTransfer-marks : (ms : List Mark) (latest : Option ℕ) → CountsTransfer latest ms
  CountsTransfer-marks [] latest = counts_of_rows-pending_transfer write i rows
  CountsTransfer-marks (m ∷ ms) latest = by_kind (CountsTransfer-marks ms) m.instant m.kind
    where
      by_kind : ((latest : Option ℕ) → CountsTransfer latest ms) → (at : ℕ) (k : MarkKind)
          → CountsTransfer latest (record { instant = at; kind = k } ∷ ms)
      by_kind so_far at kind.Reset = counts_of_rows-pending_transfer write i rows
      by_kind so_far at kind.Start = so_far latest
      by_kind so_far at kind.Open = so_far latest
      by_kind so_far at (kind.Tenure level slot) = so_far latest
      by_kind so_far at kind.TenureEnd = so_far latest
      by_kind so_far at (kind.Cycle c modifier address) = so_far (Some at)
      by_kind so_far at kind.CycleEnd = so_far latest
      by_kind so_far at (kind.Transfer other) = counts_of_rows-pending_transfer write i rows
      by_kind so_far at (kind.Answer line) = counts_of_rows-marked_answer latest at line None
      by_kind so_far at (kind.WriteAnswer line moved unknown value) =
          counts_of_rows-marked_answer latest at line
          (Some (record { moved = moved; unknown = unknown; value = value }))
      by_kind so_far at kind.Close = so_far latest

-- the tally with the counts `c`, after the start `latest` of a cycle, while `w` waits, and with `u` as its first
-- transfer without an answer
abbrev pub tally : Counts → Option ℕ → Option StartedTransfer → Option StartedTransfer → Tally
tally c latest w u = record { counts = c; has_cycle = is_some latest; waiting = w; unanswered = u }

-- a mark that is no answer, no transfer and no reset leaves the waiting transfer as it is
still_counts-other_mark : (w : Option StartedTransfer) (latest : Option ℕ) (m : Mark) (ms : List Mark)
    → answer_of m.kind ≡ None
    → (is_transfer m.kind || is_reset m.kind) ≡ false → still_counts w latest (m ∷ ms)
    ≡ still_counts w (cycle_after latest m) ms
still_counts-other_mark None latest m ms e f = refl
still_counts-other_mark (Some s) latest m ms e f = rw (e, f) refl

-- adding nothing changes no count
sum_of-nothing_twice : (c : Counts) → sum_of c (sum_of nothing_counted nothing_counted) ≡ c
sum_of-nothing_twice c =
    Counts-equal (sum_of c (sum_of nothing_counted nothing_counted)) c (omega arith) (omega arith) (omega arith)
    (omega arith) (omega arith) (omega arith) (omega arith) (omega arith) (omega arith) (omega arith) (omega arith)

-- adding a transfer without an answer adds one to `pending`
sum_of-one_pending : (c : Counts) → sum_of c (sum_of one_pending nothing_counted) ≡ record c { pending = suc c.pending }
sum_of-one_pending c =
    Counts-equal (sum_of c (sum_of one_pending nothing_counted)) (record c { pending = suc c.pending }) (omega arith)
    (omega arith) (omega arith) (omega arith) (omega arith) (omega arith) (omega arith) (omega arith) (omega arith)
    (omega arith) (omega arith)

-- a reset while a transfer waits: both may be counted in the first of the counts or in the last
sum_of-reset_pending : (c r : Counts) → sum_of (record c { pending = suc c.pending; resets = suc c.resets })
    (sum_of nothing_counted r)
    ≡ sum_of c (sum_of one_pending (record r { resets = suc r.resets }))
sum_of-reset_pending c r =
    Counts-equal (sum_of (record c { pending = suc c.pending; resets = suc c.resets }) (sum_of nothing_counted r))
    (sum_of c (sum_of one_pending (record r { resets = suc r.resets }))) (omega arith) (omega arith) (omega arith)
    (omega arith) (omega arith) (omega arith) (omega arith) (omega arith) (omega arith) (omega arith) (omega arith)

module _ (at : ℕ → StartedTransfer) where
  -- the counts of the tally `a` after the marks `ms`
  abbrev pub counts_after_marks : Tally → List Mark → Counts
  counts_after_marks a ms = counts_so_far suc (fold (mark_tallied at) a ms)

  -- what is counted of the rows that the marks make
  abbrev counts_of_marked_rows : Option ℕ → List Mark → Counts
  counts_of_marked_rows latest ms = counts_of_rows (rows_of latest ms)

  -- the counts before the marks, what they say of the waiting transfer, and the counts of their rows
  abbrev expected_counts : Counts → Option ℕ → Option StartedTransfer → List Mark → Counts
  expected_counts c latest w ms = sum_of c (sum_of (still_counts w latest ms) (counts_of_marked_rows latest ms))

  -- for any tally, the marks `ms` add to its counts what is expected
  abbrev AreCounted : List Mark → Type 0
  AreCounted ms = (c : Counts) (latest : Option ℕ) (w u : Option StartedTransfer)
      → counts_after_marks (tally c latest w u) ms ≡ expected_counts c latest w ms

  -- a mark at instant `i` before the marks `ms`, of which `AreCounted` holds
  module _ (ms : List Mark) (counted : AreCounted ms) (c : Counts) (latest : Option ℕ) (u : Option StartedTransfer)
      (i : ℕ) where
    -- with a mark of the kind `k` before them, the marks add what is expected
    abbrev IsMarkCounted : Option StartedTransfer → MarkKind → Type 0
    IsMarkCounted w k = counts_after_marks (tally c latest w u) (record { instant = i; kind = k } ∷ ms)
        ≡ expected_counts c latest w (record { instant = i; kind = k } ∷ ms)

    -- a mark that has no row and leaves the tally as it is adds nothing to what is expected
    counts-unlisted_mark : (w : Option StartedTransfer) (k : MarkKind) → answer_of k ≡ None
        → (is_transfer k || is_reset k) ≡ false
        → cycle_after latest (record { instant = i; kind = k }) ≡ latest
        → counts_after_marks (tally c latest w u) ms
        ≡ sum_of c (sum_of (still_counts w latest (record { instant = i; kind = k } ∷ ms))
        (counts_of_marked_rows latest ms))
    counts-unlisted_mark w k e f same =
        counted c latest w u
        ∙ ap (λ (o : Option ℕ). sum_of c (sum_of (still_counts w o ms) (counts_of_marked_rows latest ms))) (sym same)
        ∙ ap (λ (d : Counts). sum_of c (sum_of d (counts_of_marked_rows latest ms)))
        (sym (still_counts-other_mark w latest (record { instant = i; kind = k }) ms e f))

    -- `IsMarkCounted` holds of the start of a tenure
    IsMarkCounted-tenure : (w : Option StartedTransfer) (level slot : ℕ) → IsMarkCounted w (kind.Tenure level slot)
    unfolding counts_of_rows
    IsMarkCounted-tenure w level slot =
        counted (record c { tenures = suc c.tenures }) latest w u
        ∙ sum_of-tenure c (still_counts w latest ms) (counts_of_marked_rows latest ms)
        ∙ ap (λ (d : Counts). sum_of c
        (sum_of d (record (counts_of_marked_rows latest ms)
        { tenures = suc (counts_of_marked_rows latest ms).tenures })))
        (sym (still_counts-other_mark w latest (record { instant = i; kind = kind.Tenure level slot }) ms refl refl))

    -- `IsMarkCounted` holds of the start of a cycle
    IsMarkCounted-cycle : (w : Option StartedTransfer) (k : Class) (modifier address : ℕ)
        → IsMarkCounted w (kind.Cycle k modifier address)
    unfolding counts_of_rows
    IsMarkCounted-cycle w class.S modifier address =
        counted (record c { single = suc c.single }) (Some i) w u
        ∙ sum_of-single c (still_counts w (Some i) ms) (counts_of_marked_rows (Some i) ms)
        ∙ ap (λ (d : Counts). sum_of c
        (sum_of d (record (counts_of_marked_rows (Some i) ms)
        { single = suc (counts_of_marked_rows (Some i) ms).single })))
        (sym (still_counts-other_mark w latest (record { instant = i; kind = kind.Cycle class.S modifier address }) ms
        refl refl))
    IsMarkCounted-cycle w class.K modifier address =
        counted (record c { block = suc c.block }) (Some i) w u
        ∙ sum_of-block c (still_counts w (Some i) ms) (counts_of_marked_rows (Some i) ms)
        ∙ ap (λ (d : Counts). sum_of c
        (sum_of d (record (counts_of_marked_rows (Some i) ms)
        { block = suc (counts_of_marked_rows (Some i) ms).block })))
        (sym (still_counts-other_mark w latest (record { instant = i; kind = kind.Cycle class.K modifier address }) ms
        refl refl))
    IsMarkCounted-cycle w class.F modifier address =
        counted (record c { free = suc c.free }) (Some i) w u
        ∙ sum_of-free c (still_counts w (Some i) ms) (counts_of_marked_rows (Some i) ms)
        ∙ ap (λ (d : Counts). sum_of c
        (sum_of d (record (counts_of_marked_rows (Some i) ms) { free = suc (counts_of_marked_rows (Some i) ms).free })))
        (sym (still_counts-other_mark w latest (record { instant = i; kind = kind.Cycle class.F modifier address }) ms
        refl refl))
    IsMarkCounted-cycle w class.I modifier address =
        counted (record c { acknowledge = suc c.acknowledge }) (Some i) w u
        ∙ sum_of-acknowledge c (still_counts w (Some i) ms) (counts_of_marked_rows (Some i) ms)
        ∙ ap (λ (d : Counts). sum_of c
        (sum_of d (record (counts_of_marked_rows (Some i) ms)
        { acknowledge = suc (counts_of_marked_rows (Some i) ms).acknowledge })))
        (sym (still_counts-other_mark w latest (record { instant = i; kind = kind.Cycle class.I modifier address }) ms
        refl refl))

    -- the row of a transfer that starts here
    abbrev started_row : Bool → Row
    started_row write = marked_transfer i (marked_direction write) (first_instant is_close ms) latest ms

    -- the direction and the outcome of the transfer that starts here are what its row counts
    counts-started_row : (d : Counts) (write : Bool) → sum_of (of_direction suc d write)
        (sum_of (waiting_counts latest ms) (counts_of_marked_rows latest ms))
        ≡ sum_of d (counts_of_rows (started_row write ∷ rows_of latest ms))
    counts-started_row d write =
        sum_of-direction d (sum_of (waiting_counts latest ms) (counts_of_marked_rows latest ms)) write
        ∙ ap (sum_of d) (sym (CountsTransfer-marks i write (first_instant is_close ms) (rows_of latest ms) ms latest))

    -- `IsMarkCounted` holds of the start of a transfer
    IsMarkCounted-transfer : (w : Option StartedTransfer) (write : Bool) → IsMarkCounted w (kind.Transfer write)
    IsMarkCounted-transfer None write =
        counted (of_direction suc c write) latest (Some (at i)) u
        ∙ counts-started_row c write
        ∙ ap (sum_of c) (sym (sum_of-nothing (counts_of_rows (started_row write ∷ rows_of latest ms))))
    IsMarkCounted-transfer (Some s) write =
        counted (of_direction suc (record c { pending = suc c.pending }) write) latest (Some (at i))
        (option_or u (Some s))
        ∙ counts-started_row (record c { pending = suc c.pending }) write
        ∙ sum_of-pending c (counts_of_rows (started_row write ∷ rows_of latest ms))

    -- `IsMarkCounted` holds of a reset
    IsMarkCounted-reset : (w : Option StartedTransfer) → IsMarkCounted w kind.Reset
    unfolding counts_of_rows
    IsMarkCounted-reset None =
        counted (record c { resets = suc c.resets }) None None None
        ∙ sum_of-reset c nothing_counted (counts_of_marked_rows None ms)
    IsMarkCounted-reset (Some s) =
        counted (record c { pending = suc c.pending; resets = suc c.resets }) None None None
        ∙ sum_of-reset_pending c (counts_of_marked_rows None ms)

  module _ (ms : List Mark) (counted : AreCounted ms) (c : Counts) (u : Option StartedTransfer) (line : ℕ)
      (lanes : Option Lanes) where
    -- the count of the answer to the waiting transfer, if one waits
    abbrev answered_counts_of : Option StartedTransfer → Option ℕ → Counts
    answered_counts_of None latest = nothing_counted
    answered_counts_of (Some s) latest = answer_counts latest line

    -- an answer before the marks `ms` adds that of the waiting transfer, if one waits, and the rows of the marks add
    -- theirs
    counts-answer : (latest : Option ℕ) (w : Option StartedTransfer)
        → counts_after_marks (at_answer suc (tally c latest w u) (record { line = line; lanes = lanes })) ms
        ≡ sum_of c (sum_of (answered_counts_of w latest) (counts_of_marked_rows latest ms))
    counts-answer None None = counted c None None u
    counts-answer None (Some s) =
        counted (record c { pending = suc c.pending }) None None (option_or u (Some s))
        ∙ sum_of-pending c (sum_of nothing_counted (counts_of_marked_rows None ms))
        ∙ ap (λ (d : Counts). sum_of c (sum_of one_pending d)) (sum_of-nothing (counts_of_marked_rows None ms))
    counts-answer (Some k) None = counted c (Some k) None u
    counts-answer (Some k) (Some s) =
        counted (by_line suc c line) (Some k) None u
        ∙ sum_of-by_line c (sum_of nothing_counted (counts_of_marked_rows (Some k) ms)) line
        ∙ ap (λ (d : Counts). sum_of c (sum_of (by_line suc nothing_counted line) d))
        (sum_of-nothing (counts_of_marked_rows (Some k) ms))

  -- the counts after marks `ms` are those before, that of the waiting transfer, and those of the rows
  pub AreCounted-marks : (ms : List Mark) → AreCounted ms
  unfolding counts_of_rows
  AreCounted-marks [] c latest None u = sym (sum_of-nothing_twice c)
  AreCounted-marks [] c latest (Some s) u = sym (sum_of-one_pending c)
  AreCounted-marks (m ∷ ms) c latest w u = by_kind (AreCounted-marks ms) m.instant m.kind w latest
    where
      by_kind : AreCounted ms → (i : ℕ) (k : MarkKind) (w : Option StartedTransfer) (latest : Option ℕ)
          → counts_after_marks (tally c latest w u) (record { instant = i; kind = k } ∷ ms)
          ≡ expected_counts c latest w (record { instant = i; kind = k } ∷ ms)
      by_kind so_far i kind.Reset w latest = IsMarkCounted-reset ms so_far c latest u i w
      by_kind so_far i kind.Start w latest = counts-unlisted_mark ms so_far c latest u i w kind.Start refl refl refl
      by_kind so_far i kind.Open w latest = counts-unlisted_mark ms so_far c latest u i w kind.Open refl refl refl
      by_kind so_far i (kind.Tenure level slot) w latest = IsMarkCounted-tenure ms so_far c latest u i w level slot
      by_kind so_far i kind.TenureEnd w latest =
          counts-unlisted_mark ms so_far c latest u i w kind.TenureEnd refl refl refl
      by_kind so_far i (kind.Cycle k modifier address) w latest =
          IsMarkCounted-cycle ms so_far c latest u i w k modifier address
      by_kind so_far i kind.CycleEnd w latest =
          counts-unlisted_mark ms so_far c latest u i w kind.CycleEnd refl refl refl
      by_kind so_far i (kind.Transfer write) w latest = IsMarkCounted-transfer ms so_far c latest u i w write
      by_kind so_far i (kind.Answer line) None latest = counts-answer ms so_far c u line None latest None
      by_kind so_far i (kind.Answer line) (Some s) latest =
          counts-answer ms so_far c u line None latest (Some s)
      by_kind so_far i (kind.WriteAnswer line moved unknown value) None latest =
          counts-answer ms so_far c u line
          (Some (record { moved = moved; unknown = unknown; value = value })) latest None
      by_kind so_far i (kind.WriteAnswer line moved unknown value) (Some s) latest =
          counts-answer ms so_far c u line
          (Some (record { moved = moved; unknown = unknown; value = value })) latest (Some s)
      by_kind so_far i kind.Close w latest = counts-unlisted_mark ms so_far c latest u i w kind.Close refl refl refl
