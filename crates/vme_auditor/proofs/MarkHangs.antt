-- The first transfer without an answer that no reset follows is the same by marks, taken one by one, and by the rows
-- that they make.
use Rattle.std.proofs.Common.{◌≡◌, ℕ, suc, Bool, true, false, not, ◌||◌, List, [], ◌∷◌, refl, sym, ◌∙◌, ap, cond}
use Rattle.std.proofs.Common.{Option}
use Rattle.std.proofs.Common.{None, Some}
use Rattle.std.specs.Prelude.{is_some}
use Rattle.std.specs.List.{fold, list_any}
use Rattle.std.specs.Option.{option_map, option_map_or, option_or}
use Rattle.vme_trace.specs.declared.class.Class.{Class}
use Rattle.vme_trace.specs.declared.class.Class.TheVariants as class
use Rattle.vme_trace.specs.declared.data.Lanes.{Lanes}
use Rattle.vme_trace.proofs.ListLaws.{option_or-none}
use Rattle.vme_listing.specs.Places.{is_reset as is_reset_row}
use Rattle.vme_listing.specs.declared.row.AnswerLine.{AnswerLine}
use Rattle.vme_listing.specs.declared.row.Direction.{Direction}
use Rattle.vme_listing.specs.declared.row.Row.{Row}
use Rattle.vme_listing.specs.declared.row.Row.TheVariants as row
use Rattle.vme_monitor.specs.Run.{write_answer}
use Rattle.vme_monitor.specs.declared.mark.Mark.{Mark}
use Rattle.vme_monitor.specs.declared.mark.MarkKind.{MarkKind}
use Rattle.vme_monitor.specs.declared.mark.MarkKind.TheVariants as kind
use Rattle.vme_monitor.specs.declared.mark.TransferAnswer.{TransferAnswer}
use Rattle.vme_summary.specs.MarkedRows.{answer_of, cycle_after, first_instant, is_close, is_cycle_end, is_reset}
use Rattle.vme_summary.specs.MarkedRows.{is_tenure_end, is_transfer}
use Rattle.vme_summary.specs.MarkedRows.{marked_answer, marked_cycle, marked_direction, marked_line, marked_transfer}
use Rattle.vme_summary.specs.MarkedRows.{rows_of}
use Rattle.vme_audit.specs.Covered.{hanging, pending_start}
use Rattle.vme_audit.specs.declared.counts.Counts.{Counts}
use Rattle.vme_auditor.specs.Tallied.{at_answer, by_line, hang_so_far, of_class, of_direction}
use Rattle.vme_auditor.specs.declared.tally.StartedTransfer.{StartedTransfer}
use Rattle.vme_auditor.specs.declared.tally.Tally.{Tally}
use Rattle.vme_auditor.proofs.MarkCounts.{mark_tallied, tally}
use Rattle.vme_auditor.proofs.Truth.{or_fails}

-- one of the marks is a reset
abbrev pub has_reset : List Mark → Bool
has_reset [] = false
has_reset (m ∷ ms) = is_reset m.kind || has_reset ms

-- the transfer that started last stays without an answer in the marks `ms` after it
abbrev waits : Option ℕ → List Mark → Bool
waits latest [] = true
waits latest (m ∷ ms) =
    option_map_or (λ (a : TransferAnswer). not (is_some latest)) (answer_of m.kind)
    (cond (is_transfer m.kind || is_reset m.kind) true (waits (cycle_after latest m) ms))

-- the waiting transfer, if there is one and it stays without an answer in the marks `ms`
abbrev still_waits : Option StartedTransfer → Option ℕ → List Mark → Option StartedTransfer
still_waits None latest ms = None
still_waits (Some s) latest ms = cond (waits latest ms) (Some s) None

-- a mark that is no answer, no transfer and no reset leaves the waiting transfer as it is
still_waits-other_mark : (w : Option StartedTransfer) (latest : Option ℕ) (m : Mark) (ms : List Mark) → answer_of m.kind
    ≡ None
    → (is_transfer m.kind || is_reset m.kind) ≡ false → still_waits w latest (m ∷ ms)
    ≡ still_waits w (cycle_after latest m) ms
still_waits-other_mark None latest m ms e f = refl
still_waits-other_mark (Some s) latest m ms e f = rw (e, f) refl

-- the row of a transfer
module _ (i : ℕ) (direction : Direction) (close : Option ℕ) where
  -- the row of the transfer that starts at `i`, by the marks `ms` after it
  abbrev row_of_transfer : Option ℕ → List Mark → Row
  row_of_transfer latest ms = marked_transfer i direction close latest ms

  -- a transfer stays without an answer at a mark that answers exactly if no cycle started
  pending_start-marked_answer : (latest : Option ℕ) (at : ℕ) (a : TransferAnswer) → pending_start
      (marked_answer i direction close at latest a) ≡ cond (not (is_some latest)) (Some i) None
  pending_start-marked_answer None at a = refl
  pending_start-marked_answer (Some k) at a = refl

  -- a property that no row of a transfer has
  module _ (is : Row → Bool) (pending : is (row.PendingTransfer i direction) ≡ false)
      (answered : (line : AnswerLine) (cycle answer : ℕ) (lanes : Option Lanes)
      → is (row.Transfer direction line i cycle answer close lanes) ≡ false) where
    -- the row of a transfer that a mark answers hasn't the property
    marked_answer-never : (latest : Option ℕ) (at : ℕ) (a : TransferAnswer) → is
        (marked_answer i direction close at latest a) ≡ false
    marked_answer-never None at a = pending
    marked_answer-never (Some k) at a = answered (marked_line a.line) k at a.lanes

    -- the row of a transfer hasn't the property
    pub marked_transfer-never : (ms : List Mark) (latest : Option ℕ) → is (row_of_transfer latest ms) ≡ false
    marked_transfer-never [] latest = pending
    marked_transfer-never (m ∷ ms) latest = by_kind (marked_transfer-never ms) m.instant m.kind
      where
        by_kind : ((latest : Option ℕ) → is (row_of_transfer latest ms) ≡ false) → (at : ℕ) (k : MarkKind)
            → is (row_of_transfer latest (record { instant = at; kind = k } ∷ ms)) ≡ false
        by_kind so_far at kind.Reset = pending
        by_kind so_far at kind.Start = so_far latest
        by_kind so_far at kind.Open = so_far latest
        by_kind so_far at (kind.Tenure level slot) = so_far latest
        by_kind so_far at kind.TenureEnd = so_far latest
        by_kind so_far at (kind.Cycle c modifier address) = so_far (Some at)
        by_kind so_far at kind.CycleEnd = so_far latest
        by_kind so_far at (kind.Transfer other) = pending
        by_kind so_far at (kind.Answer line) = marked_answer-never latest at (record { line = line; lanes = None })
        by_kind so_far at (kind.WriteAnswer line moved unknown value) =
            marked_answer-never latest at (write_answer line moved unknown value)
        by_kind so_far at kind.Close = so_far latest

  -- the row of a transfer is one without an answer exactly if it waits through the marks
  pending_start-marked_transfer : (ms : List Mark) (latest : Option ℕ) → pending_start (row_of_transfer latest ms)
      ≡ cond (waits latest ms) (Some i) None
  pending_start-marked_transfer [] latest = refl
  pending_start-marked_transfer (m ∷ ms) latest = by_kind (pending_start-marked_transfer ms) m.instant m.kind
    where
      by_kind : ((latest : Option ℕ) → pending_start (row_of_transfer latest ms) ≡ cond (waits latest ms) (Some i) None)
          → (at : ℕ) (k : MarkKind) → pending_start (row_of_transfer latest (record { instant = at; kind = k } ∷ ms))
          ≡ cond (waits latest (record { instant = at; kind = k } ∷ ms)) (Some i) None
      by_kind so_far at kind.Reset = refl
      by_kind so_far at kind.Start = so_far latest
      by_kind so_far at kind.Open = so_far latest
      by_kind so_far at (kind.Tenure level slot) = so_far latest
      by_kind so_far at kind.TenureEnd = so_far latest
      by_kind so_far at (kind.Cycle c modifier address) = so_far (Some at)
      by_kind so_far at kind.CycleEnd = so_far latest
      by_kind so_far at (kind.Transfer other) = refl
      by_kind so_far at (kind.Answer line) =
          pending_start-marked_answer latest at (record { line = line; lanes = None })
      by_kind so_far at (kind.WriteAnswer line moved unknown value) =
          pending_start-marked_answer latest at (write_answer line moved unknown value)
      by_kind so_far at kind.Close = so_far latest

-- the row of a cycle is no reset
is_reset_row-marked_cycle : (i modifier address : ℕ) (end : Option ℕ) (c : Class) → is_reset_row
    (marked_cycle i modifier address end c) ≡ false
is_reset_row-marked_cycle i modifier address end class.S = refl
is_reset_row-marked_cycle i modifier address end class.K = refl
is_reset_row-marked_cycle i modifier address end class.F = refl
is_reset_row-marked_cycle i modifier address end class.I = refl

-- the row of a cycle is no transfer without an answer
pending_start-marked_cycle : (i modifier address : ℕ) (end : Option ℕ) (c : Class) → pending_start
    (marked_cycle i modifier address end c) ≡ None
pending_start-marked_cycle i modifier address end class.S = refl
pending_start-marked_cycle i modifier address end class.K = refl
pending_start-marked_cycle i modifier address end class.F = refl
pending_start-marked_cycle i modifier address end class.I = refl

-- the rows have a reset exactly if the marks have one
has_reset-rows : (ms : List Mark) (latest : Option ℕ) → list_any is_reset_row (rows_of latest ms) ≡ has_reset ms
has_reset-rows [] latest = refl
has_reset-rows (m ∷ ms) latest = by_kind (has_reset-rows ms) m.instant m.kind
  where
    by_kind : ((latest : Option ℕ) → list_any is_reset_row (rows_of latest ms) ≡ has_reset ms)
        → (i : ℕ) (k : MarkKind) → list_any is_reset_row (rows_of latest (record { instant = i; kind = k } ∷ ms))
        ≡ has_reset (record { instant = i; kind = k } ∷ ms)
    by_kind so_far i kind.Reset = refl
    by_kind so_far i kind.Start = so_far latest
    by_kind so_far i kind.Open = so_far latest
    by_kind so_far i (kind.Tenure level slot) = so_far latest
    by_kind so_far i kind.TenureEnd = so_far latest
    by_kind so_far i (kind.Cycle c modifier address) =
        or_fails _ _ (is_reset_row-marked_cycle i modifier address _ c) ∙ so_far (Some i)
    by_kind so_far i kind.CycleEnd = so_far latest
    by_kind so_far i (kind.Transfer write) =
        or_fails _ _ (marked_transfer-never i (marked_direction write) _ is_reset_row refl
        (λ line cycle answer lanes. refl) ms latest) ∙ so_far latest
    by_kind so_far i (kind.Answer line) = so_far latest
    by_kind so_far i (kind.WriteAnswer line moved unknown value) = so_far latest
    by_kind so_far i kind.Close = so_far latest

-- a row that isn't a transfer without an answer doesn't change which transfer hangs
pub hanging-other_row : (r : Row) (rows : List Row) → pending_start r ≡ None → hanging (r ∷ rows) ≡ hanging rows
hanging-other_row r rows e = rw e (by_test (list_any is_reset_row rows))
  where
    by_test : (b : Bool) → option_or (cond b None None) (hanging rows) ≡ hanging rows
    by_test true = refl
    by_test false = refl

module _ (at : ℕ → StartedTransfer) where
  -- the first transfer without an answer by the tally `a` after the marks `ms`
  abbrev hang_after : Tally → List Mark → Option StartedTransfer
  hang_after a ms = hang_so_far (fold (mark_tallied at) a ms)

  -- the first transfer without an answer by the rows that the marks make
  abbrev hanging_among : Option ℕ → List Mark → Option StartedTransfer
  hanging_among latest ms = option_map at (hanging (rows_of latest ms))

  -- the first transfer without an answer from before the marks, `u` or the waiting `w`, unless a reset is among them
  abbrev hanging_before : Option StartedTransfer → Option StartedTransfer → Option ℕ → List Mark
      → Option StartedTransfer
  hanging_before u w latest ms = cond (has_reset ms) None (option_or u (still_waits w latest ms))

  -- for any tally, the first hanging transfer after marks `ms` is one from before them, or else one of their rows
  abbrev Hangs : List Mark → Type 0
  Hangs ms = (c : Counts) (latest : Option ℕ) (w u : Option StartedTransfer)
      → hang_after (tally c latest w u) ms ≡ option_or (hanging_before u w latest ms) (hanging_among latest ms)

  -- the first of a transfer from before (`u`), one from instant `i` and a later one (`h`) is the same however they are
  -- grouped; a reset clears the first two
  option_or-hanging : (reset wait : Bool) (u : Option StartedTransfer) (i : ℕ) (h : Option ℕ)
      → option_or (cond reset None (option_or u (cond wait (Some (at i)) None))) (option_map at h)
      ≡ option_or (cond reset None u) (option_map at (option_or (cond reset None (cond wait (Some i) None)) h))
  option_or-hanging true wait u i h = refl
  option_or-hanging false wait (Some s) i h = refl
  option_or-hanging false true None i h = refl
  option_or-hanging false false None i h = refl

  module _ (ms : List Mark) (hangs : Hangs ms) (c : Counts) (i : ℕ) where
    -- a mark that makes no row of a transfer or of a reset changes no hanging transfer
    Hangs-other_mark : (k : MarkKind) (d : Counts) (latest next : Option ℕ) (w u : Option StartedTransfer)
        → answer_of k ≡ None
        → (is_transfer k || is_reset k) ≡ false → cycle_after latest (record { instant = i; kind = k }) ≡ next
        → is_reset k ≡ false → hanging (rows_of latest (record { instant = i; kind = k } ∷ ms))
        ≡ hanging (rows_of next ms)
        → hang_after (tally d next w u) ms
        ≡ option_or (hanging_before u w latest (record { instant = i; kind = k } ∷ ms))
        (hanging_among latest (record { instant = i; kind = k } ∷ ms))
    Hangs-other_mark k d latest next w u e f g h same =
        hangs d next w u
        ∙ ap (λ (o : Option StartedTransfer). option_or (cond (has_reset ms) None (option_or u o))
        (hanging_among next ms))
        (ap (λ (o : Option ℕ). still_waits w o ms) (sym g)
        ∙ sym (still_waits-other_mark w latest (record { instant = i; kind = k }) ms e f))
        ∙ ap (λ (b : Bool). option_or (cond b None
        (option_or u (still_waits w latest (record { instant = i; kind = k } ∷ ms)))) (hanging_among next ms))
        (sym (or_fails (is_reset k) (has_reset ms) h))
        ∙ ap (λ (o : Option ℕ). option_or (hanging_before u w latest (record { instant = i; kind = k } ∷ ms))
        (option_map at o)) (sym same)

    -- the start of a transfer: the first that hangs is `u`, or else one of the rows of this mark and those after it
    Hangs-transfer : (latest : Option ℕ) (d : Counts) (write : Bool) (u : Option StartedTransfer)
        → hang_after (tally d latest (Some (at i)) u) ms
        ≡ option_or (cond (has_reset ms) None u)
        (hanging_among latest (record { instant = i; kind = kind.Transfer write } ∷ ms))
    Hangs-transfer latest d write u =
        hangs d latest (Some (at i)) u
        ∙ option_or-hanging (has_reset ms) (waits latest ms) u i (hanging (rows_of latest ms))
        ∙ ap (λ (o : Option ℕ). option_or (cond (has_reset ms) None u)
        (option_map at (option_or (cond (has_reset ms) None o) (hanging (rows_of latest ms)))))
        (sym (pending_start-marked_transfer i (marked_direction write) (first_instant is_close ms) ms latest))
        ∙ ap (λ (b : Bool). option_or (cond (has_reset ms) None u)
        (option_map at (option_or (cond b None
        (pending_start (marked_transfer i (marked_direction write) (first_instant is_close ms) latest ms)))
        (hanging (rows_of latest ms)))))
        (sym (has_reset-rows ms latest))

    -- after a reset the first transfer that hangs is the first of the rows after it
    Hangs-reset : (d : Counts) → hang_after (tally d None None None) ms
        ≡ option_map at (hanging (row.Reset i ∷ rows_of None ms))
    Hangs-reset d =
        hangs d None None None
        ∙ by_test (has_reset ms)
        ∙ ap (option_map at) (sym (hanging-other_row (row.Reset i) (rows_of None ms) refl))
      where
        by_test : (b : Bool) → option_or (cond b None None) (hanging_among None ms) ≡ hanging_among None ms
        by_test true = refl
        by_test false = refl

  module _ (ms : List Mark) (hangs : Hangs ms) (c : Counts) (u : Option StartedTransfer) (line : ℕ)
      (lanes : Option Lanes) where
    -- the transfer that stays without an answer though an answer comes: the waiting one, if no cycle started
    abbrev left_waiting : Option StartedTransfer → Option ℕ → Option StartedTransfer
    left_waiting None latest = None
    left_waiting (Some s) latest = cond (not (is_some latest)) (Some s) None

    -- an answer: the first that hangs is `u`, the waiting one if no cycle started, or else one of the rows after it
    Hangs-answer : (latest : Option ℕ) (w : Option StartedTransfer)
        → hang_after (at_answer suc (tally c latest w u) (record { line = line; lanes = lanes })) ms
        ≡ option_or (cond (has_reset ms) None (option_or u (left_waiting w latest))) (hanging_among latest ms)
    Hangs-answer None None = hangs c None None u
    Hangs-answer None (Some s) =
        hangs (record c { pending = suc c.pending }) None None (option_or u (Some s))
        ∙ ap (λ (o : Option StartedTransfer). option_or (cond (has_reset ms) None o) (hanging_among None ms))
        (option_or-none (option_or u (Some s)))
    Hangs-answer (Some k) None = hangs c (Some k) None u
    Hangs-answer (Some k) (Some s) = hangs (by_line suc c line) (Some k) None u

  -- after marks `ms` the first transfer without an answer is one from before, the waiting one, or one of the rows
  pub Hangs-marks : (ms : List Mark) → Hangs ms
  Hangs-marks [] c latest None u = sym (option_or-none (option_or u None))
  Hangs-marks [] c latest (Some s) u = sym (option_or-none (option_or u (Some s)))
  Hangs-marks (m ∷ ms) c latest w u = by_kind (Hangs-marks ms) m.instant m.kind w latest
    where
      by_kind : Hangs ms → (i : ℕ) (k : MarkKind) (w : Option StartedTransfer) (latest : Option ℕ)
          → hang_after (tally c latest w u) (record { instant = i; kind = k } ∷ ms)
          ≡ option_or (hanging_before u w latest (record { instant = i; kind = k } ∷ ms))
          (hanging_among latest (record { instant = i; kind = k } ∷ ms))
      by_kind so_far i kind.Reset None latest = Hangs-reset ms so_far c i (record c { resets = suc c.resets })
      by_kind so_far i kind.Reset (Some s) latest = Hangs-reset ms so_far c i
          (record c { pending = suc c.pending; resets = suc c.resets })
      by_kind so_far i kind.Start w latest =
          Hangs-other_mark ms so_far c i kind.Start c latest latest w u refl refl refl refl
          (hanging-other_row (row.Start i) (rows_of latest ms) refl)
      by_kind so_far i kind.Open w latest =
          Hangs-other_mark ms so_far c i kind.Open c latest latest w u refl refl refl refl
          (hanging-other_row (row.OpenTenure i (first_instant is_tenure_end ms)) (rows_of latest ms) refl)
      by_kind so_far i (kind.Tenure level slot) w latest =
          Hangs-other_mark ms so_far c i (kind.Tenure level slot) (record c { tenures = suc c.tenures }) latest latest
          w u refl refl refl refl
          (hanging-other_row (row.Tenure i level slot (first_instant is_tenure_end ms)) (rows_of latest ms) refl)
      by_kind so_far i kind.TenureEnd w latest =
          Hangs-other_mark ms so_far c i kind.TenureEnd c latest latest w u refl refl refl refl refl
      by_kind so_far i (kind.Cycle k modifier address) w latest =
          Hangs-other_mark ms so_far c i (kind.Cycle k modifier address) (of_class suc c k) latest (Some i) w u refl
          refl refl refl
          (hanging-other_row (marked_cycle i modifier address (first_instant is_cycle_end ms) k) (rows_of (Some i) ms)
          (pending_start-marked_cycle i modifier address (first_instant is_cycle_end ms) k))
      by_kind so_far i kind.CycleEnd w latest =
          Hangs-other_mark ms so_far c i kind.CycleEnd c latest latest w u refl refl refl refl refl
      by_kind so_far i (kind.Transfer write) None latest =
          Hangs-transfer ms so_far c i latest (of_direction suc c write) write u
          ∙ ap (λ (o : Option StartedTransfer). option_or (cond (has_reset ms) None o)
          (hanging_among latest (record { instant = i; kind = kind.Transfer write } ∷ ms))) (sym (option_or-none u))
      by_kind so_far i (kind.Transfer write) (Some s) latest =
          Hangs-transfer ms so_far c i latest (of_direction suc (record c { pending = suc c.pending }) write)
          write (option_or u (Some s))
      by_kind so_far i (kind.Answer line) None latest = Hangs-answer ms so_far c u line None latest None
      by_kind so_far i (kind.Answer line) (Some s) latest = Hangs-answer ms so_far c u line None latest (Some s)
      by_kind so_far i (kind.WriteAnswer line moved unknown value) None latest =
          Hangs-answer ms so_far c u line
          (Some (record { moved = moved; unknown = unknown; value = value })) latest None
      by_kind so_far i (kind.WriteAnswer line moved unknown value) (Some s) latest =
          Hangs-answer ms so_far c u line
          (Some (record { moved = moved; unknown = unknown; value = value })) latest (Some s)
      by_kind so_far i kind.Close w latest =
          Hangs-other_mark ms so_far c i kind.Close c latest latest w u refl refl refl refl refl
