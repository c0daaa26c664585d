-- The directions and kinds in the rows of transfers and cycles, and the levels of their lines as they start.
use Rattle.std.proofs.Common.{lit<, ◌≡◌, ℕ, ◌+◌, ◌<◌, ◌≤◌, Bool, true, false, ◌&&◌, not, if◌then◌else◌, refl, sym, ◌∙◌}
use Rattle.std.proofs.Common.{ap, arith, All}
use Rattle.std.specs.Prelude.{Option, None, Some, ◌==◌}
use Rattle.vme_trace.specs.Instants.{least}
use Rattle.vme_trace.specs.LineNumbers.{AS, IACK, WRITE}
use Rattle.vme_trace.specs.Cycle.{class_of, has_known_modifier, is_block, modifier_of, highest_address}
use Rattle.vme_trace.specs.Levels.{Levels, is_low, is_high, is_known, level_at}
use Rattle.vme_trace.specs.Trace.{Trace, levels_at}
use Rattle.vme_trace.specs.Signals.{level, low, high, known, rises}
use Rattle.vme_trace.specs.Judged.{Stretch, IsStretchOf}
use Rattle.vme_trace.specs.Transfers.{strobes_high, transfer_starts, answers, is_write}
use Rattle.vme_trace.specs.Cycles.{cycle_starts, cycle_of}
use Rattle.vme_trace.specs.Rules.{is_broken}
use Rattle.vme_trace.specs.declared.rule.Rule.TheVariants as rule
use Rattle.vme_trace.specs.declared.class.Class.{Class}
use Rattle.vme_trace.specs.declared.class.Class.TheVariants as class
use Rattle.vme_trace.specs.declared.level.Level.{Level}
use Rattle.vme_trace.specs.declared.level.Level.TheVariants.{Low, High, Unknown}
use Rattle.vme_listing.specs.Recorded.{answer_line, cycle_row, transfer_row, answered_row, rows_before, data_of}
use Rattle.vme_listing.specs.declared.row.Direction.TheVariants.{Read, Write}
use Rattle.vme_listing.specs.declared.row.Row.TheVariants.{Transfer, PendingTransfer}
use Rattle.vme_split.specs.Split.{ShowsAcknowledge, ShowsDirection}
use Rattle.vme_split.proofs.Unbroken.{IsUnbroken, is_broken-unbroken}
use Rattle.vme_split.proofs.Known.{IsWatched, high-watched, cycle_starts-after}
use Rattle.vme_split.proofs.Transfers.{transfer_starts-after}
use Rattle.vme_split.proofs.EachRow.{All-rows_before, All-tenure_rows, All-cycle_rows_any, All-cycle_rows_start}
use Rattle.vme_split.proofs.EachRow.{All-transfer_rows, All-transfer_rows_any}

-- a known level that isn't low is high
is_high-known_not_low : (x : Level) → is_known x ≡ true → is_low x ≡ false → is_high x ≡ true
is_high-known_not_low Low h e = absurd (cc)
is_high-known_not_low High h e = refl
is_high-known_not_low Unknown h e = absurd (cc)

-- where the class is that of an interrupt acknowledge, IACK is low
is_low-acknowledge : (v : Levels) → class_of v ≡ class.I → is_low (level_at v IACK) ≡ true
unfolding class_of
is_low-acknowledge v h = by (is_low (level_at v IACK)) (has_known_modifier v) (is_block (modifier_of v))
    (highest_address (modifier_of v) == 0) h
  where
    by : (a b c d : Bool) → (if a then class.I else if not b then class.F else if c then class.K else if d then class.F
        else class.S) ≡ class.I → a ≡ true
    by true b c d h = refl
    by false false c d h = absurd (cc)
    by false true true d h = absurd (cc)
    by false true false true h = absurd (cc)
    by false true false false h = absurd (cc)

-- where the class is another, IACK isn't low
is_low-no_acknowledge : (v : Levels) → (class_of v ≡ class.I → ⊥) → is_low (level_at v IACK) ≡ false
unfolding class_of
is_low-no_acknowledge v h = by (is_low (level_at v IACK)) (has_known_modifier v) (is_block (modifier_of v))
    (highest_address (modifier_of v) == 0) h
  where
    by : (a b c d : Bool) → ((if a then class.I else if not b then class.F else if c then class.K else if d then class.F
        else class.S) ≡ class.I → ⊥) → a ≡ false
    by true b c d h = absurd (h refl)
    by false b c d h = refl

-- IACK is a control line of every backplane
IsWatched-IACK : IsWatched IACK
IsWatched-IACK = (lit< tt, λ slots. refl)

module _ (t : Trace) (stretch : Stretch) (is : IsStretchOf t stretch) (end : ℕ) (within : stretch.start < end)
    (most : end ≤ stretch.end) (unbroken : IsUnbroken t stretch end) where
  -- the row of a cycle is of an interrupt acknowledge just if IACK is low as the cycle starts
  ShowsAcknowledge-cycle_row : (i : ℕ) → i < end → cycle_starts t stretch i ≡ true → (e : Option ℕ) (c : Class)
      → class_of (levels_at t i)
      ≡ c → ShowsAcknowledge t (cycle_row i (levels_at t i) e c)
  unfolding low
  ShowsAcknowledge-cycle_row i before starts e class.I of = is_low-acknowledge (levels_at t i) of
  ShowsAcknowledge-cycle_row i before starts e class.S of = high-watched t stretch is IACK IsWatched-IACK i
      (omega (arith, cycle_starts-after t stretch i starts))
      (omega arith) ∙ ap not (is_low-no_acknowledge (levels_at t i)
      (λ h. let same : class.S ≡ class.I = sym of ∙ h in cc))
  ShowsAcknowledge-cycle_row i before starts e class.K of = high-watched t stretch is IACK IsWatched-IACK i
      (omega (arith, cycle_starts-after t stretch i starts))
      (omega arith) ∙ ap not (is_low-no_acknowledge (levels_at t i)
      (λ h. let same : class.K ≡ class.I = sym of ∙ h in cc))
  ShowsAcknowledge-cycle_row i before starts e class.F of = high-watched t stretch is IACK IsWatched-IACK i
      (omega (arith, cycle_starts-after t stretch i starts))
      (omega arith) ∙ ap not (is_low-no_acknowledge (levels_at t i)
      (λ h. let same : class.F ≡ class.I = sym of ∙ h in cc))

  -- each row of a cycle shows whether it is an interrupt acknowledge
  pub All-ShowsAcknowledge : All (ShowsAcknowledge t) (rows_before t stretch end end)
  All-ShowsAcknowledge = All-rows_before (ShowsAcknowledge t) t stretch end
      (λ i before. All-tenure_rows (ShowsAcknowledge t) t stretch end i (λ e. tt) (λ starts level slot e l s. tt))
      (λ i before. All-cycle_rows_start (ShowsAcknowledge t) t stretch end i
      (λ starts. ShowsAcknowledge-cycle_row i before starts
      (least (rises t AS) (i + 1) end) (class_of (levels_at t i)) refl))
      (All-transfer_rows_any (ShowsAcknowledge t) t stretch end (λ d l i c r e x. tt) (λ i d. tt))
      end (omega arith)

  -- WRITE is known as a transfer starts
  known-write : (i : ℕ) → i < end → transfer_starts t stretch i ≡ true → known t WRITE i ≡ true
  unfolding is_broken
  known-write i before starts = by (transfer_starts t stretch i) (known t WRITE i) starts
      (is_broken-unbroken t stretch end most unbroken rule.U3 i WRITE (transfer_starts-after t stretch i starts) before
      (lit< tt) refl)
    where
      by : (a b : Bool) → a ≡ true → (true && a && not b) ≡ false → b ≡ true
      by true true h e = refl
      by true false h e = absurd (cc)
      by false b h e = absurd (cc)

  -- WRITE is high as a transfer starts, if it isn't low
  high-write : (i : ℕ) → i < end → transfer_starts t stretch i ≡ true → low t WRITE i ≡ false → high t WRITE i ≡ true
  unfolding low high known
  high-write i before starts off = is_high-known_not_low (level t WRITE i) (known-write i before starts) off

  module _ (i : ℕ) (before : i < end) (starts : transfer_starts t stretch i ≡ true) where
    -- the row of a transfer without an answer shows its direction
    ShowsDirection-pending : ShowsDirection t (transfer_row t stretch end i None)
    unfolding is_write
    ShowsDirection-pending = by (low t WRITE i) refl
      where
        by : (b : Bool) → low t WRITE i ≡ b → ShowsDirection t (PendingTransfer i (if b then Write else Read))
        by true h = h
        by false h = high-write i before starts h

    -- the row of an answered transfer shows its direction
    ShowsDirection-answered : (r c : ℕ) → ShowsDirection t (answered_row t stretch end i r (Some c))
    unfolding is_write
    ShowsDirection-answered r c = by (low t WRITE i) refl
      where
        by : (b : Bool) → low t WRITE i ≡ b → ShowsDirection t (Transfer (if b then Write else Read)
            (answer_line t stretch end r) i c r (least (strobes_high t) (i + 1) end) (data_of t stretch end i r))
        by true h = h
        by false h = high-write i before starts h

    -- the row of a transfer whose answer is in no cycle shows its direction
    ShowsDirection-no_cycle : (r : ℕ) → ShowsDirection t (answered_row t stretch end i r None)
    ShowsDirection-no_cycle r = ShowsDirection-pending

    -- the row of a transfer that is answered in a cycle, or in none, shows its direction
    ShowsDirection-answered_row : (r : ℕ) (o : Option ℕ) → ShowsDirection t (answered_row t stretch end i r o)
    ShowsDirection-answered_row r None = ShowsDirection-no_cycle r
    ShowsDirection-answered_row r (Some c) = ShowsDirection-answered r c

    -- the row of a transfer shows its direction
    ShowsDirection-transfer_row : (o : Option ℕ) → ShowsDirection t (transfer_row t stretch end i o)
    ShowsDirection-transfer_row None = ShowsDirection-pending
    ShowsDirection-transfer_row (Some r) = ShowsDirection-answered_row r (cycle_of t stretch r)

  -- each row of a transfer shows its direction
  pub All-ShowsDirection : All (ShowsDirection t) (rows_before t stretch end end)
  All-ShowsDirection = All-rows_before (ShowsDirection t) t stretch end
      (λ i before. All-tenure_rows (ShowsDirection t) t stretch end i (λ e. tt) (λ starts level slot e l s. tt))
      (All-cycle_rows_any (ShowsDirection t) t stretch end (λ i c m a e. tt) (λ i m e. tt) (λ i l e. tt))
      (λ i before. All-transfer_rows (ShowsDirection t) t stretch end i
      (λ starts. ShowsDirection-transfer_row i before starts
      (least (answers t stretch i) i end)))
      end (omega arith)
