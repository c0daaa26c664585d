-- The rows of the marks (events of the bus) of a stretch before an instant are the rows of its instants, one after the
-- other.
use Rattle.std.proofs.Common.{◌≡◌, ℕ, zero, suc, ◌+◌, ◌<◌, ◌≤◌, Bool, true, false, ◌&&◌, List, [], ◌∷◌, ◌++◌, map, refl}
use Rattle.std.proofs.Common.{sym, ◌∙◌, ap, arith, Option, None, cond, inl, inr, ◌⊎◌, append_assoc, append-nil}
use Rattle.std.specs.Prelude.{◌==◌, nat_lt, nat_le}
use Rattle.std.proofs.lemmas.Bool.{cases_lt, le-leb, lt-ltb, eq-eqb}
use Rattle.vme_trace.specs.LineNumbers.{BBSY}
use Rattle.vme_trace.specs.Levels.{is_idle, is_low, level_at}
use Rattle.vme_trace.specs.Trace.{Trace, levels_at}
use Rattle.vme_trace.specs.Signals.{low}
use Rattle.vme_trace.specs.Judged.{Stretch, is_reset_at}
use Rattle.vme_trace.specs.Cycles.{cycle_starts}
use Rattle.vme_trace.proofs.Ranges.{greatest-empty, eq-fails_below, eq-fails_above}
use Rattle.vme_trace.proofs.Unjudged.{is_judged-early}
use Rattle.vme_listing.specs.Recorded.{cycle_rows, rows_before, tenure_rows, transfer_rows}
use Rattle.vme_listing.specs.declared.row.Row.{Row}
use Rattle.vme_listing.specs.declared.row.Row.TheVariants as row
use Rattle.vme_monitor.specs.Run.{mark_at, kinds_of, no_step_marks}
use Rattle.vme_monitor.specs.Shows.{marks_on, marks_until}
use Rattle.vme_monitor.specs.declared.mark.MarkKind.TheVariants as kind
use Rattle.vme_monitor.specs.declared.mark.StepMarks.{StepMarks}
use Rattle.vme_monitor.specs.declared.mark.Mark.{Mark}
use Rattle.vme_monitor.specs.KnownRules.{known_reset_marks}
use Rattle.vme_summary.specs.AllShown.{all_over, all_shown}
use Rattle.vme_summary.specs.MarkedRows.{first_instant, is_cycle_end, is_tenure_end, opening_marks, rows_of}
use Rattle.vme_summary.proofs.InstantMarks.{all_put, all_put-kinds, after_cycle, after_open, after_tenure}
use Rattle.vme_summary.proofs.InstantMarks.{after_transfer}
use Rattle.vme_summary.proofs.InstantMarks.{cycle_row_at, transfer_row_at, open_row, rows_of-all_put, start_row}
use Rattle.vme_summary.proofs.InstantMarks.{tenure_row_at}
use Rattle.vme_summary.proofs.Forward.{marks_from}
use Rattle.vme_summary.proofs.MarkedCuts.{marks_on-before_start, marks_until-same}
use Rattle.vme_summary.proofs.MarkedKinds.{cycle_starts-unjudged, tenure_starts-unjudged, transfer_starts-unjudged}
use Rattle.vme_summary.proofs.MarkedKinds.{all_shown-shown_at, shown_at, shown_at-unjudged}
use Rattle.vme_summary.proofs.MarkedRowsFound.{cycle_rows-of_marks, latest, latest-one_more}
use Rattle.vme_summary.proofs.MarkedRowsFound.{tenure_rows-of_marks, transfer_rows-of_marks}

-- the marks of instant j
abbrev pub pieces : (ℕ → StepMarks) → ℕ → List Mark
pieces shown j = map (mark_at j) (kinds_of (shown j))

-- three tests hold together, if each holds
pub and-of_three_tests : (a b c : Bool) → a ≡ true → b ≡ true → c ≡ true → (a && b && c) ≡ true
and-of_three_tests a b c e f g = rw (e, f, g) refl

-- what is shown has no reset
module _ (shown : ℕ → StepMarks) (unreset : (j : ℕ) → (shown j).reset ≡ false) where
  -- the marks of an instant before xs and ys are those before xs, and then ys
  all_put-append : (i : ℕ) (xs ys : List Mark) → all_put i (shown i) (xs ++ ys) ≡ all_put i (shown i) xs ++ ys
  all_put-append i xs ys =
      sym (all_put-kinds i (shown i) (xs ++ ys) (unreset i))
      ∙ (sym (append_assoc (pieces shown i) xs ys)
      ∙ ap (λ x. x ++ ys) (all_put-kinds i (shown i) xs (unreset i)))

  -- the marks of n + 1 instants are those of n instants, and then those of the last one
  marks_from-last : (n i : ℕ) → marks_from shown i (suc n) ≡ marks_from shown i n ++ pieces shown (i + n)
  marks_from-last zero i = sym (all_put-kinds i (shown i) [] (unreset i))
      ∙ (append-nil (pieces shown i) ∙ ap (pieces shown) none)
    where
      none : i ≡ i + 0
      none = omega arith
  marks_from-last (suc n) i =
      ap (all_put i (shown i)) (marks_from-last n (suc i))
      ∙ (all_put-append i (marks_from shown (suc i) n) (pieces shown (suc i + n))
      ∙ ap (λ j. marks_from shown i (suc n) ++ pieces shown j) suc_moved)
    where
      suc_moved : suc i + n ≡ i + suc n
      suc_moved = omega arith

-- a stretch of the recording t
module _ (t : Trace) (stretch : Stretch) where
  -- the marks of the opening, by whether judging starts there (b) and the bus is busy (c)
  marks-of_opening_kinds : (b c : Bool) → cond b (mark_at 0 kind.Start ∷ cond c (mark_at 0 kind.Open ∷ []) []) []
      ≡ map (mark_at 0)
      (kinds_of (record no_step_marks { start = b; opened = b && c }))
  marks-of_opening_kinds true true = refl
  marks-of_opening_kinds true false = refl
  marks-of_opening_kinds false c = refl

  -- the marks of the opening are those of what is shown there, if judging starts there exactly if it is idle
  pub opening_marks-shown : is_idle t.opening ≡ (0 == stretch.start) → opening_marks t.opening
      ≡ pieces (shown_at t stretch) 0
  unfolding low levels_at
  opening_marks-shown e =
      ap (λ b. cond b (mark_at 0 kind.Start ∷ cond (is_low (level_at t.opening BBSY)) (mark_at 0 kind.Open ∷ []) []) [])
      e
      ∙ (marks-of_opening_kinds (0 == stretch.start) (is_low (level_at t.opening BBSY))
      ∙ sym (ap (λ k. map (mark_at 0) (kinds_of k)) (shown_at-unjudged t stretch 0
      (is_judged-early stretch 0 (omega arith)))))

  -- before the start of the stretch nothing is shown
  pub pieces-none_early : (j : ℕ) → j < stretch.start → pieces (shown_at t stretch) j ≡ []
  pieces-none_early j early = ap (λ k. map (mark_at j) (kinds_of k))
      (shown_at-unjudged t stretch j (is_judged-early stretch j (omega arith)))
      ∙ rw (eq-fails_below j stretch.start early) refl

  -- at any instant before the end but the opening, the marks are those of what is shown
  marks_on-shown : (j : ℕ) → 0 < j → j < stretch.end → marks_on stretch (shown_at t stretch) j
      ≡ pieces (shown_at t stretch) j
  marks_on-shown j later below =
      elim (cases_lt j stretch.start) [
        | inl early ↦ marks_on-before_start stretch (shown_at t stretch) j early ∙ sym (pieces-none_early j early)
        | inr from ↦ ap (λ c. cond c (pieces (shown_at t stretch) j) [])
            (and-of_three_tests (nat_lt 0 j) (nat_le stretch.start j)
            (nat_le j stretch.end) (lt-ltb 0 j later) (le-leb stretch.start j from)
            (le-leb j stretch.end (omega arith)))
      ]

  -- with the marks of the opening, the marks of the stretch up to n are those of the instants from 0 to n
  marks_until-with_opening : (n : ℕ) → suc n ≤ stretch.end → pieces (shown_at t stretch) 0
      ++ marks_until stretch (shown_at t stretch) (suc n)
      ≡ marks_from (shown_at t stretch) 0 (suc n)
  marks_until-with_opening zero below = all_put-kinds 0 (shown_at t stretch 0) [] refl
  marks_until-with_opening (suc n) below =
      sym (append_assoc (pieces (shown_at t stretch) 0) (marks_until stretch (shown_at t stretch) (suc n))
      (marks_on stretch (shown_at t stretch) (suc n)))
      ∙ (ap (λ x. x ++ marks_on stretch (shown_at t stretch) (suc n)) (marks_until-with_opening n (omega arith))
      ∙ (ap (λ x. marks_from (shown_at t stretch) 0 (suc n) ++ x) (marks_on-shown (suc n) (omega arith) (omega arith)
      ∙ ap (pieces (shown_at t stretch)) same)
      ∙ sym (marks_from-last (shown_at t stretch) (λ j. refl) (suc n) 0)))
    where
      same : suc n ≡ 0 + suc n
      same = omega arith

  -- with the marks of the opening, the marks of the stretch up to `end` are those of the instants from 0 on
  marks_from-opening : (end : ℕ) → 0 < end → end ≤ stretch.end → pieces (shown_at t stretch) 0
      ++ marks_until stretch (shown_at t stretch)
      end ≡ marks_from (shown_at t stretch) 0 end
  marks_from-opening zero some below = absurd (omega arith)
  marks_from-opening (suc n) some below = marks_until-with_opening n below

  -- before the end of the stretch, all monitors show what `shown_at` has
  all_over-shown_at : (j : ℕ) → j < stretch.end → all_over t stretch j ≡ shown_at t stretch j
  all_over-shown_at j h = ap (λ b. cond b (all_shown t stretch j)
      (cond (is_reset_at t j) known_reset_marks no_step_marks))
      (lt-ltb j stretch.end h) ∙ all_shown-shown_at t stretch j

  -- the marks and rows before `end`, which is at most the end of the stretch
  module _ (end : ℕ) (within : end ≤ stretch.end) where
    -- the rows of n instants from i on
    abbrev rows_from : ℕ → ℕ → List Row
    rows_from i zero = []
    rows_from i (suc n) = start_row i (i == stretch.start)
        ++ (tenure_rows t stretch end i
        ++ (cycle_rows t stretch end i ++ (transfer_rows t stretch end i ++ rows_from (suc i) n)))

    -- no tenure starts before the start of the stretch
    tenure_rows-none_early : (i : ℕ) → i < stretch.start → tenure_rows t stretch end i ≡ []
    unfolding tenure_rows
    tenure_rows-none_early i early = rw (
      eq-fails_below i stretch.start early,
      tenure_starts-unjudged t stretch i (is_judged-early stretch i (omega arith)),
    )
        refl

    -- no cycle starts before the start of the stretch
    cycle_rows-none_early : (i : ℕ) → i < stretch.start → cycle_rows t stretch end i ≡ []
    unfolding cycle_rows
    cycle_rows-none_early i early = rw (cycle_starts-unjudged t stretch i
        (is_judged-early stretch i (omega arith))) refl

    -- no transfer starts before the start of the stretch
    transfer_rows-none_early : (i : ℕ) → i < stretch.start → transfer_rows t stretch end i ≡ []
    unfolding transfer_rows
    transfer_rows-none_early i early = rw
        (transfer_starts-unjudged t stretch i (is_judged-early stretch i (omega arith))) refl

    -- the marks of n instants after i
    abbrev later : ℕ → ℕ → List Mark
    later i n = marks_from (shown_at t stretch) (suc i) n

    -- the row of the mark at i that a tenure is open, if there is one
    abbrev open_row_of_marks : ℕ → ℕ → List Row
    open_row_of_marks i n = open_row i (shown_at t stretch i).opened
        (first_instant is_tenure_end (after_open i (shown_at t stretch i) (later i n)))

    -- the row of the mark at i that a tenure starts, if there is one
    abbrev tenure_row_of_marks : ℕ → ℕ → List Row
    tenure_row_of_marks i n = tenure_row_at i (shown_at t stretch i).tenure
        (first_instant is_tenure_end (after_tenure i (shown_at t stretch i) (later i n)))

    -- the row of the mark at i that a cycle starts, if there is one
    abbrev cycle_row_of_marks : ℕ → ℕ → List Row
    cycle_row_of_marks i n = cycle_row_at i (shown_at t stretch i).cycle
        (first_instant is_cycle_end (after_cycle i (shown_at t stretch i) (later i n)))

    -- the row of the mark at i that a transfer starts, if there is one
    abbrev transfer_row_of_marks : Option ℕ → ℕ → ℕ → List Row
    transfer_row_of_marks cycle i n = transfer_row_at i (shown_at t stretch i).transfer cycle
        (after_transfer i (shown_at t stretch i)
        (later i n))

    -- the rows of tenures by the marks at i are those of the instant i
    rows_of_marks-tenures : (i n : ℕ) → suc i + n ≡ end → open_row_of_marks i n ++ tenure_row_of_marks i n
        ≡ tenure_rows t stretch end i
    rows_of_marks-tenures i n whole =
        elim (cases_lt i stretch.start) [
          | inl early ↦ rw (
            eq-fails_below i stretch.start early,
            tenure_starts-unjudged t stretch i
                (is_judged-early stretch i (omega arith)),
          )
              (sym (tenure_rows-none_early i early))
          | inr from ↦ tenure_rows-of_marks t stretch end within i n from whole
        ]

    -- the row of a cycle by the marks at i is that of the instant i
    rows_of_marks-cycles : (i n : ℕ) → suc i + n ≡ end → cycle_row_of_marks i n ≡ cycle_rows t stretch end i
    rows_of_marks-cycles i n whole =
        elim (cases_lt i stretch.start) [
          | inl early ↦ rw (cycle_starts-unjudged t stretch i (is_judged-early stretch i (omega arith)))
              (sym (cycle_rows-none_early i early))
          | inr from ↦ cycle_rows-of_marks t stretch end within i n from whole
        ]

    -- the rows of an instant, by their kinds, may be replaced by equal ones
    append-rows_of_instant : (s o k a m r x y z : List Row) → o ++ k ≡ x → a ≡ y → m ≡ z → s
        ++ (o ++ (k ++ (a ++ (m ++ r)))) ≡ s
        ++ (x ++ (y ++ (z ++ r)))
    append-rows_of_instant s o k a m r x y z e f g =
        ap (λ l. s ++ l) (sym (append_assoc o k (a ++ (m ++ r))) ∙ rw (e, f, g) refl)

    -- if the rows of the marks after i are those of their instants, so are those of the marks from i on
    rows_of-one_instant : (i n : ℕ) → suc i + n ≡ end → rows_of (latest t stretch (suc i)) (later i n)
        ≡ rows_from (suc i) n
        → rows_of (latest t stretch i) (marks_from (shown_at t stretch) i (suc n)) ≡ rows_from i (suc n)
    rows_of-one_instant i n whole after =
        rows_of-all_put i (shown_at t stretch i) (later i n) (latest t stretch i)
        ∙ (ap (λ c. start_row i (i == stretch.start)
        ++ (open_row_of_marks i n ++ (tenure_row_of_marks i n
        ++ (cycle_row_of_marks i n ++ (transfer_row_of_marks c i n ++ rows_of c (later i n))))))
        (latest-one_more t stretch i)
        ∙ (append-rows_of_instant
        (start_row i (i == stretch.start)) (open_row_of_marks i n) (tenure_row_of_marks i n) (cycle_row_of_marks i n)
        (transfer_row_of_marks (latest t stretch (suc i)) i n) (rows_of (latest t stretch (suc i)) (later i n))
        (tenure_rows t stretch end i) (cycle_rows t stretch end i) (transfer_rows t stretch end i)
        (rows_of_marks-tenures i n whole) (rows_of_marks-cycles i n whole)
        (transfer_rows-of_marks t stretch end within i n whole)
        ∙ ap (λ r. start_row i (i == stretch.start)
        ++ (tenure_rows t stretch end i ++ (cycle_rows t stretch end i ++ (transfer_rows t stretch end i ++ r))))
        after))

    -- the rows of the marks of n instants from i on are the rows of these instants
    rows_of-instants : (n i : ℕ) → i + n ≡ end → rows_of (latest t stretch i) (marks_from (shown_at t stretch) i n)
        ≡ rows_from i n
    rows_of-instants zero i e = refl
    rows_of-instants (suc n) i e =
        let whole : suc i + n ≡ end = omega arith in
        rows_of-one_instant i n whole (rows_of-instants n (suc i) whole)

    -- an append of lists, regrouped
    append-regrouped : (b x y z r : List Row) → b ++ (x ++ (y ++ (z ++ r))) ≡ (b ++ x ++ y ++ z) ++ r
    append-regrouped b x y z r = simp append_assoc refl

    -- after the start of the stretch, the rows before i and those of n instants from i on are the rows before i + n
    rows_before-and_from : (n i : ℕ) → stretch.start < i → rows_before t stretch end i ++ rows_from i n
        ≡ rows_before t stretch end
        (i + n)
    unfolding rows_before
    rows_before-and_from zero i later = append-nil (rows_before t stretch end i) ∙ ap (rows_before t stretch end) same
      where
        same : i ≡ i + 0
        same = omega arith
    rows_before-and_from (suc n) i later =
        ap (λ b. rows_before t stretch end i
        ++ (start_row i b
        ++ (tenure_rows t stretch end i
        ++ (cycle_rows t stretch end i ++ (transfer_rows t stretch end i ++ rows_from (suc i) n)))))
        (eq-fails_above i stretch.start later)
        ∙ (append-regrouped (rows_before t stretch end i) (tenure_rows t stretch end i) (cycle_rows t stretch end i)
        (transfer_rows t stretch end i) (rows_from (suc i) n)
        ∙ (rows_before-and_from n (suc i) (omega arith)
        ∙ ap (rows_before t stretch end) suc_moved))
      where
        suc_moved : suc i + n ≡ i + suc n
        suc_moved = omega arith

    -- no row begins before the start of the stretch
    rows_before-none_early : (i : ℕ) → i ≤ stretch.start → rows_before t stretch end i ≡ []
    unfolding rows_before
    rows_before-none_early zero early = refl
    rows_before-none_early (suc i) early = rw (
      rows_before-none_early i (omega arith),
      tenure_rows-none_early i (omega arith),
      cycle_rows-none_early i
          (omega arith),
      transfer_rows-none_early i (omega arith),
    ) refl

    -- the rows from the start of the stretch on are that of its start, and those before the last instant
    rows_from-start : (n : ℕ) → rows_from stretch.start (suc n) ≡ row.Start stretch.start ∷ rows_before t stretch end
        (suc stretch.start + n)
    unfolding rows_before
    rows_from-start n =
        ap (λ b. start_row stretch.start b ++ (tenure_rows t stretch end stretch.start
        ++ (cycle_rows t stretch end stretch.start
        ++ (transfer_rows t stretch end stretch.start ++ rows_from (suc stretch.start) n))))
        (eq-eqb stretch.start stretch.start refl)
        ∙ ap (λ r. row.Start stretch.start ∷ r) (
        ap (λ b. b ++ (tenure_rows t stretch end stretch.start ++ (cycle_rows t stretch end stretch.start
        ++ (transfer_rows t stretch end stretch.start ++ rows_from (suc stretch.start) n))))
        (sym (rows_before-none_early stretch.start (omega arith)))
        ∙ (append-regrouped (rows_before t stretch end stretch.start) (tenure_rows t stretch end stretch.start)
        (cycle_rows t stretch end stretch.start) (transfer_rows t stretch end stretch.start)
        (rows_from (suc stretch.start) n)
        ∙ rows_before-and_from n (suc stretch.start) (omega arith))
        )

    -- an instant before the start of the stretch has no rows
    rows_from-early : (n i : ℕ) → i < stretch.start → rows_from i (suc n) ≡ rows_from (suc i) n
    rows_from-early n i early = rw (
      eq-fails_below i stretch.start early,
      tenure_rows-none_early i early,
      cycle_rows-none_early i early,
      transfer_rows-none_early i early,
    ) refl

    -- s, if it is at least i, is i or above i
    eq-or_above : (i s : ℕ) → i ≤ s → (s ≡ i) ⊎ (i < s)
    eq-or_above i s h = grind arith

    -- from an instant before the start of the stretch on, the rows are those from its start on
    rows_from-before_start : (n i : ℕ) → i ≤ stretch.start → stretch.start < i + n → rows_from i n
        ≡ row.Start stretch.start
        ∷ rows_before t stretch end (i + n)
    rows_from-before_start zero i early after = absurd (omega arith)
    rows_from-before_start (suc n) i early after =
        elim (eq-or_above i stretch.start early) [
          | inl e ↦ ap (λ k. rows_from k (suc n)) (sym e)
              ∙ (rows_from-start n ∙ ap (λ k. row.Start stretch.start ∷ rows_before t stretch end k) (omega arith))
          | inr before ↦ rows_from-early n i before ∙ (rows_from-before_start n (suc i) before (omega arith)
              ∙ ap (λ k. row.Start stretch.start ∷ rows_before t stretch end k) (omega arith))
        ]

    -- the rows of the marks of the instants before `end` are that of the start, and those of the stretch
    rows_of-all_instants : stretch.start < end → rows_of None (marks_from (shown_at t stretch) 0 end)
        ≡ row.Start stretch.start
        ∷ rows_before t stretch end end
    rows_of-all_instants after =
        ap (λ l. rows_of l (marks_from (shown_at t stretch) 0 end))
        (sym (greatest-empty (cycle_starts t stretch) (stretch.start + 1) 0 (omega arith)))
        ∙ (rows_of-instants end 0 whole
        ∙ (rows_from-before_start end 0 (omega arith) (omega arith)
        ∙ ap (λ k. row.Start stretch.start ∷ rows_before t stretch end k) whole))
      where
        whole : 0 + end ≡ end
        whole = omega arith

  -- the rows of the marks before `end`, with those of the opening, are that of the start, and those of the stretch
  pub rows_of-marks_until : (end : ℕ) → stretch.start < end → end ≤ stretch.end
      → rows_of None (pieces (shown_at t stretch) 0 ++ marks_until stretch (all_over t stretch) end)
      ≡ row.Start stretch.start
      ∷ rows_before t stretch end end
  rows_of-marks_until end after within =
      ap (λ ms. rows_of None (pieces (shown_at t stretch) 0 ++ ms))
      (marks_until-same stretch (all_over t stretch) (shown_at t stretch)
      end (λ j h. all_over-shown_at j (omega arith)))
      ∙ (ap (rows_of None) (marks_from-opening end (omega arith) within)
      ∙ rows_of-all_instants end within after)
