-- A table with the outcomes of two tables, one followed by the other, agrees with the run over the steps of both, if
-- each agrees with the run over its own.
use Rattle.std.proofs.Common.{◌≡◌, ℕ, ◌+◌, ◌<◌, ◌≤◌, ◌^◌, Bool, true, false, List, [], ◌∷◌, ◌++◌, map, Option}
use Rattle.std.proofs.Common.{Some, None}
use Rattle.std.proofs.Common.{refl, ap, ◌∙◌, arith}
use Rattle.std.specs.Option.{option_map, option_or}
use Rattle.std.proofs.lemmas.List.{map-append}
use Rattle.vme_trace.specs.declared.verdict.Break.{Break}
use Rattle.vme_monitor.specs.Outcome.{BreakWithin, IsWithin, MarksWithin, Outcome, composed_outcome}
use Rattle.vme_monitor.specs.Outcome.{shifted_break, shifted_mark}
use Rattle.vme_monitor.specs.declared.mark.Mark.{Mark}
use Rattle.vme_part_format.specs.Tables.{TableValue}
use Rattle.vme_part_format.specs.declared.wide.WideBreak.{WideBreak}
use Rattle.vme_part_format.specs.declared.wide.WideMark.{WideMark}
use Rattle.vme_part_tables.specs.Ways.{WideOutcome, followed_by, later, later_break, later_mark, outcome_in}
use Rattle.vme_part_tables.specs.Runs.{AgreesWithRun, AgreesWithRuns, IsComposition, ShowsMarks, break_of, mark_of}

-- the second table has n steps, which come m steps later than they count themselves
module _ (m n : ℕ) (fits : m + n < 2 ^ 64) where
  -- an instant of the second table, m later, stays below the greatest instant of 64 bits
  later-without_limit : (i : ℕ) → i ≤ n → later m i ≡ i + m
  later-without_limit i h = omega arith

  -- the first break of the second table, m later
  break_of-later : (e : Option WideBreak) (f : Option Break) → option_map break_of e ≡ f → BreakWithin n f
      → option_map break_of (option_map (later_break m) e) ≡ option_map (shifted_break m) f
  break_of-later None None s h = refl
  break_of-later None (Some c) s h = absurd (cc)
  break_of-later (Some b) None s h = absurd (cc)
  break_of-later (Some b) (Some c) s h =
      let same : break_of b ≡ c = cc in
      let at : b.instant ≡ c.instant = ap (λ (k : Break). k.instant) same in
      let on : later m b.instant ≡ b.instant + m = later-without_limit b.instant (omega arith) in
      ap Some (ap (λ i. record { instant = i; time = b.time; rule = b.rule; line = b.line }) on
      ∙ ap (shifted_break m) same)

  -- the marks of the second table, m later
  mark_of-later : (ws : List WideMark) (ms : List Mark) → map mark_of ws ≡ ms → MarksWithin n ms
      → map mark_of (map (later_mark m) ws) ≡ map (shifted_mark m) ms
  mark_of-later [] [] s h = refl
  mark_of-later [] (y ∷ ys) s h = absurd (cc)
  mark_of-later (w ∷ ws) [] s h = absurd (cc)
  mark_of-later (w ∷ ws) (y ∷ ys) s h =
      let same : mark_of w ≡ y = cc in
      let rest : map mark_of ws ≡ ys = cc in
      let at : w.instant ≡ y.instant = ap (λ (k : Mark). k.instant) same in
      let on : later m w.instant ≡ w.instant + m = later-without_limit w.instant (omega arith) in
      let one : mark_of (later_mark m w) ≡ shifted_mark m y
      = ap (λ i. record { instant = i; kind = w.kind }) on ∙ ap (shifted_mark m) same in
      let more = mark_of-later ws ys rest h.2 in
      cc

  -- the break of the first table, or else that of the second, is the earlier one
  break_of-option_or : (a b : Option WideBreak) (e f : Option Break) → option_map break_of a ≡ e → option_map break_of b
      ≡ f
      → option_map break_of (option_or a b) ≡ option_or e f
  break_of-option_or None b None f p q = q
  break_of-option_or None b (Some e) f p q = absurd (cc)
  break_of-option_or (Some a) b None f p q = absurd (cc)
  break_of-option_or (Some a) b (Some e) f p q = p

  -- `place` is the number of a memory
  module _ {P : Type 0} (place : P → ℕ) where
    -- if the outcomes a and b show the marks of the runs r and s, a followed by b shows those of both runs
    pub ShowsMarks-followed_by : (listing : Bool) (a b : WideOutcome) (r s : Outcome P) → ShowsMarks listing a r
        → ShowsMarks listing b s → IsWithin n s → ShowsMarks listing (followed_by m a b) (composed_outcome m r s)
    ShowsMarks-followed_by true a b r s p q h =
        map-append mark_of a.marks (map (later_mark m) b.marks)
        ∙ (ap (λ k. k ++ map mark_of (map (later_mark m) b.marks)) p
        ∙ ap (λ k. r.marks ++ k) (mark_of-later b.marks s.marks q h.1))
    ShowsMarks-followed_by false a b r s p q h =
        ap (λ k. k ++ map (later_mark m) b.marks) p ∙ ap (map (later_mark m)) q

    -- if the outcomes a and b agree with the runs r and s, a followed by b agrees with both runs
    pub AgreesWithRun-followed_by : (listing : Bool) (a b : WideOutcome) (r s : Outcome P)
        → AgreesWithRun listing place a r
        → AgreesWithRun listing place b s → IsWithin n s → AgreesWithRun listing place (followed_by m a b)
        (composed_outcome m r s)
    AgreesWithRun-followed_by listing a b r s p q h =
        record {
          leaving = q.leaving;
          first_break = break_of-option_or a.first_break (option_map (later_break m) b.first_break) r.first_break
              (option_map (shifted_break m) s.first_break)
              p.first_break (break_of-later b.first_break s.first_break q.first_break h.0);
          marks = ShowsMarks-followed_by listing a b r s p.marks q.marks h;
        }

    -- if two tables agree with the runs f and g, their composition agrees with the runs h, each a run f and then g from
    -- where it ends
    pub AgreesWithRuns-composition : (listing : Bool) (memories : ℕ) (first second both : TableValue)
        (f g h : P → Outcome P)
        → IsComposition m first second both → AgreesWithRuns listing memories place first f
        → AgreesWithRuns listing memories place second g → ((p : P) → IsWithin n (g p))
        → ((p : P) → h p ≡ composed_outcome m (f p) (g (f p).leaving)) → AgreesWithRuns listing memories place both h
    AgreesWithRuns-composition listing memories first second both f g h s p q within whole =
        record {
          counted = s.counted ∙ p.counted;
          ways = s.ways;
          agrees = λ k.
              let a = p.agrees k in
              let b = rw (← a.leaving) at (q.agrees (f k).leaving) in
              rw (s.outcomes (place k), whole k)
              (AgreesWithRun-followed_by listing (outcome_in first (place k))
              (outcome_in second (outcome_in first (place k)).leaving) (f k) (g (f k).leaving) a b
              (within (f k).leaving));
        }
