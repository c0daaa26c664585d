-- The stretches that have started at an instant; and breaks (violations of rules) and marks (events of the bus) over
-- stretches that follow one another, up to an instant.
use Rattle.std.proofs.Common.{◌≡◌, ℕ, zero, suc, ◌+◌, ◌<◌, ◌≤◌, true, false, ◌&&◌, List, [], ◌∷◌, ◌++◌, map, refl, ap}
use Rattle.std.proofs.Common.{sym, ◌∙◌, arith, Option, Some, None, add-one, append-nil, append_assoc}
use Rattle.std.specs.Prelude.{nat_lt, nat_le}
use Rattle.std.specs.Option.{option_or}
use Rattle.std.proofs.lemmas.Bool.Decides.{nat_tests}
use Rattle.vme_trace.specs.Instants.{those}
use Rattle.vme_trace.specs.Trace.{Trace, last_instant}
use Rattle.vme_trace.specs.Judged.{Stretch, has_any_stretch, judged_stretches, stretch_from, stretch_starts}
use Rattle.vme_trace.specs.Verdict.{break_at, break_before, least_break, least_of}
use Rattle.vme_trace.specs.declared.rule.Rule.{Rule}
use Rattle.vme_trace.specs.declared.verdict.Break.{Break}
use Rattle.vme_trace.proofs.JudgedStretches.{end-after, judged_stretches-before, stretches_before}
use Rattle.vme_trace.proofs.JudgedStretches.{stretches_before-no_start, stretches_before-starts}
use Rattle.vme_trace.proofs.ListLaws.{option_or-assoc, option_or-none}
use Rattle.vme_monitor.specs.Run.{mark_at, kinds_of}
use Rattle.vme_monitor.specs.Shows.{marks_on, marks_until, marks_within, marks_over}
use Rattle.vme_monitor.specs.declared.mark.StepMarks.{StepMarks}
use Rattle.vme_monitor.specs.declared.mark.Mark.{Mark}
use Rattle.vme_monitor.proofs.Unbroken.{break_at-after_end, break_at-before_start}

-- the stretches that have started at instant n or before
abbrev pub started_stretches : Trace → ℕ → List Stretch
started_stretches t n = stretches_before t (suc n)

-- no stretch starts before instant 0
stretches_before-zero : (t : Trace) → stretches_before t 0 ≡ []
unfolding those
stretches_before-zero t = refl

-- if no stretch starts at instant 0, none has started there
pub started_stretches-none : (t : Trace) → stretch_starts t 0 ≡ false → started_stretches t 0 ≡ []
started_stretches-none t h = stretches_before-no_start t 0 h ∙ stretches_before-zero t

-- if a stretch starts at instant 0, it is the only one that has started there
pub started_stretches-one : (t : Trace) → stretch_starts t 0 ≡ true → started_stretches t 0 ≡ stretch_from t 0 ∷ []
started_stretches-one t h = stretches_before-starts t 0 h ∙ ap (λ stretches. stretches ++ stretch_from t 0 ∷ [])
    (stretches_before-zero t)

-- each stretch of a list has ended at instant n or before
abbrev pub AreOver : ℕ → List Stretch → Type 0
AreOver n [] = Unit {0}
AreOver n (stretch ∷ stretches) = (stretch.end ≤ n) × AreOver n stretches

-- stretches that are over at instant n are over at n + 1
pub AreOver-later : (n : ℕ) (stretches : List Stretch) → AreOver n stretches → AreOver (suc n) stretches
AreOver-later n [] h = tt
AreOver-later n (stretch ∷ stretches) h = (omega (arith, h.0), AreOver-later n stretches h.1)

-- stretches that are over at n, and one more that has ended by n, are all over at n
pub AreOver-append : (n : ℕ) (stretches : List Stretch) (stretch : Stretch) → AreOver n stretches → stretch.end ≤ n
    → AreOver n (stretches ++ stretch ∷ [])
AreOver-append n [] stretch h e = (e, tt)
AreOver-append n (x ∷ stretches) stretch h e = (h.0, AreOver-append n stretches stretch h.1 e)

-- the first break before instant n, over the stretches in order
abbrev pub breaks_to : Trace → List Rule → ℕ → List Stretch → Option Break
breaks_to t rules n [] = None
breaks_to t rules n (stretch ∷ stretches) = option_or (break_before t stretch rules n) (breaks_to t rules n stretches)

-- the marks before instant n, over the stretches in order
abbrev pub marks_to : (Stretch → ℕ → StepMarks) → ℕ → List Stretch → List Mark
marks_to shown n [] = []
marks_to shown n (stretch ∷ stretches) = marks_until stretch (shown stretch) n ++ marks_to shown n stretches

-- the first of a, b and c is the first of a, b and d, if c and d are equal where there is no b
pub option_or-assoc_where_none : (a b c d : Option Break) → (b ≡ None → c ≡ d) → option_or (option_or a b) c
    ≡ option_or a (option_or b d)
option_or-assoc_where_none None None c d h = h refl
option_or-assoc_where_none None (Some b) c d h = refl
option_or-assoc_where_none (Some a) b c d h = refl

-- a list with a stretch at its end has a stretch
pub has_any_stretch-append : (stretches : List Stretch) (stretch : Stretch)
    → has_any_stretch (stretches ++ stretch ∷ []) ≡ true
has_any_stretch-append [] stretch = refl
has_any_stretch-append (x ∷ stretches) stretch = refl

-- the judged stretches are those that have started at the last instant
pub judged_stretches-started : (t : Trace) → judged_stretches t ≡ started_stretches t (last_instant t)
judged_stretches-started t = judged_stretches-before t ∙ ap (stretches_before t) (add-one (last_instant t))

module _ (t : Trace) (rules : List Rule) where
  -- the least break of the rules over stretches is their first break up to the last instant
  pub least_of-breaks_to : (stretches : List Stretch) → least_of rules t stretches
      ≡ breaks_to t rules (last_instant t + 1) stretches
  unfolding least_break
  least_of-breaks_to [] = refl
  least_of-breaks_to (stretch ∷ []) = sym (option_or-none (break_before t stretch rules (last_instant t + 1)))
  least_of-breaks_to (stretch ∷ x ∷ stretches) = ap (option_or (break_before t stretch rules (last_instant t + 1)))
      (least_of-breaks_to (x ∷ stretches))

  -- the first break over stretches and one more is that over the stretches, or else that of the last one
  pub breaks_to-append : (n : ℕ) (stretches : List Stretch) (stretch : Stretch)
      → breaks_to t rules n (stretches ++ stretch ∷ [])
      ≡ option_or (breaks_to t rules n stretches) (break_before t stretch rules n)
  breaks_to-append n [] stretch = option_or-none (break_before t stretch rules n)
  breaks_to-append n (x ∷ stretches) stretch = rw (breaks_to-append n stretches stretch)
      (sym (option_or-assoc (break_before t x rules n) (breaks_to t rules n stretches)
      (break_before t stretch rules n)))

  -- the first break before instant n + 1 is the one before n, or else the one at n
  pub break_before-next : (stretch : Stretch) (n : ℕ) → break_before t stretch rules (suc n)
      ≡ option_or (break_before t stretch rules n) (break_at t stretch rules n)
  unfolding break_before
  break_before-next stretch n = refl

  -- no stretch has a break before instant 0
  break_before-zero : (stretch : Stretch) → break_before t stretch rules 0 ≡ None
  unfolding break_before
  break_before-zero stretch = refl

  -- up to its start s, a stretch has no break
  pub break_before-start : (s n : ℕ) → s ≤ last_instant t → n ≤ s + 1 → break_before t (stretch_from t s) rules n ≡ None
  break_before-start s zero within h = break_before-zero (stretch_from t s)
  break_before-start s (suc n) within h =
      break_before-next (stretch_from t s) n
      ∙ rw (
        break_before-start s n within (omega arith),
        break_at-before_start t (stretch_from t s) rules n (end-after t s within)
            (omega arith),
      ) refl

  -- stretches that are over at n have nothing more at n + 1
  pub breaks_to-over : (n : ℕ) (stretches : List Stretch) → AreOver n stretches
      → breaks_to t rules (suc (suc n)) stretches
      ≡ breaks_to t rules (suc n) stretches
  breaks_to-over n [] over = refl
  breaks_to-over n (stretch ∷ stretches) over =
      rw (
        breaks_to-over n stretches over.1,
        break_before-next stretch (suc n),
        break_at-after_end t stretch rules (suc n)
            (omega (arith, over.0)),
        option_or-none (break_before t stretch rules (suc n)),
      ) refl

module _ (shown : Stretch → ℕ → StepMarks) where
  -- the marks over stretches are those up to the last instant
  pub marks_over-marks_to : (t : Trace) (stretches : List Stretch) → marks_over shown t stretches
      ≡ marks_to shown (last_instant t + 1)
      stretches
  marks_over-marks_to t [] = refl
  marks_over-marks_to t (stretch ∷ stretches) = ap (λ ms. marks_within t stretch (shown stretch) ++ ms)
      (marks_over-marks_to t stretches)

  -- the marks over stretches and one more are those over the stretches, and then those of the last one
  pub marks_to-append : (n : ℕ) (stretches : List Stretch) (stretch : Stretch)
      → marks_to shown n (stretches ++ stretch ∷ [])
      ≡ marks_to shown n stretches ++ marks_until stretch (shown stretch) n
  marks_to-append n [] stretch = append-nil (marks_until stretch (shown stretch) n)
  marks_to-append n (x ∷ stretches) stretch = rw (marks_to-append n stretches stretch)
      (sym (append_assoc (marks_until x (shown x) n) (marks_to shown n stretches)
      (marks_until stretch (shown stretch) n)))

  -- an instant j before s is not within s and e
  not_within-before : (j s e : ℕ) → j < s → (nat_lt 0 j && nat_le s j && nat_le j e) ≡ false
  not_within-before j s e h = grind (arith, nat_tests)

  -- an instant j after e is not within s and e
  not_within-after : (j s e : ℕ) → e < j → (nat_lt 0 j && nat_le s j && nat_le j e) ≡ false
  not_within-after j s e h = grind (arith, nat_tests)

  -- an instant j other than 0, from s to e, is within s and e
  within-true : (j s e : ℕ) → 0 < j → s ≤ j → j ≤ e → (nat_lt 0 j && nat_le s j && nat_le j e) ≡ true
  within-true j s e a b c = grind (arith, nat_tests)

  -- at an instant from the start of a stretch to its end, the marks are what is shown there
  pub marks_on-within : (stretch : Stretch) (n : ℕ) → stretch.start ≤ suc n → suc n ≤ stretch.end
      → marks_on stretch (shown stretch) (suc n)
      ≡ map (mark_at (suc n)) (kinds_of (shown stretch (suc n)))
  marks_on-within stretch n from to = rw (within-true (suc n) stretch.start stretch.end (omega arith) from to) refl

  -- up to its start a stretch has no marks
  pub marks_until-start : (stretch : Stretch) (n : ℕ) → n ≤ stretch.start → marks_until stretch (shown stretch) n ≡ []
  marks_until-start stretch zero h = refl
  marks_until-start stretch (suc n) h = rw (
    marks_until-start stretch n (omega arith),
    not_within-before n stretch.start stretch.end (omega arith),
  )
      refl

  -- before instant 1 there are no marks
  pub marks_to-one : (stretches : List Stretch) → marks_to shown 1 stretches ≡ []
  marks_to-one [] = refl
  marks_to-one (stretch ∷ stretches) = marks_to-one stretches

  -- stretches that are over at n have nothing more at n + 1
  pub marks_to-over : (n : ℕ) (stretches : List Stretch) → AreOver n stretches → marks_to shown (suc (suc n)) stretches
      ≡ marks_to shown (suc n) stretches
  marks_to-over n [] over = refl
  marks_to-over n (stretch ∷ stretches) over =
      rw (
        marks_to-over n stretches over.1,
        not_within-after (suc n) stretch.start stretch.end (omega (arith, over.0)),
        append-nil (marks_until stretch (shown stretch) (suc n)),
      ) refl
