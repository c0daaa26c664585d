-- The end of an instant: one step, or no step.
use Rattle.std.proofs.Common.{◌≡◌, ◌≢◌, ℕ, ◌+◌, ◌<◌, Bool, true, false, cond, not, List, [], ◌∷◌, ◌++◌, length, map}
use Rattle.std.proofs.Common.{refl, sym, ap, ◌∙◌, subst, arith, inl, inr}
use Rattle.std.specs.Prelude.{◌==◌}
use Rattle.std.proofs.lemmas.Bool.Decides.{nat_tests}
use Rattle.std.proofs.lemmas.Bool.{cases_Bool, cases_eq, eq-eqb, false≢true}
use Rattle.std.proofs.lemmas.List.{length-map}
use Rattle.vme_trace.specs.Instants.{any, those}
use Rattle.vme_trace.specs.Levels.{Levels, level_at, set_level, same_level}
use Rattle.vme_trace.specs.LineNumbers.{line_count}
use Rattle.vme_trace.specs.declared.step.Change.{Change}
use Rattle.vme_trace.specs.declared.step.Step.{Step}
use Rattle.vme_trace.proofs.Ranges.{those-none}
use Rattle.vme_bind.specs.Recording.{RecorderLevels, IsLine, differs, DifferWithin, change_to, changes_between}
use Rattle.vme_bind.specs.Recording.{step_between}
use Rattle.vme_bind.proofs.RecorderLemmas.{those-yes, those-skip, same_unless_differs, same_levels}
use Rattle.vme_bind.proofs.RecorderLemmas.{level_at-set_same, level_at-set_other, length-set_level}
use Rattle.vme_bind.proofs.StepsLemmas.{length-those_positive}

-- a step at `time` with these changes
abbrev pub one_step : ℕ → List Change → List Step
one_step time changes = record { time = time; changes = changes } ∷ []

-- a number above 0 isn't 0
not_zero : (n : ℕ) → 0 < n → (n == 0) ≡ false
not_zero n lt = grind (arith, nat_tests)

-- where some line changes, there is a step
pub step_between-some : (time : ℕ) (a b : Levels) (cs : List Change) → cs ≡ changes_between a b → (length cs == 0)
    ≡ false
    → one_step time cs ≡ step_between time a b
step_between-some time a b cs e h = ap (one_step time) e ∙ by_any (any (differs a b) 0 line_count) refl
  where
    by_any : (t : Bool) → any (differs a b) 0 line_count ≡ t → one_step time (changes_between a b)
        ≡ cond t (one_step time (changes_between a b)) []
    by_any true k = refl
    by_any false k = absurd
        (false≢true
        (sym h ∙ eq-eqb (length cs) 0 (ap length (e ∙ ap (map (change_to b))
        (those-none (differs a b) 0 line_count k)))))

-- where no line changes, there is no step
pub step_between-none : (time : ℕ) (a b : Levels) (cs : List Change) → cs ≡ changes_between a b → (length cs == 0)
    ≡ true
    → step_between time a b ≡ []
step_between-none time a b cs e h = by_any (any (differs a b) 0 line_count) refl
  where
    by_any : (t : Bool) → any (differs a b) 0 line_count ≡ t → cond t (one_step time (changes_between a b)) [] ≡ []
    by_any true k = absurd
        (false≢true
        (sym (not_zero (length cs) (omega (
          arith,
          ap length e,
          length-map (those (differs a b) 0 line_count) (change_to b),
          length-those_positive (differs a b) line_count k,
        ))) ∙ h))
    by_any false k = refl

-- where no line differs, `shown` is `now`
pub all-shown : (shown now : Levels) (first last : ℕ) → DifferWithin shown now first last
    → ((l : ℕ) → differs shown now l ≡ false) → shown ≡ now
all-shown shown now first last h same = same_levels shown now (sym h.slots) h.shown_all h.now_all
    (λ l lt. same_unless_differs shown now l (same l))

-- where no line differs, there is no step
pub step_between-same : (time : ℕ) (shown now : Levels) → ((l : ℕ) → differs shown now l ≡ false) → []
    ≡ step_between time shown
    now
unfolding those
step_between-same time shown now same =
    sym (step_between-none time shown now []
    (ap (map (change_to now)) (sym (those-skip (differs shown now) 0 line_count (omega arith) (λ l low lt. same l))))
    refl)

-- where `last` is below `first`, no line differs
pub none_differs : (shown now : Levels) (first last : ℕ) → last < first → DifferWithin shown now first last
    → (l : ℕ) → differs shown now l ≡ false
none_differs shown now first last none h l =
    elim (cases_Bool (differs shown now l)) [
      | inl d ↦ absurd (omega (arith, h.low l d, h.high l d, none))
      | inr same ↦ same
    ]

-- the recorder's levels: those that are shown, and those after the values so far
abbrev pub progress : Levels → Levels → RecorderLevels
progress shown now = record { shown = shown; now = now }

-- the step between `shown` and `now` is that between the levels of `p`
pub step_between-progress : (time : ℕ) (p : RecorderLevels) (shown now : Levels) → p ≡ progress shown now
    → step_between time shown
    now ≡ step_between time p.shown p.now
step_between-progress time p shown now e = ap (λ (q : RecorderLevels). step_between time q.shown q.now) (sym e)

-- at the end, the levels `now` are shown
pub ended : (p : RecorderLevels) (shown now after : Levels) → p ≡ progress shown now → after ≡ now → progress after now
    ≡ progress p.now p.now
ended p shown now after e is = ap (λ (v : Levels). progress v now) is
    ∙ ap (λ (q : RecorderLevels). progress q.now q.now) (sym e)

-- where `last` is below `first`, the end of an instant changes nothing
pub ended-none : (p : RecorderLevels) (shown now : Levels) (first last : ℕ) → p ≡ progress shown now
    → DifferWithin shown now first last → last < first → p ≡ progress p.now p.now
ended-none p shown now first last e h none = e ∙ ended p shown now shown e
    (all-shown shown now first last h (none_differs shown now first last none h))

-- where `last` is below `first`, there is no step
pub step_between-none_differs : (time : ℕ) (p : RecorderLevels) (shown now : Levels) (first last : ℕ) → p
    ≡ progress shown now
    → DifferWithin shown now first last → last < first → [] ≡ step_between time p.shown p.now
step_between-none_differs time p shown now first last e h none =
    step_between-same time shown now (none_differs shown now first last none h)
    ∙ step_between-progress time p shown now e

-- where `first` is `last`, no other line differs
pub first-alone : (p : RecorderLevels) (shown now : Levels) (first last : ℕ) → p ≡ progress shown now
    → DifferWithin shown now first last → first ≡ last → (l : ℕ) → l ≢ first → differs p.shown p.now l ≡ false
first-alone p shown now first last view h e l ne =
    subst (λ (q : RecorderLevels). differs q.shown q.now l ≡ false) (sym view)
    (elim (cases_Bool (differs shown now l)) [
      | inl d ↦ absurd (omega (arith, e, ne, h.low l d, h.high l d))
      | inr none ↦ none
    ])

-- the line `first` is one of the backplane
pub first-exists : (p : RecorderLevels) (shown now : Levels) (first last : ℕ) → p ≡ progress shown now
    → DifferWithin shown now first last → IsLine p.now.slots first
first-exists p shown now first last view h =
    subst (λ (s : ℕ). IsLine s first) (sym (ap (λ (q : RecorderLevels). q.now.slots) view ∙ h.slots)) h.begins

-- ---- one line that differs

module _ (shown now : Levels) (first last line : ℕ) (h : DifferWithin shown now first last)
    (is : IsLine shown.slots line) (alone : (l : ℕ) → l ≢ line → differs shown now l ≡ false) where
  -- `shown`, with the line set to its level in `now`, is `now`
  pub lone-shown : set_level shown line (level_at now line) ≡ now
  lone-shown =
      same_levels (set_level shown line (level_at now line)) now (sym h.slots)
      (length-set_level shown line (level_at now line)
      h.shown_all) h.now_all
      (λ l lt. elim (cases_eq l line) [
        | inl e ↦ ap (level_at (set_level shown line (level_at now line))) e
            ∙ level_at-set_same shown line (level_at now line)
            (omega (arith, is.below, h.shown_all)) ∙ ap (level_at now) (sym e)
        | inr ne ↦ level_at-set_other shown line l (level_at now line) ne ∙ same_unless_differs shown now l (alone l ne)
      ])

  -- if the line has another level in `now`, its change is the only change
  pub lone-change : same_level (level_at shown line) (level_at now line) ≡ false → change_to now line ∷ []
      ≡ changes_between shown now
  unfolding those
  lone-change other =
      ap (map (change_to now)) (sym (
      those-skip (differs shown now) (line + 1) line_count (omega (arith, is.below))
      (λ l low lt. let ne : l ≢ line = omega (arith, low) in alone l ne)
      ∙ those-yes (differs shown now) line (ap not other)
      ∙ ap (λ (xs : List ℕ). xs ++ line ∷ []) (those-skip (differs shown now) 0 line (omega arith)
      (λ l low lt. let ne : l ≢ line = omega (arith, lt) in alone l ne))))

  -- where the line has the level that is shown, no line differs
  pub lone-no_difference : same_level (level_at shown line) (level_at now line) ≡ true → (l : ℕ)
      → differs shown now l ≡ false
  lone-no_difference same l = elim (cases_eq l line) [
    | inl e ↦ ap (differs shown now) e ∙ ap not same
    | inr ne ↦ alone l ne
  ]

-- the end of an instant at which at most one line differs
module _ (p : RecorderLevels) (shown now : Levels) (first last line : ℕ) (view : p ≡ progress shown now)
    (h : DifferWithin shown now first last)
    (exists : IsLine p.now.slots line) (alone : (l : ℕ) → l ≢ line → differs p.shown p.now l ≡ false) where
  -- `line` is one of the backplane of `shown`
  IsLine-shown : IsLine shown.slots line
  IsLine-shown = subst (λ (s : ℕ). IsLine s line) (ap (λ (q : RecorderLevels). q.now.slots) view ∙ h.slots) exists

  -- no other line differs in `shown` and `now`
  differs-alone : (l : ℕ) → l ≢ line → differs shown now l ≡ false
  differs-alone l ne = subst (λ (q : RecorderLevels). differs q.shown q.now l ≡ false) view (alone l ne)

  -- `after`, which is `shown` with the line set to its level in `now`, is `now`
  pub line-shown : (after : Levels) → after ≡ set_level shown line (level_at now line) → after ≡ now
  line-shown after set = set ∙ lone-shown shown now first last line h IsLine-shown differs-alone

  -- with `after` shown, the recorder's levels are those after the end of the instant: `now` is shown
  pub line-ended : (after : Levels) → after ≡ set_level shown line (level_at now line) → progress after now
      ≡ progress p.now p.now
  line-ended after set = ended p shown now after view (line-shown after set)

  -- where the line has another level than is shown, the step has its change alone
  pub line-step : (time : ℕ) (changes : List Change) → changes ≡ change_to now line ∷ []
      → same_level (level_at shown line) (level_at now line) ≡ false
      → one_step time changes ≡ step_between time p.shown p.now
  line-step time changes is other =
      ap (one_step time) is
      ∙ step_between-some time shown now (change_to now line ∷ [])
      (lone-change shown now first last line h IsLine-shown differs-alone
      other) refl
      ∙ step_between-progress time p shown now view

  -- where the line has the level that is shown, there is no step
  pub line-no_step : (time : ℕ) → same_level (level_at shown line) (level_at now line) ≡ true → [] ≡ step_between time
      p.shown p.now
  line-no_step time same =
      step_between-same time shown now (lone-no_difference shown now first last line h IsLine-shown differs-alone same)
      ∙ step_between-progress time p shown now
      view
