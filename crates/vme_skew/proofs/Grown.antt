-- What is complete of a settled recording stays so, and stays a prefix, as more steps come.
use Rattle.std.proofs.Common.{◌≡◌, ℕ, suc, ◌+◌, ◌≤◌, Bool, true, false, cond, List, [], ◌∷◌, ◌++◌, length, refl}
use Rattle.std.proofs.Common.{sym, ap, ◌∙◌, arith, append_assoc}
use Rattle.std.specs.Prelude.{All, filter, nat_lt, ◌==◌}
use Rattle.std.proofs.lemmas.Bool.{false≢true, lt-ltb, ltb-true, or_parts}
use Rattle.std.proofs.lemmas.Bool.Decides.{nat_tests}
use Rattle.std.proofs.lemmas.List.{append-nil}
use Rattle.std.proofs.lemmas.List.Elements.{All-head, All-tail, filter-append}
use Rattle.vme_trace.specs.Followed.{with_steps}
use Rattle.vme_trace.specs.Trace.{Trace, time_at}
use Rattle.vme_trace.specs.declared.step.Step.{Step}
use Rattle.vme_skew.specs.Settled.{group_start, is_complete, settled, settled_until, step_to, steps_before}
use Rattle.vme_skew.proofs.Complete.{IsPrefix, step_to-complete, start_time, settled_until-prefix}
use Rattle.vme_skew.proofs.Growing.{steps_before-next, begins, group_start-at_most, group_start-next, time_at-with_step}
use Rattle.vme_skew.proofs.Growing.{time_at-last, with_step}
use Rattle.vme_skew.proofs.Laws.{length-append_one}

-- the recording with the opening of `t` and these steps
abbrev of_parts : Trace → List Step → Trace
of_parts t xs = record { opening = t.opening; steps = xs }

-- a time isn't later than another by more than the skew if it isn't later at all
nat_lt-no_later : (a b : ℕ) → b ≤ a → (skew : ℕ) → nat_lt (a + skew) b ≡ false
nat_lt-no_later a b le skew = grind (arith, nat_tests)

-- a number that isn't less than another isn't less than a lesser one
nat_lt-lesser : (a b c : ℕ) → nat_lt a b ≡ false → c ≤ b → nat_lt a c ≡ false
nat_lt-lesser a b c h le = grind (arith, nat_tests)

-- ---- a step that isn't earlier completes nothing

module _ (skew time : ℕ) (t : Trace) (step : Step) (late : time ≤ step.time) where
  -- the number of the steps before `step`
  abbrev last : ℕ
  last = length t.steps

  -- whether a step is complete at `time`
  abbrev test : Step → Bool
  test s = is_complete skew time s

  -- where `step` belongs to the last group, that isn't complete at `time`
  group-not_complete : begins skew t step ≡ false → nat_lt (start_time skew t last + skew) time ≡ false
  group-not_complete e = nat_lt-lesser (start_time skew t last + skew) step.time time
      (or_parts (last == 0) (nat_lt (start_time skew t last + skew) step.time) e).1 late

  -- the group of `step` isn't complete at `time`
  next_group-not_complete : (b : Bool) → begins skew t step ≡ b
      → nat_lt (start_time skew (with_step t step) (suc last) + skew) time ≡ false
  next_group-not_complete true e =
      ap (λ (start : ℕ). nat_lt (time_at (with_step t step) start + skew) time) (group_start-next skew t step true e)
      ∙ ap (λ (at : ℕ). nat_lt (at + skew) time) (time_at-last t step) ∙ nat_lt-no_later step.time time late skew
  next_group-not_complete false e =
      ap (λ (start : ℕ). nat_lt (time_at (with_step t step) start + skew) time) (group_start-next skew t step false e)
      ∙ ap (λ (at : ℕ). nat_lt (at + skew) time)
      (time_at-with_step t step (group_start skew t last) (group_start-at_most skew t last))
      ∙ group-not_complete e

  -- the step of the group of `step` isn't complete
  filter-step_to : (b : Bool) → begins skew t step ≡ b → filter test (step_to skew (with_step t step) (suc last)) ≡ []
  filter-step_to b e = step_to-complete skew (with_step t step) (suc last) time
      ∙ ap (λ (c : Bool). cond c (step_to skew (with_step t step) (suc last)) []) (next_group-not_complete b e)

  -- the same steps are complete with `step` and without it
  filter-with_step : (b : Bool) → begins skew t step ≡ b
      → filter test (steps_before skew (with_step t step) (suc last) ++ step_to skew (with_step t step) (suc last))
      ≡ filter test (steps_before skew t last ++ step_to skew t last)
  filter-with_step b e =
      filter-append test (steps_before skew (with_step t step) (suc last)) (step_to skew (with_step t step) (suc last))
      ∙ ap (λ (xs : List Step). filter test (steps_before skew (with_step t step) (suc last)) ++ xs)
      (filter-step_to b e)
      ∙ append-nil (filter test (steps_before skew (with_step t step) (suc last)))
      ∙ ap (filter test) (steps_before-next skew t step b e) ∙ by_test b e
    where
      by_test : (b : Bool) → begins skew t step ≡ b
          → filter test (cond b (steps_before skew t last ++ step_to skew t last) (steps_before skew t last))
          ≡ filter test (steps_before skew t last ++ step_to skew t last)
      by_test true e = refl
      by_test false e = sym (filter-append test (steps_before skew t last) (step_to skew t last)
          ∙ ap (λ (xs : List Step). filter test (steps_before skew t last) ++ xs) (step_to-complete skew t last time
          ∙ ap (λ (c : Bool). cond c (step_to skew t last) []) (group-not_complete e))
          ∙ append-nil (filter test (steps_before skew t last)))

  -- one step that isn't earlier than `time` completes nothing
  pub settled_until-with_step : settled_until skew time (with_step t step) ≡ settled_until skew time t
  unfolding settled_until settled
  settled_until-with_step =
      ap (λ (n : ℕ). of_parts t
      (filter test (steps_before skew (with_step t step) n ++ step_to skew (with_step t step) n)))
      (length-append_one t.steps step)
      ∙ ap (of_parts t) (filter-with_step (begins skew t step) refl)

-- several steps that aren't earlier than `time` complete nothing
pub settled_until-with_steps : (skew time : ℕ) (t : Trace) (more_steps : List Step)
    → All (λ (step : Step). time ≤ step.time) more_steps
    → settled_until skew time (with_steps t more_steps) ≡ settled_until skew time t
settled_until-with_steps skew time t [] late = ap (λ (xs : List Step). settled_until skew time (of_parts t xs))
    (append-nil t.steps)
settled_until-with_steps skew time t (s ∷ ss) late =
    ap (λ (xs : List Step). settled_until skew time (of_parts t xs)) (sym (append_assoc t.steps (s ∷ []) ss))
    ∙ settled_until-with_steps skew time (with_step t s) ss (All-tail (λ (step : Step). time ≤ step.time) s ss late)
    ∙ settled_until-with_step skew time t s (All-head (λ (step : Step). time ≤ step.time) s ss late)

-- ---- prefixes

-- if `p` implies `q`, no more steps have `p` than have `q`
length-filter_weaker : (p q : Step → Bool) → ((s : Step) → p s ≡ true → q s ≡ true) → (xs : List Step)
    → length (filter p xs) ≤ length (filter q xs)
length-filter_weaker p q h [] = omega arith
length-filter_weaker p q h (x ∷ xs) = by_tests (p x) (q x) (h x) (length-filter_weaker p q h xs)
  where
    by_tests : (a b : Bool) → (a ≡ true → b ≡ true) → length (filter p xs) ≤ length (filter q xs)
        → length (cond a (x ∷ filter p xs) (filter p xs)) ≤ length (cond b (x ∷ filter q xs) (filter q xs))
    by_tests true true k so_far = omega (arith, so_far)
    by_tests true false k so_far = absurd (false≢true (k refl))
    by_tests false true k so_far = omega (arith, so_far)
    by_tests false false k so_far = so_far

-- of two prefixes of a list the shorter one is a prefix of the other
IsPrefix-shorter : (xs ys more_xs more_ys : List Step) → xs ++ more_xs ≡ ys ++ more_ys → length xs ≤ length ys
    → IsPrefix xs ys
IsPrefix-shorter [] ys more_xs more_ys e le = (ys, refl)
IsPrefix-shorter (x ∷ xs) [] more_xs more_ys e le = absurd (omega (arith, le))
IsPrefix-shorter (x ∷ xs) (y ∷ ys) more_xs more_ys e le =
    let tail : xs ++ more_xs ≡ ys ++ more_ys = cc in
    let head : x ≡ y = cc in
    let h = IsPrefix-shorter xs ys more_xs more_ys tail (omega (arith, le)) in (
      h.0,
      ap (λ (zs : List Step). y ∷ zs) h.1 ∙ ap (λ (z : Step). z ∷ (xs ++ h.0)) (sym head),
    )

-- a step that is complete at a time is so at a later one
is_complete-later : (skew time later : ℕ) → time ≤ later → (s : Step) → is_complete skew time s ≡ true
    → is_complete skew later s ≡ true
is_complete-later skew time later le s h =
    lt-ltb (s.time + skew) later (omega (arith, ltb-true (s.time + skew) time h, le))

-- what is complete at a time is a prefix of what is complete at a later one
pub settled_until-later : (skew time later : ℕ) (t : Trace) → time ≤ later
    → (rest : List Step) × (settled_until skew later t ≡ with_steps (settled_until skew time t) rest)
unfolding settled_until settled
settled_until-later skew time later t le =
    let first = settled_until-prefix skew time t in
    let second = settled_until-prefix skew later t in
    let same : filter (is_complete skew time) (settled skew t).steps ++ first.0
    ≡ filter (is_complete skew later) (settled skew t).steps ++ second.0 =
    sym (ap (λ (u : Trace). u.steps) first.1) ∙ ap (λ (u : Trace). u.steps) second.1 in
    let h = IsPrefix-shorter (filter (is_complete skew time) (settled skew t).steps)
    (filter (is_complete skew later) (settled skew t).steps) first.0 second.0 same
    (length-filter_weaker (is_complete skew time) (is_complete skew later) (is_complete-later skew time later le)
    (settled skew t).steps) in
    (h.0, ap (λ (xs : List Step). record { opening = (settled skew t).opening; steps = xs }) h.1)

module _ (skew time : ℕ) (t : Trace) (more_steps : List Step)
    (late : All (λ (step : Step). time ≤ step.time) more_steps) where
  -- what is complete at `time` is a prefix of the settled recording with more steps, none of which is earlier than
  -- `time`
  pub settled-grows : (rest : List Step)
      × (settled skew (with_steps t more_steps) ≡ with_steps (settled_until skew time t) rest)
  settled-grows =
      let h = settled_until-prefix skew time (with_steps t more_steps) in
      (h.0, h.1 ∙ ap (λ (u : Trace). with_steps u h.0) (settled_until-with_steps skew time t more_steps late))

  -- what is complete at `time` is a prefix of what is complete at a later time, with more steps, none of which is
  -- earlier than `time`
  pub settled_until-grows : (later : ℕ) → time ≤ later
      → (rest : List Step)
      × (settled_until skew later (with_steps t more_steps) ≡ with_steps (settled_until skew time t) rest)
  settled_until-grows later le =
      let h = settled_until-later skew time later (with_steps t more_steps) le in
      (h.0, h.1 ∙ ap (λ (u : Trace). with_steps u h.0) (settled_until-with_steps skew time t more_steps late))
