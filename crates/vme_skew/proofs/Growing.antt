-- One more step after a recording leaves its levels, times and groups as they are; the step belongs to the last group
-- or begins one.
use Rattle.std.proofs.Common.{◌≡◌, ℕ, zero, suc, ◌+◌, ◌-◌, ◌<◌, ◌≤◌, Bool, true, false, cond, List, [], ◌∷◌, ◌++◌}
use Rattle.std.proofs.Common.{length, refl, ap, ◌∙◌, arith}
use Rattle.std.specs.Prelude.{slice_get, ◌==◌, ◌||◌, nat_lt}
use Rattle.vme_trace.specs.Followed.{with_steps}
use Rattle.vme_trace.specs.Levels.{Levels}
use Rattle.vme_trace.specs.Trace.{Trace, after, changed, levels_at, time_at, time_of}
use Rattle.vme_trace.specs.declared.step.Step.{Step}
use Rattle.vme_trace.proofs.ListLaws.{slice_get-append, slice_get-here}
use Rattle.vme_bind.specs.Recording.{step_between}
use Rattle.vme_skew.specs.Settled.{begins_after, group_start, step_to, steps_before}

-- the group of an instant begins no later than the instant
pub group_start-at_most : (skew : ℕ) (t : Trace) (i : ℕ) → group_start skew t i ≤ i
unfolding group_start
group_start-at_most skew t zero = omega arith
group_start-at_most skew t (suc i) =
    by_test (begins_after skew t (group_start skew t i) i) (group_start-at_most skew t i)
  where
    by_test : (b : Bool) → group_start skew t i ≤ i → cond b (suc i) (group_start skew t i) ≤ suc i
    by_test true le = omega arith
    by_test false le = omega (arith, le)

module _ (t : Trace) (step : Step) where
  -- the recording with one more step
  abbrev pub with_step : Trace
  with_step = with_steps t (step ∷ [])

  -- the levels at the instants before the step are as without it
  pub levels_at-with_step : (i : ℕ) → i ≤ length t.steps → levels_at with_step i ≡ levels_at t i
  unfolding levels_at
  levels_at-with_step zero le = refl
  levels_at-with_step (suc i) le =
      ap (λ (v : Levels). after v (slice_get with_step.steps i)) (levels_at-with_step i (omega (arith, le)))
      ∙ ap (after (levels_at t i)) (slice_get-append t.steps (step ∷ []) i (omega (arith, le)))

  -- the times of the instants before the step are as without it
  pub time_at-with_step : (i : ℕ) → i ≤ length t.steps → time_at with_step i ≡ time_at t i
  time_at-with_step zero le = refl
  time_at-with_step (suc i) le = ap time_of (slice_get-append t.steps (step ∷ []) i (omega (arith, le)))

  -- the step's changes lead to the levels at the last instant
  pub levels_at-last : levels_at with_step (suc (length t.steps)) ≡ changed (levels_at t (length t.steps)) step.changes
  unfolding levels_at
  levels_at-last =
      ap (λ (v : Levels). after v (slice_get with_step.steps (length t.steps)))
      (levels_at-with_step (length t.steps) (omega arith))
      ∙ ap (after (levels_at t (length t.steps))) (slice_get-here t.steps step [])

  -- the last instant has the time of the step
  pub time_at-last : time_at with_step (suc (length t.steps)) ≡ step.time
  time_at-last = ap time_of (slice_get-here t.steps step [])

module _ (skew : ℕ) (t : Trace) (step : Step) where
  -- the recording with one more step
  abbrev longer : Trace
  longer = with_steps t (step ∷ [])

  -- a group begins after an instant before the step exactly if it does without the step
  begins_after-longer : (start i : ℕ) → start ≤ i → i < length t.steps → begins_after skew longer start i
      ≡ begins_after skew
      t start i
  begins_after-longer start i le lt =
      ap (λ (time : ℕ). (i == 0) || nat_lt (time + skew) (time_at longer (suc i)))
      (time_at-with_step t step start (omega (arith, le, lt)))
      ∙ ap (λ (time : ℕ). (i == 0) || nat_lt (time_at t start + skew) time)
      (time_at-with_step t step (suc i) (omega (arith, lt)))

  -- the group of an instant before the step begins as without the step
  pub group_start-longer : (i : ℕ) → i ≤ length t.steps → group_start skew longer i ≡ group_start skew t i
  unfolding group_start
  group_start-longer zero le = refl
  group_start-longer (suc i) le =
      let so_far = group_start-longer i (omega (arith, le)) in
      ap (λ (start : ℕ). cond (begins_after skew longer start i) (suc i) start) so_far
      ∙ ap (λ (b : Bool). cond b (suc i) (group_start skew t i)) (begins_after-longer (group_start skew t i) i
      (group_start-at_most skew t i) (omega (arith, le)))

  -- the step of the group of an instant before the step is as without the step
  pub step_to-longer : (i : ℕ) → i ≤ length t.steps → step_to skew longer i ≡ step_to skew t i
  step_to-longer i le =
      let start = group_start-longer i le in
      let first = group_start-at_most skew t i in
      ap (λ (j : ℕ). step_between (time_at longer j) (levels_at longer (j - 1)) (levels_at longer i)) start
      ∙ ap (λ (time : ℕ). step_between time (levels_at longer (group_start skew t i - 1)) (levels_at longer i))
      (time_at-with_step t step (group_start skew t i) (omega (arith, first, le)))
      ∙ ap (λ (v : Levels). step_between (time_at t (group_start skew t i)) v (levels_at longer i))
      (levels_at-with_step t step (group_start skew t i - 1) (omega (arith, first, le)))
      ∙ ap (step_between (time_at t (group_start skew t i)) (levels_at t (group_start skew t i - 1)))
      (levels_at-with_step t step i le)

  -- the steps of the groups before that of an instant before the step are as without the step
  pub steps_before-longer : (i : ℕ) → i ≤ length t.steps → steps_before skew longer i ≡ steps_before skew t i
  unfolding steps_before
  steps_before-longer zero le = refl
  steps_before-longer (suc i) le =
      ap (λ (start : ℕ). cond (begins_after skew longer start i) (steps_before skew longer i ++ step_to skew longer i)
      (steps_before skew longer i)) (group_start-longer i (omega (arith, le)))
      ∙ ap (λ (b : Bool). cond b (steps_before skew longer i ++ step_to skew longer i) (steps_before skew longer i))
      (begins_after-longer (group_start skew t i) i (group_start-at_most skew t i) (omega (arith, le)))
      ∙ ap (λ (xs : List Step). cond (begins_after skew t (group_start skew t i) i) (steps_before skew longer i ++ xs)
      (steps_before skew longer i)) (step_to-longer i (omega (arith, le)))
      ∙ ap (λ (xs : List Step). cond (begins_after skew t (group_start skew t i) i) (xs ++ step_to skew t i) xs)
      (steps_before-longer i (omega (arith, le)))

  -- the step begins a group
  abbrev pub begins : Bool
  begins = (length t.steps == 0) || nat_lt (time_at t (group_start skew t (length t.steps)) + skew) step.time

  -- a group begins after the last instant before the step exactly if the step begins one
  begins_after-begins : begins_after skew longer (group_start skew longer (length t.steps)) (length t.steps) ≡ begins
  begins_after-begins =
      ap (λ (start : ℕ). begins_after skew longer start (length t.steps))
      (group_start-longer (length t.steps) (omega arith))
      ∙ ap (λ (time : ℕ). (length t.steps == 0) || nat_lt (time + skew) (time_at longer (suc (length t.steps))))
      (time_at-with_step t step (group_start skew t (length t.steps)) (group_start-at_most skew t (length t.steps)))
      ∙ ap (λ (time : ℕ). (length t.steps == 0) || nat_lt (time_at t (group_start skew t (length t.steps)) + skew) time)
      (time_at-last t step)

  -- the group of the step begins with the step if that begins a group, or else as the one before
  pub group_start-next : (b : Bool) → begins ≡ b → group_start skew longer (suc (length t.steps))
      ≡ cond b (suc (length t.steps)) (group_start skew t (length t.steps))
  unfolding group_start
  group_start-next b e =
      ap (λ (c : Bool). cond c (suc (length t.steps)) (group_start skew longer (length t.steps)))
      (begins_after-begins ∙ e)
      ∙ ap (cond b (suc (length t.steps))) (group_start-longer (length t.steps) (omega arith))

  -- the steps of the groups before that of the step: with that of the last group before, if the step begins a group
  pub steps_before-next : (b : Bool) → begins ≡ b
      → steps_before skew longer (suc (length t.steps)) ≡ cond b (steps_before skew t (length t.steps) ++ step_to skew t
      (length t.steps)) (steps_before skew t (length t.steps))
  unfolding steps_before
  steps_before-next b e =
      ap (λ (c : Bool). cond c (steps_before skew longer (length t.steps) ++ step_to skew longer (length t.steps))
      (steps_before skew longer (length t.steps))) (begins_after-begins ∙ e)
      ∙ ap (λ (xs : List Step). cond b (steps_before skew longer (length t.steps) ++ xs)
      (steps_before skew longer (length t.steps))) (step_to-longer (length t.steps) (omega arith))
      ∙ ap (λ (xs : List Step). cond b (xs ++ step_to skew t (length t.steps)) xs)
      (steps_before-longer (length t.steps) (omega arith))
