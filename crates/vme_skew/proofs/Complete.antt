-- The steps of a settled recording that are complete once a time is read: those of the groups that are over, which are
-- the first ones.
use Rattle.std.proofs.Common.{◌≡◌, ℕ, zero, suc, ◌+◌, ◌-◌, ◌<◌, ◌≤◌, Bool, true, false, cond, List, [], ◌∷◌, ◌++◌}
use Rattle.std.proofs.Common.{length, refl, sym, ap, ◌∙◌, arith, inl, inr, append_assoc}
use Rattle.std.specs.Prelude.{None, nat_lt, filter, All}
use Rattle.std.proofs.lemmas.Bool.{lt-ltb, ltb-true}
use Rattle.std.proofs.lemmas.List.{append-nil}
use Rattle.std.proofs.lemmas.List.Elements.{All-append, All-cons, All-head, All-nil, All-tail, All-weaker}
use Rattle.std.proofs.lemmas.List.Elements.{filter-append}
use Rattle.std.proofs.lemmas.Option.{slice_get_cases}
use Rattle.vme_trace.specs.Followed.{with_steps}
use Rattle.vme_trace.specs.Instants.{any}
use Rattle.vme_trace.specs.Levels.{Levels}
use Rattle.vme_trace.specs.LineNumbers.{line_count}
use Rattle.vme_trace.specs.Trace.{Trace, levels_at, time_at, time_of}
use Rattle.vme_trace.specs.WellFormed.{malformed_step}
use Rattle.vme_trace.specs.declared.step.Step.{Step}
use Rattle.vme_bind.specs.Recording.{changes_between, differs, step_between}
use Rattle.vme_bind.proofs.EndLemmas.{one_step}
use Rattle.vme_skew.specs.Settled.{IsRecording, begins_after, group_start, is_complete, settled, settled_until}
use Rattle.vme_skew.specs.Settled.{step_to, steps_before}
use Rattle.vme_skew.proofs.Laws.{first_or_later-cases, settled-zero_skew, length-groups, MayFollowParts-step}

-- ---- filters

-- all of the steps have `p`
abbrev AllPass : (Step → Bool) → List Step → Type 0
AllPass p xs = All (λ (s : Step). p s ≡ true) xs

-- filtering steps that all have `p` leaves them as they are
filter-all_pass : (p : Step → Bool) (xs : List Step) → AllPass p xs → filter p xs ≡ xs
filter-all_pass p [] h = refl
filter-all_pass p (x ∷ xs) h =
    ap (λ (b : Bool). cond b (x ∷ filter p xs) (filter p xs)) (All-head (λ (s : Step). p s ≡ true) x xs h)
    ∙ ap (λ (ys : List Step). x ∷ ys) (filter-all_pass p xs (All-tail (λ (s : Step). p s ≡ true) x xs h))

-- all of no steps have any property
All-no_step : (P : Step → Type 0) (xs : List Step) → length xs ≡ 0 → All P xs
All-no_step P [] e = All-nil P
All-no_step P (x ∷ xs) e = absurd (omega (arith, e))

-- the step between two sets of levels has the time that it is given
time-step_between : (time : ℕ) (v w : Levels) → All (λ (s : Step). s.time ≡ time) (step_between time v w)
time-step_between time v w = by_test (any (differs v w) 0 line_count)
  where
    by_test : (b : Bool) → All (λ (s : Step). s.time ≡ time) (cond b (one_step time (changes_between v w)) [])
    by_test true = All-cons (λ (s : Step). s.time ≡ time) (record { time = time; changes = changes_between v w }) []
        refl (All-nil (λ (s : Step). s.time ≡ time))
    by_test false = All-nil (λ (s : Step). s.time ≡ time)

-- ---- the groups of a recording

module _ (skew : ℕ) (t : Trace) where
  -- the time at which the group of an instant begins
  abbrev pub start_time : ℕ → ℕ
  start_time i = time_at t (group_start skew t i)

  -- the groups up to the opening make no step
  length-groups_opening : (i : ℕ) → i ≡ 0 → length (steps_before skew t i ++ step_to skew t i) ≡ 0
  length-groups_opening i e = omega (arith, (length-groups skew t i).1, e)

  -- the steps of the groups before that of an instant are more than the skew earlier than its beginning
  steps_before-earlier : (n : ℕ) → All (λ (s : Step). s.time + skew < start_time n) (steps_before skew t n)
  unfolding group_start steps_before
  steps_before-earlier zero = All-nil (λ (s : Step). s.time + skew < start_time zero)
  steps_before-earlier (suc i) = by_test (begins_after skew t (group_start skew t i) i) refl (steps_before-earlier i)
    where
      by_test : (b : Bool) → begins_after skew t (group_start skew t i) i ≡ b
          → All (λ (s : Step). s.time + skew < start_time i) (steps_before skew t i)
          → All (λ (s : Step). s.time + skew < time_at t (cond b (suc i) (group_start skew t i)))
          (cond b (steps_before skew t i ++ step_to skew t i) (steps_before skew t i))
      by_test false e h = h
      by_test true e h = elim (first_or_later-cases i (start_time i + skew) (time_at t (suc i)) e) [
        | inl first ↦
            All-no_step (λ (s : Step). s.time + skew < time_at t (suc i)) (steps_before skew t i ++ step_to skew t i)
            (length-groups_opening i first)
        | inr later ↦
            All-append (λ (s : Step). s.time + skew < time_at t (suc i)) (steps_before skew t i) (step_to skew t i)
            (All-weaker (λ (s : Step). s.time + skew < start_time i) (λ (s : Step). s.time + skew < time_at t (suc i))
            (λ s lt. omega (arith, lt, later)) (steps_before skew t i) h)
            (All-weaker (λ (s : Step). s.time ≡ start_time i) (λ (s : Step). s.time + skew < time_at t (suc i))
            (λ s at. omega (arith, at, later)) (step_to skew t i)
            (time-step_between (start_time i) (levels_at t (group_start skew t i - 1)) (levels_at t i)))
      ]

  -- the steps of the groups before that of an instant are complete at each time from its beginning on
  steps_before-complete : (n time : ℕ) → start_time n ≤ time → filter (is_complete skew time) (steps_before skew t n)
      ≡ steps_before skew t n
  steps_before-complete n time le =
      filter-all_pass (is_complete skew time) (steps_before skew t n)
      (All-weaker (λ (s : Step). s.time + skew < start_time n) (λ (s : Step). is_complete skew time s ≡ true)
      (λ s lt. lt-ltb (s.time + skew) time (omega (arith, lt, le))) (steps_before skew t n) (steps_before-earlier n))

  -- the step of the group of an instant is complete at a time that is more than the skew after its beginning
  pub step_to-complete : (n time : ℕ) → filter (is_complete skew time) (step_to skew t n)
      ≡ cond (nat_lt (start_time n + skew) time) (step_to skew t n) []
  step_to-complete n time = by_test (any (differs v w) 0 line_count) (nat_lt (start_time n + skew) time) refl
    where
      v : Levels
      v = levels_at t (group_start skew t n - 1)

      w : Levels
      w = levels_at t n

      by_test : (some b : Bool) → nat_lt (start_time n + skew) time ≡ b
          → filter (is_complete skew time) (cond some (one_step (start_time n) (changes_between v w)) [])
          ≡ cond b (cond some (one_step (start_time n) (changes_between v w)) []) []
      by_test true b e = ap (λ (c : Bool). cond c (one_step (start_time n) (changes_between v w)) []) e
      by_test false true e = refl
      by_test false false e = refl

  -- ---- what is complete at a time that isn't before the last step

  -- no instant of a well-formed recording is earlier than the one before
  time_at-grows : malformed_step t ≡ None → (i : ℕ) → i < length t.steps → time_at t i ≤ time_at t (suc i)
  time_at-grows formed i lt = elim (slice_get_cases t.steps i).1 [
    | inl here ↦
        let next : time_at t (suc i) ≡ here.0.time = ap time_of here.2 in
        elim (first_or_later-cases i (time_at t i) here.0.time
        (MayFollowParts-step t formed i here.0 here.1 here.2).later) [
          | inl first ↦ let none : time_at t i ≡ 0 = ap (time_at t) first in omega (arith, none)
          | inr later ↦ omega (arith, next, later)
        ]
    | inr past ↦ absurd (omega (arith, past.0, lt))
  ]

  -- the group of an instant begins no later than the instant
  pub start_time-no_later : malformed_step t ≡ None → (n : ℕ) → n ≤ length t.steps → start_time n ≤ time_at t n
  unfolding group_start
  start_time-no_later formed zero le = omega arith
  start_time-no_later formed (suc i) le =
      by_test (begins_after skew t (group_start skew t i) i) (start_time-no_later formed i (omega (arith, le)))
      (time_at-grows formed i (omega (arith, le)))
    where
      by_test : (b : Bool) → start_time i ≤ time_at t i → time_at t i ≤ time_at t (suc i)
          → time_at t (cond b (suc i) (group_start skew t i)) ≤ time_at t (suc i)
      by_test true so_far grow = omega arith
      by_test false so_far grow = omega (arith, so_far, grow)

  -- at a time that isn't before the last step, the complete steps are those of the groups before the last, and that of
  -- the last group if it is over
  pub steps-settled_until : malformed_step t ≡ None → (time : ℕ) → time_at t (length t.steps) ≤ time
      → (settled_until skew time
      t).steps
      ≡ steps_before skew t (length t.steps)
      ++ cond (nat_lt (start_time (length t.steps) + skew) time) (step_to skew t (length t.steps)) []
  unfolding settled_until settled
  steps-settled_until formed time le =
      let n = length t.steps in
      filter-append (is_complete skew time) (steps_before skew t n) (step_to skew t n)
      ∙ ap (λ (xs : List Step). xs ++ filter (is_complete skew time) (step_to skew t n))
      (steps_before-complete n time (omega (arith, le, start_time-no_later formed n (omega arith))))
      ∙ ap (λ (xs : List Step). steps_before skew t n ++ xs) (step_to-complete n time)

-- ---- what is complete is a prefix

-- `ys` is `xs` with some steps after them
abbrev pub IsPrefix : List Step → List Step → Type 0
IsPrefix xs ys = (rest : List Step) × (ys ≡ xs ++ rest)

module _ (skew time : ℕ) (t : Trace) where
  -- the steps of a list that are complete
  abbrev complete : List Step → List Step
  complete xs = filter (is_complete skew time) xs

  -- if the complete steps of the groups before that of instant n are the first ones, so they are with that group
  IsPrefix-with_group : (n : ℕ) → IsPrefix (complete (steps_before skew t n)) (steps_before skew t n)
      → IsPrefix (complete (steps_before skew t n ++ step_to skew t n)) (steps_before skew t n ++ step_to skew t n)
  IsPrefix-with_group n h = by_test (nat_lt (start_time skew t n + skew) time) refl
    where
      before : List Step
      before = steps_before skew t n

      group : List Step
      group = step_to skew t n

      parts : (b : Bool) → nat_lt (start_time skew t n + skew) time ≡ b
          → complete (before ++ group) ≡ complete before ++ cond b group []
      parts b e =
          filter-append (is_complete skew time) before group
          ∙ ap (λ (xs : List Step). complete before ++ xs)
          (step_to-complete skew t n time ∙ ap (λ (c : Bool). cond c group []) e)

      by_test : (b : Bool) → nat_lt (start_time skew t n + skew) time ≡ b
          → IsPrefix (complete (before ++ group)) (before ++ group)
      by_test true e =
          let lt : start_time skew t n + skew < time = ltb-true (start_time skew t n + skew) time e in
          let all : complete (before ++ group) ≡ before ++ group = parts true e ∙ ap (λ (xs : List Step). xs ++ group)
          (steps_before-complete skew t n time (omega (arith, lt))) in
          ([], sym (append-nil (complete (before ++ group)) ∙ all))
      by_test false e =
          let all : complete (before ++ group) ≡ complete before = parts false e ∙ append-nil (complete before) in (
            h.0 ++ group,
            ap (λ (xs : List Step). xs ++ group) h.1 ∙ append_assoc (complete before) h.0 group
                ∙ ap (λ (xs : List Step). xs ++ (h.0 ++ group))
                (sym all),
          )

  -- the complete steps of the groups before that of instant n are the first ones
  IsPrefix-steps_before : (n : ℕ) → IsPrefix (complete (steps_before skew t n)) (steps_before skew t n)
  unfolding steps_before
  IsPrefix-steps_before zero = ([], refl)
  IsPrefix-steps_before (suc i) = by_test (begins_after skew t (group_start skew t i) i) (IsPrefix-steps_before i)
    where
      by_test : (b : Bool) → IsPrefix (complete (steps_before skew t i)) (steps_before skew t i)
          → IsPrefix (complete (cond b (steps_before skew t i ++ step_to skew t i) (steps_before skew t i)))
          (cond b (steps_before skew t i ++ step_to skew t i) (steps_before skew t i))
      by_test true h = IsPrefix-with_group i h
      by_test false h = h

  -- the settled recording is what is complete of it, with some steps after
  pub settled_until-prefix : (rest : List Step) × (settled skew t ≡ with_steps (settled_until skew time t) rest)
  unfolding settled_until settled
  settled_until-prefix =
      let n = length t.steps in
      let h = IsPrefix-with_group n (IsPrefix-steps_before n) in
      (h.0, ap (λ (xs : List Step). of_these xs) h.1)
    where
      of_these : List Step → Trace
      of_these xs = record { opening = t.opening; steps = xs }

-- ---- a skew of 0

-- with a skew of 0 all is complete at a time that is later than all steps
pub settled_until-zero_skew : (time : ℕ) (t : Trace) → IsRecording t → All (λ (s : Step). s.time < time) t.steps
    → settled_until 0 time t ≡ t
unfolding settled_until
settled_until-zero_skew time t is earlier =
    ap (λ (u : Trace). of_these (filter (is_complete 0 time) u.steps)) (settled-zero_skew t is)
    ∙ ap of_these (filter-all_pass (is_complete 0 time) t.steps
    (All-weaker (λ (s : Step). s.time < time) (λ (s : Step). is_complete 0 time s ≡ true)
    (λ s lt. lt-ltb (s.time + 0) time (omega (arith, lt))) t.steps earlier))
  where
    of_these : List Step → Trace
    of_these xs = record { opening = t.opening; steps = xs }
