-- The laws of settled recordings: they are recordings, have no more steps than before, lead to the same levels, and a
-- skew of 0 changes nothing.
use Rattle.std.proofs.Common.{◌≡◌, ℕ, zero, suc, ◌+◌, ◌-◌, ◌<◌, ◌≤◌, Bool, true, false, cond, not, ◌&&◌, ◌||◌, List, []}
use Rattle.std.proofs.Common.{◌∷◌, ◌++◌, length, take, refl, sym, ap, ◌∙◌, subst, arith, inl, inr, ◌⊎◌}
use Rattle.std.specs.Prelude.{Option, None, Some, slice_get, nat_lt, ◌==◌}
use Rattle.std.proofs.lemmas.Bool.{cases_Bool, eqb-true, false≢true, ltb-true, not-false, not-true, or_cases}
use Rattle.std.proofs.lemmas.Bool.Decides.{nat_tests}
use Rattle.std.proofs.lemmas.List.{append-nil, length-append, take_all}
use Rattle.std.proofs.lemmas.Option.{slice_get_cases}
use Rattle.vme_trace.specs.Changes.{is_changed}
use Rattle.vme_trace.specs.Instants.{any}
use Rattle.vme_trace.specs.Levels.{Levels, level_at}
use Rattle.vme_trace.specs.LineNumbers.{line_count, has_line}
use Rattle.vme_trace.specs.Trace.{Trace, after, changed, levels_after, levels_at, recorded, time_at, time_of}
use Rattle.vme_trace.specs.WellFormed.{are_changes, fits, is_empty, is_step, malformed_step, may_follow}
use Rattle.vme_trace.specs.declared.step.Change.{Change}
use Rattle.vme_trace.specs.declared.step.Step.{Step}
use Rattle.vme_trace.proofs.Changing.{slots-kept, level-kept}
use Rattle.vme_trace.proofs.CutBlocks.{levels_after-append, take-next}
use Rattle.vme_trace.proofs.ListLaws.{slice_get-append, slice_get-here}
use Rattle.vme_trace.proofs.Ranges.{any-fails, fails-any, least-none, least-none-any}
use Rattle.vme_trace.proofs.WellFormedSteps.{is_step-at}
use Rattle.vme_bind.specs.Recording.{differs, changes_between, step_between}
use Rattle.vme_bind.proofs.RecorderLemmas.{no_difference_at}
use Rattle.vme_bind.proofs.CaptureLemmas.{length-changed}
use Rattle.vme_bind.proofs.EndLemmas.{one_step}
use Rattle.vme_skew.specs.Settled.{IsRecording, begins_after, group_start, settled, step_to, steps_before}
use Rattle.vme_skew.proofs.Between.{AreOfOne, Leads, equal-no_difference, may_follow-between, has_line-is_changed}
use Rattle.vme_skew.proofs.Between.{changed-changes_between}
use Rattle.vme_skew.proofs.Between.{step_between-same, step_between-changed, levels_after-step_between}
use Rattle.vme_skew.proofs.Growing.{levels_at-with_step, levels_at-last, group_start-at_most, time_at-with_step}
use Rattle.vme_skew.proofs.Growing.{time_at-last}

-- ---- the steps of a recording

-- the parts of a conjunction of three tests that holds hold
and-three_parts : (a b c : Bool) → (a && b && c) ≡ true → (a ≡ true) × (b ≡ true) × (c ≡ true)
and-three_parts true true true h = (refl, refl, refl)
and-three_parts true true false h = absurd cc
and-three_parts true false c h = absurd cc
and-three_parts false b c h = absurd cc

-- `step` may follow `n` others, after which the levels are `v` and the time is `clock`
pub record MayFollowParts (v : Levels) (n clock : ℕ) (step : Step) : Type 0 where
  pub later : ((n == 0) || nat_lt clock step.time) ≡ true
  pub some : is_empty step.changes ≡ false
  pub changes : are_changes v 0 step.changes ≡ true

-- a step that may follow meets each part of the test
pub MayFollowParts-may_follow : (v : Levels) (n clock : ℕ) (step : Step) → may_follow v n clock step ≡ true
    → MayFollowParts v n clock step
MayFollowParts-may_follow v n clock step h =
    let parts = and-three_parts ((n == 0) || nat_lt clock step.time) (not (is_empty step.changes))
    (are_changes v 0 step.changes) h in
    record { later = parts.0; some = not-true (is_empty step.changes) parts.1; changes = parts.2 }

-- a step of a well-formed recording meets each part of the test whether it may follow those before it
pub MayFollowParts-step : (t : Trace) → malformed_step t ≡ None → (n : ℕ) (step : Step) → n < length t.steps
    → slice_get t.steps
    n ≡ Some step → MayFollowParts (levels_at t n) n (time_at t n) step
unfolding malformed_step
MayFollowParts-step t formed n step lt found =
    let sound : is_step t n ≡ true = not-false (is_step t n) (any-fails (λ i. not (is_step t i)) 0 (length t.steps) n
    (least-none-any (λ i. not (is_step t i)) 0 (length t.steps) formed) (omega arith) lt) in
    MayFollowParts-may_follow (levels_at t n) n (time_at t n) step
    (sym (is_step-at t n (levels_at t n) (time_at t n) step refl refl found)
    ∙ sound)

-- each instant has as many slots as the opening
pub slots-levels_at : (t : Trace) (n : ℕ) → (levels_at t n).slots ≡ t.opening.slots
unfolding levels_at
slots-levels_at t zero = refl
slots-levels_at t (suc n) = by_step (slice_get t.steps n) (slots-levels_at t n)
  where
    by_step : (step : Option Step) → (levels_at t n).slots ≡ t.opening.slots → (after (levels_at t n) step).slots
        ≡ t.opening.slots
    by_step None so_far = so_far
    by_step (Some step) so_far = slots-kept (levels_at t n) step.changes ∙ so_far

-- each instant has as many levels as the opening
pub length-levels_at : (t : Trace) (n : ℕ) → length (levels_at t n).levels ≡ length t.opening.levels
unfolding levels_at
length-levels_at t zero = refl
length-levels_at t (suc n) = by_step (slice_get t.steps n) (length-levels_at t n)
  where
    by_step : (step : Option Step) → length (levels_at t n).levels ≡ length t.opening.levels
        → length (after (levels_at t n) step).levels ≡ length t.opening.levels
    by_step None so_far = so_far
    by_step (Some step) so_far = length-changed (levels_at t n) step.changes ∙ so_far

-- the levels at two instants are of one backplane
pub AreOfOne-levels_at : (t : Trace) → length t.opening.levels ≡ line_count → (i j : ℕ)
    → AreOfOne (levels_at t i) (levels_at t j)
AreOfOne-levels_at t whole i j = record {
  slots = slots-levels_at t i ∙ sym (slots-levels_at t j);
  first = length-levels_at t i
      ∙ whole;
  second = length-levels_at t j ∙ whole;
}

-- a line that the backplane doesn't have keeps its level
level_at-no_line : (t : Trace) → malformed_step t ≡ None → (l : ℕ) → has_line t.opening.slots l ≡ false → (n : ℕ)
    → level_at (levels_at t n) l ≡ level_at t.opening l
unfolding levels_at
level_at-no_line t formed l none zero = refl
level_at-no_line t formed l none (suc n) =
    elim (slice_get_cases t.steps n).1 [
      | inl here ↦
          ap (λ (o : Option Step). level_at (after (levels_at t n) o) l) here.2
          ∙ level-kept (levels_at t n) here.0.changes l (unchanged here.0.changes (is_changed here.0.changes l) refl
          (MayFollowParts-step t formed n here.0 here.1 here.2).changes)
          ∙ level_at-no_line t formed l none n
      | inr past ↦ ap (λ (o : Option Step). level_at (after (levels_at t n) o) l) past.1
          ∙ level_at-no_line t formed l none n
    ]
  where
    unchanged : (cs : List Change) (b : Bool) → is_changed cs l ≡ b → are_changes (levels_at t n) 0 cs ≡ true
        → is_changed cs l ≡ false
    unchanged cs false e h = e
    unchanged cs true e h = absurd (false≢true (sym none ∙ ap (λ (s : ℕ). has_line s l) (sym (slots-levels_at t n))
        ∙ has_line-is_changed (levels_at t n) 0 cs l h e))

-- a step can lead from the levels at one instant of a recording to those at another
pub Leads-levels_at : (t : Trace) → IsRecording t → (i j : ℕ) → Leads (levels_at t i) (levels_at t j)
Leads-levels_at t is i j = record {
  one = AreOfOne-levels_at t is.whole i j;
  exist = λ l d. elim (cases_Bool (has_line (levels_at t i).slots l)) [
    | inl e ↦ e
    | inr none ↦
        let out : has_line t.opening.slots l ≡ false = ap (λ (s : ℕ). has_line s l) (sym (slots-levels_at t i))
        ∙ none in
        absurd (false≢true
        (sym (no_difference_at (levels_at t i) (levels_at t j) l (level_at-no_line t is.formed l out i
        ∙ sym (level_at-no_line t is.formed l out j))) ∙ d))
  ];
}

-- ---- the levels after the groups

-- the step of the group of instant n leads from the levels before the group to those at instant n
levels_after-step_to : (skew : ℕ) (t : Trace) → length t.opening.levels ≡ line_count → (n : ℕ)
    → levels_after (levels_at t (group_start skew t n - 1)) (step_to skew t n) ≡ levels_at t n
levels_after-step_to skew t whole n = levels_after-step_between (time_at t (group_start skew t n))
    (levels_at t (group_start skew t n - 1))
    (levels_at t n) (AreOfOne-levels_at t whole (group_start skew t n - 1) n)

-- the steps of the groups before that of instant n lead from the opening to the levels before that group
levels_after-steps_before : (skew : ℕ) (t : Trace) → length t.opening.levels ≡ line_count → (n : ℕ)
    → levels_after t.opening
    (steps_before skew t n) ≡ levels_at t (group_start skew t n - 1)
unfolding group_start steps_before levels_at
levels_after-steps_before skew t whole zero = refl
levels_after-steps_before skew t whole (suc i) = by_test (begins_after skew t (group_start skew t i) i)
    (levels_after-steps_before skew t whole i)
  where
    by_test : (b : Bool) → levels_after t.opening (steps_before skew t i) ≡ levels_at t (group_start skew t i - 1)
        → levels_after t.opening (cond b (steps_before skew t i ++ step_to skew t i) (steps_before skew t i))
        ≡ levels_at t (cond b (suc i) (group_start skew t i) - 1)
    by_test true so_far =
        let one_less : suc i - 1 ≡ i = omega arith in
        levels_after-append t.opening (steps_before skew t i) (step_to skew t i)
        ∙ ap (λ (v : Levels). levels_after v (step_to skew t i)) so_far ∙ levels_after-step_to skew t whole i
        ∙ ap (levels_at t) (sym one_less)
    by_test false so_far = so_far

-- the steps of the groups up to instant n lead from the opening to the levels at instant n
pub levels_after-groups : (skew n : ℕ) (t : Trace) → IsRecording t → levels_after t.opening (steps_before skew t n
    ++ step_to skew t n) ≡ levels_at t n
levels_after-groups skew n t is =
    levels_after-append t.opening (steps_before skew t n) (step_to skew t n)
    ∙ ap (λ (v : Levels). levels_after v (step_to skew t n)) (levels_after-steps_before skew t is.whole n)
    ∙ levels_after-step_to skew t
    is.whole n

-- ---- the number of steps

-- at most one step is between two sets of levels
length-step_between : (time : ℕ) (v w : Levels) → length (step_between time v w) ≤ 1
length-step_between time v w = by_test (any (differs v w) 0 line_count)
  where
    by_test : (b : Bool) → length (cond b (one_step time (changes_between v w)) []) ≤ 1
    by_test true = omega arith
    by_test false = omega arith

-- the group of the opening makes no step
pub step_to-opening : (skew : ℕ) (t : Trace) → step_to skew t 0 ≡ []
unfolding group_start
step_to-opening skew t = step_between-same (time_at t 0) (levels_at t 0)

-- the groups before that of instant n make at most n - 1 steps, and with that group at most n
pub length-groups : (skew : ℕ) (t : Trace) (n : ℕ) → (length (steps_before skew t n) ≤ n - 1)
    × (length (steps_before skew t n ++ step_to skew t n) ≤ n)
unfolding steps_before
length-groups skew t zero = (omega arith, omega (arith, ap length (step_to-opening skew t)))
length-groups skew t (suc i) = by_test (begins_after skew t (group_start skew t i) i) (length-groups skew t i)
  where
    last : length (step_to skew t (suc i)) ≤ 1
    last = length-step_between (time_at t (group_start skew t (suc i))) (levels_at t (group_start skew t (suc i) - 1))
        (levels_at t (suc i))

    before : Bool → List Step
    before b = cond b (steps_before skew t i ++ step_to skew t i) (steps_before skew t i)

    by_test : (b : Bool) → (length (steps_before skew t i) ≤ i - 1)
        × (length (steps_before skew t i ++ step_to skew t i) ≤ i)
        → (length (before b) ≤ suc i - 1) × (length (before b ++ step_to skew t (suc i)) ≤ suc i)
    by_test true h = (
      omega (arith, h.1),
      omega (
        arith,
        h.1,
        last,
        length-append (before true)
            (step_to skew t (suc i)),
      ),
    )
    by_test false h = (
      omega (arith, h.0),
      omega (
        arith,
        h.0,
        last,
        length-append (before false)
            (step_to skew t (suc i)),
      ),
    )

-- a settled recording has no more steps than the recording
pub length-settled : (skew : ℕ) (t : Trace) → length (settled skew t).steps ≤ length t.steps
unfolding settled
length-settled skew t = (length-groups skew t (length t.steps)).1

-- ---- a skew of 0

-- a number that is less than another is so with 0 added
nat_lt-plus_zero : (a b : ℕ) → nat_lt a b ≡ true → nat_lt (a + 0) b ≡ true
nat_lt-plus_zero a b h = grind (arith, nat_tests)

-- if n is 0 or `b` holds, n is 0 or `c` holds, where `b` implies `c`
pub first_or-weaker : (n : ℕ) (b c : Bool) → ((n == 0) || b) ≡ true → (b ≡ true → c ≡ true) → ((n == 0) || c) ≡ true
first_or-weaker n b c h more = by_test (n == 0) h
  where
    by_test : (first : Bool) → (first || b) ≡ true → (first || c) ≡ true
    by_test true e = refl
    by_test false e = more e

-- with a skew of 0 each instant begins its own group
group_start-zero_skew : (t : Trace) → malformed_step t ≡ None → (n : ℕ) → n ≤ length t.steps → group_start 0 t n ≡ n
unfolding group_start
group_start-zero_skew t formed zero le = refl
group_start-zero_skew t formed (suc i) le =
    elim (slice_get_cases t.steps i).1 [
      | inl here ↦
          let so_far = group_start-zero_skew t formed i (omega (arith, le)) in
          let later = (MayFollowParts-step t formed i here.0 here.1 here.2).later in
          let begins : begins_after 0 t i i ≡ true =
          first_or-weaker i (nat_lt (time_at t i) here.0.time)
          (nat_lt (time_at t i + 0) (time_of (slice_get t.steps i))) later
          (λ h. nat_lt-plus_zero (time_at t i) (time_of (slice_get t.steps i))
          (ap (λ (o : Option Step). nat_lt (time_at t i) (time_of o)) here.2 ∙ h)) in
          ap (λ (start : ℕ). cond (begins_after 0 t start i) (suc i) start) so_far
          ∙ ap (λ (b : Bool). cond b (suc i) i) begins
      | inr past ↦ absurd (omega (arith, past.0, le))
    ]

-- with a skew of 0 a group begins after each instant
begins_after-zero_skew : (t : Trace) → malformed_step t ≡ None → (i : ℕ) → suc i ≤ length t.steps → begins_after 0 t
    (group_start 0 t i) i ≡ true
unfolding group_start
begins_after-zero_skew t formed i le =
    by_test (begins_after 0 t (group_start 0 t i) i) (group_start-zero_skew t formed (suc i) le)
  where
    by_test : (b : Bool) → cond b (suc i) (group_start 0 t i) ≡ suc i → b ≡ true
    by_test true e = refl
    by_test false e = absurd (omega (arith, e, group_start-at_most 0 t i))

-- with a skew of 0 the group of an instant makes the step of that instant
step_to-zero_skew : (t : Trace) → IsRecording t → (i : ℕ) (step : Step) → i < length t.steps → slice_get t.steps i
    ≡ Some step
    → step_to 0 t (suc i) ≡ step ∷ []
unfolding levels_at
step_to-zero_skew t is i step lt found =
    let may_follow_parts = MayFollowParts-step t is.formed i step lt found in
    let one_less : suc i - 1 ≡ i = omega arith in
    ap (λ (start : ℕ). step_between (time_at t start) (levels_at t (start - 1)) (levels_at t (suc i)))
    (group_start-zero_skew t is.formed (suc i) (omega (arith, lt)))
    ∙ ap (λ (j : ℕ). step_between (time_at t (suc i)) (levels_at t j) (levels_at t (suc i))) one_less
    ∙ ap (λ (o : Option Step). step_between (time_of o) (levels_at t i) (after (levels_at t i) o)) found
    ∙ step_between-changed step.time (levels_at t i) step.changes (length-levels_at t i ∙ is.whole)
    may_follow_parts.changes
    may_follow_parts.some

-- with a skew of 0 the groups up to instant n make the first n steps
groups-zero_skew : (t : Trace) → IsRecording t → (n : ℕ) → n ≤ length t.steps → steps_before 0 t n ++ step_to 0 t n
    ≡ take n t.steps
unfolding steps_before
groups-zero_skew t is zero le = step_to-opening 0 t
groups-zero_skew t is (suc i) le =
    elim (slice_get_cases t.steps i).1 [
      | inl here ↦
          let one_more : i + 1 ≡ suc i = omega arith in
          ap (λ (b : Bool). cond b (steps_before 0 t i ++ step_to 0 t i) (steps_before 0 t i) ++ step_to 0 t (suc i))
          (begins_after-zero_skew t is.formed i le)
          ∙ ap (λ (xs : List Step). xs ++ step_to 0 t (suc i)) (groups-zero_skew t is i (omega (arith, le)))
          ∙ ap (λ (xs : List Step). take i t.steps ++ xs) (step_to-zero_skew t is i here.0 here.1 here.2)
          ∙ sym (take-next t.steps i here.0 here.2) ∙ ap (λ (n : ℕ). take n t.steps) one_more
      | inr past ↦ absurd (omega (arith, past.0, le))
    ]

-- a skew of 0 leaves a recording as it is
pub settled-zero_skew : (t : Trace) → IsRecording t → settled 0 t ≡ t
unfolding settled
settled-zero_skew t is =
    ap of_these (groups-zero_skew t is (length t.steps) (omega arith) ∙ take_all (length t.steps) t.steps
    (omega arith))
  where
    of_these : List Step → Trace
    of_these xs = record { opening = t.opening; steps = xs }

-- ---- a settled recording is well formed

-- the steps `xs` after the opening `o` are well formed, and lead to the levels `v` and the time `clock`
record AreFormed (o : Levels) (xs : List Step) (v : Levels) (clock : ℕ) : Type 0 where
  sound : any (λ i. not (is_step (recorded o xs) i)) 0 (length xs) ≡ false
  left : levels_at (recorded o xs) (length xs) ≡ v
  time : time_at (recorded o xs) (length xs) ≡ clock

-- a list has one element more with one appended
pub length-append_one : (xs : List Step) (step : Step) → length (xs ++ step ∷ []) ≡ suc (length xs)
length-append_one [] step = refl
length-append_one (x ∷ xs) step = ap suc (length-append_one xs step)

-- whether step i may follow those before it doesn't depend on a later step
pub is_step-append : (o : Levels) (xs : List Step) (step : Step) (i : ℕ) → i < length xs
    → is_step (recorded o (xs ++ step ∷ [])) i ≡ is_step (recorded o xs) i
unfolding is_step
is_step-append o xs step i lt =
    let t : Trace = recorded o xs in
    let u : Trace = recorded o (xs ++ step ∷ []) in
    ap (fits u i) (slice_get-append xs (step ∷ []) i lt) ∙ by_step (slice_get xs i)
  where
    by_step : (found : Option Step) → fits (recorded o (xs ++ step ∷ [])) i found ≡ fits (recorded o xs) i found
    by_step None = refl
    by_step (Some s) =
        ap (λ (v : Levels). may_follow v i (time_at (recorded o (xs ++ step ∷ [])) i) s)
        (levels_at-with_step (recorded o xs) step i (omega (arith, lt)))
        ∙ ap (λ (clock : ℕ). may_follow (levels_at (recorded o xs) i) i clock s)
        (time_at-with_step (recorded o xs) step i (omega (arith, lt)))

-- well-formed steps with one more, which may follow them, are well formed, and lead on by its changes to its time
AreFormed-append : (o : Levels) (xs : List Step) (v : Levels) (clock : ℕ) (step : Step) → AreFormed o xs v clock
    → may_follow v (length xs) clock step ≡ true → AreFormed o (xs ++ step ∷ []) (changed v step.changes) step.time
AreFormed-append o xs v clock step h may = record {
  sound = ap (any (λ i. not (is_step u i)) 0) (length-append_one xs step) ∙ fails-any (λ i. not (is_step u i)) 0
      (suc (length xs)) each;
  left = ap (levels_at u) (length-append_one xs step) ∙ levels_at-last t step
      ∙ ap (λ (w : Levels). changed w step.changes)
      h.left;
  time = ap (time_at u) (length-append_one xs step) ∙ time_at-last t step;
}
  where
    t : Trace
    t = recorded o xs

    u : Trace
    u = recorded o (xs ++ step ∷ [])

    last : is_step u (length xs) ≡ true
    last =
        is_step-at u (length xs) v clock step (sym (levels_at-with_step t step (length xs) (omega arith) ∙ h.left))
        (sym (time_at-with_step t step (length xs) (omega arith) ∙ h.time)) (slice_get-here xs step [])
        ∙ may

    each : (i : ℕ) → 0 ≤ i → i < suc (length xs) → not (is_step u i) ≡ false
    each i low lt = elim (last_or_before (length xs) i lt) [
      | inl e ↦ ap (λ (j : ℕ). not (is_step u j)) e ∙ ap not last
      | inr less ↦ ap not (is_step-append o xs step i less) ∙ any-fails (λ i. not (is_step t i)) 0 (length xs) i h.sound
          (omega arith) less
    ]
      where
        last_or_before : (n i : ℕ) → i < suc n → (i ≡ n) ⊎ (i < n)
        last_or_before n i h = grind arith

-- no steps are well formed, and lead from the opening to the opening
AreFormed-none : (o : Levels) → AreFormed o [] o 0
unfolding levels_at any
AreFormed-none o = record { sound = refl; left = refl; time = refl }

-- the test whether n is 0 or `time` is later than `clock` holds if either does
first_or_later : (n clock time : ℕ) → (n ≡ 0) ⊎ (clock < time) → ((n == 0) || nat_lt clock time) ≡ true
first_or_later n clock time (inl e) = grind (arith, nat_tests)
first_or_later n clock time (inr lt) = grind (arith, nat_tests)

-- the steps `xs` after the opening `o` are well formed and lead to the levels `v`, and to a time that meets `IsBefore`,
-- if there are any steps
record AreSettled (o : Levels) (xs : List Step) (v : Levels) (IsBefore : ℕ → Type 0) : Type 0 where
  clock : ℕ
  formed : AreFormed o xs v clock
  earlier : (length xs ≡ 0) ⊎ IsBefore clock

-- well-formed steps that lead to `v`, with one more to the levels `w`, at a later time, are well formed and lead to `w`
AreSettled-step_between : (o : Levels) (xs : List Step) (v w : Levels) (time : ℕ) → Leads v w → AreSettled o xs v
    (λ clock. clock < time) → AreSettled o (xs ++ step_between time v w) w (λ clock. clock ≤ time)
AreSettled-step_between o xs v w time can_lead h = by_test (any (differs v w) 0 line_count) refl
  where
    by_test : (b : Bool) → any (differs v w) 0 line_count ≡ b
        → AreSettled o (xs ++ cond b (one_step time (changes_between v w)) []) w (λ clock. clock ≤ time)
    by_test true some =
        let step : Step = record { time = time; changes = changes_between v w } in
        let may = may_follow-between v w (length xs) h.clock time can_lead some (first_or_later (length xs) h.clock time
        h.earlier) in
        record {
          clock = time;
          formed = subst (λ (u : Levels). AreFormed o (xs ++ step ∷ []) u time)
              (changed-changes_between v w can_lead.one)
              (AreFormed-append o xs v h.clock step h.formed may);
          earlier = inr (omega arith);
        }
    by_test false none =
        subst (λ (ys : List Step). AreSettled o ys w (λ clock. clock ≤ time)) (sym (append-nil xs)) (record {
          clock = h.clock;
          formed = subst (λ (u : Levels). AreFormed o xs u h.clock) (equal-no_difference v w can_lead.one none)
              h.formed;
          earlier = elim h.earlier [ inl e ↦ inl e | inr lt ↦ inr (omega (arith, lt)) ];
        })

-- where the test for i being 0, or a less than b, holds, i is 0 or a is less than b
pub first_or_later-cases : (i a b : ℕ) → ((i == 0) || nat_lt a b) ≡ true → (i ≡ 0) ⊎ (a < b)
first_or_later-cases i a b h = elim (or_cases (i == 0) (nat_lt a b) h) [
  | inl first ↦ inl (eqb-true i 0 first)
  | inr later ↦ inr (ltb-true a b later)
]

module _ (skew : ℕ) (t : Trace) (is : IsRecording t) where
  -- the steps of the groups before that of instant n are well formed, and earlier than that group
  abbrev BeforeGroup : ℕ → Type 0
  BeforeGroup n = AreSettled t.opening (steps_before skew t n) (levels_at t (group_start skew t n - 1))
      (λ clock. clock < time_at t (group_start skew t n))

  -- the steps of the groups up to instant n are well formed, and no later than the last group
  abbrev UpTo : ℕ → Type 0
  UpTo n = AreSettled t.opening (steps_before skew t n ++ step_to skew t n) (levels_at t n)
      (λ clock. clock ≤ time_at t (group_start skew t n))

  -- with the step of the group of instant n, the steps before it are well formed
  UpTo-BeforeGroup : (n : ℕ) → BeforeGroup n → UpTo n
  UpTo-BeforeGroup n h = AreSettled-step_between t.opening (steps_before skew t n)
      (levels_at t (group_start skew t n - 1)) (levels_at t n)
      (time_at t (group_start skew t n)) (Leads-levels_at t is (group_start skew t n - 1) n) h

  -- the groups up to the opening make no step
  length-groups_opening : (i : ℕ) → i ≡ 0 → length (steps_before skew t i ++ step_to skew t i) ≡ 0
  length-groups_opening i e = omega (arith, (length-groups skew t i).1, e)

  -- the steps of the groups before that of instant n are well formed
  BeforeGroup-instant : (n : ℕ) → BeforeGroup n
  unfolding group_start steps_before levels_at
  BeforeGroup-instant zero = record { clock = 0; formed = AreFormed-none t.opening; earlier = inl refl }
  BeforeGroup-instant (suc i) = by_test (begins_after skew t (group_start skew t i) i) refl (BeforeGroup-instant i)
    where
      by_test : (b : Bool) → begins_after skew t (group_start skew t i) i ≡ b → BeforeGroup i
          → AreSettled t.opening (cond b (steps_before skew t i ++ step_to skew t i) (steps_before skew t i))
          (levels_at t (cond b (suc i) (group_start skew t i) - 1))
          (λ clock. clock < time_at t (cond b (suc i) (group_start skew t i)))
      by_test true e h =
          let so_far : UpTo i = UpTo-BeforeGroup i h in
          let one_less : i ≡ suc i - 1 = omega arith in
          subst (λ (j : ℕ). AreSettled t.opening (steps_before skew t i ++ step_to skew t i) (levels_at t j)
          (λ clock. clock < time_at t (suc i))) one_less (record {
            clock = so_far.clock;
            formed = so_far.formed;
            earlier = elim (first_or_later-cases i (time_at t (group_start skew t i) + skew) (time_at t (suc i)) e) [
              | inl first ↦ inl (length-groups_opening i first)
              | inr later ↦ elim so_far.earlier [ inl none ↦ inl none | inr le ↦ inr (omega (arith, le, later)) ]
            ];
          })
      by_test false e h = h

-- a settled recording is a recording
pub IsRecording-settled : (skew : ℕ) (t : Trace) → IsRecording t → IsRecording (settled skew t)
unfolding settled malformed_step
IsRecording-settled skew t is =
    let all = UpTo-BeforeGroup skew t is (length t.steps) (BeforeGroup-instant skew t is (length t.steps)) in
    let u : Trace = recorded t.opening (steps_before skew t (length t.steps) ++ step_to skew t (length t.steps)) in
    record { whole = is.whole; formed = least-none (λ i. not (is_step u i)) 0 (length u.steps) all.formed.sound }
