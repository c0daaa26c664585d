-- What a settler keeps holds before the first step, and after each step and each time that it takes; so its steps are
-- those of the settled recording that are complete.
use Rattle.std.proofs.Common.{◌≡◌, ℕ, suc, ◌+◌, ◌-◌, ◌<◌, ◌≤◌, Bool, true, false, cond, not, ◌&&◌, ◌||◌, List, []}
use Rattle.std.proofs.Common.{◌∷◌, ◌++◌, length, refl, sym, ap, ◌∙◌, subst, arith, inl, inr, ◌⊎◌, append_assoc}
use Rattle.std.specs.Prelude.{Option, None, Some, slice_get, max, nat_le, nat_lt, ◌==◌}
use Rattle.std.specs.Option.{option_to_list}
use Rattle.std.proofs.Math.Nat.{le-max_left, le-max_right, max-eq_right}
use Rattle.std.proofs.lemmas.Bool.{and_parts, eqb-false, leb-true, lt-ltb, or_right}
use Rattle.std.proofs.lemmas.Bool.Decides.{nat_tests}
use Rattle.std.proofs.lemmas.List.{append-nil}
use Rattle.vme_trace.specs.Followed.{with_steps}
use Rattle.vme_trace.specs.Levels.{Levels}
use Rattle.vme_trace.specs.Trace.{Trace, changed, levels_at, time_at}
use Rattle.vme_trace.specs.WellFormed.{is_step, malformed_step}
use Rattle.vme_trace.specs.declared.step.Change.{Change}
use Rattle.vme_trace.specs.declared.step.Step.{Step}
use Rattle.vme_trace.proofs.ListLaws.{slice_get-here}
use Rattle.vme_trace.proofs.Ranges.{any-fails, fails-any, least-none, least-none-any}
use Rattle.vme_bind.specs.Recording.{step_between}
use Rattle.vme_skew.specs.Group.{ChangeLines, GroupLevels, begun}
use Rattle.vme_skew.specs.Settled.{IsRecording, group_start, settled, settled_until, step_to, steps_before}
use Rattle.vme_skew.specs.Settling.{IsAtGroup, IsBetweenGroups, IsInGroup, IsSettledSoFar, KeepsGroup, Settling}
use Rattle.vme_skew.proofs.Between.{step_between-same}
use Rattle.vme_skew.proofs.Complete.{settled_until-prefix, steps-settled_until}
use Rattle.vme_skew.proofs.Growing.{steps_before-longer, steps_before-next, begins, levels_at-with_step}
use Rattle.vme_skew.proofs.Growing.{group_start-longer, group_start-at_most, group_start-next}
use Rattle.vme_skew.proofs.Growing.{time_at-with_step, time_at-last, with_step}
use Rattle.vme_skew.proofs.Laws.{first_or_later-cases, first_or-weaker, IsRecording-settled}
use Rattle.vme_skew.proofs.Laws.{length-append_one, step_to-opening, is_step-append}
use Rattle.vme_skew.proofs.StepByStep.{AreReadyFor, AreSettledTo, ChangeLines-ready, AreReadyFor-over}
use Rattle.vme_skew.proofs.StepByStep.{AreReadyFor-within, AreSettledTo-taken}
use Rattle.vme_skew.proofs.StepByStep.{step_between-group}

-- ---- a recording with one more step

-- a well-formed recording is so without its last step
pub malformed_step-without_last : (t : Trace) (step : Step) → malformed_step (with_step t step) ≡ None
    → malformed_step t ≡ None
unfolding malformed_step
malformed_step-without_last t step formed =
    let u : Trace = with_step t step in
    let all = least-none-any (λ i. not (is_step u i)) 0 (length u.steps) formed in
    least-none (λ i. not (is_step t i)) 0 (length t.steps) (fails-any (λ i. not (is_step t i)) 0 (length t.steps)
    (λ i low lt. ap not (sym (is_step-append t.opening t.steps step i lt)) ∙ any-fails (λ i. not (is_step u i)) 0
    (length u.steps) i all (omega arith) (omega (arith, lt, length-append_one t.steps step))))

-- a prefix of a well-formed recording is well formed
malformed_step-front : (t : Trace) (rest : List Step) → malformed_step (with_steps t rest) ≡ None → malformed_step t
    ≡ None
malformed_step-front t [] formed =
    ap (λ (xs : List Step). malformed_step (record { opening = t.opening; steps = xs })) (sym (append-nil t.steps))
    ∙ formed
malformed_step-front t (s ∷ ss) formed =
    malformed_step-without_last t s (malformed_step-front (with_step t s) ss
    (ap (λ (xs : List Step). malformed_step (record { opening = t.opening; steps = xs }))
    (append_assoc t.steps (s ∷ []) ss) ∙ formed))

-- a recording that is settled as far as it is complete is a recording
pub IsRecording-settled_until : (skew time : ℕ) (t : Trace) → IsRecording t → IsRecording (settled_until skew time t)
unfolding settled_until settled
IsRecording-settled_until skew time t is =
    let front = settled_until-prefix skew time t in
    record {
      whole = is.whole;
      formed = malformed_step-front (settled_until skew time t) front.0
          (sym (ap malformed_step front.1) ∙ (IsRecording-settled skew t is).formed);
    }

-- a number that isn't less than either of two isn't less than the greater
nat_lt-max : (a b c : ℕ) → nat_lt a b ≡ false → nat_lt a c ≡ false → nat_lt a (max b c) ≡ false
nat_lt-max a b c h k = grind (arith, nat_tests)

-- a number that is less than another is less than a greater one
nat_lt-greater : (a b c : ℕ) → nat_lt a b ≡ true → b ≤ c → nat_lt a c ≡ true
nat_lt-greater a b c h le = grind (arith, nat_tests)

-- a time isn't later than itself by more than the skew
nat_lt-plus_skew : (a skew : ℕ) → nat_lt (a + skew) a ≡ false
nat_lt-plus_skew a skew = grind (arith, nat_tests)

-- a successor isn't 0
eq_zero-suc : (n m : ℕ) → n ≡ suc m → (n == 0) ≡ false
eq_zero-suc n m e = grind (arith, nat_tests)

module _ (skew : ℕ) (t : Trace) (step : Step) where
  -- the number of the steps before `step`
  abbrev last : ℕ
  last = length t.steps

  -- the last step is `step`
  slice_get-with_step : slice_get (with_step t step).steps last ≡ Some step
  slice_get-with_step = slice_get-here t.steps step []

  -- what was settled of a recording is settled of it with one more step
  AreSettledTo-with_step : (group : GroupLevels) (out : List Step) → AreSettledTo skew t last group out
      → AreSettledTo skew (with_step t step) last group out
  AreSettledTo-with_step group out h =
      let start = group_start-longer skew t step last (omega arith) in
      let first = group_start-at_most skew t last in
      record {
        start = h.start ∙ sym (ap (time_at (with_step t step)) start
            ∙ time_at-with_step t step (group_start skew t last) first);
        before = h.before ∙ sym (ap (λ (j : ℕ). levels_at (with_step t step) (j - 1)) start
            ∙ levels_at-with_step t step (group_start skew t last - 1) (omega (arith, first)));
        now = h.now ∙ sym (levels_at-with_step t step last (omega arith));
        made = h.made ∙ sym (steps_before-longer skew t step last (omega arith));
      }

  -- the group is ready for the step: it begins with the step, or the step is within the skew of its beginning
  pub record IsReady (group : GroupLevels) (out : List Step) : Type 0 where
    pub ready : AreReadyFor skew (with_step t step) last group out
    pub within : nat_lt (group.start + skew) step.time ≡ false

  -- where the current group isn't known to be over, what came out is settled up to the last instant
  AreSettledTo-in_group : (group : GroupLevels) (out : List Step) (reached : ℕ) → IsInGroup skew t out reached group
      → AreSettledTo skew t last group out
  AreSettledTo-in_group group out reached h = record {
    start = h.start;
    before = h.before;
    now = h.now;
    made = h.made;
  }

  -- where the step is too late for the current group, that group ends, and the one that the step begins is ready
  IsReady-over : (group : GroupLevels) (out : List Step) (reached : ℕ) → IsInGroup skew t out reached group
      → nat_lt (group.start + skew) step.time ≡ true
      → IsReady (begun step.time group.now) (out ++ step_between group.start group.before group.now)
  IsReady-over group out reached h over = record {
    ready = AreReadyFor-over skew (with_step t step) last group out step
        (AreSettledTo-with_step group out (AreSettledTo-in_group group out
        reached h)) slice_get-with_step over;
    within = nat_lt-plus_skew step.time skew;
  }

  -- where the step is within the skew of the beginning of the current group, that group is ready
  IsReady-within : (group : GroupLevels) (out : List Step) (reached : ℕ) → IsInGroup skew t out reached group
      → nat_lt (group.start + skew) step.time ≡ false → IsReady group (out ++ [])
  IsReady-within group out reached h within = record {
    ready = subst (AreReadyFor skew (with_step t step) last group) (sym (append-nil out))
        (AreReadyFor-within skew (with_step t step)
        last group out step (AreSettledTo-with_step group out (AreSettledTo-in_group group out reached h))
        slice_get-with_step
        (eqb-false last 0 h.some) within);
    within = within;
  }

  -- where there is no current group, the one that the step begins is ready
  IsReady-between_groups : (group : GroupLevels) (out : List Step) (reached : ℕ)
      → IsBetweenGroups skew t out reached group
      → reached ≤ step.time
      → IsReady (begun step.time group.now) (out ++ step_between group.start group.before group.now)
  IsReady-between_groups group out reached h late =
      let begins_here : begins skew t step ≡ true = first_or-weaker last
      (nat_lt (time_at t (group_start skew t last) + skew) reached)
      (nat_lt (time_at t (group_start skew t last) + skew) step.time) h.over
      (λ e. nat_lt-greater (time_at t (group_start skew t last) + skew) reached step.time e late) in
      let start : group_start skew (with_step t step) (suc last)
      ≡ suc last = group_start-next skew t step true begins_here in
      let none : step_between group.start group.before group.now ≡ [] =
      ap (λ (v : Levels). step_between group.start v group.now) (h.before ∙ sym h.now)
      ∙ step_between-same group.start group.now in
      let one_less : suc last - 1 ≡ last = omega arith in
      record {
        ready = subst (AreReadyFor skew (with_step t step) last (begun step.time group.now))
            (sym (ap (λ (xs : List Step). out ++ xs) none ∙ append-nil out)) (record {
              start = sym (ap (time_at (with_step t step)) start ∙ time_at-last t step);
              before = h.now ∙ sym (ap (λ (j : ℕ). levels_at (with_step t step) (j - 1)) start
                  ∙ ap (levels_at (with_step t step)) one_less ∙ levels_at-with_step t step last (omega arith));
              now = h.now ∙ sym (levels_at-with_step t step last (omega arith));
              made = h.made ∙ sym (steps_before-next skew t step true begins_here);
            });
        within = nat_lt-plus_skew step.time skew;
      }

  -- if the group is over, or no step has come that belongs to it, the one that the step begins is ready, and else the
  -- group itself is
  pub IsReady-ended : (is_begun is_over is_ended : Bool) (group next : GroupLevels) (out made : List Step) (reached : ℕ)
      → IsAtGroup skew t out reached is_begun group → reached ≤ step.time
      → is_over ≡ nat_lt (group.start + skew) step.time → is_ended ≡ (is_over || not is_begun)
      → next ≡ cond is_ended (begun step.time group.now) group
      → made ≡ cond is_ended (step_between group.start group.before group.now) []
      → IsReady next (out ++ made)
  IsReady-ended true true is_ended group next out made reached h late over is_ended_is is made_is_so =
      rw (is, made_is_so, is_ended_is) (IsReady-over group out reached h (sym over))
  IsReady-ended true false is_ended group next out made reached h late over is_ended_is is made_is_so =
      rw (is, made_is_so, is_ended_is) (IsReady-within group out reached h (sym over))
  IsReady-ended false true is_ended group next out made reached h late over is_ended_is is made_is_so =
      rw (is, made_is_so, is_ended_is) (IsReady-between_groups group out reached h late)
  IsReady-ended false false is_ended group next out made reached h late over is_ended_is is made_is_so =
      rw (is, made_is_so, is_ended_is) (IsReady-between_groups group out reached h late)

  -- the lines that the step changes exist, if the recording with the step is well formed
  pub ChangeLines-ready_step : malformed_step (with_step t step) ≡ None → (group : GroupLevels) (out : List Step)
      → IsReady group out → ChangeLines group.now.slots step.changes
  ChangeLines-ready_step formed group out h =
      ChangeLines-ready skew (with_step t step) formed last group out step h.ready slice_get-with_step
      (omega (arith, length-append_one t.steps step))

  -- after the step is taken, the group that was ready for it is the current one
  pub IsInGroup-taken : (group : GroupLevels) (out : List Step) (reached : ℕ) → IsReady group out → reached ≤ step.time
      → (changes : List Change) → changes ≡ step.changes
      → (next : GroupLevels) → next ≡ record group { now = changed group.now changes }
      → IsInGroup skew (with_step t step) out (max reached step.time) next
  IsInGroup-taken group out reached h late changes are next e =
      let all : AreSettledTo skew (with_step t step) (last + 1) next out = AreSettledTo-taken skew
      (with_step t step) last group out
      step h.ready slice_get-with_step changes are next e in
      let end : last + 1 ≡ length (with_step t step).steps = omega (arith, length-append_one t.steps step) in
      let whole : AreSettledTo skew (with_step t step) (length (with_step t step).steps) next out =
      subst (λ (n : ℕ). AreSettledTo skew (with_step t step) n next out) end all in
      let start : time_at (with_step t step) (group_start skew (with_step t step) (length (with_step t step).steps))
      ≡ group.start =
      sym whole.start ∙ ap (λ (g : GroupLevels). g.start) e in
      let top : max reached step.time ≡ step.time = max-eq_right late in
      record {
        some = eq_zero-suc (length (with_step t step).steps) last (length-append_one t.steps step);
        start = whole.start;
        before = whole.before;
        now = whole.now;
        made = whole.made;
        latest =
            omega (arith, top, ap (time_at (with_step t step)) (length-append_one t.steps step) ∙ time_at-last t step);
        within = ap (λ (time : ℕ). nat_lt (time + skew) (max reached step.time)) start
            ∙ ap (nat_lt (group.start + skew)) top ∙ h.within;
      }

-- ---- a time that is reached

module _ (skew : ℕ) (t : Trace) where
  -- the number of the steps, which is the last instant
  abbrev end_of : ℕ
  end_of = length t.steps

  -- a time that is more than the skew after the beginning of the current group ends it
  IsBetweenGroups-over : (group : GroupLevels) (out : List Step) (reached time : ℕ) → IsInGroup skew t out reached group
      → nat_lt (group.start + skew) time ≡ true
      → IsBetweenGroups skew t (out ++ step_between group.start group.before group.now) (max reached time)
      (begun time group.now)
  IsBetweenGroups-over group out reached time h over = record {
    before = h.now;
    now = h.now;
    made = step_between-group skew t end_of group out
        (record { start = h.start; before = h.before; now = h.now; made = h.made });
    latest = omega (arith, h.latest, le-max_left reached time);
    over = or_right (end_of == 0) (nat_lt (time_at t (group_start skew t end_of) + skew) (max reached time))
        (nat_lt-greater (time_at t (group_start skew t end_of) + skew) time (max reached time)
        (ap (λ (start : ℕ). nat_lt (start + skew) time) (sym h.start) ∙ over) (le-max_right reached time));
  }

  -- a time that isn't more than the skew after the beginning of the current group leaves it as it is
  IsInGroup-within : (group : GroupLevels) (out : List Step) (reached time : ℕ) → IsInGroup skew t out reached group
      → nat_lt (group.start + skew) time ≡ false → IsInGroup skew t (out ++ []) (max reached time) group
  IsInGroup-within group out reached time h within = record {
    some = h.some;
    start = h.start;
    before = h.before;
    now = h.now;
    made = append-nil out ∙ h.made;
    latest = omega (arith, h.latest, le-max_left reached time);
    within = nat_lt-max (time_at t (group_start skew t end_of) + skew) reached time h.within
        (ap (λ (start : ℕ). nat_lt (start + skew) time) (sym h.start) ∙ within);
  }

  -- between groups a time changes nothing
  IsBetweenGroups-time : (group : GroupLevels) (out : List Step) (reached time : ℕ)
      → IsBetweenGroups skew t out reached group
      → IsBetweenGroups skew t (out ++ []) (max reached time) group
  IsBetweenGroups-time group out reached time h = record {
    before = h.before;
    now = h.now;
    made = append-nil out ∙ h.made;
    latest = omega (arith, h.latest, le-max_left reached time);
    over = first_or-weaker end_of (nat_lt (time_at t (group_start skew t end_of) + skew) reached)
        (nat_lt (time_at t (group_start skew t end_of) + skew) (max reached time)) h.over
        (λ e. nat_lt-greater (time_at t (group_start skew t end_of) + skew) reached (max reached time) e
        (le-max_left reached time));
  }

  -- after a time that is reached the group is ended if it is over, and else it is as before
  pub IsAtGroup-reached : (is_begun is_over is_last still_begun : Bool) (group next : GroupLevels)
      (out made : List Step)
      (reached time : ℕ) → IsAtGroup skew t out reached is_begun group
      → is_over ≡ nat_lt (group.start + skew) time → is_last ≡ (is_over && is_begun)
      → still_begun ≡ (is_begun && not is_over)
      → next ≡ cond is_last (begun time group.now) group
      → made ≡ cond is_last (step_between group.start group.before group.now) []
      → IsAtGroup skew t (out ++ made) (max reached time) still_begun next
  IsAtGroup-reached true true is_last still_begun group next out made reached time h over is_last_is still_begun_is is
      made_is_so =
      rw (is, made_is_so, is_last_is, still_begun_is) (IsBetweenGroups-over group out reached time h (sym over))
  IsAtGroup-reached true false is_last still_begun group next out made reached time h over is_last_is still_begun_is is
      made_is_so =
      rw (is, made_is_so, is_last_is, still_begun_is) (IsInGroup-within group out reached time h (sym over))
  IsAtGroup-reached false true is_last still_begun group next out made reached time h over is_last_is still_begun_is is
      made_is_so =
      rw (is, made_is_so, is_last_is, still_begun_is) (IsBetweenGroups-time group out reached time h)
  IsAtGroup-reached false false is_last still_begun group next out made reached time h over is_last_is still_begun_is is
      made_is_so =
      rw (is, made_is_so, is_last_is, still_begun_is) (IsBetweenGroups-time group out reached time h)

  -- ---- the steps that came out

  -- where the last group is over, or there is none, its step is complete
  step_to-over : (reached : ℕ) → (end_of ≡ 0) ⊎ (time_at t (group_start skew t end_of) + skew < reached)
      → cond (nat_lt (time_at t (group_start skew t end_of) + skew) reached) (step_to skew t end_of) []
      ≡ step_to skew t end_of
  step_to-over reached (inl first) = by_test (nat_lt (time_at t (group_start skew t end_of) + skew) reached)
      (ap (step_to skew t) first ∙ step_to-opening skew t)
    where
      by_test : (b : Bool) → step_to skew t end_of ≡ [] → cond b (step_to skew t end_of) [] ≡ step_to skew t end_of
      by_test true none = refl
      by_test false none = sym none
  step_to-over reached (inr lt) = ap (λ (b : Bool). cond b (step_to skew t end_of) [])
      (lt-ltb (time_at t (group_start skew t end_of) + skew) reached lt)

  -- the steps that came out are those of the settled recording that are complete at the latest time
  pub out-settled_until : malformed_step t ≡ None → (out : List Step) (reached : ℕ) (is_begun : Bool)
      (group : GroupLevels)
      → IsAtGroup skew t out reached is_begun group → out ≡ (settled_until skew reached t).steps
  out-settled_until formed out reached true group h =
      h.made ∙ sym (steps-settled_until skew t formed reached h.latest
      ∙ ap (λ (b : Bool). steps_before skew t end_of ++ cond b (step_to skew t end_of) []) h.within
      ∙ append-nil (steps_before skew t end_of))
  out-settled_until formed out reached false group h =
      h.made ∙ sym (steps-settled_until skew t formed reached h.latest
      ∙ ap (λ (xs : List Step). steps_before skew t end_of ++ xs) (step_to-over reached (first_or_later-cases end_of
      (time_at t (group_start skew t end_of) + skew) reached h.over)))

  -- with the step of the last group, the steps that came out are all those of the settled recording
  pub out-settled : (out : List Step) (reached : ℕ) (is_begun : Bool) (group : GroupLevels)
      → IsAtGroup skew t out reached is_begun group
      → out ++ step_between group.start group.before group.now ≡ (settled skew t).steps
  unfolding settled
  out-settled out reached true group h = step_between-group skew t end_of group out
      (record { start = h.start; before = h.before; now = h.now; made = h.made })
  out-settled out reached false group h =
      ap (λ (v : Levels). out ++ step_between group.start v group.now) (h.before ∙ sym h.now)
      ∙ ap (λ (xs : List Step). out ++ xs) (step_between-same group.start group.now) ∙ append-nil out ∙ h.made

-- before the first step there is no current group
pub IsBetweenGroups-unsettled : (skew : ℕ) (opening : Levels) (group : GroupLevels) → group ≡ begun 0 opening
    → IsBetweenGroups skew (record { opening = opening; steps = [] }) [] 0 group
unfolding steps_before levels_at
IsBetweenGroups-unsettled skew opening group e = record {
  before = ap (λ (g : GroupLevels). g.before) e;
  now = ap (λ (g : GroupLevels). g.now) e;
  made = sym (step_to-opening skew (record { opening = opening; steps = [] }));
  latest = omega arith;
  over = refl;
}

-- ---- the invariant after each call

-- the steps that came out are those that are complete
pub IsSettledSoFar-KeepsGroup : (s : Settling) (is_begun : Bool) (group : GroupLevels) → KeepsGroup s is_begun group
    → IsSettledSoFar s
IsSettledSoFar-KeepsGroup s is_begun group h =
    λ formed ok. out-settled_until s.skew s.given formed s.out s.reached is_begun group
    (h.at formed ok)

-- the state of a settler, by its parts
abbrev pub settling : ℕ → Levels → List Step → List Step → ℕ → Bool → Settling
settling skew opening given out reached in_order = record {
  skew = skew;
  given = record { opening = opening; steps = given };
  out = out;
  reached = reached;
  in_order = in_order;
}

-- `KeepsGroup` holds before the first step
pub KeepsGroup-first : (skew : ℕ) (opening : Levels) (given out : List Step) (group : GroupLevels) → group
    ≡ begun 0 opening
    → given ≡ [] → out ≡ [] → KeepsGroup (settling skew opening given out 0 true) false group
KeepsGroup-first skew opening given out group is none empty =
    rw (none, empty) (record { at = λ formed ok. IsBetweenGroups-unsettled skew opening group is })

-- if `KeepsGroup` holds, it holds after a step was taken
pub KeepsGroup-taken : (skew : ℕ) (opening : Levels) (given out : List Step) (reached : ℕ)
    (was_in_order is_begun : Bool)
    (group : GroupLevels) (step : Step)
    → KeepsGroup (settling skew opening given out reached was_in_order) is_begun group
    → (taken made out_after : List Step) → taken ≡ given ++ step ∷ [] → out_after ≡ out ++ made
    → (top : ℕ) → top ≡ max reached step.time
    → (in_order is_over is_ended : Bool) → in_order ≡ (was_in_order && nat_le reached step.time)
    → is_over ≡ nat_lt (group.start + skew) step.time → is_ended ≡ (is_over || not is_begun)
    → (middle next : GroupLevels) → middle ≡ cond is_ended (begun step.time group.now) group
    → made ≡ cond is_ended (step_between group.start group.before group.now) []
    → (changes : List Change) → changes ≡ step.changes
    → (ChangeLines middle.now.slots changes → next ≡ record middle { now = changed middle.now changes })
    → KeepsGroup (settling skew opening taken out_after top in_order) true next
KeepsGroup-taken skew opening given out reached was_in_order is_begun group step h taken made out_after taken_is
    out_after_is top top_is
    in_order is_over is_ended in_order_is over is_ended_is middle next middle_is made_is changes are next_is =
    rw (taken_is, out_after_is, top_is) (record { at = all })
  where
    t : Trace
    t = record { opening = opening; steps = given }

    all : malformed_step (with_step t step) ≡ None → in_order ≡ true
        → IsAtGroup skew (with_step t step) (out ++ made) (max reached step.time) true next
    all formed ok =
        let parts = and_parts was_in_order (nat_le reached step.time) (sym in_order_is ∙ ok) in
        let late : reached ≤ step.time = leb-true reached step.time parts.1 in
        let ready = IsReady-ended skew t step is_begun is_over is_ended group middle out made reached
        (h.at (malformed_step-without_last t step formed) parts.0) late over is_ended_is middle_is made_is in
        let lines : ChangeLines middle.now.slots changes =
        subst (ChangeLines middle.now.slots) (sym are)
        (ChangeLines-ready_step skew t step formed middle (out ++ made) ready) in
        IsInGroup-taken skew t step middle (out ++ made) reached ready late changes are next (next_is lines)

-- if `KeepsGroup` holds, it holds after a time was reached
pub KeepsGroup-reached : (skew : ℕ) (opening : Levels) (given out : List Step) (reached : ℕ)
    (was_in_order is_begun : Bool)
    (group : GroupLevels) (time : ℕ)
    → KeepsGroup (settling skew opening given out reached was_in_order) is_begun group
    → (made out_after : List Step) → out_after ≡ out ++ made → (top : ℕ) → top ≡ max reached time
    → (is_over is_last still_begun : Bool)
    → is_over ≡ nat_lt (group.start + skew) time → is_last ≡ (is_over && is_begun) → still_begun
    ≡ (is_begun && not is_over)
    → (next : GroupLevels) → next ≡ cond is_last (begun time group.now) group
    → made ≡ cond is_last (step_between group.start group.before group.now) []
    → KeepsGroup (settling skew opening given out_after top was_in_order) still_begun next
KeepsGroup-reached skew opening given out reached was_in_order is_begun group time h made out_after out_after_is top
    top_is is_over is_last
    still_begun over is_last_is still_begun_is next next_is made_is =
    rw (out_after_is, top_is) (record {
      at = λ formed ok. IsAtGroup-reached skew (record { opening = opening; steps = given }) is_begun is_over is_last
          still_begun
          group next out made reached time (h.at formed ok) over is_last_is still_begun_is next_is made_is;
    })

-- where the recording ends, with the step of the last group all steps of the settled recording came out
pub settled-KeepsGroup : (skew : ℕ) (opening : Levels) (given out : List Step) (reached : ℕ)
    (was_in_order is_begun : Bool)
    (group : GroupLevels) → KeepsGroup (settling skew opening given out reached was_in_order) is_begun group
    → (made : Option Step) → option_to_list made ≡ step_between group.start group.before group.now
    → malformed_step (record { opening = opening; steps = given }) ≡ None → was_in_order ≡ true
    → out ++ option_to_list made ≡ (settled skew (record { opening = opening; steps = given })).steps
settled-KeepsGroup skew opening given out reached was_in_order is_begun group h made made_is formed ok =
    ap (λ (xs : List Step). out ++ xs) made_is
    ∙ out-settled skew (record { opening = opening; steps = given }) out reached is_begun group (h.at formed ok)
