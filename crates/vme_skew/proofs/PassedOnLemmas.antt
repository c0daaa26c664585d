-- A visitor that settles a recording has passed on all steps that came out, after each step and at the end.
use Rattle.std.proofs.Common.{◌≡◌, ℕ, suc, ◌+◌, ◌<◌, Bool, true, ◌&&◌, List, [], ◌++◌, length}
use Rattle.std.proofs.Common.{refl, sym, ap, ◌∙◌, subst, arith, inl, inr}
use Rattle.std.specs.Prelude.{Option, None, min, nat_le, nat_lt, ◌==◌, ◌||◌}
use Rattle.std.specs.Option.{option_to_list}
use Rattle.std.proofs.Math.Nat.{max-eq_right}
use Rattle.std.proofs.lemmas.Bool.{leb-true}
use Rattle.std.proofs.lemmas.Bool.Decides.{nat_tests}
use Rattle.vme_trace.specs.Followed.{with_steps}
use Rattle.vme_trace.specs.Trace.{Trace, time_at}
use Rattle.vme_trace.specs.WellFormed.{capture_limit, malformed_step}
use Rattle.vme_trace.specs.declared.step.Step.{Step}
use Rattle.vme_trace.proofs.ListLaws.{slice_get-here}
use Rattle.vme_skew.specs.PassedOn.{IsPassedOn, KeepsSettled}
use Rattle.vme_skew.specs.Settled.{settled}
use Rattle.vme_skew.specs.Settling.{Settling, taken}
use Rattle.vme_skew.proofs.Growing.{time_at-with_step, time_at-last, with_step}
use Rattle.vme_skew.proofs.Laws.{first_or_later-cases, IsRecording-settled, length-append_one}
use Rattle.vme_skew.proofs.Laws.{MayFollowParts-step}
use Rattle.vme_skew.proofs.SettlerSteps.{malformed_step-without_last}

-- before the first step the time that is reached, 0, is no later than any
le-first : (clock reached time : ℕ) → clock ≡ 0 → reached ≡ clock → nat_le reached time ≡ true
le-first clock reached time none is = grind (arith, nat_tests)

-- the time that is reached is no later than that of a later step
le-later : (clock reached time : ℕ) → clock < time → reached ≡ clock → nat_le reached time ≡ true
le-later clock reached time lt is = grind (arith, nat_tests)

-- a step that may follow isn't earlier than the time that is reached
le-first_or_later : (n clock reached time : ℕ) → (n ≡ 0 → clock ≡ 0) → reached ≡ clock → ((n == 0) || nat_lt clock time)
    ≡ true
    → nat_le reached time ≡ true
le-first_or_later n clock reached time none is later = elim (first_or_later-cases n clock time later) [
  | inl first ↦ le-first clock reached time (none first) is
  | inr lt ↦ le-later clock reached time lt is
]

-- the opening has the time 0
time_at-opening : (t : Trace) (n : ℕ) → n ≡ 0 → time_at t n ≡ 0
time_at-opening t n first = ap (time_at t) first

-- where all was passed on before a step is taken, and what comes out then is, all is passed on; the step is in order
-- where the recording is well formed
pub IsPassedOn-taken : (s : Settling) (recorded : Trace) → IsPassedOn s recorded → (step : Step) (out : Option Step)
    → IsPassedOn (taken s step out) (with_steps recorded (option_to_list out))
IsPassedOn-taken s recorded h step out = record {
  recorded_is = ap (λ (t : Trace). with_steps t (option_to_list out)) h.recorded_is;
  in_order = in_order;
  reached = λ formed.
      max-eq_right (leb-true s.reached step.time (late formed)) ∙ sym (time_at-last s.given step)
      ∙ ap (time_at (with_step s.given step)) (sym (length-append_one s.given.steps step));
}
  where
    late : malformed_step (with_step s.given step) ≡ None → nat_le s.reached step.time ≡ true
    late formed =
        let n : ℕ = length s.given.steps in
        let may_follow_parts = MayFollowParts-step (with_step s.given step) formed n step
        (omega (arith, length-append_one s.given.steps step))
        (slice_get-here s.given.steps step []) in
        le-first_or_later n (time_at (with_step s.given step) n) s.reached step.time
        (time_at-opening (with_step s.given step) n)
        (h.reached (malformed_step-without_last s.given step formed)
        ∙ sym (time_at-with_step s.given step n (omega arith))) may_follow_parts.later

    in_order : malformed_step (with_step s.given step) ≡ None → (s.in_order && nat_le s.reached step.time) ≡ true
    in_order formed = rw (h.in_order (malformed_step-without_last s.given step formed), late formed) refl

-- ---- the invariant after each call

-- one step more is counted, up to one over `capture_limit`
count-next : (n count next : ℕ) → count ≡ min n (capture_limit + 1) → next ≡ min (count + 1) (capture_limit + 1)
    → next ≡ min (suc n) (capture_limit + 1)
count-next n count next is next_is = grind (arith, nat_tests)

-- `KeepsSettled` holds after one more step was taken
pub KeepsSettled-taken : (skew own_skew count now : ℕ) (is_whole : Bool) (s next : Settling) (recorded made : Trace)
    (step : Step)
    (out : Option Step) → KeepsSettled skew own_skew count is_whole s recorded → next ≡ taken s step out
    → now ≡ min (count + 1) (capture_limit + 1) → made ≡ with_steps recorded (option_to_list out)
    → KeepsSettled skew own_skew now is_whole next made
KeepsSettled-taken skew own_skew count now is_whole s next recorded made step out h is now_is made_is =
    rw is (record {
      own_is = h.own_is;
      skew_is = h.skew_is;
      counted = count-next (length s.given.steps) count now h.counted now_is
          ∙ ap (λ (n : ℕ). min n (capture_limit + 1)) (sym (length-append_one s.given.steps step));
      all = h.all;
      passed_on = λ whole. subst (IsPassedOn (taken s step out)) (sym made_is)
          (IsPassedOn-taken s recorded (h.passed_on whole) step out);
    })

-- where the recording ends, all steps were passed on
module _ (skew own_skew count : ℕ) (is_whole : Bool) (s : Settling) (recorded : Trace)
    (h : KeepsSettled skew own_skew count is_whole s recorded) (whole : is_whole ≡ true) (last : Option Step)
    (made : Trace)
    (ends : malformed_step s.given ≡ None → s.in_order ≡ true
    → s.out ++ option_to_list last ≡ (settled s.skew s.given).steps)
    (made_is : made ≡ with_steps recorded (option_to_list last)) where
  -- what was made is the settled recording, where the recording that was given is well formed
  pub made-settled : malformed_step s.given ≡ None → made ≡ settled skew s.given
  unfolding settled
  made-settled formed =
      let on = h.passed_on whole in
      made_is ∙ ap (λ (t : Trace). with_steps t (option_to_list last)) on.recorded_is
      ∙ ap (λ (steps : List Step). record { opening = s.given.opening; steps = steps })
      (ends formed (on.in_order formed))
      ∙ ap (λ (k : ℕ). settled k s.given) h.skew_is

  -- what was made is well formed, where the recording that was given is
  pub malformed_step-made : malformed_step s.given ≡ None → malformed_step made ≡ None
  malformed_step-made formed =
      ap malformed_step (made-settled formed)
      ∙ (IsRecording-settled skew s.given (record { whole = h.all; formed = formed })).formed
