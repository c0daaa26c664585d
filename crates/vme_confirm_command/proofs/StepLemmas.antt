-- The steps of a piece are compared one by one, as far as they are within the limit of a recording.
use Rattle.std.proofs.Common.{◌≡◌, ℕ, ◌+◌, ◌≤◌, List, [], ◌∷◌, ◌++◌, length, take, Option, None, Some, sym, ap, ◌∙◌}
use Rattle.std.proofs.Common.{arith, append_assoc, length-append}
use Rattle.std.specs.Prelude.{slice_get}
use Rattle.std.proofs.lemmas.List.{length-take-le, take_all}
use Rattle.std.proofs.lemmas.Option.{slice_get_within}
use Rattle.std.proofs.Math.Seq.{take-append-add}
use Rattle.vme_trace.specs.Followed.{with_steps}
use Rattle.vme_trace.specs.Levels.{Levels}
use Rattle.vme_trace.specs.Trace.{Trace, levels_at}
use Rattle.vme_trace.specs.WellFormed.{are_changes, capture_limit, malformed_step}
use Rattle.vme_trace.specs.declared.step.Step.{Step}
use Rattle.vme_trace.proofs.CutBlocks.{levels_at-taken, take-next}
use Rattle.vme_trace.proofs.ListLaws.{slice_get-append_past}
use Rattle.vme_skew.specs.Settled.{settled_until}
use Rattle.vme_skew.proofs.Complete.{settled_until-prefix}
use Rattle.vme_skew.proofs.Laws.{length-settled}
use Rattle.vme_cert.specs.Checking.{MayGoOn, last_levels}
use Rattle.vme_cert.proofs.Checking.{are_changes-step}
use Rattle.vme_dump_input.specs.SettledReadings.{settled_so_far, settled_whole}
use Rattle.vme_confirm_command.specs.StepChecks.{StepsMayFollow}

-- ---- one more step

module _ (recorded : Trace) (steps : List Step) (i : ℕ) (step : Step) (found : slice_get steps i ≡ Some step) where
  -- the step at `i` after those before it makes the first i + 1 steps
  pub with_steps-next : with_steps (with_steps recorded (take i steps)) (step ∷ [])
      ≡ with_steps recorded (take (i + 1) steps)
  with_steps-next =
      ap (λ (l : List Step). record recorded { steps = l }) (append_assoc recorded.steps (take i steps) (step ∷ [])
      ∙ ap (λ (l : List Step). recorded.steps ++ l) (sym (take-next steps i step found)))

  -- if the steps may follow the recording, the step at `i` may follow it and the steps before `i`
  pub MayGoOn-next : StepsMayFollow recorded steps → MayGoOn (with_steps recorded (take i steps)) step
  MayGoOn-next may =
      let below = slice_get_within steps i step found in
      let few : length (take i steps) ≡ i = length-take-le i steps (omega (arith, below)) in
      let t = with_steps recorded steps in
      let n : ℕ = length recorded.steps + i in
      let levels : levels_at t n ≡ last_levels (with_steps recorded (take i steps)) =
      levels_at-taken t n ∙ ap (λ (l : List Step). last_levels (record recorded { steps = l }))
      (take-append-add recorded.steps steps i) in
      record {
        within = omega (arith, may.within, below, few, length-append recorded.steps (take i steps));
        sound = ap (λ (w : Levels). are_changes w 0 step.changes) (sym levels)
            ∙ are_changes-step t n step (slice_get-append_past recorded.steps steps i ∙ found) may.formed;
      }

-- past the end of the list all steps are taken
pub take-past : (steps : List Step) (i : ℕ) → length steps ≤ i → take i steps ≡ steps
take-past steps i past = take_all i steps past

-- ---- how many steps there are

-- deskewing so far makes no more steps
length-settled_so_far : (skew : Option ℕ) (time : ℕ) (t : Trace)
    → length (settled_so_far skew time t).steps ≤ length t.steps
length-settled_so_far None time t = omega arith
length-settled_so_far (Some skew) time t =
    let (rest, is) = settled_until-prefix skew time t in
    omega (
      arith,
      length-settled skew t,
      ap (λ (u : Trace). length u.steps) is,
      length-append (settled_until skew time t).steps rest,
    )

-- deskewing at the end makes no more steps
length-settled_whole : (skew : Option ℕ) (t : Trace) → length (settled_whole skew t).steps ≤ length t.steps
length-settled_whole None t = omega arith
length-settled_whole (Some skew) t = length-settled skew t

module _ (skew : Option ℕ) (t given : Trace) (made : List Step) (few : length given.steps ≤ capture_limit) where
  -- the steps that came out of the deskewing so far may follow those that were taken
  pub StepsMayFollow-settled_so_far : (time : ℕ) → with_steps t made ≡ settled_so_far skew time given
      → malformed_step (settled_so_far skew time given) ≡ None → StepsMayFollow t made
  StepsMayFollow-settled_so_far time is formed = record {
    formed = ap malformed_step is ∙ formed;
    within = omega (
      arith,
      few,
      length-settled_so_far skew time given,
      ap (λ (u : Trace). length u.steps) is,
      length-append t.steps made,
    );
  }

  -- the steps that came out of the deskewing at the end may follow those that were taken
  pub StepsMayFollow-settled_whole : with_steps t made ≡ settled_whole skew given
      → malformed_step (settled_whole skew given) ≡ None
      → StepsMayFollow t made
  StepsMayFollow-settled_whole is formed = record {
    formed = ap malformed_step is ∙ formed;
    within = omega (
      arith,
      few,
      length-settled_whole skew given,
      ap (λ (u : Trace). length u.steps) is,
      length-append t.steps made,
    );
  }
