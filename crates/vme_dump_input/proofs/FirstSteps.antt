-- Before the first step of a dump nothing comes out of a settler.
use Rattle.std.proofs.Common.{◌≡◌, ◌≤◌, ℕ, zero, suc, List, [], ◌∷◌, length, Option, None, Some, refl, sym, ap, ◌∙◌}
use Rattle.std.proofs.Common.{arith}
use Rattle.std.specs.Prelude.{filter}
use Rattle.vme_trace.specs.Levels.{Levels}
use Rattle.vme_trace.specs.Trace.{Trace}
use Rattle.vme_trace.specs.declared.step.Step.{Step}
use Rattle.vme_skew.specs.Settled.{is_complete, settled, settled_until}
use Rattle.vme_skew.specs.Settling.{Settling}
use Rattle.vme_skew.proofs.Laws.{length-settled}
use Rattle.vme_dump_input.specs.SettledReadings.{skew_of}
use Rattle.vme_dump_input.specs.SettledSteps.{ComesOut, IsSettlerFor}

-- a recording without a step is all that is complete of it at the time 0
settled_until-no_step : (skew : ℕ) (given : Trace) → given.steps ≡ [] → given ≡ settled_until skew 0 given
unfolding settled_until settled
settled_until-no_step skew given none =
    ap (λ (l : List Step). record given { steps = l })
    (none ∙ sym (ap (filter (is_complete skew 0)) (no-steps (settled skew given).steps
    (omega (arith, length-settled skew given, ap (λ (l : List Step). length l) none)))))
  where
    no-steps : (l : List Step) → length l ≤ 0 → l ≡ []
    no-steps [] le = refl
    no-steps (x ∷ xs) le = absurd (omega (arith, le))

-- before the first step, what came out is the recording that was given, with a settler or without
pub ComesOut-no_step : (skew : ℕ) (opening : Levels) (time : ℕ) (given : Trace) → given.opening ≡ opening
    → given.steps ≡ [] → (settler : Option Settling)
    → IsSettlerFor skew opening settler → ComesOut (skew_of skew) settler given time given
ComesOut-no_step zero opening time given opens none None is = refl
ComesOut-no_step (suc n) opening time given opens none (Some s) is = record {
  by = ap (λ (x : Settling). x.skew) is;
  took = ap (λ (x : Settling). x.given) is ∙ ap (λ (v : Levels). record { opening = v; steps = [] }) (sym opens)
      ∙ ap (λ (l : List Step). record { opening = given.opening; steps = l }) (sym none);
  in_order = ap (λ (x : Settling). x.in_order) is;
  known = omega (arith, ap (λ (x : Settling). x.reached) is);
  settled = settled_until-no_step (suc n) given none
      ∙ ap (λ (k : ℕ). settled_until (suc n) k given) (sym (ap (λ (x : Settling). x.reached) is));
  came = ap (λ (x : Settling). x.out) is ∙ sym none;
}
ComesOut-no_step zero opening time given opens none (Some s) is = absurd is
ComesOut-no_step (suc n) opening time given opens none None is = absurd is
