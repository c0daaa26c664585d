-- The last group makes the last step.
use Rattle.std.proofs.Common.{◌≡◌, ◌++◌, Bool, true, subst}
use Rattle.std.specs.Prelude.{IfOk, None, Option, Result, Ok, Err}
use Rattle.std.specs.Option.{option_to_list}
use Rattle.vme_trace.specs.WellFormed.{malformed_step}
use Rattle.vme_trace.specs.declared.step.Step.{Step}
use Rattle.vme_bind.specs.Recording.{step_between}
use Rattle.vme_skew.specs.Group.{GroupLevels}
use Rattle.vme_skew.specs.Settled.{settled}
use Rattle.vme_skew.specs.Settling.{KeepsGroup, Settling}
use Rattle.vme_skew.proofs.SettlerSteps.{settled-KeepsGroup, settling}
use Rattle.vme_skew.proofs.step_settler.StepSettler.end.Goals as goal

-- if the step that the last group makes was made, the steps that came out and this one are those of the settled
-- recording
steps-at_end : {E : Type 0} (s : Settling) (is_begun : Bool) (group : GroupLevels) → KeepsGroup s is_begun group
    → (r : Result (Option Step) E)
    → IfOk r (λ (made : Option Step). option_to_list made ≡ step_between group.start group.before group.now)
    → IfOk r (λ (made : Option Step). malformed_step s.given ≡ None → s.in_order ≡ true
    → s.out ++ option_to_list made ≡ (settled s.skew s.given).steps)
steps-at_end s is_begun group h (Ok made) is =
    settled-KeepsGroup s.skew s.given.opening s.given.steps s.out s.reached s.in_order is_begun group h made is
steps-at_end s is_begun group h (Err e) is = tt

pub returns : goal.returns
returns c =
    let i = c.self.inside in
    subst (λ (s : Settling). IfOk c.end.result (λ (made : Option Step). malformed_step s.given ≡ None
    → s.in_order ≡ true → s.out ++ option_to_list made ≡ (settled s.skew s.given).steps)) c.self.view_is
    (steps-at_end (settling i.skew i.opening i.given.items i.out.items i.reached i.in_order) i.is_begun i.group
    c.self.invariant c.end.result c.end.ensures.step)
