use Rattle.std.proofs.Common.{◌≡◌, None, ap, subst, sym, ◌∙◌}
use Rattle.vme_trace.specs.Followed.{with_steps}
use Rattle.vme_trace.specs.Trace.{Trace}
use Rattle.vme_trace.specs.WellFormed.{malformed_step}
use Rattle.vme_step_reader.specs.StepReading.{StepReading, whole_reading}
use Rattle.vme_step_reader.specs.Stops.{StopsBehind}
use Rattle.vme_step_reader.proofs.PieceSteps.{malformed_step-stopped}
use Rattle.vme_step_reader.proofs.step_reader.StepReader.finish.Goals as goal

pub returns-in-Ok-clause-recorded : goal.returns-in-Ok-clause-recorded
returns-in-Ok-clause-recorded c =
    let i = c.self.inside in
    let given : Trace = record { opening = i.opening; steps = i.given.items } in
    subst (λ (r : StepReading). (whole_reading r c.args.rest.now).recorded ≡ with_steps r.given c.in-Ok.steps.items)
    c.self.view_is (c.in-Ok.ensures.recorded given)

pub returns-in-Ok-clause-whole : goal.returns-in-Ok-clause-whole
returns-in-Ok-clause-whole c =
    let i = c.self.inside in
    let given : Trace = record { opening = i.opening; steps = i.given.items } in
    subst (λ (r : StepReading). (whole_reading r c.args.rest.now).fault ≡ None) c.self.view_is
    (c.in-Ok.ensures.whole given)

pub returns-in-Ok-clause-formed : goal.returns-in-Ok-clause-formed
returns-in-Ok-clause-formed c =
    let i = c.self.inside in
    let given : Trace = record { opening = i.opening; steps = i.given.items } in
    subst (λ (r : StepReading). malformed_step (with_steps r.given c.in-Ok.steps.items) ≡ None) c.self.view_is
    (sym (ap (λ (t : Trace). malformed_step t) (c.in-Ok.ensures.recorded given)) ∙ c.self.invariant c.args.rest.now)

pub returns-in-Err-clause-stopped : goal.returns-in-Err-clause-stopped
returns-in-Err-clause-stopped c =
    let i = c.self.inside in
    let given : Trace = record { opening = i.opening; steps = i.given.items } in
    subst (λ (r : StepReading). StopsBehind r.given c.in-Err.stopped (whole_reading r c.args.rest.now)) c.self.view_is
    (c.in-Err.ensures.stopped given)

pub returns-in-Err-clause-formed_before : goal.returns-in-Err-clause-formed_before
returns-in-Err-clause-formed_before c other =
    let i = c.self.inside in
    let given : Trace = record { opening = i.opening; steps = i.given.items } in
    let s = c.in-Err.stopped in
    let r : StepReading = record { given = given; speculative = i.speculative } in
    subst (λ (r : StepReading). malformed_step (with_steps r.given s.steps.items) ≡ None) c.self.view_is
    (malformed_step-stopped s.fault.line s.fault.kind (with_steps given s.steps.items) s.time
    (whole_reading r c.args.rest.now) (c.in-Err.ensures.stopped given) (c.self.invariant c.args.rest.now) other)
