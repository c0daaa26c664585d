use Rattle.std.proofs.Common.{◌∙◌, ◌≡◌, ◌++◌, [], List, None, ap, subst}
use Rattle.vme_trace.specs.Followed.{with_steps}
use Rattle.vme_trace.specs.Trace.{Trace}
use Rattle.vme_trace.specs.WellFormed.{malformed_step}
use Rattle.vme_trace.specs.declared.step.Step.{Step}
use Rattle.vme_bind.specs.TextReading.{TextReading}
use Rattle.vme_step_reader.specs.StepReading.{StepReading, whole_reading}
use Rattle.vme_step_reader.specs.Stops.{StopsBehind}
use Rattle.vme_step_reader.proofs.PieceSteps.{whole_reading-of_first, malformed_step-given, malformed_step-after_first}
use Rattle.vme_step_reader.proofs.PieceSteps.{malformed_step-stopped}
use Rattle.vme_step_reader.proofs.step_reader.StepReader.take.Goals as goal

pub invariant_of-reader : goal.invariant_of-reader
invariant_of-reader c =
    let i = c.self.inside in
    let given : Trace = record { opening = i.opening; steps = i.given.items } in
    let items : c.and_all-given.result.items ≡ i.given.items ++ c.in-Ok.steps.items =
    c.and_all-given.ensures ∙ ap (λ (steps : List Step). i.given.items ++ steps) (c.of.ensures
    ∙ c.as_slice.ensures.value) in
    malformed_step-after_first given i.speculative c.args.bytes.now c.whole_tokens-count.result
    c.whole_tokens-count.ensures.apart
    c.in-Ok.speculative c.in-Ok.steps.items c.and_all-given.result.items c.in-Ok.ensures.line
    (c.in-Ok.ensures.rest given)
    items c.self.invariant

pub returns-in-Ok-clause-formed : goal.returns-in-Ok-clause-formed
returns-in-Ok-clause-formed c =
    let i = c.self.inside in
    let given : Trace = record { opening = i.opening; steps = i.given.items } in
    let items : c.and_all-given.result.items ≡ i.given.items ++ c.in-Ok.steps.items =
    c.and_all-given.ensures ∙ ap (λ (steps : List Step). i.given.items ++ steps) (c.of.ensures
    ∙ c.as_slice.ensures.value) in
    malformed_step-given c.recorded_before_is_a_prefix.ensures (record {
      given = record { opening = i.opening; steps = c.and_all-given.result.items };
      speculative = c.in-Ok.speculative;
    }) []
    (malformed_step-after_first given i.speculative c.args.bytes.now c.whole_tokens-count.result
    c.whole_tokens-count.ensures.apart
    c.in-Ok.speculative c.in-Ok.steps.items c.and_all-given.result.items c.in-Ok.ensures.line
    (c.in-Ok.ensures.rest given)
    items c.self.invariant [])

pub returns-in-Err-clause-stopped : goal.returns-in-Err-clause-stopped
returns-in-Err-clause-stopped c rest =
    let i = c.self.inside in
    let bytes = c.args.bytes.now in
    let given : Trace = record { opening = i.opening; steps = i.given.items } in
    let s = c.in-Err.stopped in
    subst (λ (r : StepReading). StopsBehind r.given s (whole_reading r (bytes ++ rest))) c.self.view_is
    (whole_reading-of_first given i.speculative bytes c.whole_tokens-count.result c.whole_tokens-count.ensures.apart
    (λ (x : TextReading). StopsBehind given s x) (c.in-Err.ensures.stopped given) rest)

pub returns-in-Err-clause-formed_before : goal.returns-in-Err-clause-formed_before
returns-in-Err-clause-formed_before c other =
    let i = c.self.inside in
    let bytes = c.args.bytes.now in
    let given : Trace = record { opening = i.opening; steps = i.given.items } in
    let s = c.in-Err.stopped in
    let r : StepReading = record { given = given; speculative = i.speculative } in
    subst (λ (r : StepReading). malformed_step (with_steps r.given s.steps.items) ≡ None) c.self.view_is
    (malformed_step-stopped s.fault.line s.fault.kind (with_steps given s.steps.items) s.time
    (whole_reading r (bytes ++ []))
    (whole_reading-of_first given i.speculative bytes c.whole_tokens-count.result c.whole_tokens-count.ensures.apart
    (λ (x : TextReading). StopsBehind given s x) (c.in-Err.ensures.stopped given) [])
    (c.self.invariant (bytes ++ [])) other)
