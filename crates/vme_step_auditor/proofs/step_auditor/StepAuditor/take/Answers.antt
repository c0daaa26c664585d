-- A step is audited, or it changes nothing if the audit has stopped.
use Rattle.std.proofs.Common.{◌≡◌, ◌≤◌, ◌∙◌, List, [], ◌∷◌, ◌++◌, Option, None, Some, ap, arith, subst, sym}
use Rattle.std.specs.Option.{option_map, option_to_list}
use Rattle.vme_trace.specs.Trace.{Trace}
use Rattle.vme_trace.specs.WellFormed.{malformed_step}
use Rattle.vme_trace.specs.declared.step.Step.{Step}
use Rattle.vme_audit.specs.Parts.{breaks}
use Rattle.vme_auditor.specs.Breaks.{as_break}
use Rattle.vme_auditor.specs.declared.audit_break.AuditBreak.{AuditBreak}
use Rattle.vme_auditor.specs.declared.findings.BreakCounts.{BreakCounts}
use Rattle.vme_step_auditor.specs.ReadBy.{GivenSteps, read_by, read_of}
use Rattle.vme_step_auditor.specs.Counting.{with_category}
use Rattle.vme_step_auditor.specs.AuditedSteps.{HasAuditedSteps}
use Rattle.vme_step_auditor.proofs.Taking.{breaks-found_added, breaks-none_added, HasAuditedSteps-break}
use Rattle.vme_step_auditor.proofs.Taking.{HasAuditedSteps-conforming, HasAuditedSteps-stopped}
use Rattle.vme_step_auditor.proofs.step_auditor.StepAuditor.take.Goals as goal

pub invariant_of-self : goal.invariant_of-self
invariant_of-self c =
    let i = c.self.inside in
    let given : Trace = record { opening = i.opening; steps = i.given.items } in
    let few : i.opening.slots ≤ 21 = omega (arith, c.slots.ensures.slots, c.slots.ensures.most) in
    subst
    (λ (x : List Step). HasAuditedSteps i.rules.allowances.now i.rules.stop (record { opening = i.opening; steps = x })
    i.auditor i.counts)
    (sym c.and-given.ensures)
    (HasAuditedSteps-stopped c.breaks_grow.ensures.step c.breaks_grow.ensures.within i.rules.allowances.now i.rules.stop
    given
    i.auditor i.counts c.self.invariant c.args.step.now few (sym c.stops.ensures ∙ c.if-stops.true))

pub returns-then-stops-clause-told : goal.returns-then-stops-clause-told
returns-then-stops-clause-told c =
    let i = c.self.inside in
    let given : Trace = record { opening = i.opening; steps = i.given.items } in
    let few : i.opening.slots ≤ 21 = omega (arith, c.slots.ensures.slots, c.slots.ensures.most) in
    subst
    (λ (x : List Step). malformed_step (record { opening = i.opening; steps = x }) ≡ None
    → breaks (read_by i.rules.allowances.now i.rules.stop (record { opening = i.opening; steps = x }))
    ≡ breaks (read_of c.args.self.now) ++ [])
    (sym c.and-given.ensures)
    (λ ok.
    breaks-none_added c.breaks_grow.ensures.step c.breaks_grow.ensures.within i.rules.allowances.now i.rules.stop given
    i.auditor i.counts c.self.invariant c.args.step.now few (sym c.stops.ensures ∙ c.if-stops.true) ok
    ∙ ap (λ (g : GivenSteps). breaks (read_of g) ++ []) c.self.view_is)

pub invariant_of-self-in-Some : goal.invariant_of-self-in-Some
invariant_of-self-in-Some c =
    let i = c.self.inside in
    let given : Trace = record { opening = i.opening; steps = i.given.items } in
    let few : i.opening.slots ≤ 21 = omega (arith, c.slots.ensures.slots, c.slots.ensures.most) in
    let counts = c.count.ensures ∙ ap (with_category i.counts) c.of-category.ensures in
    subst
    (λ (x : List Step). HasAuditedSteps i.rules.allowances.now i.rules.stop (record { opening = i.opening; steps = x })
    c.step.new.self c.count.new.counts)
    (sym c.and-given.ensures)
    (subst
    (λ (d : BreakCounts). HasAuditedSteps i.rules.allowances.now i.rules.stop
    (record { opening = i.opening; steps = i.given.items ++ c.args.step.now ∷ [] }) c.step.new.self d)
    (sym counts)
    (HasAuditedSteps-break c.breaks_grow.ensures.step c.breaks_grow.ensures.within i.rules.allowances.now i.rules.stop
    given
    i.auditor i.counts c.self.invariant c.args.step.now few (sym c.stops.ensures ∙ c.if-stops.false) c.step.new.self
    c.in_ok-found.ensures.recorded (λ e. let refused = c.in_ok-found.ensures.too_many.1 e in absurd (cc))
    (as_break c.in-Some.found)
    (λ ok. c.in_ok-found.ensures.told ok
    ∙ ap (λ (f : Option AuditBreak). breaks i.auditor ++ option_to_list (option_map as_break f)) c.in-Some.is)))

pub invariant_of-self-in-None : goal.invariant_of-self-in-None
invariant_of-self-in-None c =
    let i = c.self.inside in
    let given : Trace = record { opening = i.opening; steps = i.given.items } in
    let few : i.opening.slots ≤ 21 = omega (arith, c.slots.ensures.slots, c.slots.ensures.most) in
    subst
    (λ (x : List Step). HasAuditedSteps i.rules.allowances.now i.rules.stop (record { opening = i.opening; steps = x })
    c.step.new.self i.counts)
    (sym c.and-given.ensures)
    (HasAuditedSteps-conforming c.breaks_grow.ensures.step c.breaks_grow.ensures.within i.rules.allowances.now
    i.rules.stop given
    i.auditor i.counts c.self.invariant c.args.step.now few (sym c.stops.ensures ∙ c.if-stops.false) c.step.new.self
    c.in_ok-found.ensures.recorded (λ e. let refused = c.in_ok-found.ensures.too_many.1 e in absurd (cc))
    (λ ok. c.in_ok-found.ensures.told ok
    ∙ ap (λ (f : Option AuditBreak). breaks i.auditor ++ option_to_list (option_map as_break f)) c.in-None.is))

pub returns-in-Some-clause-told : goal.returns-in-Some-clause-told
returns-in-Some-clause-told c =
    let i = c.self.inside in
    let given : Trace = record { opening = i.opening; steps = i.given.items } in
    let few : i.opening.slots ≤ 21 = omega (arith, c.slots.ensures.slots, c.slots.ensures.most) in
    subst
    (λ (x : List Step). malformed_step (record { opening = i.opening; steps = x }) ≡ None
    → breaks (read_by i.rules.allowances.now i.rules.stop (record { opening = i.opening; steps = x }))
    ≡ breaks (read_of c.args.self.now) ++ as_break c.in-Some.found ∷ [])
    (sym c.and-given.ensures)
    (λ ok.
    breaks-found_added c.breaks_grow.ensures.step c.breaks_grow.ensures.within i.rules.allowances.now i.rules.stop given
    i.auditor i.counts c.self.invariant c.args.step.now few (sym c.stops.ensures ∙ c.if-stops.false) c.step.new.self
    c.in_ok-found.ensures.recorded (Some (as_break c.in-Some.found))
    (λ ok. c.in_ok-found.ensures.told ok
    ∙ ap (λ (f : Option AuditBreak). breaks i.auditor ++ option_to_list (option_map as_break f)) c.in-Some.is) ok
    ∙ ap (λ (g : GivenSteps). breaks (read_of g) ++ as_break c.in-Some.found ∷ []) c.self.view_is)

pub returns-in-None-clause-told : goal.returns-in-None-clause-told
returns-in-None-clause-told c =
    let i = c.self.inside in
    let given : Trace = record { opening = i.opening; steps = i.given.items } in
    let few : i.opening.slots ≤ 21 = omega (arith, c.slots.ensures.slots, c.slots.ensures.most) in
    subst
    (λ (x : List Step). malformed_step (record { opening = i.opening; steps = x }) ≡ None
    → breaks (read_by i.rules.allowances.now i.rules.stop (record { opening = i.opening; steps = x }))
    ≡ breaks (read_of c.args.self.now) ++ [])
    (sym c.and-given.ensures)
    (λ ok.
    breaks-found_added c.breaks_grow.ensures.step c.breaks_grow.ensures.within i.rules.allowances.now i.rules.stop given
    i.auditor i.counts c.self.invariant c.args.step.now few (sym c.stops.ensures ∙ c.if-stops.false) c.step.new.self
    c.in_ok-found.ensures.recorded None
    (λ ok. c.in_ok-found.ensures.told ok
    ∙ ap (λ (f : Option AuditBreak). breaks i.auditor ++ option_to_list (option_map as_break f)) c.in-None.is) ok
    ∙ ap (λ (g : GivenSteps). breaks (read_of g) ++ []) c.self.view_is)
