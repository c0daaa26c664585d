-- Before the first step there is no break.
use Rattle.std.proofs.Common.{◌≡◌, ◌≤◌, ◌∙◌, List, [], ap, arith, subst, sym}
use Rattle.vme_trace.specs.Trace.{Trace}
use Rattle.vme_trace.specs.declared.step.Step.{Step}
use Rattle.vme_audit.specs.Parts.{breaks}
use Rattle.vme_step_auditor.specs.ReadBy.{read_by}
use Rattle.vme_step_auditor.specs.AuditedSteps.{HasAuditedSteps}
use Rattle.vme_step_auditor.proofs.ReadOn.{read_by-unbroken}
use Rattle.vme_step_auditor.proofs.Taking.{HasAuditedSteps-first}
use Rattle.vme_step_auditor.proofs.step_auditor.StepAuditor.new.Goals as goal

pub invariant_of-result : goal.invariant_of-result
invariant_of-result c =
    let o = c.args.opening.now in
    let rules = c.args.rules in
    let few : o.slots ≤ 21 = omega (arith, c.slots.ensures.slots, c.slots.ensures.most) in
    subst
    (λ (x : List Step). HasAuditedSteps rules.allowances.now rules.stop (record { opening = o; steps = x }) c.new.result
    c.default.result)
    (sym c.new-2.ensures)
    (HasAuditedSteps-first rules.allowances.now rules.stop o c.new.result c.default.result
    (c.breaks_grow.ensures.opening o few)
    c.new.ensures c.default.ensures.0 c.default.ensures.1.0 c.default.ensures.1.1)

pub returns-clause-nothing : goal.returns-clause-nothing
returns-clause-nothing c =
    let o = c.args.opening.now in
    let rules = c.args.rules in
    let first : Trace = record { opening = o; steps = [] } in
    let few : o.slots ≤ 21 = omega (arith, c.slots.ensures.slots, c.slots.ensures.most) in
    let none = c.breaks_grow.ensures.opening o few in
    subst
    (λ (x : List Step). breaks (read_by rules.allowances.now rules.stop (record { opening = o; steps = x })) ≡ [])
    (sym c.new-2.ensures)
    (ap (λ (t : Trace). breaks t) (read_by-unbroken rules.allowances.now rules.stop first none) ∙ none)
