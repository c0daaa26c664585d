-- The auditor's fields after one more step, and the break that it returns.
use Rattle.std.proofs.Common.{◌≡◌, ◌+◌, ◌≤◌, List, ◌++◌, sym, ◌∙◌, ap, subst, arith, None}
use Rattle.std.specs.Option.{option_map, option_to_list}
use Rattle.vme_trace.specs.Trace.{Trace}
use Rattle.vme_trace.specs.WellFormed.{malformed_step}
use Rattle.vme_trace.specs.declared.step.Step.{Step}
use Rattle.vme_audit.specs.Parts.{breaks}
use Rattle.vme_auditor.specs.Breaks.{as_break}
use Rattle.vme_auditor.proofs.Folds.{HasAudited-next, breaks-next}
use Rattle.vme_auditor.proofs.auditor.Auditor.step.Goals as goal

pub invariant_of-self : goal.invariant_of-self
invariant_of-self c =
    let i = c.self.inside in
    let later : c.in-Some.instant ≡ i.steps + 1 = omega (arith, c.in-Some.ensures) in
    rw c.and-taken.ensures
    (HasAudited-next i.opening i.taken.items c.args.step.now i.steps i.view i.audit c.self.invariant
    c.as_slice-changes.result.now c.as_slice-changes.ensures c.go_to.new.self c.go_to.ensures.seen
    c.go_to.ensures.before
    c.in-Some.instant later c.go_past.new.self c.go_on-found.new.self c.go_past.ensures.before c.go_past.ensures.after
    c.go_on-found.ensures.audit)

pub returns-clause-told : goal.returns-clause-told
returns-clause-told c =
    let i = c.self.inside in
    let later : c.in-Some.instant ≡ i.steps + 1 = omega (arith, c.in-Some.ensures) in
    let few : i.opening.slots ≤ 21 = omega (arith, c.slots.ensures.slots, c.slots.ensures.most) in
    let found = option_map as_break c.go_on-found.result in
    subst
    (λ (y : List Step). malformed_step (record { opening = i.opening; steps = y }) ≡ None
    → breaks (record { opening = i.opening; steps = y }) ≡ breaks c.args.self.now ++ option_to_list found)
    (sym c.and-taken.ensures)
    (λ ok. breaks-next i.opening i.taken.items c.args.step.now i.steps i.view i.audit c.self.invariant
    c.as_slice-changes.result.now c.as_slice-changes.ensures c.go_to.new.self c.go_to.ensures.seen
    c.go_to.ensures.before c.in-Some.instant later c.first_break_is_found.ensures ok few found
    c.go_on-found.ensures.found
    ∙ ap (λ (t : Trace). breaks t ++ option_to_list found) c.self.view_is)
