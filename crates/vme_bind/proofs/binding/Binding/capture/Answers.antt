use Rattle.std.proofs.Common.{length}
use Rattle.vme_trace.specs.Trace.{Trace}
use Rattle.vme_bind.specs.BoundGroups.{bound_groups_in}
use Rattle.vme_bind.specs.Capture.{recording, limited, capture_of}
use Rattle.vme_bind.proofs.BindingLemmas.{BindFails-first, BindGives-err}
use Rattle.vme_bind.proofs.OpeningLemmas.{capture_of-is, capture_of-found, recording-formed, BindGives-limited}
use Rattle.vme_bind.proofs.binding.Binding.capture.Goals as goal

pub returns-in_err-bound_groups : goal.returns-in_err-bound_groups
returns-in_err-bound_groups c =
    let b = c.args.self.now in
    let dump = c.args.dump.now in
    let fault = c.in_err-bound_groups.field-0.0 in
    let h = rw (c.variables.ensures, c.assignments.ensures) at c.in_err-bound_groups.ensures in
    BindGives-err _ c.from_residual.result fault _ c.from_residual.ensures.1
    (BindFails-first fault (bound_groups_in dump.variables b.assignments)
    (λ bound_groups. limited (recording b.slots bound_groups dump.instants (length dump.instants))) _
    (capture_of-is b dump) h)

pub captured-requires : goal.captured-requires
captured-requires c =
    let is = rw (c.lines.ensures.slots, c.deref.ensures.value, c.instants.ensures.instants) at c.in_ok-opening.ensures
    in
    let up = rw c.instants.ensures.instants at c.instants.ensures.ascend in
    recording-formed c.args.self.now.slots c.in_ok-bound_groups.bound_groups.items c.args.dump.now.instants
    (record { opening = c.in_ok-opening.opening; steps = c.in_ok-opening.steps.items }) up is

pub returns : goal.returns
returns c =
    let bound_groups = rw (c.variables.ensures, c.assignments.ensures) at c.in_ok-bound_groups.ensures in
    let is = rw (c.lines.ensures.slots, c.deref.ensures.value, c.instants.ensures.instants) at c.in_ok-opening.ensures
    in
    let made : Trace = record { opening = c.in_ok-opening.opening; steps = c.in_ok-opening.steps.items } in
    BindGives-limited made c.captured.result (capture_of c.args.self.now c.args.dump.now) c.captured.ensures
    (capture_of-found c.args.self.now c.args.dump.now c.in_ok-bound_groups.bound_groups.items made bound_groups is)
