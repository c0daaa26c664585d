use Rattle.vme_bind.proofs.FoundLemmas.{bound_groups_of-bound_groups_in}
use Rattle.vme_bind.proofs.TextCaptureLemmas.{GivesBy-recording_after}
use Rattle.vme_bind.proofs.binding.Binding.record_head.Goals as goal

pub returns-in-Ok : goal.returns-in-Ok
returns-in-Ok g c variables seen =
    let bound_groups = rw (bound_groups_of-bound_groups_in variables c.args.self.now.assignments _ seen) at
    c.in-Ok.ensures in
    let given = rw (c.lines.ensures.slots, c.deref.ensures.value) at c.record_bound_groups.ensures in
    GivesBy-recording_after g.F.StepVisitor.recorded c.args.self.now c.args.head.now variables
    c.in-Ok.bound_groups.items
    c.record_bound_groups.result bound_groups given

pub returns-in-Err : goal.returns-in-Err
returns-in-Err g c variables seen = c.first_fault.ensures c.args.self.now variables
    (rw (bound_groups_of-bound_groups_in variables c.args.self.now.assignments _ seen) at c.in-Err.ensures)
