use Rattle.std.proofs.Common.{[], List}
use Rattle.vcd_read.specs.Tokens.{Token}
use Rattle.vcd_read.specs.Fronts.{going_on}
use Rattle.vme_bind.proofs.FoundLemmas.{bound_groups_of-bound_groups_in}
use Rattle.vme_bind.proofs.TextPieceLemmas.{TextContinuesAs-same, recording_after-fitting, recording_after-refused}
use Rattle.vme_bind.proofs.TextPieceLemmas.{BindFails-not_memory}
use Rattle.vme_bind.proofs.TextPieceLemmas.{CaptureFailsBy-memory}
use Rattle.vme_bind.proofs.TextReadingLemmas.{reading_after-fitting, reading_after-refused}
use Rattle.vme_bind.proofs.binding.Binding.begin_body.Goals as goal

pub returns-in-Ok-clause-rest : goal.returns-in-Ok-clause-rest
returns-in-Ok-clause-rest g c variables seen =
    let b = c.args.self.now in
    let head = c.args.front.head in
    let bound_groups = rw (bound_groups_of-bound_groups_in variables b.assignments _ seen) at c.in-Ok.ensures in
    let given = rw (c.lines.ensures.slots, c.deref.ensures.value) at c.begin_bound_groups.ensures.rest in
    TextContinuesAs-same _ c.begin_bound_groups.result _ _ (λ (more : List Token). recording_after-fitting b
    (going_on head more) variables c.in-Ok.bound_groups.items bound_groups) given

pub returns-in-Memory-clause-rest : goal.returns-in-Memory-clause-rest
returns-in-Memory-clause-rest g c variables seen =
    let fails = rw (bound_groups_of-bound_groups_in variables c.args.self.now.assignments _ seen) at c.in-Err.ensures in
    λ more. CaptureFailsBy-memory c.in-Err.fault _ _ (cc) fails

pub returns-clause-rest : goal.returns-clause-rest
returns-clause-rest g c variables seen =
    let b = c.args.self.now in
    let head = c.args.front.head in
    let own = c.in-Err.fault in
    let fails = rw (bound_groups_of-bound_groups_in variables b.assignments _ seen) at c.in-Err.ensures in
    let refused = BindFails-not_memory own _ c.in_default.not-Memory fails in
    TextContinuesAs-same _ c.begin_bound_groups-in_default.result _ _ (λ (more : List Token). recording_after-refused b
    (going_on head more) variables [] own refused) c.begin_bound_groups-in_default.ensures.rest

pub returns-in-Ok-clause-reading : goal.returns-in-Ok-clause-reading
returns-in-Ok-clause-reading g c variables seen =
    let b = c.args.self.now in
    let head = c.args.front.head in
    let bound_groups = rw (bound_groups_of-bound_groups_in variables b.assignments _ seen) at c.in-Ok.ensures in
    let given = rw (c.lines.ensures.slots, c.deref.ensures.value) at c.begin_bound_groups.ensures.reading in
    TextContinuesAs-same _ c.begin_bound_groups.result _ _
    (λ (more : List Token). reading_after-fitting b (going_on head more) variables
    c.in-Ok.bound_groups.items bound_groups) given

pub returns-in-Memory-clause-reading : goal.returns-in-Memory-clause-reading
returns-in-Memory-clause-reading g c variables seen =
    let fails = rw (bound_groups_of-bound_groups_in variables c.args.self.now.assignments _ seen) at c.in-Err.ensures in
    λ more. CaptureFailsBy-memory c.in-Err.fault _ _ (cc) fails

pub returns-clause-reading : goal.returns-clause-reading
returns-clause-reading g c variables seen =
    let b = c.args.self.now in
    let head = c.args.front.head in
    let own = c.in-Err.fault in
    let fails = rw (bound_groups_of-bound_groups_in variables b.assignments _ seen) at c.in-Err.ensures in
    let refused = BindFails-not_memory own _ c.in_default.not-Memory fails in
    TextContinuesAs-same _ c.begin_bound_groups-in_default.result _ _ (λ (more : List Token). reading_after-refused b
    (going_on head more) variables own refused) c.begin_bound_groups-in_default.ensures.reading
