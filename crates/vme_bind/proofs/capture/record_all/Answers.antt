use Rattle.std.proofs.Common.{◌≡◌, ℕ, ◌++◌, Option, length, ◌∙◌, sym, ap, arith}
use Rattle.std.proofs.lemmas.List.{append-nil}
use Rattle.std.specs.Option.{option_to_list}
use Rattle.vme_trace.specs.declared.step.Step.{Step}
use Rattle.vme_bind.specs.Capture.{recording}
use Rattle.vme_bind.proofs.OpeningLemmas.{shown_after-opening, shown_after-next, recording-next_steps, AreLines-after}
use Rattle.vme_bind.proofs.OpeningLemmas.{recording-is}
use Rattle.vme_bind.proofs.OpeningLemmas.{recording-no_step}
use Rattle.vme_bind.proofs.capture.record_all.Goals as goal
use Rattle.vme_bind.proofs.capture.record_all.Goals.{in-Some+in_ok-push, in_default}

pub loop-instant-init : goal.loop-instant-init
loop-instant-init c = record {
  shown = shown_after-opening c.args.lines.now.slots c.args.bound_groups.now c.args.instants.now c.new-recorder.result
      c.opening_of-opening.result (c.opening_of-opening.ensures c.args.instants.now) c.new-recorder.ensures;
  steps = c.new-steps.ensures.items ∙ recording-no_step c.args.lines.now.slots c.args.bound_groups.now
      c.args.instants.now;
}

pub record-requires : goal.record-requires
record-requires c =
    AreLines-after c.args.lines.now.slots c.args.bound_groups.now c.args.instants.now c.in_ok-line_bits.line_bits
    c.in_ok-line_bits.ensures c.loop-instant.instant-index c.loop-instant.recorder c.loop-instant.invariant.shown

pub loop-instant-preserved : goal.loop-instant-preserved
loop-instant-preserved c =
    let slots = c.args.lines.now.slots in
    let bound_groups = c.args.bound_groups.now in
    let instants = c.args.instants.now in
    let line_bits = c.in_ok-line_bits.line_bits in
    let i = c.loop-instant.instant-index in
    let x = c.instant-item.result in
    let more =
    recording-next_steps slots bound_groups instants line_bits c.in_ok-line_bits.ensures i x c.loop-instant-test.true
    c.instant-item.is c.loop-instant.recorder c.loop-instant.steps.items (option_to_list c.in_ok-step.field-0)
    c.loop-instant.invariant.shown
    c.loop-instant.invariant.steps (rw c.as_slice.ensures at c.in_ok-step.ensures.step) in
    record {
      shown =
          shown_after-next slots bound_groups instants line_bits c.in_ok-line_bits.ensures i x c.loop-instant-test.true
          c.instant-item.is c.loop-instant.recorder c.record.new.self c.loop-instant.invariant.shown
          (rw c.as_slice.ensures at c.in_ok-step.ensures.shown);
      steps = elim c.match-branch-3.branch [
        | in-Some+in_ok-push w ↦ rw w.steps-is (w.in_ok-push.ensures.items
            ∙ ap (λ (o : Option Step). c.loop-instant.steps.items ++ option_to_list o) (sym w.in-Some.is) ∙ more)
        | in_default w ↦ rw w.steps-is (sym (append-nil c.loop-instant.steps.items)
            ∙ ap (λ (o : Option Step). c.loop-instant.steps.items ++ option_to_list o) (sym w.in_default.is) ∙ more)
      ];
    }

pub returns : goal.returns
returns c =
    let slots = c.args.lines.now.slots in
    let bound_groups = c.args.bound_groups.now in
    let instants = c.args.instants.now in
    let end : c.loop-instant.instant-index ≡ length instants = omega arith in
    recording-is slots bound_groups instants (length instants) c.opening_of-opening.result c.loop-instant.steps.items
    (c.opening_of-opening.ensures instants)
    (c.loop-instant.invariant.steps ∙ ap (λ (n : ℕ). (recording slots bound_groups instants n).steps) end)
