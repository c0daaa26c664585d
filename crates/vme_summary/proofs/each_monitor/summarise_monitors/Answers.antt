use Rattle.std.proofs.Common.{◌≡◌, ◌<◌, ◌+◌, ◌∷◌, [], ◌++◌, ap, arith, length, sym, take, ◌∙◌}
use Rattle.std.proofs.lemmas.List.{length-take, take_more}
use Rattle.vme_trace.specs.Trace.{changed, levels_after}
use Rattle.vme_trace.proofs.CutBlocks.{levels_after-append}
use Rattle.vme_monitor.specs.declared.view.StepView.{StepView}
use Rattle.vme_summary.proofs.each_monitor.summarise_monitors.Goals as goal

pub loop-step-preserved : goal.loop-step-preserved
loop-step-preserved g c =
    let i = c.loop-step.step-index in
    let s = c.step-item.result in
    let done = take i c.args.steps.now in
    let lt : i < length c.args.steps.now = omega arith in
    let more : take (i + 1) c.args.steps.now ≡ done ++ s ∷ [] = take_more c.args.steps.now i s lt
    ∙ ap (λ x. done ++ x ∷ []) (sym c.step-item.is) in
    let n : length done ≡ i = rw length-take (omega arith) in
    let inv = c.loop-step.invariant in
    let found = c.go_to.ensures.before ∙ inv.before in
    let seen = rw c.as_slice-changes.ensures at c.go_to.ensures.seen in
    let left : c.go_to.new.self.after ≡ levels_after c.args.opening.now (done ++ s ∷ []) = rw levels_after-append
    (ap (λ (v : StepView). v.after) seen ∙ ap (λ o. changed o s.changes) found) in
    record {
      counted = omega arith;
      before = rw more (c.go_past.ensures.before ∙ left);
      after = c.go_past.ensures.after ∙ sym c.go_past.ensures.before;
      known = rw more (c.in_ok-step_monitors.ensures.known c.args.opening.now done
          (record { levels_are = found; instant_is = omega arith }) inv.known);
      handshake = rw more (c.in_ok-step_monitors.ensures.handshake c.args.opening.now done
          (record { levels_are = found; instant_is = omega arith }) inv.handshake);
      stability = rw more (c.in_ok-step_monitors.ensures.stability c.args.opening.now done
          (record { levels_are = found; instant_is = omega arith }) inv.stability);
      grant = rw more (c.in_ok-step_monitors.ensures.grant c.args.opening.now done
          (record { levels_are = found; instant_is = omega arith }) inv.grant);
      acknowledge = rw more (c.in_ok-step_monitors.ensures.acknowledge c.args.opening.now done
          (record { levels_are = found; instant_is = omega arith }) inv.acknowledge);
    }
