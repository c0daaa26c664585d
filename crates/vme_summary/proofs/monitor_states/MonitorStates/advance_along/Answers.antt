use Rattle.std.proofs.Common.{◌≡◌, ◌<◌, ◌+◌, ◌∷◌, [], ◌++◌, List, ap, append-nil, append_assoc, arith, length, subst}
use Rattle.std.proofs.Common.{sym}
use Rattle.std.proofs.Common.{take, length-append, ◌∙◌}
use Rattle.std.proofs.lemmas.List.{length-take, take_all, take_more}
use Rattle.vme_trace.specs.Levels.{Levels}
use Rattle.vme_trace.specs.Trace.{changed, levels_after}
use Rattle.vme_trace.specs.declared.step.Step.{Step}
use Rattle.vme_trace.proofs.CutBlocks.{levels_after-append}
use Rattle.vme_monitor.specs.declared.view.StepView.{StepView}
use Rattle.vme_summary.specs.Progressed.{HasFound}
use Rattle.vme_summary.proofs.monitor_states.MonitorStates.advance_along.Goals as goal

pub loop-step-init : goal.loop-step-init
loop-step-init c =
    record {
      counted = omega arith;
      before = c.new-view.ensures.before;
      after = c.new-view.ensures.after ∙ sym c.new-view.ensures.before;
      found = λ o x here count f. subst (λ (all : List Step). HasFound c.args.self.now o all) (sym (append-nil x)) f;
    }

pub loop-step-preserved : goal.loop-step-preserved
loop-step-preserved c =
    let i = c.loop-step.step-index in
    let s = c.step-item.result in
    let steps = c.args.steps.now in
    let done = take i steps in
    let lt : i < length steps = omega arith in
    let more : take (i + 1) steps ≡ done ++ s ∷ [] = take_more steps i s lt
    ∙ ap (λ x. done ++ x ∷ []) (sym c.step-item.is) in
    let n : length done ≡ i = rw length-take (omega arith) in
    let inv = c.loop-step.invariant in
    let found = c.go_to.ensures.before ∙ inv.before in
    let seen = rw c.as_slice-changes.ensures at c.go_to.ensures.seen in
    let left : c.go_to.new.self.after ≡ levels_after c.args.opening.now (done ++ s ∷ []) = rw levels_after-append
    (ap (λ (v : StepView). v.after) seen ∙ ap (λ o. changed o s.changes) found) in
    record {
      counted = omega arith;
      before = rw more (c.go_past.ensures.before ∙ left);
      after = c.go_past.ensures.after ∙ sym c.go_past.ensures.before;
      found = λ o x here count f.
          let all : (x ++ done) ++ s ∷ [] ≡ x ++ take (i + 1) steps = append_assoc x done (s ∷ [])
          ∙ ap (λ (y : List Step). x ++ y) (sym more) in
          let led : c.go_to.new.self.before ≡ levels_after o (x ++ done) = found
          ∙ ap (λ (v : Levels). levels_after v done) here ∙ sym (levels_after-append o x done) in
          subst (λ (y : List Step). HasFound c.advance.new.self o y) all
          (c.advance.ensures o (x ++ done)
          (record { levels_are = led; instant_is = omega (arith, length-append x done, n, count, inv.counted) })
          (inv.found o x here count f));
    }

pub returns-clause-found : goal.returns-clause-found
returns-clause-found c = λ o x here count f.
    let steps = c.args.steps.now in
    let i = c.loop-step.step-index in
    subst (λ (y : List Step). HasFound c.loop-step.self o (x ++ y)) (take_all i steps (omega arith))
    (c.loop-step.invariant.found o x here count f)

pub returns-clause-left : goal.returns-clause-left
returns-clause-left c =
    let steps = c.args.steps.now in
    let i = c.loop-step.step-index in
    c.loop-step.invariant.before ∙ ap (levels_after c.args.opening.now) (take_all i steps (omega arith))
