use Rattle.std.proofs.Common.{◌≡◌, ◌+◌, ◌<◌, [], ◌∷◌, ◌++◌, ap, sym, ◌∙◌, arith, length, take}
use Rattle.std.proofs.lemmas.List.{take_all, take_more}
use Rattle.vme_trace.specs.Levels.{Levels}
use Rattle.vme_trace.specs.Trace.{changed, levels_after}
use Rattle.vme_trace.specs.declared.step.Step.{Step}
use Rattle.vme_parts.proofs.OneFile.{levels_after-take_next}
use Rattle.vme_parts.proofs.pieces.lines_after.Goals as goal

pub loop-step-preserved : goal.loop-step-preserved
loop-step-preserved c =
    let steps = c.args.steps.now in
    let k = c.loop-step.step-index in
    let step = c.step-item.result in
    let lt : k < length steps = omega arith in
    let more : take (k + 1) steps ≡ take k steps ++ step ∷ []
    = take_more steps k step lt ∙ ap (λ (x : Step). take k steps ++ x ∷ []) (sym c.step-item.is) in
    c.apply.ensures
    ∙ (rw c.as_slice.ensures (ap (λ (v : Levels). changed v step.changes) c.loop-step.invariant)
    ∙ levels_after-take_next c.args.opening.now steps k step lt more)

pub returns : goal.returns
returns c =
    let steps = c.args.steps.now in
    c.loop-step.invariant
    ∙ ap (levels_after c.args.opening.now)
    (take_all c.loop-step.step-index steps (omega (arith, c.loop-step-test.false)))
