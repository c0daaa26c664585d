use Rattle.std.proofs.Common.{◌≡◌, ◌∙◌, ◌+◌, ◌∷◌, add-one, ap, drop, sym}
use Rattle.std.proofs.Math.ListN.{drop_of_length-le}
use Rattle.vme_trace.specs.Levels.{Levels}
use Rattle.vme_trace.specs.Trace.{changed, levels_after}
use Rattle.std.proofs.Math.Seq.{drop-cons}
use Rattle.vme_trace.specs.declared.step.Step.{Step}
use Rattle.vme_summary.proofs.judged_chunk.left_by.Goals as goal

pub loop-step-preserved : goal.loop-step-preserved
loop-step-preserved c =
    let i = c.loop-step.step-index in
    let steps = c.args.steps.now in
    let step = c.step-item.result in
    let before : Levels = c.loop-step.left in
    let cut : drop i steps ≡ step ∷ drop (i + 1) steps = rw add-one (drop-cons steps i step c.loop-step-test.true)
    ∙ ap (λ (s : Step). s ∷ drop (i + 1) steps) (sym c.step-item.is) in
    ap (λ (v : Levels). levels_after v (drop (i + 1) steps)) (c.apply.ensures ∙ ap (changed before) c.as_slice.ensures)
    ∙ ap (levels_after before) (sym cut)
    ∙ c.loop-step.invariant

pub returns : goal.returns
returns c = ap (levels_after c.loop-step.left) (sym (drop_of_length-le c.args.steps.now c.loop-step-test.false))
    ∙ c.loop-step.invariant
