-- One more step has been copied, and its changes applied.
use Rattle.std.proofs.Common.{◌≡◌, ◌++◌, ◌∷◌, [], Some, refl, sym, ◌∙◌, ap, take}
use Rattle.std.specs.Prelude.{slice_get}
use Rattle.std.proofs.lemmas.Option.{slice_get_read}
use Rattle.vme_trace.specs.Trace.{changed}
use Rattle.vme_trace.proofs.CutBlocks.{take-next, levels_after-more}
use Rattle.vme_trace.proofs.block.Block.copied.Goals as goal

pub loop-step-preserved : goal.loop-step-preserved
loop-step-preserved c =
    let steps = c.args.steps.now in
    let n = c.loop-step.step-index in
    let here : slice_get steps n ≡ Some c.step-item.result = slice_get_read steps _ n c.step-item.result refl
    c.loop-step-test.true c.step-item.is in
    record {
      copied = c.in_ok-push.ensures.items ∙ ap (λ xs. xs ++ c.in_ok-copy.field-0 ∷ []) c.loop-step.invariant.copied
          ∙ ap (λ s. take n steps ++ s ∷ []) c.in_ok-copy.ensures ∙ sym (take-next steps n c.step-item.result here);
      reached = c.apply.ensures ∙ ap (λ cs. changed c.loop-step.lines cs) c.as_slice.ensures
          ∙ ap (λ v. changed v c.step-item.result.changes) c.loop-step.invariant.reached
          ∙ sym (levels_after-more c.args.lines.now steps n c.step-item.result here);
    }
