-- The span stands for the block.
use Rattle.std.proofs.Common.{[], ◌∷◌}
use Rattle.vme_trace.specs.declared.block.Block.{Block}
use Rattle.vme_summary.proofs.Extents.{StandFor-one}
use Rattle.vme_summary.proofs.judged.span_of_steps.Goals as goal

pub invariant_of-result : goal.invariant_of-result
invariant_of-result c =
    let block : Block = record { number = c.args.number; opening = c.args.opening.now; steps = c.args.steps.now } in
    record {
      stands = ∣ (
        block ∷ [],
        StandFor-one c.around.result c.in_ok-summary.summary block c.around.ensures
            c.in_ok-summary.ensures.stands,
      ) ∣₁;
    }
