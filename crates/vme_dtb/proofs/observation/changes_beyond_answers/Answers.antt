use Rattle.std.proofs.Common.{arith}
use Rattle.vme_trace.specs.Cycle.{is_within}
use Rattle.vme_trace.proofs.Changing.{first_changed-drop_next}
use Rattle.vme_dtb.specs.StabilityRules.{is_changed_data}
use Rattle.vme_dtb.proofs.NonDataChanges.{is_changed_data-not_data, is_data-below}
use Rattle.vme_dtb.proofs.UnneededChanges.{is_within-not_below_5}
use Rattle.vme_dtb.proofs.observation.changes_beyond_answers.Goals as goal

pub loop-change-preserved : goal.loop-change-preserved
loop-change-preserved c = (
  λ needs. first_changed-drop_next (is_within needs) c.args.changes.now c.loop-change.change-index c.change-item.result
      c.loop-change-test.true c.change-item.is (is_within-not_below_5 needs c.change-item.result.line (omega arith))
      (c.loop-change.invariant.0 needs),
  λ v w. first_changed-drop_next (is_changed_data v w) c.args.changes.now c.loop-change.change-index
      c.change-item.result c.loop-change-test.true c.change-item.is
      (is_changed_data-not_data v w c.change-item.result.line (is_data-below c.change-item.result.line (omega arith)))
      (c.loop-change.invariant.1 v w),
)
