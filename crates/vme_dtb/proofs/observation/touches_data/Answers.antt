use Rattle.std.proofs.Common.{◌∙◌, sym}
use Rattle.vme_trace.proofs.Changing.{first_changed-drop_next}
use Rattle.vme_dtb.specs.StabilityRules.{is_changed_data}
use Rattle.vme_dtb.proofs.NonDataChanges.{is_changed_data-not_data}
use Rattle.vme_dtb.proofs.observation.touches_data.Goals as goal

pub loop-change-preserved : goal.loop-change-preserved
loop-change-preserved c v w =
    first_changed-drop_next (is_changed_data v w) c.args.changes.now c.loop-change.change-index c.change-item.result
    c.loop-change-test.true c.change-item.is
    (is_changed_data-not_data v w c.change-item.result.line (sym c.is_data.ensures ∙ c.if-is_data.false))
    (c.loop-change.invariant v w)
