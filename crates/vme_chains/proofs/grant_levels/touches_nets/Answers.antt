use Rattle.std.proofs.Common.{sym, ◌∙◌}
use Rattle.vme_trace.proofs.Changing.{first_changed-drop_next}
use Rattle.vme_chains.proofs.grant_levels.touches_nets.Goals as goal

pub loop-change-preserved : goal.loop-change-preserved
loop-change-preserved c p none =
    first_changed-drop_next p c.args.changes.now c.loop-change.change-index c.change-item.result
    c.loop-change-test.true c.change-item.is
    (none c.change-item.result.line (sym c.is_grant.ensures ∙ c.if-is_grant.false)) (c.loop-change.invariant p none)
