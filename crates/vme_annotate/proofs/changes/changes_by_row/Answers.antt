use Rattle.std.proofs.Common.{refl}
use Rattle.vme_annotate.proofs.PlannedLemmas.{row_changes-next, planned-opening, slice_get-get_or}
use Rattle.vme_annotate.proofs.changes.changes_by_row.Goals as goal

pub loop-place-init : goal.loop-place-init
loop-place-init c =
    planned-opening c.args.rows.now c.push_ends.new.self c.push.new.self _
    (rw c.new.ensures.items at (c.in_ok-push_ends.ensures c.args.rows.now)) refl c.in_ok-push.ensures

pub loop-place-preserved : goal.loop-place-preserved
loop-place-preserved c =
    let at = slice_get-get_or c.args.rows.now c.loop-place.place c.index-rows-place.result c.loop-place-test.true
    c.index-rows-place.is in
    row_changes-next c.args.rows.now c.loop-place.place c.index-rows-place.result _ _ at c.loop-place.invariant
    (c.in_ok-push_row.ensures c.args.rows.now at)
