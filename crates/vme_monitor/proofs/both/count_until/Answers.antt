use Rattle.std.proofs.Common.{rules, ◌≡◌, ◌<◌, ◌++◌, ◌∙◌, true, ap, arith, get_or, length, take}
use Rattle.vme_monitor.specs.BothMonitors.{mark_lt}
use Rattle.vme_monitor.proofs.MergingMarks.{merged-one}
use Rattle.vme_monitor.proofs.both.count_until.Goals as goal

pub returns-then-mark_lt-clause-placed : goal.returns-then-mark_lt-clause-placed
returns-then-mark_lt-clause-placed c =
    let within : c.loop-count.count < length c.args.marks.now = search rules in
    let before : mark_lt c.args.mark (get_or c.args.marks.now c.loop-count.count c.index-marks-count.result)
    ≡ true = grind (arith, c.index-marks-count.is, c.mark_lt.ensures, c.if-mark_lt.true) in
    ap (λ l. take c.loop-count.count c.args.marks.now ++ l) (merged-one c.args.marks.now c.args.mark
    c.index-marks-count.result c.loop-count.count within before)
    ∙ c.loop-count.invariant.placed
