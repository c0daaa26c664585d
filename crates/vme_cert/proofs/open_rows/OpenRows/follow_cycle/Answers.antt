use Rattle.std.proofs.Common.{◌∙◌, sym}
use Rattle.vme_cert.proofs.Following.{WithCycle-begins, WithCycle-stays}
use Rattle.vme_cert.proofs.open_rows.OpenRows.follow_cycle.Goals as goal

pub returns-then-not-falls-clause-rows : goal.returns-then-not-falls-clause-rows
returns-then-not-falls-clause-rows g c whole v done t stretch within h =
    WithCycle-stays c.args.bus.now.instant within.is within.judged h
    (sym (c.falls.ensures t within.at) ∙ c.if-not-falls.true) (sym (c.rises.ensures t within.at) ∙ c.if-rises.false)

pub returns-clause-rows : goal.returns-clause-rows
returns-clause-rows g c whole v done t stretch within h =
    WithCycle-begins c.args.bus.now.instant within.is within.judged h
    (sym (c.falls.ensures t within.at) ∙ c.if-not-falls.false) within.at.levels c.begin.ensures
    c.cycle_row-row.ensures
