-- Where BBSY neither falls nor rises, an open row of a tenure stays. Where it falls, such a row starts, unless no level
-- is granted or the grant has come to no slot.
use Rattle.std.proofs.Common.{◌∙◌, sym}
use Rattle.vme_cert.proofs.Following.{WithTenure-begins, WithTenure-no_level, WithTenure-no_slot, WithTenure-stays}
use Rattle.vme_cert.proofs.open_rows.OpenRows.follow_tenure.Goals as goal

pub returns-then-not-falls-clause-rows : goal.returns-then-not-falls-clause-rows
returns-then-not-falls-clause-rows g c whole v done t stretch within h =
    WithTenure-stays c.args.bus.now.instant within.is within.judged h
    (sym (c.falls.ensures t within.at) ∙ c.if-not-falls.true) (sym (c.rises.ensures t within.at) ∙ c.if-rises.false)

pub returns-in_default-clause-rows : goal.returns-in_default-clause-rows
returns-in_default-clause-rows g c whole v done t stretch within h =
    WithTenure-no_level c.args.bus.now.instant within.is within.judged h
    (sym (c.falls.ensures t within.at) ∙ c.if-not-falls.false)
    (sym (c.tenure_level.ensures.level t within.at) ∙ c.in_default.is)

pub returns-in_default-tenure_slot-clause-rows : goal.returns-in_default-tenure_slot-clause-rows
returns-in_default-tenure_slot-clause-rows g c whole v done t stretch within h =
    WithTenure-no_slot c.args.bus.now.instant within.is within.judged h
    (sym (c.falls.ensures t within.at) ∙ c.if-not-falls.false)
    (sym (c.tenure_slot.ensures t within.at) ∙ c.in_default-tenure_slot.is)

pub returns-clause-rows : goal.returns-clause-rows
returns-clause-rows g c whole v done t stretch within h =
    WithTenure-begins c.args.bus.now.instant within.is within.judged h
    (sym (c.falls.ensures t within.at) ∙ c.if-not-falls.false)
    (sym (c.tenure_level.ensures.level t within.at) ∙ c.in-Some.is)
    (sym (c.tenure_slot.ensures t within.at) ∙ c.in-Some-tenure_slot.is) c.begin.ensures
