use Rattle.std.proofs.Common.{sym}
use Rattle.std.proofs.lemmas.Bool.{leb-true}
use Rattle.vme_part_tables.proofs.Shortening.{AreInOrder-by_ends, AreInOrder-without_first}
use Rattle.vme_part_tables.proofs.shorten.are_in_order.Goals as goal

pub returns-in_default : goal.returns-in_default
returns-in_default c = λ t. AreInOrder-without_first c.args.marks.now c.args.others.now (sym c.in_default.ensures.value)

pub returns : goal.returns
returns c =
    λ t. AreInOrder-by_ends c.args.marks.now c.args.others.now c.in-Some.last.now c.in-Some-first.first.now
    (sym c.in-Some.ensures.value) (sym c.in-Some-first.ensures.value)
    (leb-true c.in-Some.last.now.instant c.in-Some-first.first.now.instant t)
