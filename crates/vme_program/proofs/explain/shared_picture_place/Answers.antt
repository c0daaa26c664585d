use Rattle.std.proofs.Common.{refl}
use Rattle.vme_program.proofs.explain.shared_picture_place.Goals as goal

pub returns-then-is_one_place : goal.returns-then-is_one_place
returns-then-is_one_place g c =
    (c.args.viewer.now, refl, refl, refl, rw c.if-is_one_place.true at c.is_one_place.ensures)

pub returns-else-is_one_place : goal.returns-else-is_one_place
returns-else-is_one_place g c = rw c.if-is_one_place.false at c.is_one_place.ensures
