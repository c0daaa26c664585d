use Rattle.std.proofs.Common.{refl}
use Rattle.vme_program.proofs.explain.refusal_of.Goals as goal

pub returns-in-Some : goal.returns-in-Some
returns-in-Some g c = (refl, c.in-Some.ensures)

pub returns-in-None : goal.returns-in-None
returns-in-None g c = c.in-None.ensures
