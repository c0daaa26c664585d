use Rattle.std.proofs.Common.{refl}
use Rattle.vme_program.proofs.explain.save_wanted.Goals as goal

pub returns-in-Some : goal.returns-in-Some
returns-in-Some g c = rw c.in-Some.is c.save.ensures

pub returns-in-None : goal.returns-in-None
returns-in-None g c = rw c.in-None.is (refl, refl)
