use Rattle.vme_program.proofs.explain.shared_with_viewer.Goals as goal

pub returns-in-Some : goal.returns-in-Some
returns-in-Some g c = rw c.in-Some.is c.shared_picture_place.ensures

pub returns-in-None : goal.returns-in-None
returns-in-None g c = rw c.in-None.is tt
