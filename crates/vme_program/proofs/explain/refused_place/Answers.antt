use Rattle.std.proofs.Common.{inl}
use Rattle.vme_program.proofs.Cases.{MatchOption-each_of_two}
use Rattle.vme_program.proofs.explain.refused_place.Goals as goal

pub returns-in-Some : goal.returns-in-Some
returns-in-Some g c = inl c.in-Some.ensures

pub returns-in-None : goal.returns-in-None
returns-in-None g c =
    let apart = rw (c.viewer_path.ensures, c.picture_path.ensures) at c.shared_place.ensures in
    MatchOption-each_of_two _ _ _ _ _ c.in-None.ensures apart
