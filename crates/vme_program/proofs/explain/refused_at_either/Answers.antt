use Rattle.std.proofs.Common.{inl}
use Rattle.vme_program.proofs.Cases.{MatchOption-each_of_two}
use Rattle.vme_program.proofs.explain.refused_at_either.Goals as goal

pub returns-in-Some : goal.returns-in-Some
returns-in-Some g c = inl (rw c.viewer_path.ensures at c.in-Some.ensures)

pub returns-in-None : goal.returns-in-None
returns-in-None g c =
    let first = rw c.viewer_path.ensures at c.in-None.ensures in
    let second = rw c.picture_path.ensures at c.refused_at-in-None.ensures in
    MatchOption-each_of_two _ _ _ _ _ first second
