use Rattle.std.proofs.Common.{◌∙◌, ap, arith}
use Rattle.vme_part_listing.proofs.listing.begin.Goals as goal

pub overflow_cast-memory : goal.overflow_cast-memory
overflow_cast-memory g c =
    omega (arith, c.place-memory.ensures, g.met.M.Finite.placed c.start.result, g.met.M.Finite.few)

pub returns-clause-memory : goal.returns-clause-memory
returns-clause-memory g c = c.place-memory.ensures ∙ ap g.M.Finite.place_of c.start.ensures

pub returns-clause-low : goal.returns-clause-low
returns-clause-low g c = rw c.place-memory.ensures (g.met.M.Finite.placed c.start.result)
