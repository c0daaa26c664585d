-- The loop over the numbers of lines: `seen` has the levels of the lines so far, with Unknown for those that the
-- backplane doesn't have.
use Rattle.vme_parts.proofs.Measures.{SeesBefore}
use Rattle.vme_parts.proofs.fits.levels_fit.Given as goal

abbrev pub invariant-loop-number : goal.invariant-loop-number
invariant-loop-number l = SeesBefore l.seen l.lines l.number
