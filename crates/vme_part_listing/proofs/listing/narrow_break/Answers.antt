use Rattle.std.proofs.Common.{arith}
use Rattle.vme_part_listing.proofs.listing.narrow_break.Goals as goal

pub returns-in-Err-clause-late : goal.returns-in-Err-clause-late
returns-in-Err-clause-late c = λ none. (c.in-Some.found, c.in-Some.is, omega (arith, c.in-Err.ensures))
