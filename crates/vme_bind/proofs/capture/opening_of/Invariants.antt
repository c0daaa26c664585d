-- The lines so far have their levels at the opening.
use Rattle.vme_bind.proofs.OpeningLemmas.{IsOpened}
use Rattle.vme_bind.proofs.capture.opening_of.Given as goal

abbrev pub invariant-loop-number : goal.invariant-loop-number
invariant-loop-number l = IsOpened l.lines.slots l.bound_groups l.number l.opening
