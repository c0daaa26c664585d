-- The loop over neighbours in the order of the segments: of those so far, neighbours of the same files agree.
use Rattle.vme_parts.proofs.SameFiles.{NextAlike}
use Rattle.vme_parts.proofs.same.compare_all.Given as goal

abbrev pub invariant-loop-place : goal.invariant-loop-place
invariant-loop-place l = NextAlike l.segments l.place
