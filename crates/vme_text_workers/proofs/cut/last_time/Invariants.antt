-- The loop over line feeds from the end: the part that is left to search is within the text, and each round makes it
-- shorter.
use Rattle.std.proofs.Common.{◌≤◌, length}
use Rattle.vme_text_workers.proofs.cut.last_time.Given as goal

abbrev pub invariant-loop-place : goal.invariant-loop-place
invariant-loop-place l = l.end ≤ length l.text

abbrev pub decreases-loop-place : goal.decreases-loop-place
decreases-loop-place l = l.end
