-- The loop over bytes from the end: the place is within the text, and each round makes it smaller.
use Rattle.std.proofs.Common.{◌≤◌, length}
use Rattle.vcd_read.proofs.token.whole_tokens.Given as goal

abbrev pub invariant-loop-end : goal.invariant-loop-end
invariant-loop-end l = l.end ≤ length l.text

abbrev pub decreases-loop-end : goal.decreases-loop-end
decreases-loop-end l = l.end
