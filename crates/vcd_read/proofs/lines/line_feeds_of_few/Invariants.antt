-- The loop over bytes: the count is the number of line feeds so far.
use Rattle.std.proofs.Common.{◌≡◌, ◌==◌, ℕ, count_by, take}
use Rattle.vcd_read.proofs.lines.line_feeds_of_few.Given as goal

abbrev pub invariant-loop-b : goal.invariant-loop-b
invariant-loop-b l = l.count ≡ count_by (λ (b : ℕ). b == 10) (take l.b-index l.bytes)
