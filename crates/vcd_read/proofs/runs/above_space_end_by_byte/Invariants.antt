-- The loop over bytes: each so far is above the space.
use Rattle.std.proofs.Common.{ℕ, ◌<◌, ◌≤◌, ◌-◌, length, get_or}
use Rattle.vcd_read.proofs.runs.above_space_end_by_byte.Given as goal

abbrev pub invariant-loop-i : goal.invariant-loop-i
invariant-loop-i l = record {
  low : l.at ≤ l.i;
  high : l.i ≤ length l.text;
  passed : (k : ℕ) → l.at ≤ k → k < l.i
      → 32 < get_or l.text k 0;
}

abbrev pub decreases-loop-i : goal.decreases-loop-i
decreases-loop-i l = length l.text - l.i
