-- The loop over bytes: each so far is a digit of a vector.
use Rattle.std.proofs.Common.{◌≡◌, ℕ, ◌<◌, ◌≤◌, ◌-◌, length, get_or, true}
use Rattle.vcd_read.specs.Numbers.{is_bit}
use Rattle.vcd_read.proofs.runs.bits_end_by_byte.Given as goal

abbrev pub invariant-loop-i : goal.invariant-loop-i
invariant-loop-i l = record {
  low : l.at ≤ l.i;
  high : l.i ≤ length l.text;
  passed : (k : ℕ) → l.at ≤ k → k < l.i
      → is_bit (get_or l.text k 0) ≡ true;
}

abbrev pub decreases-loop-i : goal.decreases-loop-i
decreases-loop-i l = length l.text - l.i
