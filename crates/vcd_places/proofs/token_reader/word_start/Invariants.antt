-- The loop over bytes: each so far is a space.
use Rattle.std.proofs.Common.{◌≡◌, ℕ, ◌<◌, ◌≤◌, ◌-◌, length, get_or, true}
use Rattle.vcd_read.specs.Tokens.{is_space}
use Rattle.vcd_places.proofs.token_reader.word_start.Given as goal

abbrev pub invariant-loop-i : goal.invariant-loop-i
invariant-loop-i l = record {
  low : l.at ≤ l.i;
  high : l.i ≤ length l.text;
  spaces : (k : ℕ) → l.at ≤ k → k < l.i → is_space (get_or l.text k 0) ≡ true;
}

abbrev pub decreases-loop-i : goal.decreases-loop-i
decreases-loop-i l = length l.text - l.i
