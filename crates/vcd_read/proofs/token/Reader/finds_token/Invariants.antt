-- The loop over spaces: the tokens that are left from here are those that are left from the start.
use Rattle.std.proofs.Common.{◌≡◌, ◌≤◌, ◌-◌, length}
use Rattle.vcd_read.specs.Reading.{left_at}
use Rattle.vcd_read.proofs.token.Reader.finds_token.Given as goal

abbrev pub invariant-loop-self : goal.invariant-loop-self
invariant-loop-self l = record {
  text : l.self.text ≡ l.fn.self.text;
  low : l.fn.self.at ≤ l.self.at;
  high : l.self.at ≤ length l.fn.self.text.bytes.now;
  left : left_at l.fn.self.text l.self.at ≡ left_at l.fn.self.text l.fn.self.at;
}

abbrev pub decreases-loop-self : goal.decreases-loop-self
decreases-loop-self l = length l.self.text.bytes.now - l.self.at
