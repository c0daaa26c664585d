-- The loop over items: none so far is a time below 2^64, so the times that are left from here are those that were left
-- at first. The reader is between two items.
use Rattle.std.proofs.Common.{◌≡◌, ◌≤◌, ◌-◌, length}
use Rattle.vcd_places.specs.Times.{IsBetweenItems, times_left}
use Rattle.vcd_places.proofs.times.TimePlaces.next.Given as goal

abbrev pub invariant-loop-token : goal.invariant-loop-token
invariant-loop-token l = record {
  same : l.reader.text.now ≡ l.fn.self.text;
  text : l.self-inside.text.now ≡ l.fn.self.text;
  at : l.self-inside.at ≡ l.fn.self.at;
  between : IsBetweenItems l.fn.self.text l.reader.at;
  left : times_left (record { text = l.fn.self.text; at = l.reader.at }) ≡ times_left l.fn.self;
  moves : l.fn.self.at ≤ l.reader.at;
}

abbrev pub decreases-loop-token : goal.decreases-loop-token
decreases-loop-token l = length l.fn.self.text - l.reader.at
