-- The loop over tokens: those so far were taken, and none of them ends the section.
use Rattle.std.proofs.Common.{◌≡◌, ◌-◌, length}
use Rattle.vcd_places.proofs.NextTokenLemmas.{IsTakenSoFar}
use Rattle.vcd_places.proofs.section.skip_past_end.Given as goal

abbrev pub invariant-loop-token : goal.invariant-loop-token
invariant-loop-token l = record {
  same : l.reader.text.now ≡ l.fn.reader.text.now;
  taken : IsTakenSoFar l.fn.reader.text.now l.fn.reader.at l.reader.at;
}

abbrev pub decreases-loop-token : goal.decreases-loop-token
decreases-loop-token l = length l.reader.text.now - l.reader.at
