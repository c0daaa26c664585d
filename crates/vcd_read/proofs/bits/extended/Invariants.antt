-- The loop over places: the bits so far are those of the extended value, and there is room for the others.
use Rattle.std.proofs.Common.{◌≡◌, ◌≤◌, take}
use Rattle.vcd_read.specs.Numbers.{extended}
use Rattle.vcd_read.proofs.bits.extended.Given as goal

abbrev pub invariant-loop-place : goal.invariant-loop-place
invariant-loop-place l = record {
  items : l.bits.items ≡ take l.place (extended l.size l.digits);
  room : l.width ≤ l.bits.capacity;
}
