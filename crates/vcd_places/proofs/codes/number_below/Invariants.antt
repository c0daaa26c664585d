-- The loop over bytes of the word from the end: the number so far is below the limit.
use Rattle.std.proofs.Common.{◌<◌}
use Rattle.vcd_places.proofs.codes.number_below.Given as goal

abbrev pub invariant-loop-byte : goal.invariant-loop-byte
invariant-loop-byte l = l.number < l.limit
