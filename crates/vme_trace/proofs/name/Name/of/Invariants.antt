-- The loop over bytes: the name is the bytes so far.
use Rattle.std.proofs.Common.{◌≡◌, take}
use Rattle.vme_trace.proofs.name.Name.of.Given as goal

abbrev pub invariant-loop-byte : goal.invariant-loop-byte
invariant-loop-byte l = l.name ≡ take l.byte-index l.text
