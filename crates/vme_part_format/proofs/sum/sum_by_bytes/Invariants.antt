-- The loop over the bytes: the sum so far, summed with the bytes that are left, is the sum of all.
use Rattle.std.proofs.Common.{◌≡◌, drop}
use Rattle.std.specs.List.{fold}
use Rattle.vme_part_format.specs.Sums.{sum_of, summed}
use Rattle.vme_part_format.proofs.sum.sum_by_bytes.Given as goal

abbrev pub invariant-loop-byte : goal.invariant-loop-byte
invariant-loop-byte l = fold summed l.sum (drop l.byte-index l.bytes) ≡ sum_of l.bytes
