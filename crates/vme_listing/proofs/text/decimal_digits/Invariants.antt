-- The digits of `rest`, and then those in the array from `start` on, are the digits of the number.
use Rattle.std.proofs.Common.{◌≡◌, ◌≤◌, ◌++◌, length, drop}
use Rattle.std.specs.Prelude.{decimal}
use Rattle.vme_listing.proofs.text.decimal_digits.Given as goal

abbrev pub invariant-loop-rest : goal.invariant-loop-rest
invariant-loop-rest l =
    (length (decimal l.rest) ≤ l.start) × (l.start ≤ 20) × (length l.digits ≡ 20)
    × (decimal l.rest ++ drop l.start l.digits ≡ decimal l.number)

abbrev pub decreases-loop-rest : goal.decreases-loop-rest
decreases-loop-rest l = l.rest
