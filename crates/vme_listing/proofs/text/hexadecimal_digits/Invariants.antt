-- The digits of `rest`, and then those in the array from `start` on, are the digits of the number.
use Rattle.std.proofs.Common.{◌≡◌, ◌≤◌, ◌++◌, length, drop}
use Rattle.vme_listing.specs.RowText.{hexadecimal}
use Rattle.vme_listing.proofs.text.hexadecimal_digits.Given as goal

abbrev pub invariant-loop-start : goal.invariant-loop-start
invariant-loop-start l =
    (l.start ≤ 8) × (length l.glyphs ≡ 8)
    × (hexadecimal l.start l.rest ++ drop l.start l.glyphs ≡ hexadecimal 8 l.number)

abbrev pub decreases-loop-start : goal.decreases-loop-start
decreases-loop-start l = l.start
