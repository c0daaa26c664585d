-- The loop over the bytes of the levels, four lines in each: what is written, and then the bytes that are left, is all
-- that is to be written.
use Rattle.std.proofs.Common.{◌≡◌, ◌++◌, ◌*◌, drop}
use Rattle.vme_part_format.specs.PartText.{packed, seen_levels}
use Rattle.vme_part_format.proofs.levels.put_levels.Given as goal

abbrev pub invariant-loop-place : goal.invariant-loop-place
invariant-loop-place l =
    l.out.items ++ packed (drop (4 * l.place) (seen_levels l.lines))
    ≡ l.fn.out.items ++ packed (seen_levels l.lines)
