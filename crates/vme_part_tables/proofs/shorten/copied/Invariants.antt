-- The loop over marks: those so far are copied.
use Rattle.std.proofs.Common.{◌≡◌, take}
use Rattle.vme_part_tables.proofs.shorten.copied.Given as goal

abbrev pub invariant-loop-mark : goal.invariant-loop-mark
invariant-loop-mark l = l.all.items ≡ take l.mark-index l.marks
