-- The loop over marks: those so far are written with numbers of 64 bits.
use Rattle.std.proofs.Common.{◌≡◌, map, take}
use Rattle.vme_part_tables.specs.Runs.{mark_of}
use Rattle.vme_part_tables.proofs.marked.wide_marks.Given as goal

abbrev pub invariant-loop-mark : goal.invariant-loop-mark
invariant-loop-mark l = map mark_of l.all.items ≡ take l.mark-index l.marks
