-- The loop over the marks that are added: those so far were added, `by` later.
use Rattle.std.proofs.Common.{◌≡◌, ◌++◌, map, take}
use Rattle.vme_part_tables.specs.Ways.{later_mark}
use Rattle.vme_part_tables.proofs.ways.put_later_marks.Given as goal

abbrev pub invariant-loop-mark : goal.invariant-loop-mark
invariant-loop-mark l = l.marks.items ≡ l.fn.marks.items ++ map (later_mark l.by) (take l.mark-index l.more)
