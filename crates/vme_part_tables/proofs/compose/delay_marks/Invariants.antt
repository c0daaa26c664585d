-- The loop over marks: those so far are `by` later, and the others are as they were.
use Rattle.std.proofs.Common.{◌≡◌, drop, map, take}
use Rattle.vme_part_tables.specs.Ways.{later_mark}
use Rattle.vme_part_tables.proofs.compose.delay_marks.Given as goal

abbrev pub invariant-loop-mark : goal.invariant-loop-mark
invariant-loop-mark l =
    record {
      done : take l.mark-index l.marks ≡ map (later_mark l.by) (take l.mark-index l.fn.marks);
      rest : drop l.mark-index l.marks ≡ drop l.mark-index l.fn.marks;
    }
