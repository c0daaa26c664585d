-- The loop over marks: those so far are shifted, and the others are as they were.
use Rattle.std.proofs.Common.{◌≡◌, map, take, drop}
use Rattle.vme_monitor.specs.Walk.{later_mark}
use Rattle.vme_monitor.proofs.link.shift_marks.Given as goal

abbrev pub invariant-loop-mark : goal.invariant-loop-mark
invariant-loop-mark l =
    record {
      done : map (λ m. m) (take l.mark-index l.marks) ≡ map (later_mark l.by)
          (map (λ m. m) (take l.mark-index l.fn.marks));
      rest : drop l.mark-index l.marks ≡ drop l.mark-index l.fn.marks;
    }
