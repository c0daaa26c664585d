-- The loop over the marks: what is written, and then the bytes of those that are left, is all that is to be written,
-- and the instants of those that are left ascend from the last one so far.
use Rattle.std.proofs.Common.{◌≡◌, ◌++◌, drop}
use Rattle.vme_part_format.specs.Bounds.{AreAscending}
use Rattle.vme_part_format.specs.PartText.{marks_bytes}
use Rattle.vme_part_format.proofs.marks.put_marks.Given as goal

abbrev pub invariant-loop-mark : goal.invariant-loop-mark
invariant-loop-mark l =
    record {
      ascend : AreAscending l.before (drop l.mark-index l.marks);
      put : l.out.items ++ marks_bytes l.before (drop l.mark-index l.marks)
          ≡ l.fn.out.items ++ marks_bytes 0 l.marks;
    }
