-- The loop over the marks: the end of the interval among the marks that are left is its end among all.
use Rattle.std.proofs.Common.{◌≡◌, drop}
use Rattle.vme_summary.specs.Endings.{ends}
use Rattle.vme_summary.specs.MarkedRows.{first_instant}
use Rattle.vme_summary.proofs.rows.IntervalKind.end_among.Given as goal

abbrev pub invariant-loop-mark : goal.invariant-loop-mark
invariant-loop-mark l = first_instant (ends l.self) (drop l.mark-index l.marks) ≡ first_instant (ends l.self) l.marks
