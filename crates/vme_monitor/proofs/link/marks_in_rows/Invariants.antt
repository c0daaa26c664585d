-- The loop over rows: the count is the number of marks of the rows so far, at most 2^64 - 1.
use Rattle.std.proofs.Common.{◌≡◌, ◌-◌, ◌^◌, map, take}
use Rattle.std.specs.Prelude.{min}
use Rattle.std.specs.List.{sum_by}
use Rattle.vme_monitor.specs.Meeting.{row_marks}
use Rattle.vme_monitor.specs.Walk.{outcome_of}
use Rattle.vme_monitor.proofs.link.marks_in_rows.Given as goal

abbrev pub invariant-loop-row : goal.invariant-loop-row
invariant-loop-row g l = l.count ≡ min (sum_by row_marks (map outcome_of (take l.row-index l.rows))) (2 ^ 64 - 1)
