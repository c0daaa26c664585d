-- The loop over rows: those so far are shifted, and the others are as they were.
use Rattle.std.proofs.Common.{◌≡◌, map, take, drop}
use Rattle.vme_monitor.specs.Walk.{later_outcome, outcome_of}
use Rattle.vme_monitor.proofs.link.shift_rows.Given as goal

abbrev pub invariant-loop-row : goal.invariant-loop-row
invariant-loop-row g l =
    record {
      done : map outcome_of (take l.row-index l.rows) ≡ map (later_outcome l.by)
          (map outcome_of (take l.row-index l.fn.rows));
      rest : drop l.row-index l.rows ≡ drop l.row-index l.fn.rows;
    }
