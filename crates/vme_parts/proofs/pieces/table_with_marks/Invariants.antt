-- The loop over pieces of the steps: the levels are those after the steps done, and the table, with its marks, agrees
-- with the monitor's runs over these, and has few nodes. Fewer steps are left after each round.
use Rattle.std.proofs.Common.{◌≡◌, ◌-◌, ◌≤◌, length, take, true}
use Rattle.vme_trace.specs.Trace.{levels_after}
use Rattle.vme_part_format.specs.Tables.{table_value}
use Rattle.vme_part_tables.specs.Runs.{AgreesWithRuns}
use Rattle.vme_parts.proofs.NodeCounts.{HasPieces}
use Rattle.vme_parts.proofs.pieces.table_with_marks.Given as goal

abbrev pub invariant-loop-done : goal.invariant-loop-done
invariant-loop-done g l =
    record {
      within : l.done ≤ length l.steps;
      lines : l.lines ≡ levels_after l.opening (take l.done l.steps);
      agrees : AgreesWithRuns true g.M.Finite.COUNT g.M.Finite.place_of (table_value l.table)
          (λ p. g.M.Monitor.run p l.opening (take l.done l.steps));
      few : HasPieces g.M.Finite.COUNT l.done (length l.steps) (table_value l.table);
    }

abbrev pub decreases-loop-done : goal.decreases-loop-done
decreases-loop-done g l = length l.steps - l.done
