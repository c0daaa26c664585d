-- The loop over the segments after the first: the state of judging and the runs with their marks are those after the
-- first segment and those so far, and each monitor's memory is one that it has.
use Rattle.std.proofs.Common.{drop, map}
use Rattle.vme_part_format.specs.Tables.{segment_value}
use Rattle.vme_part_listing.specs.Marks.{FitRuns}
use Rattle.vme_parts.specs.Progress.{FitStates}
use Rattle.vme_part_listing.proofs.MarkedFiles.{MarksTo}
use Rattle.vme_part_listing.proofs.listing.marks_from.Given as goal

abbrev pub invariant-loop-segment : goal.invariant-loop-segment
invariant-loop-segment l =
    record {
      fit : FitStates l.judging.states;
      runs : FitRuns l.runs;
      come : MarksTo l.judging l.runs (segment_value l.first) (map segment_value l.rest)
          (drop l.segment-index (map segment_value l.rest));
    }
