-- The loop over the segments after the first: the state is the one after judging the first and those so far, and each
-- monitor's memory is one that it has.
use Rattle.std.proofs.Common.{drop, map}
use Rattle.vme_part_format.specs.Tables.{segment_value}
use Rattle.vme_parts.specs.Progress.{FitStates}
use Rattle.vme_parts.proofs.ToldFiles.{ComesTo}
use Rattle.vme_parts.proofs.tell.judge_from.Given as goal

abbrev pub invariant-loop-segment : goal.invariant-loop-segment
invariant-loop-segment l =
    record {
      fit : FitStates l.judging.states;
      come : ComesTo l.judging (segment_value l.first) (map segment_value l.rest)
          (drop l.segment-index (map segment_value l.rest));
    }
