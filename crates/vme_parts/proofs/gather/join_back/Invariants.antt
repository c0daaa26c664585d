-- The loop over the segments from the last one back: what was gathered with the segments and `next` as they were is
-- gathered with them as they are, and `next` begins where it did or before. Fewer segments are left after each round.
use Rattle.std.proofs.Common.{List, [], ◌∷◌, ◌++◌, map, vec_len}
use Rattle.std.specs.Prelude.{All}
use Rattle.vme_part_format.specs.Tables.{SegmentValue, segment_value}
use Rattle.vme_parts.specs.Gathering.{Gathered, IsSegment, Precedes}
use Rattle.vme_parts.proofs.gather.join_back.Given as goal

abbrev pub invariant-loop-last : goal.invariant-loop-last
invariant-loop-last l =
    record {
      segments : All IsSegment (map segment_value l.segments.items);
      next : IsSegment (segment_value l.next);
      first : Precedes (segment_value l.next) (segment_value l.fn.next);
      gathered : (done : List SegmentValue)
          → Gathered done (map segment_value l.fn.segments.items ++ segment_value l.fn.next ∷ [])
          → Gathered done (map segment_value l.segments.items ++ segment_value l.next ∷ []);
    }

abbrev pub decreases-loop-last : goal.decreases-loop-last
decreases-loop-last l = vec_len l.segments
