-- The loop over the segments in order: those so far are gathered, and the last of the gathered ones precedes each that
-- is left.
use Rattle.std.proofs.Common.{◌≡◌, ◌++◌, length, map}
use Rattle.std.specs.Prelude.{All, IfSome, None}
use Rattle.std.specs.List.{last_or}
use Rattle.std.specs.Vec.Iter.{into_iter_items, into_iter_len}
use Rattle.vme_part_format.specs.Tables.{segment_value}
use Rattle.vme_parts.specs.Gathering.{Gathered, IsSegment, Precedes}
use Rattle.vme_parts.proofs.gather.gather.Given as goal

abbrev pub invariant-loop-segment : goal.invariant-loop-segment
invariant-loop-segment l =
    record {
      next : (goal.iterator-loop-segment).can_next l.segment-iterator;
      finite : (goal.iterator-loop-segment).is_finite l.segment-iterator;
      counted : into_iter_len l.segment-iterator ≡ length (into_iter_items l.segment-iterator);
      all : l.yielded ++ into_iter_items l.segment-iterator ≡ l.fn.all.items;
      segments : All IsSegment (map segment_value l.segments.items);
      order : IfSome (last_or None (map segment_value l.segments.items))
          (λ last. All (Precedes last) (map segment_value (into_iter_items l.segment-iterator)));
      gathered : Gathered (map segment_value l.yielded) (map segment_value l.segments.items);
    }
