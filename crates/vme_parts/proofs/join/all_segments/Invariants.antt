-- The loop over the parts: the segments so far are those of the parts so far.
use Rattle.std.proofs.Common.{◌≡◌, ◌++◌, length, map}
use Rattle.std.specs.Vec.Iter.{into_iter_items, into_iter_len}
use Rattle.vme_part_format.specs.Tables.{part_value, segment_value}
use Rattle.vme_parts.specs.Gathering.{segments_of}
use Rattle.vme_parts.proofs.join.all_segments.Given as goal

abbrev pub invariant-loop-part : goal.invariant-loop-part
invariant-loop-part l =
    record {
      next : (goal.iterator-loop-part).can_next l.part-iterator;
      finite : (goal.iterator-loop-part).is_finite l.part-iterator;
      counted : into_iter_len l.part-iterator ≡ length (into_iter_items l.part-iterator);
      whole : l.yielded ++ into_iter_items l.part-iterator ≡ l.fn.parts.items;
      made : map segment_value l.all.items ≡ segments_of (map part_value l.yielded);
    }
