-- The loop over the bytes of the levels, four lines in each: the levels read so far, before those of the rest, are all
-- levels.
use Rattle.std.proofs.Common.{◌≡◌, ◌-◌, ◌*◌, length, take}
use Rattle.vme_trace.specs.LineNumbers.{line_count}
use Rattle.vme_part_format.specs.Reading.{after_items, packed_at}
use Rattle.vme_part_format.proofs.levels.read_levels.Given as goal

abbrev pub invariant-loop-place : goal.invariant-loop-place
invariant-loop-place l =
    record {
      slots : l.lines.slots ≡ l.slots;
      many : length l.lines.levels ≡ line_count;
      so_far : after_items (take (4 * l.place) l.lines.levels) (packed_at l.slots (4 * l.place) (48 - l.place) l.fields)
          ≡ packed_at l.slots 0 48 l.fn.fields;
    }
