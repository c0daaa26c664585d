-- The loop over the segments: where those that are left, from the file `next` on, follow one another or have a gap, all
-- segments do so from the file 0 on.
use Rattle.std.proofs.Common.{ℕ, drop, map}
use Rattle.vme_part_format.specs.Tables.{segment_value}
use Rattle.vme_parts.specs.Covering.{AreNext, HasGap}
use Rattle.vme_parts.proofs.cover.covered.Given as goal

abbrev pub invariant-loop-segment : goal.invariant-loop-segment
invariant-loop-segment l =
    record {
      next : (end : ℕ) → AreNext l.next (drop l.segment-index (map segment_value l.segments)) end
          → AreNext 0 (map segment_value l.segments) end;
      gap : (k : ℕ) → HasGap l.next (drop l.segment-index (map segment_value l.segments)) k
          → HasGap 0 (map segment_value l.segments) k;
    }
