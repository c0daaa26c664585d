-- The loop over rows: those so far are in different memories, and these are stamped.
use Rattle.std.proofs.Common.{map, take}
use Rattle.vme_monitor.specs.Meeting.{AreDistinct, memories_in}
use Rattle.vme_monitor.specs.Walk.{outcome_of}
use Rattle.vme_monitor.proofs.LastSeen.{AreStamped}
use Rattle.vme_monitor.proofs.merge.have_merged.Given as goal

abbrev pub invariant-loop-row : goal.invariant-loop-row
invariant-loop-row g l =
    record {
      stamped : AreStamped g.P.Enumerable.place_of l.stamp (memories_in (map outcome_of (take l.row-index l.rows)))
          l.last_seen;
      apart : AreDistinct g.P.Enumerable.place_of (memories_in (map outcome_of (take l.row-index l.rows)));
    }
