use Rattle.vme_summary.specs.Runs.{known_run, handshake_run, stability_run, grant_run, acknowledge_run}
use Rattle.vme_parts.proofs.made.marked_tables.Goals as goal

pub returns-clause-tables : goal.returns-clause-tables
unfolding known_run handshake_run stability_run grant_run acknowledge_run
returns-clause-tables c =
    record {
      known = c.in_ok-known.ensures.agrees;
      handshake = c.in_ok-handshake.ensures.agrees;
      stability = c.in_ok-stability.ensures.agrees;
      grant = c.in_ok-grant.ensures.agrees;
      acknowledge = c.in_ok-acknowledge.ensures.agrees;
      nodes = record { known = tt; handshake = tt; stability = tt; grant = tt; acknowledge = tt };
      few = record {
        known = c.in_ok-known.ensures.few;
        handshake = c.in_ok-handshake.ensures.few;
        stability = c.in_ok-stability.ensures.few;
        grant = c.in_ok-grant.ensures.few;
        acknowledge = c.in_ok-acknowledge.ensures.few;
      };
      left = c.lines_after-left.ensures;
    }
