-- Each table is that of the steps of both summaries.
use Rattle.vme_summary.specs.Runs.{acknowledge_at, grant_at, handshake_at, known_at, stability_at}
use Rattle.vme_summary.specs.Runs.{known_run, handshake_run, stability_run, grant_run, acknowledge_run}
use Rattle.vme_summary.proofs.Turns.{StandsFor-composed}
use Rattle.vme_summary.proofs.summary.MonitorSummaries.compose.Goals as goal

pub returns-clause-stands : goal.returns-clause-stands
unfolding known_run handshake_run stability_run grant_run acknowledge_run
returns-clause-stands c =
    λ o x y p q.
    record {
      known = StandsFor-composed known_at _ _ _ _ _ _ c.in_ok-known.ensures.outcomes c.in_ok-known.ensures.counted o x y
          p.known q.known;
      handshake = StandsFor-composed handshake_at _ _ _ _ _ _ c.in_ok-handshake.ensures.outcomes
          c.in_ok-handshake.ensures.counted o x y p.handshake q.handshake;
      stability = StandsFor-composed stability_at _ _ _ _ _ _ c.in_ok-stability.ensures.outcomes
          c.in_ok-stability.ensures.counted o x y p.stability q.stability;
      grant = StandsFor-composed grant_at _ _ _ _ _ _ c.in_ok-grant.ensures.outcomes c.in_ok-grant.ensures.counted o x y
          p.grant q.grant;
      acknowledge = StandsFor-composed acknowledge_at _ _ _ _ _ _ c.in_ok-acknowledge.ensures.outcomes
          c.in_ok-acknowledge.ensures.counted o x y p.acknowledge q.acknowledge;
    }
