-- Each table is that of the steps of both summaries.
use Rattle.vme_summary.specs.Runs.{acknowledge_at, grant_at, handshake_at, known_at, stability_at}
use Rattle.vme_summary.specs.Runs.{known_run, handshake_run, stability_run, grant_run, acknowledge_run}
use Rattle.vme_summary.proofs.Turns.{StandsFor-composed}
use Rattle.vme_summary.proofs.summary.MonitorSummaries.append_in.Goals as goal

pub returns-clause-stands : goal.returns-clause-stands
unfolding known_run handshake_run stability_run grant_run acknowledge_run
returns-clause-stands c =
    λ o x y p q.
    record {
      known = StandsFor-composed known_at _ _ _ _ _ _ c.append_in.ensures.outcomes c.append_in.ensures.counted o x y
          p.known q.known;
      handshake = StandsFor-composed handshake_at _ _ _ _ _ _ c.append_in-2.ensures.outcomes
          c.append_in-2.ensures.counted o x y p.handshake q.handshake;
      stability = StandsFor-composed stability_at _ _ _ _ _ _ c.append_in-3.ensures.outcomes
          c.append_in-3.ensures.counted o x y p.stability q.stability;
      grant = StandsFor-composed grant_at _ _ _ _ _ _ c.append_in-4.ensures.outcomes c.append_in-4.ensures.counted o x y
          p.grant q.grant;
      acknowledge = StandsFor-composed acknowledge_at _ _ _ _ _ _ c.append_in-5.ensures.outcomes
          c.append_in-5.ensures.counted o x y p.acknowledge q.acknowledge;
    }
