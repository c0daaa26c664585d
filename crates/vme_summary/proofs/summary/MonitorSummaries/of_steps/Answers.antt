-- Each monitor has a table of the steps.
use Rattle.vme_summary.specs.Runs.{known_run, handshake_run, stability_run, grant_run, acknowledge_run}
use Rattle.vme_summary.proofs.summary.MonitorSummaries.of_steps.Goals as goal

pub returns-clause-stands : goal.returns-clause-stands
unfolding known_run handshake_run stability_run grant_run acknowledge_run
returns-clause-stands c =
    record {
      known = c.in_ok-summaries.ensures.known;
      handshake = c.in_ok-summaries.ensures.handshake;
      stability = c.in_ok-summaries.ensures.stability;
      grant = c.in_ok-summaries.ensures.grant;
      acknowledge = c.in_ok-summaries.ensures.acknowledge;
    }
