-- A run of no steps leaves each memory (state of an automaton) as it is at the opening.
use Rattle.std.proofs.Common.{◌∙◌}
use Rattle.vme_summary.specs.Runs.{known_run, handshake_run, stability_run, grant_run, acknowledge_run}
use Rattle.vme_summary.proofs.monitor_states.MonitorStates.at.Goals as goal

pub returns : goal.returns
unfolding known_run handshake_run stability_run grant_run acknowledge_run
returns c =
    record {
      known = record { memory = c.at.ensures.memory ∙ c.phase_at.ensures; first_break = c.at.ensures.first_break };
      handshake = record {
        memory = c.at-2.ensures.memory ∙ c.phase_at-2.ensures;
        first_break = c.at-2.ensures.first_break;
      };
      stability = record {
        memory = c.at-3.ensures.memory ∙ c.phase_at-3.ensures;
        first_break = c.at-3.ensures.first_break;
      };
      grant = record {
        memory = c.at-4.ensures.memory ∙ c.phase_at-4.ensures;
        first_break = c.at-4.ensures.first_break;
      };
      acknowledge = record {
        memory = c.at-5.ensures.memory ∙ c.phase_at-5.ensures;
        first_break = c.at-5.ensures.first_break;
      };
    }
