-- The leaving memory (state of the automaton) has started exactly if something is judged.
use Rattle.std.proofs.Common.{◌∙◌, ap}
use Rattle.vme_monitor.specs.OverStretches.{has_started}
use Rattle.vme_summary.specs.Runs.{known_run}
use Rattle.vme_summary.proofs.monitor_states.MonitorStates.has_judged.Goals as goal

pub returns : goal.returns
unfolding known_run
returns c = λ t all. c.started.ensures ∙ ap has_started all.found_there.known.memory
    ∙ c.known_over_recordings.ensures.started t all.sound all.few
