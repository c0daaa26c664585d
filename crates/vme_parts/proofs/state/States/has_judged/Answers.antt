-- The memory of the monitor `known` has started exactly if something is judged.
use Rattle.std.proofs.Common.{◌∙◌, ap}
use Rattle.vme_monitor.specs.KnownRules.{known_begin, stateless_found, stateless_nth, stateless_place}
use Rattle.vme_monitor.specs.OverStretches.{has_started, phase_nth, opening_phase}
use Rattle.vme_monitor.specs.OverStretchesLaws.{phase_found}
use Rattle.vme_summary.specs.Runs.{known_run}
use Rattle.vme_parts.proofs.state.States.has_judged.Goals as goal

pub returns : goal.returns
unfolding known_run
returns c =
    λ t all.
    let left = (known_run (opening_phase known_begin t.opening) t.opening t.steps).leaving in
    c.started.ensures
    ∙ (ap has_started
    (c.nth.ensures ∙ (ap (phase_nth stateless_nth) all.found.known.leaving
    ∙ phase_found stateless_place stateless_nth stateless_found left))
    ∙ c.known_over_recordings.ensures.started t all.sound all.few)
