-- Each monitor finds its least break.
use Rattle.std.proofs.Common.{◌∙◌, ap}
use Rattle.vme_monitor.specs.BothMonitors.{least}
use Rattle.vme_summary.specs.Runs.{known_run, handshake_run, stability_run, grant_run, acknowledge_run}
use Rattle.vme_summary.proofs.Together.{least_of-monitors}
use Rattle.vme_summary.proofs.monitor_states.MonitorStates.first_break.Goals as goal

pub returns : goal.returns
unfolding known_run handshake_run stability_run grant_run acknowledge_run
returns c =
    λ t all.
    let f = c.args.self.now in
    let found = all.found_there in
    c.least.ensures
    ∙ ap (least f.known.first_break) (c.least-started.ensures ∙ ap (least f.handshake.first_break) (c.least-held.ensures
    ∙ ap (least f.stability.first_break) c.least-chains.ensures))
    ∙ least_of-monitors t _ _ _ _ _ (found.known.first_break ∙ c.known_over_recordings.ensures.first_break t all.sound
    all.few) (found.handshake.first_break ∙ c.handshake_over_recordings.ensures.first_break t all.sound all.few)
    (found.stability.first_break ∙ c.stability_over_recordings.ensures.first_break t all.sound all.few)
    (found.grant.first_break
    ∙ c.grants_over_recordings.ensures.first_break t all.sound all.few)
    (found.acknowledge.first_break ∙ c.acknowledge_over_recordings.ensures.first_break t all.sound all.few)
