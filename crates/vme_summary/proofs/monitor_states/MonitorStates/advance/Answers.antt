-- Each monitor takes the step from its memory (the state of its automaton).
use Rattle.vme_monitor.specs.OverStretches.{opening_phase}
use Rattle.vme_monitor.specs.KnownRules.{known_begin}
use Rattle.vme_dtb.specs.Machine.{dtb_begin}
use Rattle.vme_dtb.specs.StabilityRules.{stability_begin}
use Rattle.vme_chains.specs.GrantRules.{grant_begin}
use Rattle.vme_chains.specs.AcknowledgeRules.{acknowledge_begin}
use Rattle.vme_summary.specs.Runs.{acknowledge_at, grant_at, handshake_at, known_at, stability_at}
use Rattle.vme_summary.specs.Runs.{known_run, handshake_run, stability_run, grant_run, acknowledge_run}
use Rattle.vme_summary.proofs.Advancing.{HasMonitorState-one_step, seen_in-after}
use Rattle.vme_summary.proofs.monitor_states.MonitorStates.advance.Goals as goal

pub returns : goal.returns
unfolding known_run handshake_run stability_run grant_run acknowledge_run
returns c =
    λ o x led f.
    let step = c.args.step.now in
    let before = c.args.view.now.before in
    let after = c.args.view.now.after in
    let is = c.as_slice-changes.ensures in
    let there = seen_in-after c.args.view.now step.changes c.requires in
    record {
      known = HasMonitorState-one_step known_at (opening_phase known_begin) _ _ o x step before after
          c.args.instant led.levels_are there led.instant_is
          (rw is at c.advance.ensures.memory) (rw is at c.advance.ensures.first_break)
          f.known;
      handshake = HasMonitorState-one_step handshake_at (opening_phase dtb_begin) _ _ o x step before after
          c.args.instant led.levels_are there led.instant_is
          (rw is at c.advance-2.ensures.memory) (rw is at c.advance-2.ensures.first_break)
          f.handshake;
      stability = HasMonitorState-one_step stability_at (opening_phase stability_begin) _ _ o x step before after
          c.args.instant led.levels_are there led.instant_is
          (rw is at c.advance-3.ensures.memory) (rw is at c.advance-3.ensures.first_break)
          f.stability;
      grant = HasMonitorState-one_step grant_at (opening_phase grant_begin) _ _ o x step before after
          c.args.instant led.levels_are there led.instant_is
          (rw is at c.advance-4.ensures.memory) (rw is at c.advance-4.ensures.first_break)
          f.grant;
      acknowledge = HasMonitorState-one_step acknowledge_at (opening_phase acknowledge_begin) _ _ o x step before after
          c.args.instant led.levels_are there led.instant_is
          (rw is at c.advance-5.ensures.memory) (rw is at c.advance-5.ensures.first_break)
          f.acknowledge;
    }
