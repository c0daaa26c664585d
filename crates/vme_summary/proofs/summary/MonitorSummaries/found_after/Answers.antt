-- Each monitor continues from its memory (the state of its automaton).
use Rattle.vme_monitor.specs.OverStretches.{opening_phase}
use Rattle.vme_monitor.specs.KnownRules.{known_begin}
use Rattle.vme_dtb.specs.Machine.{dtb_begin}
use Rattle.vme_dtb.specs.StabilityRules.{stability_begin}
use Rattle.vme_chains.specs.GrantRules.{grant_begin}
use Rattle.vme_chains.specs.AcknowledgeRules.{acknowledge_begin}
use Rattle.vme_summary.specs.Runs.{acknowledge_at, grant_at, handshake_at, known_at, stability_at}
use Rattle.vme_summary.specs.Runs.{known_run, handshake_run, stability_run, grant_run, acknowledge_run}
use Rattle.vme_summary.proofs.Progressing.{HasMonitorState-append}
use Rattle.vme_summary.proofs.summary.MonitorSummaries.found_after.Goals as goal

pub returns : goal.returns
unfolding known_run handshake_run stability_run grant_run acknowledge_run
returns c =
    λ o x y long f says.
    record {
      known = HasMonitorState-append known_at (opening_phase known_begin) _ _ _ _ _ o x y c.after.ensures.memory
          c.after.ensures.first_break long f.known says.known;
      handshake = HasMonitorState-append handshake_at (opening_phase dtb_begin) _ _ _ _ _ o x y c.after-2.ensures.memory
          c.after-2.ensures.first_break long f.handshake says.handshake;
      stability = HasMonitorState-append stability_at (opening_phase stability_begin) _ _ _ _ _ o x y
          c.after-3.ensures.memory c.after-3.ensures.first_break long f.stability says.stability;
      grant = HasMonitorState-append grant_at (opening_phase grant_begin) _ _ _ _ _ o x y c.after-4.ensures.memory
          c.after-4.ensures.first_break long f.grant says.grant;
      acknowledge = HasMonitorState-append acknowledge_at (opening_phase acknowledge_begin) _ _ _ _ _ o x y
          c.after-5.ensures.memory c.after-5.ensures.first_break long f.acknowledge says.acknowledge;
    }
