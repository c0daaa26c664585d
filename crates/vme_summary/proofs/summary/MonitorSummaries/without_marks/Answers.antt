-- Each monitor has a table of the steps, without marks.
use Rattle.vme_monitor.specs.Run.{no_end_fault, no_start_marks, no_step_marks}
use Rattle.vme_monitor.specs.WithoutMarks.{unmarked_finds}
use Rattle.vme_monitor.specs.OverStretches.{observed, phase_step}
use Rattle.vme_monitor.specs.KnownRules.{known_begin, known_end_fault, known_next, known_start_marks, known_reset_marks}
use Rattle.vme_monitor.specs.KnownRules.{known_observation}
use Rattle.vme_dtb.specs.Machine.{dtb_begin, dtb_observation, dtb_step}
use Rattle.vme_dtb.specs.StabilityRules.{stability_begin, stability_next, stability_observation}
use Rattle.vme_chains.specs.GrantRules.{grant_begin, grant_next, grant_start_marks, grant_observation}
use Rattle.vme_chains.specs.AcknowledgeRules.{acknowledge_begin, acknowledge_next, acknowledge_observation}
use Rattle.vme_summary.specs.Runs.{known_run, handshake_run, stability_run, grant_run, acknowledge_run}
use Rattle.vme_summary.proofs.summary.MonitorSummaries.without_marks.Goals as goal

pub returns-clause-finds : goal.returns-clause-finds
unfolding known_run handshake_run stability_run grant_run acknowledge_run
returns-clause-finds c =
    let all = c.in_ok-summaries.ensures in
    record {
      known = unmarked_finds (observed known_observation)
          (phase_step known_begin known_start_marks known_reset_marks known_end_fault known_next) _ _ _ _ all.known;
      handshake = unmarked_finds (observed dtb_observation)
          (phase_step dtb_begin no_start_marks no_step_marks no_end_fault dtb_step) _ _ _ _ all.handshake;
      stability = unmarked_finds (observed stability_observation)
          (phase_step stability_begin no_start_marks no_step_marks no_end_fault stability_next) _ _ _ _ all.stability;
      grant = unmarked_finds (observed grant_observation)
          (phase_step grant_begin grant_start_marks no_step_marks no_end_fault grant_next) _ _ _ _ all.grant;
      acknowledge = unmarked_finds (observed acknowledge_observation)
          (phase_step acknowledge_begin no_start_marks no_step_marks no_end_fault acknowledge_next) _ _ _ _
          all.acknowledge;
    }
