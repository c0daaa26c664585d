-- The tables are of the runs without marks, and have no nodes.
use Rattle.std.proofs.Common.{length}
use Rattle.vme_monitor.specs.OverStretches.{observed, phase_place, phase_step}
use Rattle.vme_monitor.specs.Run.{no_end_fault, no_start_marks, no_step_marks}
use Rattle.vme_monitor.specs.KnownRules.{known_begin, known_end_fault, known_next, known_start_marks, known_reset_marks}
use Rattle.vme_monitor.specs.KnownRules.{known_observation, stateless_place}
use Rattle.vme_dtb.specs.Machine.{dtb_begin, dtb_observation, dtb_step}
use Rattle.vme_dtb.specs.MemoryNumbers.{memory_place}
use Rattle.vme_dtb.specs.HoldingNumbers.{holding_place}
use Rattle.vme_dtb.specs.StabilityRules.{stability_begin, stability_next, stability_observation}
use Rattle.vme_chains.specs.GrantMemory.{arbitration_place}
use Rattle.vme_chains.specs.GrantRules.{grant_begin, grant_next, grant_start_marks, grant_observation}
use Rattle.vme_chains.specs.AcknowledgeRules.{acknowledge_begin, acknowledge_next, acknowledge_observation}
use Rattle.vme_chains.specs.AcknowledgeRules.{acknowledge_memory_place}
use Rattle.vme_summary.specs.Runs.{known_run, handshake_run, stability_run, grant_run, acknowledge_run}
use Rattle.vme_part_format.specs.Tables.{table_value}
use Rattle.vme_parts.specs.NodeCounts.{tables_for}
use Rattle.vme_parts.proofs.NodeCounts.{HasNodesAtMost-none}
use Rattle.vme_parts.proofs.Unmarked.{AgreesWithRuns-unmarked_summary}
use Rattle.vme_parts.proofs.made.bare_tables.Goals as goal

pub returns : goal.returns
unfolding known_run handshake_run stability_run grant_run acknowledge_run
returns c =
    let o = c.args.opening.now in
    let x = c.args.steps.now in
    let k = tables_for (length x) in
    let all = c.in_ok-summaries.ensures in
    record {
      known = AgreesWithRuns-unmarked_summary (observed known_observation)
          (phase_step known_begin known_start_marks known_reset_marks known_end_fault known_next) 4
          (phase_place stateless_place) _ _ o x all.known.outcomes c.in_ok-known.ensures.agrees;
      handshake = AgreesWithRuns-unmarked_summary (observed dtb_observation)
          (phase_step dtb_begin no_start_marks no_step_marks no_end_fault dtb_step) 147 (phase_place memory_place) _ _
          o x all.handshake.outcomes c.in_ok-handshake.ensures.agrees;
      stability = AgreesWithRuns-unmarked_summary (observed stability_observation)
          (phase_step stability_begin no_start_marks no_step_marks no_end_fault stability_next) 13
          (phase_place holding_place) _ _ o x all.stability.outcomes c.in_ok-stability.ensures.agrees;
      grant = AgreesWithRuns-unmarked_summary (observed grant_observation)
          (phase_step grant_begin grant_start_marks no_step_marks no_end_fault grant_next) 35
          (phase_place arbitration_place) _ _ o x all.grant.outcomes c.in_ok-grant.ensures.agrees;
      acknowledge = AgreesWithRuns-unmarked_summary (observed acknowledge_observation)
          (phase_step acknowledge_begin no_start_marks no_step_marks no_end_fault acknowledge_next) 11
          (phase_place acknowledge_memory_place) _ _ o x all.acknowledge.outcomes c.in_ok-acknowledge.ensures.agrees;
      nodes = record {
        known = c.in_ok-known.ensures.none;
        handshake = c.in_ok-handshake.ensures.none;
        stability = c.in_ok-stability.ensures.none;
        grant = c.in_ok-grant.ensures.none;
        acknowledge = c.in_ok-acknowledge.ensures.none;
      };
      few = record {
        known = HasNodesAtMost-none 4 k (table_value c.in_ok-known.known) c.in_ok-known.ensures.none;
        handshake = HasNodesAtMost-none 147 k (table_value c.in_ok-handshake.handshake)
            c.in_ok-handshake.ensures.none;
        stability = HasNodesAtMost-none 13 k (table_value c.in_ok-stability.stability)
            c.in_ok-stability.ensures.none;
        grant = HasNodesAtMost-none 35 k (table_value c.in_ok-grant.grant) c.in_ok-grant.ensures.none;
        acknowledge = HasNodesAtMost-none 11 k (table_value c.in_ok-acknowledge.acknowledge)
            c.in_ok-acknowledge.ensures.none;
      };
      left = all.left;
    }
