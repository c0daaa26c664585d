-- Each monitor's state after a segment has the memory in which its run by the segment's table ends, and the first break
-- so far, or else that of this run.
use Rattle.std.proofs.Common.{arith}
use Rattle.vme_monitor.specs.KnownRules.{known_begin, stateless_place}
use Rattle.vme_monitor.specs.OverStretches.{phase_place, opening_phase}
use Rattle.vme_dtb.specs.Machine.{dtb_begin}
use Rattle.vme_dtb.specs.MemoryNumbers.{memory_place}
use Rattle.vme_dtb.specs.HoldingNumbers.{holding_place}
use Rattle.vme_dtb.specs.StabilityRules.{stability_begin}
use Rattle.vme_chains.specs.GrantMemory.{arbitration_place}
use Rattle.vme_chains.specs.GrantRules.{grant_begin}
use Rattle.vme_chains.specs.AcknowledgeRules.{acknowledge_begin, acknowledge_memory_place}
use Rattle.vme_summary.specs.Runs.{known_run, handshake_run, stability_run, grant_run, acknowledge_run}
use Rattle.vme_part_format.specs.Tables.{table_value, segment_value}
use Rattle.vme_parts.proofs.Runs.{IsRun-acknowledge, IsRun-grant, IsRun-handshake, IsRun-known, IsRun-stability}
use Rattle.vme_parts.proofs.StateLemmas.{FitMemories-next, HasState-next}
use Rattle.vme_parts.proofs.state.States.past.Goals as goal

pub past-requires-clause-memory : goal.past-requires-clause-memory
past-requires-clause-memory c = omega (arith, c.requires.fit.known, c.requires.tables.known.counted)

pub past-requires-2-clause-memory : goal.past-requires-2-clause-memory
past-requires-2-clause-memory c = omega (arith, c.requires.fit.handshake, c.requires.tables.handshake.counted)

pub past-requires-3-clause-memory : goal.past-requires-3-clause-memory
past-requires-3-clause-memory c = omega (arith, c.requires.fit.stability, c.requires.tables.stability.counted)

pub past-requires-4-clause-memory : goal.past-requires-4-clause-memory
past-requires-4-clause-memory c = omega (arith, c.requires.fit.grant, c.requires.tables.grant.counted)

pub past-requires-5-clause-memory : goal.past-requires-5-clause-memory
past-requires-5-clause-memory c = omega (arith, c.requires.fit.acknowledge, c.requires.tables.acknowledge.counted)

pub returns-clause-fit : goal.returns-clause-fit
returns-clause-fit c =
    FitMemories-next (segment_value c.args.segment.now) c.requires.tables c.requires.fit c.past.ensures.memory
    c.past-2.ensures.memory c.past-3.ensures.memory c.past-4.ensures.memory c.past-5.ensures.memory

pub returns-clause-found : goal.returns-clause-found
returns-clause-found c =
    λ listing o v x y opens counted fits was agrees.
    record {
      known = HasState-next known_run IsRun-known (opening_phase known_begin) (phase_place stateless_place) listing 4
          (table_value c.args.segment.now.known) c.args.self.now.known c.past.result o v x y c.args.steps
          c.past.ensures.memory c.past.ensures.first_break opens counted fits was.known agrees.known;
      handshake = HasState-next handshake_run IsRun-handshake (opening_phase dtb_begin) (phase_place memory_place)
          listing 147
          (table_value c.args.segment.now.handshake) c.args.self.now.handshake c.past-2.result o v x y c.args.steps
          c.past-2.ensures.memory c.past-2.ensures.first_break opens counted fits was.handshake agrees.handshake;
      stability = HasState-next stability_run IsRun-stability (opening_phase stability_begin)
          (phase_place holding_place) listing 13
          (table_value c.args.segment.now.stability) c.args.self.now.stability c.past-3.result o v x y c.args.steps
          c.past-3.ensures.memory c.past-3.ensures.first_break opens counted fits was.stability agrees.stability;
      grant = HasState-next grant_run IsRun-grant (opening_phase grant_begin) (phase_place arbitration_place) listing 35
          (table_value c.args.segment.now.grant) c.args.self.now.grant c.past-4.result o v x y c.args.steps
          c.past-4.ensures.memory c.past-4.ensures.first_break opens counted fits was.grant agrees.grant;
      acknowledge = HasState-next acknowledge_run IsRun-acknowledge (opening_phase acknowledge_begin)
          (phase_place acknowledge_memory_place) listing 11
          (table_value c.args.segment.now.acknowledge) c.args.self.now.acknowledge c.past-5.result o v x y c.args.steps
          c.past-5.ensures.memory c.past-5.ensures.first_break opens counted fits was.acknowledge agrees.acknowledge;
    }
