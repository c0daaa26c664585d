-- The run of each monitor goes on by the segment's table, from the memory in which it is, and its marks are added.
use Rattle.std.proofs.Common.{arith}
use Rattle.vme_monitor.specs.KnownRules.{known_begin, stateless_place}
use Rattle.vme_monitor.specs.OverStretches.{phase_place, opening_phase}
use Rattle.vme_dtb.specs.Machine.{dtb_begin}
use Rattle.vme_dtb.specs.MemoryNumbers.{memory_place}
use Rattle.vme_dtb.specs.HoldingNumbers.{holding_place}
use Rattle.vme_dtb.specs.StabilityRules.{stability_begin}
use Rattle.vme_chains.specs.GrantMemory.{arbitration_place}
use Rattle.vme_chains.specs.GrantRules.{grant_begin}
use Rattle.vme_chains.specs.AcknowledgeRules.{acknowledge_begin, acknowledge_memory_place}
use Rattle.vme_summary.specs.Runs.{known_run, handshake_run, stability_run, grant_run, acknowledge_run}
use Rattle.vme_part_format.specs.Tables.{table_value, segment_value}
use Rattle.vme_part_listing.proofs.MarkedRuns.{HasRun-next}
use Rattle.vme_parts.proofs.Runs.{IsRun-acknowledge, IsRun-grant, IsRun-handshake, IsRun-known, IsRun-stability}
use Rattle.vme_parts.proofs.StateLemmas.{FitMemories-next}
use Rattle.vme_part_listing.proofs.listing.MonitorRuns.go_past.Goals as goal

pub go_past-requires-clause-memory : goal.go_past-requires-clause-memory
go_past-requires-clause-memory c = omega (arith, c.requires.fit.known, c.requires.tables.known.counted)

pub go_past-requires-2-clause-memory : goal.go_past-requires-2-clause-memory
go_past-requires-2-clause-memory c = omega (arith, c.requires.fit.handshake, c.requires.tables.handshake.counted)

pub go_past-requires-3-clause-memory : goal.go_past-requires-3-clause-memory
go_past-requires-3-clause-memory c = omega (arith, c.requires.fit.stability, c.requires.tables.stability.counted)

pub go_past-requires-4-clause-memory : goal.go_past-requires-4-clause-memory
go_past-requires-4-clause-memory c = omega (arith, c.requires.fit.grant, c.requires.tables.grant.counted)

pub go_past-requires-5-clause-memory : goal.go_past-requires-5-clause-memory
go_past-requires-5-clause-memory c = omega (arith, c.requires.fit.acknowledge, c.requires.tables.acknowledge.counted)

pub returns-clause-fit : goal.returns-clause-fit
returns-clause-fit c =
    FitMemories-next (segment_value c.args.segment.now) c.requires.tables c.requires.fit c.in_ok-go_past.ensures.memory
    c.in_ok-go_past-2.ensures.memory c.in_ok-go_past-3.ensures.memory c.in_ok-go_past-4.ensures.memory
    c.in_ok-go_past-5.ensures.memory

pub returns-clause-shows : goal.returns-clause-shows
returns-clause-shows c =
    λ o v x y opens counted fits was agrees.
    record {
      known = HasRun-next known_run IsRun-known (opening_phase known_begin) (phase_place stateless_place) 4
          (table_value c.args.segment.now.known) c.args.self.now.known c.go_past.new.self o v x y c.args.steps
          c.in_ok-go_past.ensures.memory c.in_ok-go_past.ensures.marks opens counted fits was.known agrees.known;
      handshake = HasRun-next handshake_run IsRun-handshake (opening_phase dtb_begin) (phase_place memory_place) 147
          (table_value c.args.segment.now.handshake) c.args.self.now.handshake c.go_past-2.new.self o v x y c.args.steps
          c.in_ok-go_past-2.ensures.memory c.in_ok-go_past-2.ensures.marks opens counted fits was.handshake
          agrees.handshake;
      stability = HasRun-next stability_run IsRun-stability (opening_phase stability_begin)
          (phase_place holding_place) 13 (table_value c.args.segment.now.stability) c.args.self.now.stability
          c.go_past-3.new.self o v x y c.args.steps
          c.in_ok-go_past-3.ensures.memory c.in_ok-go_past-3.ensures.marks opens counted fits was.stability
          agrees.stability;
      grant = HasRun-next grant_run IsRun-grant (opening_phase grant_begin) (phase_place arbitration_place) 35
          (table_value c.args.segment.now.grant) c.args.self.now.grant c.go_past-4.new.self o v x y c.args.steps
          c.in_ok-go_past-4.ensures.memory c.in_ok-go_past-4.ensures.marks opens counted fits was.grant agrees.grant;
      acknowledge = HasRun-next acknowledge_run IsRun-acknowledge (opening_phase acknowledge_begin)
          (phase_place acknowledge_memory_place) 11
          (table_value c.args.segment.now.acknowledge) c.args.self.now.acknowledge c.go_past-5.new.self o v x y
          c.args.steps
          c.in_ok-go_past-5.ensures.memory c.in_ok-go_past-5.ensures.marks opens counted fits was.acknowledge
          agrees.acknowledge;
    }
