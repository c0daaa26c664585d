-- The tables of one file, one for each of the five monitors. The monitors have 4, 147, 13, 35 and 11 memories (states),
-- and `phase_place` gives the number of a memory.
use Rattle.std.specs.Prelude.{◌≡◌, ℕ, Bool, List, length}
use Rattle.vme_trace.specs.Levels.{Levels}
use Rattle.vme_trace.specs.Trace.{levels_after}
use Rattle.vme_trace.specs.declared.step.Step.{Step}
use Rattle.vme_monitor.specs.KnownRules.{stateless_place}
use Rattle.vme_monitor.specs.OverStretches.{phase_place}
use Rattle.vme_dtb.specs.MemoryNumbers.{memory_place}
use Rattle.vme_dtb.specs.HoldingNumbers.{holding_place}
use Rattle.vme_chains.specs.GrantMemory.{arbitration_place}
use Rattle.vme_chains.specs.AcknowledgeRules.{acknowledge_memory_place}
use Rattle.vme_summary.specs.Runs.{known_run, handshake_run, stability_run, grant_run, acknowledge_run}
use Rattle.vme_part_format.specs.Bounds.{HasNodes}
use Rattle.vme_part_format.specs.Tables.{table_value}
use Rattle.vme_part_tables.specs.Runs.{AgreesWithRuns}
use Rattle.vme_parts.specs.NodeCounts.{HasNodesAtMost, tables_for}
use Rattle.vme_parts.specs.declared.made.FileTables.{FileTables}

-- each of the tables has nodes only if the part has marks (`listing`)
pub record TablesHaveNodes (listing : Bool) (all : FileTables) : Type 0 where
  pub known : HasNodes listing (table_value all.known).nodes
  pub handshake : HasNodes listing (table_value all.handshake).nodes
  pub stability : HasNodes listing (table_value all.stability).nodes
  pub grant : HasNodes listing (table_value all.grant).nodes
  pub acknowledge : HasNodes listing (table_value all.acknowledge).nodes

-- each of the tables has at most k nodes for each of its memories
pub record TablesHaveNodesAtMost (k : ℕ) (all : FileTables) : Type 0 where
  pub known : HasNodesAtMost 4 k (table_value all.known)
  pub handshake : HasNodesAtMost 147 k (table_value all.handshake)
  pub stability : HasNodesAtMost 13 k (table_value all.stability)
  pub grant : HasNodesAtMost 35 k (table_value all.grant)
  pub acknowledge : HasNodesAtMost 11 k (table_value all.acknowledge)

-- each table agrees with the runs of its monitor from each memory p, over the steps x after the opening levels o; the
-- tables have nodes only if the part has marks (`listing`), and not too many for x; and `all.left` is the levels after
-- x
pub record AreTablesOf (listing : Bool) (o : Levels) (x : List Step) (all : FileTables) : Type 0 where
  pub known : AgreesWithRuns listing 4 (phase_place stateless_place) (table_value all.known) (λ p. known_run p o x)
  pub handshake : AgreesWithRuns listing 147 (phase_place memory_place) (table_value all.handshake)
      (λ p. handshake_run p o x)
  pub stability : AgreesWithRuns listing 13 (phase_place holding_place) (table_value all.stability)
      (λ p. stability_run p o x)
  pub grant : AgreesWithRuns listing 35 (phase_place arbitration_place) (table_value all.grant) (λ p. grant_run p o x)
  pub acknowledge : AgreesWithRuns listing 11 (phase_place acknowledge_memory_place) (table_value all.acknowledge)
      (λ p. acknowledge_run p o x)
  pub nodes : TablesHaveNodes listing all
  pub few : TablesHaveNodesAtMost (tables_for (length x)) all
  pub left : all.left ≡ levels_after o x
