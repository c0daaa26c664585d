-- What a summary stands for: steps after an opening, for all entering memories (states of the monitors' automata).
use Rattle.std.specs.Prelude.{◌≡◌, ◌↔◌, ℕ, ◌≤◌, List, ◌++◌, Option, None}
use Rattle.vme_trace.specs.Levels.{Levels}
use Rattle.vme_trace.specs.Trace.{Trace, levels_after}
use Rattle.vme_trace.specs.Judged.{judged_stretches}
use Rattle.vme_trace.specs.Verdict.{least_of, rules_in_force}
use Rattle.vme_trace.specs.WellFormed.{malformed_step}
use Rattle.vme_trace.specs.declared.step.Step.{Step}
use Rattle.vme_trace.specs.declared.verdict.Break.{Break}
use Rattle.vme_monitor.specs.Outcome.{Outcome, StandsFor}
use Rattle.vme_monitor.specs.WithoutMarks.{FindsFor, stands_finds}
use Rattle.vme_monitor.specs.WholeTables.{table_outcome, table_steps}
use Rattle.vme_monitor.specs.declared.known.Stateless.{Stateless}
use Rattle.vme_monitor.specs.declared.over_stretches.StretchPhase.{StretchPhase}
use Rattle.vme_dtb.specs.declared.memory.HandshakeMemory.{HandshakeMemory}
use Rattle.vme_dtb.specs.declared.holding.Holding.{Holding}
use Rattle.vme_chains.specs.declared.grant_memory.Arbitration.{Arbitration}
use Rattle.vme_chains.specs.declared.acknowledge.AcknowledgeMemory.{AcknowledgeMemory}
use Rattle.vme_summary.specs.Runs.{known_run, handshake_run, stability_run, grant_run, acknowledge_run}
use Rattle.vme_summary.specs.declared.summary.MonitorSummaries.{MonitorSummaries}

-- the outcome of `Known` for a memory, by its table
abbrev pub known_outcome : MonitorSummaries → StretchPhase Stateless → Outcome (StretchPhase Stateless)
known_outcome s p = table_outcome s.known p

-- the outcome of `Dtb` for a memory, by its table
abbrev pub handshake_outcome : MonitorSummaries → StretchPhase HandshakeMemory → Outcome (StretchPhase HandshakeMemory)
handshake_outcome s p = table_outcome s.handshake p

-- the outcome of `Stability` for a memory, by its table
abbrev pub stability_outcome : MonitorSummaries → StretchPhase Holding → Outcome (StretchPhase Holding)
stability_outcome s p = table_outcome s.stability p

-- the outcome of `Grant` for a memory, by its table
abbrev pub grant_outcome : MonitorSummaries → StretchPhase Arbitration → Outcome (StretchPhase Arbitration)
grant_outcome s p = table_outcome s.grant p

-- the outcome of `Iack` for a memory, by its table
abbrev pub acknowledge_outcome : MonitorSummaries → StretchPhase AcknowledgeMemory
    → Outcome (StretchPhase AcknowledgeMemory)
acknowledge_outcome s p = table_outcome s.acknowledge p

-- s stands for the steps x after the opening o: for each entering memory, each table gives the outcome of its monitor's
-- run
pub record SummaryStandsFor (s : MonitorSummaries) (o : Levels) (x : List Step) : Type 0 where
  pub known : StandsFor known_run (known_outcome s) (table_steps s.known) o x
  pub handshake : StandsFor handshake_run (handshake_outcome s) (table_steps s.handshake) o x
  pub stability : StandsFor stability_run (stability_outcome s) (table_steps s.stability) o x
  pub grant : StandsFor grant_run (grant_outcome s) (table_steps s.grant) o x
  pub acknowledge : StandsFor acknowledge_run (acknowledge_outcome s) (table_steps s.acknowledge) o x

-- s finds what the steps x after the opening o do: for each entering memory, each table gives the leaving memory and
-- the first break of its monitor's run
pub record SummaryFindsFor (s : MonitorSummaries) (o : Levels) (x : List Step) : Type 0 where
  pub known : FindsFor known_run (known_outcome s) (table_steps s.known) o x
  pub handshake : FindsFor handshake_run (handshake_outcome s) (table_steps s.handshake) o x
  pub stability : FindsFor stability_run (stability_outcome s) (table_steps s.stability) o x
  pub grant : FindsFor grant_run (grant_outcome s) (table_steps s.grant) o x
  pub acknowledge : FindsFor acknowledge_run (acknowledge_outcome s) (table_steps s.acknowledge) o x

-- a summary that stands for steps finds what they do
pub stands_finds_all : {s : MonitorSummaries} {o : Levels} {x : List Step} → SummaryStandsFor s o x → SummaryFindsFor s
    o x
stands_finds_all p =
    record {
      known = stands_finds p.known;
      handshake = stands_finds p.handshake;
      stability = stands_finds p.stability;
      grant = stands_finds p.grant;
      acknowledge = stands_finds p.acknowledge;
    }

-- how many steps a summary covers
abbrev pub summary_steps : MonitorSummaries → ℕ
summary_steps s = table_steps s.known

-- s and r stand for the same steps
abbrev pub StandAlike : MonitorSummaries → MonitorSummaries → Type 0
StandAlike s r = (o : Levels) (x : List Step) → (SummaryStandsFor s o x ↔ SummaryStandsFor r o x)

-- if s stands for some steps, and t for the steps after them, r stands for the steps of both
abbrev pub SummaryStandsForBoth : MonitorSummaries → MonitorSummaries → MonitorSummaries → Type 0
SummaryStandsForBoth s t r =
    (o : Levels) (x y : List Step)
    → SummaryStandsFor s o x → SummaryStandsFor t (levels_after o x) y → SummaryStandsFor r o (x ++ y)

-- s stands for all steps of the well-formed recording t, whose opening is `opening`
pub record StandsForAll (s : MonitorSummaries) (opening : Levels) (t : Trace) : Type 0 where
  pub sound : malformed_step t ≡ None
  pub few : t.opening.slots ≤ 21
  pub opens : opening ≡ t.opening
  pub stands : SummaryStandsFor s t.opening t.steps

-- the first break of a recording, by the rules in force
abbrev pub first_break_of : Trace → Option Break
first_break_of t = least_of rules_in_force t (judged_stretches t)
