-- The state of judging a recording from its opening on.
use Rattle.std.specs.Prelude.{◌≡◌, ℕ, ◌≤◌, List, [], ◌++◌, length, Option, None, Some}
use Rattle.vme_trace.specs.Levels.{Levels}
use Rattle.vme_trace.specs.Trace.{Trace, levels_after}
use Rattle.vme_trace.specs.WellFormed.{malformed_step}
use Rattle.vme_trace.specs.Blocks.{joined_steps}
use Rattle.vme_trace.specs.declared.block.Block.{Block}
use Rattle.vme_trace.specs.declared.step.Step.{Step}
use Rattle.vme_monitor.specs.Outcome.{Outcome}
use Rattle.vme_monitor.specs.OverStretches.{opening_phase}
use Rattle.vme_monitor.specs.KnownRules.{known_begin}
use Rattle.vme_dtb.specs.Machine.{dtb_begin}
use Rattle.vme_dtb.specs.StabilityRules.{stability_begin}
use Rattle.vme_chains.specs.GrantRules.{grant_begin}
use Rattle.vme_chains.specs.AcknowledgeRules.{acknowledge_begin}
use Rattle.vme_summary.specs.Runs.{known_run, handshake_run, stability_run, grant_run, acknowledge_run}
use Rattle.vme_summary.specs.Summaries.{SummaryFindsFor, SummaryStandsFor}
use Rattle.vme_summary.specs.Extents.{IsExtent}
use Rattle.vme_summary.specs.Stands.{SpanStandsFor}
use Rattle.vme_summary.specs.declared.monitor_states.MonitorStates.{MonitorStates}
use Rattle.vme_summary.specs.declared.chunk_summary.ChunkSummary.{ChunkSummary}
use Rattle.vme_summary.specs.declared.verdict_state.VerdictState.{VerdictState}
use Rattle.vme_summary.specs.declared.listing_state.ListingState.{ListingState}
use Rattle.vme_summary.specs.declared.running_verdict.RunningVerdict.{RunningVerdict}
use Rattle.vme_summary.specs.declared.span.Span.{Span}
use Rattle.vme_summary.specs.declared.summary.MonitorSummaries.{MonitorSummaries}
use Rattle.vme_summary.specs.declared.monitor_states.MonitorState.{MonitorState}

-- `seen` is the state of a monitor that began at the opening o, after the steps x: its memory (the state of its
-- automaton) and the first break that it found
pub record HasMonitorState {P : Type 0}
    (run : P → Levels → List Step → Outcome P) (begin : Levels → P) (seen : MonitorState P) (o : Levels)
    (x : List Step) : Type 0 where
  pub memory : seen.memory ≡ (run (begin o) o x).leaving
  pub first_break : seen.first_break ≡ (run (begin o) o x).first_break

-- `found` has the states of all monitors that began at the opening o, after the steps x
pub record HasFound (found : MonitorStates) (o : Levels) (x : List Step) : Type 0 where
  pub known : HasMonitorState known_run (opening_phase known_begin) found.known o x
  pub handshake : HasMonitorState handshake_run (opening_phase dtb_begin) found.handshake o x
  pub stability : HasMonitorState stability_run (opening_phase stability_begin) found.stability o x
  pub grant : HasMonitorState grant_run (opening_phase grant_begin) found.grant o x
  pub acknowledge : HasMonitorState acknowledge_run (opening_phase acknowledge_begin) found.acknowledge o x

-- `found` has the states of all monitors after all steps of the well-formed recording t
pub record HasFoundAll (found : MonitorStates) (t : Trace) : Type 0 where
  pub sound : malformed_step t ≡ None
  pub few : t.opening.slots ≤ 21
  pub found_there : HasFound found t.opening t.steps

-- if `before` has the states after `steps` steps, and s finds what the next steps do, `found` has the states after all
-- of them
abbrev pub FoundAfter : MonitorStates → ℕ → MonitorSummaries → MonitorStates → Type 0
FoundAfter before steps s found =
    (o : Levels) (x y : List Step)
    → steps ≡ length x → HasFound before o x → SummaryFindsFor s (levels_after o x) y → HasFound found o (x ++ y)

-- j is the state of judging after the steps x after the opening o: the lines that they leave, their number, and what
-- the monitors found
pub record HasJudged (j : VerdictState) (o : Levels) (x : List Step) : Type 0 where
  pub left : j.left ≡ levels_after o x
  pub counted : j.steps ≡ length x
  pub found : HasFound j.found o x

-- j is the summary, without marks, of the steps y after the opening o, which were judged by themselves, and has the
-- lines that they leave
pub record IsFoundOf (j : ChunkSummary) (o : Levels) (y : List Step) : Type 0 where
  pub finds : SummaryFindsFor j.summary o y
  pub left : j.left ≡ levels_after o y

-- a summary stands for the steps x after the opening o; there is none before the first steps
abbrev pub StandsSoFar : Option MonitorSummaries → Levels → List Step → Type 0
StandsSoFar None o x = x ≡ []
StandsSoFar (Some s) o x = SummaryStandsFor s o x

-- m is the state of judging with marks after the steps x after the opening o: the lines that they leave, and one
-- summary of them
pub record HasMarked (m : ListingState) (o : Levels) (x : List Step) : Type 0 where
  pub left : m.left ≡ levels_after o x
  pub stands : StandsSoFar m.summary o x

-- j is the summary, with marks, of the steps y after the opening o, which were judged by themselves, and has the lines
-- that they leave
pub record IsMarkedOf (j : ChunkSummary) (o : Levels) (y : List Step) : Type 0 where
  pub stands : SummaryStandsFor j.summary o y
  pub left : j.left ≡ levels_after o y

-- p is the state of judging after these blocks: their extent, the number of their steps, and what the monitors found of
-- these from the first opening on
pub record HasCome (p : RunningVerdict) (blocks : List Block) : Type 0 where
  pub extent : IsExtent p.extent blocks
  pub steps : p.steps ≡ length (joined_steps blocks)
  pub found : HasFound p.found p.extent.opening (joined_steps blocks)

-- how many steps have been judged
abbrev pub judged_steps : RunningVerdict → ℕ
judged_steps p = p.steps

-- if p is the state after the blocks x, and s stands for the blocks y, q is the state after x and then y
abbrev pub ComesPastBoth : RunningVerdict → Span → RunningVerdict → Type 0
ComesPastBoth p s q = (x y : List Block) → HasCome p x → SpanStandsFor s y → HasCome q (x ++ y)
