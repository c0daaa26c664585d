-- The states of the monitors after segments.
use Rattle.std.specs.Prelude.{◌≡◌, ℕ, ◌+◌, ◌^◌, ◌<◌, ◌≤◌, Bool, false, List, [], ◌∷◌, ◌++◌, length, None}
use Rattle.vme_trace.specs.Blocks.{joined_steps}
use Rattle.vme_trace.specs.Levels.{Levels}
use Rattle.vme_trace.specs.Trace.{Trace, levels_after}
use Rattle.vme_trace.specs.WellFormed.{malformed_step}
use Rattle.vme_trace.specs.declared.block.Block.{Block}
use Rattle.vme_trace.specs.declared.step.Step.{Step}
use Rattle.vme_monitor.specs.Outcome.{Outcome}
use Rattle.vme_monitor.specs.OverStretches.{phase_place, opening_phase}
use Rattle.vme_monitor.specs.KnownRules.{known_begin, stateless_place}
use Rattle.vme_dtb.specs.Machine.{dtb_begin}
use Rattle.vme_dtb.specs.MemoryNumbers.{memory_place}
use Rattle.vme_dtb.specs.HoldingNumbers.{holding_place}
use Rattle.vme_dtb.specs.StabilityRules.{stability_begin}
use Rattle.vme_chains.specs.GrantMemory.{arbitration_place}
use Rattle.vme_chains.specs.GrantRules.{grant_begin}
use Rattle.vme_chains.specs.AcknowledgeRules.{acknowledge_begin, acknowledge_memory_place}
use Rattle.vme_summary.specs.Extents.{IsExtent, joined_extent}
use Rattle.vme_summary.specs.Joins.{BlocksJoin}
use Rattle.vme_summary.specs.Runs.{known_run, handshake_run, stability_run, grant_run, acknowledge_run}
use Rattle.vme_summary.specs.declared.extent.Extent.{Extent}
use Rattle.vme_part_format.specs.Tables.{SegmentValue}
use Rattle.vme_part_tables.specs.Runs.{AgreesWithRun, AgreesWithRuns}
use Rattle.vme_part_tables.specs.Ways.{WideOutcome}
use Rattle.vme_parts.specs.Meeting.{ends_at, starts_at}
use Rattle.vme_parts.specs.Stands.{SegmentStandsFor, extent_of}
use Rattle.vme_parts.specs.declared.judged_segments.JudgedSegments.{JudgedSegments}
use Rattle.vme_parts.specs.declared.judged_segments.JudgingFault.{JudgingFault}
use Rattle.vme_parts.specs.declared.judged_segments.JudgingFault.TheVariants as stop
use Rattle.vme_parts.specs.declared.state.State.{State}
use Rattle.vme_parts.specs.declared.state.States.{States}

-- a monitor's state as an outcome without marks
abbrev pub way_of : State → WideOutcome
way_of s = record { leaving = s.memory; first_break = s.first_break; marks = [] }

-- s is the state, after the steps x, of a monitor that began at the opening o
abbrev pub HasState : {P : Type 0} → (P → Levels → List Step → Outcome P) → (Levels → P) → (P → ℕ) → State → Levels
    → List Step → Type 0
HasState run begin place s o x = AgreesWithRun false place (way_of s) (run (begin o) o x)

-- s has the state of each monitor after the steps x, from the opening o
pub record HasStates (s : States) (o : Levels) (x : List Step) : Type 0 where
  pub known : HasState known_run (opening_phase known_begin) (phase_place stateless_place) s.known o x
  pub handshake : HasState handshake_run (opening_phase dtb_begin) (phase_place memory_place) s.handshake o x
  pub stability : HasState stability_run (opening_phase stability_begin) (phase_place holding_place) s.stability o x
  pub grant : HasState grant_run (opening_phase grant_begin) (phase_place arbitration_place) s.grant o x
  pub acknowledge : HasState acknowledge_run (opening_phase acknowledge_begin)
      (phase_place acknowledge_memory_place) s.acknowledge
      o x

-- s has the state of each monitor after all steps of t, a well-formed recording of at most 21 slots
pub record FoundAll (s : States) (t : Trace) : Type 0 where
  pub sound : malformed_step t ≡ None
  pub few : t.opening.slots ≤ 21
  pub found : HasStates s t.opening t.steps

-- each number is that of a memory of its monitor, i.e. below the number of the monitor's memories
pub record FitMemories (k h b g a : ℕ) : Type 0 where
  pub known : k < 4
  pub handshake : h < 147
  pub stability : b < 13
  pub grant : g < 35
  pub acknowledge : a < 11

-- the states have memories of their monitors
abbrev pub FitStates : States → Type 0
FitStates s =
    FitMemories s.known.memory s.handshake.memory s.stability.memory s.grant.memory s.acknowledge.memory

-- the tables of s agree with the monitors' runs over the steps y from the levels v
pub record TellsAll (listing : Bool) (s : SegmentValue) (v : Levels) (y : List Step) : Type 0 where
  pub known : AgreesWithRuns listing 4 (phase_place stateless_place) s.known (λ p. known_run p v y)
  pub handshake : AgreesWithRuns listing 147 (phase_place memory_place) s.handshake (λ p. handshake_run p v y)
  pub stability : AgreesWithRuns listing 13 (phase_place holding_place) s.stability (λ p. stability_run p v y)
  pub grant : AgreesWithRuns listing 35 (phase_place arbitration_place) s.grant (λ p. grant_run p v y)
  pub acknowledge : AgreesWithRuns listing 11 (phase_place acknowledge_memory_place) s.acknowledge
      (λ p. acknowledge_run p v y)

-- if the monitors have the states `old` after `steps` steps, and the tables of s agree with the steps after these, then
-- the monitors have the states `new` after both
abbrev pub HasStatesAfter : States → States → SegmentValue → ℕ → Type 0
HasStatesAfter old new s steps =
    (listing : Bool) (o v : Levels) (x y : List Step) → v ≡ levels_after o x → steps ≡ length x
    → length x + length y < 2 ^ 64 → HasStates old o x → TellsAll listing s v y → HasStates new o (x ++ y)

-- j is the state after judging the files bs, which follow one another and have the extent e
pub record HasJudgedFiles (j : JudgedSegments) (e : Extent) (bs : List Block) : Type 0 where
  pub extent : IsExtent e bs
  pub left : j.left ≡ e.left
  pub starts : starts_at j.times ≡ e.starts
  pub ends : ends_at j.times ≡ e.ends
  pub counted : j.steps ≡ length (joined_steps bs)
  pub found : HasStates j.states e.opening (joined_steps bs)

-- if the files of s come next after those that were judged in `old`, then in `new` they are judged too
abbrev pub HasJudgedNext : JudgedSegments → JudgedSegments → SegmentValue → Type 0
HasJudgedNext old new s =
    (listing : Bool) (e : Extent) (bs ys : List Block) → HasJudgedFiles old e bs → SegmentStandsFor listing s ys
    → s.first ≡ e.last + 1 → HasJudgedFiles new (joined_extent e (extent_of s)) (bs ++ ys)

-- of the files ys after bs, the file k is the first that doesn't follow those before it
pub record IsTornIn (bs ys : List Block) (k : ℕ) : Type 0 where
  pub front : List Block
  pub torn : Block
  pub back : List Block
  pub parts : ys ≡ front ++ torn ∷ back
  pub numbered : torn.number ≡ k
  pub before : BlocksJoin (bs ++ front)
  pub there : BlocksJoin ((bs ++ front) ++ torn ∷ []) → ⊥

-- the files follow one another, and have more steps than 64 bits count
abbrev pub HaveTooManySteps : List Block → Type 0
HaveTooManySteps bs = BlocksJoin bs × (2 ^ 64 ≤ length (joined_steps bs))

-- why judging stops at the files ys, after bs
abbrev pub StopsAt : List Block → List Block → JudgingFault → Type 0
StopsAt bs ys (stop.Torn k) = IsTornIn bs ys k
StopsAt bs ys stop.TooManySteps = HaveTooManySteps (bs ++ ys)
