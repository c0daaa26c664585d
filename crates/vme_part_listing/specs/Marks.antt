-- The marks of the monitors' runs through segments.
use Rattle.std.specs.Prelude.{◌≡◌, ℕ, ◌^◌, ◌<◌, ◌≤◌, List, length, map, take, Some, true}
use Rattle.vme_trace.specs.Blocks.{joined_steps}
use Rattle.vme_trace.specs.Levels.{Levels}
use Rattle.vme_trace.specs.Trace.{Trace}
use Rattle.vme_trace.specs.declared.block.Block.{Block}
use Rattle.vme_trace.specs.declared.step.Step.{Step}
use Rattle.vme_monitor.specs.BothMonitors.{merged}
use Rattle.vme_monitor.specs.Outcome.{Outcome}
use Rattle.vme_monitor.specs.OverStretches.{phase_place, opening_phase}
use Rattle.vme_monitor.specs.KnownRules.{known_begin, stateless_place}
use Rattle.vme_monitor.specs.declared.mark.Mark.{Mark}
use Rattle.vme_dtb.specs.Machine.{dtb_begin}
use Rattle.vme_dtb.specs.MemoryNumbers.{memory_place}
use Rattle.vme_dtb.specs.HoldingNumbers.{holding_place}
use Rattle.vme_dtb.specs.StabilityRules.{stability_begin}
use Rattle.vme_chains.specs.GrantMemory.{arbitration_place}
use Rattle.vme_chains.specs.GrantRules.{grant_begin}
use Rattle.vme_chains.specs.AcknowledgeRules.{acknowledge_begin, acknowledge_memory_place}
use Rattle.vme_listing.specs.Recorded.{listing_of}
use Rattle.vme_summary.specs.AllShown.{all_marks}
use Rattle.vme_summary.specs.Joins.{BlocksJoin, joined_trace}
use Rattle.vme_summary.specs.declared.extent.Extent.{Extent}
use Rattle.vme_summary.specs.Runs.{known_run, handshake_run, stability_run, grant_run, acknowledge_run}
use Rattle.vme_part_format.specs.Tables.{SegmentValue}
use Rattle.vme_part_tables.specs.Runs.{mark_of}
use Rattle.vme_part_listing.specs.Late.{HasLateMark, IsTooLongToList}
use Rattle.vme_part_listing.specs.declared.answers.ListingAnswer.{ListingAnswer}
use Rattle.vme_part_listing.specs.declared.answers.ListingAnswer.TheVariants as listed
use Rattle.vme_parts.specs.declared.judged_segments.JudgedSegments.{JudgedSegments}
use Rattle.vme_part_listing.specs.declared.listing.MonitorRun.{MonitorRun}
use Rattle.vme_part_listing.specs.declared.listing.MonitorRuns.{MonitorRuns}
use Rattle.vme_parts.specs.Covering.{AreNext}
use Rattle.vme_parts.specs.Files.{AllStand, AreFiles}
use Rattle.vme_parts.specs.Progress.{FoundAll, HasJudgedFiles, FitMemories}

-- w has the run over the steps x of a monitor that begins at the opening o: the memory in which it ends, by its number
-- (`place`), and its marks
pub record HasRun {P : Type 0} (run : P → Levels → List Step → Outcome P) (begin : Levels → P) (place : P → ℕ)
    (w : MonitorRun) (o : Levels) (x : List Step) : Type 0 where
  pub leaving : w.memory ≡ place (run (begin o) o x).leaving
  pub marks : map mark_of w.marks.items ≡ (run (begin o) o x).marks

-- w has the run of each monitor over the steps x, from the opening o
pub record HasMarks (w : MonitorRuns) (o : Levels) (x : List Step) : Type 0 where
  pub known : HasRun known_run (opening_phase known_begin) (phase_place stateless_place) w.known o x
  pub handshake : HasRun handshake_run (opening_phase dtb_begin) (phase_place memory_place) w.handshake o x
  pub stability : HasRun stability_run (opening_phase stability_begin) (phase_place holding_place) w.stability o x
  pub grant : HasRun grant_run (opening_phase grant_begin) (phase_place arbitration_place) w.grant o x
  pub acknowledge : HasRun acknowledge_run (opening_phase acknowledge_begin)
      (phase_place acknowledge_memory_place) w.acknowledge o
      x

-- the runs have memories of their monitors
abbrev pub FitRuns : MonitorRuns → Type 0
FitRuns w = FitMemories w.known.memory w.handshake.memory w.stability.memory w.grant.memory w.acknowledge.memory

-- the marks of all monitors, in order
abbrev pub marks_of_runs : MonitorRuns → List Mark
marks_of_runs w =
    merged (map mark_of w.known.marks.items)
    (merged (map mark_of w.handshake.marks.items)
    (merged (map mark_of w.stability.marks.items)
    (merged (map mark_of w.grant.marks.items) (map mark_of w.acknowledge.marks.items))))

-- whichever files the segments ss stand for, the recording that these make has the opening o and the marks ms
abbrev pub ShowsFiles : Levels → List SegmentValue → List Mark → Type 0
ShowsFiles o ss ms =
    (files : List Block) (end : ℕ) → AreFiles files → AllStand true files ss → AreNext 0 ss end
    → (t : Trace) → joined_trace (take end files) ≡ Some t → t.opening.slots ≤ 21
    → (ms ≡ all_marks t) × (o ≡ t.opening)

-- whichever files the segments ss stand for, if these follow one another and 64 bits count their steps, then a mark of
-- the recording that they make comes too late for a listing
abbrev pub ShowLate : List SegmentValue → Type 0
ShowLate ss =
    (files : List Block) (end : ℕ) → AreFiles files → AllStand true files ss → AreNext 0 ss end
    → (t : Trace) → joined_trace (take end files) ≡ Some t → t.opening.slots ≤ 21 → BlocksJoin (take end files)
    → length (joined_steps (take end files)) < 2 ^ 64 → HasLateMark (all_marks t)

-- whichever files the segments ss stand for, a listing is that of the recording that these make, where j is the state
-- after judging them; or this recording is too long for a listing, and there is no other answer
abbrev pub ListsFiles : JudgedSegments → List SegmentValue → ListingAnswer → Type 0
ListsFiles j ss (listed.Listing l) =
    (files : List Block) (end : ℕ) → AreFiles files → AllStand true files ss → AreNext 0 ss end
    → (t : Trace) → joined_trace (take end files) ≡ Some t → FoundAll j.states t → listing_of t ≡ l
ListsFiles j ss (listed.Refused what) = ⊥
ListsFiles j ss listed.Unmarked = ⊥
ListsFiles j ss listed.TooLong =
    (files : List Block) (end : ℕ) → AreFiles files → AllStand true files ss → AreNext 0 ss end
    → (e : Extent) → HasJudgedFiles j e (take end files)
    → (t : Trace) → joined_trace (take end files) ≡ Some t → FoundAll j.states t → IsTooLongToList t
