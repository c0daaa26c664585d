-- What a part of a recording answers about it.
use Rattle.std.specs.Prelude.{◌≡◌, ℕ, ◌+◌, ◌-◌, ◌<◌, ◌≤◌, ◌⊎◌, Bool, List, take, Option, None, Some}
use Rattle.std.specs.Prelude.{Err, Ok, Result, option_map, slice_get}
use Rattle.vme_trace.specs.Verdict.{rules_in_force, verdict_by}
use Rattle.vme_trace.specs.Trace.{Trace}
use Rattle.vme_trace.specs.declared.block.Block.{Block}
use Rattle.vme_trace.specs.declared.verdict.Verdict.{Verdict}
use Rattle.vme_trace.specs.declared.verdict.Verdict.TheVariants as verdict
use Rattle.vme_summary.specs.Joins.{BlocksJoin, joined_trace}
use Rattle.vme_summary.specs.declared.extent.Extent.{Extent}
use Rattle.vme_part_format.specs.Tables.{PartValue, SegmentValue}
use Rattle.vme_parts.specs.declared.answers.RecordingAnswer.{RecordingAnswer}
use Rattle.vme_parts.specs.declared.answers.RecordingAnswer.TheVariants as answer
use Rattle.vme_parts.specs.declared.answers.WideVerdict.{WideVerdict}
use Rattle.vme_parts.specs.declared.answers.WideVerdict.TheVariants as wide
use Rattle.vme_parts.specs.declared.judged_segments.JudgedSegments.{JudgedSegments}
use Rattle.vme_parts.specs.declared.judged_segments.JudgingFault.{JudgingFault}
use Rattle.vme_parts.specs.declared.judged_segments.JudgingFault.TheVariants as stop
use Rattle.vme_parts.specs.Covering.{AreNext}
use Rattle.vme_parts.specs.Files.{AllStand, AreFiles, PartCovers, IsPartOf}
use Rattle.vme_parts.specs.Progress.{HasJudgedFiles, HaveTooManySteps}
use Rattle.vme_part_tables.specs.Runs.{break_of}

-- a verdict whose numbers have 64 bits as one of the definitions
abbrev pub verdict_of : WideVerdict → Verdict
verdict_of wide.Conforming = verdict.Conforming
verdict_of (wide.Broken b) = verdict.Broken (break_of b)
verdict_of (wide.Unreadable b) = verdict.Unreadable (break_of b)
verdict_of wide.NeverIdle = verdict.NeverIdle

-- all numbers below n are covered
abbrev pub AllCovered : PartValue → ℕ → Type 0
AllCovered p n = (k : ℕ) → k < n → PartCovers p k

-- the part covers a number that isn't below n
abbrev pub CoversFrom : PartValue → ℕ → Type 0
CoversFrom p n = (k : ℕ) × (n ≤ k) × PartCovers p k

-- the recording has n files, at least 1: as many as are given, or else those up to the last that is covered
abbrev pub HasFiles : PartValue → Option ℕ → ℕ → Type 0
HasFiles p None n = (0 < n) × (CoversFrom p n → ⊥) × ((n ≡ 1) ⊎ PartCovers p (n - 1))
HasFiles p (Some count) n = (0 < n) × (n ≡ count)

-- n is the least number that isn't covered
pub record IsMissing (p : PartValue) (n : ℕ) : Type 0 where
  pub before : AllCovered p n
  pub there : PartCovers p n → ⊥

-- n is the least file that doesn't follow those before it
pub record IsTornFile (files : List Block) (n : ℕ) : Type 0 where
  pub before : BlocksJoin (take n files)
  pub there : BlocksJoin (take (n + 1) files) → ⊥

-- some of the n files, the first ones, follow one another and have too many steps
abbrev pub HasTooManySteps : List Block → ℕ → Type 0
HasTooManySteps files n = (k : ℕ) × (k ≤ n) × HaveTooManySteps (take k files)

-- v is the verdict on the recording that the files make
abbrev pub IsVerdictOfFiles : List Block → Verdict → Type 0
IsVerdictOfFiles files v =
    BlocksJoin files × ((t : Trace) → joined_trace files ≡ Some t → verdict_by rules_in_force t ≡ v)

-- when an answer is true of a recording of n files
abbrev pub IsRecordingAnswer : List Block → PartValue → ℕ → RecordingAnswer → Type 0
IsRecordingAnswer files p n (answer.Beyond k) = PartCovers p k × (n ≤ k)
IsRecordingAnswer files p n (answer.Missing k) = IsMissing p k × (k < n)
IsRecordingAnswer files p n (answer.Torn k) = AllCovered p n × IsTornFile files k × (k < n)
IsRecordingAnswer files p n answer.TooManySteps = AllCovered p n × HasTooManySteps files n
IsRecordingAnswer files p n (answer.Verdict v) = AllCovered p n × IsVerdictOfFiles (take n files) (verdict_of v)

-- whichever files p is a part of, the answer `what` is true of them
abbrev pub DeterminesRecordingAnswer : PartValue → Option ℕ → RecordingAnswer → Type 0
DeterminesRecordingAnswer p count what =
    (files : List Block) (n : ℕ) → AreFiles files → IsPartOf files p → HasFiles p count n
    → IsRecordingAnswer files p n what

-- the answer where judging stops
abbrev pub answer_of : JudgingFault → RecordingAnswer
answer_of (stop.Torn k) = answer.Torn k
answer_of stop.TooManySteps = answer.TooManySteps

-- the result of judging all segments ss, or why it stops, whichever files they stand for
abbrev pub JudgesAll : List SegmentValue → Result JudgedSegments JudgingFault → Type 0
JudgesAll ss (Ok j) =
    (listing : Bool) (files : List Block) (end : ℕ) → AreFiles files → AllStand listing files ss → AreNext 0 ss end
    → (e : Extent) × HasJudgedFiles j e (take end files) ×
    (option_map (λ (s : SegmentValue). s.opening) (slice_get ss 0)
    ≡ Some e.opening)
JudgesAll ss (Err (stop.Torn k)) =
    (listing : Bool) (files : List Block) (end : ℕ) → AreFiles files → AllStand listing files ss → AreNext 0 ss end
    → IsTornFile files k × (k < end)
JudgesAll ss (Err stop.TooManySteps) =
    (listing : Bool) (files : List Block) (end : ℕ) → AreFiles files → AllStand listing files ss → AreNext 0 ss end
    → HasTooManySteps files end

-- the result of judging all files of a recording, or the answer in place of a verdict
abbrev pub JudgesFiles : PartValue → Option ℕ → Result JudgedSegments RecordingAnswer → Type 0
JudgesFiles p count (Ok j) =
    (files : List Block) (n : ℕ) → AreFiles files → IsPartOf files p → HasFiles p count n
    → AllCovered p n × AreNext 0 p.segments n × ((e : Extent) × HasJudgedFiles j e (take n files)
    × (e.opening.slots ≤ 21))
JudgesFiles p count (Err what) =
    (files : List Block) (n : ℕ) → AreFiles files → IsPartOf files p → HasFiles p count n
    → IsRecordingAnswer files p n what
