-- How far the steps of a dump that is a file are judged.
use Rattle.std.specs.Prelude.{◌≡◌, ℕ, ◌*◌, ◌≤◌, Bool, List, length, Option, None, Result, Ok, Err}
use Rattle.vme_trace.specs.Followed.{with_steps}
use Rattle.vme_trace.specs.Trace.{Trace}
use Rattle.vme_trace.specs.WellFormed.{capture_limit, malformed_step}
use Rattle.vme_trace.specs.declared.step.Step.{Step}
use Rattle.vme_bind.specs.Capture.{limited}
use Rattle.vme_stream.specs.Answers.{AnswerGives, or_bad_binding}
use Rattle.vme_part_format.specs.Bounds.{FitsPart}
use Rattle.vme_part_format.specs.Sizes.{IsCompactPart}
use Rattle.vme_part_format.specs.Tables.{part_value}
use Rattle.vme_part_format.specs.declared.part.Part.{Part}
use Rattle.vme_parts.specs.Files.{IsPartOfFile}
use Rattle.vme_file_part.specs.Growing.{FileHasNodesAtMost, IsFileSoFar}
use Rattle.vme_file_part.specs.FileOf.{file_of}
use Rattle.vme_file_part.specs.declared.file_so_far.FileSoFar.{FileSoFar}
use Rattle.vme_step_reader.specs.StepReading.{StepReading}
use Rattle.vme_dump_input.specs.DumpBeginnings.{IsSound}
use Rattle.vme_dump_input.specs.StepCounts.{IsStepCount}
use Rattle.vme_part_command.specs.declared.file_check.FileCheck.{FileCheck}
use Rattle.vme_part_command.specs.declared.no_part.NoPart.{NoPart}
use Rattle.vme_part_command.specs.declared.no_part.NoPart.TheVariants as none

-- for each batch of 16,384 steps of t, each table of `file` has at most 18 nodes for each of its memories: one for each
-- piece of 1,024 steps, and two more
abbrev pub HasFewNodes : FileSoFar → Trace → Type 0
HasFewNodes file t = (k : ℕ) × (16384 * k ≤ 18 * length t.steps) × FileHasNodesAtMost k file

-- `file` is the file with the steps of t before `pending`, the last ones, and has few nodes
pub record IsPending (number : ℕ) (listing : Bool) (first_time : Option ℕ) (file : FileSoFar) (pending : List Step)
    (t : Trace) : Type 0 where
  pub judged : Trace
  pub all : with_steps judged pending ≡ t
  pub so_far : IsFileSoFar number listing first_time file judged
  pub few : HasFewNodes file judged

-- t is well-formed and has at most as many steps as a recording may have
pub record MayBeJudged (t : Trace) : Type 0 where
  pub formed : malformed_step t ≡ None
  pub few : length t.steps ≤ capture_limit

-- `check` was given all steps of t, which are counted, and all but the pending ones are judged, unless they are too
-- many
abbrev pub HasTakenSteps : ℕ → Bool → Option ℕ → FileCheck → Trace → Type 0
HasTakenSteps number listing first_time check t =
    IsStepCount check.count t.steps
    × (length t.steps ≤ capture_limit → IsPending number listing first_time check.file check.pending.items t)

-- `check` was given all steps that the reader r gave
pub record IsFileJudged (number : ℕ) (listing : Bool) (first_time : Option ℕ) (r : StepReading) (check : FileCheck)
    : Type 0 where
  pub sound : IsSound r
  pub taken : HasTakenSteps number listing first_time check r.given

-- p can be written, is compact, and is the part of the file `number` that t makes, whose dump has the first time
-- `first_time`
pub record IsPartOfSteps (number : ℕ) (listing : Bool) (first_time : Option ℕ) (backplane : ℕ) (t : Trace)
    (p : Part) : Type 0
  where
    pub backplane_is : p.backplane ≡ backplane
    pub listing_is : p.listing ≡ listing
    pub fits : FitsPart (part_value p)
    pub compact : IsCompactPart (part_value p)
    pub stands : IsPartOfFile listing (file_of number first_time t) (part_value p)

-- the result for all steps of t: the part, or why there is none; of `OutOfRange` it says only that t isn't too long
abbrev pub FindsOfSteps : ℕ → Bool → Option ℕ → ℕ → Trace → Result Part NoPart → Type 0
FindsOfSteps number listing first_time backplane t (Ok part) =
    (limited t ≡ Ok t) × IsPartOfSteps number listing first_time backplane t part
FindsOfSteps number listing first_time backplane t (Err (none.Refused refusal)) =
    AnswerGives (λ (u : Trace). u) (Err refusal) (or_bad_binding (limited t))
FindsOfSteps number listing first_time backplane t (Err none.OutOfRange) = limited t ≡ Ok t
