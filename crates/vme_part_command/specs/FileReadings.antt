-- How far a dump that is a file of a recording is read, and its first time.
use Rattle.std.specs.Prelude.{◌≡◌, ℕ, List, [], ◌++◌, Option, Result, Ok, Err}
use Rattle.vcd_read.specs.declared.fault.VcdFault.{VcdFault}
use Rattle.vcd_start.specs.FirstTimes.{HasFirstTime}
use Rattle.vme_trace.specs.Streams.{Reading}
use Rattle.vme_bind.specs.Binding.{BoundLines}
use Rattle.vme_bind.specs.TextReading.{reading_of_text}
use Rattle.vme_listing.specs.Reading.{IsFollowedBy}
use Rattle.vme_stream.specs.declared.refusal.Refusal.{Refusal}
use Rattle.vme_stream.specs.Inputs.{longest_input}
use Rattle.vme_step_reader.specs.StepReading.{StepReading, whole_reading}
use Rattle.vme_dump_input.specs.DumpBeginnings.{IsDumpRefused}
use Rattle.vme_dump_input.specs.BufferedInputs.{InputSoFar, IsAllOf, IsReadTo}
use Rattle.vme_dump_input.specs.BodyPieces.{FailsPiece}
use Rattle.vme_part_command.specs.declared.file_check.FileCheck.{FileCheck}

-- `first_time` is the first time of the dump `text`, unless `number` is 0
abbrev pub IsFirstTimeFor : ℕ → List ℕ → Option ℕ → Type 0
IsFirstTimeFor number text first_time = (number ≡ 0 → ⊥) → HasFirstTime text first_time

-- the bytes held of a dump, of which none were taken, determine its first time; or the dump is refused
abbrev pub ReadsFirstTime : ℕ → Reading → Reading → InputSoFar → Result (Option ℕ) Refusal → Type 0
ReadsFirstTime number old now input (Ok first_time) =
    IsReadTo old now [] input
    × ((rest : List ℕ) → IsFollowedBy input.is_whole rest → IsFirstTimeFor number (input.held ++ rest) first_time)
ReadsFirstTime number old now input (Err refusal) = IsDumpRefused old now refusal

-- the reader r has taken `done` of a dump, `input` holds the bytes after that, and the dump has the first time
-- `first_time`
pub record IsAtFile (binding : BoundLines) (number : ℕ) (first_time : Option ℕ) (old now : Reading) (input : InputSoFar)
    (r : StepReading) : Type 0 where
  pub done : List ℕ
  pub read : IsReadTo old now done input
  pub body : (rest : List ℕ) → IsFollowedBy input.is_whole rest
      → reading_of_text binding (done ++ (input.held ++ rest)) ≡ Ok (whole_reading r (input.held ++ rest))
  pub starts : (rest : List ℕ) → IsFollowedBy input.is_whole rest
      → IsFirstTimeFor number (done ++ (input.held ++ rest)) first_time

-- after a piece the reader is in the body (`IsAtFile`), or reading the piece failed
abbrev pub ReadsFile : BoundLines → ℕ → Option ℕ → Reading → Reading → InputSoFar
    → Result (StepReading × FileCheck) (Option VcdFault) → Type 0
ReadsFile binding number first_time old now input (Ok made) = IsAtFile binding number first_time old now input made.0
ReadsFile binding number first_time old now input (Err fault) = FailsPiece old now input fault

-- the dump was read whole, `bytes` are those that the reader r has not taken, and the dump has the first time
-- `first_time`
pub record IsAtFileEnd (binding : BoundLines) (number : ℕ) (first_time : Option ℕ) (old now : Reading) (bytes : List ℕ)
    (r : StepReading) : Type 0 where
  pub text : List ℕ
  pub all : IsAllOf old now text longest_input
  pub body : reading_of_text binding text ≡ Ok (whole_reading r bytes)
  pub starts : IsFirstTimeFor number text first_time
