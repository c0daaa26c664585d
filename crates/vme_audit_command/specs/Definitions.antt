-- The result of reading the definitions of a dump.
use Rattle.std.specs.Prelude.{◌≡◌, ℕ, Bool, true, false, List, [], ◌++◌, Option, None, Some, Result, Ok, Err, IfSome}
use Rattle.std.specs.Io.KnownBytes.{Consumes}
use Rattle.vme_trace.specs.Streams.{Reading}
use Rattle.vme_trace.specs.WellFormed.{malformed_step}
use Rattle.vme_bind.specs.Binding.{BoundLines}
use Rattle.vme_bind.specs.TextReading.{TextReading, reading_of_text}
use Rattle.vme_bind.specs.declared.fault.CaptureFault.{CaptureFault}
use Rattle.vme_stream.specs.Refusals.{capture_refusal}
use Rattle.vme_stream.specs.declared.refusal.Refusal.{Refusal}
use Rattle.vme_step_reader.specs.StepReading.{StepReading, whole_reading}
use Rattle.vme_audit_command.specs.declared.dump_input.ReadFault.{ReadFault}
use Rattle.vme_audit_command.specs.declared.dump_input.ReadFault.TheVariants as read
use Rattle.vme_audit_command.specs.declared.written_lines.NoOutcome.{NoOutcome}
use Rattle.vme_audit_command.specs.declared.written_lines.NoOutcome.TheVariants.{CannotRead, NotWritten, Refused}
use Rattle.vme_audit_command.specs.declared.written_lines.WriteFault.TheVariants.{Memory, CannotWrite}

-- whatever follows, the recording is well formed
abbrev pub IsFormed : StepReading → Type 0
IsFormed r = (rest : List ℕ) → malformed_step (whole_reading r rest).recorded ≡ None

-- the body has begun, and no step of it was given
pub record IsBodyBegun (r : StepReading) : Type 0 where
  pub nothing : r.given.steps ≡ []
  pub formed : IsFormed r

-- reading a text ends with this refusal
abbrev pub IsRefused : Result TextReading CaptureFault → Refusal → Type 0
IsRefused reading refusal = (fault : CaptureFault) × (reading ≡ Err fault) × (capture_refusal fault ≡ refusal)

-- a read failed, or there was no memory for its bytes
abbrev pub unread : ReadFault → NoOutcome
unread read.Failed = CannotRead
unread read.Memory = NotWritten Memory

-- reading a text ends before its body, with this fault; without memory nothing is stated
abbrev pub NotBegun : Result TextReading CaptureFault → NoOutcome → Type 0
NotBegun reading (Refused refusal) = IsRefused reading refusal
NotBegun reading CannotRead = ⊥
NotBegun reading (NotWritten CannotWrite) = ⊥
NotBegun reading (NotWritten Memory) = Unit {0}

-- The definitions of a dump end in `held`, of which `left` is left then; or they don't; or there is a fault.
abbrev pub BeginsBody : BoundLines → List ℕ → List ℕ → Result (Option StepReading) NoOutcome → Type 0
BeginsBody binding held left (Ok (Some r)) =
    IsBodyBegun r × ((rest : List ℕ) → reading_of_text binding (held ++ rest) ≡ Ok (whole_reading r (left ++ rest)))
BeginsBody binding held left (Ok None) = left ≡ held
BeginsBody binding held left (Err why) = (rest : List ℕ) → NotBegun (reading_of_text binding (held ++ rest)) why

-- The definitions of a dump that ends with `held` end there, and `left` is left then; or there is a fault.
abbrev pub BeginsLast : BoundLines → List ℕ → List ℕ → Result StepReading NoOutcome → Type 0
BeginsLast binding held left (Ok r) = IsBodyBegun r × (reading_of_text binding held ≡ Ok (whole_reading r left))
BeginsLast binding held left (Err why) = NotBegun (reading_of_text binding held) why

-- `text` are all bytes of a source
abbrev pub AreAllBytesOf : Reading → List ℕ → Type 0
AreAllBytesOf old text = IfSome old.left (λ told. text ≡ told)

-- The definitions of a dump were read. If more of the dump may follow, whatever follows is the rest of the body.
abbrev pub ReadsDefinitions : BoundLines → Reading → Reading → List ℕ → Result (StepReading × Bool) NoOutcome → Type 0
ReadsDefinitions binding old new left (Ok (r, true)) =
    IsBodyBegun r × ((done : List ℕ) × Consumes old.left new.left done
    × ((rest : List ℕ) → reading_of_text binding (done ++ rest) ≡ Ok (whole_reading r (left ++ rest))))
ReadsDefinitions binding old new left (Ok (r, false)) =
    IsBodyBegun r
    × ((text : List ℕ) × AreAllBytesOf old text × (reading_of_text binding text ≡ Ok (whole_reading r left)))
ReadsDefinitions binding old new left (Err CannotRead) = Unit {0}
ReadsDefinitions binding old new left (Err why) =
    (text : List ℕ) × AreAllBytesOf old text × NotBegun (reading_of_text binding text) why
