-- The result of auditing a dump's body as it is read.
use Rattle.std.specs.Prelude.{◌≡◌, ◌≤◌, ℕ, List, [], ◌++◌, length, take, Option, None, Some, Result, Ok, Err}
use Rattle.vme_trace.specs.Streams.{Reading, Writing}
use Rattle.vme_trace.specs.Trace.{Trace}
use Rattle.vcd_read.specs.declared.fault.VcdFault.{VcdFault}
use Rattle.vme_stream.specs.Refusals.{dump_refusal}
use Rattle.vme_audit.specs.declared.allowance.Allowance.{Allowance}
use Rattle.std.specs.Prelude.{Bool, true, false, if◌then◌else◌}
use Rattle.vme_trace.specs.WellFormed.{malformed_step}
use Rattle.vme_bind.specs.TextReading.{TextReading}
use Rattle.vme_stream.specs.Outputs.{Writes, FailsToWrite}
use Rattle.vme_stream.specs.declared.refusal.Refusal.{Refusal}
use Rattle.vme_audit_command.specs.Definitions.{AreAllBytesOf, IsFormed}
use Rattle.vme_audit_command.specs.DumpAudits.{WritesPrefix, break_lines, given_recording, lines_of}
use Rattle.vme_dump_input.specs.SettledReadings.{settled_by}
use Rattle.vme_dump_input.specs.SettledSteps.{ComesOut}
use Rattle.vme_skew.specs.Settling.{Settling}
use Rattle.vme_trace.specs.LineNumbers.{line_count}
use Rattle.vme_step_auditor.specs.ReadBy.{GivenSteps, is_stopped, read_by}
use Rattle.vme_step_reader.specs.StepReading.{StepReading, whole_reading}
use Rattle.vme_audit_command.specs.declared.written_lines.NoOutcome.{NoOutcome}
use Rattle.vme_audit_command.specs.declared.written_lines.NoOutcome.TheVariants.{CannotRead, NotWritten, Refused}
use Rattle.vme_audit_command.specs.declared.written_lines.WriteFault.TheVariants.{Memory, CannotWrite}

module _ (allowances : List Allowance) (stop : Option ℕ) where
  -- `t` is recorded before the end of a dump, or before its fault: the recording as far as it is audited, or a refusal
  -- for the fault, unless the audit stopped before the fault
  abbrev pub ended_at : Trace → Option VcdFault → Result Trace Refusal
  ended_at t None = Ok (read_by allowances stop t)
  ended_at t (Some fault) =
      if is_stopped allowances stop t then Ok (read_by allowances stop t) else Err (dump_refusal fault)

-- the audit was given what the settler let out of the reader's steps, or all of these steps if there is no skew
pub record HasGiven (skew : Option ℕ) (settler : Option Settling) (audit : GivenSteps) (r : StepReading) : Type 0 where
  pub comes : ComesOut skew settler r.given (whole_reading r []).time audit.recording
  pub few : r.given.opening.slots ≤ 21
  pub whole : length r.given.opening.levels ≡ line_count
  pub formed : IsFormed r

-- What is written of `text` if a body ends with this result: all of it, and `ended` is then `a`, the recording as far
-- as it is audited, or the refusal of the result; or else a prefix of it.
abbrev pub WritesUntil : {A : Type 0} → Result Trace Refusal → Trace → Writing → Writing → List ℕ
    → Result A NoOutcome → Type 0
WritesUntil ended a old new text (Ok _) = Writes old new text × (ended ≡ Ok a)
WritesUntil ended a old new text (Err (Refused refusal)) = Writes old new text × (ended ≡ Err refusal)
WritesUntil ended a old new text (Err CannotRead) = WritesPrefix old new text
WritesUntil ended a old new text (Err (NotWritten CannotWrite)) = FailsToWrite old new text
WritesUntil ended a old new text (Err (NotWritten Memory)) = WritesPrefix old new text

-- The lines `before` were written before. The other lines of what is recorded are written until the body ends.
abbrev pub WritesRest : {A : Type 0} → List ℕ → GivenSteps → List ℕ → TextReading → Trace → Writing → Writing
    → Result A NoOutcome → Type 0
WritesRest head audit before reading t old new result =
    (text : List ℕ)
    × (break_lines audit.allowances audit.stop head reading.recorded ≡ before ++ text)
    × WritesUntil (ended_at audit.allowances audit.stop reading.recorded reading.fault)
    (read_by audit.allowances audit.stop t) old new text result

-- An audit takes some of the first of `bytes`, whatever follows them, and was then given what comes out of the settler;
-- or the body ends for it.
abbrev pub TakesPiece : Option ℕ → List ℕ → GivenSteps → GivenSteps → Option Settling → StepReading → List ℕ → Writing
    → Writing → Result (Option (StepReading × ℕ)) NoOutcome → Type 0
TakesPiece skew head audit later settler r bytes old new (Ok (Some (next, n))) =
    (n ≤ length bytes) × ((rest : List ℕ) → whole_reading r (take n bytes ++ rest) ≡ whole_reading next rest)
    × HasGiven skew settler later next × (later ≡ given_recording audit later.recording)
    × ((text : List ℕ) × (lines_of head later ≡ lines_of head audit ++ text) × Writes old new text)
TakesPiece skew head audit later settler r bytes old new (Ok None) =
    (rest : List ℕ)
    → WritesRest {A = Unit {0}} head audit (lines_of head audit) (settled_by skew (whole_reading r (bytes ++ rest)))
    later.recording old new (Ok tt)
TakesPiece skew head audit later settler r bytes old new (Err why) =
    (rest : List ℕ)
    → WritesRest {A = Unit {0}} head audit (lines_of head audit) (settled_by skew (whole_reading r (bytes ++ rest)))
    later.recording old new (Err why)

-- the body that begins with `held` and continues with the bytes of `source` was audited until it ends
abbrev pub AuditsBody : {A : Type 0} → Option ℕ → List ℕ → GivenSteps → GivenSteps → StepReading → List ℕ → Reading
    → Writing → Writing → Result A NoOutcome → Type 0
AuditsBody skew head audit later r held source old new result =
    (more : List ℕ) × AreAllBytesOf source more
    × WritesRest head audit (lines_of head audit) (settled_by skew (whole_reading r (held ++ more))) later.recording old
    new result

-- `whole` are all bytes of a body that begins with `held`; if the flag is true, the bytes of `source` follow
abbrev pub IsWholeBody : Bool → Reading → List ℕ → List ℕ → Type 0
IsWholeBody true source held whole = (more : List ℕ) × AreAllBytesOf source more × (whole ≡ held ++ more)
IsWholeBody false source held whole = whole ≡ held

-- the body that begins with `held` was audited until it ends
abbrev pub AuditsRest : {A : Type 0} → Option ℕ → List ℕ → GivenSteps → GivenSteps → StepReading → List ℕ → Bool
    → Reading → Writing → Writing → Result A NoOutcome → Type 0
AuditsRest skew head audit later r held is_more source old new result =
    (whole : List ℕ) × IsWholeBody is_more source held whole
    × WritesRest head audit (lines_of head audit) (settled_by skew (whole_reading r whole)) later.recording old new
    result

-- `later` is an audit by the rules of `first`, of a well-formed recording
pub record IsLater (first later : GivenSteps) : Type 0 where
  pub same : later ≡ given_recording first later.recording
  pub formed : malformed_step later.recording ≡ None
