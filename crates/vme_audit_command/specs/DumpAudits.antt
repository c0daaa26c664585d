-- The lines of the breaks of a recording, as they are written.
use Rattle.std.specs.Prelude.{◌≡◌, ℕ, List, ◌++◌, flat_map, take, Option, Result, Ok, Err}
use Rattle.std.specs.Io.KnownBytes.{Appends}
use Rattle.vme_trace.specs.Followed.{with_steps}
use Rattle.vme_trace.specs.Streams.{Writing}
use Rattle.vme_trace.specs.Trace.{Trace}
use Rattle.vme_trace.specs.declared.step.Step.{Step}
use Rattle.vme_trace.specs.declared.verdict.Break.{Break}
use Rattle.vme_stream.specs.Outputs.{Writes, FailsToWrite}
use Rattle.vme_stream.specs.Texts.{line_of}
use Rattle.vme_audit.specs.Parts.{breaks}
use Rattle.vme_audit.specs.declared.allowance.Allowance.{Allowance}
use Rattle.vme_audit_lines.specs.AuditLines.{audit_break_text, category_of}
use Rattle.vme_step_auditor.specs.ReadBy.{GivenSteps, read_by}
use Rattle.vme_audit_command.specs.declared.written_lines.NoOutcome.{NoOutcome}
use Rattle.vme_audit_command.specs.declared.written_lines.NoOutcome.TheVariants.{NotWritten}
use Rattle.vme_audit_command.specs.declared.written_lines.WriteFault.{WriteFault}
use Rattle.vme_audit_command.specs.declared.written_lines.WriteFault.TheVariants.{Memory, CannotWrite}

module _ (allowances : List Allowance) (stop : Option ℕ) (head : List ℕ) where
  -- the line of a break
  abbrev pub line_of_break : Break → List ℕ
  line_of_break b = head ++ line_of (audit_break_text (category_of allowances b) b)

  -- the lines of the breaks of a recording, as far as it is audited
  unfoldable pub break_lines : Trace → List ℕ
  break_lines t = flat_map line_of_break (breaks (read_by allowances stop t))

-- a prefix of a text was written, and no write failed
abbrev pub WritesPrefix : Writing → Writing → List ℕ → Type 0
WritesPrefix old new text = ((n : ℕ) × Appends old.taken new.taken (take n text)) × (new.failures ≡ old.failures)

-- a text was written, or a write of it failed, or there was no memory for all of it
abbrev pub WritesText : {A : Type 0} → Writing → Writing → Result A WriteFault → List ℕ → Type 0
WritesText old new (Ok _) text = Writes old new text
WritesText old new (Err CannotWrite) text = FailsToWrite old new text
WritesText old new (Err Memory) text = WritesPrefix old new text

-- the result of auditing, by that of writing what was audited
abbrev pub or_not_written : {A : Type 0} → Result A WriteFault → Result A NoOutcome
or_not_written (Ok x) = Ok x
or_not_written (Err fault) = Err (NotWritten fault)

-- the lines after some more steps, `after`, are `before` and a text, which was written, or in part if there is an error
abbrev pub GoesOn : {A : Type 0} → List ℕ → List ℕ → Writing → Writing → Result A WriteFault → Type 0
GoesOn before after old new (Ok _) = (text : List ℕ) × (after ≡ before ++ text) × Writes old new text
GoesOn before after old new (Err CannotWrite) =
    (text : List ℕ) × (after ≡ before ++ text) × FailsToWrite old new text
GoesOn before after old new (Err Memory) = (text : List ℕ) × (after ≡ before ++ text) × WritesPrefix old new text

-- the lines of the breaks that an audit has found
abbrev pub lines_of : List ℕ → GivenSteps → List ℕ
lines_of head audit = break_lines audit.allowances audit.stop head audit.recording

-- an audit that was given these further steps
abbrev pub given_more : GivenSteps → List Step → GivenSteps
given_more audit steps = record audit { recording = with_steps audit.recording steps }

-- the lines of the breaks that `steps` add to an audit are written, or in part if there is an error
abbrev pub AuditGoesOn : {A : Type 0} → List ℕ → GivenSteps → List Step → Writing → Writing → Result A WriteFault
    → Type 0
AuditGoesOn head audit steps old new result =
    GoesOn (lines_of head audit) (lines_of head (given_more audit steps)) old new result

-- an audit by the same rules that was given this recording
abbrev pub given_recording : GivenSteps → Trace → GivenSteps
given_recording audit t = record audit { recording = t }

-- the lines that follow those of an audit when it is given recording `t` are written, or in part if there is an error
abbrev pub AuditGoesTo : {A : Type 0} → List ℕ → GivenSteps → Trace → Writing → Writing → Result A WriteFault → Type 0
AuditGoesTo head audit t old new result =
    GoesOn (lines_of head audit) (lines_of head (given_recording audit t)) old new result
