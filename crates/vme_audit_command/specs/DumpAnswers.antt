-- What the audit of a dump writes, and how it ends.
use Rattle.std.specs.Prelude.{◌≡◌, ℕ, Bool, List, [], ◌++◌, Option, Result, Ok, Err}
use Rattle.vme_trace.specs.Streams.{Reading, Writing}
use Rattle.vme_trace.specs.Trace.{Trace}
use Rattle.vme_bind.specs.Binding.{BoundLines}
use Rattle.vme_bind.specs.TextReading.{TextReading, reading_of_text}
use Rattle.vme_bind.specs.declared.fault.CaptureFault.{CaptureFault}
use Rattle.vme_stream.specs.Outputs.{Writes, FailsToWrite}
use Rattle.vme_stream.specs.Refusals.{capture_refusal}
use Rattle.vme_stream.specs.declared.refusal.Refusal.{Refusal}
use Rattle.vme_audit.specs.Covered.{outcome}
use Rattle.vme_audit.specs.declared.allowance.Allowance.{Allowance}
use Rattle.vme_audit.specs.declared.outcome.Outcome.{Outcome}
use Rattle.vme_audit_lines.specs.AuditLines.{outcome_status}
use Rattle.vme_step_reader.specs.StepReading.{StepReading, whole_reading}
use Rattle.vme_audit_command.specs.Bodies.{IsWholeBody, ended_at}
use Rattle.vme_audit_command.specs.Definitions.{AreAllBytesOf}
use Rattle.vme_audit_command.specs.DumpAudits.{WritesPrefix, break_lines}
use Rattle.vme_audit_command.specs.LastLines.{counts_unless, outcome_line_of}
use Rattle.vme_dump_input.specs.SettledReadings.{settled_by, skew_of}
use Rattle.vme_audit_command.specs.declared.command.AuditOptions.{AuditOptions as GivenOptions}
use Rattle.vme_audit_command.specs.declared.written_lines.NoOutcome.{NoOutcome}
use Rattle.vme_audit_command.specs.declared.written_lines.NoOutcome.TheVariants.{CannotRead, NotWritten, Refused}
use Rattle.vme_audit_command.specs.declared.written_lines.WriteFault.TheVariants.{Memory, CannotWrite}

-- How a dump is audited: the allowed breaks, the number of transfers that must be answered, the number of breaks that
-- aren't allowed at which the audit stops, the time within which edges are one moment, and whether counts are left out.
pub record AuditOptions : Type 0 where
  pub allowances : List Allowance
  pub transfers : ℕ
  pub stop : Option ℕ
  pub skew : ℕ
  pub is_quiet : Bool

-- the options of the implementation as those of the definitions
abbrev pub given_options : GivenOptions → AuditOptions
given_options options =
    record {
      allowances = options.allowances.now;
      transfers = options.transfers;
      stop = options.stop;
      skew = options.skew;
      is_quiet = options.is_quiet;
    }

-- the text for standard output; and the exit status of the outcome, or why there is no outcome
pub record DumpAnswer : Type 0 where
  pub out : List ℕ
  pub ended : Result ℕ Refusal

-- each line begins with `head`: the name of the dump's file, or nothing
module _ (options : AuditOptions) (head : List ℕ) where
  -- the outcome of a dump's recording
  abbrev pub dump_outcome : Trace → Outcome
  dump_outcome a = outcome options.allowances options.transfers a

  -- the lines after those of the breaks
  abbrev pub last_lines : Trace → List ℕ
  last_lines a = counts_unless options.is_quiet options.allowances head a ++ outcome_line_of head (dump_outcome a)

  -- the lines of the breaks, then the last lines for the recording as far as it is audited; or why there is no outcome
  abbrev pub answer_by : List ℕ → Result Trace Refusal → DumpAnswer
  answer_by lines (Ok a) = record { out = lines ++ last_lines a; ended = Ok (outcome_status (dump_outcome a)) }
  answer_by lines (Err refusal) = record { out = lines; ended = Err refusal }

  -- the answer for a reading of a dump
  abbrev pub reading_answer : TextReading → DumpAnswer
  reading_answer reading = answer_by (break_lines options.allowances options.stop head reading.recorded)
      (ended_at options.allowances options.stop reading.recorded reading.fault)

  -- the answer for a dump: that for its reading, settled by the skew, or a refusal
  abbrev pub dump_answer : Result TextReading CaptureFault → DumpAnswer
  dump_answer (Ok reading) = reading_answer (settled_by (skew_of options.skew) reading)
  dump_answer (Err fault) = record { out = []; ended = Err (capture_refusal fault) }

-- how the audit of a dump ended: it has an outcome, or none; or the dump couldn't be read to its end, a write failed,
-- or memory ran out, and then a prefix of the text was written
abbrev pub EndsAs : DumpAnswer → Writing → Writing → Result ℕ NoOutcome → Type 0
EndsAs answer old new (Ok status) = Writes old new answer.out × (answer.ended ≡ Ok status)
EndsAs answer old new (Err (Refused refusal)) = Writes old new answer.out × (answer.ended ≡ Err refusal)
EndsAs answer old new (Err CannotRead) = WritesPrefix old new answer.out
EndsAs answer old new (Err (NotWritten CannotWrite)) = FailsToWrite old new answer.out
EndsAs answer old new (Err (NotWritten Memory)) = WritesPrefix old new answer.out

-- the body of a dump was audited, which begins with `held`, and of which more may have come from `source`
abbrev pub AnswersBody : AuditOptions → List ℕ → StepReading → List ℕ → Bool → Reading → Writing → Writing
    → Result ℕ NoOutcome → Type 0
AnswersBody options head r held is_more source old new result =
    (whole : List ℕ) × IsWholeBody is_more source held whole
    × EndsAs (dump_answer options head (Ok (whole_reading r whole))) old new result

-- the dump with the bytes of `source` was audited
abbrev pub AuditsDump : AuditOptions → List ℕ → BoundLines → Reading → Writing → Writing → Result ℕ NoOutcome → Type 0
AuditsDump options head binding source old new result =
    (text : List ℕ) × AreAllBytesOf source text
    × EndsAs (dump_answer options head (reading_of_text binding text)) old new result
