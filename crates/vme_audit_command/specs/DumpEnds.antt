-- What is written at the end of the audit of a dump.
use Rattle.std.specs.Prelude.{◌≡◌, ◌≢◌, ◌⊎◌, ℕ, List, Result, Ok, Err}
use Rattle.vme_trace.specs.Streams.{Reading, Writing}
use Rattle.vme_bind.specs.Binding.{BoundLines}
use Rattle.vme_stream.specs.Outputs.{FailsToWrite, TriesToWrite, Writes}
use Rattle.vme_stream.specs.Texts.{refusal_status}
use Rattle.vme_stream.specs.declared.refusal.Input.TheVariants.{Dump}
use Rattle.vme_stream.specs.declared.refusal.Refusal.{Refusal}
use Rattle.vme_stream.specs.declared.refusal.Refusal.TheVariants as refusal
use Rattle.vme_audit_command.specs.Definitions.{AreAllBytesOf}
use Rattle.vme_audit_command.specs.DumpAnswers.{AuditOptions}
use Rattle.vme_audit_command.specs.DumpReads.{NoReadFails}
use Rattle.vme_audit_command.specs.SeveralDumps.{DumpEnd, MayEnd, NamedReading, TriesEach, answer_to, cannot_write_line}
use Rattle.vme_audit_command.specs.SeveralDumps.{memory_line, refusal_line_of}
use Rattle.vme_audit_command.specs.declared.written_lines.NoOutcome.{NoOutcome}
use Rattle.vme_audit_command.specs.declared.written_lines.NoOutcome.TheVariants.{CannotRead, NotWritten, Refused}
use Rattle.vme_audit_command.specs.declared.written_lines.WriteFault.TheVariants.{Memory, CannotWrite}

-- a line reports want of memory, and the status is 4
abbrev pub ReportsMemory : Writing → Writing → ℕ → Type 0
ReportsMemory old new status = TriesToWrite old new memory_line × (status ≡ 4)

-- a line gives the reason why there is no outcome, and the status is that of the reason; or memory runs out for the
-- line
abbrev pub WritesReason : List ℕ → Refusal → Writing → Writing → ℕ → Type 0
WritesReason name why old new status =
    (TriesToWrite old new (refusal_line_of name why) × (status ≡ refusal_status why)) ⊎ ReportsMemory old new status

-- the status is `ended`; or memory runs out for what is kept of the dump
abbrev pub EndsWithStatus : ℕ → Writing → Writing → ℕ → Type 0
EndsWithStatus ended old new status = ((new ≡ old) × (status ≡ ended)) ⊎ ReportsMemory old new status

-- a line gives the reason why there is no outcome, and the dump's results are kept
abbrev pub EndsWithReason : List ℕ → Refusal → Writing → Writing → ℕ → Type 0
EndsWithReason name why old new status =
    (told : Writing) × (ended : ℕ) × WritesReason name why old told ended × EndsWithStatus ended told new status

-- what is written of a dump whose audit ended so, besides its lines, and its status
abbrev pub WritesEnd : List ℕ → Result ℕ NoOutcome → Writing → Writing → ℕ → Type 0
WritesEnd name (Ok ended) old new status = EndsWithStatus ended old new status
WritesEnd name (Err (Refused why)) old new status = EndsWithReason name why old new status
WritesEnd name (Err CannotRead) old new status = EndsWithReason name (refusal.CannotRead Dump) old new status
WritesEnd name (Err (NotWritten Memory)) old new status = EndsWithReason name refusal.Memory old new status
WritesEnd name (Err (NotWritten CannotWrite)) old new status =
    TriesToWrite old new cannot_write_line × (status ≡ 5)

module _ (options : AuditOptions) (binding : BoundLines) (named : NamedReading) (after : Reading)
    (out err : Writing × Writing) (status : ℕ) where
  -- the output, the error lines and the status are those of a possible end of the dump
  pub record WritesDump : Type 0 where
    pub end : DumpEnd
    pub may : MayEnd options binding named end
    pub after_is : end.after ≡ after
    pub out_is : Writes out.0 out.1 end.out
    pub err_is : TriesEach err.0 err.1 end.errors
    pub status_is : status ≡ end.status
    pub other : status ≢ 5

  -- no read of the dump fails, but a write of its text
  pub record CannotWriteDump : Type 0 where
    pub none_fails : NoReadFails named.dump after
    pub bytes : List ℕ
    pub all : AreAllBytesOf named.dump bytes
    pub out_is : FailsToWrite out.0 out.1 (answer_to options binding named.name bytes).out
    pub err_is : TriesToWrite err.0 err.1 cannot_write_line
    pub status_is : status ≡ 5

  -- the lines of the dump are written, or a write of them fails
  abbrev pub AuditsNamed : Type 0
  AuditsNamed = WritesDump ⊎ CannotWriteDump
