-- What the audit of several dumps writes, one dump after the other, and its exit status.
use Rattle.std.specs.Prelude.{◌≡◌, ◌⊎◌, ℕ, ◌==◌, if◌then◌else◌, List, [], ◌∷◌, ◌++◌, All, codes, flat_map, map, take}
use Rattle.std.specs.Prelude.{Option, Result, Ok, Err}
use Rattle.std.specs.List.{AllZip, list_any}
use Rattle.vme_trace.specs.Streams.{Reading, Writing}
use Rattle.vme_bind.specs.Binding.{BoundLines}
use Rattle.vme_bind.specs.TextReading.{reading_of_text}
use Rattle.vme_stream.specs.Inputs.{IsReading}
use Rattle.vme_stream.specs.Outputs.{FailsToWrite, TriesToWrite, Writes}
use Rattle.vme_stream.specs.Answers.{binding_read}
use Rattle.vme_stream.specs.Texts.{cannot_write_text, line_of, refusal_status, refusal_text}
use Rattle.vme_stream.specs.declared.refusal.Input.TheVariants.{Dump}
use Rattle.vme_stream.specs.declared.refusal.Refusal.{Refusal}
use Rattle.vme_stream.specs.declared.refusal.Refusal.TheVariants.{CannotRead, Memory}
use Rattle.vme_audit_lines.specs.AuditLines.{head_of, refusal_after_name}
use Rattle.vme_audit_command.specs.Definitions.{AreAllBytesOf}
use Rattle.vme_audit_command.specs.DumpAnswers.{AuditOptions, DumpAnswer, dump_answer}
use Rattle.vme_audit_command.specs.DumpReads.{CannotBeRead, NoReadFails}

-- ---- the status

-- the first of `statuses` that occurred, or else 0
abbrev pub first_occurred : List ℕ → List ℕ → ℕ
first_occurred [] occurred = 0
first_occurred (s ∷ statuses) occurred =
    if list_any (λ n. n == s) occurred then s else first_occurred statuses occurred

-- the status of all dumps, by the statuses of each
abbrev pub audit_status : List ℕ → ℕ
audit_status occurred = first_occurred (5 ∷ 4 ∷ 3 ∷ 1 ∷ 2 ∷ 6 ∷ []) occurred

-- ---- standard error

-- the line with the reason why there is no outcome of the dump of this name
abbrev pub refusal_line_of : List ℕ → Refusal → List ℕ
refusal_line_of name why = codes "vmecheck: " ++ head_of name ++ line_of (refusal_after_name why)

-- the line that reports that memory runs out
abbrev pub memory_line : List ℕ
memory_line = line_of (refusal_text Memory)

-- the line that reports that a write fails
abbrev pub cannot_write_line : List ℕ
cannot_write_line = line_of cannot_write_text

-- each of these lines was written, or a prefix of it before a write failed
abbrev pub TriesEach : Writing → Writing → List (List ℕ) → Type 0
TriesEach old new [] = new ≡ old
TriesEach old new (line ∷ lines) = (next : Writing) × TriesToWrite old next line × TriesEach next new lines

-- ---- one dump

-- a dump by its name, and the reading of its bytes
pub record NamedReading : Type 0 where
  pub name : List ℕ
  pub dump : Reading

-- the text of a dump on standard output, its lines on standard error, its status, and its source after its audit
pub record DumpEnd : Type 0 where
  pub out : List ℕ
  pub errors : List (List ℕ)
  pub status : ℕ
  pub after : Reading

-- a dump has an outcome with this status, or none, and then a line gives the reason
abbrev pub end_by : List ℕ → List ℕ → Result ℕ Refusal → Reading → DumpEnd
end_by name out (Ok status) after = record { out = out; errors = []; status = status; after = after }
end_by name out (Err why) after =
    record { out = out; errors = refusal_line_of name why ∷ []; status = refusal_status why; after = after }

-- `front` is a prefix of `text`
abbrev pub IsTextPrefix : List ℕ → List ℕ → Type 0
IsTextPrefix front text = (n : ℕ) × (front ≡ take n text)

-- no read of the dump fails, and all of an answer is written
abbrev pub IsWholeAnswer : NamedReading → DumpAnswer → DumpEnd → Type 0
IsWholeAnswer named answer end =
    NoReadFails named.dump end.after × (end ≡ end_by named.name answer.out answer.ended end.after)

-- the dump can't be read to its end: a prefix of its text is written, and why there is no outcome
abbrev pub IsUnread : NamedReading → DumpAnswer → DumpEnd → Type 0
IsUnread named answer end =
    CannotBeRead named.dump end.after
    × ((front : List ℕ) × IsTextPrefix front answer.out
    × (end ≡ end_by named.name front (Err (CannotRead Dump)) end.after))

-- That a dump can't be read is the reason only where that is so.
abbrev pub MayBeReason : NamedReading → Reading → Refusal → Type 0
MayBeReason named after why = why ≡ CannotRead Dump → CannotBeRead named.dump after

-- the line gives the reason why there is no outcome of a dump, or reports that memory ran out
abbrev pub IsErrorLine : NamedReading → Reading → List ℕ → Type 0
IsErrorLine named after line =
    (line ≡ memory_line)
    ⊎ ((why : Refusal) × MayBeReason named after why × (line ≡ refusal_line_of named.name why))

-- memory runs out: a prefix of the text is written, and the last line on standard error reports it
pub record EndsWithoutMemory (named : NamedReading) (answer : DumpAnswer) (end : DumpEnd) : Type 0 where
  pub out : IsTextPrefix end.out answer.out
  pub before : List (List ℕ)
  pub last : List ℕ
  pub errors : end.errors ≡ before ++ last ∷ []
  pub others : All (IsErrorLine named end.after) before
  pub tells : (last ≡ memory_line) ⊎ (last ≡ refusal_line_of named.name Memory)
  pub status : end.status ≡ 4

-- how a dump with this answer may end
abbrev pub IsEndOf : NamedReading → DumpAnswer → DumpEnd → Type 0
IsEndOf named answer end =
    IsWholeAnswer named answer end ⊎ (IsUnread named answer end ⊎ EndsWithoutMemory named answer end)

module _ (options : AuditOptions) (bound : BoundLines) where
  -- the answer for a dump with these bytes
  abbrev pub answer_to : List ℕ → List ℕ → DumpAnswer
  answer_to name bytes = dump_answer options (head_of name) (reading_of_text bound bytes)

  -- how a dump with the bytes of its source may end
  abbrev pub MayEnd : NamedReading → DumpEnd → Type 0
  MayEnd named end =
      (bytes : List ℕ) × AreAllBytesOf named.dump bytes × IsEndOf named (answer_to named.name bytes) end

  -- ---- all of them

  -- the output, the error lines and the status are those of possible ends of the dumps, one after the other, and
  -- `afters` are the sources of the dumps afterwards
  pub record WritesDumps (dumps : List NamedReading) (afters : List Reading) (out err : Writing × Writing)
      (status : ℕ) : Type 0 where
    pub ends : List DumpEnd
    pub each : AllZip MayEnd dumps ends
    pub afters_are : afters ≡ map (λ (e : DumpEnd). e.after) ends
    pub out_is : Writes out.0 out.1 (flat_map (λ (e : DumpEnd). e.out) ends)
    pub err_is : TriesEach err.0 err.1 (flat_map (λ (e : DumpEnd). e.errors) ends)
    pub status_is : status ≡ audit_status (map (λ (e : DumpEnd). e.status) ends)

  -- a write to standard output fails in the text of a dump: a line reports it, a prefix of all texts is written, and
  -- the other dumps aren't audited: nothing is read of them
  pub record CannotWriteDumps (dumps : List NamedReading) (afters : List Reading) (out err : Writing × Writing)
      (status : ℕ) : Type 0 where
    pub before : List NamedReading
    pub named : NamedReading
    pub others : List NamedReading
    pub split : dumps ≡ before ++ named ∷ others
    pub ends : List DumpEnd
    pub each : AllZip MayEnd before ends
    pub after : Reading
    pub none_fails : NoReadFails named.dump after
    pub afters_are : afters
        ≡ map (λ (e : DumpEnd). e.after) ends ++ after ∷ map (λ (n : NamedReading). n.dump) others
    pub bytes : List ℕ
    pub all : AreAllBytesOf named.dump bytes
    pub out_is : FailsToWrite out.0 out.1 (flat_map (λ (e : DumpEnd). e.out) ends ++ (answer_to named.name bytes).out)
    pub err_is : TriesEach err.0 err.1 (flat_map (λ (e : DumpEnd). e.errors) ends ++ cannot_write_line ∷ [])
    pub status_is : status ≡ 5

  -- the lines of the dumps are written, or a write of them fails
  abbrev pub AuditsDumps : List NamedReading → List Reading → Writing × Writing → Writing × Writing → ℕ → Type 0
  AuditsDumps dumps afters out err status =
      WritesDumps dumps afters out err status ⊎ CannotWriteDumps dumps afters out err status

-- the bytes of the binding were read, and are a binding, and the dumps were audited by it
pub record AuditsByBinding (options : AuditOptions) (binding : Reading × Reading) (dumps : List NamedReading)
    (afters : List Reading) (out err : Writing × Writing) (status : ℕ) : Type 0 where
  pub bytes : Option (List ℕ)
  pub bound : BoundLines
  pub read : IsReading binding.0 binding.1 bytes
  pub is : binding_read bytes ≡ Ok bound
  pub audits : AuditsDumps options bound dumps afters out err status
