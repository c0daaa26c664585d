-- What the command `part` makes of a dump, and how it ends.
use Rattle.std.specs.Prelude.{◌≡◌, ℕ, List, [], Option, Result, Ok, Err, codes}
use Rattle.vcd_read.specs.Contents.{Contents}
use Rattle.vcd_read.specs.Header.{◌>>=◌}
use Rattle.vcd_start.specs.FirstTimes.{first_time_of_dump}
use Rattle.vme_trace.specs.Streams.{Reading, Writing}
use Rattle.vme_trace.specs.Trace.{Trace}
use Rattle.vme_bind.specs.Binding.{BoundLines}
use Rattle.vme_bind.specs.Capture.{capture_of}
use Rattle.vme_stream.specs.Inputs.{IsReading}
use Rattle.vme_stream.specs.Answers.{AnswerGives, CommandAnswer, binding_read, dump_read, or_bad_binding}
use Rattle.vme_stream.specs.Ends.{AnswersInputs}
use Rattle.vme_stream.specs.Texts.{line_of, refusal_status, refusal_text}
use Rattle.vme_stream.specs.declared.refusal.Refusal.{Refusal}
use Rattle.vme_part_format.specs.Bounds.{FitsPart}
use Rattle.vme_part_format.specs.PartText.{part_bytes}
use Rattle.vme_part_format.specs.Sizes.{IsSmall}
use Rattle.vme_part_format.specs.Tables.{PartValue, part_value}
use Rattle.vme_part_format.specs.declared.part.Part.{Part}
use Rattle.vme_parts.specs.Files.{IsPartOfFile}
use Rattle.vme_file_part.specs.FileOf.{file_of}
use Rattle.vme_part_command.specs.Backplane.{backplane_of}
use Rattle.vme_part_command.specs.Lines.{refusing_text}
use Rattle.vme_part_command.specs.declared.no_part.NoPart.{NoPart}
use Rattle.vme_part_command.specs.declared.no_part.NoPart.TheVariants as none
use Rattle.vme_part_command.specs.declared.part.PartOptions.{PartOptions}

-- the recording that a binding makes of a dump, and the first time of the dump, if it has one
pub record DumpRecording : Type 0 where
  pub first_time : Option ℕ
  pub recording : Trace

-- the recording of a dump and its first time, or the first reason that there is none: the binding is read first
abbrev pub dump_recording : Result BoundLines Refusal → Result Contents Refusal → Result DumpRecording Refusal
dump_recording binding dump = do
  bound ← binding
  contents ← dump
  t ← or_bad_binding (capture_of bound contents)
  Ok (record { first_time = first_time_of_dump contents; recording = t })

-- p can be written, in few bytes, and is the part of the file that the dump's recording makes, with marks or without.
-- Except for number 0, the levels after the dump's first time are the opening of the file, and its steps are those
-- after that time.
pub record IsPartOfRecording (o : PartOptions) (d : DumpRecording) (p : PartValue) : Type 0 where
  pub backplane : p.backplane ≡ backplane_of d.recording.opening
  pub listing : p.listing ≡ o.listing
  pub fits : FitsPart p
  pub small : IsSmall p
  pub stands : IsPartOfFile o.listing (file_of o.number d.first_time d.recording) p

-- The result for a recording that `read` gives: a part of it, as a value by `view`; or why there is no recording,
-- unless memory ran out; or, where there is a recording, that its part would be out of bounds.
abbrev pub FindsPart : {X : Type 0} → (X → PartValue) → PartOptions → Result DumpRecording Refusal → Result X NoPart
    → Type 0
FindsPart view o read (Ok part) = (d : DumpRecording) × (read ≡ Ok d) × IsPartOfRecording o d (view part)
FindsPart view o read (Err (none.Refused refusal)) = AnswerGives (λ (d : DumpRecording). d) (Err refusal) read
FindsPart view o read (Err none.OutOfRange) = (d : DumpRecording) × (read ≡ Ok d)

-- `FindsPart` for the recording that the binding `bound` makes of a dump, which is read
abbrev pub FindsOfDump : PartOptions → BoundLines → Reading → Reading → Result Part NoPart → Type 0
FindsOfDump o bound old now found =
    (bytes : Option (List ℕ)) × IsReading old now bytes
    × FindsPart part_value o (dump_recording (Ok bound) (dump_read bytes)) found

-- ---- the answer

-- the line that says why there is no part
abbrev pub no_part_text : NoPart → List ℕ
no_part_text (none.Refused refusal) = refusal_text refusal
no_part_text none.OutOfRange = refusing_text (codes "out of the range of parts")

-- the status of the command where there is no part
abbrev pub no_part_status : NoPart → ℕ
no_part_status (none.Refused refusal) = refusal_status refusal
no_part_status none.OutOfRange = 3

-- the answer with `text` on standard output and status 0
abbrev pub written : List ℕ → CommandAnswer
written text = record { out = text; error = []; status = 0 }

-- the answer with the bytes of a part on standard output
abbrev pub written_part : PartValue → CommandAnswer
written_part p = written (part_bytes p)

-- the command's answer where there is no part
abbrev pub no_part_answer : NoPart → CommandAnswer
no_part_answer why = record { out = []; error = line_of (no_part_text why); status = no_part_status why }

-- the command's answer: the part, or why there is none
abbrev pub part_answer : Result PartValue NoPart → CommandAnswer
part_answer (Ok p) = written_part p
part_answer (Err why) = no_part_answer why

-- the binding and the dump are read, or can't be; a part of their recording is made, unless memory ran out; and it is
-- written, or why there is none, unless a write fails
abbrev pub WritesPart : PartOptions → Reading × Reading → Reading × Reading → Writing × Writing → Writing × Writing → ℕ
    → Type 0
WritesPart o binding dump out err status =
    AnswersInputs part_answer (λ b d found. FindsPart (λ (p : PartValue). p) o
    (dump_recording (binding_read b) (dump_read d))
    found) binding dump out err
    status
