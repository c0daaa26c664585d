-- The lines that are written about parts, without their line feeds.
use Rattle.std.specs.Prelude.{ℕ, Bool, true, false, List, ◌++◌, codes, decimal}
use Rattle.vme_stream.specs.Texts.{verdict_text}
use Rattle.vme_audit_lines.specs.AuditLines.{head_of}
use Rattle.vme_part_format.specs.declared.fault.PartFault.{PartFault}
use Rattle.vme_part_format.specs.declared.fault.PartFaultKind.{PartFaultKind}
use Rattle.vme_part_format.specs.declared.fault.PartFaultKind.TheVariants as fault
use Rattle.vme_parts.specs.Telling.{verdict_of}
use Rattle.vme_parts.specs.declared.answers.RecordingAnswer.{RecordingAnswer}
use Rattle.vme_parts.specs.declared.answers.RecordingAnswer.TheVariants as told

-- a line of the program that refuses the command, which says `what`
abbrev pub refusing_text : List ℕ → List ℕ
refusing_text what = codes "vmecheck: " ++ what

-- the line that says `what` of the part of this number
abbrev pub part_text : ℕ → List ℕ → List ℕ
part_text number what = codes "vmecheck: part " ++ decimal number ++ what

-- the line that says `what` of the input `name`, which is shown as at the beginning of each line of an audit
abbrev pub input_text : List ℕ → List ℕ → List ℕ
input_text name what = codes "vmecheck: " ++ head_of name ++ what

-- a fault by the name of its kind and the index of the byte at which it is
abbrev pub byte_text : ℕ → List ℕ → List ℕ
byte_text place kind = codes "byte " ++ decimal place ++ codes ": " ++ kind

-- the text of a fault of this kind at the byte of index `place`
abbrev pub kind_text : PartFaultKind → ℕ → List ℕ
kind_text fault.NotAPart place = codes "no part"
kind_text fault.OtherVersion place = codes "a part of another version"
kind_text fault.Damaged place = codes "damaged"
kind_text fault.CutShort place = byte_text place (codes "CutShort")
kind_text fault.BadFlag place = byte_text place (codes "BadFlag")
kind_text fault.BadNumber place = byte_text place (codes "BadNumber")
kind_text fault.BadLevels place = byte_text place (codes "BadLevels")
kind_text fault.BadSteps place = byte_text place (codes "BadSteps")
kind_text fault.BadBreak place = byte_text place (codes "BadBreak")
kind_text fault.BadWay place = byte_text place (codes "BadWay")
kind_text fault.BadMark place = byte_text place (codes "BadMark")
kind_text fault.Trailing place = byte_text place (codes "Trailing")

-- the text of a fault, which comes after the name of its file
abbrev pub fault_text : PartFault → List ℕ
fault_text f = kind_text f.kind f.place

-- the line of an answer about the whole recording
abbrev pub told_text : RecordingAnswer → List ℕ
told_text (told.Beyond number) = part_text number (codes " beyond the files")
told_text (told.Missing number) = part_text number (codes " missing")
told_text (told.Torn number) = part_text number (codes " torn")
told_text told.TooManySteps = refusing_text (codes "too many steps")
told_text (told.Verdict v) = verdict_text (verdict_of v)

-- the text for a part that has no marks where the first has some (`true`), or the other way round (`false`)
abbrev pub marks_text : Bool → List ℕ
marks_text true = codes "without marks"
marks_text false = codes "with marks"
