-- How the commands `join` and `tell` end.
use Rattle.std.specs.Prelude.{◌≡◌, ◌⊎◌, ℕ, Bool, List, [], Option, Result, Ok, Err, codes, get_or}
use Rattle.vme_trace.specs.Streams.{Reading, Writing}
use Rattle.vme_stream.specs.Outputs.{TriesToWrite}
use Rattle.vme_stream.specs.Answers.{CommandAnswer, refusal_answer}
use Rattle.vme_stream.specs.Ends.{Ends}
use Rattle.vme_stream.specs.ListingStatus.{listing_status}
use Rattle.vme_stream.specs.Texts.{line_of, refusal_text, verdict_status, verdict_text}
use Rattle.vme_stream.specs.declared.refusal.Refusal.TheVariants.{Memory}
use Rattle.vme_listing.specs.RowText.{text_of}
use Rattle.vme_part_format.specs.Tables.{PartValue}
use Rattle.vme_part_listing.specs.Listings.{DeterminesListingAnswer}
use Rattle.vme_part_listing.specs.declared.answers.ListingAnswer.{ListingAnswer}
use Rattle.vme_part_listing.specs.declared.answers.ListingAnswer.TheVariants as listed
use Rattle.vme_parts.specs.Telling.{DeterminesRecordingAnswer, verdict_of}
use Rattle.vme_parts.specs.declared.answers.RecordingAnswer.{RecordingAnswer}
use Rattle.vme_parts.specs.declared.answers.RecordingAnswer.TheVariants as told
use Rattle.vme_parts.specs.declared.join_refusal.JoinRefusal.{JoinRefusal}
use Rattle.vme_parts.specs.declared.join_refusal.JoinRefusal.TheVariants as refusal
use Rattle.vme_part_command.specs.Inputs.{IsJoinOf, IsNoJoin}
use Rattle.vme_part_command.specs.Lines.{fault_text, input_text, marks_text, part_text, refusing_text, told_text}
use Rattle.vme_part_command.specs.Written.{written_part}
use Rattle.vme_part_command.specs.declared.inputs.PartInputFault.{PartInputFault}
use Rattle.vme_part_command.specs.declared.inputs.PartInputFault.TheVariants as input
use Rattle.vme_part_command.specs.declared.inputs.NoJoin.{NoJoin}
use Rattle.vme_part_command.specs.declared.inputs.NoJoin.TheVariants as none

-- a refusal with the line `text` and status 3
abbrev pub refusing : List ℕ → CommandAnswer
refusing text = record { out = []; error = line_of text; status = 3 }

-- ---- why no part is joined from the inputs

-- why an input is no part, as the line about it says it
abbrev pub what_is_wrong : PartInputFault → List ℕ
what_is_wrong input.Unread = codes "cannot read"
what_is_wrong input.TooLong = codes "too long"
what_is_wrong (input.Faulty fault) = fault_text fault

-- the name of the input of index `place`
abbrev pub name_at : List (List ℕ) → ℕ → List ℕ
name_at names place = get_or names place []

-- the line that says why parts can't be joined; `has_marks` says whether the first part has marks
abbrev pub join_refusal_text : List (List ℕ) → JoinRefusal → Bool → List ℕ
join_refusal_text names refusal.Memory has_marks = refusal_text Memory
join_refusal_text names (refusal.Backplane place) has_marks =
    input_text (name_at names place) (codes "of another backplane")
join_refusal_text names (refusal.Marks place) has_marks = input_text (name_at names place) (marks_text has_marks)
join_refusal_text names (refusal.Differs number) has_marks = part_text number (codes " differs")
join_refusal_text names refusal.TooManySteps has_marks = refusing_text (codes "too many steps")
join_refusal_text names refusal.TooManyNodes has_marks = refusing_text (codes "too many marks")
join_refusal_text names refusal.TooManySegments has_marks = refusing_text (codes "too many parts")

-- the status of the command where parts can't be joined
abbrev pub join_refusal_status : JoinRefusal → ℕ
join_refusal_status refusal.Memory = 4
join_refusal_status why = 3

-- the line that says why no part is joined from the inputs
abbrev pub no_join_text : List (List ℕ) → NoJoin → List ℕ
no_join_text names none.Memory = refusal_text Memory
no_join_text names (none.Input place fault) = input_text (name_at names place) (what_is_wrong fault)
no_join_text names (none.Refused why has_marks) = join_refusal_text names why has_marks

-- the status of the command where no part is joined from the inputs
abbrev pub no_join_status : NoJoin → ℕ
no_join_status none.Memory = 4
no_join_status (none.Input place fault) = 3
no_join_status (none.Refused why has_marks) = join_refusal_status why

-- the command's answer where no part is joined from the inputs
abbrev pub no_join_answer : List (List ℕ) → NoJoin → CommandAnswer
no_join_answer names why =
    record { out = []; error = line_of (no_join_text names why); status = no_join_status why }

-- ---- the answers

-- the command's answer with the verdict, or why there is none
abbrev pub told_answer : RecordingAnswer → CommandAnswer
told_answer (told.Verdict v) =
    record { out = line_of (verdict_text (verdict_of v)); error = []; status = verdict_status (verdict_of v) }
told_answer why = refusing (told_text why)

-- the command's answer with the listing, or why there is none
abbrev pub listed_answer : ListingAnswer → CommandAnswer
listed_answer (listed.Listing listing) =
    record { out = text_of listing; error = []; status = listing_status listing }
listed_answer (listed.Refused what) = refusing (told_text what)
listed_answer listed.Unmarked = refusing (refusing_text (codes "parts without marks"))
listed_answer listed.TooLong = refusing (refusing_text (codes "too many steps"))

-- ---- how the commands end

-- the command ends with `answer`, or with the answer that memory ran out
abbrev pub EndsUnlessMemory : CommandAnswer → Writing × Writing → Writing × Writing → ℕ → Type 0
EndsUnlessMemory answer out err status = Ends answer out err status ⊎ Ends (refusal_answer Memory) out err status

-- the line of the refusal `answer` is written to standard error, or a write of it fails; the status is that of `answer`
pub record Complains (answer : CommandAnswer) (err : Writing × Writing) (status : ℕ) : Type 0 where
  pub err_is : TriesToWrite err.0 err.1 answer.error
  pub status_is : status ≡ answer.status

-- the line of the refusal `answer`, or of that for lack of memory, is written to standard error, or a write of it
-- fails; the status is that of the refusal
abbrev pub ComplainsUnlessMemory : CommandAnswer → Writing × Writing → ℕ → Type 0
ComplainsUnlessMemory answer err status = Complains answer err status ⊎ Complains (refusal_answer Memory) err status

-- x is found, or no part is joined from the inputs, for the reason `why`
abbrev pub IsFoundOrNoJoin : {X : Type 0} → (X → Type 0) → List Reading × List Reading → Result X NoJoin → Type 0
IsFoundOrNoJoin IsFound inputs (Ok x) = IsFound x
IsFoundOrNoJoin IsFound inputs (Err why) = IsNoJoin inputs.0 inputs.1 why

-- the command's answer for what is found, or where no part is joined from the inputs
abbrev pub answer_or : {X : Type 0} → (X → CommandAnswer) → List (List ℕ) → Result X NoJoin → CommandAnswer
answer_or answer names (Ok x) = answer x
answer_or answer names (Err why) = no_join_answer names why

-- The inputs, which have the names `names`, are read. Something that satisfies `IsFound` is found, or why no part is
-- joined from the inputs. The command ends with its answer, or with that for lack of memory, unless a write fails.
abbrev pub DoesOfParts : {X : Type 0} → (X → Type 0) → (X → CommandAnswer) → List (List ℕ) → List Reading × List Reading
    → Writing × Writing → Writing × Writing → ℕ → Type 0
DoesOfParts {X} IsFound answer names inputs out err status =
    (found : Result X NoJoin) × IsFoundOrNoJoin IsFound inputs found
    × Ends (answer_or answer names found) out err status

-- one part joined from all inputs is written
abbrev pub WritesJoin : List (List ℕ) → List Reading × List Reading → Writing × Writing → Writing × Writing → ℕ → Type 0
WritesJoin names inputs out err status =
    DoesOfParts (IsJoinOf inputs.0 inputs.1) written_part names inputs out err status

-- `what` is the answer about the recording, which has `files` files, from one part joined from all inputs
pub record IsToldOf (inputs : List Reading × List Reading) (files : Option ℕ) (what : RecordingAnswer) : Type 0 where
  pub part : PartValue
  pub join : IsJoinOf inputs.0 inputs.1 part
  pub tells : DeterminesRecordingAnswer part files what

-- the command `tell` ends: one part is joined from all inputs, and the answer is about the recording, which has `files`
-- files
abbrev pub TellsRecording : List (List ℕ) → List Reading × List Reading → Option ℕ → Writing × Writing
    → Writing × Writing
    → ℕ → Type 0
TellsRecording names inputs files out err status =
    DoesOfParts (IsToldOf inputs files) told_answer names inputs out err status

-- the command ends with the listing from the part p, or with that for lack of memory
abbrev pub ListsPart : PartValue → Option ℕ → Writing × Writing → Writing × Writing → ℕ → Type 0
ListsPart p files out err status =
    ((what : ListingAnswer) × DeterminesListingAnswer p files what × Ends (listed_answer what) out err status)
    ⊎ Ends (refusal_answer Memory) out err status

-- `what` is the answer to listing the recording, which has `files` files, from one part joined from all inputs
pub record IsListedOf (inputs : List Reading × List Reading) (files : Option ℕ) (what : ListingAnswer) : Type 0 where
  pub part : PartValue
  pub join : IsJoinOf inputs.0 inputs.1 part
  pub lists : DeterminesListingAnswer part files what

-- the command `tell --list` ends: one part is joined from all inputs, and the recording, which has `files` files, is
-- listed
abbrev pub ListsRecording : List (List ℕ) → List Reading × List Reading → Option ℕ → Writing × Writing
    → Writing × Writing
    → ℕ → Type 0
ListsRecording names inputs files out err status =
    DoesOfParts (IsListedOf inputs files) listed_answer names inputs out err status
