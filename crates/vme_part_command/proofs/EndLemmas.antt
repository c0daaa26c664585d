-- How the commands for parts end, by their results.
use Rattle.std.proofs.Common.{◌≡◌, ℕ, List, [], Option, Ok, Err, refl, inl, inr}
use Rattle.std.proofs.KnownBytes.{Appends-nil}
use Rattle.vme_trace.specs.Streams.{Reading, Writing}
use Rattle.vme_stream.specs.Inputs.{IsReading}
use Rattle.vme_stream.specs.Outputs.{TriesToWrite}
use Rattle.vme_stream.specs.Answers.{CommandAnswer, binding_read, dump_read}
use Rattle.vme_stream.specs.Ends.{Ends}
use Rattle.vme_stream.specs.Texts.{line_of}
use Rattle.vme_stream.specs.declared.refusal.Refusal.TheVariants.{Memory}
use Rattle.vme_part_format.specs.Tables.{PartValue}
use Rattle.vme_parts.specs.declared.answers.RecordingAnswer.{RecordingAnswer}
use Rattle.vme_parts.specs.declared.answers.RecordingAnswer.TheVariants.{Verdict}
use Rattle.vme_parts.specs.declared.answers.WideVerdict.{WideVerdict}
use Rattle.vme_part_command.specs.PartAnswers.{Complains, ComplainsUnlessMemory, DoesOfParts, EndsUnlessMemory}
use Rattle.vme_part_command.specs.PartAnswers.{ListsPart, ListsRecording, no_join_answer, refusing, told_answer}
use Rattle.vme_part_command.specs.Lines.{told_text}
use Rattle.vme_part_command.specs.Inputs.{IsJoinOf, IsNoJoin}
use Rattle.vme_part_command.specs.Written.{FindsPart, WritesPart, dump_recording, no_part_answer, written_part}
use Rattle.vme_part_command.specs.declared.inputs.NoJoin.{NoJoin}
use Rattle.vme_part_command.specs.declared.inputs.NoJoin.TheVariants as none
use Rattle.vme_part_command.specs.declared.no_part.NoPart.{NoPart}
use Rattle.vme_part_command.specs.declared.no_part.NoPart.TheVariants as no_part
use Rattle.vme_part_command.specs.declared.part.PartOptions.{PartOptions}

-- a command that complains of a refusal, and writes nothing to standard output, ends with that refusal
pub Ends-complaint : (error : List ℕ) (s : ℕ) (out : Writing) (err : Writing × Writing) (status : ℕ)
    → Complains (record { out = []; error = error; status = s }) err status
    → Ends (record { out = []; error = error; status = s }) (out, out) err status
Ends-complaint error s out err status told =
    inl (record { out_is = (Appends-nil _, refl); err_is = told.err_is; status_is = told.status_is })

-- if the line was written, or a write of it failed, and the status is 3, `Complains` holds of the refusal
pub Complains-refusing : (text : List ℕ) (err : Writing × Writing) (status : ℕ)
    → TriesToWrite err.0 err.1 (line_of text)
    → status ≡ 3 → Complains (refusing text) err status
Complains-refusing text err status told is = record { err_is = told; status_is = is }

-- if the line of a refusal was written, or a write of it failed, and the status is 3, the command ends with the refusal
pub Ends-refusing : (text : List ℕ) (out : Writing) (err : Writing × Writing) (status : ℕ)
    → TriesToWrite err.0 err.1 (line_of text) → status ≡ 3 → Ends (refusing text) (out, out) err status
Ends-refusing text out err status told is =
    Ends-complaint _ _ out err status (Complains-refusing text err status told is)

-- an answer about the recording that isn't the verdict is a refusal
pub told_answer-refused : (what : RecordingAnswer) → ((v : WideVerdict) → what ≡ Verdict v → ⊥)
    → told_answer what ≡ refusing (told_text what)
told_answer-refused (Verdict v) other = absurd (other v refl)
told_answer-refused what other = refl

-- ---- results from parts

module _ {X : Type 0} (IsFound : X → Type 0) (answer : X → CommandAnswer) (names : List (List ℕ))
    (inputs : List Reading × List Reading) (err : Writing × Writing) (status : ℕ) where
  -- if the command ends with the answer for what was found, it does what it should with the parts
  pub DoesOfParts-found : (x : X) (out : Writing × Writing) → IsFound x → Ends (answer x) out err status
      → DoesOfParts IsFound answer names inputs out err status
  DoesOfParts-found x out is ends = (Ok x, is, ends)

  -- if the command ends with the answer for what was found, or with that for want of memory, it does what it should
  -- with the parts
  pub DoesOfParts-written : (x : X) (out : Writing × Writing) → IsFound x → EndsUnlessMemory (answer x) out err status
      → DoesOfParts IsFound answer names inputs out err status
  DoesOfParts-written x out is (inl ends) = (Ok x, is, ends)
  DoesOfParts-written x out is (inr ends) = (Err none.Memory, tt, ends)

  -- if the parts can't be joined, and the command complains of this, it does what it should
  pub DoesOfParts-not_joined : (why : NoJoin) (out : Writing) → IsNoJoin inputs.0 inputs.1 why
      → ComplainsUnlessMemory (no_join_answer names why) err status
      → DoesOfParts IsFound answer names inputs (out, out) err status
  DoesOfParts-not_joined why out is (inl told) = (Err why, is, Ends-complaint _ _ out err status told)
  DoesOfParts-not_joined why out is (inr told) = (Err none.Memory, tt, Ends-complaint _ _ out err status told)

-- if the command ends with the listing from one part of all inputs, it lists the recording
pub ListsRecording-of_parts : (names : List (List ℕ)) (inputs : List Reading × List Reading) (files : Option ℕ)
    (p : PartValue)
    (out err : Writing × Writing) (status : ℕ) → IsJoinOf inputs.0 inputs.1 p → ListsPart p files out err status
    → ListsRecording names inputs files out err status
ListsRecording-of_parts names inputs files p out err status join (inl told) =
    (Ok told.0, record { part = p; join = join; lists = told.1 }, told.2)
ListsRecording-of_parts names inputs files p out err status join (inr told) = (Err none.Memory, tt, told)

-- ---- results from a dump

module _ (o : PartOptions) (binding dump : Reading × Reading) (err : Writing × Writing) (status : ℕ)
    (b d : Option (List ℕ)) (binding_reading : IsReading binding.0 binding.1 b)
    (dump_reading : IsReading dump.0 dump.1 d) where
  -- if the command ends with the part of the dump, or for want of memory, it does what it should
  pub WritesPart-found : (p : PartValue) (out : Writing × Writing)
      → FindsPart (λ (q : PartValue). q) o (dump_recording (binding_read b) (dump_read d)) (Ok p)
      → EndsUnlessMemory (written_part p) out err status
      → WritesPart o binding dump out err status
  WritesPart-found p out is (inl ends) = (b, d, Ok p, binding_reading, dump_reading, is, ends)
  WritesPart-found p out is (inr ends) = (b, d, Err (no_part.Refused Memory), binding_reading, dump_reading, tt, ends)

  -- if there is no part, and the command complains of the reason, it does what it should
  pub WritesPart-none : (why : NoPart) (out : Writing)
      → FindsPart (λ (q : PartValue). q) o (dump_recording (binding_read b) (dump_read d)) (Err why)
      → Complains (no_part_answer why) err status
      → WritesPart o binding dump (out, out) err status
  WritesPart-none why out is told =
      (b, d, Err why, binding_reading, dump_reading, is, Ends-complaint _ _ out err status told)
