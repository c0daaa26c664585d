-- How a command ends, by what it reads and finds.
use Rattle.std.specs.Prelude.{◌≡◌, ◌≢◌, ◌⊎◌, ℕ, List, Option}
use Rattle.vme_trace.specs.Streams.{Reading, Writing}
use Rattle.vme_stream.specs.Answers.{CommandAnswer, AnswerGives, answer_by, judgement_of}
use Rattle.vme_stream.specs.Inputs.{IsReading, IsReadWhole}
use Rattle.vme_stream.specs.Outputs.{Writes, FailsToWrite, TriesToWrite}
use Rattle.vme_stream.specs.Texts.{cannot_write_text, line_of}

-- An input is a pair: the state of its source before and after. An output is such a pair of its sink.

-- the answer was written, and its status returned
pub record WritesAnswer (answer : CommandAnswer) (out err : Writing × Writing) (status : ℕ) : Type 0 where
  pub out_is : Writes out.0 out.1 answer.out
  pub err_is : TriesToWrite err.0 err.1 answer.error
  pub status_is : status ≡ answer.status

-- if the inputs are read whole, no write on the output fails and memory suffices, exactly `answer` of their bytes is
-- written
abbrev pub WritesAnswerExactly : (List ℕ → List ℕ → CommandAnswer) → Reading × Reading → Reading × Reading
    → Writing × Writing → Writing × Writing → ℕ → Type 0
WritesAnswerExactly answer binding dump out err status =
    (b d : List ℕ) → IsReadWhole binding.0 binding.1 b → IsReadWhole dump.0 dump.1 d → out.1.failures ≡ out.0.failures
    → status ≢ 4 → WritesAnswer (answer b d) out err status

-- a write of the answer failed
pub record FailsToWriteAnswer (answer : CommandAnswer) (out err : Writing × Writing) (status : ℕ) : Type 0 where
  pub out_is : FailsToWrite out.0 out.1 answer.out
  pub err_is : TriesToWrite err.0 err.1 (line_of cannot_write_text)
  pub status_is : status ≡ 5

-- the answer was written, and its status returned; or a write of the answer failed
abbrev pub Ends : CommandAnswer → Writing × Writing → Writing × Writing → ℕ → Type 0
Ends answer out err status = WritesAnswer answer out err status ⊎ FailsToWriteAnswer answer out err status

-- Each input is read, or can't be. Something is found that may be found of their bytes. Its answer is written, unless a
-- write of it fails.
abbrev pub AnswersInputs : {A : Type 0} → (A → CommandAnswer) → (Option (List ℕ) → Option (List ℕ) → A → Type 0)
    → Reading × Reading → Reading × Reading → Writing × Writing → Writing × Writing → ℕ → Type 0
AnswersInputs {A} answer MayFind binding dump out err status =
    (binding_bytes dump_bytes : Option (List ℕ)) × (found : A)
    × IsReading binding.0 binding.1 binding_bytes
    × IsReading dump.0 dump.1 dump_bytes
    × MayFind binding_bytes dump_bytes found
    × Ends (answer found) out err status

-- the inputs are judged, unless memory ran out
abbrev pub Checks : Reading × Reading → Reading × Reading → ℕ → Writing × Writing → Writing × Writing → ℕ → Type 0
Checks binding dump block out err status =
    AnswersInputs answer_by (λ b d judged. AnswerGives (λ v. v) judged (judgement_of b d block)) binding dump out err
    status
