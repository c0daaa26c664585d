-- How `annotate` and `list --times` end, by what they read.
use Rattle.std.specs.Prelude.{◌≡◌, ◌≢◌, ℕ, List, [], Option, None, Some, Result, Ok, Err}
use Rattle.vme_trace.specs.Streams.{Reading, Writing}
use Rattle.vme_trace.specs.Trace.{Trace}
use Rattle.vme_trace.specs.Verdict.{verdict_by, rules_in_force}
use Rattle.vme_stream.specs.Answers.{AnswerGives, CommandAnswer, refusal_answer}
use Rattle.vme_stream.specs.Ends.{AnswersInputs, Ends, WritesAnswer}
use Rattle.vme_stream.specs.Texts.{verdict_status}
use Rattle.vme_stream.specs.declared.refusal.Refusal.{Refusal}
use Rattle.vme_commands.specs.Settled.{settled_recording}
use Rattle.vme_commands.specs.declared.built_in.TheConstants.{BLOCK}
use Rattle.vme_stream.specs.Inputs.{IsReading, IsReadWhole}
use Rattle.vme_annotation.specs.Annotated.{IsAnnotated}
use Rattle.vme_annotate.specs.TimedListings.{timed_text}

-- ---- listings with times

-- the listing of a recording is written with times, and the exit status is that of the verdict
abbrev pub timed_answer_by : Result Trace Refusal → CommandAnswer
timed_answer_by (Ok t) =
    record { out = timed_text t; error = []; status = verdict_status (verdict_by rules_in_force t) }
timed_answer_by (Err refusal) = refusal_answer refusal

-- the answer to a binding and a dump, to be listed with times; each is given by its bytes, or is unreadable
abbrev pub timed_answer_of : ℕ → Option (List ℕ) → Option (List ℕ) → ℕ → CommandAnswer
timed_answer_of skew binding dump block = timed_answer_by (settled_recording skew binding dump block)

-- the recording that the inputs give, deskewed, is listed with times; or the answer is that of their refusal or of
-- `Memory`
abbrev pub WritesTimes : ℕ → Reading × Reading → Reading × Reading → ℕ → Writing × Writing → Writing × Writing → ℕ
    → Type 0
WritesTimes skew binding dump block out err status =
    AnswersInputs timed_answer_by (λ b d recording. AnswerGives (λ t. t) recording (settled_recording skew b d block))
    binding dump out err status

-- ---- annotated dumps

-- the annotated dump with the status of the verdict on its recording, or the answer of a refusal
abbrev pub annotation_answer_by : List ℕ → Result Trace Refusal → CommandAnswer
annotation_answer_by text (Ok t) =
    record { out = text; error = []; status = verdict_status (verdict_by rules_in_force t) }
annotation_answer_by text (Err refusal) = refusal_answer refusal

-- the text is the dump, annotated, if there is a recording of it
abbrev pub IsAnnotationOf : Option (List ℕ) → Result Trace Refusal → List ℕ → Type 0
IsAnnotationOf (Some dump) (Ok t) text = IsAnnotated dump t text
IsAnnotationOf None (Ok t) text = ⊥
IsAnnotationOf dump (Err refusal) text = Unit {0}

-- The binding and the dump are read, or can't be. The recording that they make is deskewed by `skew`, unless memory
-- runs out. The annotated dump is written, unless a write of it fails.
abbrev pub Annotates : ℕ → Reading × Reading → Reading × Reading → Writing × Writing → Writing × Writing → ℕ → Type 0
Annotates skew binding dump out err status =
    (binding_bytes dump_bytes : Option (List ℕ)) × (read : Result Trace Refusal) × (text : List ℕ)
    × IsReading binding.0 binding.1 binding_bytes
    × IsReading dump.0 dump.1 dump_bytes
    × AnswerGives (λ t. t) read (settled_recording skew binding_bytes dump_bytes BLOCK)
    × IsAnnotationOf dump_bytes read text
    × Ends (annotation_answer_by text read) out err status

-- the answer to a binding and a dump with these bytes is written
abbrev pub TellsAnnotation : ℕ → List ℕ → List ℕ → Writing × Writing → Writing × Writing → ℕ → Type 0
TellsAnnotation skew binding dump out err status =
    (text : List ℕ)
    × IsAnnotationOf (Some dump) (settled_recording skew (Some binding) (Some dump) BLOCK) text
    × WritesAnswer (annotation_answer_by text (settled_recording skew (Some binding) (Some dump) BLOCK)) out err status

-- if both inputs are read whole, no write to `out` fails and memory suffices, exactly their answer is written
abbrev pub AnnotatesExactly : ℕ → Reading × Reading → Reading × Reading → Writing × Writing → Writing × Writing → ℕ
    → Type 0
AnnotatesExactly skew binding dump out err status =
    (b d : List ℕ) → IsReadWhole binding.0 binding.1 b → IsReadWhole dump.0 dump.1 d → out.1.failures ≡ out.0.failures
    → status ≢ 4 → TellsAnnotation skew b d out err status
