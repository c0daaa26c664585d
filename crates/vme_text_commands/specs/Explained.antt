-- A verdict with its explanation.
use Rattle.std.specs.Prelude.{◌≡◌, ℕ, ◌++◌, List, Option, None, Some, Result, Ok, Err}
use Rattle.vcd_read.specs.Contents.{Contents}
use Rattle.vcd_read.specs.Header.{◌>>=◌}
use Rattle.vme_bind.specs.Binding.{BoundLines}
use Rattle.vme_trace.specs.Streams.{Reading, Writing}
use Rattle.vme_trace.specs.declared.verdict.Verdict.{Verdict}
use Rattle.vme_text_commands.specs.declared.explain.Explained.{Explained}
use Rattle.vme_text_commands.specs.declared.explain.ExplainedFiles.{ExplainedFiles}
use Rattle.vme_stream.specs.declared.refusal.Refusal.{Refusal}
use Rattle.vme_stream.specs.Answers.{CommandAnswer, AnswerGives, capture_by}
use Rattle.vme_stream.specs.Answers.{verdict_in_blocks}
use Rattle.vme_stream.specs.Ends.{Ends}
use Rattle.vme_picture.specs.Pictures.{IsPicture}
use Rattle.vme_stream.specs.Inputs.{IsReading}
use Rattle.vme_stream.specs.Texts.{line_of, verdict_status, verdict_text}
use Rattle.vme_commands.specs.Settled.{settled_judgement}
use Rattle.vme_skew.specs.Settled.{settled_or}
use Rattle.vme_text.specs.Escaping.{IsVisible}
use Rattle.vme_text_commands.specs.Refused.{HasRefusalPage, refusal_with}
use Rattle.vme_text_commands.specs.TextAnswers.{text_answer}

-- the verdict on the recording that a binding makes of what reading the dump gave, deskewed by `skew`
abbrev pub judged_by : ℕ → BoundLines → Result Contents Refusal → Result Verdict Refusal
judged_by skew bound dump = do
  t ← settled_or skew (capture_by bound dump)
  verdict_in_blocks 16384 t

-- the text begins with the line of the verdict, as a check writes it, and then has visible characters, spaces and line
-- feeds alone
abbrev pub BeginsWithLine : Explained → Type 0
BeginsWithLine told =
    (rest : List ℕ) × IsVisible rest × (told.text ≡ line_of (verdict_text told.verdict) ++ rest)

-- the text begins with the line of the verdict, and then is visible; and there is a picture
abbrev pub IsExplainedWhole : Explained → Type 0
IsExplainedWhole told = BeginsWithLine told × IsPicture told.files.picture

-- an explanation that was made is whole
abbrev pub IsExplained : Result Explained Refusal → Type 0
IsExplained (Ok told) = IsExplainedWhole told
IsExplained (Err refusal) = Unit {0}

-- the explanation with the status of its verdict, or a refusal with `more` after its line
abbrev pub explained_answer_by : List ℕ → Result Explained Refusal → CommandAnswer
explained_answer_by more (Ok told) = text_answer (verdict_status told.verdict) told.text
explained_answer_by more (Err refusal) = refusal_with more refusal

-- the files of an explanation; a refusal has none
abbrev pub explained_files : Result Explained Refusal → Option ExplainedFiles
explained_files (Ok told) = Some told.files
explained_files (Err refusal) = None

-- The binding and the dump are read, or can't be. The verdict is that of a check with the skew, unless memory runs out.
-- The explanation begins with the verdict's line, and has its status, unless a write of it fails. After the line of a
-- refusal `more` is written. `files` are those of the explanation, which also has them where a write of it fails.
abbrev pub ExplainsWith : ℕ → Reading × Reading → Reading × Reading → Option ExplainedFiles
    → Writing × Writing → Writing × Writing → ℕ → Type 0
ExplainsWith skew binding dump files out err status =
    (binding_bytes dump_bytes : Option (List ℕ)) × (told : Result Explained Refusal) × (more : List ℕ)
    × IsReading binding.0 binding.1 binding_bytes
    × IsReading dump.0 dump.1 dump_bytes
    × AnswerGives (λ (e : Explained). e.verdict) told (settled_judgement skew binding_bytes dump_bytes 16384)
    × IsExplained told
    × HasRefusalPage told more
    × (files ≡ explained_files told)
    × Ends (explained_answer_by more told) out err status

-- the recording is explained, whatever becomes of the files
abbrev pub Explains : ℕ → Reading × Reading → Reading × Reading → Writing × Writing → Writing × Writing → ℕ → Type 0
Explains skew binding dump out err status =
    (files : Option ExplainedFiles) × ExplainsWith skew binding dump files out err status
