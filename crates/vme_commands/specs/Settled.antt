-- The recording of a binding and a dump, settled, i.e. deskewed, by a skew, before it is judged or listed. The limit on
-- its steps counts those before deskewing, and the limit on blocks those after it.
use Rattle.std.specs.Prelude.{ℕ, List, Option, Result}
use Rattle.vcd_read.specs.Header.{◌>>=◌}
use Rattle.vme_trace.specs.Streams.{Reading, Writing}
use Rattle.vme_trace.specs.Trace.{Trace}
use Rattle.vme_trace.specs.declared.verdict.Verdict.{Verdict}
use Rattle.vme_skew.specs.Settled.{settled_or}
use Rattle.vme_stream.specs.Answers.{CommandAnswer, AnswerGives, answer_by, capture_read, verdict_in_blocks}
use Rattle.vme_stream.specs.Ends.{AnswersInputs}
use Rattle.vme_stream.specs.declared.refusal.Refusal.{Refusal}
use Rattle.vme_commands.specs.Judged.{in_blocks}

-- the recording that a binding makes of a dump, deskewed by `skew`, or the first reason that there is none
unfoldable pub settled_read : ℕ → Option (List ℕ) → Option (List ℕ) → Result Trace Refusal
settled_read skew binding dump = settled_or skew (capture_read binding dump)

-- the deskewed recording, if it needs at most 4,096 blocks of `block` steps
unfoldable pub settled_recording : ℕ → Option (List ℕ) → Option (List ℕ) → ℕ → Result Trace Refusal
settled_recording skew binding dump block = do
  t ← settled_read skew binding dump
  in_blocks block t

-- the verdict on the deskewed recording
unfoldable pub settled_judgement : ℕ → Option (List ℕ) → Option (List ℕ) → ℕ → Result Verdict Refusal
settled_judgement skew binding dump block = do
  t ← settled_read skew binding dump
  verdict_in_blocks block t

-- the answer to a binding and a dump, to be deskewed by `skew` and judged; each is given by its bytes, or is unreadable
abbrev pub settled_answer_of : ℕ → Option (List ℕ) → Option (List ℕ) → ℕ → CommandAnswer
settled_answer_of skew binding dump block = answer_by (settled_judgement skew binding dump block)

-- the recording that the inputs give, deskewed, is judged; or the answer is that of their refusal or of `Memory`
abbrev pub ChecksSettled : ℕ → Reading × Reading → Reading × Reading → ℕ → Writing × Writing → Writing × Writing → ℕ
    → Type 0
ChecksSettled skew binding dump block out err status =
    AnswersInputs answer_by (λ b d judged. AnswerGives (λ v. v) judged (settled_judgement skew b d block))
    binding dump out err status
