-- The result of workers for a recording, and the command's answer.
use Rattle.std.specs.Prelude.{◌≡◌, ◌<◌, ℕ, [], List, codes, IfErr, Result, Ok, Err}
use Rattle.vme_stream.specs.Answers.{CommandAnswer, AnswerGives, answer_by, judgement_of}
use Rattle.vme_stream.specs.Ends.{AnswersInputs}
use Rattle.vme_stream.specs.Texts.{line_of, refusal_status, refusal_text}
use Rattle.vme_stream.specs.declared.refusal.Refusal.{Refusal}
use Rattle.vme_stream.specs.declared.refusal.Refusal.TheVariants.{Memory}
use Rattle.vme_pod_check.specs.declared.unjudged.Unjudged.{Unjudged}
use Rattle.vme_pod_check.specs.declared.unjudged.Unjudged.TheVariants.{Refused, NoWorker, Stray}
use Rattle.vme_trace.specs.Streams.{Reading, Writing}
use Rattle.vme_trace.specs.declared.verdict.Verdict.{Verdict}

-- the result of workers is the judgement `there`, unless memory ran out or a thread couldn't be started; it is never
-- `Stray`
abbrev pub Finds : Result Verdict Unjudged → Result Verdict Refusal → Type 0
Finds (Ok verdict) there = there ≡ Ok verdict
Finds (Err (Refused refusal)) there = AnswerGives (λ (v : Verdict). v) (Err refusal) there
Finds (Err NoWorker) there = Unit {0}
Finds (Err Stray) there = ⊥

-- one worker needs no thread
abbrev pub NeedsThreads : ℕ → Result Verdict Unjudged → Type 0
NeedsThreads workers found = IfErr found (λ unjudged. unjudged ≡ NoWorker → 1 < workers)

-- another run may have an answer
abbrev pub IsPassing : Unjudged → Type 0
IsPassing (Refused Memory) = Unit {0}
IsPassing (Refused refusal) = ⊥
IsPassing NoWorker = Unit {0}
IsPassing Stray = ⊥

-- ---- the answer

-- the text where nothing was judged
abbrev pub unjudged_text : Unjudged → List ℕ
unjudged_text (Refused refusal) = refusal_text refusal
unjudged_text NoWorker = codes "vmecheck: cannot start a worker"
unjudged_text Stray = codes "vmecheck: stray block"

-- the exit status where nothing was judged
abbrev pub unjudged_status : Unjudged → ℕ
unjudged_status (Refused refusal) = refusal_status refusal
unjudged_status NoWorker = 4
unjudged_status Stray = 4

-- the answer by the verdict, or by why nothing was judged
abbrev pub pods_answer_by : Result Verdict Unjudged → CommandAnswer
pods_answer_by (Ok verdict) = answer_by (Ok verdict)
pods_answer_by (Err unjudged) =
    record { out = []; error = line_of (unjudged_text unjudged); status = unjudged_status unjudged }

-- The recording of the inputs is judged by `workers` workers, and the command ends with their result as a check does.
abbrev pub ChecksByPods : Reading × Reading → Reading × Reading → ℕ → ℕ
    → Writing × Writing → Writing × Writing → ℕ → Type 0
ChecksByPods binding dump block workers out err status =
    AnswersInputs pods_answer_by (λ b d found. Finds found (judgement_of b d block) × NeedsThreads workers found)
    binding dump out err status
