-- The result of workers, and how the command ends by it, compared with the answer of a check.
use Rattle.std.proofs.Common.{◌≡◌, ◌≤◌, ◌↔◌, ℕ, suc, List, Result, Ok, Err, refl, sym, subst, arith}
use Rattle.std.specs.Prelude.{Option, Some}
use Rattle.std.proofs.lemmas.Bool.{le-ltb}
use Rattle.vme_stream.specs.Answers.{answer_by, answer_of, judgement_of, verdict_in_blocks}
use Rattle.vme_stream.specs.Ends.{WritesAnswer}
use Rattle.vme_stream.specs.declared.refusal.Refusal.{Refusal}
use Rattle.vme_stream.specs.declared.refusal.Refusal.TheVariants as refused
use Rattle.vme_stream.proofs.EndLemmas.{AnswersInputs-exact, AnswersInputs-unwritten, answer-AnswerGives}
use Rattle.vme_stream.proofs.EndLemmas.{refusal_status-small}
use Rattle.vme_stream.proofs.EndLemmas.{verdict_status-small}
use Rattle.vme_floor.specs.declared.report.Report.{Report}
use Rattle.vme_floor.specs.declared.report.RunFault.{RunFault}
use Rattle.vme_pod_check.specs.Judgements.{ChecksByPods, Finds, IsPassing, NeedsThreads, pods_answer_by}
use Rattle.vme_pod_check.specs.declared.unjudged.Unjudged.{Unjudged}
use Rattle.vme_pod_check.specs.declared.unjudged.Unjudged.TheVariants.{Refused, NoWorker, Stray}
use Rattle.vme_stream.specs.Inputs.{IsReadWhole}
use Rattle.vme_trace.specs.Streams.{Reading, Writing}
use Rattle.vme_trace.specs.Blocks.{block_count}
use Rattle.vme_trace.specs.Trace.{Trace}
use Rattle.vme_trace.specs.Verdict.{verdict_by, rules_in_force}
use Rattle.vme_trace.specs.declared.verdict.Verdict.{Verdict}

-- workers that have the verdict of a check find its answer
pub Finds-same_verdict : (v w : Verdict) → w ≡ v → Finds (Ok w) (Ok v)
Finds-same_verdict v w is = λ i. Ok (sym is i)

-- an outcome with a fault has an equal fault
pub Err-same_fault : (outcome : Result Report RunFault) (f g : RunFault) → outcome ≡ Err f → f ≡ g → outcome ≡ Err g
Err-same_fault outcome f g is same = subst (λ (x : RunFault). outcome ≡ Err x) same is

-- workers may end without a verdict for a reason after which another run may have one
pub Finds-passing : (unjudged : Unjudged) (there : Result Verdict Refusal) → IsPassing unjudged
    → Finds (Err unjudged) there
Finds-passing (Refused refused.Memory) there is = tt
Finds-passing (Refused refusal) there is = absurd is
Finds-passing NoWorker there is = tt
Finds-passing Stray there is = absurd is

-- a recording of at most 4,096 blocks has its verdict as judgement
verdict_in_blocks-few : (block : ℕ) (t : Trace) → block_count block t ≤ 4096 → verdict_in_blocks block t
    ≡ Ok (verdict_by rules_in_force t)
verdict_in_blocks-few block t few = rw (le-ltb 4096 (block_count block t) few) refl

-- workers that find the verdict on a recording of at most 4,096 blocks find its judgement
pub Finds-few_blocks : (block : ℕ) (t : Trace) (given : Result Verdict Unjudged) → block_count block t ≤ 4096
    → Finds given (Ok (verdict_by rules_in_force t)) → Finds given (verdict_in_blocks block t)
Finds-few_blocks block t given few is = subst (λ (there : Result Verdict Refusal). Finds given there)
    (sym (verdict_in_blocks-few block t few)) is

-- ---- how the command ends

-- the status for the workers' result is at most 4
pods_answer_by-status_bound : (found : Result Verdict Unjudged) → (pods_answer_by found).status ≤ 4
pods_answer_by-status_bound (Ok v) = verdict_status-small v
pods_answer_by-status_bound (Err (Refused r)) = refusal_status-small r
pods_answer_by-status_bound (Err NoWorker) = omega arith
pods_answer_by-status_bound (Err Stray) = omega arith

-- unless the status is 4, the answer for the workers' result is that of a check
pods_answer_by-as_checked : (there : Result Verdict Refusal) (found : Result Verdict Unjudged) → Finds found there
    → ((pods_answer_by found).status ≡ 4 → ⊥)
    → pods_answer_by found ≡ answer_by there
pods_answer_by-as_checked there (Ok v) finds other = answer-AnswerGives answer_by refl (Ok v) there finds other
pods_answer_by-as_checked there (Err (Refused r)) finds other =
    answer-AnswerGives answer_by refl (Err r) there finds other
pods_answer_by-as_checked there (Err NoWorker) finds other = absurd (other refl)
pods_answer_by-as_checked there (Err Stray) finds other = absurd finds

-- the workers may have found this for the texts b and d of the binding and the dump
abbrev MayFind : ℕ → ℕ → Option (List ℕ) → Option (List ℕ) → Result Verdict Unjudged → Type 0
MayFind block workers b d found = Finds found (judgement_of b d block) × NeedsThreads workers found

-- the status is 5 exactly if a write to standard output failed
pub Checks-unwritten : (binding dump : Reading × Reading) (block workers : ℕ) (out err : Writing × Writing) (status : ℕ)
    → ChecksByPods binding dump block workers out err status
    → (status ≡ 5) ↔ (out.1.failures ≡ suc out.0.failures)
Checks-unwritten binding dump block workers out err status =
    AnswersInputs-unwritten pods_answer_by pods_answer_by-status_bound
    (MayFind block workers) binding dump out err status

-- if both inputs are read whole, no write fails, and the status isn't 4, the answer is that of a check
pub Checks-exact : (binding dump : Reading × Reading) (block workers : ℕ) (out err : Writing × Writing) (status : ℕ)
    → ChecksByPods binding dump block workers out err status
    → (b d : List ℕ) → IsReadWhole binding.0 binding.1 b → IsReadWhole dump.0 dump.1 d
    → out.1.failures ≡ out.0.failures → (status ≡ 4 → ⊥)
    → WritesAnswer (answer_of (Some b) (Some d) block) out err status
Checks-exact binding dump block workers out err status checks b d =
    AnswersInputs-exact pods_answer_by pods_answer_by-status_bound (MayFind block workers) binding dump out err status
    checks b
    d
    (answer_of (Some b) (Some d) block)
    (λ found may. pods_answer_by-as_checked (judgement_of (Some b) (Some d) block) found may.0)
