-- How `check` with a skew ends: status 5 exactly where a write failed, and else exactly its answer; with a skew of 0 it
-- is `check` without one.
use Rattle.std.proofs.Common.{◌≡◌, ◌≤◌, ◌↔◌, ◌∙◌, ℕ, suc, List, refl, ap, subst}
use Rattle.std.specs.Prelude.{Option, Some, Result, Ok, Err}
use Rattle.vme_trace.specs.Streams.{Reading, Writing}
use Rattle.vme_trace.specs.declared.verdict.Verdict.{Verdict}
use Rattle.vme_stream.specs.Answers.{AnswerGives, answer_by}
use Rattle.vme_stream.specs.Ends.{Checks, WritesAnswer}
use Rattle.vme_stream.specs.declared.refusal.Refusal.{Refusal}
use Rattle.vme_stream.proofs.EndLemmas.{AnswersInputs-exact, AnswersInputs-unwritten, answer-AnswerGives}
use Rattle.vme_stream.proofs.EndLemmas.{refusal_status-small}
use Rattle.vme_stream.proofs.EndLemmas.{verdict_status-small}
use Rattle.vme_stream.specs.Inputs.{IsReadWhole}
use Rattle.vme_commands.specs.Settled.{ChecksSettled, settled_answer_of, settled_judgement}
use Rattle.vme_commands.proofs.SettledLemmas.{settled_judgement-zero_skew}

-- the status of the answer to a verdict or a refusal is at most 4
answer_by-small : (judged : Result Verdict Refusal) → (answer_by judged).status ≤ 4
answer_by-small (Ok v) = verdict_status-small v
answer_by-small (Err r) = refusal_status-small r

-- the result of judging agrees with the verdict on the deskewed recording of `b` and `d`
abbrev MayJudge : ℕ → ℕ → Option (List ℕ) → Option (List ℕ) → Result Verdict Refusal → Type 0
MayJudge skew block b d judged = AnswerGives (λ (v : Verdict). v) judged (settled_judgement skew b d block)

module _ (skew : ℕ) where
  -- the status is 5 exactly where a write on the output failed
  pub ChecksSettled-unwritten : (binding dump : Reading × Reading) (block : ℕ) (out err : Writing × Writing)
      (status : ℕ) → ChecksSettled skew binding dump block out err status
      → (status ≡ 5) ↔ (out.1.failures ≡ suc out.0.failures)
  ChecksSettled-unwritten binding dump block out err status = AnswersInputs-unwritten answer_by answer_by-small
      (MayJudge skew block) binding dump out err status

  -- if the inputs are read whole, no write fails and the status isn't 4, exactly the answer of their bytes is written
  pub ChecksSettled-exact : (binding dump : Reading × Reading) (block : ℕ) (out err : Writing × Writing) (status : ℕ)
      → ChecksSettled skew binding dump block out err status
      → (b d : List ℕ) → IsReadWhole binding.0 binding.1 b → IsReadWhole dump.0 dump.1 d
      → out.1.failures ≡ out.0.failures → (status ≡ 4 → ⊥)
      → WritesAnswer (settled_answer_of skew (Some b) (Some d) block) out err status
  ChecksSettled-exact binding dump block out err status checks b d =
      AnswersInputs-exact answer_by answer_by-small (MayJudge skew block) binding dump out err status checks b d
      (settled_answer_of skew (Some b) (Some d) block)
      (λ found. answer-AnswerGives answer_by refl found (settled_judgement skew (Some b) (Some d) block))

  -- with a skew of 0 `check` judges what the binding makes of the dump
  pub Checks-zero_skew : skew ≡ 0 → (binding dump : Reading × Reading) (block : ℕ) (out err : Writing × Writing)
      (status : ℕ) → ChecksSettled skew binding dump block out err status
      → Checks binding dump block out err status
  Checks-zero_skew none binding dump block out err status checks =
      let (b, d, judged, binding_reading, dump_reading, may, end) = checks in
      let same = ap (λ (s : ℕ). settled_judgement s b d block) none ∙ settled_judgement-zero_skew b d block in (
        b,
        d,
        judged,
        binding_reading,
        dump_reading,
        subst (AnswerGives (λ (v : Verdict). v) judged) same may,
        end,
      )
