-- A command that ends as `AnswersInputs` says has status 5 exactly where a write failed, and writes exactly its answer
-- if nothing fails.
use Rattle.std.proofs.Common.{◌≡◌, ◌+◌, ◌≤◌, ◌<◌, ◌↔◌, ℕ, suc, List, length, IfSome, refl, ap, sym, subst, ◌∙◌, inl}
use Rattle.std.proofs.Common.{inr, arith}
use Rattle.std.specs.Prelude.{◌⊎◌, Option, Some, None, Result, Ok, Err}
use Rattle.vme_trace.specs.declared.verdict.Verdict.{Verdict}
use Rattle.vme_trace.specs.declared.verdict.Verdict.TheVariants.{Conforming}
use Rattle.vme_stream.specs.declared.refusal.Refusal.{Refusal}
use Rattle.vme_stream.specs.declared.refusal.Refusal.TheVariants.{Memory}
use Rattle.vme_stream.specs.Answers.{CommandAnswer, AnswerGives, answer_by, answer_of, judgement_of}
use Rattle.vme_stream.specs.Ends.{WritesAnswer, Ends, AnswersInputs, Checks}
use Rattle.vme_stream.specs.Inputs.{IsReading, IsReadWhole, fewest_short_reads, most_reads}
use Rattle.vme_trace.specs.Streams.{Reading, Writing}
use Rattle.vme_stream.specs.Texts.{verdict_status, refusal_status}

-- the status of a verdict is at most 4
pub verdict_status-small : (v : Verdict) → verdict_status v ≤ 4
verdict_status-small Conforming = omega arith
verdict_status-small v = omega arith

-- the status of a refusal is at most 4
pub refusal_status-small : (r : Refusal) → refusal_status r ≤ 4
refusal_status-small Memory = omega arith
refusal_status-small r = omega arith

-- a number isn't equal to another and to the one after it
pub eq-not_suc : (a b : ℕ) → a ≡ b → a ≡ suc b → ⊥
eq-not_suc a b same more = omega arith

-- a status of at most 4 isn't 5
status-not_five : (status small : ℕ) → status ≡ small → small ≤ 4 → status ≡ 5 → ⊥
status-not_five status small is le five = omega arith

-- a source for which reading was given up isn't one that was read in time
given_up-not_in_time : (k n reads made least short all_short : ℕ) → k ≤ n → made ≡ reads + k → short + least ≤ all_short
    → (n < k) ⊎ ((made < reads + k) ⊎ (all_short < short + least)) → ⊥
given_up-not_in_time k n reads made least short all_short long is many (inl few) = omega arith
given_up-not_in_time k n reads made least short all_short long is many (inr (inl fewer)) = omega arith
given_up-not_in_time k n reads made least short all_short long is many (inr (inr fewer_short)) = omega arith

-- if a source is known to have `bytes`, and to have at least n bytes, there are at least n of `bytes`
length-told : (told : Option (List ℕ)) (n : ℕ) (bytes : List ℕ) → told ≡ Some bytes → IfSome told (λ t. n ≤ length t)
    → n ≤ length bytes
length-told None n bytes is least = absurd (cc is)
length-told (Some x) n bytes is least =
    let same : x ≡ bytes = cc is in
    subst (λ (l : List ℕ). n ≤ length l) same least

-- if a source is known to have `bytes`, the bytes that are the known ones are `bytes`
told-same : (told : Option (List ℕ)) (bytes x : List ℕ) → told ≡ Some bytes → IfSome told (λ t. x ≡ t) → x ≡ bytes
told-same None bytes x is same = absurd (cc is)
told-same (Some y) bytes x is same =
    let alike : y ≡ bytes = cc is in
    same ∙ alike

-- the bytes that are read of a source, if it is read whole, are its own
pub IsReading-whole : (old new : Reading) (bytes : Option (List ℕ)) (told : List ℕ) → IsReading old new bytes
    → IsReadWhole old new told → bytes ≡ Some told
IsReading-whole old new (Some x) told reading whole = ap (λ (l : List ℕ). Some l) (told-same old.left told x whole.told
    reading.1)
IsReading-whole old new None told (inl failed) whole =
    absurd (eq-not_suc new.failures old.failures whole.failures failed)
IsReading-whole old new None told (inr up) whole =
    absurd (given_up-not_in_time most_reads (length told) old.reads new.reads fewest_short_reads old.short_reads
    new.short_reads
    (length-told old.left most_reads told whole.told up.told) up.reads up.short_reads whole.in_time)

-- ---- a command whose answers have a status of at most 4

module _ {A : Type 0} (answer : A → CommandAnswer) (small : (found : A) → (answer found).status ≤ 4) where
  -- a command for which `Ends` holds has status 5 exactly where a write on the output failed
  pub Ends-unwritten : (found : A) (out err : Writing × Writing) (status : ℕ) → Ends (answer found) out err status
      → (status ≡ 5) ↔ (out.1.failures ≡ suc out.0.failures)
  Ends-unwritten found out err status (inl told) = (
    λ five. absurd (status-not_five status _ told.status_is (small found) five),
    λ more. absurd (eq-not_suc out.1.failures out.0.failures told.out_is.1 more),
  )
  Ends-unwritten found out err status (inr failed) = (λ _. failed.out_is.1, λ _. failed.status_is)

  -- a command for which `Ends` holds, without a failed write and without want of memory, writes the answer `expected`,
  -- if that is its answer
  Ends-exact : (expected : CommandAnswer) (found : A) (out err : Writing × Writing) (status : ℕ)
      → Ends (answer found) out err
      status
      → (((answer found).status ≡ 4 → ⊥) → answer found ≡ expected) → out.1.failures ≡ out.0.failures → (status ≡ 4 → ⊥)
      → WritesAnswer expected out err status
  Ends-exact expected found out err status (inl told) is same memory =
      subst (λ (a : CommandAnswer). WritesAnswer a out err status) (is (λ four. memory (told.status_is ∙ four))) told
  Ends-exact expected found out err status (inr failed) is same memory =
      absurd (eq-not_suc out.1.failures out.0.failures same
      failed.out_is.1)

  module _ (MayFind : Option (List ℕ) → Option (List ℕ) → A → Type 0) (binding dump : Reading × Reading)
      (out err : Writing × Writing) (status : ℕ) where
    -- the status of a command for which `AnswersInputs` holds is 5 exactly where a write on the output failed
    pub AnswersInputs-unwritten : AnswersInputs answer MayFind binding dump out err status
        → (status ≡ 5) ↔ (out.1.failures ≡ suc out.0.failures)
    AnswersInputs-unwritten does =
        let (binding_bytes, dump_bytes, found, binding_read, dump_read, may, end) = does in
        Ends-unwritten found out err status end

    -- if the inputs are read whole, no write fails and the status isn't 4, the answer is `expected`, provided that all
    -- that may be found of their bytes has the answer `expected` or the status 4
    pub AnswersInputs-exact : AnswersInputs answer MayFind binding dump out err status
        → (b d : List ℕ) (expected : CommandAnswer)
        → ((found : A) → MayFind (Some b) (Some d) found → ((answer found).status ≡ 4 → ⊥) → answer found ≡ expected)
        → IsReadWhole binding.0 binding.1 b → IsReadWhole dump.0 dump.1 d → out.1.failures ≡ out.0.failures
        → (status ≡ 4 → ⊥)
        → WritesAnswer expected out err status
    AnswersInputs-exact does b d expected is told_b told_d same memory =
        let (binding_bytes, dump_bytes, found, binding_read, dump_read, may, end) = does in
        let b_is : binding_bytes ≡ Some b = IsReading-whole binding.0 binding.1 binding_bytes b binding_read told_b in
        let d_is : dump_bytes ≡ Some d = IsReading-whole dump.0 dump.1 dump_bytes d dump_read told_d in
        let with_b : MayFind (Some b) dump_bytes found = subst (λ (x : Option (List ℕ)). MayFind x dump_bytes found)
        b_is may in
        let with_d : MayFind (Some b) (Some d) found = subst (λ (x : Option (List ℕ)). MayFind (Some b) x found) d_is
        with_b in
        Ends-exact expected found out err status end (is found with_d) same memory

-- a result `found` that agrees with `expected` has the same answer, unless the status is 4
pub answer-AnswerGives : {A : Type 0} (answer : Result A Refusal → CommandAnswer) → (answer (Err Memory)).status ≡ 4
    → (found expected : Result A Refusal) → AnswerGives (λ (x : A). x) found expected → ((answer found).status ≡ 4 → ⊥)
    → answer found ≡ answer expected
answer-AnswerGives answer no_memory (Ok x) expected given memory = ap answer (sym given)
answer-AnswerGives answer no_memory (Err Memory) expected given memory = absurd (memory no_memory)
answer-AnswerGives answer no_memory (Err r) expected given memory = ap answer (sym given)

-- ---- a check

-- the status of the answer to a verdict or a refusal is at most 4
answer_by-small : (judged : Result Verdict Refusal) → (answer_by judged).status ≤ 4
answer_by-small (Ok v) = verdict_status-small v
answer_by-small (Err r) = refusal_status-small r

-- what may be judged of the bytes of two inputs
abbrev MayJudge : ℕ → Option (List ℕ) → Option (List ℕ) → Result Verdict Refusal → Type 0
MayJudge block b d judged = AnswerGives (λ (v : Verdict). v) judged (judgement_of b d block)

-- if the inputs are read whole, no write fails and the status isn't 4, a check writes exactly the answer of their bytes
pub Checks-exact : (binding dump : Reading × Reading) (block : ℕ) (out err : Writing × Writing) (status : ℕ)
    → Checks binding dump block out err status
    → (b d : List ℕ) → IsReadWhole binding.0 binding.1 b → IsReadWhole dump.0 dump.1 d → out.1.failures ≡ out.0.failures
    → (status ≡ 4 → ⊥)
    → WritesAnswer (answer_of (Some b) (Some d) block) out err status
Checks-exact binding dump block out err status checks b d =
    AnswersInputs-exact answer_by answer_by-small (MayJudge block) binding dump out err status checks b d
    (answer_of (Some b) (Some d) block)
    (λ found. answer-AnswerGives answer_by refl found (judgement_of (Some b) (Some d) block))
