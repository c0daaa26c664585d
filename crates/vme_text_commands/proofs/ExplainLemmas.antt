-- The verdict of an explanation is that of a check, and there is an account unless there is no verdict.
use Rattle.std.proofs.Common.{◌≡◌, ◌+◌, ◌*◌, ◌/◌, ◌%◌, ◌<◌, ◌≤◌, ℕ, Bool, true, false, List, length, refl}
use Rattle.std.proofs.Common.{sym, subst, ap}
use Rattle.std.proofs.Common.{◌∙◌, arith}
use Rattle.std.specs.Prelude.{Option, Result, Ok, Err, max, min, nat_lt, if◌then◌else◌}
use Rattle.std.proofs.lemmas.Bool.{le-ltb, lt-ltb}
use Rattle.std.proofs.lemmas.Grind.{div_ceil_times}
use Rattle.vcd_read.specs.Header.{◌>>=◌}
use Rattle.vme_bind.specs.Binding.{BoundLines}
use Rattle.vme_account.specs.Accounts.{IsAccountOf}
use Rattle.vme_account.specs.declared.account.Account.{Account}
use Rattle.vme_trace.specs.Trace.{Trace}
use Rattle.vme_stream.specs.Refusals.{judging_refusal}
use Rattle.vme_summary.specs.declared.stream_judge.NoVerdict.TheVariants as no_verdict
use Rattle.vme_trace.specs.Verdict.{verdict}
use Rattle.vme_trace.specs.WellFormed.{capture_limit}
use Rattle.vme_trace.specs.declared.verdict.Verdict.{Verdict}
use Rattle.vme_text_commands.specs.declared.explain.Explained.{Explained}
use Rattle.vme_stream.specs.declared.refusal.Refusal.{Refusal}
use Rattle.vme_stream.specs.declared.refusal.Refusal.TheVariants.{Memory, TooManyBlocks}
use Rattle.vme_stream.specs.Answers.{AnswerGives, binding_read, dump_read, or_too_long, verdict_in_blocks}
use Rattle.vme_text_commands.specs.Explained.{judged_by}
use Rattle.vme_text_commands.specs.ExplainedDumps.{GivesAccount}
use Rattle.vme_commands.specs.Settled.{settled_judgement, settled_read}
use Rattle.vme_skew.specs.Settled.{settled, settled_or}
use Rattle.vme_stream.proofs.AnswerLemmas.{capture_read-bound, capture_read-refused, AnswerGives-then}
use Rattle.vme_commands.proofs.SettledLemmas.{settled_judgement-refused, settled_read-refused, settled_or-refused}
use Rattle.vme_commands.proofs.SettledLemmas.{length-settled_within}

-- if a binding is read, the verdict on the deskewed recording is that on what this binding makes of the dump
pub settled_judgement-bound : (skew : ℕ) (b d : Option (List ℕ)) (bound : BoundLines) → binding_read b ≡ Ok bound
    → settled_judgement skew b d 16384 ≡ judged_by skew bound (dump_read d)
unfolding settled_judgement settled_read
settled_judgement-bound skew b d bound is =
    ap (λ (r : Result Trace Refusal). settled_or skew r >>= verdict_in_blocks 16384)
    (capture_read-bound b d bound is)

-- a refusal that is given instead of a verdict may be given instead of an explanation
pub AnswerGives-explained : (r : Refusal) (said : Result Verdict Refusal)
    → AnswerGives (λ (v : Verdict). v) (Err r) said
    → AnswerGives (λ (e : Explained). e.verdict) (Err r) said
AnswerGives-explained Memory said gives = gives
AnswerGives-explained r said gives = gives

-- a refusal that is given instead of a binding may be given instead of an explanation
pub AnswerGives-binding_refused : (skew : ℕ) (b d : Option (List ℕ)) (r : Refusal)
    → AnswerGives (λ (x : BoundLines). x) (Err r)
    (binding_read b) → AnswerGives (λ (e : Explained). e.verdict) (Err r) (settled_judgement skew b d 16384)
AnswerGives-binding_refused skew b d r gives =
    AnswerGives-explained r (settled_judgement skew b d 16384)
    (settled_judgement-refused skew b d 16384 r (settled_read-refused skew b d r (capture_read-refused b d r gives)))

-- ---- a recording that is judged as the dump is read

-- a recording that has no more steps than a recording may have
pub or_too_long-fits : (t : Trace) → length t.steps ≤ capture_limit → or_too_long t ≡ Ok t
or_too_long-fits t short = rw (le-ltb capture_limit (length t.steps) short) refl

-- a recording that has more steps than a recording may have is refused
pub or_too_long-over : (t : Trace) → capture_limit < length t.steps → or_too_long t
    ≡ Err (judging_refusal no_verdict.TooManySteps)
or_too_long-over t long = rw (lt-ltb capture_limit (length t.steps) long) refl

-- a deskewed recording isn't too long where the one before it isn't
pub settled_or-short : (skew : ℕ) (t : Trace) → (settled_or skew (or_too_long t) >>= or_too_long)
    ≡ settled_or skew (or_too_long t)
settled_or-short skew t = by_test (nat_lt capture_limit (length t.steps)) refl
  where
    -- by whether the one before it is too long
    by_test : (long : Bool) → nat_lt capture_limit (length t.steps) ≡ long
        → (settled_or skew (or_too_long t) >>= or_too_long) ≡ settled_or skew (or_too_long t)
    by_test true is = rw is refl
    by_test false is = rw is (or_too_long-fits (settled skew t) (length-settled_within skew t (settled skew t) is refl))

-- ---- the number of blocks

-- up to 67,108,864 steps need at most 4,096 blocks of 16,384 steps
few_blocks : (n : ℕ) → n ≤ 67108864 → nat_lt 4096 (max 1 (n / 16384 + min 1 (n % 16384))) ≡ false
few_blocks n short = by_bounds (n / 16384 + min 1 (n % 16384)) (div_ceil_times n 16384 (omega arith)).1
  where
    -- by the upper bound of the number of blocks
    by_bounds : (d : ℕ) → d * 16384 < n + 16384 → nat_lt 4096 (max 1 d) ≡ false
    by_bounds d below =
        let few : max 1 d ≤ 4096 = omega (arith, below, short) in
        le-ltb 4096 (max 1 d) few

-- more than 67,108,864 steps need more than 4,096 blocks of 16,384 steps
many_blocks : (n : ℕ) → 67108864 < n → nat_lt 4096 (max 1 (n / 16384 + min 1 (n % 16384))) ≡ true
many_blocks n long = by_bounds (n / 16384 + min 1 (n % 16384)) (div_ceil_times n 16384 (omega arith)).0
  where
    -- by the lower bound of the number of blocks
    by_bounds : (d : ℕ) → n ≤ d * 16384 → nat_lt 4096 (max 1 d) ≡ true
    by_bounds d above =
        let many : 4096 < max 1 d = omega (arith, above, long) in
        lt-ltb 4096 (max 1 d) many

-- a recording of up to 67,108,864 steps has a verdict
pub verdict_in_blocks-fits : (t : Trace) → length t.steps ≤ 67108864 → verdict_in_blocks 16384 t ≡ Ok (verdict t)
verdict_in_blocks-fits t short = ap (λ (b : Bool). if b then Err TooManyBlocks else Ok (verdict t))
    (few_blocks (length t.steps) short)

-- a recording of more than 67,108,864 steps is refused for its number of blocks
pub verdict_in_blocks-over : (t : Trace) → 67108864 < length t.steps → verdict_in_blocks 16384 t ≡ Err TooManyBlocks
verdict_in_blocks-over t long = ap (λ (b : Bool). if b then Err TooManyBlocks else Ok (verdict t))
    (many_blocks (length t.steps) long)

-- ---- the account

-- an account of a recording of up to 67,108,864 steps may be given for this recording
pub GivesAccount-of : (t : Trace) (a : Account) → length t.steps ≤ 67108864 → IsAccountOf a t
    → GivesAccount (Ok a) (or_too_long t)
GivesAccount-of t a short is = (t, or_too_long-fits t (omega (arith, short)), short, is)

-- there is no account of a recording that has more steps than a recording may have, for that reason
pub GivesAccount-too_long : (t : Trace) → capture_limit < length t.steps
    → GivesAccount (Err (judging_refusal no_verdict.TooManySteps)) (or_too_long t)
GivesAccount-too_long t long = ap (λ (r : Result Trace Refusal). r >>= verdict_in_blocks 16384)
    (or_too_long-over t long)

-- there is no account of a recording of more than 67,108,864 steps, for its number of blocks
pub GivesAccount-too_many_blocks : (t : Trace) → 67108864 < length t.steps → length t.steps ≤ capture_limit
    → GivesAccount (Err TooManyBlocks) (or_too_long t)
GivesAccount-too_many_blocks t over short =
    ap (λ (r : Result Trace Refusal). r >>= verdict_in_blocks 16384) (or_too_long-fits t short)
    ∙ verdict_in_blocks-over t over

-- a refusal that is given instead of a captured recording may be given instead of its account
pub GivesAccount-refused : (r : Refusal) (captured : Result Trace Refusal)
    → AnswerGives (λ (t : Trace). t) (Err r) captured
    → GivesAccount (Err r) captured
GivesAccount-refused r captured gives = AnswerGives-then r captured (verdict_in_blocks 16384) gives

-- a refusal that is given instead of a recording may be given instead of an account of it
pub GivesAccount-unread : (r : Refusal) (read : Result Trace Refusal) → AnswerGives (λ (t : Trace). t) (Err r) read
    → GivesAccount (Err r) (read >>= or_too_long)
GivesAccount-unread r read gives = GivesAccount-refused r (read >>= or_too_long)
    (AnswerGives-then r read or_too_long gives)

-- a refusal that is given instead of a recording may be given instead of an account of it deskewed
pub GivesAccount-unsettled : (skew : ℕ) (r : Refusal) (read : Result Trace Refusal)
    → AnswerGives (λ (t : Trace). t) (Err r) read → GivesAccount (Err r) (settled_or skew (read >>= or_too_long))
GivesAccount-unsettled skew r read gives =
    GivesAccount-refused r (settled_or skew (read >>= or_too_long))
    (settled_or-refused skew (read >>= or_too_long) r (AnswerGives-then r read or_too_long gives))

-- an explanation by an account has the verdict on the captured recording
pub AnswerGives-by_account : (told : Result Explained Refusal) (a : Account) (captured : Result Trace Refusal)
    → GivesAccount (Ok a) captured
    → ((t : Trace) → IsAccountOf a t → AnswerGives (λ (e : Explained). e.verdict) told (Ok (verdict t)))
    → AnswerGives (λ (e : Explained). e.verdict) told (captured >>= verdict_in_blocks 16384)
AnswerGives-by_account told a captured given tells =
    let (t, is, short, of) = given in
    subst (AnswerGives (λ (e : Explained). e.verdict) told)
    (sym (ap (λ (r : Result Trace Refusal). r >>= verdict_in_blocks 16384) is ∙ verdict_in_blocks-fits t short))
    (tells t of)
