-- Whether a recording is judged, and why it isn't: it has too many steps, or needs too many blocks.
use Rattle.std.proofs.Common.{◌≡◌, ◌<◌, ◌≤◌, ◌↔◌, ℕ, Bool, true, false, length, refl, inl, inr}
use Rattle.std.specs.Prelude.{Result, Ok, Err, nat_lt, if◌then◌else◌}
use Rattle.std.proofs.lemmas.Bool.{cases_lt, le-ltb, lt-ltb}
use Rattle.vcd_read.specs.Header.{◌>>=◌}
use Rattle.vme_trace.specs.Blocks.{block_count}
use Rattle.vme_trace.specs.Trace.{Trace}
use Rattle.vme_trace.specs.Verdict.{rules_in_force, verdict_by}
use Rattle.vme_trace.specs.WellFormed.{capture_limit}
use Rattle.vme_summary.specs.declared.stream_judge.NoVerdict.{NoVerdict}
use Rattle.vme_summary.specs.declared.stream_judge.NoVerdict.TheVariants.{TooManySteps, TooManyBlocks, Memory}
use Rattle.vme_stream.specs.Answers.{AnswerGives, verdict_in_blocks}
use Rattle.vme_stream.specs.Refusals.{judging_refusal}
use Rattle.vme_stream.specs.declared.refusal.Refusal.{Refusal}
use Rattle.vme_stream.specs.declared.refusal.Refusal.TheVariants as refusal
use Rattle.vme_commands.specs.Judged.{in_blocks, limited_in_blocks}

-- a number that isn't over `most` is at most that
le-not_over : (most n : ℕ) → (most < n → ⊥) → n ≤ most
le-not_over most n not_over = elim (cases_lt most n) [ inl over ↦ absurd (not_over over) | inr within ↦ within ]

module _ {X : Type 0} (t : Trace) (block : ℕ) (r : Result X NoVerdict)
    (too_many_steps : (r ≡ Err TooManySteps) ↔ (capture_limit < length t.steps))
    (too_many_blocks : (r ≡ Err TooManyBlocks) ↔ ((length t.steps ≤ capture_limit) × (4096 < block_count block t)))
  where
    -- if there is a result of judging, the recording is within the limits
    pub limited_in_blocks-judged : (x : X) → r ≡ Ok x → limited_in_blocks block t ≡ Ok t
    limited_in_blocks-judged x is =
        let short : length t.steps ≤ capture_limit = le-not_over capture_limit (length t.steps)
        (λ over. let no = too_many_steps.1 over in absurd (cc)) in
        let few : block_count block t ≤ 4096 = le-not_over 4096 (block_count block t)
        (λ over. let no = too_many_blocks.1 (short, over) in absurd (cc)) in
        rw (le-ltb capture_limit (length t.steps) short) (rw (le-ltb 4096 (block_count block t) few) refl)

    -- if there is no result of judging, the refusal is the one by the limits of the recording, or `Memory`
    pub limited_in_blocks-refused : (why : NoVerdict) → r ≡ Err why → AnswerGives (λ (t : Trace). t)
        (Err (judging_refusal why))
        (limited_in_blocks block t)
    limited_in_blocks-refused TooManySteps is = rw (lt-ltb capture_limit (length t.steps) (too_many_steps.0 is)) refl
    limited_in_blocks-refused TooManyBlocks is =
        let (short, over) = too_many_blocks.0 is in
        rw (le-ltb capture_limit (length t.steps) short) (rw (lt-ltb 4096 (block_count block t) over) refl)
    limited_in_blocks-refused Memory is = tt

-- the verdict on a recording in blocks is the verdict on it if it needs few enough blocks
pub verdict_in_blocks-in_blocks : (block : ℕ) (r : Result Trace Refusal) → (r >>= verdict_in_blocks block)
    ≡ ((r >>= in_blocks block) >>= λ t. Ok (verdict_by rules_in_force t))
verdict_in_blocks-in_blocks block (Err r) = refl
verdict_in_blocks-in_blocks block (Ok t) = by_test (nat_lt 4096 (block_count block t))
  where
    -- by whether the blocks are too many
    by_test : (test : Bool)
        → (if test then Err refusal.TooManyBlocks else Ok (verdict_by rules_in_force t))
        ≡ ((let cut : Result Trace Refusal = if test then Err refusal.TooManyBlocks else Ok t in cut) >>= λ t. Ok
        (verdict_by rules_in_force t))
    by_test true = refl
    by_test false = refl

-- a recording that isn't too long is judged if it needs few enough blocks
pub limited_in_blocks-short : (t : Trace) (block : ℕ) → length t.steps ≤ capture_limit → limited_in_blocks block t
    ≡ in_blocks block t
limited_in_blocks-short t block short = rw (le-ltb capture_limit (length t.steps) short) refl
