-- A recording whose steps were judged.
use Rattle.std.specs.Prelude.{◌≡◌, ℕ, nat_lt, if◌then◌else◌, Result, Ok, Err}
use Rattle.vcd_read.specs.Header.{◌>>=◌}
use Rattle.vme_trace.specs.Blocks.{block_count}
use Rattle.vme_trace.specs.Trace.{Trace}
use Rattle.vme_trace.specs.Verdict.{verdict_by, rules_in_force}
use Rattle.vme_trace.specs.declared.verdict.Verdict.{Verdict}
use Rattle.vme_stream.specs.declared.refusal.Refusal.{Refusal}
use Rattle.vme_stream.specs.declared.refusal.Refusal.TheVariants.{TooManyBlocks}
use Rattle.vme_stream.specs.Answers.{AnswerGives, or_bad_binding}
use Rattle.vme_bind.specs.Capture.{limited}

-- a result agrees with the recording `read`, but for the limit on steps: it is a recording of any length, and `read` is
-- that recording, or the refusal of one that is too long; or the result is the same refusal as `read`, or `Memory`
abbrev pub GivesUnlimited : Result Trace Refusal → Result Trace Refusal → Type 0
GivesUnlimited (Ok t) read = read ≡ or_bad_binding (limited t)
GivesUnlimited (Err refusal) read = AnswerGives (λ (t : Trace). t) (Err refusal) read

-- a recording, if it needs at most 4,096 blocks of `block` steps
abbrev pub in_blocks : ℕ → Trace → Result Trace Refusal
in_blocks block t = if nat_lt 4096 (block_count block t) then Err TooManyBlocks else Ok t

-- a recording that is judged, or why it isn't: it is too long, or needs too many blocks of `block` steps
abbrev pub limited_in_blocks : ℕ → Trace → Result Trace Refusal
limited_in_blocks block t = or_bad_binding (limited t) >>= in_blocks block

-- the verdict on such a recording
abbrev pub judged_in_blocks : ℕ → Trace → Result Verdict Refusal
judged_in_blocks block t = limited_in_blocks block t >>= λ t. Ok (verdict_by rules_in_force t)
