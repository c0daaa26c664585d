-- The account of the recording that a binding makes of a dump.
use Rattle.std.specs.Prelude.{◌≡◌, ◌≤◌, length, Result, Ok, Err}
use Rattle.vcd_read.specs.Header.{◌>>=◌}
use Rattle.vme_account.specs.Accounts.{IsAccountOf}
use Rattle.vme_account.specs.declared.account.Account.{Account}
use Rattle.vme_stream.specs.Answers.{AnswerGives, or_too_long, verdict_in_blocks}
use Rattle.vme_stream.specs.declared.refusal.Refusal.{Refusal}
use Rattle.vme_trace.specs.Trace.{Trace}
use Rattle.vme_trace.specs.declared.verdict.Verdict.{Verdict}

-- The account is that of the recording that there is, which fills at most 4,096 blocks of 16,384 steps; or there is
-- none, for the reason for which there is no verdict, or for want of memory.
abbrev pub GivesAccount : Result Account Refusal → Result Trace Refusal → Type 0
GivesAccount (Ok account) captured =
    (t : Trace) × (captured ≡ Ok t) × (length t.steps ≤ 67108864) × IsAccountOf account t
GivesAccount (Err refusal) captured =
    AnswerGives (λ (v : Verdict). v) (Err refusal) (captured >>= verdict_in_blocks 16384)

-- the recording that was read, if it isn't too long
abbrev pub short_read : Result Trace Refusal → Result Trace Refusal
short_read read = read >>= or_too_long

-- the verdict on the captured recording
abbrev pub judged_whole : Result Trace Refusal → Result Verdict Refusal
judged_whole captured = captured >>= verdict_in_blocks 16384
