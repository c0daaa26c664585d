-- The claims of a run.
use Rattle.std.specs.Prelude.{◌≡◌, ◌⊎◌, ℕ, ◌<◌, ◌≤◌, List, length, slice_get, Some, Result, Ok, Err}
use Rattle.vme_trace.specs.declared.block.Block.{Block}
use Rattle.vme_trace.specs.Trace.{Trace}
use Rattle.vme_summary.specs.Joins.{BlocksJoin, joined_trace}
use Rattle.vme_summary.specs.Stands.{SpanStandsFor, first_number}
use Rattle.vme_summary.specs.declared.span.Span.{Span}
use Rattle.vme_floor.specs.Answering.{IsRightAnswer, FiledAs, IsFiled, IsFiledNumber}
use Rattle.vme_floor.specs.Orders.{IsLeastTornBlock}
use Rattle.vme_floor.specs.declared.answer.Answer.{Answer}
use Rattle.vme_floor.specs.declared.answer.Answer.TheVariants.{Doubled}
use Rattle.vme_floor.specs.declared.report.Report.{Report}
use Rattle.vme_floor.specs.declared.report.RunFault.{RunFault}
use Rattle.vme_floor.specs.declared.report.RunFault.TheVariants as fault

-- the numbers that a run accepts
pub record InRange (total : ℕ) (deliveries : List Block) (workers : ℕ) : Type 0 where
  pub total_from : 0 < total
  pub total_to : total ≤ 4096
  pub draws_to : length deliveries ≤ 65536
  pub workers_from : 0 < workers
  pub workers_to : workers ≤ 64

-- there is one answer for each delivery, and it is right; no two deliveries of one number are filed, and for each
-- doubled delivery another of its number is filed
pub record HasAnswers (total : ℕ) (deliveries : List Block) (answers : List Answer) : Type 0 where
  pub count : length answers ≡ length deliveries
  pub right :
      (d : ℕ) (a : Answer) (b : Block) → slice_get answers d ≡ Some a → slice_get deliveries d ≡ Some b
      → IsRightAnswer total b a
  pub once :
      (d e : ℕ) (b c : Block) → FiledAs deliveries answers d b → FiledAs deliveries answers e c → b.number ≡ c.number
      → d ≡ e
  pub doubled :
      (d : ℕ) (b : Block) → slice_get answers d ≡ Some Doubled → slice_get deliveries d ≡ Some b
      → IsFiledNumber deliveries answers b.number

-- the first claim: the answers that come with a report, or with a number that is missing or torn
abbrev pub AreAnswered : ℕ → List Block → Result Report RunFault → Type 0
AreAnswered total deliveries (Ok report) = HasAnswers total deliveries report.answers
AreAnswered total deliveries (Err (fault.Missing n answers)) = HasAnswers total deliveries answers
AreAnswered total deliveries (Err (fault.Torn n answers)) = HasAnswers total deliveries answers
AreAnswered total deliveries (Err f) = Unit {0}

-- the blocks are the filed ones: one for each number below `total`, in the order of their numbers
pub record IsContent (total : ℕ) (deliveries : List Block) (answers : List Answer) (blocks : List Block) : Type 0 where
  pub count : length blocks ≡ total
  pub numbered : (n : ℕ) (b : Block) → slice_get blocks n ≡ Some b → b.number ≡ n
  pub filed : (n : ℕ) (b : Block) → slice_get blocks n ≡ Some b → IsFiled deliveries answers b

-- the filed blocks join, `capture` is the recording that they make, and `span` is their summary
pub record IsRecorded (total : ℕ) (deliveries : List Block) (answers : List Answer) (capture : Trace) (span : Span)
    : Type 0 where
  pub blocks : List Block
  pub content : IsContent total deliveries answers blocks
  pub joins : BlocksJoin blocks
  pub capture_is : joined_trace blocks ≡ Some capture
  pub stands : SpanStandsFor span blocks
  pub first : first_number span ≡ 0

-- at most `total` blocks were taken before the threads were joined, and all of them if the calling thread worked alone
pub record IsEarly (total workers early : ℕ) : Type 0 where
  pub within : early ≤ total
  pub alone : workers ≡ 1 → early ≡ total

-- n is the least number of which no delivery was filed, and is below `total`
pub record IsLeastUnfiled (total : ℕ) (deliveries : List Block) (answers : List Answer) (n : ℕ) : Type 0 where
  pub within : n < total
  pub missing : ¬ IsFiledNumber deliveries answers n
  pub least : (k : ℕ) → k < n → IsFiledNumber deliveries answers k

-- each number was filed, and the block of n is the first that doesn't join those before it
pub record IsTorn (total : ℕ) (deliveries : List Block) (answers : List Answer) (n : ℕ) : Type 0 where
  pub blocks : List Block
  pub content : IsContent total deliveries answers blocks
  pub torn : IsLeastTornBlock blocks n

-- the third claim: what holds if a refusal is returned; the reasons that are checked before it don't apply
abbrev pub IsFault : ℕ → List Block → ℕ → RunFault → Type 0
IsFault total deliveries workers fault.BadTotal = (total ≡ 0) ⊎ (4096 < total)
IsFault total deliveries workers fault.BadDraws = (0 < total) × (total ≤ 4096) × (65536 < length deliveries)
IsFault total deliveries workers fault.BadWorkers =
    (0 < total) × (total ≤ 4096) × (length deliveries ≤ 65536) × ((workers ≡ 0) ⊎ (64 < workers))
IsFault total deliveries workers fault.Memory = InRange total deliveries workers
IsFault total deliveries workers fault.NoWorker = InRange total deliveries workers × (1 < workers)
IsFault total deliveries workers fault.Stray = ⊥
IsFault total deliveries workers (fault.Missing n answers) =
    InRange total deliveries workers × IsLeastUnfiled total deliveries answers n
IsFault total deliveries workers (fault.Torn n answers) =
    InRange total deliveries workers × IsTorn total deliveries answers n

-- what holds if a refusal is returned after all workers have ended
abbrev pub IsLate : ℕ → List Block → RunFault → Type 0
IsLate total deliveries fault.BadTotal = ⊥
IsLate total deliveries fault.BadDraws = ⊥
IsLate total deliveries fault.BadWorkers = ⊥
IsLate total deliveries fault.Memory = Unit {0}
IsLate total deliveries fault.NoWorker = ⊥
IsLate total deliveries fault.Stray = ⊥
IsLate total deliveries (fault.Missing n answers) = IsLeastUnfiled total deliveries answers n
IsLate total deliveries (fault.Torn n answers) = IsTorn total deliveries answers n
