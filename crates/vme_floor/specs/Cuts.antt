-- Deliveries of the blocks of a cut of a recording, and the result of a run on them.
use Rattle.std.specs.Prelude.{◌≡◌, ℕ, ◌<◌, List, length, slice_get, Some, None, Result, Ok, Err}
use Rattle.vme_trace.specs.Trace.{Trace}
use Rattle.vme_trace.specs.Verdict.{verdict}
use Rattle.vme_trace.specs.declared.block.Block.{Block}
use Rattle.vme_summary.specs.Joins.{BlocksJoin, joined_trace}
use Rattle.vme_floor.specs.Answering.{first_refusal}
use Rattle.vme_floor.specs.Claims.{InRange}
use Rattle.vme_floor.specs.declared.answer.Answer.{Answer}
use Rattle.vme_floor.specs.declared.answer.Answer.TheVariants.{Memory}
use Rattle.vme_floor.specs.declared.report.Report.{Report}
use Rattle.vme_floor.specs.declared.report.RunFault.{RunFault}
use Rattle.vme_floor.specs.declared.report.RunFault.TheVariants as fault

-- the blocks are a cut of the recording t: they are numbered from 0, none is refused by itself, and they join to t
pub record IsCutOf (t : Trace) (total : ℕ) (blocks : List Block) : Type 0 where
  pub count : length blocks ≡ total
  pub numbered : (n : ℕ) (b : Block) → slice_get blocks n ≡ Some b → b.number ≡ n
  pub accepted : (n : ℕ) (b : Block) → slice_get blocks n ≡ Some b → first_refusal total b ≡ None
  pub joins : BlocksJoin blocks
  pub joined : joined_trace blocks ≡ Some t

-- each delivery is one of the blocks, and each block is delivered once or more, in any order
pub record AreDeliveriesOf (blocks deliveries : List Block) : Type 0 where
  pub of : (d : ℕ) (b : Block) → slice_get deliveries d ≡ Some b → slice_get blocks b.number ≡ Some b
  pub all : (n : ℕ) (b : Block) → slice_get blocks n ≡ Some b → (d : ℕ) × (slice_get deliveries d ≡ Some b)

-- memory ran out for a delivery of the number n
abbrev pub LacksMemory : List Block → List Answer → ℕ → Type 0
LacksMemory deliveries answers n =
    (d : ℕ) × (b : Block)
    × (slice_get deliveries d ≡ Some b) × (b.number ≡ n) × (slice_get answers d ≡ Some Memory)

-- a report is on the recording t, with its verdict; there is none only for want of memory or of a thread
abbrev pub IsOutcomeOf : Trace → List Block → ℕ → Result Report RunFault → Type 0
IsOutcomeOf t deliveries workers (Ok report) = (report.capture ≡ t) × (report.verdict ≡ verdict t)
IsOutcomeOf t deliveries workers (Err fault.Memory) = Unit {0}
IsOutcomeOf t deliveries workers (Err fault.NoWorker) = 1 < workers
IsOutcomeOf t deliveries workers (Err (fault.Missing n answers)) = LacksMemory deliveries answers n
IsOutcomeOf t deliveries workers (Err f) = ⊥

-- the result of deliveries of a cut of any recording, within the limits of a run, satisfies `IsOutcomeOf`
abbrev pub JudgesCuts : ℕ → List Block → ℕ → Result Report RunFault → Type 0
JudgesCuts total deliveries workers outcome =
    (t : Trace) (blocks : List Block)
    → IsCutOf t total blocks → AreDeliveriesOf blocks deliveries → InRange total deliveries workers
    → IsOutcomeOf t deliveries workers outcome
