-- For which blocks a span stands, and what it gives of them. A span has an extent, i.e. the numbers, the levels and the
-- times at which its blocks begin and end, and a summary of their steps.
use Rattle.std.specs.Prelude.{◌≡◌, ◌↔◌, ℕ, ◌≤◌, List, [], ◌∷◌, ◌++◌, length, Option, Some, None, option_map}
use Rattle.vme_trace.specs.Trace.{Trace}
use Rattle.vme_trace.specs.WellFormed.{malformed_step}
use Rattle.vme_trace.specs.Block.{trace_of}
use Rattle.vme_trace.specs.Verdict.{rules_in_force, verdict_by}
use Rattle.vme_trace.specs.declared.block.Block.{Block}
use Rattle.vme_trace.specs.declared.verdict.Verdict.{Verdict}
use Rattle.vme_listing.specs.Listed.{Listed}
use Rattle.vme_listing.specs.Recorded.{listing_of}
use Rattle.vme_summary.specs.Joins.{BlocksJoin, joined_trace}
use Rattle.vme_summary.specs.Standing.{StandFor, StandForBlocks}
use Rattle.vme_summary.specs.Summaries.{summary_steps}
use Rattle.vme_summary.specs.declared.span.Span.{Span}

-- a span stands for blocks: it has their extent, and its summary is one of all their steps, after the levels with which
-- the first block opens
abbrev pub SpanStandsFor : Span → List Block → Type 0
SpanStandsFor s blocks = StandFor s.extent s.summary blocks

-- a span stands for some blocks
abbrev pub StandsForBlocks : Span → Type 0
StandsForBlocks s = StandForBlocks s.extent s.summary

-- the number of a span's first block
abbrev pub first_number : Span → ℕ
first_number s = s.extent.first

-- how many steps a span covers
abbrev pub step_count : Span → ℕ
step_count s = summary_steps s.summary

-- for all blocks x and y for which s and t stand, r stands for x and then y
abbrev pub StandsForBoth : Span → Span → Span → Type 0
StandsForBoth s t r = (x y : List Block) → SpanStandsFor s x → SpanStandsFor t y → SpanStandsFor r (x ++ y)

-- for all blocks x and y for which s and t stand, the statement `torn` holds exactly if x and then y don't join
abbrev pub SaysTorn : Type 0 → Span → Span → Type 0
SaysTorn torn s t = (x y : List Block) → SpanStandsFor s x → SpanStandsFor t y → (torn ↔ ¬ BlocksJoin (x ++ y))

-- what f gives of the recording that blocks make, if there are any blocks
abbrev pub recorded : {A : Type 0} → (Trace → A) → List Block → Option A
recorded f blocks = option_map f (joined_trace blocks)

-- v is the verdict, by the rules in force, of the recording that a span's blocks make
abbrev pub IsVerdictOf : Span → Verdict → Type 0
IsVerdictOf s v =
    (blocks : List Block) → SpanStandsFor s blocks → recorded (verdict_by rules_in_force) blocks ≡ Some v

-- `listing` is the listing of the recording that a span's blocks make
abbrev pub IsListingOf : Span → Listed → Type 0
IsListingOf s listing = (blocks : List Block) → SpanStandsFor s blocks → recorded listing_of blocks ≡ Some listing

-- a block is judged: it is accepted, it has at most 65,536 steps, and the span stands for it alone
pub record IsJudged (b : Block) (s : Span) : Type 0 where
  pub accepted : malformed_step (trace_of b) ≡ None
  pub short : length b.steps ≤ 65536
  pub stands : SpanStandsFor s (b ∷ [])
