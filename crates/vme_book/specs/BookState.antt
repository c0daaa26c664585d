-- What a book keeps of the blocks that were inserted.
use Rattle.std.specs.Prelude.{◌≡◌, ℕ, ◌+◌, ◌<◌, ◌≤◌, List, [], ◌∷◌, ◌++◌, length, map, take, Option, Some, None}
use Rattle.vme_trace.specs.Blocks.{joined_steps}
use Rattle.vme_trace.specs.declared.block.Block.{Block}
use Rattle.vme_summary.specs.Joins.{AreSound, BlocksJoin}
use Rattle.vme_summary.specs.Progressed.{HasCome}
use Rattle.vme_summary.specs.Stands.{SpanStandsFor, step_count}
use Rattle.vme_summary.specs.declared.running_verdict.RunningVerdict.{RunningVerdict}
use Rattle.vme_summary.specs.declared.span.Span.{Span}
use Rattle.vme_book.specs.Inserted.{AllJoin, IsJoinedPrefix, stored}
use Rattle.vme_book.specs.declared.joined.JoinedPrefix.{JoinedPrefix}
use Rattle.vme_book.specs.declared.places.BookSlots.{BookSlots}

-- block b has the number n, and at most 65,536 steps
pub record IsBlockNumbered (n : ℕ) (b : Block) : Type 0 where
  pub number : b.number ≡ n
  pub short : length b.steps ≤ 65536

-- there are at most 4,096 numbers, and each inserted block is at its number
pub record AreAtOwnNumbers (inserted : List (Option Block)) : Type 0 where
  pub few : length inserted ≤ 4096
  pub each : (n : ℕ) (b : Block) → stored inserted n ≡ Some b → IsBlockNumbered n b

-- each block that is inserted at number `from` or later has its span, which stands for this block alone
pub record HaveSpans (inserted : List (Option Block)) (spans : List (Option Span)) (from : ℕ) : Type 0 where
  pub as_many : length spans ≡ length inserted
  pub each : (n : ℕ) (b : Block) → from ≤ n → stored inserted n ≡ Some b
      → (s : Span) × (stored spans n ≡ Some s) × SpanStandsFor s (b ∷ [])

-- the state of judging is that after the blocks bs; None if bs is empty
abbrev pub IsStateAfter : Option RunningVerdict → List Block → Type 0
IsStateAfter None bs = bs ≡ []
IsStateAfter (Some p) bs = HasCome p bs

-- bs is the first n blocks, which are inserted and join, and p is the state of judging after them
pub record IsJudgedPrefix (inserted : List (Option Block)) (p : Option RunningVerdict) (n : ℕ) (bs : List Block)
    : Type 0 where
  pub prefix : IsJoinedPrefix inserted bs
  pub count : length bs ≡ n
  pub come : IsStateAfter p bs

-- the block at number n, if one is inserted, doesn't join the blocks bs
pub record IsEnd (inserted : List (Option Block)) (n : ℕ) (bs : List Block) : Type 0 where
  pub torn : (b : Block) → stored inserted n ≡ Some b → ¬ BlocksJoin (bs ++ b ∷ [])

-- `progress` is the state of judging after the first n blocks, which are inserted and join
abbrev pub HasJudgedPrefix : List (Option Block) → Option RunningVerdict → ℕ → Type 0
HasJudgedPrefix inserted progress n = (bs : List Block) × IsJudgedPrefix inserted progress n bs

-- `progress` is the state of judging after the first n blocks, which are inserted and join; block n isn't inserted, or
-- doesn't join them
abbrev pub HasJudgedLongest : List (Option Block) → Option RunningVerdict → ℕ → Type 0
HasJudgedLongest inserted progress n = (bs : List Block) × IsJudgedPrefix inserted progress n bs × IsEnd inserted n bs

-- the first n blocks are inserted and join
abbrev pub FirstJoin : List (Option Block) → ℕ → Type 0
FirstJoin inserted n = (bs : List Block) × IsJoinedPrefix inserted bs × (length bs ≡ n)

-- the span stands for the blocks bs; None if bs is empty
abbrev pub StandsForSome : Option Span → List Block → Type 0
StandsForSome None bs = bs ≡ []
StandsForSome (Some s) bs = SpanStandsFor s bs

-- where there is a span `start`, its steps and those of `next` are at most 268,435,456 together
abbrev pub FitsAfter : Option Span → Span → Type 0
FitsAfter start next = (s : Span) → start ≡ Some s → step_count s + step_count next ≤ 268435456

-- the span `next` stands for a block that joins the blocks of the span `start`
abbrev pub JoinsAfter : Option Span → Span → Type 0
JoinsAfter start next =
    (xs : List Block) × (b : Block)
    × StandsForSome start xs × SpanStandsFor next (b ∷ []) × BlocksJoin (xs ++ b ∷ [])

-- the span `joined` stands for the blocks of `start` and then the block of `next`
abbrev pub IsJoinedTo : Option Span → Span → Option Span → Type 0
IsJoinedTo start next joined =
    (xs : List Block) (b : Block)
    → StandsForSome start xs → SpanStandsFor next (b ∷ []) → StandsForSome joined (xs ++ b ∷ [])

-- the span `kept` stands for the blocks for which `start` stands
abbrev pub StandsAsBefore : Option Span → Option Span → Type 0
StandsAsBefore start kept = (xs : List Block) → StandsForSome start xs → StandsForSome kept xs

-- bs is the first blocks, as many as `joined` counts, and the span of `joined` stands for them
pub record AreJoinedTo (inserted : List (Option Block)) (joined : JoinedPrefix) (bs : List Block) : Type 0 where
  pub there : take (length bs) inserted ≡ map Some bs
  pub count : length bs ≡ joined.count
  pub stands : StandsForSome joined.span bs

-- the span of `joined` stands for the first blocks, as many as `joined` counts
abbrev pub StandsForPrefix : List (Option Block) → JoinedPrefix → Type 0
StandsForPrefix inserted joined = (xs : List Block) × AreJoinedTo inserted joined xs

-- all blocks are inserted, join and are well formed, and have at most `room` steps
abbrev pub JoinWithin : List (Option Block) → ℕ → Type 0
JoinWithin inserted room =
    (bs : List Block) × AllJoin inserted bs × AreSound bs × (length (joined_steps bs) ≤ room)

-- all that a book keeps: `progress` is the state of judging after the first n blocks, bs, and `start` has joined the
-- first blocks xs
pub record Keeps (p : BookSlots) (progress : Option RunningVerdict) (n : ℕ) (start : JoinedPrefix) (bs xs : List Block)
    : Type 0 where
  pub some : 0 < length p.blocks.items
  pub placed : AreAtOwnNumbers p.blocks.items
  pub waiting : HaveSpans p.blocks.items p.spans.items start.count
  pub past : IsJudgedPrefix p.blocks.items progress n bs
  pub ended : IsEnd p.blocks.items n bs
  pub joined : AreJoinedTo p.blocks.items start xs
  pub within : start.count ≤ n

-- the book keeps all this for some blocks
abbrev pub IsBookState : BookSlots → Option RunningVerdict → ℕ → JoinedPrefix → Type 0
IsBookState p progress n start = (bs : List Block) × (xs : List Block) × Keeps p progress n start bs xs
