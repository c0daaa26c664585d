-- Blocks inserted by their numbers: at each number the block that was inserted there, if there is one.
use Rattle.std.specs.Prelude.{◌≡◌, ℕ, ◌+◌, ◌<◌, ◌≤◌, List, length, map, take, Option, Some, None}
use Rattle.std.specs.Prelude.{slice_index_or}
use Rattle.vme_trace.specs.Verdict.{rules_in_force, verdict_by}
use Rattle.vme_trace.specs.declared.block.Block.{Block}
use Rattle.vme_trace.specs.declared.verdict.Verdict.{Verdict}
use Rattle.vme_summary.specs.Joins.{BlocksJoin, joined_trace}
use Rattle.vme_summary.specs.Stands.{SpanStandsFor, first_number, recorded}
use Rattle.vme_book.specs.declared.book.Whole.{Whole}
use Rattle.vme_book.specs.declared.book.InsertFault.{InsertFault}
use Rattle.vme_book.specs.declared.book.InsertFault.TheVariants as insert_fault
use Rattle.vme_book.specs.declared.book.CloseFault.{CloseFault}
use Rattle.vme_book.specs.declared.book.CloseFault.TheVariants as close_fault

-- what is at number n, if anything is
abbrev pub stored : {A : Type 0} → List (Option A) → ℕ → Option A
stored places n = slice_index_or places n None

-- bs is the first blocks, from number 0 on: all of them are inserted, and they join
pub record IsJoinedPrefix (inserted : List (Option Block)) (bs : List Block) : Type 0 where
  pub there : take (length bs) inserted ≡ map Some bs
  pub join : BlocksJoin bs

-- bs is the longest list of blocks from number 0 on that are inserted and join
pub record IsLongestPrefix (inserted : List (Option Block)) (bs : List Block) : Type 0 where
  pub prefix : IsJoinedPrefix inserted bs
  pub longest : (cs : List Block) → IsJoinedPrefix inserted cs → length cs ≤ length bs

-- v is the verdict, by the rules in force, of the recording of the longest list of blocks from number 0 on that are
-- inserted and join, or None where that list is empty
abbrev pub IsVerdictSoFar : List (Option Block) → Option Verdict → Type 0
IsVerdictSoFar inserted v =
    (bs : List Block) × IsLongestPrefix inserted bs × (v ≡ recorded (verdict_by rules_in_force) bs)

-- a block is inserted at each number
abbrev pub AllThere : List (Option Block) → Type 0
AllThere inserted = (n : ℕ) → n < length inserted → (b : Block) × (stored inserted n ≡ Some b)

-- n is the least number at which no block is inserted
pub record IsLeastMissing (inserted : List (Option Block)) (n : ℕ) : Type 0 where
  pub within : n < length inserted
  pub missing : stored inserted n ≡ None
  pub before : (k : ℕ) → k < n → (b : Block) × (stored inserted k ≡ Some b)

-- bs is all blocks, which are inserted, and block n is the first that doesn't join the blocks before it
pub record IsLeastTorn (inserted : List (Option Block)) (n : ℕ) (bs : List Block) : Type 0 where
  pub all : inserted ≡ map Some bs
  pub within : n < length bs
  pub join : BlocksJoin (take n bs)
  pub torn : ¬ BlocksJoin (take (n + 1) bs)

-- bs is all blocks: they are inserted and join
pub record AllJoin (inserted : List (Option Block)) (bs : List Block) : Type 0 where
  pub all : inserted ≡ map Some bs
  pub join : BlocksJoin bs

-- bs is all blocks, and `whole` has their span, from number 0 on, and their recording
pub record IsWhole (inserted : List (Option Block)) (whole : Whole) (bs : List Block) : Type 0 where
  pub all : inserted ≡ map Some bs
  pub starts : first_number whole.span ≡ 0
  pub stands : SpanStandsFor whole.span bs
  pub capture : joined_trace bs ≡ Some whole.capture

-- all blocks are inserted, and `whole` has their span and their recording
abbrev pub MakesWhole : List (Option Block) → Whole → Type 0
MakesWhole inserted whole = (bs : List Block) × IsWhole inserted whole bs

-- what each fault says of a block with number n that is not inserted
abbrev pub RefusesBlock : List (Option Block) → ℕ → InsertFault → Type 0
RefusesBlock inserted n insert_fault.Stranger = length inserted ≤ n
RefusesBlock inserted n insert_fault.Doubled = (b : Block) × (stored inserted n ≡ Some b)
RefusesBlock inserted n insert_fault.Memory = (n < length inserted) × (stored inserted n ≡ None)

-- what each fault says of a book that is not closed
abbrev pub RefusesClose : List (Option Block) → CloseFault → Type 0
RefusesClose inserted (close_fault.Missing n) = IsLeastMissing inserted n
RefusesClose inserted (close_fault.Torn n) = (bs : List Block) × IsLeastTorn inserted n bs
RefusesClose inserted close_fault.Memory = (bs : List Block) × AllJoin inserted bs
