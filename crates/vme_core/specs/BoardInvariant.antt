-- The invariant of the board. It is stated over functions, so that it applies to a state of the machine and to the
-- words and slots of a shared table. For each number, `claimed`, `filed` and `taken` are 0 or 1, and for each draw so
-- is `drawn`. `content` is the block that was filed for a number. `IsEmpty` says that a number's slot is in the table
-- and empty, and `IsFilled` that it is in the table with a block.
use Rattle.std.specs.Prelude.{◌≡◌, ℕ, ◌+◌, ◌^◌, ◌<◌, ◌≤◌, List, [], Option, Some, None, sum_by}
use mathlib.Core.Option.{some}
use lib.ListN.{get_elem?}
use Rattle.vme_trace.specs.declared.block.Block.{Block}
use Rattle.vme_core.specs.declared.view.View.{View}
use Rattle.vme_core.specs.Counting.{occurrences, numbers, HasPair}
use Rattle.vme_core.specs.Shares.{weight, FitsIn}
use Rattle.vme_core.specs.Stages.{claimed_bit, filed_bit, taken_bit}
use Rattle.vme_core.specs.Machine.{Core, empty, filled}

-- each draw that is drawn was won once, and no other was won; a draw that a bench has seen won is drawn
pub record DrawInvariant (drawn : ℕ → ℕ) (views : List View) : Type 0 where
  pub bit : (d : ℕ) → drawn d ≤ 1
  pub won_once : (d : ℕ) → sum_by (λ v. occurrences d v.draws) views ≡ drawn d
  pub found : (i : ℕ) (v : View) → get_elem? views i ≡ some v → (d : ℕ) → 0 < occurrences d v.found → drawn d ≡ 1

-- A number is pending with one bench if it is claimed and not filed, and else with none. A filed number was filed by
-- one bench, and a taken number was taken by one. What a bench has seen is so. Each claimed number is below `limit`.
pub record StageInvariant (limit : ℕ) (claimed filed taken : ℕ → ℕ) (views : List View) : Type 0 where
  pub bit : (n : ℕ) → claimed n ≤ 1
  pub in_range : (n : ℕ) → 0 < claimed n → n < limit
  pub taken_is_filed : (n : ℕ) → taken n ≤ filed n
  pub pending_once : (n : ℕ) → sum_by (λ v. occurrences n v.pending) views + filed n ≡ claimed n
  pub filed_once : (n : ℕ) → sum_by (λ v. occurrences n (numbers v.list)) views ≡ filed n
  pub taken_once : (n : ℕ) → sum_by (λ v. occurrences n (numbers v.takes)) views ≡ taken n
  pub saw_claimed : (i : ℕ) (v : View) → get_elem? views i ≡ some v
      → (n : ℕ) → 0 < occurrences n v.claimed → claimed n ≡ 1
  pub saw_filed : (i : ℕ) (v : View) → get_elem? views i ≡ some v → (n : ℕ) → 0 < occurrences n v.filed → filed n ≡ 1
  pub saw_taken : (i : ℕ) (v : View) → get_elem? views i ≡ some v → (n : ℕ) → 0 < occurrences n v.taken → taken n ≡ 1

-- The slot of a number that isn't claimed is empty. That of a filed number that isn't taken has its content, and no
-- other slot in the table has a block. A block that a bench filed or took is the content of its number.
pub record ContentInvariant (claimed filed taken : ℕ → ℕ) (content : ℕ → Option Block)
    (IsEmpty : ℕ → Type 0) (IsFilled : ℕ → Block → Type 0) (views : List View) : Type 0 where
  pub free_is_empty : (n : ℕ) → claimed n ≡ 0 → IsEmpty n
  pub unfiled_is_none : (n : ℕ) → filed n ≡ 0 → content n ≡ None
  pub filed_is_stored : (n : ℕ) → filed n ≡ 1 → taken n ≡ 0 → (b : Block) × (content n ≡ Some b) × IsFilled n b
  pub stored_is_filed : (n : ℕ) (b : Block) → IsFilled n b → (filed n ≡ 1) × (taken n ≡ 0) × (content n ≡ Some b)
  pub listed : (i : ℕ) (v : View) → get_elem? views i ≡ some v
      → (n : ℕ) (b : Block) → HasPair v.list n b → content n ≡ Some b
  pub took : (i : ℕ) (v : View) → get_elem? views i ≡ some v
      → (n : ℕ) (b : Block) → HasPair v.takes n b → content n ≡ Some b

-- the view has no list, no takes, no draws, and nothing pending
pub record HasNothing (v : View) : Type 0 where
  pub list : v.list ≡ []
  pub takes : v.takes ≡ []
  pub draws : v.draws ≡ []
  pub pending : v.pending ≡ []

-- The shares of all views together are the whole, in parts of 2^-k. A view without a share satisfies `HasNothing`.
pub record ShareInvariant (views : List View) : Type 0 where
  pub k : ℕ
  pub fit : (i : ℕ) (v : View) → get_elem? views i ≡ some v → FitsIn k v.share
  pub whole : sum_by (λ v. weight k v.share) views ≡ 2 ^ k
  pub no_share_has_nothing : (i : ℕ) (v : View) → get_elem? views i ≡ some v → v.share ≡ [] → HasNothing v

-- the invariant of a board, by the bits and slots of its table and the views of its benches
pub record BoardInvariant (limit : ℕ) (drawn claimed filed taken : ℕ → ℕ) (content : ℕ → Option Block)
    (IsEmpty : ℕ → Type 0) (IsFilled : ℕ → Block → Type 0) (views : List View) : Type 0 where
  pub draws : DrawInvariant drawn views
  pub shares : ShareInvariant views
  pub stages : StageInvariant limit claimed filed taken views
  pub contents : ContentInvariant claimed filed taken content IsEmpty IsFilled views

-- the invariant of a state of the machine
abbrev pub Invariant : ℕ → Core → Type 0
Invariant limit s =
    BoardInvariant limit s.drawn (λ n. claimed_bit (s.stage n)) (λ n. filed_bit (s.stage n))
    (λ n. taken_bit (s.stage n))
    s.content (λ n. s.home n ≡ empty) (λ n b. s.home n ≡ filled b) s.views
