-- The contents of a closed board: `places` has an item for each number.
use Rattle.std.specs.Prelude.{◌≡◌, ◌⊎◌, ℕ, ◌+◌, ◌<◌, List, length, slice_get, Option, Some, None}
use Rattle.vme_trace.specs.declared.block.Block.{Block}
use Rattle.vme_core.specs.declared.stage.Stage.TheVariants.{Claimed}
use Rattle.vme_core.specs.declared.view.View.{View}
use Rattle.vme_core.specs.Stages.{HasSeen}
use Rattle.vme_core.specs.Counting.{HasPair, occurrences, numbers, sum_below, missing_count}

-- the place of n has the block b
abbrev pub HasBlock : List (Option Block) → ℕ → Block → Type 0
HasBlock places n b = slice_get places n ≡ Some (Some b)

-- the place of n has no block
abbrev pub HasNone : List (Option Block) → ℕ → Type 0
HasNone places n = slice_get places n ≡ Some None

-- 1 if a place is there and has a block, else 0
abbrev pub filled_bit : Option (Option Block) → ℕ
filled_bit None = 0
filled_bit (Some None) = 0
filled_bit (Some (Some b)) = 1

-- 1 if place n has a block, else 0
abbrev pub filled_at : List (Option Block) → ℕ → ℕ
filled_at places n = filled_bit (slice_get places n)

-- how many places have a block
abbrev pub filled_count : List (Option Block) → ℕ
filled_count places = sum_below (filled_at places) (length places)

-- each block is at the place of its number
abbrev pub AreNumbered : List (Option Block) → Type 0
AreNumbered places = (n : ℕ) (b : Block) → HasBlock places n b → b.number ≡ n

-- each block that the bench filed is at its place, or the place has no block
abbrev pub HasList : View → List (Option Block) → Type 0
HasList v places = (n : ℕ) (b : Block) → HasPair v.list n b → HasBlock places n b ⊎ HasNone places n

-- each block that the bench filed and didn't take is at its place
abbrev pub HasUntaken : View → List (Option Block) → Type 0
HasUntaken v places =
    (n : ℕ) (b : Block) → HasPair v.list n b → occurrences n (numbers v.takes) ≡ 0 → HasBlock places n b

-- the place of each number that the bench took has no block
abbrev pub LacksTakes : View → List (Option Block) → Type 0
LacksTakes v places = (n : ℕ) → 0 < occurrences n (numbers v.takes) → HasNone places n

-- each block at any place was filed by the bench
abbrev pub HasOnlyList : View → List (Option Block) → Type 0
HasOnlyList v places = (n : ℕ) (b : Block) → HasBlock places n b → HasPair v.list n b

-- the place of each number that the bench didn't file has no block
abbrev pub LacksOthers : View → List (Option Block) → Type 0
LacksOthers v places = (n : ℕ) → n < length places → occurrences n (numbers v.list) ≡ 0 → HasNone places n

-- the numbers filed by the bench and by others are as many as the places with a block and the numbers taken by either
abbrev pub AddUp : View → List (Option Block) → ℕ → ℕ → Type 0
AddUp v places others taken = others + length v.list ≡ filled_count places + taken + length v.takes

-- the bench won each draw that it has seen won, filed each number that it has seen at the stage Claimed or later, and
-- took each number that it has seen taken
pub record DidAll (v : View) : Type 0 where
  pub draws : (d : ℕ) → 0 < occurrences d v.found → occurrences d v.draws ≡ 1
  pub list : (n : ℕ) → HasSeen v n Claimed → occurrences n (numbers v.list) ≡ 1
  pub takes : (n : ℕ) → 0 < occurrences n v.taken → occurrences n (numbers v.takes) ≡ 1

-- how many numbers the bench has seen filed that it didn't file
abbrev pub unlisted_count : View → ℕ → ℕ
unlisted_count v total = missing_count v.filed (numbers v.list) total

-- how many numbers the bench has seen taken that it didn't take
abbrev pub untaken_count : View → ℕ → ℕ
untaken_count v total = missing_count v.taken (numbers v.takes) total
