-- The blocks that the calling thread has taken off the board.
use Rattle.std.specs.Prelude.{◌≡◌, ℕ, suc, ◌+◌, ◌<◌, ◌≤◌, List, [], ◌∷◌, length, Option, Some, None}
use Rattle.vme_trace.specs.declared.block.Block.{Block}
use Rattle.vme_core.specs.Counting.{occurrences, numbers, HasPair}
use Rattle.vme_core.specs.Stages.{SeesMore}
use Rattle.vme_core.specs.declared.view.View.{View}
use Rattle.vme_board.specs.Benches.{total_of, view_of}
use Rattle.vme_board.specs.Contents.{HasBlock}
use Rattle.vme_board.specs.Views.{AllFound}
use Rattle.vme_board.specs.declared.board.Board.{Board}
use Rattle.vme_floor.specs.Works.{IsWorkOf}
use Rattle.vme_floor.specs.declared.collector.Collection.{Collection}
use Rattle.vme_floor.specs.declared.collector.CollectingWorker.{CollectingWorker}

-- how many places have a block
abbrev pub block_count : List (Option Block) → ℕ
block_count [] = 0
block_count (None ∷ places) = block_count places
block_count (Some b ∷ places) = suc (block_count places)

-- the book of c has exactly the blocks that the bench with the view v took, and the bench has seen each of them filed
pub record IsCollected (total : ℕ) (v : View) (c : Collection) : Type 0 where
  pub total_is : c.total ≡ total
  pub long : length c.book ≡ total
  pub counted : c.count ≡ block_count c.book
  pub took : (n : ℕ) (b : Block) → HasBlock c.book n b → HasPair v.takes n b
  pub kept : (n : ℕ) (b : Block) → HasPair v.takes n b → HasBlock c.book n b
  pub saw : (n : ℕ) → 0 < occurrences n (numbers v.takes) → 0 < occurrences n v.filed

-- the bench took the number n, or has seen it taken
abbrev pub IsKnownTaken : View → ℕ → Type 0
IsKnownTaken v n = 0 < occurrences n (numbers v.takes) + occurrences n v.taken

-- each number that the bench filed was taken, by it or another (`IsKnownTaken`)
abbrev pub OwnAreTaken : View → Type 0
OwnAreTaken v = (n : ℕ) → 0 < occurrences n (numbers v.list) → IsKnownTaken v n

-- the bench may have taken more and seen more numbers; its list, its draws, the draws found won and its share don't
-- change
pub record TakesOnly (old new : View) : Type 0 where
  pub list : new.list ≡ old.list
  pub draws : new.draws ≡ old.draws
  pub found : new.found ≡ old.found
  pub share : new.share ≡ old.share
  pub takes : (n : ℕ) → occurrences n (numbers old.takes) ≤ occurrences n (numbers new.takes)
  pub sees : SeesMore old new

-- the work of a bench of the board that has found each draw won, and the book of the blocks that it took
pub record IsCollectedOf (board : Board) (deliveries : List Block) (c : CollectingWorker) : Type 0 where
  pub work : IsWorkOf board deliveries c.work
  pub found : AllFound (view_of c.work.bench) (length deliveries)
  pub collected : IsCollected (total_of board) (view_of c.work.bench) c.collection
