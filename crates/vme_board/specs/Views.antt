-- Relations between a bench's view before and after a call. A bench is a worker's handle to the board. Its view has
-- what it filed (`list`), took (`takes`) and won (`draws`), its share of the board, and what it has seen: which draws
-- are won (`found`), by itself or another bench, and which numbers of blocks are claimed, filed and taken. A draw is a
-- number that one bench alone wins.
use Rattle.std.specs.Prelude.{◌≡◌, ◌⊎◌, ℕ, ◌<◌, max}
use Rattle.vme_trace.specs.declared.block.Block.{Block}
use Rattle.vme_core.specs.declared.view.View.{View}
use Rattle.vme_core.specs.declared.stage.Stage.TheVariants.{Filed, Taken}
use Rattle.vme_core.specs.Counting.{occurrences, HasPair}
use Rattle.vme_core.specs.Stages.{rank, seen}

-- the draws won, the draws found won and the share don't change
pub record SameDraws (old new : View) : Type 0 where
  pub draws : new.draws ≡ old.draws
  pub found : new.found ≡ old.found
  pub share : new.share ≡ old.share

-- what the bench filed, took, won and found won doesn't change, nor does its share
pub record SameWork (old new : View) : Type 0 where
  pub list : new.list ≡ old.list
  pub takes : new.takes ≡ old.takes
  pub draws : new.draws ≡ old.draws
  pub found : new.found ≡ old.found
  pub share : new.share ≡ old.share

-- nothing changes of the block numbers: which the bench filed and took, and which it has seen claimed, filed and taken;
-- nor does the share. Only the draws won and the draws found won may change
pub record SameNumbers (old new : View) : Type 0 where
  pub list : new.list ≡ old.list
  pub takes : new.takes ≡ old.takes
  pub claimed : new.claimed ≡ old.claimed
  pub filed : new.filed ≡ old.filed
  pub taken : new.taken ≡ old.taken
  pub pending : new.pending ≡ old.pending
  pub share : new.share ≡ old.share

-- the bench has found each draw below k won
abbrev pub AllFound : View → ℕ → Type 0
AllFound v k = (d : ℕ) → d < k → 0 < occurrences d v.found

-- the view u has seen each number at the later of the stages at which v and w have seen it
abbrev pub SeesGreater : View → View → View → Type 0
SeesGreater v w u = (n : ℕ) → rank (seen u n) ≡ max (rank (seen v n)) (rank (seen w n))

-- the bench hadn't seen the number filed, or sees it taken now
abbrev pub HasNothingToTake : View → View → ℕ → Type 0
HasNothingToTake old new n = (rank (seen old n) < rank Filed) ⊎ (seen new n ≡ Taken)

-- the bench has neither won the draw nor found it won
abbrev pub IsNewDraw : View → ℕ → Type 0
IsNewDraw v d = (occurrences d v.draws ≡ 0) × (occurrences d v.found ≡ 0)

-- a number that the bench both filed and took has the same block in both
abbrev pub SameBlocks : View → Type 0
SameBlocks v = (n : ℕ) (b c : Block) → HasPair v.list n b → HasPair v.takes n c → b ≡ c
