-- Segments that were gathered from others: they cover the same files, and no two have a file in common.
use Rattle.std.specs.Prelude.{◌≡◌, ◌↔◌, ℕ, ◌+◌, ◌-◌, ◌*◌, ◌<◌, ◌≤◌, ◌⊎◌, Bool, List, [], ◌∷◌, All}
use Rattle.std.specs.Prelude.{Option, None, Some, sum_by}
use Rattle.std.specs.List.{flat_map, last_or}
use Rattle.vme_trace.specs.declared.block.Block.{Block}
use Rattle.vme_part_format.specs.Bounds.{FitsNumbers, FitsSegment, IsAfter}
use Rattle.vme_part_format.specs.Sizes.{IsCompact}
use Rattle.vme_part_format.specs.Tables.{PartValue, SegmentValue, last_of}
use Rattle.vme_parts.specs.Buddies.{HasTables}
use Rattle.vme_parts.specs.Files.{AllStand, SegmentsCover}
use Rattle.vme_parts.specs.Joined.{IsOfBoth}

-- each segment begins after the last file of the one before it
abbrev pub Ascend : Option ℕ → List SegmentValue → Type 0
Ascend before [] = Unit {0}
Ascend before (s ∷ ss) = IsAfter before s × Ascend (Some (last_of s.first s.order)) ss

-- the number f of a segment that is joined from two is at most those of both together
abbrev pub IsNoGreaterJoined : (SegmentValue → ℕ) → Type 0
IsNoGreaterJoined f = (s t r : SegmentValue) → IsOfBoth s t r → f r ≤ f s + f t

-- ss were gathered from `done`: they cover the same files, they stand for theirs if `done` do, they can be written if
-- `done` can, they are compact if `done` are, and if joining makes no number greater, theirs are at most those of
-- `done`, all together
pub record Gathered (done ss : List SegmentValue) : Type 0 where
  pub order : Ascend None ss
  pub covers : (n : ℕ) → SegmentsCover ss n ↔ SegmentsCover done n
  pub stand : (listing : Bool) (files : List Block) → AllStand listing files done → AllStand listing files ss
  pub fits : (listing : Bool) → All (FitsSegment listing) done → All (FitsSegment listing) ss
  pub compact : All IsCompact done → All IsCompact ss
  pub few : (f : SegmentValue → ℕ) → IsNoGreaterJoined f → sum_by f ss ≤ sum_by f done

-- what holds of any segment that was read: its numbers fit, and each table has as many memories as its monitor
pub record IsSegment (s : SegmentValue) : Type 0 where
  pub numbers : FitsNumbers s.first s.order
  pub tables : HasTables s

-- s comes before t in the order in which segments are added
abbrev pub Precedes : SegmentValue → SegmentValue → Type 0
Precedes s t = (s.first < t.first) ⊎ ((s.first ≡ t.first) × (t.order ≤ s.order))

-- the key of the order in which segments are added: first by the first file, then a greater segment before one that
-- lies in it
abbrev pub order_key : SegmentValue → ℕ
order_key s = s.first * 64 + (62 - s.order)

-- s begins with a file of the last of ss, or before it
pub record BeginsInLast (ss : List SegmentValue) (s : SegmentValue) : Type 0 where
  pub last : SegmentValue
  pub there : last_or None ss ≡ Some last
  pub within : s.first ≤ last_of last.first last.order

-- the segments of all parts
abbrev pub segments_of : List PartValue → List SegmentValue
segments_of ps = flat_map (λ (p : PartValue). p.segments) ps
