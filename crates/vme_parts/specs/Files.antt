-- Parts of one recording, and what they cover.
use Rattle.std.specs.Prelude.{◌≡◌, ◌↔◌, ℕ, ◌≤◌, ◌^◌, Bool, List, [], ◌∷◌, take, drop, All, Contains, Some, slice_get}
use Rattle.vme_trace.specs.declared.block.Block.{Block}
use Rattle.vme_part_format.specs.Bounds.{FitsPart}
use Rattle.vme_part_format.specs.Tables.{PartValue, SegmentValue, last_of}
use Rattle.vme_parts.specs.OnlyWithMarks.{HaveNodes}
use Rattle.vme_parts.specs.Stands.{SegmentStandsFor}

-- the files of a recording: the one with the index k has the number k
abbrev pub AreFiles : List Block → Type 0
AreFiles files = (k : ℕ) (b : Block) → slice_get files k ≡ Some b → b.number ≡ k

-- the files that the segment s covers
abbrev pub files_of : List Block → SegmentValue → List Block
files_of files s = take (2 ^ s.order) (drop s.first files)

-- each segment stands for the files that it covers
abbrev pub AllStand : Bool → List Block → List SegmentValue → Type 0
AllStand listing files ss = All (λ (s : SegmentValue). SegmentStandsFor listing s (files_of files s)) ss

-- p is a part of files of the recording `files`
pub record IsPartOf (files : List Block) (p : PartValue) : Type 0 where
  pub fits : FitsPart p
  pub stands : AllStand p.listing files p.segments

-- the segment s stands for the one file b, and its tables have nodes only with marks (`listing`)
pub record StandsForFile (listing : Bool) (s : SegmentValue) (b : Block) : Type 0 where
  pub first : s.first ≡ b.number
  pub order : s.order ≡ 0
  pub stands : SegmentStandsFor listing s (b ∷ [])
  pub nodes : HaveNodes listing s

-- p is the part of the file b: it has one segment, which stands for b
abbrev pub IsPartOfFile : Bool → Block → PartValue → Type 0
IsPartOfFile listing b p =
    (s : SegmentValue) × (p.segments ≡ s ∷ []) × (s.first ≡ b.number) × SegmentStandsFor listing s (b ∷ [])

-- a segment covers a number
abbrev pub SegmentCovers : SegmentValue → ℕ → Type 0
SegmentCovers s n = (s.first ≤ n) × (n ≤ last_of s.first s.order)

-- one of the segments covers the number n
abbrev pub SegmentsCover : List SegmentValue → ℕ → Type 0
SegmentsCover ss n = (s : SegmentValue) × Contains ss s × SegmentCovers s n

-- one of the part's segments covers the number n
abbrev pub PartCovers : PartValue → ℕ → Type 0
PartCovers p n = SegmentsCover p.segments n

-- one of the parts covers the number n
abbrev pub SomeCovers : List PartValue → ℕ → Type 0
SomeCovers ps n = (p : PartValue) × Contains ps p × PartCovers p n

-- if ps are parts of the files of a recording, so is r, and r covers exactly what any of ps covers
abbrev pub JoinsParts : List PartValue → PartValue → Type 0
JoinsParts ps r =
    (files : List Block) → AreFiles files → All (IsPartOf files) ps
    → IsPartOf files r × ((n : ℕ) → PartCovers r n ↔ SomeCovers ps n)
