-- Which files segments in order cover.
use Rattle.std.specs.Prelude.{◌≡◌, ℕ, ◌+◌, ◌<◌, ◌≤◌, ◌⊎◌, List, [], ◌∷◌, Option, None, Some, IfSome}
use Rattle.std.specs.List.{last_or}
use Rattle.vme_part_format.specs.Tables.{SegmentValue, last_of}

-- the segments follow one another and cover exactly the files from n to end - 1
abbrev pub AreNext : ℕ → List SegmentValue → ℕ → Type 0
AreNext n [] end = end ≡ n
AreNext n (s ∷ ss) end = (s.first ≡ n) × AreNext (last_of s.first s.order + 1) ss end

-- the first segments follow one another and cover the files from n to k - 1, and the next one doesn't begin with k
abbrev pub HasGap : ℕ → List SegmentValue → ℕ → Type 0
HasGap n [] k = ⊥
HasGap n (s ∷ ss) k =
    ((s.first ≡ n → ⊥) × (k ≡ n)) ⊎ ((s.first ≡ n) × HasGap (last_of s.first s.order + 1) ss k)

-- the recording has more than `end` files: it has as many as are given, or else `end`, but at least 1
abbrev pub LacksFrom : Option ℕ → ℕ → Type 0
LacksFrom None end = end ≡ 0
LacksFrom (Some count) end = (end ≡ 0) ⊎ (end < count)

-- if `count` is given, the last file of the last segment is below it
abbrev pub AreWithinFiles : List SegmentValue → Option ℕ → Type 0
AreWithinFiles ss count = IfSome count (λ c. IfSome (last_or None ss) (λ last. last_of last.first last.order < c))

-- `count` is given, and the last file of the last segment, k, isn't below it
pub record IsBeyond (ss : List SegmentValue) (count : Option ℕ) (k : ℕ) : Type 0 where
  pub last : SegmentValue
  pub files : ℕ
  pub there : last_or None ss ≡ Some last
  pub at : k ≡ last_of last.first last.order
  pub counted : count ≡ Some files
  pub behind : files ≤ k
