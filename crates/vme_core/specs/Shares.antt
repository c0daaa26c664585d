-- The shares of benches. A share is a list of exponents: e is a part of 2^-e. The first bench has the whole, a split
-- halves a part, and a join of two benches joins their lists.
use Rattle.std.specs.Prelude.{◌≡◌, ℕ, suc, ◌+◌, ◌-◌, ◌^◌, ◌≤◌, List, [], ◌∷◌}

-- how many parts of 2^-k a share is
abbrev pub weight : ℕ → List ℕ → ℕ
weight k [] = 0
weight k (e ∷ es) = 2 ^ (k - e) + weight k es

-- each part of the share is a multiple of 2^-k
abbrev pub FitsIn : ℕ → List ℕ → Type 0
FitsIn k [] = Unit {0}
FitsIn k (e ∷ es) = (e ≤ k) × FitsIn k es

-- the share is the whole
abbrev pub IsWholeShare : List ℕ → Type 0
IsWholeShare es = (k : ℕ) × FitsIn k es × (weight k es ≡ 2 ^ k)

-- the share that a bench keeps after a split: its first part is halved
abbrev pub kept_share : List ℕ → List ℕ
kept_share [] = []
kept_share (e ∷ es) = suc e ∷ es

-- the share of the bench that is split off: the other half of the first part
abbrev pub split_share : List ℕ → List ℕ
split_share [] = []
split_share (e ∷ es) = suc e ∷ []
