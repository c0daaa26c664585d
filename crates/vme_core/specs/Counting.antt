-- How often a number occurs in a list, and sums over the numbers below a limit.
use Rattle.std.specs.Prelude.{ℕ, zero, suc, ◌≡◌, ◌⊎◌, ◌+◌, ◌≤◌, ◌==◌, cond, List, [], ◌∷◌}
use Rattle.vme_trace.specs.declared.block.Block.{Block}

-- how often n occurs in the list
abbrev pub occurrences : ℕ → List ℕ → ℕ
occurrences n [] = 0
occurrences n (x ∷ xs) = cond (n == x) 1 0 + occurrences n xs

-- no number occurs in both lists, or twice in one
abbrev pub AreDisjoint : List ℕ → List ℕ → Type 0
AreDisjoint xs ys = (n : ℕ) → occurrences n xs + occurrences n ys ≤ 1

-- the number of each pair
abbrev pub numbers : List (ℕ × Block) → List ℕ
numbers [] = []
numbers (x ∷ xs) = x.0 ∷ numbers xs

-- the pair (n, b) occurs in the list
abbrev pub HasPair : List (ℕ × Block) → ℕ → Block → Type 0
HasPair [] n b = ⊥
HasPair (x ∷ xs) n b = ((x.0 ≡ n) × (x.1 ≡ b)) ⊎ HasPair xs n b

-- f, but x at n
abbrev pub update : {X : Type 0} → (ℕ → X) → ℕ → X → ℕ → X
update f n x m = cond (m == n) x (f m)

-- the sum of f over the numbers below the last argument
abbrev pub sum_below : (ℕ → ℕ) → ℕ → ℕ
sum_below f zero = 0
sum_below f (suc n) = f n + sum_below f n

-- the numbers first + i for which bits i is 1, where i is below the last argument
abbrev pub set_bits : ℕ → (ℕ → ℕ) → ℕ → List ℕ
set_bits first bits zero = []
set_bits first bits (suc i) = cond (bits i == 1) ((first + i) ∷ set_bits first bits i) (set_bits first bits i)

-- 1 if `seen` is positive and `had` is 0, else 0
abbrev pub lack : ℕ → ℕ → ℕ
lack zero had = 0
lack (suc seen) zero = 1
lack (suc seen) (suc had) = 0

-- 1 if n occurs in `seen` and not in `had`, else 0
abbrev pub missing_at : List ℕ → List ℕ → ℕ → ℕ
missing_at seen had n = lack (occurrences n seen) (occurrences n had)

-- how many numbers below `limit` occur in `seen` and not in `had`
abbrev pub missing_count : List ℕ → List ℕ → ℕ → ℕ
missing_count seen had limit = sum_below (missing_at seen had) limit
