-- How far the paths of variables are from one that is sought.
use Rattle.std.specs.Prelude.{◌≡◌, ℕ, ◌+◌, ◌-◌, min, max, List, [], ◌∷◌, length, reverse, take, if◌then◌else◌}
use Rattle.std.specs.Char.{eq_ignore_ascii_case}
use Rattle.std.specs.List.Sorted.{IsPermutation, IsSorted}
use Rattle.std.specs.Ordering.{nat_cmp, ordering_then}
use Rattle.std.specs.declared.cmp.Ordering.{Ordering}
use Rattle.vcd_read.specs.declared.dump.Variable.{Variable}
use Rattle.vme_faults.specs.declared.nearness.VariableDistance.{VariableDistance}

-- the number of bytes that both begin with, whatever the case of letters of ASCII
unfoldable pub common_prefix : List ℕ → List ℕ → ℕ
common_prefix [] ys = 0
common_prefix (x ∷ xs) [] = 0
common_prefix (x ∷ xs) (y ∷ ys) = if eq_ignore_ascii_case x y then common_prefix xs ys + 1 else 0

-- the number of bytes that both end with, whatever the case of letters of ASCII
abbrev pub common_suffix : List ℕ → List ℕ → ℕ
common_suffix xs ys = common_prefix (reverse xs) (reverse ys)

-- the length of the longer one, less the common prefix and the common suffix, which don't overlap in the shorter one
abbrev pub path_distance : List ℕ → List ℕ → ℕ
path_distance xs ys =
    max (length xs) (length ys) - min (common_prefix xs ys + common_suffix xs ys) (min (length xs) (length ys))

-- how far the path of each variable is from `path`; the first variable has the index `place`
unfoldable pub distances : List ℕ → List Variable → ℕ → List VariableDistance
distances path [] place = []
distances path (v ∷ variables) place =
    record { distance = path_distance path v.path; place = place } ∷ distances path variables (place + 1)

-- the nearer one comes first, and of two at the same distance the one with the lower index
abbrev pub near_cmp : VariableDistance → VariableDistance → Ordering
near_cmp a b = ordering_then (nat_cmp a.distance b.distance) (nat_cmp a.place b.place)

-- `found` are the first `count` variables, or all if there are fewer, in the order of `near_cmp`
pub record AreNearest (path : List ℕ) (variables : List Variable) (count : ℕ) (found : List VariableDistance)
    : Type 0 where
  pub ordered : List VariableDistance
  pub are_all : IsPermutation (distances path variables 0) ordered
  pub is_ordered : IsSorted near_cmp ordered
  pub are_first : found ≡ take count ordered
