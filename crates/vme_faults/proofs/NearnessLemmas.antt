-- How the bytes at one place change a common prefix, and how the variable at one index begins the distances.
use Rattle.std.proofs.Common.{◌≡◌, ◌∙◌, ap, ℕ, ◌+◌, ◌<◌, ◌≤◌, inl, inr, List, [], ◌∷◌, Bool, cond, true, false}
use Rattle.std.proofs.Common.{length, drop, get_or, refl}
use Rattle.std.proofs.lemmas.Bool.{cases_lt}
use Rattle.std.proofs.lemmas.List.{drop_all, drop_more}
use Rattle.std.specs.Char.{eq_ignore_ascii_case}
use Rattle.vcd_read.specs.declared.dump.Variable.{Variable}
use Rattle.vme_faults.specs.Nearness.{path_distance, common_prefix, distances}

-- no byte is common with a text without bytes
common_prefix-nil : (xs : List ℕ) → common_prefix xs [] ≡ 0
unfolding common_prefix
common_prefix-nil [] = refl
common_prefix-nil (x ∷ xs) = refl

-- two texts have one byte more in common than the texts after their first bytes if these are the same, and else none
common_prefix-cons : (x : ℕ) (xs : List ℕ) (y : ℕ) (ys : List ℕ)
    → common_prefix (x ∷ xs) (y ∷ ys) ≡ cond (eq_ignore_ascii_case x y) (common_prefix xs ys + 1) 0
unfolding common_prefix
common_prefix-cons x xs y ys = refl

-- the common prefix from `i` on is one longer than that from `i + 1` on if the bytes at `i` are the same, and else
-- empty
common_prefix-from : (xs ys : List ℕ) (i : ℕ) (same : Bool) → i < length xs → i < length ys
    → eq_ignore_ascii_case (get_or xs i 0) (get_or ys i 0) ≡ same
    → common_prefix (drop i xs) (drop i ys) ≡ cond same (common_prefix (drop (i + 1) xs) (drop (i + 1) ys) + 1) 0
common_prefix-from xs ys i same h k e =
    rw (drop_more xs i 0 h, drop_more ys i 0 k)
    (common_prefix-cons (get_or xs i 0) (drop (i + 1) xs) (get_or ys i 0) (drop (i + 1) ys)
    ∙ ap (λ (b : Bool). cond b (common_prefix (drop (i + 1) xs) (drop (i + 1) ys) + 1) 0) e)

-- if the bytes at `i` are the same, the common prefix from there on is one longer than that from `i + 1` on
pub common_prefix-same : (xs ys : List ℕ) (i : ℕ) → i < length xs → i < length ys
    → eq_ignore_ascii_case (get_or xs i 0) (get_or ys i 0) ≡ true
    → common_prefix (drop i xs) (drop i ys) ≡ common_prefix (drop (i + 1) xs) (drop (i + 1) ys) + 1
common_prefix-same xs ys i h k e = common_prefix-from xs ys i true h k e

-- if the bytes at `i` differ, the common prefix from there on is empty
pub common_prefix-other : (xs ys : List ℕ) (i : ℕ) → i < length xs → i < length ys
    → eq_ignore_ascii_case (get_or xs i 0) (get_or ys i 0) ≡ false
    → common_prefix (drop i xs) (drop i ys) ≡ 0
common_prefix-other xs ys i h k e = common_prefix-from xs ys i false h k e

-- from where the first text ends, or after that, the common prefix is empty
common_prefix-first_ends : (xs ys : List ℕ) (i : ℕ) → length xs ≤ i → common_prefix (drop i xs) (drop i ys) ≡ 0
unfolding common_prefix
common_prefix-first_ends xs ys i h = rw (drop_all i xs h) refl

-- from where the second text ends, or after that, the common prefix is empty
common_prefix-second_ends : (xs ys : List ℕ) (i : ℕ) → length ys ≤ i → common_prefix (drop i xs) (drop i ys) ≡ 0
common_prefix-second_ends xs ys i h = rw (drop_all i ys h) (common_prefix-nil (drop i xs))

-- if `i` isn't a place in both, the common prefix from there on is empty
pub common_prefix-ends : (xs ys : List ℕ) (i : ℕ) → (i < length xs → length ys ≤ i)
    → common_prefix (drop i xs) (drop i ys) ≡ 0
common_prefix-ends xs ys i past =
    elim (cases_lt i (length xs))
    [ inl h ↦ common_prefix-second_ends xs ys i (past h) | inr h ↦ common_prefix-first_ends xs ys i h ]

-- the distances from the variable `i` on begin with that of this variable
pub distances-more : (path : List ℕ) (variables : List Variable) (i : ℕ) (d : Variable) → i < length variables
    → distances path (drop i variables) i
    ≡ record { distance = path_distance path (get_or variables i d).path; place = i }
    ∷ distances path (drop (i + 1) variables) (i + 1)
unfolding distances
distances-more path variables i d h = rw (drop_more variables i d h) refl

-- after the last variable there are no distances
pub distances-end : (path : List ℕ) (variables : List Variable) (i : ℕ) → length variables ≤ i
    → distances path (drop i variables) i ≡ []
unfolding distances
distances-end path variables i h = rw (drop_all i variables h) refl
