-- A list of numbers below a limit, in which each n occurs at most f n times, and the numbers that are missing from it
-- are together at most as many as the sum of f.
use Rattle.std.proofs.Common.{◌≡◌, ℕ, zero, suc, ◌+◌, ◌<◌, ◌≤◌, List, [], ◌∷◌, length, sym, refl, ap, arith, subst}
use mathlib.Core.Logic.{dite}
use native.Mathlib.Decide.{ℕ_discrete}
use Rattle.vme_trace.specs.declared.block.Block.{Block}
use Rattle.vme_core.specs.Counting.{occurrences, sum_below, numbers, lack, missing_at}
use Rattle.vme_core.proofs.Sums.{occurrences-cons_same, occurrences-cons_other}

-- if f is at most g everywhere, so are the sums
pub sum_below-monotone : (f g : ℕ → ℕ) (limit : ℕ) → ((n : ℕ) → f n ≤ g n) → sum_below f limit ≤ sum_below g limit
sum_below-monotone f g zero h = omega arith
sum_below-monotone f g (suc n) h = omega (arith, sum_below-monotone f g n h, h n)

-- the numbers below a limit that is at most x occur 0 times in the list of x alone
sum_below-past : (x limit : ℕ) → limit ≤ x → sum_below (λ n. occurrences n (x ∷ [])) limit ≡ 0
sum_below-past x zero h = refl
sum_below-past x (suc n) h = omega (
  arith,
  sum_below-past x n (omega arith),
  occurrences-cons_other n x []
      (λ e. omega (arith, e)),
)

-- the numbers below a limit that is above x occur once, all together, in the list of x alone
sum_below-one : (x limit : ℕ) → x < limit → sum_below (λ n. occurrences n (x ∷ [])) limit ≡ 1
sum_below-one x zero h = absurd (omega arith)
sum_below-one x (suc n) h = dite (ℕ_discrete x n)
    (λ e. omega (
      arith,
      sum_below-past x n (omega (arith, e)),
      occurrences-cons_same x [],
      ap (λ (y : ℕ). occurrences y (x ∷ [])) e,
    ))
    (λ ne. omega (arith, sum_below-one x n (omega (arith, ne)), occurrences-cons_other n x [] (λ e. ne (sym e))))

-- the sum of f and g is the sum of f and that of g
pub sum_below-plus : (f g : ℕ → ℕ) (limit : ℕ) → sum_below (λ n. f n + g n) limit ≡ sum_below f limit + sum_below g
    limit
sum_below-plus f g zero = refl
sum_below-plus f g (suc n) = omega (arith, sum_below-plus f g n)

-- equal functions have equal sums
sum_below-same : (f g : ℕ → ℕ) (limit : ℕ) → ((n : ℕ) → f n ≡ g n) → sum_below f limit ≡ sum_below g limit
sum_below-same f g limit h = ap (λ (k : ℕ → ℕ). sum_below k limit) (λ i n. h n i)

-- a number occurs in x and a list as often as in x alone and in the list
occurrences-cons : (n x : ℕ) (xs : List ℕ) → occurrences n (x ∷ xs) ≡ occurrences n (x ∷ []) + occurrences n xs
occurrences-cons n x xs = omega arith

-- if each number of a list is below `limit`, the list's length is the sum of the occurrences
pub length-sum_below : (xs : List ℕ) (limit : ℕ) → ((n : ℕ) → 0 < occurrences n xs → n < limit) → length xs
    ≡ sum_below (λ n. occurrences n xs) limit
length-sum_below [] zero h = refl
length-sum_below [] (suc n) h = omega (arith, length-sum_below [] n (λ m z. absurd (omega (arith, z))))
length-sum_below (x ∷ xs) limit h =
    let here : x < limit = h x (omega (arith, occurrences-cons_same x xs)) in
    let rest = length-sum_below xs limit (λ n z. h n (omega (arith, z, occurrences-cons n x xs))) in
    omega (
      arith,
      rest,
      sum_below-one x limit here,
      sum_below-plus (λ n. occurrences n (x ∷ [])) (λ n. occurrences n xs)
          limit,
      sum_below-same (λ n. occurrences n (x ∷ xs)) (λ n. occurrences n (x ∷ []) + occurrences n xs) limit
          (λ n. occurrences-cons n x xs),
    )

-- there are as many numbers as pairs
pub length-numbers : (xs : List (ℕ × Block)) → length (numbers xs) ≡ length xs
length-numbers [] = refl
length-numbers (x ∷ xs) = ap suc (length-numbers xs)

-- functions that agree below the limit have equal sums
pub sum_below-agree : (f g : ℕ → ℕ) (limit : ℕ) → ((n : ℕ) → n < limit → f n ≡ g n) → sum_below f limit
    ≡ sum_below g limit
sum_below-agree f g zero h = refl
sum_below-agree f g (suc k) h = omega (arith, h k (omega arith), sum_below-agree f g k (λ n l. h n (omega (arith, l))))

-- the case that f is positive only below `limit`, and each n occurs in xs at most f n times
module _ (f : ℕ → ℕ) (limit : ℕ) (within : (n : ℕ) → 0 < f n → n < limit) (xs : List ℕ)
    (few : (n : ℕ) → occurrences n xs ≤ f n) where
  -- a number that was seen and isn't had, and one that is had, are together at most `one`, if that is 1 where it was
  -- seen
  lack-at_most_one : (saw had one : ℕ) → had ≤ one → (0 < saw → one ≡ 1) → lack saw had + had ≤ one
  lack-at_most_one zero had one a b = omega arith
  lack-at_most_one (suc saw) zero one a b = omega (arith, b (omega arith))
  lack-at_most_one (suc saw) (suc had) one a b = omega arith

  -- if f is 1 at each number of `saw`, the numbers of `saw` that aren't in xs, and those of xs, are together at most as
  -- many as the sum of f
  pub missing-at_most_sum : (saw : List ℕ) → ((n : ℕ) → 0 < occurrences n saw → f n ≡ 1)
      → sum_below (missing_at saw xs) limit +
      length xs ≤ sum_below f limit
  missing-at_most_sum saw so = omega (
    arith,
    length-sum_below xs limit (λ n z. within n (omega (arith, few n, z))),
    sum_below-plus (missing_at saw xs) (λ n. occurrences n xs) limit,
    sum_below-monotone (λ n. missing_at saw xs n + occurrences n xs) f limit
        (λ n. lack-at_most_one (occurrences n saw) (occurrences n xs) (f n) (few n) (so n)),
  )

-- if f is at most 1, its sum is at most the limit
pub sum_below-limit : (f : ℕ → ℕ) (limit : ℕ) → ((n : ℕ) → f n ≤ 1) → sum_below f limit ≤ limit
sum_below-limit f zero h = omega arith
sum_below-limit f (suc n) h = omega (arith, sum_below-limit f n h, h n)

-- if g is at most f everywhere, and the sum of f is at most that of g, then f and g are equal below `limit`
equal-by_sums : (f g : ℕ → ℕ) (limit : ℕ) → ((n : ℕ) → g n ≤ f n) → sum_below f limit ≤ sum_below g limit → (n : ℕ)
    → n < limit → f n ≡ g n
equal-by_sums f g zero less full n low = absurd (omega arith)
equal-by_sums f g (suc k) less full n low = dite (ℕ_discrete n k)
    (λ e. subst (λ (y : ℕ). f y ≡ g y) (sym e) (omega (arith, full, less k, sum_below-monotone g f k less)))
    (λ ne. equal-by_sums f g k less (omega (arith, full, less k)) n (omega (arith, low, ne)))

-- if each n occurs in xs at most f n times, and the sum of f is at most the length of xs, then each n below `limit`
-- occurs in xs exactly f n times
pub occurrences-exact : (f : ℕ → ℕ) (limit : ℕ) (xs : List ℕ) → ((n : ℕ) → 0 < f n → n < limit)
    → ((n : ℕ) → occurrences n xs ≤ f n) → sum_below f limit ≤ length xs → (n : ℕ) → n < limit → f n ≡ occurrences n xs
occurrences-exact f limit xs within few full n low = equal-by_sums f (λ m. occurrences m xs) limit few
    (omega (arith, full, length-sum_below xs limit (λ n z. within n (omega (arith, few n, z))))) n low
