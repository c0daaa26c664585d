-- Shares: finer parts, splits and joins. If one bench has the whole share, no other has any.
use Rattle.std.proofs.Common.{◌≡◌, ℕ, zero, suc, ◌+◌, ◌-◌, ◌^◌, ◌≤◌, List, [], ◌∷◌, ◌++◌, sym, refl, ap, arith, subst}
use Rattle.std.proofs.Common.{pow-suc, pow_pos}
use mathlib.Core.Option.{some, some-injective, some-ne-none}
use lib.ListN.{get_elem?}
use Rattle.std.specs.Prelude.{sum_by}
use Rattle.std.proofs.lemmas.List.Sums.{sum_by-cons}
use Rattle.vme_core.specs.Shares.{weight, FitsIn, IsWholeShare, kept_share, split_share}
use Rattle.vme_core.proofs.Sums.{le-sum_by}

-- a part of 2^-e is twice as many parts of half the size
pow-finer_part : (k e : ℕ) → e ≤ k → 2 ^ (suc k - e) ≡ 2 ^ (k - e) + 2 ^ (k - e)
pow-finer_part k e small = let one : suc k - e ≡ suc (k - e) = omega (arith, small) in let p = pow-suc 2 (k - e) in
    let q : 2 ^ (suc k - e) ≡ 2 ^ suc (k - e) = ap (λ (j : ℕ). 2 ^ j) one in omega (arith, p, q)

-- a share that fits parts of 2^-k fits parts of half the size
pub FitsIn-finer : (k : ℕ) (es : List ℕ) → FitsIn k es → FitsIn (suc k) es
FitsIn-finer k [] f = tt
FitsIn-finer k (e ∷ es) f = (let a = f.0 in omega (arith, a), FitsIn-finer k es f.1)

-- a share is twice as many parts of half the size
pub weight-finer : (k : ℕ) (es : List ℕ) → FitsIn k es → weight (suc k) es ≡ weight k es + weight k es
weight-finer k [] f = refl
weight-finer k (e ∷ es) f = omega (arith, pow-finer_part k e f.0, weight-finer k es f.1)

-- two shares that fit, joined, fit
pub FitsIn-append : (k : ℕ) (xs ys : List ℕ) → FitsIn k xs → FitsIn k ys → FitsIn k (xs ++ ys)
FitsIn-append k [] ys f g = g
FitsIn-append k (x ∷ xs) ys f g = (f.0, FitsIn-append k xs ys f.1 g)

-- the weight of two shares, joined, is that of both
pub weight-append : (k : ℕ) (xs ys : List ℕ) → weight k (xs ++ ys) ≡ weight k xs + weight k ys
weight-append k [] ys = omega arith
weight-append k (x ∷ xs) ys = omega (arith, weight-append k xs ys)

-- a share of weight 0 has no part
pub weight-zero : (k : ℕ) (es : List ℕ) → weight k es ≡ 0 → es ≡ []
weight-zero k [] is = refl
weight-zero k (e ∷ es) is = let p = pow_pos (k - e) in absurd (omega (arith, is, p))

-- the share that is kept after a split fits parts of half the size
pub FitsIn-kept_share : (k : ℕ) (es : List ℕ) → FitsIn k es → FitsIn (suc k) (kept_share es)
FitsIn-kept_share k [] f = tt
FitsIn-kept_share k (e ∷ es) f = (let a = f.0 in omega (arith, a), FitsIn-finer k es f.1)

-- the share that is split off fits parts of half the size
pub FitsIn-split_share : (k : ℕ) (es : List ℕ) → FitsIn k es → FitsIn (suc k) (split_share es)
FitsIn-split_share k [] f = tt
FitsIn-split_share k (e ∷ es) f = (let a = f.0 in omega (arith, a), tt)

-- the weights of the two shares after a split add up to the weight before it
pub weight-split : (k : ℕ) (es : List ℕ) → FitsIn k es
    → weight (suc k) (kept_share es) + weight (suc k) (split_share es)
    ≡ weight (suc k) es
weight-split k [] f = refl
weight-split k (e ∷ es) f = let same : suc k - suc e ≡ k - e = omega arith in let q : 2 ^ (suc k - suc e)
    ≡ 2 ^ (k - e) = ap
    (λ (j : ℕ). 2 ^ j) same in omega (arith, pow-finer_part k e f.0, q)

module _ {V : Type 0} (share : V → List ℕ) where
  -- each share fits
  abbrev pub AllFit : ℕ → List V → Type 0
  AllFit k vs = (i : ℕ) (v : V) → get_elem? vs i ≡ some v → FitsIn k (share v)

  -- all shares together are twice as many parts of half the size
  pub total_weight-finer : (k : ℕ) (vs : List V) → AllFit k vs → sum_by (λ v. weight (suc k) (share v)) vs
      ≡ sum_by (λ v. weight k (share v)) vs + sum_by (λ v. weight k (share v)) vs
  total_weight-finer k [] f = refl
  total_weight-finer k (x ∷ xs) f = omega (
    arith,
    weight-finer k (share x) (f zero x refl),
    total_weight-finer k xs (λ i. f (suc i)),
    sum_by-cons (λ v. weight k (share v)) x xs,
    sum_by-cons (λ v. weight (suc k) (share v)) x xs,
  )

  -- all shares together are the whole, in parts of 2^-k
  abbrev pub AllWhole : ℕ → List V → Type 0
  AllWhole k vs = AllFit k vs × (sum_by (λ v. weight k (share v)) vs ≡ 2 ^ k)

  -- shares that are the whole are so in parts of half the size
  pub AllWhole-finer : (k : ℕ) (vs : List V) → AllWhole k vs → AllWhole (suc k) vs
  AllWhole-finer k vs (f, is) = (
    (λ i v e. FitsIn-finer k (share v) (f i v e)),
    omega (
      arith,
      total_weight-finer k vs f,
      is,
      pow-suc 2 k,
    ),
  )

  -- shares that are the whole in parts of 2^-k are so in parts of 2^-(j + k)
  pub AllWhole-much_finer : (j k : ℕ) (vs : List V) → AllWhole k vs → AllWhole (j + k) vs
  AllWhole-much_finer zero k vs w = subst (λ (y : ℕ). AllWhole y vs) (let e : k ≡ 0 + k = omega arith in e) w
  AllWhole-much_finer (suc j) k vs w = subst (λ (y : ℕ). AllWhole y vs) (let e : suc (j + k) ≡ suc j + k =
      omega arith in
      e) (AllWhole-finer (j + k) vs (AllWhole-much_finer j k vs w))

  -- if the sum of f is 0, and g is 0 wherever f is, then the sum of g is 0
  sum_by-zero : (f g : V → ℕ) (vs : List V) → sum_by f vs ≡ 0
      → ((i : ℕ) (u : V) → get_elem? vs i ≡ some u → f u ≡ 0 → g u
      ≡ 0) → sum_by g vs ≡ 0
  sum_by-zero f g [] is none = refl
  sum_by-zero f g (x ∷ xs) is none = let c = sum_by-cons f x xs in
      omega (
        arith,
        sum_by-cons g x xs,
        none zero x refl (omega (arith, is, c)),
        sum_by-zero f g xs (omega (arith, is, c))
            (λ i. none (suc i)),
      )

  -- if the sum of f is f v, and g is 0 wherever f is, then the sum of g is g v
  pub sum_by-sole : (f g : V → ℕ) (vs : List V) (i : ℕ) (v : V) → get_elem? vs i ≡ some v → sum_by f vs ≡ f v
      → ((j : ℕ) (u : V) → get_elem? vs j ≡ some u → f u ≡ 0 → g u ≡ 0) → sum_by g vs ≡ g v
  sum_by-sole f g [] i v e is none = absurd (some-ne-none v (sym e))
  sum_by-sole f g (x ∷ xs) zero v e is none = let c = sum_by-cons f x xs in let same = some-injective x v e in
      omega (
        arith,
        sum_by-cons g x xs,
        ap g same,
        sum_by-zero f g xs (omega (arith, is, c, ap f same))
            (λ j. none (suc j)),
      )
  sum_by-sole f g (x ∷ xs) (suc i) v e is none = let c = sum_by-cons f x xs in let most = le-sum_by f xs i v e in
      omega (
        arith,
        sum_by-cons g x xs,
        none zero x refl (omega (arith, is, c, most)),
        sum_by-sole f g xs i v e
            (omega (arith, is, c, most)) (λ j. none (suc j)),
      )

  -- a share that fits, alone, fits
  AllFit-one : (k : ℕ) (v : V) → FitsIn k (share v) → AllFit k (v ∷ [])
  AllFit-one k v f zero u e = subst (λ (y : V). FitsIn k (share y)) (some-injective v u e) f
  AllFit-one k v f (suc i) u e = absurd (some-ne-none u (sym e))

  -- a share that is the whole, alone, is the whole
  AllWhole-one : (k : ℕ) (v : V) → FitsIn k (share v) → weight k (share v) ≡ 2 ^ k → AllWhole k (v ∷ [])
  AllWhole-one k v f is = (AllFit-one k v f, omega (arith, is, sum_by-cons (λ u. weight k (share u)) v []))

  -- if v has the whole share, and g is 0 for each without a share, then the sum of g over all is g v
  pub sum_of_sole_owner : (k : ℕ) (vs : List V) → AllWhole k vs → (i : ℕ) (v : V) → get_elem? vs i ≡ some v →
      IsWholeShare (share v)
      → (g : V → ℕ) → ((j : ℕ) (u : V) → get_elem? vs j ≡ some u → share u ≡ [] → g u ≡ 0) → sum_by g vs ≡ g v
  sum_of_sole_owner k vs w i v e (m, f, is) g none =
      let a = AllWhole-much_finer m k vs w in let b = AllWhole-much_finer k m (v ∷ [])
      (AllWhole-one m v f is) in let n : ℕ = m + k in
      let same : k + m ≡ n = omega arith in
      let c : sum_by (λ u. weight n (share u)) (v ∷ []) ≡ 2 ^ n = subst (λ (y : ℕ). sum_by (λ u. weight y (share u))
      (v ∷ []) ≡ 2 ^ y) same b.1 in
      sum_by-sole (λ u. weight n (share u)) g vs i v e (omega
      (arith, a.1, c, sum_by-cons (λ u. weight n (share u)) v []))
      (λ j u at z. none j u at (weight-zero n (share u) z))

-- ---- shares alone

-- the first of two shares that, joined, fit, fits
FitsIn-front : (k : ℕ) (xs ys : List ℕ) → FitsIn k (xs ++ ys) → FitsIn k xs
FitsIn-front k [] ys f = tt
FitsIn-front k (x ∷ xs) ys f = (f.0, FitsIn-front k xs ys f.1)

-- the second of two shares that, joined, fit, fits
FitsIn-back : (k : ℕ) (xs ys : List ℕ) → FitsIn k (xs ++ ys) → FitsIn k ys
FitsIn-back k [] ys f = f
FitsIn-back k (x ∷ xs) ys f = FitsIn-back k xs ys f.1

-- the share of the first bench is the whole
pub IsWholeShare-first : IsWholeShare (0 ∷ [])
IsWholeShare-first = (0, (omega arith, tt), refl)

-- two shares that, joined, are the whole are so in the other order
pub IsWholeShare-swapped : (xs ys : List ℕ) → IsWholeShare (xs ++ ys) → IsWholeShare (ys ++ xs)
IsWholeShare-swapped xs ys (k, f, is) = (
  k,
  FitsIn-append k ys xs (FitsIn-back k xs ys f) (FitsIn-front k xs ys f),
  (let a = weight-append k xs ys in let b = weight-append k ys xs in let g : weight k (ys ++ xs)
      ≡ 2 ^ k = omega (arith, is, a, b) in g),
)

-- if a share joined with others is the whole, so are its two shares after a split, joined with the others
pub IsWholeShare-split : (xs ys : List ℕ) → IsWholeShare (xs ++ ys)
    → IsWholeShare (kept_share xs ++ (split_share xs ++ ys))
IsWholeShare-split xs ys (k, f, is) =
    let l = FitsIn-front k xs ys f in let r = FitsIn-back k xs ys f in let n : ℕ = suc k in
    let rest : List ℕ = split_share xs ++ ys in
    let fit : FitsIn n (kept_share xs ++ rest) = FitsIn-append n (kept_share xs) rest (FitsIn-kept_share k xs l)
    (FitsIn-append n (split_share xs) ys (FitsIn-split_share k xs l) (FitsIn-finer k ys r)) in
    let a = weight-append n (kept_share xs) rest in let b = weight-append n (split_share xs) ys in
    let h = weight-split k xs l in let x = weight-finer k xs l in let y = weight-finer k ys r in
    let o = weight-append k xs ys in let p = pow-suc 2 k in
    let g : weight n (kept_share xs ++ rest) ≡ 2 ^ n = omega (arith, a, b, h, x, y, o, p, is) in (n, fit, g)
