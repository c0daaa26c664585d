-- The shares of the calling thread's bench, after some of the others were folded into it.
use Rattle.std.proofs.Common.{◌≡◌, ℕ, zero, suc, ◌+◌, ◌*◌, ◌-◌, ◌^◌, ◌≤◌, List, [], ◌∷◌, ◌++◌, ap, arith, le_refl}
use Rattle.std.proofs.Common.{pow-suc}
use Rattle.vme_core.specs.Shares.{weight, FitsIn, IsWholeShare}
use Rattle.vme_core.proofs.ShareSums.{FitsIn-append, weight-append}

-- the shares of the workers 1 to t
abbrev pub upto : ℕ → List ℕ
upto zero = []
upto (suc t) = upto t ++ suc t ∷ []

-- the shares of the workers 1 to t fit, if t is at most m
FitsIn-upto : (m t : ℕ) → t ≤ m → FitsIn m (upto t)
FitsIn-upto m zero low = tt
FitsIn-upto m (suc t) low = FitsIn-append m (upto t) (suc t ∷ []) (FitsIn-upto m t (omega (arith, low))) (low, tt)

-- the shares of the workers 1 to t and what is left after t splits weigh the whole
weight-upto : (m t : ℕ) → t ≤ m → weight m (upto t) + 2 ^ (m - t) ≡ 2 ^ m
weight-upto m zero low = let e : 2 ^ (m - 0) ≡ 2 ^ m = ap (λ (j : ℕ). 2 ^ j) (let z : m - 0 ≡ m = omega arith in z) in
    omega (arith, e)
weight-upto m (suc t) low =
    let one : m - t ≡ suc (m - suc t) = omega (arith, low) in let e : 2 ^ (m - t) ≡ 2 ^ suc (m - suc t) = ap
    (λ (j : ℕ). 2 ^ j) one in
    let a : weight m (upto t) + 2 ^ (m - t) ≡ 2 ^ m = weight-upto m t (omega (arith, low)) in
    let b : weight m (upto t ++ suc t ∷ []) ≡ weight m (upto t) + (2 ^ (m - suc t) + 0) = weight-append m (upto t)
    (suc t ∷ []) in
    let p : 2 ^ suc (m - suc t) ≡ 2 ^ (m - suc t) * 2 = pow-suc 2 (m - suc t) in
    let g : weight m (upto t ++ suc t ∷ []) + 2 ^ (m - suc t) ≡ 2 ^ m = omega (arith, a, b, e, p) in g

-- the share that the calling thread has after m splits, with those of the workers 1 to m, is the whole
pub IsWholeShare-upto : (m : ℕ) → IsWholeShare (m ∷ upto m)
IsWholeShare-upto m = (
  m,
  (le_refl m, FitsIn-upto m m (le_refl m)),
  (let a = weight-upto m m (le_refl m) in
      let g : 2 ^ (m - m) + weight m (upto m) ≡ 2 ^ m = omega (arith, a) in g),
)
