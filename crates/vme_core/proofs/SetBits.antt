-- A number is among those of `set_bits` exactly if its bit is 1.
use Rattle.std.proofs.Common.{◌≡◌, ◌==◌, ℕ, zero, suc, ◌+◌, ◌*◌, ◌<◌, Bool, true, false, cond, ◌∷◌, sym, refl, ap, ◌∙◌}
use Rattle.std.proofs.Common.{subst, arith}
use Rattle.std.proofs.lemmas.Bool.Decides.{nat_tests}
use mathlib.Core.Logic.{dite}
use native.Mathlib.Decide.{ℕ_discrete}
use Rattle.vme_core.specs.Counting.{occurrences, set_bits}
use Rattle.vme_core.proofs.Sums.{occurrences-cons_same, occurrences-cons_other}

module _ (first : ℕ) (bits : ℕ → ℕ) (c m : ℕ) (rec : 0 < occurrences m (set_bits first bits c) → (i : ℕ) × (i < c)
    × (m ≡ first + i) × (bits i ≡ 1)) where
  -- what is found with the bits before c is found with one bit more
  set_bits-of_shorter : 0 < occurrences m (set_bits first bits c)
      → (i : ℕ) × (i < suc c) × (m ≡ first + i) × (bits i ≡ 1)
  set_bits-of_shorter h = let g = rec h in let l = g.1 in (g.0, omega (arith, l), g.2, g.3)

  -- what is found with the bit c is first + c, or found with the bits before it
  set_bits-true_step : (b : Bool) → (bits c == 1) ≡ b → 0 < occurrences m (cond b ((first + c) ∷ set_bits first bits c)
      (set_bits first bits c)) → (i : ℕ) × (i < suc c) × (m ≡ first + i) × (bits i ≡ 1)
  set_bits-true_step false is h = set_bits-of_shorter h
  set_bits-true_step true is h = dite (ℕ_discrete m (first + c)) (λ e. (c, omega arith, e, grind (arith, nat_tests)))
      (λ ne. set_bits-of_shorter (omega (arith, occurrences-cons_other m (first + c) (set_bits first bits c) ne)))

-- each number m that occurs among the numbers whose bit is 1 is first + i, for an i whose bit is 1
pub set_bits-true : (first : ℕ) (bits : ℕ → ℕ) (count m : ℕ) → 0 < occurrences m (set_bits first bits count) → (i : ℕ)
    × (i < count) × (m ≡ first + i) × (bits i ≡ 1)
set_bits-true first bits zero m h = absurd (omega arith)
set_bits-true first bits (suc c) m h = set_bits-true_step first bits c m (set_bits-true first bits c m)
    (bits c == 1) refl h

-- if the bit i, which is at most c, is 1, first + i occurs among the numbers for the bits up to c, provided that, for i
-- before c, it occurs among those for the bits before c
set_bits-all_step : (first : ℕ) (bits : ℕ → ℕ) (c i : ℕ) (b : Bool) → (bits c == 1) ≡ b → bits i ≡ 1 → i < suc c
    → (i < c → 0 < occurrences (first + i) (set_bits first bits c)) → 0 < occurrences (first + i)
    (cond b ((first + c) ∷ set_bits first bits c) (set_bits first bits c))
set_bits-all_step first bits c i false is one l rec = dite (ℕ_discrete i c)
    (λ e. absurd (let o : bits c ≡ 1 = ap bits (sym e) ∙ one in grind (arith, nat_tests))) (λ ne. rec (omega arith))
set_bits-all_step first bits c i true is one l rec = dite (ℕ_discrete i c) (λ e. let z : first + i ≡ first + c = omega
    (arith, e) in subst (λ (y : ℕ). 0 < occurrences y ((first + c) ∷ set_bits first bits c)) (sym z)
    (omega (arith, occurrences-cons_same (first + c) (set_bits first bits c))))
    (λ ne. let g = rec (omega arith) in
    omega (
      arith,
      g,
      occurrences-cons_other (first + i) (first + c) (set_bits first bits c)
          (λ e. ne (omega (arith, e))),
    ))

-- if the bit i is 1, first + i occurs among the numbers whose bit is 1
pub set_bits-all : (first : ℕ) (bits : ℕ → ℕ) (count i : ℕ) → i < count → bits i ≡ 1 → 0 < occurrences (first + i)
    (set_bits first bits count)
set_bits-all first bits zero i l one = absurd (omega arith)
set_bits-all first bits (suc c) i l one = set_bits-all_step first bits c i (bits c == 1) refl one l
    (λ h. set_bits-all first bits c i h one)

-- if m is among those of the 64 numbers from 64 g on whose value of f is 1, then f m is 1
pub set_bits-are : (f : ℕ → ℕ) (g m : ℕ) → 0 < occurrences m (set_bits (64 * g) (λ k. f (64 * g + k)) 64) → f m ≡ 1
set_bits-are f g m h = let t = set_bits-true (64 * g) (λ k. f (64 * g + k)) 64 m h in ap f t.2 ∙ t.3
