-- The last instant with some property before another instant.
use Rattle.std.proofs.Common.{◌≡◌, ℕ, zero, suc, ◌+◌, ◌<◌, ◌≤◌, Bool, true, false, refl, arith, inl, inr}
use Rattle.std.proofs.Common.{◌⊎◌}
use Rattle.vme_trace.specs.Judged.{Stretch}
use Rattle.vme_trace.specs.Tenures.{last_before}
use Rattle.vme_trace.specs.Trace.{Trace}
use Rattle.vme_trace.proofs.Ranges.{greatest-empty, greatest-here, greatest-skip, next_or_within}

module _ (t : Trace) (stretch : Stretch) (p : ℕ → Bool) where
  -- one after the start of the stretch, `last_before` gives the start, since no later instant has p
  pub last_before-start : last_before t stretch p (suc stretch.start) ≡ stretch.start
  unfolding last_before
  last_before-start = rw (greatest-empty p (stretch.start + 1) (suc stretch.start) (omega arith)) refl

  -- if p holds of n, n is the last instant before n + 1
  pub last_before-here : (n : ℕ) → stretch.start < n → p n ≡ true → last_before t stretch p (suc n) ≡ n
  unfolding last_before
  last_before-here n after h = rw (greatest-here p (stretch.start + 1) n (omega arith) h) refl

  -- if p doesn't hold of n, the last instant before n + 1 is the one before n
  pub last_before-earlier : (n : ℕ) → p n ≡ false → last_before t stretch p (suc n) ≡ last_before t stretch p n
  unfolding last_before
  last_before-earlier n h = rw (greatest-skip p (stretch.start + 1) n h) refl

  -- the last instant before n + 1 is at most n
  pub last_before-within : (n : ℕ) → stretch.start ≤ n → last_before t stretch p (suc n) ≤ n
  last_before-within n from = by_test n (p n) refl from
    where
      zero_start : (n : ℕ) → stretch.start ≤ n → (stretch.start ≡ n) ⊎ (stretch.start < n)
      zero_start n h = grind arith

      at_start : (n : ℕ) → stretch.start ≡ n → last_before t stretch p (suc n) ≤ n
      at_start n e = rw (← e) (rw last_before-start (omega arith))

      by_test : (n : ℕ) (b : Bool) → p n ≡ b → stretch.start ≤ n → last_before t stretch p (suc n) ≤ n
      by_test n true e from = elim (zero_start n from) [
        | inl s ↦ at_start n s
        | inr after ↦ rw (last_before-here n after e) (omega arith)
      ]
      by_test zero false e from = at_start zero (omega arith)
      by_test (suc n) false e from = elim (next_or_within stretch.start n from) [
        | inl s ↦ at_start (suc n) s
        | inr earlier ↦ rw (last_before-earlier (suc n) e) (let h = by_test n (p n) refl earlier in omega arith)
      ]
