-- How far a grant has come along its chain of nets.
use Rattle.std.proofs.Common.{◌≡◌, ℕ, ◌+◌, ◌-◌, ◌≤◌, true, false, ◌∙◌, ap, arith, Some}
use Rattle.vme_trace.specs.Instants.{every, greatest}
use Rattle.vme_trace.specs.LineNumbers.{grant}
use Rattle.vme_trace.specs.Levels.{Levels}
use Rattle.vme_trace.proofs.Ranges.{every-empty, every-more, every-fails, greatest-is}
use Rattle.vme_chains.specs.GrantLevels.{is_low_in, reaches}

module _ (v : Levels) (n : ℕ) where
  -- if the first net is low, all nets up to it are
  pub every-first_net_low : is_low_in v (grant n 0) ≡ true → every (λ net. is_low_in v (grant n net)) 0 1 ≡ true
  every-first_net_low h =
      every-more (λ net. is_low_in v (grant n net)) 0 0 (every-empty (λ net. is_low_in v (grant n net)) 0) h

  -- if `place` is the first net that isn't low, the grant has reached the net before it
  pub greatest-reaches_before : (place : ℕ) → 1 ≤ place → place ≤ v.slots
      → every (λ net. is_low_in v (grant n net)) 0 place
      ≡ true → is_low_in v (grant n place) ≡ false → greatest (reaches v n) 0 (v.slots + 1) ≡ Some (place - 1)
  greatest-reaches_before place first within low here =
      greatest-is (reaches v n) 0 (v.slots + 1) (place - 1) (omega arith) (omega arith)
      (ap (every (λ net. is_low_in v (grant n net)) 0) (one_less place first) ∙ low)
      (λ k a b. every-fails (λ net. is_low_in v (grant n net)) 0 (k + 1) place (omega arith) (omega arith) here)
    where
      one_less : (k : ℕ) → 1 ≤ k → k - 1 + 1 ≡ k
      one_less k h = omega arith

  -- if all nets are low, the grant has reached the last one
  pub greatest-reaches_last : every (λ net. is_low_in v (grant n net)) 0 (v.slots + 1) ≡ true → greatest (reaches v n) 0
      (v.slots + 1) ≡ Some v.slots
  greatest-reaches_last low = greatest-is (reaches v n) 0 (v.slots + 1) v.slots (omega arith) (omega arith) low
      (λ k a b. absurd (omega arith))
