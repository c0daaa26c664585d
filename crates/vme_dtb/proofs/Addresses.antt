-- With one address line more, the address by its lines grows by the power of 2 of that line if it is high, and else
-- stays.
use Rattle.std.proofs.Common.{◌≡◌, ℕ, suc, ◌+◌, ◌*◌, ◌%◌, ◌^◌, ◌<◌, ◌≤◌, Bool, true, false, refl, sym, ◌∙◌, ap, arith}
use Rattle.std.proofs.Common.{add-one}
use Rattle.std.specs.Prelude.{nat_le}
use Rattle.std.proofs.Math.Pow.{pow-lt}
use Rattle.std.proofs.Math.Nat.{pow-suc}
use Rattle.std.proofs.lemmas.Bool.Decides.{nat_tests}
use Rattle.vme_trace.specs.LineNumbers.{A}
use Rattle.vme_trace.specs.Levels.{Levels, level_at, is_high, is_high_on}
use Rattle.vme_trace.specs.declared.level.Level.{Level}
use Rattle.vme_dtb.specs.Edge.{address_below}

-- 2 ^ bit is below 2 ^ 32, for a bit below 32
pow-in_word : (bit : ℕ) → bit < 32 → 2 ^ bit < 4294967296
pow-in_word bit h = pow-lt {i = bit} {j = 32} h

-- a number below 2 ^ 32 is itself modulo 2 ^ 32
mod-in_word : (p : ℕ) → p < 4294967296 → (1 * p) % 4294967296 ≡ p
mod-in_word p h = omega arith

-- a number from 1 on passes the test of it
nat_le-one : (n : ℕ) → 1 ≤ n → nat_le 1 n ≡ true
nat_le-one n h = grind (arith, nat_tests)

-- if a is below p, a + p is below its double
lt-doubled_sum : (a p q : ℕ) → q ≡ p * 2 → a < p → a + p < q
lt-doubled_sum a p q e h = omega arith

-- if a is below p, it is below its double
lt-doubled : (a p q : ℕ) → q ≡ p * 2 → a < p → a < q
lt-doubled a p q e h = omega arith

module _ (v : Levels) (bit a r : ℕ) (so_far : (a ≡ address_below v bit) × (a < 2 ^ bit)) (first : 1 ≤ bit) where
  -- a high address line adds its power of 2
  address_below-high : is_high_on v (A bit) ≡ true → address_below v (suc bit) ≡ address_below v bit + 2 ^ bit
  unfolding address_below
  address_below-high h = rw (nat_le-one bit first, h) refl

  -- an address line that isn't high adds nothing
  address_below-low : is_high_on v (A bit) ≡ false → address_below v (suc bit) ≡ address_below v bit + 0
  unfolding address_below
  address_below-low h = rw (nat_le-one bit first, h) refl

  -- if the line A bit is high, the number r that the loop makes is the address below bit + 1
  pub address_below-next_high : (l : ℕ) (x : Level) (b : Bool) → bit < 32 → l ≡ A bit → x ≡ level_at v l → b ≡ is_high x
      → b ≡ true
      → r ≡ a + (1 * 2 ^ bit) % 4294967296 → (r ≡ address_below v (bit + 1)) × (r < 2 ^ (bit + 1))
  address_below-next_high l x b last at_line at_level tested holds added =
      let high : is_high_on v (A bit) ≡ true = ap (λ k. is_high (level_at v k)) (sym at_line)
      ∙ ap is_high (sym at_level) ∙ sym tested ∙ holds in
      let sum : r ≡ a + 2 ^ bit = added ∙ ap (λ k. a + k) (mod-in_word (2 ^ bit) (pow-in_word bit last)) in
      rw (add-one bit) (
        sum ∙ ap (λ k. k + 2 ^ bit) so_far.0 ∙ sym (address_below-high high),
        rw sum (lt-doubled_sum a (2 ^ bit) (2 ^ suc bit) (pow-suc 2 bit) so_far.1),
      )

  -- if the line A bit isn't high, the number a is the address below bit + 1
  pub address_below-next_low : (l : ℕ) (x : Level) (b : Bool) → l ≡ A bit → x ≡ level_at v l → b ≡ is_high x → b ≡ false
      → r ≡ a
      → (r ≡ address_below v (bit + 1)) × (r < 2 ^ (bit + 1))
  address_below-next_low l x b at_line at_level tested fails same =
      let low : is_high_on v (A bit) ≡ false = ap (λ k. is_high (level_at v k)) (sym at_line)
      ∙ ap is_high (sym at_level) ∙ sym tested ∙ fails in
      let kept : address_below v bit ≡ address_below v bit + 0 = omega arith in
      rw (add-one bit) (
        same ∙ so_far.0 ∙ kept ∙ sym (address_below-low low),
        rw same (lt-doubled a (2 ^ bit) (2 ^ suc bit) (pow-suc 2 bit) so_far.1),
      )
