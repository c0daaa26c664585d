-- The search for the least unknown data line that a transfer moves: what is known after each line, and at its end.
use Rattle.std.proofs.Common.{◌≡◌, ℕ, ◌+◌, ◌<◌, ◌≤◌, true, false, not, refl, ◌∙◌, arith, inl, inr, ◌⊎◌}
use Rattle.std.specs.Prelude.{None, Some, nat_le}
use Rattle.std.proofs.Math.Bool.{and-false}
use Rattle.std.proofs.lemmas.Bool.{cases_lt}
use Rattle.vme_trace.specs.Instants.{any, every, least}
use Rattle.vme_trace.specs.LineNumbers.{line_count}
use Rattle.vme_trace.specs.Data.{is_selected}
use Rattle.vme_trace.specs.Levels.{Levels, is_known_on}
use Rattle.vme_trace.proofs.Counting.{least-outside}
use Rattle.vme_trace.proofs.Ranges.{any-fails, any-step, fails-any, least-is, least-none}
use Rattle.vme_dtb.specs.StabilityRules.{is_undriven}
use Rattle.vme_dtb.proofs.HeldData.{is_selected-from, is_selected-to}
use Rattle.vme_dtb.proofs.UnknownNeeds.{and-not_parts, and-false_first}

module _ (v : Levels) where
  -- no line before the data lines is undriven
  is_undriven-before_data : (l : ℕ) → l < 159 → is_undriven v l ≡ false
  is_undriven-before_data l h = and-false_first (is_selected v l) (not (is_known_on v l))
      (λ e. apart l h (is_selected-from v l e))
    where
      apart : (l : ℕ) → l < 159 → 159 ≤ l → ⊥
      apart l h k = omega arith

  -- a search of the lines before the data lines finds none that is undriven
  pub is_undriven-none_before_data : any (is_undriven v) 0 159 ≡ false
  is_undriven-none_before_data = fails-any (is_undriven v) 0 159 (λ l a b. is_undriven-before_data l b)

  -- no line after the data lines is undriven
  is_undriven-after_data : (l : ℕ) → 191 ≤ l → is_undriven v l ≡ false
  is_undriven-after_data l h = and-false_first (is_selected v l) (not (is_known_on v l))
      (λ e. apart l h (is_selected-to v l e))
    where
      apart : (l : ℕ) → 191 ≤ l → l < 191 → ⊥
      apart l h k = omega arith

  -- if no line below n is undriven, and n is past the last data line, none is
  pub is_undriven-none : (n : ℕ) → 191 ≤ n → any (is_undriven v) 0 n ≡ false → least (is_undriven v) 0 line_count ≡ None
  is_undriven-none n past h =
      least-none (is_undriven v) 0 line_count (fails-any (is_undriven v) 0 line_count
      (λ l a b. by_place l (cases_lt l n)))
    where
      by_place : (l : ℕ) → (l < n) ⊎ (n ≤ l) → is_undriven v l ≡ false
      by_place l (inl below) = any-fails (is_undriven v) 0 n l h (omega arith) below
      by_place l (inr from) = is_undriven-after_data l (omega arith)

  -- if each data line is known, none is undriven
  pub is_undriven-none_if_known : every (is_known_on v) 159 191 ≡ true → least (is_undriven v) 0 line_count ≡ None
  is_undriven-none_if_known h =
      least-outside (is_known_on v) (is_undriven v) 159 191 line_count h
      (λ l below e. let of = and-not_parts (is_selected v l) (is_known_on v l) e in
      (is_selected-from v l of.0, is_selected-to v l of.0, of.1))

  -- if no line below n is undriven, and n is, n is the least
  pub is_undriven-least : (n : ℕ) → n < 191 → any (is_undriven v) 0 n ≡ false → is_undriven v n ≡ true
      → least (is_undriven v) 0 line_count ≡ Some n
  is_undriven-least n below h e = least-is (is_undriven v) 0 line_count n (omega arith) (omega arith) e h

  -- if no line below n is undriven, nor is n, none below n + 1 is
  pub is_undriven-none_next : (n : ℕ) → any (is_undriven v) 0 n ≡ false → is_undriven v n ≡ false
      → any (is_undriven v) 0
      (n + 1) ≡ false
  is_undriven-none_next n h e = any-step (is_undriven v) 0 n ∙ rw (h, e) (and-false (nat_le 0 n))

  -- if no line up to the data line b is undriven, none below the data line b + 1 is
  pub is_undriven-none_to_next : (b : ℕ) → any (is_undriven v) 0 (159 + b + 1) ≡ false
      → any (is_undriven v) 0 (159 + (b + 1)) ≡ false
  is_undriven-none_to_next b h = let next : 159 + (b + 1) ≡ 159 + b + 1 = omega arith in rw next h

  module _ (n l : ℕ) (there : l ≡ n) where
    -- a line that a transfer moves, and that is unknown, is undriven
    pub is_undriven-found : is_selected v l ≡ true → is_known_on v l ≡ false → is_undriven v n ≡ true
    is_undriven-found h k = rw (← there, h, k) refl

    -- a line that no transfer moves isn't undriven
    pub is_undriven-not_selected : is_selected v l ≡ false → is_undriven v n ≡ false
    is_undriven-not_selected h = rw (← there, h) refl

    -- a known line isn't undriven
    pub is_undriven-not_unknown : is_known_on v l ≡ true → is_undriven v n ≡ false
    is_undriven-not_unknown k = rw (← there, k) (and-false (is_selected v l))
