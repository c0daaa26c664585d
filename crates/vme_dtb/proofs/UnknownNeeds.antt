-- The search for the least unknown line that a cycle needs: what is known after each line, and at its end. Such a line
-- is called lacked (`lacks`).
use Rattle.std.proofs.Common.{◌≡◌, ℕ, ◌+◌, ◌<◌, ◌≤◌, Bool, true, false, ◌&&◌, not, refl, ◌∙◌, arith, inl, inr, ◌⊎◌}
use Rattle.std.specs.Prelude.{None, Some, nat_le}
use Rattle.std.proofs.Math.Bool.{and-false}
use Rattle.std.proofs.lemmas.Bool.{cases_lt}
use Rattle.vme_trace.specs.Instants.{any, every}
use Rattle.vme_trace.specs.LineNumbers.{line_count}
use Rattle.vme_trace.specs.Cycle.{Needs, is_needed, is_within, needs_of}
use Rattle.vme_trace.specs.Levels.{Levels, is_known_on}
use Rattle.vme_trace.proofs.Counting.{least-outside}
use Rattle.vme_trace.proofs.Ranges.{any-fails, any-step, fails-any, least-is, least-none}
use Rattle.vme_dtb.specs.StabilityRules.{lacks, unknown_need}
use Rattle.vme_dtb.proofs.Needed.{needs_of-above, needs_of-below}

-- if a can't be true, a and b is false
pub and-false_first : (a b : Bool) → (a ≡ true → ⊥) → (a && b) ≡ false
and-false_first true b h = absurd (h refl)
and-false_first false b h = refl

-- if `a && not k` is true, a is true and k false
pub and-not_parts : (a k : Bool) → (a && not k) ≡ true → (a ≡ true) × (k ≡ false)
and-not_parts true true h = absurd (cc)
and-not_parts true false h = (refl, refl)
and-not_parts false k h = absurd (cc)

module _ (v : Levels) where
  -- a line is lacked only if it is one of those from 5 to 44
  lacks-outside : (l : ℕ) → (5 ≤ l → l < 45 → ⊥) → lacks v l ≡ false
  unfolding is_needed
  lacks-outside l h = and-false_first (is_within (needs_of v) l) (not (is_known_on v l))
      (λ e. h (needs_of-above v l e) (needs_of-below v l e))

  -- no line below 5, the first that a cycle may need, is lacked
  pub lacks-none_before : any (lacks v) 0 5 ≡ false
  lacks-none_before = fails-any (lacks v) 0 5 (λ l a b. lacks-outside l (λ x y. omega arith))

  -- if no line below n is lacked, and n is past the last line that a cycle may need, none is
  pub lacks-none : (n : ℕ) → 45 ≤ n → any (lacks v) 0 n ≡ false → unknown_need v ≡ None
  lacks-none n past h = least-none (lacks v) 0 line_count
      (fails-any (lacks v) 0 line_count (λ l a b. by_place l (cases_lt l n)))
    where
      by_place : (l : ℕ) → (l < n) ⊎ (n ≤ l) → lacks v l ≡ false
      by_place l (inl below) = any-fails (lacks v) 0 n l h (omega arith) below
      by_place l (inr above) = lacks-outside l (λ x y. omega arith)

  -- if each line that a cycle may need is known, none is lacked
  pub lacks-none_if_known : every (is_known_on v) 5 45 ≡ true → unknown_need v ≡ None
  unfolding is_needed
  lacks-none_if_known h =
      least-outside (is_known_on v) (lacks v) 5 45 line_count h
      (λ l below e. let of = and-not_parts (is_within (needs_of v) l) (is_known_on v l) e in
      (needs_of-above v l of.0, needs_of-below v l of.0, of.1))

  -- if no line below n is lacked, and n is, n is the least
  pub lacks-least : (n : ℕ) → n < 45 → any (lacks v) 0 n ≡ false → lacks v n ≡ true → unknown_need v ≡ Some n
  lacks-least n below h e = least-is (lacks v) 0 line_count n (omega arith) (omega arith) e h

  -- if no line below n is lacked, nor is n, none below n + 1 is
  pub lacks-none_next : (n : ℕ) → any (lacks v) 0 n ≡ false → lacks v n ≡ false → any (lacks v) 0 (n + 1) ≡ false
  lacks-none_next n h e = any-step (lacks v) 0 n ∙ rw (h, e) (and-false (nat_le 0 n))

  -- whether the line l, whose number is n, is lacked, if `needs` is what a cycle needs
  module _ (needs : Needs) (n l : ℕ) (same : needs ≡ needs_of v) (there : l ≡ n) where
    -- a line that is needed and unknown is lacked
    pub lacks-found : is_within needs l ≡ true → is_known_on v l ≡ false → lacks v n ≡ true
    unfolding is_needed
    lacks-found h k = rw (← there, ← same, h, k) refl

    -- a line that isn't needed isn't lacked
    pub lacks-not_needed : is_within needs l ≡ false → lacks v n ≡ false
    unfolding is_needed
    lacks-not_needed h = rw (← there, ← same, h) refl

  -- a known line isn't lacked
  pub lacks-not_unknown : (n l : ℕ) → l ≡ n → is_known_on v l ≡ true → lacks v n ≡ false
  lacks-not_unknown n l there k = rw (← there, k) (and-false (is_needed v l))
