-- A count of the numbers of a range of which p holds: where it is the length of the range, p holds of all of them.
use Rattle.std.proofs.Common.{◌≡◌, ℕ, ◌+◌, ◌-◌, ◌<◌, ◌≤◌, Bool, true, false, ◌&&◌, ◌||◌, not, refl, sym, ◌∙◌, ap, arith}
use Rattle.std.specs.Prelude.{◌==◌, None}
use Rattle.std.proofs.lemmas.Bool.Decides.{nat_tests}
use Rattle.std.proofs.lemmas.Bool.{not-false, not-true, le-leb}
use Rattle.std.proofs.Math.Bool.{and-false}
use Rattle.vme_trace.specs.Instants.{any, every, least}
use Rattle.vme_trace.proofs.Ranges.{any-fails, any-step, clash, every-empty, fails-any, least-none}

-- `count` is at most the length of the range from `first` on and before `number`, and equals it just if p holds of all
-- of the range
abbrev pub AreCounted : (ℕ → Bool) → ℕ → ℕ → ℕ → Type 0
AreCounted p first number count = (count + first ≤ number) × ((count + first == number) ≡ every p first number)

-- neither a nor not b is a way to say not a and b
not_or_not : (a b : Bool) → not (a || (true && not b)) ≡ (not a && b)
not_or_not true b = refl
not_or_not false true = refl
not_or_not false false = refl

module _ (p : ℕ → Bool) (first number count : ℕ) where
  -- p holds of all of the range with `number` at its end just if it does of the range and of `number`
  every-step : first ≤ number → every p first (number + 1) ≡ (every p first number && p number)
  every-step h =
      ap not (any-step (λ k. not (p k)) first number) ∙ rw (le-leb first number h)
      (not_or_not (any (λ k. not (p k)) first number) (p number))

  -- before the first number none is counted
  pub AreCounted-none : number ≡ first → AreCounted p first number 0
  AreCounted-none e = (omega arith, rw e (same first ∙ sym (every-empty p first)))
    where
      same : (n : ℕ) → (0 + n == n) ≡ true
      same n = grind (arith, nat_tests)

  -- a number of which p holds is counted
  pub AreCounted-one_more : (next : ℕ) → next ≡ count + 1 → AreCounted p first number count → p number ≡ true
      → AreCounted p first (number + 1) next
  AreCounted-one_more next e is h =
      let le = is.0 in (
        omega (arith, e, le),
        rw (e, every-step (omega (arith, le)), h)
            (both (every p first number) (further count first number ∙ is.1)),
      )
    where
      further : (c f n : ℕ) → (c + 1 + f == n + 1) ≡ (c + f == n)
      further c f n = by_test (c + f == n) refl
        where
          by_test : (b : Bool) → (c + f == n) ≡ b → (c + 1 + f == n + 1) ≡ b
          by_test true e = grind (arith, nat_tests)
          by_test false e = grind (arith, nat_tests)

      both : (b : Bool) → (count + 1 + first == number + 1) ≡ b → (count + 1 + first == number + 1) ≡ (b && true)
      both true e = e
      both false e = e

  -- a number of which p doesn't hold isn't counted, and the count stays below the length from then on
  pub AreCounted-one_passed : (next : ℕ) → next ≡ count → AreCounted p first number count → p number ≡ false
      → AreCounted p first
      (number + 1) next
  AreCounted-one_passed next e is h =
      let le = is.0 in (
        omega (arith, e, le),
        rw (e, every-step (omega (arith, le)), h) (fewer count first number le
            ∙ sym (and-false (every p first number))),
      )
    where
      fewer : (c f n : ℕ) → c + f ≤ n → (c + f == n + 1) ≡ false
      fewer c f n h = grind (arith, nat_tests)

  -- at the end of the range, after `last`: the count is its length just if p holds of all of it
  pub AreCounted-all : (last : ℕ) → first ≤ last → number ≡ last + 1 → AreCounted p first number count
      → (count == last - first + 1) ≡ every p first (last + 1)
  AreCounted-all last order e is = same count first last order ∙ (ap (λ n. count + first == n) (sym e) ∙ is.1
      ∙ ap (every p first) e)
    where
      same : (c f l : ℕ) → f ≤ l → (c == l - f + 1) ≡ (c + f == l + 1)
      same c f l h = by_test (c + f == l + 1) refl
        where
          by_test : (b : Bool) → (c + f == l + 1) ≡ b → (c == l - f + 1) ≡ b
          by_test true e = grind (arith, nat_tests)
          by_test false e = grind (arith, nat_tests)

-- where p holds of all of a range, it holds of each number of it
every-holds_at : (p : ℕ → Bool) (f n i : ℕ) → every p f n ≡ true → f ≤ i → i < n → p i ≡ true
every-holds_at p f n i h a b =
    not-false (p i) (any-fails (λ k. not (p k)) f n i (not-true (any (λ k. not (p k)) f n) h) a b)

-- where p holds of all of a range, and q only of numbers of that range of which p doesn't hold, q has no least number
pub least-outside : (p q : ℕ → Bool) (first end n : ℕ) → every p first end ≡ true
    → ((i : ℕ) → i < n → q i ≡ true → (first ≤ i) × (i < end) × (p i ≡ false)) → least q 0 n ≡ None
least-outside p q first end n all there = least-none q 0 n (fails-any q 0 n (λ i a b. by_test i b (q i) refl))
  where
    by_test : (i : ℕ) → i < n → (b : Bool) → q i ≡ b → q i ≡ false
    by_test i below true e = let w = there i below e in absurd
        (clash (p i) (every-holds_at p first end i all w.0 w.1) w.2)
    by_test i below false e = e
