-- Tests on numbers, and searches over a range of numbers, also for one number more.
use Rattle.std.proofs.Common.{◌≡◌, ℕ, ◌+◌, ◌<◌, ◌≤◌, Bool, true, false, ◌&&◌, not, refl, arith, ◌⊎◌, zero, suc}
use Rattle.std.proofs.Common.{[], ◌∷◌, get_or, sym, ◌∙◌, ap, inl, inr, add-one}
use Rattle.std.specs.Prelude.{nat_le, nat_lt, Option, None, Some}
use Rattle.std.proofs.lemmas.Bool.{leb-true, le-leb, ltb-true, lt-ltb, le-ltb, and_parts, and_right}
use Rattle.std.proofs.Math.Bool.{and-false}
use Rattle.std.proofs.lemmas.Option.{same_Some}
use Rattle.vme_trace.proofs.Ranges.{any-fails, fails-any, clash, searches, any-holds, any-step, order_of}
use Rattle.vme_trace.proofs.Ranges.{not_or, any-past, cond-cases}
use Rattle.vme_cert.specs.Vocabulary.{Stretch, any, greatest, is_judged, none}

-- ---- Tests on numbers, and two tests together.

-- what follows from either value of a test holds
pub by_either_value : {P : Type 0} (b : Bool) → (b ≡ true → P) → (b ≡ false → P) → P
by_either_value true holds fails = holds refl
by_either_value false holds fails = fails refl

-- case distinction by whether an option has a value
pub by_option : {A P : Type 0} (o : Option A) → (o ≡ None → P) → ((x : A) → o ≡ Some x → P) → P
by_option None none some = none refl
by_option (Some x) none some = some x refl

-- i, if it is below j + 1, is j or below j
pub eq-or_below : (i j : ℕ) → i < j + 1 → (i ≡ j) ⊎ (i < j)
eq-or_below i j h = grind arith

-- i is from f to n, if the tests say so
pub range-of_tests : (f i n : ℕ) → (nat_le f i && nat_le i n) ≡ true → (f ≤ i) × (i < n + 1)
range-of_tests f i n h = let both = and_parts (nat_le f i) (nat_le i n) h in
    let last = leb-true i n both.1 in (leb-true f i both.0, omega arith)

-- a && b fails, if it does where a holds
pub and-fails_unless : (a b : Bool) → (a ≡ true → (a && b) ≡ false) → (a && b) ≡ false
and-fails_unless true b h = h refl
and-fails_unless false b h = refl

-- ---- A condition on each of the four request levels.

-- a list of four conditions, one of each request level, has at index n that of level n
pub get_or-four_levels : (q : ℕ → Bool) (a b c d : Bool) → a ≡ q 0 → b ≡ q 1 → c ≡ q 2 → d ≡ q 3 → (n : ℕ) → n < 4
    → get_or (a ∷ b ∷ c ∷ d ∷ []) n false ≡ q n
get_or-four_levels q a b c d e f g h zero below = e
get_or-four_levels q a b c d e f g h (suc zero) below = f
get_or-four_levels q a b c d e f g h (suc (suc zero)) below = g
get_or-four_levels q a b c d e f g h (suc (suc (suc zero))) below = h
get_or-four_levels q a b c d e f g h (suc (suc (suc (suc n)))) below = absurd (omega arith)

-- ---- What the greatest of a range is.

-- if no number of a range meets `p`, no number of a shorter range does
pub none-shorter : (p : ℕ → Bool) (f m n : ℕ) → m ≤ n → any p f n ≡ false → any p f m ≡ false
none-shorter p f m n h none = fails-any p f m (λ i a b. any-fails p f n i none a (omega arith))

-- if no number of a range is the greatest that meets `p`, none meets it
pub greatest-none-any : (p : ℕ → Bool) (f n : ℕ) → greatest p f n ≡ None → any p f n ≡ false
unfolding greatest any
greatest-none-any p f zero e = refl
greatest-none-any p f (suc n) e =
    elim (cond-cases (nat_le f n && p n) (Some n) (greatest p f n) None e) [
      | inl here ↦ absurd (not_none n here.1)
      | inr none ↦ rw (greatest-none-any p f n none.1, none.0) refl
    ]
  where
    -- a value isn't none
    not_none : (n : ℕ) → Some n ≡ None → ⊥
    not_none n h = cc

-- `i` is the greatest number from `f` to `n - 1` that meets `p`
pub record IsGreatest (p : ℕ → Bool) (f n i : ℕ) : Type 0 where
  pub from : f ≤ i
  pub before : i < n
  pub holds : p i ≡ true
  pub last : any p (i + 1) n ≡ false

-- what `greatest` finds is the greatest
pub greatest-found : (p : ℕ → Bool) (f n i : ℕ) → greatest p f n ≡ Some i → IsGreatest p f n i
unfolding greatest any
greatest-found p f zero i e = absurd (cc)
greatest-found p f (suc n) i e =
    elim (cond-cases (nat_le f n && p n) (Some n) (greatest p f n) (Some i) e) [
      | inl here ↦
          let same : n ≡ i = same_Some n i here.1 in
          let both = and_parts (nat_le f n) (p n) here.0 in
          let from : f ≤ n = leb-true f n both.0 in
          record {
            from = omega arith;
            before = omega arith;
            holds = ap p (sym same) ∙ both.1;
            last = fails-any p
                (i + 1) (suc n) (λ k a b. absurd (omega arith));
          }
      | inr earlier ↦
          let found = greatest-found p f n i earlier.1 in
          let not_here : p n ≡ false = rw (le-leb f n (omega (arith, found.from, found.before))) at earlier.0 in
          record {
            from = found.from;
            before = omega (arith, found.before);
            holds = found.holds;
            last = fails-any p (i + 1) (suc n) (λ k a b. elim (eq-or_below k n (omega arith)) [
              | inl is ↦ ap p is ∙ not_here
              | inr less ↦ any-fails p (i + 1) n k found.last a less
            ]);
          }
    ]

-- `greatest` finds `i` if `p` holds at `i` and at no later number before `n`
pub greatest-is : (p : ℕ → Bool) (f n i : ℕ) → f ≤ i → i < n → p i ≡ true → any p (i + 1) n ≡ false → greatest p f n
    ≡ Some i
greatest-is p f n i from before holds last = by_option (greatest p f n)
    (λ e. absurd (clash (p i) holds (any-fails p f n i (greatest-none-any p f n e) from before)))
    (λ k e. let found = greatest-found p f n k e in e ∙ elim (order_of k i) [
      | inl less ↦ absurd (clash (p i) holds (any-fails p (k + 1) n i found.last (omega arith) before))
      | inr (inl is) ↦ ap (λ m. Some m) is
      | inr (inr more) ↦ absurd (clash (p k) found.holds (any-fails p (i + 1) n k last (omega arith) found.before))
    ])

-- if `p` holds only where `s` does, and not before `i`, the greatest up to `j` with `s`, then `p` holds before `j`
-- exactly if `i` is before `j` and `p` holds at `i`
pub only-last : (s p : ℕ → Bool) (f j i : ℕ) → IsGreatest s f (j + 1) i → ((k : ℕ) → s k ≡ false → p k ≡ false)
    → ((k : ℕ) → k < i → s k ≡ true → p k ≡ false) → any p f j ≡ (nat_lt i j && p i)
only-last s p f j i found off earlier = by_order (eq-or_below i j found.before)
  where
    -- `p` doesn't hold before `i`
    fails_before : (k : ℕ) → k < i → p k ≡ false
    fails_before k before = by_either_value (s k) (earlier k before) (off k)

    -- `p` doesn't hold after `i`, before `j`
    fails_after : (k : ℕ) → i < k → k < j → p k ≡ false
    fails_after k after before = off k (any-fails s (i + 1) (j + 1) k found.last (omega arith) (omega arith))

    -- if `i` is before `j`, `p` holds before `j` exactly if it holds at `i`
    by_value : i < j → any p f j ≡ p i
    by_value before = by_either_value (p i) (λ e. any-holds p f j i found.from before e ∙ sym e)
        (λ e. fails-any p f j (λ k a b. elim (order_of k i) [
          | inl less ↦ fails_before k less
          | inr (inl same) ↦ ap p same ∙ e
          | inr (inr more) ↦ fails_after k more b
        ]) ∙ sym e)

    -- by whether `i` is `j` or before it
    by_order : (i ≡ j) ⊎ (i < j) → any p f j ≡ (nat_lt i j && p i)
    by_order (inl e) = rw (le-ltb i j (omega arith)) (fails-any p f j
        (λ k a b. fails_before k (omega (arith, b))))
    by_order (inr before) = rw (lt-ltb i j before) (by_value before)

-- ---- One instant more, or less, of a search.

-- if no number of a range meets `p`, nor the next one, none of the longer range does
pub any-more : (p : ℕ → Bool) (f n : ℕ) → any p f n ≡ false → p n ≡ false → any p f (n + 1) ≡ false
any-more p f n none fails = any-step p f n ∙ rw (none, fails) (and-false (nat_le f n))

-- for the goals of a loop that searches a range from its first number on
pub ruleset steps = (searches, any-past, any-more, none-shorter)

-- ---- A range that is longer by one.

-- a judged instant is after the start of its stretch
pub is_judged-after_start : (stretch : Stretch) (j : ℕ) → is_judged stretch j ≡ true → stretch.start + 1 ≤ j
is_judged-after_start stretch j judged = let after =
    ltb-true stretch.start j (and_parts (nat_lt stretch.start j) (nat_lt j stretch.end) judged).0 in omega arith

-- if the last number of a range meets `p`, it is the greatest that does
pub greatest-here : (p : ℕ → Bool) (f n : ℕ) → f ≤ n → p n ≡ true → greatest p f (n + 1) ≡ Some n
unfolding greatest
greatest-here p f n from here = rw (add-one, le-leb f n from, here) refl

-- if the last number of a range doesn't meet `p`, the greatest that does is that of the shorter range
pub greatest-not : (p : ℕ → Bool) (f n : ℕ) → p n ≡ false → greatest p f (n + 1) ≡ greatest p f n
unfolding greatest
greatest-not p f n not_here = rw (add-one, and_right (nat_le f n) (p n) not_here) refl

-- no number of a range meets `p` exactly if none of the shorter range does, nor the last one
pub none-step : (p : ℕ → Bool) (f n : ℕ) → f ≤ n → none p f (n + 1) ≡ (none p f n && not (p n))
none-step p f n from = ap not (any-step p f n) ∙ rw (le-leb f n from) (not_or (any p f n) (p n))

-- a judged instant isn't the opening
pub is_judged-not_opening : (stretch : Stretch) (j : ℕ) → is_judged stretch j ≡ true → 1 ≤ j
is_judged-not_opening stretch j judged = let after = is_judged-after_start stretch j judged in omega arith
