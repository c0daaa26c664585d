-- What a load of a word shows of one number: whether the bench sees it claimed, filed or taken after it.
use Rattle.std.proofs.Common.{◌≡◌, ℕ, ◌+◌, ◌*◌, ◌/◌, ◌%◌, ◌<◌, ◌≢◌, List, [], ◌++◌, ◌∙◌, Bool, true, false, sym, refl}
use Rattle.std.proofs.Common.{ap, arith, subst, le_refl}
use mathlib.Core.Logic.{dite}
use native.Mathlib.Decide.{ℕ_discrete}
use Rattle.std.specs.Prelude.{nat_eq}
use Rattle.std.specs.Bool.{OnTrue, OnFalse}
use Rattle.std.proofs.lemmas.Bool.Decides.{nat_tests}
use Rattle.std.specs.Int.{bit_at}
use Rattle.vme_trace.specs.declared.block.Block.{Block}
use Rattle.vme_core.specs.declared.view.View.{View}
use Rattle.vme_core.specs.Counting.{occurrences, set_bits}
use Rattle.vme_core.specs.Stages.{SeesMore}
use Rattle.vme_core.specs.Views.{after_claim, after_filing, with_claimed, with_filed, with_taken}
use Rattle.vme_core.proofs.Sums.{occurrences-append}
use Rattle.vme_core.proofs.SetBits.{set_bits-true, set_bits-all}
use Rattle.vme_board.specs.Postconditions.{SeatState}
use Rattle.vme_board.proofs.Bits.{bit_at-not_one}

-- if P follows from a ≡ 1, it holds where the test for a ≡ 1 is true
OnTrue-one : (a : ℕ) (P : Type 0) → (a ≡ 1 → P) → OnTrue (nat_eq a 1) P
OnTrue-one a P h = by_test (nat_eq a 1) refl
  where
    by_test : (b : Bool) → nat_eq a 1 ≡ b → OnTrue b P
    by_test true e = h (grind (arith, nat_tests))
    by_test false e = tt

-- if P follows from a ≢ 1, it holds where the test for a ≡ 1 is false
pub OnFalse-not_one : (a : ℕ) (P : Type 0) → (a ≢ 1 → P) → OnFalse (nat_eq a 1) P
OnFalse-not_one a P h = by_test (nat_eq a 1) refl
  where
    by_test : (b : Bool) → nat_eq a 1 ≡ b → OnFalse b P
    by_test true e = tt
    by_test false e = h (λ one. grind (arith, nat_tests))

-- the word i is that of n in the row k, and its value is `found`
module _ (i n k found : ℕ) (is : i ≡ 4 * (n / 64) + k) (small : k < 4) where
  -- the numbers whose bit is 1 in the word
  abbrev shown : List ℕ
  shown = set_bits (64 * (i / 4)) (bit_at found) 64

  -- a number whose bit is 1 occurs among the numbers that are shown and xs
  occurrences-shown : (xs : List ℕ) → bit_at found (n % 64) ≡ 1 → 0 < occurrences n (shown ++ xs)
  occurrences-shown xs one = let m = set_bits-all (64 * (i / 4)) (bit_at found) 64 (n % 64) (omega arith) one in
      let same : 64 * (i / 4) + n % 64 ≡ n = omega (arith, is, small) in let here : 0 < occurrences n shown = subst
      (λ (y : ℕ). 0 < occurrences y shown) same m in omega (arith, here, occurrences-append n shown xs)

  -- a number whose bit is 0 isn't among the numbers that are shown
  occurrences-not_shown : bit_at found (n % 64) ≡ 0 → occurrences n shown ≡ 0
  occurrences-not_shown zero_bit = dite (ℕ_discrete (occurrences n shown) 0) (λ e. e)
      (λ ne. let t = set_bits-true (64 * (i / 4)) (bit_at found) 64 n (omega (arith, ne)) in let l = t.1 in
      let a = t.2 in let same : t.0 ≡ n % 64 = omega (arith, is, small, l, a) in let one : bit_at found (n % 64)
      ≡ 1 = ap (bit_at found) (sym same) ∙ t.3 in absurd (omega (arith, one, zero_bit)))

  -- `own` is the bit of n in the word
  module _ (own : ℕ) (read : own ≡ bit_at found (n % 64)) where
    -- if n has the bit 1 whenever it is in xs, and its bit isn't 1, then n is neither in xs nor among the numbers added
    -- to xs
    pub is_absent : (xs : List ℕ) → (0 < occurrences n xs → bit_at found (n % 64) ≡ 1) → own ≢ 1
        → (occurrences n xs ≡ 0) × (occurrences n (shown ++ xs) ≡ 0)
    is_absent xs there ne = let zero_bit = bit_at-not_one found (n % 64) own read ne in
        dite (ℕ_discrete (occurrences n xs) 0)
        (λ e. (e, omega (arith, e, occurrences-not_shown zero_bit, occurrences-append n shown xs)))
        (λ some. absurd (omega (arith, there (omega (arith, some)), zero_bit)))

    -- where the bit of n is 1, n is among ys, the numbers that are shown and xs
    pub OnTrue-shown : (xs ys : List ℕ) → ys ≡ shown ++ xs → OnTrue (nat_eq own 1) (0 < occurrences n ys)
    OnTrue-shown xs ys e = OnTrue-one own _
        (λ one. subst (λ (zs : List ℕ). 0 < occurrences n zs) (sym e) (occurrences-shown xs (sym read ∙ one)))

    -- where it isn't, and n has the bit 1 whenever it is in xs, n isn't among ys
    pub OnFalse-shown : (xs ys : List ℕ) → ys ≡ shown ++ xs → (0 < occurrences n xs → bit_at found (n % 64) ≡ 1)
        → OnFalse (nat_eq own 1) (occurrences n ys ≡ 0)
    OnFalse-shown xs ys e there = OnFalse-not_one own _
        (λ ne. subst (λ (zs : List ℕ). occurrences n zs ≡ 0) (sym e) (is_absent xs there ne).1)

-- a bench sees more after more numbers were seen claimed, filed and taken
SeesMore-added : (v : View) (cl fi ta : List ℕ)
    → SeesMore v (record v { claimed = cl ++ v.claimed; filed = fi ++ v.filed; taken = ta ++ v.taken })
SeesMore-added v cl fi ta = record {
  found = λ d. le_refl _;
  claimed = λ n. omega (arith, occurrences-append n cl v.claimed);
  filed = λ n.
      omega (arith, occurrences-append n fi v.filed);
  taken = λ n. omega (arith, occurrences-append n ta v.taken);
}

-- a load of claimed bits adds to what the bench has seen
pub SeesMore-claimed : (a b : SeatState) (ns : List ℕ) → b ≡ (with_claimed a.0 ns, a.1) → SeesMore a.0 b.0
SeesMore-claimed a b ns e = subst (λ (m : SeatState). SeesMore a.0 m.0) (sym e) (SeesMore-added a.0 ns [] [])

-- a load of filed bits adds to what the bench has seen
pub SeesMore-filed : (a b : SeatState) (ns : List ℕ) → b ≡ (with_filed a.0 ns, a.1) → SeesMore a.0 b.0
SeesMore-filed a b ns e = subst (λ (m : SeatState). SeesMore a.0 m.0) (sym e) (SeesMore-added a.0 ns ns [])

-- a load of taken bits adds to what the bench has seen
pub SeesMore-taken : (a b : SeatState) (ns : List ℕ) → b ≡ (with_taken a.0 ns, a.1) → SeesMore a.0 b.0
SeesMore-taken a b ns e = subst (λ (m : SeatState). SeesMore a.0 m.0) (sym e) (SeesMore-added a.0 ns ns ns)

-- a bench sees more after it claimed and filed a number
pub SeesMore-filing : (v : View) (n : ℕ) (b : Block) → SeesMore v (after_filing (after_claim v n) n b)
SeesMore-filing v n b = record {
  found = λ d. le_refl _;
  claimed = λ m. omega arith;
  filed = λ m. omega arith;
  taken = λ m.
      le_refl _;
}
