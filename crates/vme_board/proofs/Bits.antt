-- After a word was or-ed with the mask of one bit, this bit is 1 and no other bit of any row has changed.
use Rattle.std.proofs.Common.{◌≡◌, ℕ, zero, suc, ◌+◌, ◌*◌, ◌/◌, ◌%◌, ◌<◌, ◌≤◌, ◌≢◌, List, length, get_or, set, sym}
use Rattle.std.proofs.Common.{refl, ap, ◌∙◌, subst, arith, bit_or, w64, get_or-set_other, get_or-set_same, replicate}
use mathlib.Core.Logic.{dite}
use native.Mathlib.Decide.{ℕ_discrete}
use Rattle.std.specs.Int.{bit_at}
use Rattle.std.proofs.lemmas.Nat.Bits.{bit_at_set_same, bit_at_set_other, bit_at-zero}
use Rattle.vme_board.specs.Words.{bit_of, mask_of}

-- the place of a bit in its word is below 64
mod-below_64 : (n : ℕ) → n % 64 < 64
mod-below_64 n = omega arith

-- a bit is at most 1
pub bit_of-at_most_one : (k : ℕ) (ws : List ℕ) (n : ℕ) → bit_of k ws n ≤ 1
bit_of-at_most_one k ws n = omega arith

-- two numbers with the same word in the row k, and the same mask, are the same
pub bit-one_number : (k n m : ℕ) → 4 * (n / 64) + k ≡ 4 * (m / 64) + k → mask_of n ≡ mask_of m → n ≡ m
bit-one_number k n m a b = dite (ℕ_discrete (m % 64) (n % 64)) (λ e. omega (arith, a, e))
    (λ ne. let z : bit_at (bit_or 0 (mask_of n)) (m % 64) ≡ 0 =
    bit_at_set_other w64 0 (n % 64) (mod-below_64 n) (m % 64) ne
    ∙ bit_at-zero (m % 64) in
    let o : bit_at (bit_or 0 (mask_of m)) (m % 64) ≡ 1 = bit_at_set_same w64 0 (m % 64) (mod-below_64 m) in
    let c : bit_at (bit_or 0 (mask_of n)) (m % 64) ≡ bit_at (bit_or 0 (mask_of m)) (m % 64) = ap
    (λ (y : ℕ). bit_at (bit_or 0 y) (m % 64)) b in absurd (omega (arith, z, o, c)))

-- the words after the bit of n in the row k is set
abbrev pub marked : ℕ → List ℕ → ℕ → List ℕ
marked k ws n = set ws (4 * (n / 64) + k) (bit_or (get_or ws (4 * (n / 64) + k) 0) (mask_of n))

module _ (k : ℕ) (ws : List ℕ) (n : ℕ) (within : 4 * (n / 64) + k < length ws) where
  -- the bit that is set is 1
  pub bit_of-marked : bit_of k (marked k ws n) n ≡ 1
  bit_of-marked = ap (λ (y : ℕ). bit_at y (n % 64)) (get_or-set_same ws (4 * (n / 64) + k)
      (bit_or (get_or ws (4 * (n / 64) + k) 0) (mask_of n)) 0 within) ∙ bit_at_set_same w64
      (get_or ws (4 * (n / 64) + k) 0) (n % 64) (mod-below_64 n)

  -- a bit of another word doesn't change
  pub bit_of-other_word : (k' m : ℕ) → 4 * (m / 64) + k' ≢ 4 * (n / 64) + k → bit_of k' (marked k ws n) m
      ≡ bit_of k' ws m
  bit_of-other_word k' m ne = ap (λ (y : ℕ). bit_at y (m % 64))
      (get_or-set_other ws (4 * (n / 64) + k) (4 * (m / 64) + k')
      (bit_or (get_or ws (4 * (n / 64) + k) 0) (mask_of n)) 0 ne)

  -- the bits of another row don't change
  pub bit_of-other_row : (k' : ℕ) → k < 4 → k' < 4 → k' ≢ k → (m : ℕ) → bit_of k' (marked k ws n) m ≡ bit_of k' ws m
  bit_of-other_row k' a b ne m = bit_of-other_word k' m (λ e. ne (omega (arith, e)))

  -- the bits of other numbers don't change
  pub bit_of-other_number : (m : ℕ) → m ≢ n → bit_of k (marked k ws n) m ≡ bit_of k ws m
  bit_of-other_number m ne = dite (ℕ_discrete (m / 64) (n / 64))
      (λ e. let i : ℕ = 4 * (n / 64) + k in let same : 4 * (m / 64) + k ≡ 4 * (n / 64) + k = omega (arith, e) in
      let apart : m % 64 ≢ n % 64 = λ f. ne (omega (arith, e, f)) in
      ap (λ (y : ℕ). bit_at (get_or (marked k ws n) y 0) (m % 64)) same
      ∙ (ap (λ (y : ℕ). bit_at y (m % 64)) (get_or-set_same ws i (bit_or (get_or ws i 0) (mask_of n)) 0 within)
      ∙ (bit_at_set_other w64 (get_or ws i 0) (n % 64) (mod-below_64 n) (m % 64) apart
      ∙ ap (λ (y : ℕ). bit_at (get_or ws y 0) (m % 64)) (sym same))))
      (λ e. bit_of-other_word k m (λ f. e (omega (arith, f))))

  -- no bit of the row k changes if the bit of n was 1 before
  pub bit_of-marked_again : bit_of k ws n ≡ 1 → (m : ℕ) → bit_of k (marked k ws n) m ≡ bit_of k ws m
  bit_of-marked_again is m =
      dite (ℕ_discrete m n) (λ e. subst (λ (y : ℕ). bit_of k (marked k ws n) y ≡ bit_of k ws y) (sym e)
      (bit_of-marked ∙ sym is)) (λ ne. bit_of-other_number m ne)

-- n words that are 0
abbrev zeros : ℕ → List ℕ
zeros n = replicate n 0

-- what is read of words that are 0 is 0
get_or-zeros : (n i : ℕ) → get_or (zeros n) i 0 ≡ zero
get_or-zeros zero i = refl
get_or-zeros (suc n) zero = refl
get_or-zeros (suc n) (suc i) = get_or-zeros n i

-- each bit of words that are 0 is 0
pub bit_of-zeros : (k n m : ℕ) → bit_of k (zeros n) m ≡ 0
bit_of-zeros k n m = ap (λ (y : ℕ). bit_at y (m % 64)) (get_or-zeros n (4 * (m / 64) + k)) ∙ bit_at-zero (m % 64)

-- the index of the word of a number below `limit` is below `width`, if `width` words suffice (`IsWideFor`)
pub word_index-within : (width limit n k : ℕ) → n < limit → limit ≤ 16 * width → width ≡ 4 * (width / 4) → k < 4
    → 4 * (n / 64) + k < width
word_index-within width limit n k low wide whole small = omega (arith, low, wide, whole, small)

-- a bit that isn't 1 is 0
pub bit_at-not_one : (word place bit : ℕ) → bit ≡ bit_at word place → bit ≢ 1 → bit_at word place ≡ 0
bit_at-not_one word place bit is ne = omega (arith, is, ne)
