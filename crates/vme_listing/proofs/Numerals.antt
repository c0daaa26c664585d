-- A number that is written in base 16 is read back.
use Rattle.std.proofs.Common.{◌≡◌, ℕ, zero, suc, ◌+◌, ◌*◌, ◌/◌, ◌%◌, ◌^◌, ◌<◌, true, List, [], ◌∷◌, ◌++◌, refl, ap, ◌∙◌}
use Rattle.std.proofs.Common.{arith}
use Rattle.std.specs.Fmt.{digit_glyph}
use Rattle.std.proofs.Math.Nat.{mod-eq_of_lt, pow-suc}
use Rattle.std.proofs.lemmas.Bool.Decides.{nat_tests}
use Rattle.vme_listing.specs.RowText.{hexadecimal}
use Rattle.vme_listing.specs.Words.{digit_of, number_after, number_of}

-- with one byte more, the number is multiplied by the base, and the digit is added, modulo 2^32
number_after-append : (base n : ℕ) (word : List ℕ) (byte : ℕ) → number_after base n (word ++ byte ∷ [])
    ≡ (number_after base n word * base % 2 ^ 32 + digit_of byte) % 2 ^ 32
number_after-append base n [] byte = refl
number_after-append base n (first ∷ word) byte =
    number_after-append base ((n * base % 2 ^ 32 + digit_of first) % 2 ^ 32) word byte

-- a digit below 16 is read from its character
pub digit_of-glyph : (digit : ℕ) → digit < 16 → digit_of (digit_glyph true digit) ≡ digit
digit_of-glyph digit small = grind (arith, nat_tests)

-- a last digit appended to `front` gives n, modulo 2^32 too
pub mod_32_bits-last_digit : (base front digit n : ℕ) → front * base + digit ≡ n → n < 2 ^ 32
    → (front * base % 2 ^ 32 + digit) % 2 ^ 32
    ≡ n
mod_32_bits-last_digit base front digit n e below =
    let small : front * base < 2 ^ 32 = omega arith in
    ap (λ x. (x + digit) % 2 ^ 32) (mod-eq_of_lt small) ∙ ap (λ x. x % 2 ^ 32) e ∙ mod-eq_of_lt below

-- if n / 16 is read from a word, n is read from the word and the character of n % 16
number_after-last_digit : (n : ℕ) (word : List ℕ) → n < 2 ^ 32 → number_after 16 0 word ≡ n / 16 → number_after 16 0
    (word ++ digit_glyph true (n % 16) ∷ []) ≡ n
number_after-last_digit n word below e =
    number_after-append 16 0 word (digit_glyph true (n % 16))
    ∙ ap (λ x. (x * 16 % 2 ^ 32 + digit_of (digit_glyph true (n % 16))) % 2 ^ 32) e
    ∙ ap (λ d. (n / 16 * 16 % 2 ^ 32 + d) % 2 ^ 32) (digit_of-glyph (n % 16) (omega arith))
    ∙ mod_32_bits-last_digit 16 (n / 16) (n % 16) n (omega arith) below

-- a number below 2^32 is read from its k digits in base 16, digit by digit
number_after-hexadecimal : (k n : ℕ) → n < 16 ^ k → n < 2 ^ 32 → number_after 16 0 (hexadecimal k n) ≡ n
unfolding hexadecimal
number_after-hexadecimal zero n small below = omega arith
number_after-hexadecimal (suc k) n small below =
    number_after-last_digit n (hexadecimal k (n / 16)) below
    (number_after-hexadecimal k (n / 16) (omega (arith, pow-suc 16 k))
    (omega arith))

-- a number below 2^32 is read from its k digits in base 16
pub number_of-hexadecimal : (k n : ℕ) → n < 16 ^ k → n < 2 ^ 32 → number_of 16 (hexadecimal k n) ≡ n
unfolding number_of
number_of-hexadecimal k n small below = number_after-hexadecimal k n small below
