-- The digits of a number are digits and letters.
use Rattle.std.proofs.Common.{◌≡◌, ℕ, zero, suc, ◌+◌, ◌/◌, ◌%◌, ◌^◌, ◌<◌, ◌≤◌, Bool, true, ◌&&◌, List, [], ◌∷◌, ◌++◌}
use Rattle.std.proofs.Common.{leb}
use Rattle.std.proofs.Common.{refl, arith}
use Rattle.std.specs.Prelude.{decimal}
use Rattle.std.specs.Fmt.{digit_glyph}
use Rattle.std.proofs.lemmas.Bool.{and_parts, and_from}
use Rattle.std.proofs.lemmas.Bool.Decides.{nat_tests}
use Rattle.std.proofs.lemmas.Fmt.{decimal_by_steps}
use Rattle.vme_listing.specs.RowText.{hexadecimal}

-- each byte is the digit 0 or comes after it in ASCII, as digits and letters do
abbrev pub are_glyphs : List ℕ → Bool
are_glyphs [] = true
are_glyphs (byte ∷ word) = leb 48 byte && are_glyphs word

-- two words of digits and letters are such a word together
are_glyphs-append : (front back : List ℕ) → are_glyphs front ≡ true → are_glyphs back ≡ true
    → are_glyphs (front ++ back)
    ≡ true
are_glyphs-append [] back h k = k
are_glyphs-append (byte ∷ front) back h k =
    let parts = and_parts (leb 48 byte) (are_glyphs front) h in
    and_from _ _ parts.0 (are_glyphs-append front back parts.1 k)

-- a word of one byte from the digit 0 on passes `are_glyphs`
are_glyphs-one : (byte : ℕ) → 48 ≤ byte → are_glyphs (byte ∷ []) ≡ true
are_glyphs-one byte h = grind (arith, nat_tests)

-- a decimal text is a word of digits
pub are_glyphs-decimal : (n : ℕ) → n < 2 ^ 64 → are_glyphs (decimal n) ≡ true
are_glyphs-decimal n below =
    decimal_by_steps (λ n ds. are_glyphs ds ≡ true) (λ n small. are_glyphs-one (48 + n) (omega arith))
    (λ n ds low h. are_glyphs-append ds ((48 + n % 10) ∷ []) h (are_glyphs-one (48 + n % 10) (omega arith))) n below

-- the character of a digit is 0 or comes after it in ASCII
digit_glyph-at_least : (digit : ℕ) → 48 ≤ digit_glyph true digit
digit_glyph-at_least digit = grind (arith, nat_tests)

-- a number in base 16 is a word of digits and letters
pub are_glyphs-hexadecimal : (k n : ℕ) → are_glyphs (hexadecimal k n) ≡ true
unfolding hexadecimal
are_glyphs-hexadecimal zero n = refl
are_glyphs-hexadecimal (suc k) n = are_glyphs-append (hexadecimal k (n / 16)) (digit_glyph true (n % 16) ∷ [])
    (are_glyphs-hexadecimal k (n / 16)) (are_glyphs-one (digit_glyph true (n % 16)) (digit_glyph-at_least (n % 16)))
