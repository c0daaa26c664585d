-- A digit of a write's data is determined by its text.
use Rattle.std.proofs.Common.{◌≡◌, ◌==◌, ℕ, zero, suc, ◌<◌, ◌≤◌, Bool, true, false, not, refl, sym, arith}
use Rattle.std.specs.Prelude.{if◌then◌else◌}
use Rattle.std.specs.Fmt.{digit_glyph}
use Rattle.std.proofs.lemmas.Bool.Decides.{nat_tests}
use Rattle.vme_listing.specs.Places.{is_allowed_digit}
use Rattle.vme_listing.specs.RowText.{digit_text}
use Rattle.vme_listing.specs.Words.{digit_of, flag_of}
use Rattle.vme_listing.proofs.Numerals.{digit_of-glyph}

-- the character of a digit in base 16 is at most F in ASCII
digit_glyph-at_most : (digit : ℕ) → digit < 16 → digit_glyph true digit ≤ 70
digit_glyph-at_most digit small = grind (arith, nat_tests)

-- the character of a digit is 0 or comes after it in ASCII
digit_glyph-at_least : (digit : ℕ) → 48 ≤ digit_glyph true digit
digit_glyph-at_least digit = grind (arith, nat_tests)

-- the character of a digit, or the X of an unknown one, comes after the hyphen in ASCII
digit_or_x-at_least : (digit : ℕ) (is_unknown : Bool) → 45 ≤ (if is_unknown then 88 else digit_glyph true digit)
digit_or_x-at_least digit true = omega arith
digit_or_x-at_least digit false = omega (arith, digit_glyph-at_least digit)

-- the text of a digit is a hyphen or a byte after it in ASCII
pub digit_text-at_least : (moved : Bool) (digit flag : ℕ) → 45 ≤ digit_text moved digit flag
digit_text-at_least false digit flag = omega arith
digit_text-at_least true digit flag = digit_or_x-at_least digit (flag == 1)

-- a digit that isn't moved is 0, by the form of data
unmoved_digit-zero : (digit flag : ℕ) → is_allowed_digit false digit flag ≡ true → digit ≡ 0
unmoved_digit-zero digit flag h = grind (arith, nat_tests)

-- a digit that isn't moved isn't unknown, by the form of data
unmoved_digit-no_flag : (digit flag : ℕ) → is_allowed_digit false digit flag ≡ true → flag ≡ 0
unmoved_digit-no_flag digit flag h = grind (arith, nat_tests)

-- an unknown digit is 0, by the form of data
unknown_digit-zero : (digit : ℕ) → is_allowed_digit true digit 1 ≡ true → digit ≡ 0
unknown_digit-zero digit h = grind (arith, nat_tests)

-- an allowed digit is read from its text
pub digit_of-text : (moved : Bool) (digit flag : ℕ) → digit < 16 → flag < 2 → is_allowed_digit moved digit flag ≡ true
    → digit_of (digit_text moved digit flag) ≡ digit
digit_of-text false digit flag d f h = sym (unmoved_digit-zero digit flag h)
digit_of-text true digit zero d f h = digit_of-glyph digit d
digit_of-text true digit (suc zero) d f h = sym (unknown_digit-zero digit h)
digit_of-text true digit (suc (suc flag)) d f h = absurd (omega arith)

-- a byte of at most F in ASCII isn't the X of an unknown digit
flag_of-digit : (byte : ℕ) → byte ≤ 70 → flag_of byte ≡ 0
flag_of-digit byte most = grind (arith, nat_tests)

-- whether an allowed digit is unknown is read from its text
pub flag_of-text : (moved : Bool) (digit flag : ℕ) → digit < 16 → flag < 2 → is_allowed_digit moved digit flag ≡ true
    → flag_of (digit_text moved digit flag) ≡ flag
flag_of-text false digit flag d f h = sym (unmoved_digit-no_flag digit flag h)
flag_of-text true digit zero d f h = flag_of-digit (digit_glyph true digit) (digit_glyph-at_most digit d)
flag_of-text true digit (suc zero) d f h = refl
flag_of-text true digit (suc (suc flag)) d f h = absurd (omega arith)

-- a byte after the hyphen in ASCII isn't one
hyphen-below : (byte : ℕ) → 46 ≤ byte → not (byte == 45) ≡ true
hyphen-below byte h = grind (arith, nat_tests)

-- a digit is shown where it is moved
pub shown-text : (moved : Bool) (digit flag : ℕ) → not (digit_text moved digit flag == 45) ≡ moved
shown-text false digit flag = refl
shown-text true digit flag = by_flag (flag == 1)
  where
    by_flag : (is_unknown : Bool) → not ((if is_unknown then 88 else digit_glyph true digit) == 45) ≡ true
    by_flag true = refl
    by_flag false = hyphen-below (digit_glyph true digit) (omega (arith, digit_glyph-at_least digit))
