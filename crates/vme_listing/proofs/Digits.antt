-- How the digits of a number follow from those of the number without its last digit, and which are its last ones.
use Rattle.std.proofs.Common.{◌≡◌, ℕ, zero, suc, ◌+◌, ◌-◌, ◌/◌, ◌%◌, ◌^◌, ◌<◌, ◌≤◌, List, [], ◌∷◌, ◌++◌, length, drop}
use Rattle.std.proofs.Common.{take, set, refl, sym, ap, ◌∙◌, arith, true, length-append}
use Rattle.std.specs.Prelude.{decimal}
use Rattle.std.specs.Fmt.{digit_glyph}
use Rattle.std.proofs.lemmas.Fmt.{decimal_digit, decimal_step, length-decimal-le}
use Rattle.std.proofs.lemmas.Grind.{drop-set_at}
use Rattle.std.proofs.lemmas.List.{drop-append-le, drop_all, take_rest}
use Rattle.vme_listing.specs.RowText.{hexadecimal}

-- a number of at least 10 has one digit more than the number without its last digit
pub length-decimal : (n : ℕ) → 10 ≤ n → n < 2 ^ 64 → length (decimal n) ≡ length (decimal (n / 10)) + 1
length-decimal n low high = omega (arith, ap length (decimal_step n low high), length-append {A = ℕ})

-- a number below 2 ^ 32 has at most 10 digits
pub decimal-short : (n : ℕ) → n < 2 ^ 32 → length (decimal n) ≤ 10
decimal-short n h = length-decimal-le 10 n (omega arith) (omega arith) (omega arith)

-- the first digit of n is set before its other ones, which stand from `start` on
pub first_digit : (digits : List ℕ) (start rest n : ℕ) → rest < 10 → 0 < start → start ≤ length digits
    → decimal rest ++ drop start digits ≡ decimal n → drop (start - 1) (set digits (start - 1) (48 + rest)) ≡ decimal n
first_digit digits start rest n one some within all =
    let next : start - 1 + 1 ≡ start = omega (arith, some) in
    drop-set_at digits (start - 1) (start - 1) (48 + rest) refl (omega (arith, some, within))
    ∙ ap (λ m. (48 + rest) ∷ drop m digits) next
    ∙ ap (λ text. text ++ drop start digits) (sym (decimal_digit rest one))
    ∙ all

-- the k digits of n in base 16 are those of n / 16, one fewer, and then n % 16
pub hexadecimal-last : (k n : ℕ) → 0 < k → hexadecimal k n ≡ hexadecimal (k - 1) (n / 16) ++ digit_glyph true (n % 16)
    ∷ []
unfolding hexadecimal
hexadecimal-last zero n h = absurd (omega arith)
hexadecimal-last (suc k) n h = let e : k ≡ suc k - 1 = omega arith in
    ap (λ m. hexadecimal m (n / 16) ++ digit_glyph true (n % 16) ∷ []) e

-- in no digits a number has no text
pub hexadecimal-no_digits : (k n : ℕ) → k ≤ 0 → hexadecimal k n ≡ []
unfolding hexadecimal
hexadecimal-no_digits zero n h = refl
hexadecimal-no_digits (suc k) n h = absurd (omega arith)

-- a number in k digits has k bytes
pub length-hexadecimal : (k n : ℕ) → length (hexadecimal k n) ≡ k
unfolding hexadecimal
length-hexadecimal zero n = refl
length-hexadecimal (suc k) n =
    omega (
      arith,
      length-hexadecimal k (n / 16),
      length-append (hexadecimal k (n / 16)) (digit_glyph true
          (n % 16) ∷ []),
    )

-- behind its first digits a number has its last k ones
drop-hexadecimal : (k total first n : ℕ) → first + k ≡ total → drop first (hexadecimal total n) ≡ hexadecimal k n
unfolding hexadecimal
drop-hexadecimal zero total first n e =
    drop_all first (hexadecimal total n) (omega (arith, e, length-hexadecimal total n))
drop-hexadecimal (suc k) zero first n e = absurd (omega arith)
drop-hexadecimal (suc k) (suc total) first n e =
    let all : first + k ≡ total = omega (arith, e) in
    drop-append-le first (hexadecimal total (n / 16)) (digit_glyph true (n % 16) ∷ [])
    (omega (arith, all, length-hexadecimal total (n / 16)))
    ∙ ap (λ ds. ds ++ digit_glyph true (n % 16) ∷ []) (drop-hexadecimal k total first (n / 16) all)

-- the last k of the eight digits of n in base 16 are those in k digits
pub last_digits : (k n : ℕ) (glyphs : List ℕ) → k ≤ 8 → glyphs ≡ hexadecimal 8 n
    → take (8 - (8 - k)) (drop (8 - k) glyphs) ≡ hexadecimal k n
last_digits k n glyphs within is =
    let size : length glyphs ≡ 8 = ap length is ∙ length-hexadecimal 8 n in
    ap (λ m. take (m - (8 - k)) (drop (8 - k) glyphs)) (sym size)
    ∙ take_rest glyphs (8 - k)
    ∙ ap (drop (8 - k)) is
    ∙ drop-hexadecimal k 8 (8 - k) n (omega arith)
