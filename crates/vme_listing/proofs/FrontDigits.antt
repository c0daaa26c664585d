-- The digits at the start of a text, and the number whose decimal text they are, or why they are none.
use Rattle.std.proofs.Common.{◌≡◌, ◌==◌, ℕ, zero, suc, ◌+◌, ◌-◌, ◌*◌, ◌^◌, ◌<◌, ◌≤◌, Bool, true, false, ◌&&◌, ◌⊎◌, inl}
use Rattle.std.proofs.Common.{inr}
use Rattle.std.proofs.Common.{List, [], ◌∷◌, drop, get_or, length, take, refl, sym, ap, ◌∙◌, arith}
use Rattle.std.specs.Prelude.{None, Some, bytes_eq, decimal, nat_lt, if◌then◌else◌}
use Rattle.std.specs.Char.{digit_value, is_ascii_digit}
use Rattle.std.specs.Str.{all_ascii_digits}
use Rattle.std.specs.Str.Parse.{digits_value}
use Rattle.std.proofs.lemmas.Bool.{and_from, and_parts, cases_order, eqb-true, false_from_ne_true, ltb-true}
use Rattle.std.proofs.lemmas.Bool.{le-ltb, lt-ltb}
use Rattle.std.proofs.lemmas.Bool.Decides.{nat_tests}
use Rattle.std.proofs.lemmas.Fmt.{decimal-digits_value, decimal_digit, decimal_nonempty, first_decimal}
use Rattle.std.proofs.lemmas.Int.Digits.{digits_value_more}
use Rattle.std.proofs.lemmas.List.{get_or-take, length-take-le, take-append-drop}
use Rattle.std.proofs.lemmas.Slice.Eq.{bytes_eq-Decides}
use Rattle.std.proofs.lemmas.Str.Parse.{IsNumeralModel, digits_value_short, numerals_by_value, tells_all_ascii_digits}
use Rattle.vme_listing.specs.Lines.{after_word, digits_at, number_in}
use Rattle.vme_listing.proofs.Pieces.{after_word-is}

-- the first `count` bytes of the text are digits
abbrev pub FirstAreDigits : List ℕ → ℕ → Type 0
FirstAreDigits text count = (k : ℕ) → k < count → is_ascii_digit (get_or text k 0) ≡ true

-- where `count` is below `most`, no digit follows the first `count` bytes
abbrev pub DigitsEndAt : List ℕ → ℕ → ℕ → Type 0
DigitsEndAt text most count = count < most → count < length text → is_ascii_digit (get_or text count 0) ≡ false

-- if the first `count` bytes are digits, and the next one is, so are the first `count + 1`
pub FirstAreDigits-one_more : (text : List ℕ) (count : ℕ) → FirstAreDigits text count
    → is_ascii_digit (get_or text count 0) ≡ true
    → FirstAreDigits text (count + 1)
FirstAreDigits-one_more text count digits digit k below = by_order (cases_order k count)
  where
    by_order : (k ≡ count) ⊎ ((k < count) ⊎ (count < k)) → is_ascii_digit (get_or text k 0) ≡ true
    by_order (inl e) = ap (λ i. is_ascii_digit (get_or text i 0)) e ∙ digit
    by_order (inr (inl less)) = digits k less
    by_order (inr (inr past)) = absurd (omega (arith, past, below))

-- a digit is at most 57 in ASCII
pub is_ascii_digit-at_most : (byte : ℕ) → is_ascii_digit byte ≡ true → byte ≤ 57
is_ascii_digit-at_most byte h = grind (arith, nat_tests)

-- the value of `count + 1` digits, from that of `count` digits and the next one
pub digits_value-one_more : (text : List ℕ) (count : ℕ) → count < length text → is_ascii_digit (get_or text count 0)
    ≡ true
    → digits_value 10 (take (count + 1) text)
    ≡ digits_value 10 (take count text) * 10 + (get_or text count 0 - 48)
digits_value-one_more text count within digit =
    let worth : digit_value (get_or text count 0) ≡ get_or text count 0 - 48 = grind (arith, nat_tests) in
    digits_value_more 10 text count within ∙ ap (λ d. digits_value 10 (take count text) * 10 + d) worth

-- if the first `count` bytes of a text are digits, they are a word of digits
all_ascii_digits-first : (text : List ℕ) (count : ℕ) → count ≤ length text → FirstAreDigits text count
    → all_ascii_digits (take count text) ≡ true
all_ascii_digits-first text zero within digits = refl
all_ascii_digits-first [] (suc count) within digits = absurd (omega arith)
all_ascii_digits-first (byte ∷ text) (suc count) within digits =
    and_from _ _ (digits 0 (omega arith))
    (all_ascii_digits-first text count (omega arith) (λ k below. digits (suc k)
    (omega arith)))

-- words of digits, and their values in base 10, are a model of the numerals
IsNumeralModel-digits : IsNumeralModel (λ (ds : List ℕ). all_ascii_digits ds ≡ true) (digits_value 10)
IsNumeralModel-digits = numerals_by_value (λ (ds : List ℕ). all_ascii_digits ds ≡ true) tells_all_ascii_digits

-- the value of the first `count` bytes, which are digits, is below 10 ^ most, if `count` is at most `most`
pub digits_value-bound : (text : List ℕ) (count most : ℕ) → count ≤ most → count ≤ length text
    → FirstAreDigits text count
    → digits_value 10 (take count text) < 10 ^ most
digits_value-bound text count most few within digits =
    digits_value_short IsNumeralModel-digits (take count text) most (all_ascii_digits-first text count within digits)
    (omega (arith, few, length-take-le count text within))

-- the digits at the start of a text, at most `most`, are the first `count` bytes, if these are digits and end there
digits_at-ending : (text : List ℕ) (most count : ℕ) → count ≤ most → count ≤ length text → FirstAreDigits text count
    → DigitsEndAt text most count → digits_at most text ≡ take count text
digits_at-ending text zero zero few within digits end = refl
digits_at-ending text zero (suc count) few within digits end = absurd (omega arith)
digits_at-ending [] (suc most) zero few within digits end = refl
digits_at-ending [] (suc most) (suc count) few within digits end = absurd (omega arith)
digits_at-ending (byte ∷ text) (suc most) zero few within digits end = rw (end (omega arith) (omega arith)) refl
digits_at-ending (byte ∷ text) (suc most) (suc count) few within digits end =
    rw (digits 0 (omega arith))
    (ap (λ l. byte ∷ l) (digits_at-ending text most count (omega arith) (omega arith)
    (λ k below. digits (suc k) (omega arith)) (λ less inside. end (omega arith) (omega arith))))

-- the test of equality fails for words that differ
pub bytes_eq-differs : (xs ys : List ℕ) → (xs ≡ ys → ⊥) → bytes_eq xs ys ≡ false
bytes_eq-differs xs ys h = false_from_ne_true (bytes_eq xs ys) (λ e. h ((bytes_eq-Decides xs ys).0 e))

-- a word is equal to itself by the test
pub bytes_eq-refl : (text : List ℕ) → bytes_eq text text ≡ true
bytes_eq-refl text = (bytes_eq-Decides text text).1 refl

-- after the first `count` bytes of a text the others follow
pub after_word-take : (count : ℕ) (text : List ℕ) → after_word (take count text) text ≡ Some (drop count text)
after_word-take count text =
    ap (after_word (take count text)) (sym (take-append-drop count text))
    ∙ after_word-is (take count text) (drop count text)

-- no decimal text is empty
decimal-not_empty : (n : ℕ) (ds : List ℕ) → n < 2 ^ 64 → length ds ≡ 0 → decimal n ≡ ds → ⊥
decimal-not_empty n ds below none e =
    omega (arith, decimal_nonempty n below, ap length e, none)

-- no decimal text has a zero before another digit
decimal-without_leading_zero : (n : ℕ) (ds : List ℕ) → n < 2 ^ 64 → 1 < length ds → get_or ds 0 0 ≡ 48 → decimal n ≡ ds
    → ⊥
decimal-without_leading_zero n ds below many lead e = by_order (cases_order n 0)
  where
    by_order : (n ≡ 0) ⊎ ((n < 0) ⊎ (0 < n)) → ⊥
    by_order (inl none) = omega (arith, ap length e, ap length (decimal_digit n (omega (arith, none))), many)
    by_order (inr (inl less)) = omega (arith, less)
    by_order (inr (inr some)) = omega (
      arith,
      first_decimal n some below,
      ap (λ l. get_or l 0 0) e,
      lead,
    )

-- where a test fails, whatever the other says, there is no number
if-and_false : (b : Bool) (n : ℕ) → (if b && false then Some n else None) ≡ None
if-and_false true n = refl
if-and_false false n = refl

-- a text whose digits are no decimal text has no number at its start
number_in-not_decimal : (text ds : List ℕ) → digits_at 10 text ≡ ds → (decimal (digits_value 10 ds) ≡ ds → ⊥)
    → number_in text ≡ None
unfolding number_in
number_in-not_decimal text ds e h =
    rw (e, bytes_eq-differs (decimal (digits_value 10 ds)) ds h)
    (if-and_false (nat_lt (digits_value 10 ds) (2 ^ 32)) (digits_value 10 ds))

-- digits without a leading zero, of which the first is 0, are that one
first_zero-alone : (count first : ℕ) → 0 < count → (nat_lt 1 count && (first == 48)) ≡ false → first ≡ 48 → count ≡ 1
first_zero-alone count first some h e = grind (arith, nat_tests)

-- the first `count` bytes of the text, at most 10, are digits, and no digit follows them, unless they are 10
module _ (text : List ℕ) (count : ℕ) (few : count ≤ 10) (within : count ≤ length text)
    (digits : FirstAreDigits text count) (end : DigitsEndAt text 10 count) where
  -- the digits at the start of the text are its first `count` bytes
  digits_at-take : digits_at 10 text ≡ take count text
  digits_at-take = digits_at-ending text 10 count few within digits end

  -- the value of the first `count` bytes, as digits, is below 2^64
  digits_value-below_64_bits : digits_value 10 (take count text) < 2 ^ 64
  digits_value-below_64_bits = omega (arith, digits_value-bound text count 10 few within digits)

  -- without digits there is no number
  pub number_in-empty : count ≡ 0 → number_in text ≡ None
  number_in-empty none =
      number_in-not_decimal text (take count text) digits_at-take
      (decimal-not_empty (digits_value 10 (take count text)) (take count text) digits_value-below_64_bits
      (omega (arith, none, length-take-le count text within)))

  -- with a zero before another digit there is no number
  pub number_in-zero : (nat_lt 1 count && (get_or text 0 0 == 48)) ≡ true → number_in text ≡ None
  number_in-zero h =
      let parts = and_parts (nat_lt 1 count) (get_or text 0 0 == 48) h in
      let many : 1 < count = ltb-true 1 count parts.0 in
      number_in-not_decimal text (take count text) digits_at-take
      (decimal-without_leading_zero (digits_value 10 (take count text)) (take count text) digits_value-below_64_bits
      (omega (arith, many, length-take-le count text within))
      (get_or-take count text 0 0 (omega (arith, many)) ∙ eqb-true (get_or text 0 0) 48 parts.1))

  -- `number` is the value of the digits
  module _ (number : ℕ) (value : number ≡ digits_value 10 (take count text)) where
    -- if the value is 2^32 or more, there is no number
    pub number_in-large : 2 ^ 32 ≤ number → number_in text ≡ None
    unfolding number_in
    number_in-large large = rw (digits_at-take, sym value, le-ltb number (2 ^ 32) large) refl

    -- there is a digit, and the first is 0 only if it is the only one
    module _ (some : 0 < count) (no_lead : (nat_lt 1 count && (get_or text 0 0 == 48)) ≡ false) where
      -- the decimal text of the value of the first `count` bytes is these bytes
      decimal-of_front : decimal (digits_value 10 (take count text)) ≡ take count text
      decimal-of_front =
          let size = length-take-le count text within in
          decimal-digits_value IsNumeralModel-digits (take count text) (all_ascii_digits-first text count within digits)
          (omega (arith, size, some))
          (λ e. size ∙ first_zero-alone count (get_or text 0 0) some no_lead
          (sym (get_or-take count text 0 0 some) ∙ e)) digits_value-below_64_bits

      -- if the value is below 2^32, it is the number at the start of the text
      pub number_in-front : number < 2 ^ 32 → number_in text ≡ Some number
      unfolding number_in
      number_in-front small =
          rw (
            digits_at-take,
            decimal-of_front,
            sym value,
            lt-ltb number (2 ^ 32) small,
            bytes_eq-refl
                (take count text),
          ) refl

      -- after the decimal text of the value the bytes after the digits follow
      pub after_word-front : after_word (decimal number) text ≡ Some (drop count text)
      after_word-front =
          ap (λ n. after_word (decimal n) text) value ∙ ap (λ ds. after_word ds text) decimal-of_front
          ∙ after_word-take count text
