-- The number whose digits in base 16 are at the start of a text, and the data whose text is there.
use Rattle.std.proofs.Common.{◌≡◌, ℕ, zero, suc, ◌+◌, ◌*◌, ◌/◌, ◌%◌, ◌^◌, ◌<◌, ◌≤◌, true, false}
use Rattle.std.proofs.Common.{List, [], ◌∷◌, ◌++◌, drop, get_or, length, take, refl, sym, ap, ◌∙◌, arith}
use Rattle.std.specs.Prelude.{None, Some, bytes_eq, if◌then◌else◌}
use Rattle.std.specs.Fmt.{digit_glyph}
use Rattle.std.proofs.Math.Nat.{pow-le-pow_right, pow-suc}
use Rattle.std.proofs.lemmas.Bool.{and_from, and_parts, false≢true, and_right}
use Rattle.std.proofs.lemmas.Bool.Decides.{nat_tests}
use Rattle.std.proofs.lemmas.Grind.{take_at_read}
use Rattle.std.proofs.lemmas.List.{length-take-le, take_all}
use Rattle.std.proofs.lemmas.Slice.Eq.{bytes_eq-Decides}
use Rattle.vme_trace.specs.declared.data.Lanes.{Lanes}
use Rattle.vme_listing.specs.Lines.{after_word, are_hexadecimal, hexadecimal_in, is_hexadecimal, lanes_in, lanes_of}
use Rattle.vme_listing.specs.RowText.{hexadecimal, lanes_text}
use Rattle.vme_listing.specs.Words.{number_of}
use Rattle.vme_listing.proofs.Digits.{length-hexadecimal}
use Rattle.vme_listing.proofs.FrontDigits.{after_word-take, bytes_eq-differs, bytes_eq-refl}
use Rattle.vme_listing.proofs.Numerals.{number_of-hexadecimal}

-- the character of a digit is one of a number in base 16
is_hexadecimal-digit_glyph : (digit : ℕ) → digit < 16 → is_hexadecimal (digit_glyph true digit) ≡ true
is_hexadecimal-digit_glyph digit small = grind (arith, nat_tests)

-- two words of digits in base 16 are such a word together
are_hexadecimal-append : (front back : List ℕ) → are_hexadecimal front ≡ true → are_hexadecimal back ≡ true
    → are_hexadecimal (front ++ back) ≡ true
are_hexadecimal-append [] back h k = k
are_hexadecimal-append (byte ∷ front) back h k =
    let parts = and_parts (is_hexadecimal byte) (are_hexadecimal front) h in
    and_from _ _ parts.0 (are_hexadecimal-append front back parts.1 k)

-- a number in base 16 is a word of such digits
are_hexadecimal-hexadecimal : (k n : ℕ) → are_hexadecimal (hexadecimal k n) ≡ true
unfolding hexadecimal
are_hexadecimal-hexadecimal zero n = refl
are_hexadecimal-hexadecimal (suc k) n =
    are_hexadecimal-append (hexadecimal k (n / 16)) (digit_glyph true (n % 16) ∷ [])
    (are_hexadecimal-hexadecimal k (n / 16))
    (and_from _ _ (is_hexadecimal-digit_glyph (n % 16) (omega arith)) refl)

-- a word with a byte that isn't a digit in base 16 isn't all such digits
pub are_hexadecimal-not_at : (word : List ℕ) (i : ℕ) → i < length word → is_hexadecimal (get_or word i 0) ≡ false
    → are_hexadecimal word ≡ false
are_hexadecimal-not_at [] i within e = absurd (omega arith)
are_hexadecimal-not_at (byte ∷ word) zero within e = rw e refl
are_hexadecimal-not_at (byte ∷ word) (suc i) within e =
    and_right (is_hexadecimal byte) (are_hexadecimal word) (are_hexadecimal-not_at word i (omega arith) e)

-- the i + 1 digits of m are the i digits of m / 16, and then m % 16
hexadecimal-last_digit : (i m number digit : ℕ) → m / 16 ≡ number → m % 16 ≡ digit
    → hexadecimal (i + 1) m ≡ hexadecimal i number ++ digit_glyph true digit ∷ []
unfolding hexadecimal
hexadecimal-last_digit i m number digit front last =
    let next : i + 1 ≡ suc i = omega arith in
    ap (λ k. hexadecimal k m) next ∙ ap (λ n. hexadecimal i n ++ digit_glyph true (m % 16) ∷ []) front
    ∙ ap (λ d. hexadecimal i number ++ digit_glyph true d ∷ []) last

-- where the first i bytes of the word are the digits of `number`, the first i + 1 are those of `number * 16 + digit`
pub hexadecimal-one_more_digit : (word : List ℕ) (i number digit : ℕ) → i < length word → hexadecimal i number
    ≡ take i word
    → digit < 16 → digit_glyph true digit ≡ get_or word i 0
    → hexadecimal (i + 1) (number * 16 + digit) ≡ take (i + 1) word
hexadecimal-one_more_digit word i number digit within so_far small glyph =
    hexadecimal-last_digit i (number * 16 + digit) number digit (omega arith) (omega arith)
    ∙ ap (λ b. hexadecimal i number ++ b ∷ []) glyph ∙ ap (λ l. l ++ get_or word i 0 ∷ []) so_far
    ∙ sym (take_at_read word i 0 within).1

-- a number below 16 ^ i, with one digit more, is below 16 ^ (i + 1)
pub pow_16-one_more_digit : (i number digit : ℕ) → number < 16 ^ i → digit < 16 → number * 16 + digit < 16 ^ (i + 1)
pow_16-one_more_digit i number digit below small =
    let next : i + 1 ≡ suc i = omega arith in
    omega (arith, below, small, pow-suc 16 i, ap (λ k. 16 ^ k) next)

-- a number of at most i digits is one of at most `most` digits, if i is at most `most`
pub pow_16-at_most : (i most number : ℕ) → i ≤ most → number < 16 ^ i → number < 16 ^ most
pow_16-at_most i most number few below = omega (arith, below, pow-le-pow_right {n = 16} (omega arith) few)

-- a text of fewer than k bytes doesn't begin with k digits
pub hexadecimal_in-short : (k : ℕ) (text : List ℕ) → length text < k → hexadecimal_in k text ≡ None
unfolding hexadecimal_in
hexadecimal_in-short k text short =
    rw (bytes_eq-differs (hexadecimal k (number_of 16 (take k text))) (take k text)
    (λ e. omega (
      arith,
      ap length e,
      length-hexadecimal k (number_of 16 (take k text)),
      ap length (take_all k text (omega arith)),
    ))) refl

-- a text whose first k bytes aren't all digits doesn't begin with k digits
pub hexadecimal_in-not : (k : ℕ) (text : List ℕ) → are_hexadecimal (take k text) ≡ false → hexadecimal_in k text ≡ None
unfolding hexadecimal_in
hexadecimal_in-not k text h =
    rw (bytes_eq-differs (hexadecimal k (number_of 16 (take k text))) (take k text)
    (λ e. false≢true (sym h ∙ ap are_hexadecimal (sym e) ∙ are_hexadecimal-hexadecimal k (number_of 16 (take k text)))))
    refl

-- the first k bytes of the text, at most 8, are the digits of `number` in base 16
module _ (k : ℕ) (text : List ℕ) (number : ℕ) (few : k ≤ 8) (within : k ≤ length text)
    (is : hexadecimal (length (take k text)) number ≡ take k text) (below : number < 16 ^ length (take k text)) where
  -- the first k bytes of the text are k bytes
  length-take_digits : length (take k text) ≡ k
  length-take_digits = length-take-le k text within

  -- the first k bytes of the text are the k digits of `number`
  hexadecimal-take : hexadecimal k number ≡ take k text
  hexadecimal-take = ap (λ n. hexadecimal n number) (sym length-take_digits) ∙ is

  -- the number is below 16 ^ k
  number-below_pow_16 : number < 16 ^ k
  number-below_pow_16 = omega (arith, below, ap (λ n. 16 ^ n) length-take_digits)

  -- the number is below 2^32, which is 16 ^ 8
  number-below_32_bits : number < 16 ^ 8
  number-below_32_bits = pow_16-at_most k 8 number few number-below_pow_16

  -- the number is read at the start of the text
  pub hexadecimal_in-front : hexadecimal_in k text ≡ Some number
  unfolding hexadecimal_in
  hexadecimal_in-front =
      rw (
        sym hexadecimal-take,
        number_of-hexadecimal k number number-below_pow_16 (omega (arith, number-below_32_bits)),
        bytes_eq-refl
            (hexadecimal k number),
      ) refl

  -- after the digits of the number the bytes after the first k follow
  pub after_word-hexadecimal : after_word (hexadecimal k number) text ≡ Some (drop k text)
  after_word-hexadecimal = ap (λ w. after_word w text) hexadecimal-take ∙ after_word-take k text

-- the text of data has eight bytes
pub lanes-length : (a : Lanes) → length (lanes_text a) ≡ 8
unfolding lanes_text
lanes-length a = refl

-- a text of fewer than 8 bytes doesn't begin with the text of data
pub lanes_in-short : (text : List ℕ) → length text < 8 → lanes_in text ≡ None
unfolding lanes_in
lanes_in-short text short =
    rw (bytes_eq-differs (lanes_text (lanes_of (take 8 text))) (take 8 text)
    (λ e. omega (arith, ap length e, lanes-length (lanes_of (take 8 text)), ap length (take_all 8 text (omega arith)))))
    refl

-- a is the data that the first 8 bytes of the text give, whether they are a text of data or not
module _ (text : List ℕ) (a : Lanes) (is : a ≡ lanes_of (take 8 text)) where
  -- a is read at the start of the text exactly if its own text is there
  lanes_in-by_test : lanes_in text ≡ (if bytes_eq (lanes_text a) (take 8 text) then Some a else None)
  unfolding lanes_in
  lanes_in-by_test = ap (λ b. if bytes_eq (lanes_text b) (take 8 text) then Some b else None) (sym is)

  -- if the text of a is there, a is read
  pub lanes_in-front : bytes_eq (lanes_text a) (take 8 text) ≡ true → lanes_in text ≡ Some a
  lanes_in-front h = lanes_in-by_test ∙ (rw h refl)

  -- if another text is there, no data is read
  pub lanes_in-other : bytes_eq (lanes_text a) (take 8 text) ≡ false → lanes_in text ≡ None
  lanes_in-other h = lanes_in-by_test ∙ (rw h refl)

-- after the text of data at the start of a text the bytes after the first 8 follow
pub after_word-lanes : (text : List ℕ) (a : Lanes) → bytes_eq (lanes_text a) (take 8 text) ≡ true
    → after_word (lanes_text a) text ≡ Some (drop 8 text)
after_word-lanes text a h =
    ap (λ w. after_word w text) ((bytes_eq-Decides (lanes_text a) (take 8 text)).0 h) ∙ after_word-take 8 text
