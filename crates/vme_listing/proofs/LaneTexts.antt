-- The data of a write is read from its own text.
use Rattle.std.proofs.Common.{◌≡◌, ◌==◌, ℕ, zero, suc, ◌+◌, ◌*◌, ◌/◌, ◌%◌, ◌^◌, ◌<◌, Bool, true, not, ◌&&◌, List, []}
use Rattle.std.proofs.Common.{◌∷◌, cond, refl, ap, ◌∙◌, arith}
use Rattle.std.specs.Prelude.{nat_lt}
use Rattle.std.proofs.Math.Nat.{mod-eq_of_lt}
use Rattle.std.specs.List.{list_all}
use Rattle.std.proofs.lemmas.Bool.{and_from, and_parts, ltb-true, ne_eqb}
use Rattle.std.proofs.lemmas.Nat.{mod_below}
use Rattle.vme_trace.specs.Lanes.{has_digit}
use Rattle.vme_trace.specs.declared.data.Lanes.{Lanes}
use Rattle.vme_trace.specs.declared.data.MovedBytes.{MovedBytes}
use Rattle.vme_trace.specs.declared.data.MovedBytes.TheVariants.{Nothing, OddByte, EvenByte, Word, LongWord}
use Rattle.vme_listing.specs.LaneDigits.{is_moved_in, digit_in, flag_in}
use Rattle.vme_listing.specs.Places.{are_digits_from, is_allowed_data, is_allowed_digit_in}
use Rattle.vme_listing.specs.RowText.{digit_text, digit_text_in, lanes_text}
use Rattle.vme_listing.specs.Words.{digit_of, number_after, number_of, flag_of, flags_after, flags_of, moved_of}
use Rattle.vme_listing.specs.Lines.{lanes_of}
use Rattle.vme_listing.proofs.DigitTexts.{digit_text-at_least, digit_of-text, flag_of-text, shown-text}
use Rattle.vme_listing.proofs.Numerals.{mod_32_bits-last_digit}

-- the data is one that its form allows, by parts: the numbers' bounds, and each digit with its bit
record IsAllowedData (a : Lanes) : Type 0 where
  value : a.value < 2 ^ 32
  unknown : a.unknown < 256
  d0 : is_allowed_digit_in a 0 ≡ true
  d1 : is_allowed_digit_in a 1 ≡ true
  d2 : is_allowed_digit_in a 2 ≡ true
  d3 : is_allowed_digit_in a 3 ≡ true
  d4 : is_allowed_digit_in a 4 ≡ true
  d5 : is_allowed_digit_in a 5 ≡ true
  d6 : is_allowed_digit_in a 6 ≡ true
  d7 : is_allowed_digit_in a 7 ≡ true

-- data that its form allows is so by parts
IsAllowedData-of_test : (a : Lanes) → is_allowed_data a ≡ true → IsAllowedData a
unfolding is_allowed_data
IsAllowedData-of_test a h =
    let high = and_parts (nat_lt a.value (2 ^ 32) && nat_lt a.unknown 256 && are_digits_from a 0) (are_digits_from a 4)
    h in
    let low = and_parts (nat_lt a.value (2 ^ 32) && nat_lt a.unknown 256) (are_digits_from a 0) high.0 in
    let p = and_parts (nat_lt a.value (2 ^ 32)) (nat_lt a.unknown 256) low.0 in
    let p3 = and_parts (is_allowed_digit_in a 0 && is_allowed_digit_in a 1 && is_allowed_digit_in a 2)
    (is_allowed_digit_in a 3) low.1 in
    let p2 = and_parts (is_allowed_digit_in a 0 && is_allowed_digit_in a 1) (is_allowed_digit_in a 2) p3.0 in
    let p1 = and_parts (is_allowed_digit_in a 0) (is_allowed_digit_in a 1) p2.0 in
    let p7 = and_parts (is_allowed_digit_in a 4 && is_allowed_digit_in a 5 && is_allowed_digit_in a 6)
    (is_allowed_digit_in a 7) high.1 in
    let p6 = and_parts (is_allowed_digit_in a 4 && is_allowed_digit_in a 5) (is_allowed_digit_in a 6) p7.0 in
    let p5 = and_parts (is_allowed_digit_in a 4) (is_allowed_digit_in a 5) p6.0 in
    record {
      value = ltb-true a.value (2 ^ 32) p.0;
      unknown = ltb-true a.unknown 256 p.1;
      d0 = p1.0;
      d1 = p1.1;
      d2 = p2.1;
      d3 = p3.1;
      d4 = p5.0;
      d5 = p5.1;
      d6 = p6.1;
      d7 = p7.1;
    }

-- the text of the lower digits of data, as many as the second argument says, the highest first
abbrev lower_digits : Lanes → ℕ → List ℕ
lower_digits a zero = []
lower_digits a (suc count) = digit_text_in a count ∷ lower_digits a count

-- a digit that the form of data allows
module _ (a : Lanes) (place : ℕ) (allowed : is_allowed_digit_in a place ≡ true) where
  -- a digit is below 16
  below_16 : digit_in a place < 16
  below_16 = mod_below (a.value / 16 ^ place) 16 (omega arith)

  -- a bit is below 2
  below_2 : flag_in a place < 2
  below_2 = mod_below (a.unknown / 2 ^ place) 2 (omega arith)

  -- to go on from the digits of n before its last one, which is this one, with the lower digits is to go on from n
  number_after-digit : (front n : ℕ) → n < 2 ^ 32 → front ≡ n / 16 → digit_in a place ≡ n % 16
      → number_after 16 front (lower_digits a (suc place)) ≡ number_after 16 n (lower_digits a place)
  number_after-digit front n below e d =
      ap (λ x. number_after 16 x (lower_digits a place))
      (ap (λ f. (f * 16 % 2 ^ 32 + digit_of (digit_text_in a place)) % 2 ^ 32) e
      ∙ ap (λ x. (n / 16 * 16 % 2 ^ 32 + x) % 2 ^ 32)
      (digit_of-text (is_moved_in a place) (digit_in a place) (flag_in a place) below_16 below_2 allowed ∙ d)
      ∙ mod_32_bits-last_digit 16 (n / 16) (n % 16) n (omega arith) below)

  -- to go on from the bits of n before its last one, which is this one, with the lower digits is to go on from n
  flags_after-digit : (front n : ℕ) → n < 256 → front ≡ n / 2 → flag_in a place ≡ n % 2
      → flags_after front (lower_digits a (suc place)) ≡ flags_after n (lower_digits a place)
  flags_after-digit front n below e f =
      let small : n / 2 * 2 < 256 = omega arith in
      ap (λ x. flags_after x (lower_digits a place))
      (ap (λ x. x * 2 % 256 + flag_of (digit_text_in a place)) e
      ∙ ap (λ x. n / 2 * 2 % 256 + x)
      (flag_of-text (is_moved_in a place) (digit_in a place) (flag_in a place) below_16 below_2 allowed ∙ f)
      ∙ ap (λ x. x + n % 2) (mod-eq_of_lt small)
      ∙ omega arith)

-- the number of the text of data is the value of the data
number_of-lanes_text : (a : Lanes) → is_allowed_data a ≡ true → number_of 16 (lanes_text a) ≡ a.value
unfolding number_of lanes_text
number_of-lanes_text a h =
    let are = IsAllowedData-of_test a h in
    let below : a.value < 4294967296 = are.value in
    let v = a.value in
    number_after-digit a 7 are.d7 0 (v / 268435456) (omega arith) (omega arith) refl
    ∙ number_after-digit a 6 are.d6 (v / 268435456) (v / 16777216) (omega arith) (omega arith) refl
    ∙ number_after-digit a 5 are.d5 (v / 16777216) (v / 1048576) (omega arith) (omega arith) refl
    ∙ number_after-digit a 4 are.d4 (v / 1048576) (v / 65536) (omega arith) (omega arith) refl
    ∙ number_after-digit a 3 are.d3 (v / 65536) (v / 4096) (omega arith) (omega arith) refl
    ∙ number_after-digit a 2 are.d2 (v / 4096) (v / 256) (omega arith) (omega arith) refl
    ∙ number_after-digit a 1 are.d1 (v / 256) (v / 16) (omega arith) (omega arith) refl
    ∙ number_after-digit a 0 are.d0 (v / 16) v (omega arith) (omega arith) (omega arith)

-- the bits of the text of data are its unknown digits
flags_of-lanes_text : (a : Lanes) → is_allowed_data a ≡ true → flags_of (lanes_text a) ≡ a.unknown
unfolding flags_of lanes_text
flags_of-lanes_text a h =
    let are = IsAllowedData-of_test a h in
    let below : a.unknown < 256 = are.unknown in
    let u = a.unknown in
    flags_after-digit a 7 are.d7 0 (u / 128) (omega arith) (omega arith) refl
    ∙ flags_after-digit a 6 are.d6 (u / 128) (u / 64) (omega arith) (omega arith) refl
    ∙ flags_after-digit a 5 are.d5 (u / 64) (u / 32) (omega arith) (omega arith) refl
    ∙ flags_after-digit a 4 are.d4 (u / 32) (u / 16) (omega arith) (omega arith) refl
    ∙ flags_after-digit a 3 are.d3 (u / 16) (u / 8) (omega arith) (omega arith) refl
    ∙ flags_after-digit a 2 are.d2 (u / 8) (u / 4) (omega arith) (omega arith) refl
    ∙ flags_after-digit a 1 are.d1 (u / 4) (u / 2) (omega arith) (omega arith) refl
    ∙ flags_after-digit a 0 are.d0 (u / 2) u (omega arith) (omega arith) (omega arith)

-- the bytes that the text of data shows as moved are those that are
moved_of-lanes_text : (a : Lanes) → moved_of (lanes_text a) ≡ a.moved
unfolding moved_of lanes_text
moved_of-lanes_text a =
    rw (
      shown-text (is_moved_in a 7) (digit_in a 7) (flag_in a 7),
      shown-text (is_moved_in a 2) (digit_in a 2)
          (flag_in a 2),
      shown-text (is_moved_in a 0) (digit_in a 0) (flag_in a 0),
    ) (by_bytes a.moved)
  where
    by_bytes : (m : MovedBytes) → cond (has_digit m 7) LongWord
        (cond (has_digit m 2) (cond (has_digit m 0) Word EvenByte) (cond (has_digit m 0) OddByte Nothing)) ≡ m
    by_bytes Nothing = refl
    by_bytes m = refl

-- the data that is read from its own text is the data
pub lanes_of-lanes_text : (a : Lanes) → is_allowed_data a ≡ true → lanes_of (lanes_text a) ≡ a
lanes_of-lanes_text a h = rw (moved_of-lanes_text a, number_of-lanes_text a h, flags_of-lanes_text a h) refl

-- the text of a digit is no line feed
digit_text-no_line_feed : (moved : Bool) (digit flag : ℕ) → not (digit_text moved digit flag == 10) ≡ true
digit_text-no_line_feed moved digit flag = ap not (ne_eqb (digit_text moved digit flag) 10
    (λ e. omega (arith, digit_text-at_least moved digit flag)))

-- no byte of the text of data is a line feed
pub lanes_text-no_line_feed : (a : Lanes) → list_all (λ b. not (b == 10)) (lanes_text a) ≡ true
unfolding lanes_text
lanes_text-no_line_feed a =
    and_from _ _ (digit_text-no_line_feed (is_moved_in a 7) (digit_in a 7) (flag_in a 7))
    (and_from _ _ (digit_text-no_line_feed (is_moved_in a 6) (digit_in a 6) (flag_in a 6))
    (and_from _ _ (digit_text-no_line_feed (is_moved_in a 5) (digit_in a 5) (flag_in a 5))
    (and_from _ _ (digit_text-no_line_feed (is_moved_in a 4) (digit_in a 4) (flag_in a 4))
    (and_from _ _ (digit_text-no_line_feed (is_moved_in a 3) (digit_in a 3) (flag_in a 3))
    (and_from _ _ (digit_text-no_line_feed (is_moved_in a 2) (digit_in a 2) (flag_in a 2))
    (and_from _ _ (digit_text-no_line_feed (is_moved_in a 1) (digit_in a 1) (flag_in a 1))
    (and_from _ _ (digit_text-no_line_feed (is_moved_in a 0) (digit_in a 0) (flag_in a 0)) refl)))))))
