-- The data of a transfer of a recording is data that the row of a write may have.
use Rattle.std.proofs.Common.{◌≡◌, ℕ, ◌+◌, ◌*◌, ◌/◌, ◌%◌, ◌^◌, ◌<◌, ◌≤◌, Bool, true, false, not, ◌&&◌, ◌||◌, cond, refl}
use Rattle.std.proofs.Common.{ap, ◌∙◌, arith}
use Rattle.std.proofs.Math.Nat.{add-mul-div_left, div-eq_of_lt}
use Rattle.std.proofs.lemmas.Bool.{agree_below, agree_below_at, and_from, lt-ltb}
use Rattle.vme_trace.specs.Data.{is_odd_byte, is_even_byte, is_selected}
use Rattle.vme_trace.specs.Lanes.{has_digit, moved_at, is_digit_moved, is_digit_known, weight_at, digit_at, flag_at}
use Rattle.vme_trace.specs.Lanes.{lanes_at}
use Rattle.vme_trace.specs.Levels.{Levels, level_at, is_high, is_low}
use Rattle.vme_trace.specs.LineNumbers.{A, D, DS0, DS1, LWORD, is_data}
use Rattle.vme_trace.specs.declared.data.MovedBytes.{MovedBytes}
use Rattle.vme_trace.specs.declared.data.MovedBytes.TheVariants.{Nothing, OddByte, EvenByte, Word, LongWord}
use Rattle.vme_trace.specs.declared.level.Level.{Level}
use Rattle.vme_trace.specs.declared.level.Level.TheVariants.{Low, High, Unknown}
use Rattle.vme_listing.specs.Places.{is_allowed_data, is_allowed_digit}

-- the selection of a line, by the level of the long word line and whether A01 and the strobes are low
abbrev selected_by : Level → Bool → Bool → Bool → ℕ → Bool
selected_by word address odd even l =
    (is_high word && ((odd && is_odd_byte l) || (even && is_even_byte l))) || (is_low word && address && odd && even
    && is_data l)

-- which bytes are moved, by the level of the long word line and whether A01 and the strobes are low
abbrev moved_by : Level → Bool → Bool → Bool → MovedBytes
moved_by word address odd even =
    cond (selected_by word address odd even (D 16)) LongWord
    (cond (selected_by word address odd even (D 0) && selected_by word address odd even (D 8)) Word
    (cond (selected_by word address odd even (D 0)) OddByte (cond (selected_by word address odd even (D 8)) EvenByte
    Nothing)))

-- each of the eight digits is among the bytes that are moved exactly where its lines are selected
has_digit-selected_by : (word : Level) (address odd even : Bool)
    → agree_below (λ k. has_digit (moved_by word address odd even) k)
    (λ k. selected_by word address odd even (D (4 * k))) 8 ≡ true
has_digit-selected_by Unknown address odd even = refl
has_digit-selected_by High address false false = refl
has_digit-selected_by High address false true = refl
has_digit-selected_by High address true false = refl
has_digit-selected_by High address true true = refl
has_digit-selected_by Low false odd even = refl
has_digit-selected_by Low true false even = refl
has_digit-selected_by Low true true false = refl
has_digit-selected_by Low true true true = refl

-- a digit is among the bytes that are moved where its lines are selected
has_digit-is_digit_moved : (v : Levels) (k : ℕ) → k < 8 → has_digit (moved_at v) k ≡ is_digit_moved v k
unfolding moved_at is_selected
has_digit-is_digit_moved v k below =
    let word = level_at v LWORD in
    let address = is_low (level_at v (A 1)) in
    let odd = is_low (level_at v DS0) in
    let even = is_low (level_at v DS1) in
    agree_below_at (λ k. has_digit (moved_by word address odd even) k) (λ k. selected_by word address odd even
    (D (4 * k))) 8 k (has_digit-selected_by word address odd even) below

-- a digit and its bit of the unknown digits are ones that the form of data allows
record IsForm (moved : Bool) (digit flag : ℕ) : Type 0 where
  below : digit < 16
  bit : flag < 2
  form : is_allowed_digit moved digit flag ≡ true

-- a digit that counts only where it is moved and known, and a bit that is 1 only where it is moved and unknown, have
-- the form
IsForm-by_tests : (moved known : Bool) (digit : ℕ) → digit < 16 → IsForm moved (cond (moved && known) digit 0)
    (cond (moved && not known) 1 0)
IsForm-by_tests false known digit small = record { below = omega arith; bit = omega arith; form = refl }
IsForm-by_tests true false digit small = record { below = omega arith; bit = omega arith; form = refl }
IsForm-by_tests true true digit small = record { below = small; bit = omega arith; form = refl }

-- the weight of a line, or 0, is at most the weight
cond-at_most_weight : (high : Bool) (weight : ℕ) → cond high weight 0 ≤ weight
cond-at_most_weight true weight = omega arith
cond-at_most_weight false weight = omega arith

-- each digit of the data on the lines, and its bit, have the form
IsForm-digit_at : (v : Levels) (k : ℕ) → IsForm (is_digit_moved v k) (digit_at v k) (flag_at v k)
unfolding digit_at flag_at
IsForm-digit_at v k =
    IsForm-by_tests (is_digit_moved v k) (is_digit_known v k)
    (weight_at v (4 * k) 1 + weight_at v (4 * k + 1) 2 + weight_at v
    (4 * k + 2) 4 + weight_at v (4 * k + 3) 8)
    (omega (
      arith,
      cond-at_most_weight (is_high (level_at v (D (4 * k)))) 1,
      cond-at_most_weight (is_high (level_at v (D (4 * k + 1))))
          2,
      cond-at_most_weight (is_high (level_at v (D (4 * k + 2)))) 4,
      cond-at_most_weight (is_high (level_at v (D (4 * k + 3)))) 8,
    ))

-- a number of a lower part, a digit at a weight and a higher part has that digit at that weight
digit-of_parts : (base weight n low digit high : ℕ) → n ≡ low + weight * (digit + base * high) → low < weight
    → (digit + base * high) % base ≡ digit → 0 < weight → n / weight % base ≡ digit
digit-of_parts base weight n low digit high e below rest positive =
    ap (λ x. x / weight % base) e
    ∙ ap (λ q. q % base) (add-mul-div_left low (digit + base * high) {y = weight} positive ∙ gone (low / weight)
    (digit + base * high) (div-eq_of_lt below))
    ∙ rest
  where
    gone : (n rest : ℕ) → n ≡ 0 → n + rest ≡ rest
    gone n rest none = omega arith

-- d0 to d7 are the eight lower digits of n in a base, d0 the lowest
record AreDigits (base n d0 d1 d2 d3 d4 d5 d6 d7 : ℕ) : Type 0 where
  at0 : n / base ^ 0 % base ≡ d0
  at1 : n / base ^ 1 % base ≡ d1
  at2 : n / base ^ 2 % base ≡ d2
  at3 : n / base ^ 3 % base ≡ d3
  at4 : n / base ^ 4 % base ≡ d4
  at5 : n / base ^ 5 % base ≡ d5
  at6 : n / base ^ 6 % base ≡ d6
  at7 : n / base ^ 7 % base ≡ d7

-- a sum of eight digits below 16 at their weights has these as its digits
AreDigits-of_digits : (n d0 d1 d2 d3 d4 d5 d6 d7 : ℕ) → n
    ≡ d0 + 16 * d1 + 256 * d2 + 4096 * d3 + 65536 * d4 + 1048576 * d5 +
    16777216 * d6 + 268435456 * d7 → d0 < 16 → d1 < 16 → d2 < 16 → d3 < 16 → d4 < 16 → d5 < 16 → d6 < 16 → d7 < 16
    → AreDigits 16 n d0 d1 d2 d3 d4 d5 d6 d7
AreDigits-of_digits n d0 d1 d2 d3 d4 d5 d6 d7 e b0 b1 b2 b3 b4 b5 b6 b7 =
    record {
      at0 = digit-of_parts 16 1 n (0) d0 (d1 + 16 * (d2 + 16 * (d3 + 16 * (d4 + 16 * (d5 + 16 * (d6 + 16 * (d7)))))))
          (omega arith) (omega arith) (omega arith) (omega arith);
      at1 = digit-of_parts 16 16 n (d0) d1 (d2 + 16 * (d3 + 16 * (d4 + 16 * (d5 + 16 * (d6 + 16 * (d7))))))
          (omega arith)
          (omega arith) (omega arith) (omega arith);
      at2 = digit-of_parts 16 256 n (d0 + 16 * d1) d2 (d3 + 16 * (d4 + 16 * (d5 + 16 * (d6 + 16 * (d7))))) (omega arith)
          (omega arith) (omega arith) (omega arith);
      at3 = digit-of_parts 16 4096 n (d0 + 16 * d1 + 256 * d2) d3 (d4 + 16 * (d5 + 16 * (d6 + 16 * (d7)))) (omega arith)
          (omega arith) (omega arith) (omega arith);
      at4 = digit-of_parts 16 65536 n (d0 + 16 * d1 + 256 * d2 + 4096 * d3) d4 (d5 + 16 * (d6 + 16 * (d7)))
          (omega arith)
          (omega arith) (omega arith) (omega arith);
      at5 = digit-of_parts 16 1048576 n (d0 + 16 * d1 + 256 * d2 + 4096 * d3 + 65536 * d4) d5 (d6 + 16 * (d7))
          (omega arith) (omega arith) (omega arith) (omega arith);
      at6 = digit-of_parts 16 16777216 n (d0 + 16 * d1 + 256 * d2 + 4096 * d3 + 65536 * d4 + 1048576 * d5) d6 (d7)
          (omega arith) (omega arith) (omega arith) (omega arith);
      at7 = digit-of_parts 16 268435456 n
          (d0 + 16 * d1 + 256 * d2 + 4096 * d3 + 65536 * d4 + 1048576 * d5 + 16777216 * d6)
          d7 (0) (omega arith) (omega arith) (omega arith) (omega arith);
    }

-- a sum of eight bits at their weights has these as its bits
AreDigits-of_bits : (n d0 d1 d2 d3 d4 d5 d6 d7 : ℕ) → n
    ≡ d0 + 2 * d1 + 4 * d2 + 8 * d3 + 16 * d4 + 32 * d5 + 64 * d6 + 128 * d7
    → d0 < 2 → d1 < 2 → d2 < 2 → d3 < 2 → d4 < 2 → d5 < 2 → d6 < 2 → d7 < 2 → AreDigits 2 n d0 d1 d2 d3 d4 d5 d6 d7
AreDigits-of_bits n d0 d1 d2 d3 d4 d5 d6 d7 e b0 b1 b2 b3 b4 b5 b6 b7 =
    record {
      at0 = digit-of_parts 2 1 n (0) d0 (d1 + 2 * (d2 + 2 * (d3 + 2 * (d4 + 2 * (d5 + 2 * (d6 + 2 * (d7)))))))
          (omega arith) (omega arith) (omega arith) (omega arith);
      at1 = digit-of_parts 2 2 n (d0) d1 (d2 + 2 * (d3 + 2 * (d4 + 2 * (d5 + 2 * (d6 + 2 * (d7)))))) (omega arith)
          (omega arith) (omega arith) (omega arith);
      at2 = digit-of_parts 2 4 n (d0 + 2 * d1) d2 (d3 + 2 * (d4 + 2 * (d5 + 2 * (d6 + 2 * (d7))))) (omega arith)
          (omega arith) (omega arith) (omega arith);
      at3 = digit-of_parts 2 8 n (d0 + 2 * d1 + 4 * d2) d3 (d4 + 2 * (d5 + 2 * (d6 + 2 * (d7)))) (omega arith)
          (omega arith) (omega arith) (omega arith);
      at4 = digit-of_parts 2 16 n (d0 + 2 * d1 + 4 * d2 + 8 * d3) d4 (d5 + 2 * (d6 + 2 * (d7))) (omega arith)
          (omega arith)
          (omega arith) (omega arith);
      at5 = digit-of_parts 2 32 n (d0 + 2 * d1 + 4 * d2 + 8 * d3 + 16 * d4) d5 (d6 + 2 * (d7)) (omega arith)
          (omega arith)
          (omega arith) (omega arith);
      at6 = digit-of_parts 2 64 n (d0 + 2 * d1 + 4 * d2 + 8 * d3 + 16 * d4 + 32 * d5) d6 (d7) (omega arith)
          (omega arith)
          (omega arith) (omega arith);
      at7 = digit-of_parts 2 128 n (d0 + 2 * d1 + 4 * d2 + 8 * d3 + 16 * d4 + 32 * d5 + 64 * d6) d7 (0) (omega arith)
          (omega arith) (omega arith) (omega arith);
    }

-- a digit and its bit that equal allowed ones are allowed
is_allowed_digit-same : (m moved : Bool) (x digit y flag : ℕ) → m ≡ moved → x ≡ digit → y ≡ flag
    → is_allowed_digit moved digit flag ≡ true
    → is_allowed_digit m x y ≡ true
is_allowed_digit-same m moved x digit y flag p q r h = rw (p, q, r) h

-- the data on the lines is data that the row of a write may have
pub is_allowed_data-lanes_at : (v : Levels) → is_allowed_data (lanes_at v) ≡ true
unfolding is_allowed_data lanes_at
is_allowed_data-lanes_at v =
    let f0 = IsForm-digit_at v 0 in
    let f1 = IsForm-digit_at v 1 in
    let f2 = IsForm-digit_at v 2 in
    let f3 = IsForm-digit_at v 3 in
    let f4 = IsForm-digit_at v 4 in
    let f5 = IsForm-digit_at v 5 in
    let f6 = IsForm-digit_at v 6 in
    let f7 = IsForm-digit_at v 7 in
    let value = digit_at v 0 + 16 * digit_at v 1 + 256 * digit_at v 2 + 4096 * digit_at v 3 + 65536 * digit_at v 4 +
    1048576 * digit_at v 5 + 16777216 * digit_at v 6 + 268435456 * digit_at v 7 in
    let unknown = flag_at v 0 + 2 * flag_at v 1 + 4 * flag_at v 2 + 8 * flag_at v 3 + 16 * flag_at v 4 + 32 * flag_at v
    5 + 64 * flag_at v 6 + 128 * flag_at v 7 in
    let digits = AreDigits-of_digits value (digit_at v 0) (digit_at v 1) (digit_at v 2) (digit_at v 3) (digit_at v 4)
    (digit_at v 5) (digit_at v 6) (digit_at v 7) refl f0.below f1.below f2.below f3.below f4.below f5.below f6.below
    f7.below in
    let bits = AreDigits-of_bits unknown (flag_at v 0) (flag_at v 1) (flag_at v 2) (flag_at v 3) (flag_at v 4)
    (flag_at v 5)
    (flag_at v 6) (flag_at v 7) refl f0.bit f1.bit f2.bit f3.bit f4.bit f5.bit f6.bit f7.bit in
    and_from _ _
    (and_from _ _ (and_from _ _ (lt-ltb value (2 ^ 32) (omega (
      arith,
      f0.below,
      f1.below,
      f2.below,
      f3.below,
      f4.below,
      f5.below,
      f6.below,
      f7.below,
    )))
    (lt-ltb unknown 256 (omega (arith, f0.bit, f1.bit, f2.bit, f3.bit, f4.bit, f5.bit, f6.bit, f7.bit))))
    (and_from _ _
    (and_from _ _
    (and_from _ _ (is_allowed_digit-same (has_digit (moved_at v) 0) (is_digit_moved v 0) (value / 16 ^ 0 % 16)
    (digit_at v 0)
    (unknown / 2 ^ 0 % 2) (flag_at v 0) (has_digit-is_digit_moved v 0 (omega arith)) digits.at0 bits.at0 f0.form)
    (is_allowed_digit-same (has_digit (moved_at v) 1) (is_digit_moved v 1) (value / 16 ^ 1 % 16) (digit_at v 1)
    (unknown / 2 ^ 1 % 2) (flag_at v 1) (has_digit-is_digit_moved v 1 (omega arith)) digits.at1 bits.at1 f1.form))
    (is_allowed_digit-same (has_digit (moved_at v) 2) (is_digit_moved v 2) (value / 16 ^ 2 % 16) (digit_at v 2)
    (unknown / 2 ^ 2 % 2) (flag_at v 2) (has_digit-is_digit_moved v 2 (omega arith)) digits.at2 bits.at2 f2.form))
    (is_allowed_digit-same (has_digit (moved_at v) 3) (is_digit_moved v 3) (value / 16 ^ 3 % 16) (digit_at v 3)
    (unknown / 2 ^ 3 % 2) (flag_at v 3) (has_digit-is_digit_moved v 3 (omega arith)) digits.at3 bits.at3 f3.form)))
    (and_from _ _
    (and_from _ _
    (and_from _ _ (is_allowed_digit-same (has_digit (moved_at v) 4) (is_digit_moved v 4) (value / 16 ^ 4 % 16)
    (digit_at v 4)
    (unknown / 2 ^ 4 % 2) (flag_at v 4) (has_digit-is_digit_moved v 4 (omega arith)) digits.at4 bits.at4 f4.form)
    (is_allowed_digit-same (has_digit (moved_at v) 5) (is_digit_moved v 5) (value / 16 ^ 5 % 16) (digit_at v 5)
    (unknown / 2 ^ 5 % 2) (flag_at v 5) (has_digit-is_digit_moved v 5 (omega arith)) digits.at5 bits.at5 f5.form))
    (is_allowed_digit-same (has_digit (moved_at v) 6) (is_digit_moved v 6) (value / 16 ^ 6 % 16) (digit_at v 6)
    (unknown / 2 ^ 6 % 2) (flag_at v 6) (has_digit-is_digit_moved v 6 (omega arith)) digits.at6 bits.at6 f6.form))
    (is_allowed_digit-same (has_digit (moved_at v) 7) (is_digit_moved v 7) (value / 16 ^ 7 % 16) (digit_at v 7)
    (unknown / 2 ^ 7 % 2) (flag_at v 7) (has_digit-is_digit_moved v 7 (omega arith)) digits.at7 bits.at7 f7.form))
