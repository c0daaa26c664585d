-- A piece that was read at the start of a line has its text there, and a piece whose text is there is read.
use Rattle.std.proofs.Common.{◌≡◌, ◌==◌, ℕ, zero, suc, ◌+◌, ◌%◌, ◌^◌, ◌<◌, ◌≤◌, Bool, true, false, not, ◌&&◌, List}
use Rattle.std.proofs.Common.{[], ◌∷◌, ◌++◌, drop, length, take, refl, sym, ap, ◌∙◌, arith}
use Rattle.std.specs.Prelude.{Option, None, Some, bytes_eq, decimal, if◌then◌else◌}
use Rattle.std.specs.Char.{is_ascii_digit}
use Rattle.std.proofs.lemmas.Bool.{and_from, and_parts, eq-eqb, eqb-true, false≢true, not-true, lt-ltb}
use Rattle.std.proofs.lemmas.Bool.Decides.{nat_tests}
use Rattle.std.proofs.lemmas.Fmt.{decimal_by_steps, decimal_is_IsNumeral, length-decimal-le}
use Rattle.std.proofs.lemmas.Option.{none-some, same_Some}
use Rattle.std.proofs.lemmas.Slice.Eq.{bytes_eq-Decides}
use Rattle.vme_listing.specs.Lines.{Rest, after_word, digits_at, number_in, or_other, past, past_piece, past_read}
use Rattle.vme_listing.specs.Lines.{piece}

-- after a word at the start of a line the rest of the line follows
pub after_word-is : (word more : List ℕ) → after_word word (word ++ more) ≡ Some more
after_word-is [] more = refl
after_word-is (byte ∷ word) more = rw (eq-eqb byte byte refl) (after_word-is word more)

-- if `more` follows a word in a line, the line is the word and then `more`
pub after_word-text : (word line more : List ℕ) → after_word word line ≡ Some more → line ≡ word ++ more
after_word-text [] line more e = same_Some line more e
after_word-text (byte ∷ word) [] more e = absurd (none-some more e)
after_word-text (byte ∷ word) (first ∷ line) more e = by_test (after_word-text word line more) (byte == first) refl e
  where
    by_test : (after_word word line ≡ Some more → line ≡ word ++ more) → (same : Bool) → (byte == first) ≡ same
        → (if same then after_word word line else None) ≡ Some more
        → first ∷ line ≡ byte ∷ (word ++ more)
    by_test said true s e = rw (sym (eqb-true byte first s)) (ap (λ l. byte ∷ l) (said e))
    by_test said false s e = absurd (none-some more e)

-- if `more` is left after a word, what was left before is the word and then `more`
pub past-text : (word : List ℕ) (left : Rest) (more : List ℕ) → past word left ≡ Some more → left ≡ Some (word ++ more)
past-text word None more e = absurd (none-some more e)
past-text word (Some line) more e = ap Some (after_word-text word line more e)

-- `read` gives the piece at the start of a line, and `text` its text
module _ {A : Type 0} (read : List ℕ → Option A) (text : A → List ℕ) (other : A) where
  -- if `more` is left after a piece that was read, the line is the text of the piece and then `more`
  past_read-text : (line more : List ℕ) (o : Option A) → past_read read text o line ≡ Some more
      → Some line ≡ Some (text (or_other read other o) ++ more)
  past_read-text line more None e = absurd (none-some more e)
  past_read-text line more (Some x) e = ap Some (after_word-text (text x) line more e)

  -- if `more` is left after a piece, what was left before is the text of the piece and then `more`
  pub past_piece-text : (left : Rest) (more : List ℕ) → past_piece read text left ≡ Some more
      → left ≡ Some (text (piece read other left) ++ more)
  past_piece-text None more e = absurd (none-some more e)
  past_piece-text (Some line) more e = past_read-text line more (read line) e

  -- the piece x is read from its own text
  module _ (x : A) (more : List ℕ) (e : read (text x ++ more) ≡ Some x) where
    -- the piece at the start of the line is x
    pub piece-is : piece read other (Some (text x ++ more)) ≡ x
    piece-is = ap (or_other read other) e

    -- `more` is left after the piece x
    pub past_piece-is : past_piece read text (Some (text x ++ more)) ≡ Some more
    past_piece-is = ap (λ o. past_read read text o (text x ++ more)) e ∙ after_word-is (text x) more

-- each byte is a digit
abbrev pub are_digits : List ℕ → Bool
are_digits [] = true
are_digits (byte ∷ word) = is_ascii_digit byte && are_digits word

-- the text doesn't begin with a digit
abbrev pub is_end : List ℕ → Bool
is_end [] = true
is_end (byte ∷ more) = not (is_ascii_digit byte)

-- two words of digits are such a word together
are_digits-append : (front back : List ℕ) → are_digits front ≡ true → are_digits back ≡ true
    → are_digits (front ++ back) ≡ true
are_digits-append [] back h k = k
are_digits-append (byte ∷ front) back h k =
    let parts = and_parts (is_ascii_digit byte) (are_digits front) h in
    and_from _ _ parts.0 (are_digits-append front back parts.1 k)

-- a byte from 48 to 57 is a word of one digit
are_digits-one : (byte : ℕ) → 48 ≤ byte → byte ≤ 57 → are_digits (byte ∷ []) ≡ true
are_digits-one byte h k = grind (arith, nat_tests)

-- a decimal text is a word of digits
pub are_digits-decimal : (n : ℕ) → n < 2 ^ 64 → are_digits (decimal n) ≡ true
are_digits-decimal n below =
    decimal_by_steps (λ n ds. are_digits ds ≡ true) (λ n small. are_digits-one (48 + n) (omega arith) (omega arith))
    (λ n ds low h. are_digits-append ds ((48 + n % 10) ∷ []) h (are_digits-one (48 + n % 10) (omega arith)
    (omega arith))) n below

-- digits at the start of a text, at most `most`, are found, if no digit follows
digits_at-is : (most : ℕ) (ds more : List ℕ) → are_digits ds ≡ true → length ds ≤ most → is_end more ≡ true
    → digits_at most (ds ++ more) ≡ ds
digits_at-is zero [] more h few end = refl
digits_at-is zero (byte ∷ ds) more h few end = absurd (omega arith)
digits_at-is (suc most) [] [] h few end = refl
digits_at-is (suc most) [] (byte ∷ more) h few end = rw (not-true (is_ascii_digit byte) end) refl
digits_at-is (suc most) (byte ∷ ds) more h few end =
    let parts = and_parts (is_ascii_digit byte) (are_digits ds) h in
    rw parts.0 (ap (λ l. byte ∷ l) (digits_at-is most ds more parts.1 (omega arith) end))

-- a number below 2^32 is read from its decimal text, if no digit follows
pub number_in-is : (n : ℕ) (more : List ℕ) → n < 2 ^ 32 → is_end more ≡ true → number_in (decimal n ++ more) ≡ Some n
unfolding number_in
number_in-is n more below end =
    rw (
      digits_at-is 10 (decimal n) more (are_digits-decimal n (omega arith))
          (length-decimal-le 10 n (omega arith) (omega arith) (omega arith)) end,
      (decimal_is_IsNumeral n (omega arith)).1,
      lt-ltb n (2 ^ 32) below,
      (bytes_eq-Decides (decimal n) (decimal n)).1 refl,
    ) refl

-- where the line begins with the word, what is left is the line without as many bytes as the word has
pub after_word-by : (word line : List ℕ) → bytes_eq (take (length word) line) word ≡ true
    → after_word word line ≡ Some (drop (length word) line)
after_word-by [] line h = refl
after_word-by (byte ∷ word) [] h = absurd (false≢true h)
after_word-by (byte ∷ word) (first ∷ line) h =
    let parts = and_parts (first == byte) (bytes_eq (take (length word) line) word) h in
    rw (eq-eqb byte first (sym (eqb-true first byte parts.0))) (after_word-by word line parts.1)

-- where the line doesn't begin with the word, nothing follows it
pub after_word-not : (word line : List ℕ) → bytes_eq (take (length word) line) word ≡ false
    → after_word word line ≡ None
after_word-not [] line h = absurd (false≢true (sym h))
after_word-not (byte ∷ word) [] h = refl
after_word-not (byte ∷ word) (first ∷ line) h = by_test (after_word-not word line) (byte == first) refl
  where
    by_test : (bytes_eq (take (length word) line) word ≡ false → after_word word line ≡ None) → (same : Bool)
        → (byte == first) ≡ same → (if same then after_word word line else None) ≡ None
    by_test fails false s = refl
    by_test fails true s =
        let e : (first == byte) ≡ true = eq-eqb first byte (sym (eqb-true byte first s)) in
        fails (ap (λ b. b && bytes_eq (take (length word) line) word) (sym e) ∙ h)

pub ruleset words = (after_word-by, after_word-not)
