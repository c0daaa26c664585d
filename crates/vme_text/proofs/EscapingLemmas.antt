-- An escaped text has only spaces, visible characters and line feeds.
use Rattle.std.proofs.Common.{◌≡◌, ℕ, ◌+◌, ◌/◌, ◌%◌, ◌<◌, ◌≤◌, ◌++◌, ◌∷◌, ◌&&◌, ◌==◌, Bool, List, [], true, false}
use Rattle.std.proofs.Common.{◌∙◌, arith, flat_map, if◌then◌else◌, le-leb, nat_le, nat_lt, refl}
use Rattle.std.proofs.lemmas.Bool.{and_from, or_left, or_right}
use Rattle.std.proofs.lemmas.List.Folds.{list_all-append}
use Rattle.std.specs.List.{list_all}
use Rattle.std.specs.Fmt.{digit_glyph}
use Rattle.vme_text.specs.Escaping.{is_visible, hex_escaped_byte, hex_escaped_in_text}

-- a byte from 32 to 126 is visible
is_visible-character : (b : ℕ) → 32 ≤ b → b ≤ 126 → is_visible b ≡ true
is_visible-character b least most =
    or_left (nat_le 32 b && nat_le b 126) (b == 10) (and_from (nat_le 32 b) (nat_le b 126) (le-leb 32 b least)
    (le-leb b 126 most))

-- a hexadecimal digit is visible
is_visible-digit : (n : ℕ) → n < 16 → is_visible (digit_glyph true n) ≡ true
is_visible-digit n low = by_test (nat_lt n 10)
  where
    -- by whether the digit is a decimal one
    by_test : (t : Bool) → is_visible (if t then 48 + n else 55 + n) ≡ true
    by_test true = is_visible-character (48 + n) (omega arith) (omega (arith, low))
    by_test false = is_visible-character (55 + n) (omega arith) (omega (arith, low))

-- a visible byte and a visible text after it are visible
list_all-visible_cons : (b : ℕ) (bs : List ℕ) → is_visible b ≡ true → list_all is_visible bs ≡ true
    → list_all is_visible (b ∷ bs) ≡ true
list_all-visible_cons b bs first rest = and_from (is_visible b) (list_all is_visible bs) first rest

-- two visible texts, one after the other, are visible
list_all-visible_append : (xs ys : List ℕ) → list_all is_visible xs ≡ true → list_all is_visible ys ≡ true
    → list_all is_visible (xs ++ ys) ≡ true
list_all-visible_append xs ys first rest =
    list_all-append is_visible xs ys ∙ and_from (list_all is_visible xs) (list_all is_visible ys) first rest

-- an escaped byte is visible
hex_escaped_byte-visible : (b : ℕ) → list_all is_visible (hex_escaped_byte b) ≡ true
hex_escaped_byte-visible b = by_test (nat_le 32 b && nat_le b 126) refl
  where
    -- by whether the byte stays as it is
    by_test : (t : Bool) → (nat_le 32 b && nat_le b 126) ≡ t
        → list_all is_visible
        (if t then b ∷ [] else 92 ∷ 120 ∷ digit_glyph true (b / 16 % 16) ∷ digit_glyph true (b % 16) ∷ []) ≡ true
    by_test true e = list_all-visible_cons b [] (or_left (nat_le 32 b && nat_le b 126) (b == 10) e) refl
    by_test false e =
        let last = list_all-visible_cons (digit_glyph true (b % 16)) [] (is_visible-digit (b % 16) (omega arith)) refl
        in
        list_all-visible_cons (digit_glyph true (b / 16 % 16)) (digit_glyph true (b % 16) ∷ [])
        (is_visible-digit (b / 16 % 16) (omega arith)) last

-- a byte of a text of several lines is visible once it is escaped
hex_escaped_in_text-visible : (b : ℕ) → list_all is_visible (hex_escaped_in_text b) ≡ true
hex_escaped_in_text-visible b = by_test (b == 10) refl
  where
    -- by whether the byte is a line feed
    by_test : (t : Bool) → (b == 10) ≡ t → list_all is_visible (if t then b ∷ [] else hex_escaped_byte b) ≡ true
    by_test true e = list_all-visible_cons b [] (or_right (nat_le 32 b && nat_le b 126) (b == 10) e) refl
    by_test false e = hex_escaped_byte-visible b

-- an escaped text of several lines is visible
pub text_is_visible : (bs : List ℕ) → list_all is_visible (flat_map hex_escaped_in_text bs) ≡ true
text_is_visible [] = refl
text_is_visible (b ∷ bs) =
    list_all-visible_append (hex_escaped_in_text b) (flat_map hex_escaped_in_text bs) (hex_escaped_in_text-visible b)
    (text_is_visible bs)
