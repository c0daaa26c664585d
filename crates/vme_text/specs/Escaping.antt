-- Bytes as they are escaped in text for people.
use Rattle.std.specs.Prelude.{◌≡◌, ℕ, ◌/◌, ◌%◌, Bool, true, ◌&&◌, ◌||◌, ◌==◌, ◌∷◌, [], List, nat_le, if◌then◌else◌}
use Rattle.std.specs.Fmt.{digit_glyph}
use Rattle.std.specs.List.{list_all}

-- a space or a visible character as it is; any other byte as a backslash, an x and its last two digits in base 16
abbrev pub hex_escaped_byte : ℕ → List ℕ
hex_escaped_byte b =
    if nat_le 32 b && nat_le b 126 then b ∷ []
    else 92 ∷ 120 ∷ digit_glyph true (b / 16 % 16) ∷ digit_glyph true (b % 16) ∷ []

-- a byte in a text of several lines: a line feed as it is, any other byte escaped
abbrev pub hex_escaped_in_text : ℕ → List ℕ
hex_escaped_in_text b = if b == 10 then b ∷ [] else hex_escaped_byte b

-- a byte is a space, a visible character or a line feed
abbrev pub is_visible : ℕ → Bool
is_visible b = (nat_le 32 b && nat_le b 126) || b == 10

-- each byte of the text is a space, a visible character or a line feed
abbrev pub IsVisible : List ℕ → Type 0
IsVisible text = list_all is_visible text ≡ true
