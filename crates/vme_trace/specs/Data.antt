-- The data lines that a transfer moves.
use Rattle.std.specs.Prelude.{ℕ, Bool, ◌&&◌, ◌||◌, nat_le}
use Rattle.vme_trace.specs.LineNumbers.{DS0, DS1, LWORD, A, D, is_data}
use Rattle.vme_trace.specs.Levels.{Levels, level_at, is_low, is_high}

-- a data line of the odd byte, which DS0* strobes, or of the even byte, which DS1* strobes
abbrev pub is_odd_byte : ℕ → Bool
is_odd_byte l = nat_le (D 0) l && nat_le l (D 7)

-- a data line of the even byte, which DS1* strobes
abbrev pub is_even_byte : ℕ → Bool
is_even_byte l = nat_le (D 8) l && nat_le l (D 15)

-- the long word line is high, the line belongs to one of these bytes, and the strobe of that byte is low
abbrev pub moves_byte : Levels → ℕ → Bool
moves_byte v l = is_high (level_at v LWORD) && ((is_low (level_at v DS0) && is_odd_byte l)
    || (is_low (level_at v DS1) && is_even_byte l))

-- a long word is moved, and the line is a data line
abbrev pub moves_long_word : Levels → ℕ → Bool
moves_long_word v l = is_low (level_at v LWORD) && is_low (level_at v (A 1)) && is_low (level_at v DS0)
    && is_low (level_at v DS1) && is_data l

-- a transfer at these levels moves the line
unfoldable pub is_selected : Levels → ℕ → Bool
is_selected v l = moves_byte v l || moves_long_word v l
