-- Codes as numbers: digits from 1 to 94, the least first.
use Rattle.std.specs.Prelude.{ℕ, ◌+◌, ◌-◌, ◌*◌, nat_le, ◌&&◌, if◌then◌else◌, List, [], ◌∷◌, length, Option, Some, None}
use Rattle.vcd_read.specs.Header.{is_code_byte, is_code}
use Rattle.vcd_read.specs.declared.code_index.CodePlace.{CodePlace}

-- the digit of a byte that may be in a code
abbrev pub digit : ℕ → Option ℕ
digit byte = if is_code_byte byte then Some (byte - 32) else None

-- the number of a code
abbrev pub code_number : List ℕ → ℕ
code_number [] = 0
code_number (byte ∷ code) = (byte - 32) + 94 * code_number code

-- the page of the bytes after the first, and the entry of the first byte on it
abbrev pub code_place : List ℕ → CodePlace
code_place [] = record { page = 0; entry = 0 }
code_place (byte ∷ code) = record { page = code_number code; entry = byte - 32 }

-- the place of a code of at most three bytes
abbrev pub short_place : List ℕ → Option CodePlace
short_place code = if nat_le (length code) 3 && is_code code then Some (code_place code) else None
