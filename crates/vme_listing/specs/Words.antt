-- The data of a write from the eight bytes of its text. Bytes that aren't such a text give some data, too.
use Rattle.std.specs.Prelude.{ℕ, Bool, not, ◌+◌, ◌-◌, ◌*◌, ◌%◌, ◌^◌, ◌==◌, ◌&&◌, List, [], ◌∷◌, nat_le, slice_index_or}
use Rattle.std.specs.Prelude.{if◌then◌else◌}
use Rattle.vme_trace.specs.declared.data.MovedBytes.{MovedBytes}
use Rattle.vme_trace.specs.declared.data.MovedBytes.TheVariants.{Nothing, OddByte, EvenByte, Word, LongWord}

-- 0 to 9 and A to F; any other byte counts as 0
abbrev pub digit_of : ℕ → ℕ
digit_of byte = if nat_le 48 byte && nat_le byte 57 then byte - 48 else if nat_le 65 byte
    && nat_le byte 70 then byte - 55 else 0

-- the number n with the digits of the word appended in base `base`, modulo 2^32
abbrev pub number_after : ℕ → ℕ → List ℕ → ℕ
number_after base n [] = n
number_after base n (byte ∷ word) = number_after base ((n * base % 2 ^ 32 + digit_of byte) % 2 ^ 32) word

-- the number that the word is in base `base`, modulo 2^32
unfoldable pub number_of : ℕ → List ℕ → ℕ
number_of base word = number_after base 0 word

-- X is 1; any other byte counts as 0
abbrev pub flag_of : ℕ → ℕ
flag_of byte = if byte == 88 then 1 else 0

-- the bits n with those of the word's bytes appended, modulo 2^8
abbrev pub flags_after : ℕ → List ℕ → ℕ
flags_after n [] = n
flags_after n (byte ∷ word) = flags_after (n * 2 % 256 + flag_of byte) word

-- a bit for each byte of the word, 1 for X, modulo 2^8; bit 0 is that of the last byte
unfoldable pub flags_of : List ℕ → ℕ
flags_of word = flags_after 0 word

-- the word has a byte at `place`, and it isn't a hyphen
abbrev pub is_shown : List ℕ → ℕ → Bool
is_shown word place = not (slice_index_or word place 45 == 45)

-- which bytes of the data bus are moved, by where the word has hyphens
unfoldable pub moved_of : List ℕ → MovedBytes
moved_of word =
    if is_shown word 0 then LongWord
    else if is_shown word 5 then (if is_shown word 7 then Word else EvenByte)
    else if is_shown word 7 then OddByte
    else Nothing
