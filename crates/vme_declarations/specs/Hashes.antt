-- A hash of bytes, by Fowler, Noll and Vo.
use Rattle.std.specs.Prelude.{ℕ, ◌*◌, ◌%◌, ◌^◌, List, bit_xor, fold}

-- the hash of `number` after what has the hash `before`: by a prime, in 64 bits
abbrev pub hash_of_number : ℕ → ℕ → ℕ
hash_of_number before number = (bit_xor before number * 0x100_0000_01b3) % 2 ^ 64

-- the hash of `bytes` after what has the hash `before`
abbrev pub hash_of : ℕ → List ℕ → ℕ
hash_of before bytes = fold hash_of_number before bytes
