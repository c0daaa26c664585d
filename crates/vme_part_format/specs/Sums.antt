-- The checksum of bytes: FNV-1a of 64 bits.
use Rattle.std.specs.Prelude.{◌≡◌, ◌≢◌, ℕ, ◌*◌, ◌%◌, ◌^◌, ◌<◌, List, ◌∷◌, ◌++◌}
use Rattle.std.specs.List.{fold}
use Rattle.std.specs.Int.Bits.{bit_xor}

-- the offset basis of FNV-1a: the sum of no bytes
abbrev pub offset_basis : ℕ
offset_basis = 14695981039346656037

-- the prime of FNV-1a
abbrev pub fnv_prime : ℕ
fnv_prime = 1099511628211

-- the sum of some bytes and then `byte`; the sum of those bytes is `sum`
abbrev pub summed : ℕ → ℕ → ℕ
summed sum byte = (bit_xor sum byte * fnv_prime) % 2 ^ 64

-- the sum of bytes
abbrev pub sum_of : List ℕ → ℕ
sum_of bytes = fold summed offset_basis bytes

-- `bytes` and `others` have the same length, and differ in one byte
pub record DifferInOne (bytes others : List ℕ) : Type 0 where
  pub front : List ℕ
  pub one : ℕ
  pub other : ℕ
  pub back : List ℕ
  pub bytes-are : bytes ≡ front ++ one ∷ back
  pub others-are : others ≡ front ++ other ∷ back
  pub byte : other < 256
  pub apart : one ≢ other
