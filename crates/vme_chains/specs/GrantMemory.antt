-- The memories of the grant monitor (states of its automaton), by number.
use Rattle.std.proofs.Common.{◌≡◌, ℕ, ◌+◌, ◌*◌, ◌/◌, ◌%◌, ◌<◌, ◌≤◌, Bool, true, false, refl, ap, arith}
use Rattle.std.specs.Prelude.{◌==◌, ◌||◌, if◌then◌else◌}
use Rattle.vme_chains.specs.declared.grant_memory.LevelSet.{LevelSet}
use Rattle.vme_chains.specs.declared.grant_memory.Arbitration.{Arbitration}

-- a level, 0 to 3, is in the set
abbrev pub is_in : LevelSet → ℕ → Bool
is_in s n = if n == 0 then s.zero else if n == 1 then s.one else if n == 2 then s.two else if n == 3 then s.three
    else false

-- the levels of either set
abbrev pub union : LevelSet → LevelSet → LevelSet
union a b = record { zero = a.zero || b.zero; one = a.one || b.one; two = a.two || b.two; three = a.three || b.three }

-- a truth value as a binary digit
abbrev pub bit_of : Bool → ℕ
bit_of b = if b then 1 else 0

-- the last binary digit of k is 1
abbrev pub is_odd : ℕ → Bool
is_odd k = k % 2 == 1

-- the truth values as the binary digits of a number
abbrev pub set_place : LevelSet → ℕ
set_place s = bit_of s.zero + 2 * (bit_of s.one + 2 * (bit_of s.two + 2 * bit_of s.three))

-- the set whose truth values are the binary digits of k
abbrev pub set_nth : ℕ → LevelSet
set_nth k = record { zero = is_odd k; one = is_odd (k / 2); two = is_odd (k / 2 / 2); three = is_odd (k / 2 / 2 / 2) }

-- the number of a memory
abbrev pub arbitration_place : Arbitration → ℕ
arbitration_place m = bit_of m.granted + 2 * set_place m.requests

-- the memory with a number
abbrev pub arbitration_nth : ℕ → Arbitration
arbitration_nth k = record { requests = set_nth (k / 2); granted = is_odd k }

bit_small : (b : Bool) → bit_of b ≤ 1
bit_small true = omega arith
bit_small false = omega arith

-- each place is below 32
pub arbitration_placed : (m : Arbitration) → arbitration_place m < 32
arbitration_placed m = below _ _ _ _ _ (bit_small m.granted) (bit_small m.requests.zero) (bit_small m.requests.one)
    (bit_small m.requests.two) (bit_small m.requests.three)
  where
    below : (g a b c d : ℕ) → g ≤ 1 → a ≤ 1 → b ≤ 1 → c ≤ 1 → d ≤ 1 → g + 2 * (a + 2 * (b + 2 * (c + 2 * d))) < 32
    below g a b c d hg ha hb hc hd = omega arith

half_is : (b : Bool) (k : ℕ) → (bit_of b + 2 * k) / 2 ≡ k
half_is true k = omega arith
half_is false k = omega arith

odd_is : (b : Bool) (k : ℕ) → is_odd (bit_of b + 2 * k) ≡ b
odd_is true k = ap (λ r. r == 1) (rest k)
  where
    rest : (k : ℕ) → (1 + 2 * k) % 2 ≡ 1
    rest k = omega arith
odd_is false k = ap (λ r. r == 1) (rest k)
  where
    rest : (k : ℕ) → (0 + 2 * k) % 2 ≡ 0
    rest k = omega arith

last_is : (b : Bool) → is_odd (bit_of b) ≡ b
last_is true = refl
last_is false = refl

set_found : (s : LevelSet) → set_nth (set_place s) ≡ s
set_found s =
    rw (
      odd_is s.zero (bit_of s.one + 2 * (bit_of s.two + 2 * bit_of s.three)),
      half_is s.zero (bit_of s.one + 2 * (bit_of s.two + 2 * bit_of s.three)),
      odd_is s.one (bit_of s.two + 2 * bit_of s.three),
      half_is s.one (bit_of s.two + 2 * bit_of s.three),
      odd_is s.two (bit_of s.three),
      half_is s.two (bit_of s.three),
      last_is s.three,
    ) refl

-- the memory at the place of a memory is that memory
pub arbitration_found : (m : Arbitration) → arbitration_nth (arbitration_place m) ≡ m
arbitration_found m = rw (
  half_is m.granted (set_place m.requests),
  odd_is m.granted
      (set_place m.requests),
  set_found m.requests,
) refl
