-- The digits of a modifier code and of an address suffice for their values.
use Rattle.std.proofs.Common.{◌≡◌, ◌==◌, ℕ, ◌+◌, ◌/◌, ◌^◌, ◌<◌, Bool, true, false, not, ◌&&◌, ◌⊎◌, inl, inr, refl, sym}
use Rattle.std.proofs.Common.{subst, arith}
use Rattle.std.specs.Prelude.{nat_lt, if◌then◌else◌}
use Rattle.std.proofs.lemmas.Bool.{and_parts, ltb-true}
use Rattle.std.proofs.lemmas.Bool.Decides.{nat_tests}
use Rattle.vme_trace.specs.Cycle.{highest_address, is_extended, is_standard, is_short}
use Rattle.vme_listing.specs.Places.{is_address}
use Rattle.vme_listing.specs.RowText.{address_digits}

-- a modifier code of the extended space is below 64
is_extended-below_64 : (modifier : ℕ) → is_extended modifier ≡ true → modifier < 64
is_extended-below_64 modifier h = grind (arith, nat_tests)

-- a modifier code of the standard space is below 64
is_standard-below_64 : (modifier : ℕ) → is_standard modifier ≡ true → modifier < 64
is_standard-below_64 modifier h = grind (arith, nat_tests)

-- a modifier code of the short space is below 64
is_short-below_64 : (modifier : ℕ) → is_short modifier ≡ true → modifier < 64
is_short-below_64 modifier h = grind (arith, nat_tests)

-- the modifier code is below 64, and the highest address line is that of a space: 31, 23 or 15
abbrev IsOfSpace : ℕ → ℕ → Type 0
IsOfSpace modifier highest = (modifier < 64) × ((highest ≡ 31) ⊎ ((highest ≡ 23) ⊎ (highest ≡ 15)))

-- a modifier code whose highest address line, by the tests for the three spaces, isn't 0 is of one of the spaces, with
-- that line
IsOfSpace-by_tests : (modifier : ℕ) (extended standard short : Bool) → is_extended modifier ≡ extended
    → is_standard modifier
    ≡ standard → is_short modifier ≡ short
    → not ((if extended then 31 else if standard then 23 else if short then 15 else 0) == 0) ≡ true
    → IsOfSpace modifier (if extended then 31 else if standard then 23 else if short then 15 else 0)
IsOfSpace-by_tests modifier true standard short e f g h = (is_extended-below_64 modifier e, inl refl)
IsOfSpace-by_tests modifier false true short e f g h = (is_standard-below_64 modifier f, inr (inl refl))
IsOfSpace-by_tests modifier false false true e f g h = (is_short-below_64 modifier g, inr (inr refl))
IsOfSpace-by_tests modifier false false false e f g h = absurd (cc)

-- a modifier code that makes address lines meaningful is one of the three spaces
IsOfSpace-of_modifier : (modifier : ℕ) → not (highest_address modifier == 0) ≡ true
    → IsOfSpace modifier (highest_address modifier)
unfolding highest_address
IsOfSpace-of_modifier modifier h = IsOfSpace-by_tests modifier (is_extended modifier) (is_standard modifier)
    (is_short modifier) refl refl refl h

-- the address fits in the digits of its space, and in 32 bits
abbrev FitsDigits : ℕ → ℕ → Type 0
FitsDigits address highest = (address < 16 ^ ((highest + 1) / 4)) × (address < 2 ^ 32)

-- an address fits the digits where the highest line is `highest`, if that is n, and it fits them where the highest line
-- is n
FitsDigits-at : (n highest address : ℕ) → highest ≡ n → (address < 2 ^ (n + 1) → FitsDigits address n)
    → address < 2 ^ (highest + 1) → FitsDigits address highest
FitsDigits-at n highest address e f below =
    subst (FitsDigits address) (sym e) (f (subst (λ h. address < 2 ^ (h + 1)) e below))

-- an address below 2^32 fits where the highest line is 31
FitsDigits-extended : (address : ℕ) → address < 2 ^ 32 → FitsDigits address 31
FitsDigits-extended address below = (below, below)

-- an address below 2^24 fits where the highest line is 23
FitsDigits-standard : (address : ℕ) → address < 2 ^ 24 → FitsDigits address 23
FitsDigits-standard address below = (below, omega arith)

-- an address below 2^16 fits where the highest line is 15
FitsDigits-short : (address : ℕ) → address < 2 ^ 16 → FitsDigits address 15
FitsDigits-short address below = (below, omega arith)

-- an address on the lines up to the highest of a space fits
FitsDigits-of_space : (highest address : ℕ) → (highest ≡ 31) ⊎ ((highest ≡ 23) ⊎ (highest ≡ 15))
    → address < 2 ^ (highest + 1)
    → FitsDigits address highest
FitsDigits-of_space highest address which below =
    elim which [
      | inl e ↦ FitsDigits-at 31 highest address e (FitsDigits-extended address) below
      | inr other ↦ elim other [
        | inl e ↦ FitsDigits-at 23 highest address e (FitsDigits-standard address) below
        | inr e ↦ FitsDigits-at 15
            highest address e (FitsDigits-short address) below
      ]
    ]

-- the modifier code fits in two digits in base 16, and the address in the digits of its space, and in 32 bits
pub record HasDigits (modifier address : ℕ) : Type 0 where
  pub modifier_below : modifier < 64
  pub address_below : address < 16 ^ address_digits modifier
  pub by_32_bits : address < 2 ^ 32

-- an address that a row may have with the modifier code fits
pub HasDigits-of_address : (modifier address : ℕ) → is_address modifier address ≡ true → HasDigits modifier address
HasDigits-of_address modifier address h =
    let front = and_parts (not (highest_address modifier == 0) && nat_lt address (2 ^ (highest_address modifier + 1))) _
    h in
    let parts = and_parts (not (highest_address modifier == 0)) (nat_lt address (2 ^ (highest_address modifier + 1)))
    front.0 in
    let at = IsOfSpace-of_modifier modifier parts.0 in
    let held = FitsDigits-of_space (highest_address modifier) address at.1
    (ltb-true address (2 ^ (highest_address modifier + 1))
    parts.1) in
    record { modifier_below = at.0; address_below = held.0; by_32_bits = held.1 }
