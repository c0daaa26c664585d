-- What the levels at the fall of the address strobe determine: the class of the cycle, and the lines
-- that it needs.
use Rattle.std.specs.Prelude.{ℕ, Bool, true, false, not, ◌==◌, ◌+◌, ◌*◌, ◌&&◌, ◌||◌, List, [], ◌∷◌, nat_le}
use Rattle.std.specs.Prelude.{Option, None, Some, if◌then◌else◌}
use Rattle.std.specs.List.{list_any}
use Rattle.vme_trace.specs.Instants.{every}
use Rattle.vme_trace.specs.LineNumbers.{AM, A, IACK, LWORD}
use Rattle.vme_trace.specs.Levels.{Levels, level_at, is_low, is_high_on, is_known_on}
use Rattle.vme_trace.specs.declared.class.Class.{Class}
use Rattle.vme_trace.specs.declared.class.Class.TheVariants as class
use Rattle.vme_trace.specs.declared.cycle.Space.{Space}
use Rattle.vme_trace.specs.declared.cycle.Space.TheVariants.{Short, Standard, Extended}

-- the weight of bit n of the address modifier code, a high line being 1
abbrev pub modifier_bit : Levels → ℕ → ℕ
modifier_bit v n = if is_high_on v (AM n) then 1 else 0

-- the address modifier code
unfoldable pub modifier_of : Levels → ℕ
modifier_of v = modifier_bit v 0 + 2 * modifier_bit v 1 + 4 * modifier_bit v 2 + 8 * modifier_bit v 3
    + 16 * modifier_bit v 4 + 32 * modifier_bit v 5

-- the code is one of `codes`
abbrev pub is_among : List ℕ → ℕ → Bool
is_among codes code = list_any (λ c. c == code) codes

-- a code of the extended space, whose addresses have 32 bits
abbrev pub is_extended : ℕ → Bool
is_extended code = is_among (0x09 ∷ 0x0A ∷ 0x0B ∷ 0x0D ∷ 0x0E ∷ 0x0F ∷ []) code

-- a code of the standard space, whose addresses have 24 bits
abbrev pub is_standard : ℕ → Bool
is_standard code = is_among (0x39 ∷ 0x3A ∷ 0x3B ∷ 0x3D ∷ 0x3E ∷ 0x3F ∷ []) code

-- a code of the short space, whose addresses have 16 bits
abbrev pub is_short : ℕ → Bool
is_short code = is_among (0x29 ∷ 0x2D ∷ []) code

-- a code of block transfers
abbrev pub is_block : ℕ → Bool
is_block code = is_among (0x0B ∷ 0x0F ∷ 0x3B ∷ 0x3F ∷ []) code

-- the number of the highest address line that is meaningful in a space, or 0 without a space
abbrev pub highest_in : Option Space → ℕ
highest_in None = 0
highest_in (Some Short) = 15
highest_in (Some Standard) = 23
highest_in (Some Extended) = 31

-- the number of the highest address line that is meaningful with a code, or 0 where none is
unfoldable pub highest_address : ℕ → ℕ
highest_address code = if is_extended code then 31 else if is_standard code then 23 else if is_short code then 15 else 0

-- bit n of the address modifier is known
abbrev pub is_modifier_bit_known : Levels → ℕ → Bool
is_modifier_bit_known v n = is_known_on v (AM n)

-- each bit of the address modifier is known
abbrev pub has_known_modifier : Levels → Bool
has_known_modifier v = every (is_modifier_bit_known v) 0 6

-- the class of a cycle: I where IACK is low; else F where the code is unknown or of no space; else K where the code is
-- of block transfers, and S where it isn't
unfoldable pub class_of : Levels → Class
class_of v =
    if is_low (level_at v IACK) then class.I
    else if not (has_known_modifier v) then class.F
    else if is_block (modifier_of v) then class.K
    else if highest_address (modifier_of v) == 0 then class.F
    else class.S

-- a set of lines: IACK; the address lines from 1 to `highest`, none where that is 0; and, where `modifier` is true,
-- the address modifier and LWORD
pub record Needs : Type 0 where
  pub modifier : Bool
  pub highest : ℕ

-- the line is one of the set
abbrev pub is_within : Needs → ℕ → Bool
is_within needs l =
    (l == IACK)
    || (needs.modifier && ((nat_le (AM 0) l && nat_le l (AM 5)) || (l == LWORD)))
    || (nat_le (A 1) l && nat_le l (A needs.highest))

-- the lines that a cycle needs, by its class
unfoldable pub needs_of : Levels → Needs
needs_of v = by_class (class_of v)
  where
    by_class : Class → Needs
    by_class class.I = record { modifier = false; highest = 3 }
    by_class class.F = record { modifier = true; highest = 0 }
    by_class class.S = record { modifier = true; highest = highest_address (modifier_of v) }
    by_class class.K = record { modifier = true; highest = highest_address (modifier_of v) }

-- the lines that stay valid from the fall of the address strobe to the first answer
unfoldable pub is_needed : Levels → ℕ → Bool
is_needed v l = is_within (needs_of v) l
