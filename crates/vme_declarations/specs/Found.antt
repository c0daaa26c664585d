-- Which bits were found for the lines of a backplane.
use Rattle.std.specs.Prelude.{ℕ, zero, suc, ◌+◌, Bool, false, ◌||◌, if◌then◌else◌, Option, None, is_some, bit_or}
use Rattle.std.specs.Prelude.{slice_index_or, slice_set}
use Rattle.vme_trace.specs.LineNumbers.{grant, iack, line_count}
use Rattle.vme_declarations.specs.Groups.{group_of}
use Rattle.vme_declarations.specs.declared.found_lines.FoundLines.{FoundLines}
use Rattle.vme_declarations.specs.declared.found_lines.VariableBit.{VariableBit}

-- the bit of a line
abbrev pub bit_of_line : FoundLines → ℕ → Option VariableBit
bit_of_line found line = slice_index_or found.bits_of_lines line None

-- the bit of a line moves
abbrev pub moves : FoundLines → ℕ → Bool
moves found line = slice_index_or found.moving line false

-- `found` with the bit of `line` set to `bit`
abbrev pub with_bit : FoundLines → ℕ → Option VariableBit → FoundLines
with_bit found line bit = record found { bits_of_lines = slice_set found.bits_of_lines line bit }

-- `found` with whether the bit of `line` moves set to `moving`
abbrev pub with_moving : FoundLines → ℕ → Bool → FoundLines
with_moving found line moving = record found { moving = slice_set found.moving line moving }

-- `groups` with the group of `line`, if the line has a bit
abbrev pub with_group : FoundLines → ℕ → ℕ → ℕ
with_group found line groups = if is_some (bit_of_line found line) then bit_or groups (group_of line) else groups

-- the groups of those lines below a number that have a bit
unfoldable pub groups_below : FoundLines → ℕ → ℕ
groups_below found zero = 0
groups_below found (suc line) = with_group found line (groups_below found line)

-- the groups of all lines that have a bit
abbrev pub groups : FoundLines → ℕ
groups found = groups_below found line_count

-- some net at `place` of a daisy chain has a bit
abbrev pub has_net : FoundLines → ℕ → Bool
has_net found place =
    is_some (bit_of_line found (grant 0 place)) || is_some (bit_of_line found (grant 1 place))
    || is_some (bit_of_line found (grant 2 place)) || is_some (bit_of_line found (grant 3 place))
    || is_some (bit_of_line found (iack place))

-- the greatest place up to this one at which a net has a bit, or 1
unfoldable pub slots_to : FoundLines → ℕ → ℕ
slots_to found zero = 1
slots_to found (suc before) = if has_net found (before + 1) then before + 1 else slots_to found before

-- how many slots the daisy chains show, of 21 at most
abbrev pub slots : FoundLines → ℕ
slots found = slots_to found 21
