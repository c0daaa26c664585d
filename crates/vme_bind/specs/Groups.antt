-- The lines that a name denotes.
use Rattle.std.specs.Prelude.{ℕ, ◌+◌, Bool, ◌&&◌, nat_le, nat_lt, if◌then◌else◌, List, codes, bytes_eq, Option, Some}
use Rattle.std.specs.Prelude.{None, option_and_then}
use Rattle.vme_trace.specs.LineNumbers.{AM, A, BR, D, grant, iack, SYSRESET, has_line}
use Rattle.vme_trace.specs.Names.{line_named}
use Rattle.vme_bind.specs.declared.group.Group.{Group}

-- `count` lines, from `first` down
abbrev pub down_from : ℕ → ℕ → Group
down_from first count = record { first = first; count = count }

-- the data lines
abbrev pub data_group : Group
data_group = down_from (D 31) 32

-- the system reset
abbrev pub reset_group : Group
reset_group = down_from SYSRESET 1

-- the group holds the line
abbrev pub holds : Group → ℕ → Bool
holds g l = nat_le l g.first && nat_lt g.first (l + g.count)

-- two groups have a line in common
abbrev pub share : Group → Group → Bool
share g h = nat_lt g.first (h.first + g.count) && nat_lt h.first (g.first + h.count)

-- the group of the line `l` alone, if a backplane of `slots` slots has it
abbrev pub single : ℕ → ℕ → Option Group
single slots l = if has_line slots l then Some (down_from l 1) else None

-- the lines that `name` denotes on a backplane of `slots` slots, if they are several, or else `other`
abbrev pub several_or : ℕ → List ℕ → Option Group → Option Group
several_or slots name other =
    if bytes_eq name (codes "AM") then Some (down_from (AM 5) 6)
    else if bytes_eq name (codes "A") then Some (down_from (A 31) 31)
    else if bytes_eq name (codes "BR") then Some (down_from (BR 3) 4)
    else if bytes_eq name (codes "BG0") then Some (down_from (grant 0 slots) (slots + 1))
    else if bytes_eq name (codes "BG1") then Some (down_from (grant 1 slots) (slots + 1))
    else if bytes_eq name (codes "BG2") then Some (down_from (grant 2 slots) (slots + 1))
    else if bytes_eq name (codes "BG3") then Some (down_from (grant 3 slots) (slots + 1))
    else if bytes_eq name (codes "IA") then Some (down_from (iack slots) slots)
    else if bytes_eq name (codes "D") then Some data_group
    else other

-- the lines that `name` denotes on a backplane of `slots` slots
abbrev pub group_named : ℕ → List ℕ → Option Group
group_named slots name = several_or slots name (option_and_then (single slots) (line_named name))
