-- The bits of a dump that the lines of a backplane are bound to.
use Rattle.std.specs.Prelude.{ℕ, ◌+◌, ◌-◌, Bool, ◌&&◌, ◌||◌, ◌==◌, nat_le, max, min, if◌then◌else◌, List, [], ◌∷◌}
use Rattle.std.specs.Prelude.{bytes_eq, Option, Some, None, option_and_then, Result, Ok, Err}
use Rattle.std.specs.List.{filter_map, list_all}
use Rattle.vme_trace.specs.LineNumbers.{has_line}
use Rattle.vcd_read.specs.declared.dump.Variable.{Variable}
use Rattle.vcd_read.specs.Header.{◌>>=◌}
use Rattle.vme_bind.specs.declared.assignment.Assignment.{Assignment}
use Rattle.vme_bind.specs.declared.fault.BindFault.{BindFault}
use Rattle.vme_bind.specs.declared.fault.BindFaultKind.{BindFaultKind}
use Rattle.vme_bind.specs.declared.fault.BindFaultKind.TheVariants.{NoSuchPath, AmbiguousPath, WrongWidth}
use Rattle.vme_bind.specs.declared.source.LevelSource.{LevelSource}
use Rattle.vme_bind.specs.declared.source.LevelSource.TheVariants.{Constant, Variable as Named}
use Rattle.vme_bind.specs.declared.source.VariableSelector.{VariableSelector}
use Rattle.vme_bind.specs.declared.bound_groups.BitRange.{BitRange}
use Rattle.vme_bind.specs.declared.bound_groups.BoundGroup.{BoundGroup}
use Rattle.vme_bind.specs.declared.bound_groups.GroupSource.{GroupSource}
use Rattle.vme_bind.specs.declared.bound_groups.GroupSource.TheVariants.{Fixed, Bits}
use Rattle.vme_bind.specs.declared.bound_groups.LineSource.{LineSource}
use Rattle.vme_bind.specs.declared.bound_groups.LineSource.TheVariants.{Always, Bit}
use Rattle.vme_bind.specs.Answers.{at_line}
use Rattle.vme_bind.specs.Groups.{holds}

-- ---- the bits that a source names

-- how far two indices are from each other
abbrev pub distance : ℕ → ℕ → ℕ
distance m l = max m l - min m l

-- an index holds both ends of a selection, in the same direction
abbrev pub selects : ℕ × ℕ → ℕ × ℕ → Bool
selects index selection =
    (nat_le selection.0 index.0 && nat_le selection.1 selection.0 && nat_le index.1 selection.1)
    || (nat_le index.0 selection.0 && nat_le selection.0 selection.1 && nat_le selection.1 index.1)

-- `count` bits of a net, from index `first` on, where the leftmost has index 0
abbrev pub bit_range : ℕ → ℕ → ℕ → BitRange
bit_range net first count = record { net = net; first = first; count = count }

-- the bits of a net that a selection selects by an index, if the index holds it in the same direction
abbrev pub selected : ℕ → ℕ × ℕ → ℕ × ℕ → Option BitRange
selected net selection index =
    if selects index selection then Some (bit_range net (distance index.0 selection.0)
    (distance selection.0 selection.1 + 1)) else None

-- the bits of `net` that a selection selects of a variable with `size` and `index`: all, where there is no selection
abbrev pub bits_meant : Option (ℕ × ℕ) → ℕ → ℕ → Option (ℕ × ℕ) → Option BitRange
bits_meant None net size index = Some (bit_range net 0 size)
bits_meant (Some selection) net size index = option_and_then (selected net selection) index

-- the bits of the variable `v` that `named` selects, if `v` has its path
abbrev pub candidate : VariableSelector → Variable → Option BitRange
candidate named v = if bytes_eq v.path named.path then bits_meant named.selection v.net v.size v.index else None

-- both are the same bits
abbrev pub same_bits : BitRange → BitRange → Bool
same_bits a b = a.net == b.net && a.first == b.first && a.count == b.count

-- the bits of all candidates, if they are the same bits
abbrev pub only : List BitRange → Result BitRange BindFaultKind
only [] = Err NoSuchPath
only (bits ∷ others) = if list_all (same_bits bits) others then Ok bits else Err AmbiguousPath

-- the bits, if they are `count` bits
abbrev pub as_wide_as : ℕ → BitRange → Result BitRange BindFaultKind
as_wide_as count bits = if bits.count == count then Ok bits else Err WrongWidth

-- ---- the bound groups of a binding

-- the bits `found` as the source of `count` lines, if they are as many
abbrev pub source_by : ℕ → Result BitRange BindFaultKind → Result GroupSource BindFaultKind
source_by count found = do
  bits ← found
  fitting ← as_wide_as count bits
  Ok (Bits fitting)

-- where the levels of a group of `count` lines come from, among these variables, or why they come from nowhere
abbrev pub source_in : List Variable → ℕ → LevelSource → Result GroupSource BindFaultKind
source_in variables count (Constant level) = Ok (Fixed level)
source_in variables count (Named named) = source_by count (only (filter_map (candidate named) variables))

-- the group of an assignment with its source, or a fault at the line of the assignment
abbrev pub bound_group_by : Assignment → Result GroupSource BindFaultKind → Result BoundGroup BindFault
bound_group_by a r = at_line a.line r >>= λ source. Ok (record { group = a.group; source = source })

-- the bound group of an assignment, among these variables
abbrev pub bound_group_in : List Variable → Assignment → Result BoundGroup BindFault
bound_group_in variables a = bound_group_by a (source_in variables a.group.count a.source)

-- the bound groups of all assignments, or the first fault
unfoldable pub bound_groups_in : List Variable → List Assignment → Result (List BoundGroup) BindFault
bound_groups_in variables [] = Ok []
bound_groups_in variables (a ∷ as') = do
  bound_group ← bound_group_in variables a
  bound_groups ← bound_groups_in variables as'
  Ok (bound_group ∷ bound_groups)

-- ---- where the level of one line comes from

-- the source of the line at `place` in a group; the first line has the leftmost bit
abbrev pub source_on : ℕ → GroupSource → LineSource
source_on place (Fixed level) = Always level
source_on place (Bits bits) = Bit (record { net = bits.net; place = bits.first + place })

-- the source of the line l, by the first group that holds it
abbrev pub bound_group_source : List BoundGroup → ℕ → Option LineSource
bound_group_source [] l = None
bound_group_source (w ∷ bound_groups) l = if holds w.group l then Some
    (source_on (w.group.first - l) w.source) else bound_group_source bound_groups l

-- the source of the line `l`, if a backplane of `slots` slots has the line
abbrev pub line_source : ℕ → List BoundGroup → ℕ → Option LineSource
line_source slots bound_groups l = if has_line slots l then bound_group_source bound_groups l else None
