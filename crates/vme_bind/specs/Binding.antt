-- The binding that a text says.
use Rattle.std.specs.Prelude.{ℕ, ◌+◌, ◌-◌, ◌*◌, Bool, not, ◌&&◌, nat_le, if◌then◌else◌, List, [], ◌∷◌, ◌++◌, codes}
use Rattle.std.specs.Prelude.{bytes_eq, Option, Some, None, Result, Ok, Err}
use Rattle.std.specs.List.{list_any}
use Rattle.vme_trace.specs.Instants.{least}
use Rattle.vme_trace.specs.LineNumbers.{line_count, has_line}
use Rattle.vcd_read.specs.Header.{◌>>=◌}
use Rattle.vme_bind.specs.declared.assignment.Assignment.{Assignment}
use Rattle.vme_bind.specs.declared.fault.BindFault.{BindFault}
use Rattle.vme_bind.specs.declared.fault.BindFaultKind.{BindFaultKind}
use Rattle.vme_bind.specs.declared.fault.BindFaultKind.TheVariants.{BadLine, SlotsFirst, UnknownName, NamedTwice}
use Rattle.vme_bind.specs.declared.fault.BindFaultKind.TheVariants.{Unbound}
use Rattle.vme_bind.specs.declared.group.Group.{Group}
use Rattle.vme_bind.specs.Answers.{at_line}
use Rattle.vme_bind.specs.Text.{StatementText, statements_of, end_line}
use Rattle.vme_bind.specs.Groups.{data_group, reset_group, holds, share, group_named}
use Rattle.vme_bind.specs.Sources.{source_of}

-- how many slots the backplane has, and what its lines are bound to, in the order of the text
pub record BoundLines : Type 0 where
  pub slots : ℕ
  pub assignments : List Assignment

-- ---- the number of slots

-- a decimal digit
abbrev pub is_digit : ℕ → Bool
is_digit b = nat_le 48 b && nat_le b 57

-- one digit or two, the first not 0: 1 to 21
abbrev pub slot_count : List ℕ → Option ℕ
slot_count (d ∷ []) = if is_digit d && nat_le 49 d then Some (d - 48) else None
slot_count (t ∷ d ∷ []) = if is_digit t && nat_le 49 t && is_digit d
    && nat_le ((t - 48) * 10 + (d - 48)) 21 then Some ((t - 48) * 10 + (d - 48)) else None
slot_count word = None

-- the number of slots, if the word is one
abbrev pub counted : Option ℕ → Result ℕ BindFaultKind
counted None = Err SlotsFirst
counted (Some slots) = Ok slots

-- the number of slots that the first statement says, by its words
abbrev pub slots_stated : List ℕ → List (List ℕ) → Result ℕ BindFaultKind
slots_stated first (count ∷ []) = if bytes_eq first (codes "slots") then counted (slot_count count) else Err SlotsFirst
slots_stated first others = Err SlotsFirst

-- ---- an assignment

-- the name before the equals sign of a statement, and the source after it
abbrev pub name_and_source : List ℕ → List (List ℕ) → Result (List ℕ × List ℕ) BindFaultKind
name_and_source name (equals ∷ source ∷ []) = if bytes_eq equals (codes "=") then Ok (name, source) else Err BadLine
name_and_source name others = Err BadLine

-- the group that a name means, if it means one
abbrev pub group_of : Option Group → Result Group BindFaultKind
group_of None = Err UnknownName
group_of (Some group) = Ok group

-- some line of the group is bound before
abbrev pub is_taken : List Assignment → Group → Bool
is_taken assignments group = list_any (λ (a : Assignment). share a.group group) assignments

-- the group, if none of its lines is bound before
abbrev pub once : List Assignment → Group → Result Group BindFaultKind
once assignments group = if is_taken assignments group then Err NamedTwice else Ok group

-- one more assignment, of a statement on this line
abbrev pub with_assignment : BoundLines → ℕ → Group → List ℕ → BoundLines
with_assignment b line group source =
    record b { assignments = b.assignments ++ record { line = line; group = group; source = source_of source } ∷ [] }

-- the binding with the assignment of a statement, or the statement's fault
abbrev pub bound : BoundLines → StatementText → Result BoundLines BindFaultKind
bound b s = do
  words ← name_and_source s.first s.others
  group ← group_of (group_named b.slots words.0)
  new ← once b.assignments group
  Ok (with_assignment b s.line new words.1)

-- the binding with the assignments of all statements, or the first fault
unfoldable pub bound_all : BoundLines → List StatementText → Result BoundLines BindFault
bound_all b [] = Ok b
bound_all b (s ∷ ss) = do
  next ← at_line s.line (bound b s)
  bound_all next ss

-- ---- the whole text

-- some assignment binds the line l
abbrev pub is_bound : List Assignment → ℕ → Bool
is_bound assignments l = list_any (λ (a : Assignment). holds a.group l) assignments

-- the line of the backplane with the least number that isn't bound
abbrev pub least_unbound : BoundLines → Option ℕ
least_unbound b = least (λ l. has_line b.slots l && not (is_bound b.assignments l)) 0 line_count

-- the binding, or the fault at `line` that the line l isn't bound
abbrev pub unless_unbound : ℕ → BoundLines → Option ℕ → Result BoundLines BindFault
unless_unbound line b None = Ok b
unless_unbound line b (Some l) = Err (record { line = line; kind = Unbound l })

-- the binding `b`, if it binds each line of the backplane; else the fault is at `line`, the last line of the text
abbrev pub all_bound : ℕ → BoundLines → Result BoundLines BindFault
all_bound line b = unless_unbound line b (least_unbound b)

-- binds `group` to a constant high, unless a line of it is bound; `line` is the last line of the text
abbrev pub with_high : ℕ → Group → BoundLines → BoundLines
with_high line group b = if is_taken b.assignments group then b else with_assignment b line group (codes "1")

-- binds the data lines and the system reset, where the text leaves them out
abbrev pub with_left_out : ℕ → BoundLines → BoundLines
with_left_out line b = with_high line reset_group (with_high line data_group b)

-- binds the lines that may be left out; each other line has to be bound
abbrev pub finished : ℕ → BoundLines → Result BoundLines BindFault
finished line b = all_bound line (with_left_out line b)

-- the binding before any assignment
abbrev pub no_assignments : ℕ → BoundLines
no_assignments slots = record { slots = slots; assignments = [] }

-- the binding that these statements say, or the first fault; `line` is the last line of the text
abbrev pub binding_from : ℕ → List StatementText → Result BoundLines BindFault
binding_from line [] = Err (record { line = line; kind = SlotsFirst })
binding_from line (s ∷ ss) = do
  slots ← at_line s.line (slots_stated s.first s.others)
  b ← bound_all (no_assignments slots) ss
  finished line b

-- the binding that a text says, or else its first fault
unfoldable pub binding_of : List ℕ → Result BoundLines BindFault
binding_of text = binding_from (end_line text) (statements_of text)
