-- The scopes and the variables of a dump, without whole paths.
use Rattle.std.specs.Prelude.{ℕ, zero, suc, ◌+◌, ◌-◌, ◌^◌, ◌==◌, ◌&&◌, nat_le, min, if◌then◌else◌, Option, Some, None}
use Rattle.std.specs.Prelude.{List, [], ◌∷◌, ◌++◌, length, slice_get, slice_range}
use Rattle.vcd_read.specs.Scopes.{with_dot}
use Rattle.vme_declarations.specs.declared.declared.DeclaredNames.{DeclaredNames}
use Rattle.vme_declarations.specs.declared.declared.DeclaredVariable.{DeclaredVariable}
use Rattle.vme_declarations.specs.declared.declared.Scope.{Scope}

-- no place
abbrev pub nowhere : ℕ
nowhere = 2 ^ 64 - 1

-- the variables, in the order of their sections
abbrev pub variables : DeclaredNames → List DeclaredVariable
variables declared = declared.variables.items

-- the scopes
abbrev pub scopes : DeclaredNames → List Scope
scopes declared = declared.scopes.items

-- the part of `text` from `start` to `end`, or nothing where there is no such part
abbrev pub part_of : List ℕ → ℕ → ℕ → List ℕ
part_of text start end = if nat_le start end && nat_le end (length text) then slice_range text start end else []

-- the name of a variable, without its index
abbrev pub name_of : DeclaredNames → DeclaredVariable → List ℕ
name_of declared variable = part_of declared.names.items variable.start variable.end

-- the name of a scope
abbrev pub scope_name : DeclaredNames → Scope → List ℕ
scope_name declared scope = part_of declared.names.items scope.start scope.end

-- ---- bits

-- the number of a bit by the indices of the leftmost and the rightmost one, or by how many there are
abbrev pub number_by : Option (ℕ × ℕ) → ℕ → ℕ → ℕ
number_by None size place = size - place - 1
number_by (Some ends) size place = if nat_le ends.1 ends.0 then ends.0 - place else min (ends.0 + place) (2 ^ 32 - 1)

-- the number that a variable gives its bit at a place from the left
abbrev pub number_of_bit : DeclaredVariable → ℕ → ℕ
number_of_bit variable place = number_by variable.index variable.size place

-- ---- paths

-- the place of the scope around a scope, or `nowhere`
abbrev pub parent_in : Option Scope → ℕ
parent_in None = nowhere
parent_in (Some scope) = scope.parent

-- the place of the scope around the scope at a place, or `nowhere`
abbrev pub parent_of : DeclaredNames → ℕ → ℕ
parent_of declared place = parent_in (slice_get (scopes declared) place)

-- the name of a scope, or nothing if there is no scope
abbrev pub name_in : DeclaredNames → Option Scope → List ℕ
name_in declared None = []
name_in declared (Some scope) = scope_name declared scope

-- the name of the scope at a place, or nothing if there is no scope
abbrev pub name_at : DeclaredNames → ℕ → List ℕ
name_at declared place = name_in declared (slice_get (scopes declared) place)

-- the places of a scope and of the scopes around it, except the outermost, from this one outward; at most `n` places
unfoldable pub places_around : DeclaredNames → ℕ → ℕ → List ℕ
places_around declared zero place = []
places_around declared (suc n) place =
    if parent_of declared place == nowhere then []
    else place ∷ places_around declared n (parent_of declared place)

-- the path of a scope: the path of the scope around it, a dot, and its name; over at most `n` scopes
unfoldable pub path_within : DeclaredNames → ℕ → ℕ → List ℕ
path_within declared zero place = []
path_within declared (suc n) place =
    if parent_of declared place == nowhere then []
    else with_dot (path_within declared n (parent_of declared place)) ++ name_at declared place

-- the path of a scope
abbrev pub path_of : DeclaredNames → ℕ → List ℕ
path_of declared place = path_within declared (length (scopes declared)) place
