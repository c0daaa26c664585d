-- What is found of the variables that a binding names, as they are declared one after the other.
use Rattle.std.specs.Prelude.{◌≡◌, ℕ, ◌+◌, ◌&&◌, ◌==◌, if◌then◌else◌, List, [], ◌∷◌, length, map, min, drop, nat_eq}
use Rattle.std.specs.Prelude.{Option, Some, None, Result, Ok, Err}
use Rattle.std.specs.List.{starts_with}
use Rattle.vcd_read.specs.declared.dump.Variable.{Variable}
use Rattle.vcd_read.specs.Header.{◌>>=◌}
use Rattle.vcd_read.specs.Scopes.{path_in}
use Rattle.vme_bind.specs.declared.assignment.Assignment.{Assignment}
use Rattle.vme_bind.specs.declared.fault.BindFault.{BindFault}
use Rattle.vme_bind.specs.declared.fault.BindFaultKind.{BindFaultKind}
use Rattle.vme_bind.specs.declared.fault.BindFaultKind.TheVariants.{NoSuchPath, AmbiguousPath}
use Rattle.vme_bind.specs.declared.source.LevelSource.{LevelSource}
use Rattle.vme_bind.specs.declared.source.LevelSource.TheVariants.{Constant, Variable as Named}
use Rattle.vme_bind.specs.declared.path_search.PathMatch.{PathMatch}
use Rattle.vme_bind.specs.declared.path_search.PathMatch.TheVariants.{Nothing, Only, Several}
use Rattle.vme_bind.specs.declared.path_search.PathSearch.{PathSearch}
use Rattle.vme_bind.specs.declared.bound_groups.BitRange.{BitRange}
use Rattle.vme_bind.specs.declared.bound_groups.BoundGroup.{BoundGroup}
use Rattle.vme_bind.specs.declared.bound_groups.GroupSource.{GroupSource}
use Rattle.vme_bind.specs.declared.bound_groups.GroupSource.TheVariants.{Fixed}
use Rattle.vme_bind.specs.BoundGroups.{candidate, same_bits, source_by, bound_group_by}

-- ---- the only candidate

-- `found` with one candidate more, if there is one; candidates for the same bits count once
abbrev pub with_bits : PathMatch → Option BitRange → PathMatch
with_bits found None = found
with_bits Nothing (Some next) = Only next
with_bits (Only bits) (Some next) = if same_bits bits next then Only bits else Several
with_bits Several (Some next) = Several

-- the only candidate, or why there is none
abbrev pub only_found : PathMatch → Result BitRange BindFaultKind
only_found Nothing = Err NoSuchPath
only_found (Only bits) = Ok bits
only_found Several = Err AmbiguousPath

-- an assignment of a binding, and what is found of its variable
pub record Searched : Type 0 where
  pub assignment : Assignment
  pub found : PathMatch

-- the bits that the source of an assignment means of the variable v, if v has its path
abbrev pub candidate_of : LevelSource → Variable → Option BitRange
candidate_of (Constant level) v = None
candidate_of (Named named) v = candidate named v

-- what is found of one assignment after one variable more
abbrev pub with_candidate : Variable → Searched → Searched
with_candidate v s = record s { found = with_bits s.found (candidate_of s.assignment.source v) }

-- what is found of all assignments after one variable more
abbrev pub with_variable : List Searched → Variable → List Searched
with_variable seen v = map (with_candidate v) seen

-- an assignment of whose variable nothing is found yet
abbrev pub none_found : Assignment → Searched
none_found a = record { assignment = a; found = Nothing }

-- the assignment of a search, and what it has found
abbrev pub found_in : PathSearch → Searched
found_in s = record { assignment = s.assignment.now; found = s.found }

-- ---- the bound groups of what is found

-- where the levels of a group of `count` lines come from, or why they come from nowhere
abbrev pub source_of : ℕ → PathMatch → LevelSource → Result GroupSource BindFaultKind
source_of count found (Constant level) = Ok (Fixed level)
source_of count found (Named named) = source_by count (only_found found)

-- the bound group of an assignment: its lines, and where their levels come from
abbrev pub bound_group_of : Searched → Result BoundGroup BindFault
bound_group_of s = bound_group_by s.assignment (source_of s.assignment.group.count s.found s.assignment.source)

-- the bound groups of all assignments, or the first fault
unfoldable pub bound_groups_of : List Searched → Result (List BoundGroup) BindFault
bound_groups_of [] = Ok []
bound_groups_of (s ∷ seen) = do
  bound_group ← bound_group_of s
  bound_groups ← bound_groups_of seen
  Ok (bound_group ∷ bound_groups)

-- ---- the open scopes that a path begins with

-- the path to find; empty for a constant
abbrev pub path_to_find : LevelSource → List ℕ
path_to_find (Constant level) = []
path_to_find (Named named) = named.path

-- the number of open scopes, from the outermost, that `path` begins with
unfoldable pub scopes_matched : List ℕ → List (List ℕ) → ℕ
scopes_matched path [] = 0
scopes_matched path (name ∷ scopes) =
    if starts_with nat_eq path (path_in (name ∷ scopes)) then length scopes + 1 else scopes_matched path scopes

-- the search's `matched_scopes` is the number of the open `scopes` that its path begins with
abbrev pub HasOpened : List (List ℕ) → PathSearch → Type 0
HasOpened scopes s = s.matched_scopes ≡ scopes_matched (path_to_find s.assignment.now.source) scopes

-- How many scopes match after one is entered with `depth` scopes open around it. `part` is what it adds to the path,
-- from the offset `start` on.
abbrev pub matched_after : ℕ → ℕ → List ℕ → List ℕ → ℕ → ℕ
matched_after depth start part path matched_scopes = if matched_scopes == depth
    && starts_with nat_eq (drop start path) part then depth + 1 else matched_scopes

-- a scope opens, with `depth` scopes open around it; `part` is what it adds to the path, from the offset `start` on
abbrev pub opened : ℕ → ℕ → List ℕ → PathSearch → PathSearch
opened depth start part s = record s {
  matched_scopes = matched_after depth start part
      (path_to_find s.assignment.now.source) s.matched_scopes;
}

-- the innermost scope closes, which leaves `depth` scopes open
abbrev pub closed : ℕ → PathSearch → PathSearch
closed depth s = record s { matched_scopes = min s.matched_scopes depth }
