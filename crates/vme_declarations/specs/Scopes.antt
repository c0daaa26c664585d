-- The scopes of a dump.
use Rattle.std.specs.Prelude.{◌≡◌, ℕ, Bool, true, ◌||◌, List, Ok, nat_eq}
use Rattle.std.specs.List.{list_any, starts_with}
use Rattle.vcd_read.specs.Contents.{Contents}
use Rattle.vcd_read.specs.Meaning.{dump_of}
use Rattle.vcd_read.specs.Scopes.{with_dot}
use Rattle.vcd_read.specs.declared.dump.Variable.{Variable}

-- the path of `v` begins with `front`
abbrev pub path_begins : List ℕ → Variable → Bool
path_begins front v = starts_with nat_eq v.path front

-- some variable is in the scope `path`, or in a scope within it
abbrev pub has_scope : List ℕ → List Variable → Bool
has_scope path variables = list_any (path_begins (with_dot path)) variables

-- the text is a dump without a fault that has the scope
abbrev pub HasScope : List ℕ → List ℕ → Type 0
HasScope path text = (contents : Contents) × (dump_of text ≡ Ok contents) × (has_scope path contents.variables ≡ true)

-- ---- the search for a scope, as the variables are declared

-- what the path of a variable of the scope begins with, and whether one was found
pub record ScopeSought : Type 0 where
  pub front : List ℕ
  pub is_found : Bool

-- the search after the variable `v`
abbrev pub sought_in : ScopeSought → Variable → ScopeSought
sought_in s v = record s { is_found = s.is_found || path_begins s.front v }
