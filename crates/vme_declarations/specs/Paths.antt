-- The scopes that a path leads through.
use Rattle.std.specs.Prelude.{ℕ, ◌+◌, Bool, ◌==◌, ◌&&◌, if◌then◌else◌, Option, Some, None, nat_eq}
use Rattle.std.specs.Prelude.{List, [], ◌∷◌, ◌++◌, length, drop, fold, map, slice_get, slice_index}
use Rattle.std.specs.List.{starts_with}
use Rattle.vcd_read.specs.Scopes.{with_dot}
use Rattle.vme_declarations.specs.Names.{nowhere, scope_name, scopes}
use Rattle.vme_declarations.specs.declared.declared.DeclaredNames.{DeclaredNames}
use Rattle.vme_declarations.specs.declared.declared.Scope.{Scope}

-- the offset in `path` after `name` and a dot (46), if these begin at the offset `start`; else `nowhere`
abbrev pub offset_after_name : List ℕ → ℕ → List ℕ → ℕ
offset_after_name path start name =
    if starts_with nat_eq (drop start path) name && (slice_index (drop start path) (length name) == 46)
    then start + length name + 1
    else nowhere

-- the offset in `path` after `name` and a dot, if the scope around `name` has an offset
abbrev pub offset_after_name_at : List ℕ → List ℕ → Option ℕ → ℕ
offset_after_name_at path name None = nowhere
offset_after_name_at path name (Some start) = offset_after_name path start name

-- the offset in `path` after the path of `scope` and a dot, or `nowhere`. For the scope around all others it is 0.
-- `offsets` has the offsets of the scopes before it.
abbrev pub offset_after_scope : DeclaredNames → List ℕ → List ℕ → Scope → ℕ
offset_after_scope declared path offsets scope =
    if scope.parent == nowhere then 0
    else offset_after_name_at path (scope_name declared scope) (slice_get offsets scope.parent)

-- `offsets` with the offset of `scope`
abbrev pub with_offset : DeclaredNames → List ℕ → List ℕ → Scope → List ℕ
with_offset declared path offsets scope = offsets ++ offset_after_scope declared path offsets scope ∷ []

-- for each scope, the offset in `path` after the scope's own path and a dot, or `nowhere`
abbrev pub offsets_after_scopes : DeclaredNames → List ℕ → List ℕ
offsets_after_scopes declared path = fold (with_offset declared path) [] (scopes declared)

-- for each scope, whether its path is `path`
abbrev pub scopes_have_path : DeclaredNames → List ℕ → List Bool
scopes_have_path declared path =
    map (λ offset. offset == length (with_dot path)) (offsets_after_scopes declared (with_dot path))
