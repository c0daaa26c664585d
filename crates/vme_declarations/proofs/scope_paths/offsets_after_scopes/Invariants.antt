-- The scopes so far have their offsets.
use Rattle.std.proofs.Common.{◌≡◌, [], take}
use Rattle.std.specs.List.{fold}
use Rattle.vme_declarations.specs.Paths.{with_offset}
use Rattle.vme_declarations.proofs.scope_paths.offsets_after_scopes.Given as goal

abbrev pub invariant-loop-scope : goal.invariant-loop-scope
invariant-loop-scope l = l.offsets.items ≡ fold (with_offset l.declared l.path) [] (take l.scope-index l.scopes)
