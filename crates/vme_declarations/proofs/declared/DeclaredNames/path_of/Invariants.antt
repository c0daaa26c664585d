-- The path so far has the names at the places so far.
use Rattle.std.proofs.Common.{◌≡◌, [], take}
use Rattle.std.specs.List.{fold}
use Rattle.vme_declarations.proofs.PathLemmas.{with_name_at}
use Rattle.vme_declarations.proofs.declared.DeclaredNames.path_of.Given as goal

abbrev pub invariant-loop-at : goal.invariant-loop-at
invariant-loop-at l = l.path.items ≡ fold (with_name_at l.self) [] (take l.at-index l.at-items)
