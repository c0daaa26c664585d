-- The places so far, and those that are still to be found, are all places around the scope.
use Rattle.std.proofs.Common.{◌≡◌, ◌-◌, ◌++◌, length}
use Rattle.vme_declarations.specs.Names.{places_around, scopes}
use Rattle.vme_declarations.proofs.declared.DeclaredNames.places_around.Given as goal

abbrev pub invariant-loop-passed : goal.invariant-loop-passed
invariant-loop-passed l = l.around.items ++ places_around l.self (length (scopes l.self) - l.passed) l.at
    ≡ places_around l.self (length (scopes l.self)) l.place
