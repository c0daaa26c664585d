-- The slots so far are those that the nets so far show.
use Rattle.std.proofs.Common.{◌≡◌}
use Rattle.vme_declarations.specs.Found.{slots_to}
use Rattle.vme_declarations.proofs.found_lines.FoundLines.slots.Given as goal

abbrev pub invariant-loop-before : goal.invariant-loop-before
invariant-loop-before l = l.slots ≡ slots_to l.self l.before
