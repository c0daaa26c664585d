-- The groups so far are those of the lines so far that have a bit.
use Rattle.std.proofs.Common.{◌≡◌}
use Rattle.vme_declarations.specs.Found.{groups_below}
use Rattle.vme_declarations.proofs.found_lines.FoundLines.groups.Given as goal

abbrev pub invariant-loop-number : goal.invariant-loop-number
invariant-loop-number l = l.groups ≡ groups_below l.self l.number
