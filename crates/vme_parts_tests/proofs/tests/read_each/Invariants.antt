use Rattle.std.specs.Prelude.{All}
use Rattle.vme_part_format.specs.Bounds.{FitsPart}
use Rattle.vme_part_format.specs.Tables.{part_value}
use Rattle.vme_part_format.specs.declared.part.Part.{Part}
use Rattle.vme_parts_tests.proofs.tests.read_each.Given as goal

abbrev pub invariant-loop-text : goal.invariant-loop-text
invariant-loop-text l = All (λ (p : Part). FitsPart (part_value p)) l.parts.items
