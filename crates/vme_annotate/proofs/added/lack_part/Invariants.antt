use Rattle.std.proofs.Common.{◌≡◌, false, take}
use Rattle.std.specs.List.{list_any}
use Rattle.vme_annotation.specs.Fresh.{has_part}
use Rattle.vme_annotate.proofs.added.lack_part.Given as goal

abbrev pub invariant-loop-variable : goal.invariant-loop-variable
invariant-loop-variable l = list_any (has_part l.name) (take l.variable-index l.variables) ≡ false
