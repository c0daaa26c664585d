use Rattle.std.proofs.Common.{◌≡◌, ◌++◌, map, take}
use Rattle.std.specs.Prelude.{flat_map}
use Rattle.vme_annotation.specs.Shown.{opening_changes, row_changes}
use Rattle.vme_annotate.specs.Planned.{planned}
use Rattle.vme_annotate.proofs.changes.changes_by_row.Given as goal

abbrev pub invariant-loop-place : goal.invariant-loop-place
invariant-loop-place l =
    map (planned l.rows) l.made ≡ opening_changes ++ flat_map row_changes (take l.place l.rows)
