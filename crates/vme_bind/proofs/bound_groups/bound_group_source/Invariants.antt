-- No bound group so far holds the line.
use Rattle.std.proofs.Common.{◌≡◌, drop}
use Rattle.vme_bind.specs.BoundGroups.{bound_group_source}
use Rattle.vme_bind.proofs.bound_groups.bound_group_source.Given as goal

abbrev pub invariant-loop-bound_group : goal.invariant-loop-bound_group
invariant-loop-bound_group l = bound_group_source (drop l.bound_group-index l.bound_groups) l.line ≡ bound_group_source
    l.bound_groups l.line
