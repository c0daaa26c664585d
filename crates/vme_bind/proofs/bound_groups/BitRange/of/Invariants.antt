-- The candidates among the variables so far were taken into account: with the rest they give the only candidate.
use Rattle.std.proofs.Common.{◌≡◌, drop}
use Rattle.std.specs.List.{filter_map}
use Rattle.vme_bind.specs.BoundGroups.{candidate, only}
use Rattle.vme_bind.proofs.BoundGroupLemmas.{only_from}
use Rattle.vme_bind.proofs.bound_groups.BitRange.of.Given as goal

abbrev pub invariant-loop-variable : goal.invariant-loop-variable
invariant-loop-variable l = only_from l.found (filter_map (candidate l.named) (drop l.variable-index l.variables))
    ≡ only (filter_map (candidate l.named) l.variables)
