-- The loop over variables: the distances so far, and those of the variables that are left, are all distances.
use Rattle.std.proofs.Common.{◌≡◌, ◌++◌, drop}
use Rattle.vme_faults.specs.Nearness.{distances}
use Rattle.vme_faults.proofs.nearness.distances.Given as goal

abbrev pub invariant-loop-place : goal.invariant-loop-place
invariant-loop-place l = l.all.items ++ distances l.path (drop l.place l.variables) l.place
    ≡ distances l.path l.variables 0
