-- The loop over changes: the first needed line of the changes that are left is that of all changes.
use Rattle.std.proofs.Common.{◌≡◌, drop}
use Rattle.vme_dtb.specs.StabilityRules.{first_needed}
use Rattle.vme_dtb.proofs.observation.first_needed.Given as goal

abbrev pub invariant-loop-change : goal.invariant-loop-change
invariant-loop-change l = first_needed l.needed (drop l.change-index l.changes) ≡ first_needed l.needed l.changes
