-- The loop over changes: the first changed data line of the changes that are left is that of all changes.
use Rattle.std.proofs.Common.{◌≡◌, drop}
use Rattle.vme_trace.specs.Changes.{first_changed}
use Rattle.vme_dtb.specs.StabilityRules.{is_changed_data}
use Rattle.vme_dtb.proofs.observation.first_changed_data.Given as goal

abbrev pub invariant-loop-change : goal.invariant-loop-change
invariant-loop-change l = first_changed (is_changed_data l.before l.after) (drop l.change-index l.changes)
    ≡ first_changed (is_changed_data l.before l.after) l.changes
