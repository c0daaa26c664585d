-- The loop over changes: for any needs and levels, the first needed line and the first changed data line of the changes
-- that are left are those of all changes.
use Rattle.std.proofs.Common.{◌≡◌, drop}
use Rattle.vme_trace.specs.Changes.{first_changed}
use Rattle.vme_trace.specs.Cycle.{Needs}
use Rattle.vme_trace.specs.Levels.{Levels}
use Rattle.vme_dtb.specs.StabilityRules.{first_needed, is_changed_data}
use Rattle.vme_dtb.proofs.observation.changes_beyond_answers.Given as goal

abbrev pub invariant-loop-change : goal.invariant-loop-change
invariant-loop-change l =
    ((needs : Needs) → first_needed needs (drop l.change-index l.changes) ≡ first_needed needs l.changes)
    × ((v w : Levels) → first_changed (is_changed_data v w) (drop l.change-index l.changes)
    ≡ first_changed (is_changed_data v w) l.changes)
