-- The loop over the changed lines: none so far is an acknowledge output that falls.
use Rattle.std.proofs.Common.{◌≡◌, drop}
use Rattle.vme_trace.specs.Changes.{first_changed}
use Rattle.vme_chains.specs.AcknowledgeRules.{passes_on}
use Rattle.vme_chains.proofs.acknowledge.first_passing.Given as goal

abbrev pub invariant-loop-change : goal.invariant-loop-change
invariant-loop-change l = first_changed (passes_on l.before l.after) (drop l.change-index l.changes)
    ≡ first_changed (passes_on l.fn.before l.fn.after) l.fn.changes
