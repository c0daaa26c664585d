-- The loop over the changed lines: none so far is an acknowledge output that falls while the slot's input isn't Low.
use Rattle.std.proofs.Common.{◌≡◌, drop}
use Rattle.vme_trace.specs.Changes.{first_changed}
use Rattle.vme_chains.specs.AcknowledgeRules.{passes_unasked}
use Rattle.vme_chains.proofs.acknowledge.first_unasked.Given as goal

abbrev pub invariant-loop-change : goal.invariant-loop-change
invariant-loop-change l = first_changed (passes_unasked l.before l.after) (drop l.change-index l.changes)
    ≡ first_changed (passes_unasked l.fn.before l.fn.after) l.fn.changes
