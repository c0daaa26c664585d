-- The loop over the changed lines: none so far breaks the rule.
use Rattle.std.proofs.Common.{◌≡◌, drop}
use Rattle.vme_trace.specs.Changes.{first_changed}
use Rattle.vme_chains.specs.GrantLevels.{is_net_broken}
use Rattle.vme_chains.proofs.grant_levels.first_broken.Given as goal

abbrev pub invariant-loop-change : goal.invariant-loop-change
invariant-loop-change l = first_changed (is_net_broken l.rule l.before l.after) (drop l.change-index l.changes)
    ≡ first_changed (is_net_broken l.rule l.before l.after) l.changes
