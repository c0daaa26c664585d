-- The loop over the changed lines: none so far is a net of a grant, so a search among the nets may begin with the rest.
use Rattle.std.proofs.Common.{◌≡◌, ℕ, Bool, false, drop}
use Rattle.vme_trace.specs.Changes.{first_changed}
use Rattle.vme_trace.specs.LineNumbers.{is_grant}
use Rattle.vme_chains.proofs.grant_levels.touches_nets.Given as goal

abbrev pub invariant-loop-change : goal.invariant-loop-change
invariant-loop-change l = (p : ℕ → Bool) → ((k : ℕ) → is_grant k ≡ false → p k ≡ false) → first_changed p
    (drop l.change-index l.changes) ≡ first_changed p l.changes
