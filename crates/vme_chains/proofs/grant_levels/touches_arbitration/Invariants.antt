-- The loop over the changed lines: none so far is BBSY, a request or a grant.
use Rattle.std.proofs.Common.{◌≡◌, drop}
use Rattle.vme_chains.specs.GrantLevels.{touches_arbitration}
use Rattle.vme_chains.proofs.grant_levels.touches_arbitration.Given as goal

abbrev pub invariant-loop-change : goal.invariant-loop-change
invariant-loop-change l = touches_arbitration (drop l.change-index l.changes) ≡ touches_arbitration l.changes
