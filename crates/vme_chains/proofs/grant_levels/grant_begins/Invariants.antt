-- The loop over the levels: the arbiter begins to grant none so far.
use Rattle.std.proofs.Common.{◌≡◌, false}
use Rattle.vme_trace.specs.Instants.{any}
use Rattle.vme_trace.specs.LineNumbers.{grant}
use Rattle.vme_chains.specs.GrantLevels.{falls_between}
use Rattle.vme_chains.proofs.grant_levels.grant_begins.Given as goal

abbrev pub invariant-loop-level : goal.invariant-loop-level
invariant-loop-level l = any (λ n. falls_between l.before l.after (grant n 0)) 0 l.level ≡ false
