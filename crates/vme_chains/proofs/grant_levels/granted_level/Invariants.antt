-- The loop over the levels: the arbiter grants none so far.
use Rattle.std.proofs.Common.{◌≡◌, false}
use Rattle.vme_trace.specs.Instants.{any}
use Rattle.vme_trace.specs.LineNumbers.{grant}
use Rattle.vme_chains.specs.GrantLevels.{is_low_in}
use Rattle.vme_chains.proofs.grant_levels.granted_level.Given as goal

abbrev pub invariant-loop-level : goal.invariant-loop-level
invariant-loop-level l = any (λ n. is_low_in l.lines (grant n 0)) 0 l.level ≡ false
