-- The loop over the nets of a level's chain: those so far are Low.
use Rattle.std.proofs.Common.{◌≡◌, true}
use Rattle.vme_trace.specs.Instants.{every}
use Rattle.vme_trace.specs.LineNumbers.{grant}
use Rattle.vme_chains.specs.GrantLevels.{is_low_in}
use Rattle.vme_chains.proofs.grant_levels.reached_net.Given as goal

abbrev pub invariant-loop-place : goal.invariant-loop-place
invariant-loop-place l = every (λ net. is_low_in l.lines (grant l.level net)) 0 l.place ≡ true
