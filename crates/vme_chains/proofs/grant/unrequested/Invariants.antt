-- The loop over the levels: none so far is granted without being requested.
use Rattle.std.proofs.Common.{◌≡◌, false}
use Rattle.std.specs.Prelude.{not, ◌&&◌}
use Rattle.vme_trace.specs.Instants.{any}
use Rattle.vme_trace.specs.LineNumbers.{grant}
use Rattle.vme_chains.specs.GrantLevels.{falls_between}
use Rattle.vme_chains.specs.GrantMemory.{is_in}
use Rattle.vme_chains.proofs.grant.unrequested.Given as goal

abbrev pub invariant-loop-level : goal.invariant-loop-level
invariant-loop-level l = any (λ n. falls_between l.before l.after (grant n 0) && not (is_in l.requests n)) 0 l.level
    ≡ false
