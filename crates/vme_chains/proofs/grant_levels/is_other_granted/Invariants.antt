-- The loop over the levels: the arbiter grants none so far on another net than the line.
use Rattle.std.proofs.Common.{◌≡◌, false}
use Rattle.std.specs.Prelude.{not, ◌==◌, ◌&&◌}
use Rattle.vme_trace.specs.Instants.{any}
use Rattle.vme_trace.specs.LineNumbers.{grant}
use Rattle.vme_chains.specs.GrantLevels.{is_low_in}
use Rattle.vme_chains.proofs.grant_levels.is_other_granted.Given as goal

abbrev pub invariant-loop-level : goal.invariant-loop-level
invariant-loop-level l = any (λ n. not (grant n 0 == l.line) && is_low_in l.lines (grant n 0)) 0 l.level ≡ false
