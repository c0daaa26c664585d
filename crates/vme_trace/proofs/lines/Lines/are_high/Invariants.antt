-- The loop over lines: each line so far is high.
use Rattle.std.proofs.Common.{◌≡◌, true}
use Rattle.vme_trace.specs.Instants.{every}
use Rattle.vme_trace.specs.Levels.{is_high_on}
use Rattle.vme_trace.proofs.lines.Lines.are_high.Given as goal

abbrev pub invariant-loop-number : goal.invariant-loop-number
invariant-loop-number l = every (is_high_on l.self) l.fn.first l.number ≡ true
