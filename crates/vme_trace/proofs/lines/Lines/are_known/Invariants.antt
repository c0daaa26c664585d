-- The loop over lines: the count is at most the number of lines so far, and equals it just if all of them are known.
use Rattle.vme_trace.specs.Levels.{is_known_on}
use Rattle.vme_trace.proofs.Counting.{AreCounted}
use Rattle.vme_trace.proofs.lines.Lines.are_known.Given as goal

abbrev pub invariant-loop-number : goal.invariant-loop-number
invariant-loop-number l = AreCounted (is_known_on l.self) l.fn.first l.number l.known
