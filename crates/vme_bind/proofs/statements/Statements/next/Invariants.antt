-- No line so far has a statement, and the last line has the same number.
use Rattle.std.proofs.Common.{◌≡◌, length}
use Rattle.vme_bind.specs.Reading.{rest_statements, last_line}
use Rattle.vme_bind.proofs.statements.Statements.next.Given as goal

abbrev pub invariant-loop-line : goal.invariant-loop-line
invariant-loop-line l = record {
  left : rest_statements l.self ≡ rest_statements l.fn.self;
  last : last_line l.self ≡ last_line l.fn.self;
}

abbrev pub decreases-loop-line : goal.decreases-loop-line
decreases-loop-line l = length l.self.rest.now
