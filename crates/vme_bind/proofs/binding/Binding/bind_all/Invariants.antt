-- The statements so far are bound: binding the rest gives what binding all of them gives.
use Rattle.std.proofs.Common.{◌≡◌, length}
use Rattle.vme_bind.specs.Binding.{bound_all}
use Rattle.vme_bind.specs.Reading.{rest_statements, last_line}
use Rattle.vme_bind.proofs.binding.Binding.bind_all.Given as goal

abbrev pub invariant-loop-statement : goal.invariant-loop-statement
invariant-loop-statement l = record {
  bound : bound_all l.self (rest_statements l.statements) ≡ bound_all l.fn.self (rest_statements l.fn.statements);
  last : last_line l.statements ≡ last_line l.fn.statements;
}

abbrev pub decreases-loop-statement : goal.decreases-loop-statement
decreases-loop-statement l = length (rest_statements l.statements)
