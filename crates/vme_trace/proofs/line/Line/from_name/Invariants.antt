-- The loop over lines: none so far has the name.
use Rattle.std.proofs.Common.{◌≡◌, ℕ, ◌<◌}
use Rattle.vme_trace.specs.Names.{line_name}
use Rattle.vme_trace.proofs.line.Line.from_name.Given as goal

abbrev pub invariant-loop-number : goal.invariant-loop-number
invariant-loop-number l = (n : ℕ) → n < l.number → line_name n ≡ l.name → ⊥
