-- No line so far is unbound.
use Rattle.std.proofs.Common.{◌≡◌, ℕ, ◌&&◌, not, false}
use Rattle.vme_trace.specs.Instants.{any}
use Rattle.vme_trace.specs.LineNumbers.{has_line}
use Rattle.vme_bind.specs.Binding.{is_bound}
use Rattle.vme_bind.proofs.binding.Binding.least_unbound.Given as goal

abbrev pub invariant-loop-number : goal.invariant-loop-number
invariant-loop-number l = any (λ (k : ℕ). has_line l.self.slots k && not (is_bound l.self.assignments k)) 0 l.number
    ≡ false
