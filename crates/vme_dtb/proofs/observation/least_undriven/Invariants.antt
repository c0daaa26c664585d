-- The loop over data lines: no line before the current one is undriven.
use Rattle.std.proofs.Common.{◌≡◌, false}
use Rattle.vme_trace.specs.Instants.{any}
use Rattle.vme_trace.specs.LineNumbers.{D}
use Rattle.vme_dtb.specs.StabilityRules.{is_undriven}
use Rattle.vme_dtb.proofs.observation.least_undriven.Given as goal

abbrev pub invariant-loop-bit : goal.invariant-loop-bit
invariant-loop-bit l = any (is_undriven l.lines) 0 (D l.bit) ≡ false
