-- The loop over lines: no line before the current one is needed and unknown.
use Rattle.std.proofs.Common.{◌≡◌, false}
use Rattle.vme_trace.specs.Instants.{any}
use Rattle.vme_dtb.specs.StabilityRules.{lacks}
use Rattle.vme_dtb.proofs.observation.unknown_need.Given as goal

abbrev pub invariant-loop-number : goal.invariant-loop-number
invariant-loop-number l = any (lacks l.lines) 0 l.number ≡ false
