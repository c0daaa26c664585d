-- How many steps came, where more are counted.
use Rattle.std.proofs.Common.{◌≡◌, ℕ, ◌+◌, ◌-◌, ◌^◌, List, ◌++◌, length, arith, length-append}
use Rattle.std.specs.Prelude.{min}
use Rattle.vme_trace.specs.declared.step.Step.{Step}
use Rattle.vme_dump_input.specs.StepCounts.{IsStepCount}

-- `steps` are counted after those that are
pub IsStepCount-append : (given steps : List Step) (count more total : ℕ) → IsStepCount count given
    → more ≡ length steps
    → total ≡ min (count + more) (2 ^ 64 - 1) → IsStepCount total (given ++ steps)
IsStepCount-append given steps count more total is all sum = omega (arith, is, all, sum, length-append given steps)
