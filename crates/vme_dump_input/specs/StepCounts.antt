-- How many steps came.
use Rattle.std.specs.Prelude.{◌≡◌, ℕ, ◌-◌, ◌^◌, List, length, min}
use Rattle.vme_trace.specs.declared.step.Step.{Step}

-- `count` is how many steps there are, or the greatest number that a count has, if there are more than that
abbrev pub IsStepCount : ℕ → List Step → Type 0
IsStepCount count steps = count ≡ min (length steps) (2 ^ 64 - 1)
