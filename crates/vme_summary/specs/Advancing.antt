-- Where the monitors are in a pass over the steps.
use Rattle.std.specs.Prelude.{◌≡◌, ◌+◌, ℕ, List, length}
use Rattle.vme_trace.specs.Levels.{Levels}
use Rattle.vme_trace.specs.Trace.{levels_after}
use Rattle.vme_trace.specs.declared.step.Step.{Step}

-- the steps after the opening leave `levels`, and the next step is at `instant`
pub record IsAdvancedTo (opening : Levels) (steps : List Step) (levels : Levels) (instant : ℕ) : Type 0 where
  pub levels_are : levels ≡ levels_after opening steps
  pub instant_is : instant ≡ length steps + 1
