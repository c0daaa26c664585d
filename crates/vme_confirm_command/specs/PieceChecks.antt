-- The result of checking a piece of a body.
use Rattle.std.specs.Prelude.{ℕ, List, Option}
use Rattle.vme_trace.specs.Trace.{Trace}
use Rattle.vme_listing.specs.declared.row.Row.{Row}
use Rattle.vme_listing.specs.declared.row.Version.{Version}
use Rattle.vme_cert.specs.Checking.{HasCompared}
use Rattle.vme_step_reader.specs.StepReading.{StepReading}
use Rattle.vme_confirm_command.specs.DumpChecks.{IsChecked}
use Rattle.vme_confirm_command.specs.declared.step_check.StepCheck.{StepCheck}

module _ {Whole Source : Type 0} (gave : Whole → Source → List Row → Type 0) (is_over : Source → Type 0) where
  -- the steps that were given since `first` are compared too
  abbrev pub ChecksOn : Option ℕ → Trace → StepCheck Source → StepCheck Source → StepReading → Type 0
  ChecksOn skew t first check r =
      (later : Trace) × IsChecked skew r later check
      × ((whole : Whole) (version : Version) → HasCompared gave is_over whole version t first.checker
      → HasCompared gave is_over whole version later check.checker)
