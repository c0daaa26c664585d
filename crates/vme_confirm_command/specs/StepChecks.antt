-- How far the steps of a dump are compared with rows.
use Rattle.std.specs.Prelude.{◌≡◌, ℕ, ◌+◌, ◌≤◌, List, length, Option, None, Result, Ok, Err}
use Rattle.vme_trace.specs.Followed.{with_steps}
use Rattle.vme_trace.specs.Trace.{Trace}
use Rattle.vme_trace.specs.WellFormed.{capture_limit, malformed_step}
use Rattle.vme_trace.specs.declared.step.Step.{Step}
use Rattle.vme_bind.specs.Capture.{limited}
use Rattle.vme_bind.specs.declared.fault.BindFault.{BindFault}
use Rattle.vme_listing.specs.declared.row.Row.{Row}
use Rattle.vme_listing.specs.declared.row.Version.{Version}
use Rattle.vme_skew.specs.Settling.{Settling}
use Rattle.vme_cert.specs.Checking.{HasCompared, HasDecided, HasFollowed}
use Rattle.vme_cert.specs.declared.checker.Checker.{Checker}
use Rattle.vme_cert.specs.declared.compare.Answer.{Answer}
use Rattle.vme_dump_input.specs.SettledReadings.{settled_whole}
use Rattle.vme_dump_input.specs.SettledSteps.{ComesOut}
use Rattle.vme_dump_input.specs.StepCounts.{IsStepCount}

-- `steps` may follow those of `recorded`: they leave it well-formed and within the limit
pub record StepsMayFollow (recorded : Trace) (steps : List Step) : Type 0 where
  pub formed : malformed_step (with_steps recorded steps) ≡ None
  pub within : length recorded.steps + length steps ≤ capture_limit

-- the dump gave all steps of `given` up to `time`, which are counted, and the checker took `t`, which came out of
-- deskewing them, unless they are too many
pub record HasCheckedSteps {Source : Type 0} (skew : Option ℕ) (given : Trace) (time : ℕ) (t : Trace)
    (settler : Option Settling) (checker : Checker Source) (count : ℕ) : Type 0 where
  pub counted : IsStepCount count given.steps
  pub comes : length given.steps ≤ capture_limit → ComesOut skew settler given time t
  pub taken : HasFollowed t checker

module _ {Whole Source : Type 0} (gave : Whole → Source → List Row → Type 0) (is_over : Source → Type 0) (whole : Whole)
    (version : Version) where
  -- rows of `whole` are compared with those of some recording
  pub record IsComparing (checker : Checker Source) : Type 0 where
    pub t : Trace
    pub taken : HasFollowed t checker
    pub compared : HasCompared gave is_over whole version t checker

  -- the answer about the rows for the whole recording `given`, or that it is too long
  abbrev pub Finds : Option ℕ → Trace → Result Answer BindFault → Source → Type 0
  Finds skew given (Ok answer) source =
      (limited given ≡ Ok given) × HasDecided gave is_over whole version (settled_whole skew given) source answer
  Finds skew given (Err fault) source = (limited given ≡ Err fault) × ((rows : List Row) × gave whole source rows)
