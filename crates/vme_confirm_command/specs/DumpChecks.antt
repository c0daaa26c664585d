-- The result of comparing the steps of a dump with rows.
use Rattle.std.specs.Prelude.{◌≡◌, ℕ, List, [], Option, Result, Ok, Err}
use Rattle.vcd_read.specs.Contents.{Contents}
use Rattle.vme_trace.specs.Streams.{Reading}
use Rattle.vme_trace.specs.Trace.{Trace}
use Rattle.vme_bind.specs.Binding.{BoundLines}
use Rattle.vme_bind.specs.Capture.{capture_of}
use Rattle.vme_bind.specs.declared.fault.BindFault.{BindFault}
use Rattle.vme_listing.specs.declared.row.Row.{Row}
use Rattle.vme_listing.specs.declared.row.Version.{Version}
use Rattle.vme_stream.specs.declared.refusal.Refusal.{Refusal}
use Rattle.vme_skew.specs.Settled.{settled_or}
use Rattle.vme_cert.specs.Checking.{HasDecided}
use Rattle.vme_cert.specs.declared.compare.Answer.{Answer}
use Rattle.vme_step_reader.specs.StepReading.{StepReading, whole_reading}
use Rattle.vme_dump_input.specs.DumpBeginnings.{IsDumpRefused, IsReadDump, IsSound}
use Rattle.vme_confirm_command.specs.StepChecks.{HasCheckedSteps}
use Rattle.vme_confirm_command.specs.declared.step_check.StepCheck.{StepCheck}

-- the steps that `r` has given are counted, and what came out of deskewing them is compared
pub record IsChecked {Source : Type 0} (skew : Option ℕ) (r : StepReading) (t : Trace) (check : StepCheck Source) : Type
    0 where
  pub sound : IsSound r
  pub stepped : HasCheckedSteps skew r.given (whole_reading r []).time t check.settler check.checker check.count

module _ {Whole Source : Type 0} (gave : Whole → Source → List Row → Type 0) (is_over : Source → Type 0) (whole : Whole)
    (version : Version) (binding : BoundLines) (skew : ℕ) where
  -- the answer about the rows, for the recording that the binding makes of a dump, or why it makes none
  abbrev pub IsAnswerForDump : Contents → Result Answer BindFault → Source → Type 0
  IsAnswerForDump contents (Ok answer) source =
      (t : Trace) × (settled_or skew (capture_of binding contents) ≡ Ok t)
      × HasDecided gave is_over whole version t source answer
  IsAnswerForDump contents (Err fault) source =
      (capture_of binding contents ≡ Err fault) × ((rows : List Row) × gave whole source rows)

  -- the dump is read and the listing compared, or the dump is refused; `source` is the source of rows afterwards
  abbrev pub Compares : Reading → Reading → Result (Result Answer BindFault) Refusal → Source → Type 0
  Compares old now (Ok found) source =
      (contents : Contents) × IsReadDump old now contents × IsAnswerForDump contents found source
  Compares old now (Err refusal) source = IsDumpRefused old now refusal × ((rows : List Row) × gave whole source rows)
