-- The steps of a dump's body are compared with a listing as they are read, and the answer at its end is that for the
-- dump.
use Rattle.std.proofs.Common.{◌≡◌, ℕ, zero, suc, List, [], ◌++◌}
use Rattle.std.proofs.Common.{Option, None, refl, sym, ap, subst, ◌∙◌}
use Rattle.std.specs.Prelude.{Result, Ok, Err}
use Rattle.vcd_read.specs.Contents.{Contents}
use Rattle.vme_trace.specs.Followed.{with_steps}
use Rattle.vme_trace.specs.Streams.{Reading}
use Rattle.vme_trace.specs.Trace.{Trace}
use Rattle.vme_trace.specs.declared.step.Step.{Step}
use Rattle.vme_bind.specs.Binding.{BoundLines}
use Rattle.vme_bind.specs.Capture.{capture_of, limited}
use Rattle.vme_bind.specs.declared.fault.BindFault.{BindFault}
use Rattle.vme_listing.specs.Recorded.{recorded_rows, rows_in}
use Rattle.vme_listing.specs.declared.row.Row.{Row}
use Rattle.vme_listing.specs.declared.row.Version.{Version}
use Rattle.vme_skew.specs.Settled.{IsRecording, settled, settled_or}
use Rattle.vme_skew.proofs.Laws.{settled-zero_skew}
use Rattle.vme_cert.specs.Comparing.{Decides}
use Rattle.vme_cert.specs.declared.compare.Answer.{Answer}
use Rattle.vme_step_reader.specs.StepReading.{StepReading, whole_reading}
use Rattle.vme_dump_input.specs.SettledReadings.{settled_whole, skew_of}
use Rattle.vme_dump_input.specs.DumpBeginnings.{IsReadDump, IsSound}
use Rattle.vme_confirm_command.specs.DumpChecks.{IsAnswerForDump}
use Rattle.vme_confirm_command.specs.DumpChecks.{IsChecked}
use Rattle.vme_dump_input.specs.BodyPieces.{IsAtEnd}
use Rattle.vme_confirm_command.specs.StepChecks.{Finds, HasCheckedSteps}
use Rattle.vme_confirm_command.specs.declared.step_check.StepCheck.{StepCheck}
use Rattle.vme_dump_input.proofs.BodyLemmas.{IsSound-next}
use Rattle.vme_dump_input.proofs.DumpRefusals.{dump_read-short}
use Rattle.vme_dump_input.proofs.DumpTexts.{Agrees-text, capture_of-limited}

-- a check that continues with the steps of a piece
pub IsChecked-piece : {Source : Type 0} (skew : Option ℕ) (r next : StepReading) (steps : List Step) (piece : List ℕ)
    (time : ℕ) (t : Trace) (check : StepCheck Source) → IsSound r
    → ((rest : List ℕ) → whole_reading r (piece ++ rest) ≡ whole_reading next rest)
    → next.given ≡ with_steps r.given steps → time ≡ (whole_reading next []).time
    → HasCheckedSteps skew (with_steps r.given steps) time t check.settler check.checker check.count
    → IsChecked skew next t check
IsChecked-piece skew r next steps piece time t check sound taken given now stepped = record {
  sound = IsSound-next r next steps piece sound taken given;
  stepped = subst (λ (u : Trace). HasCheckedSteps skew u (whole_reading next []).time t check.settler check.checker
      check.count) (sym given)
      (subst (λ n. HasCheckedSteps skew (with_steps r.given steps) n t check.settler check.checker check.count) now
      stepped);
}

-- ---- the end

-- to deskew a recording by what the skew asks for is to deskew it by the skew
settled_whole-settled : (skew : ℕ) (t : Trace) → IsRecording t → settled_whole (skew_of skew) t ≡ settled skew t
settled_whole-settled zero t is = sym (settled-zero_skew t is)
settled_whole-settled (suc n) t is = refl

module _ {Whole Source : Type 0} (gave : Whole → Source → List Row → Type 0) (is_over : Source → Type 0) (whole : Whole)
    (version : Version) (binding : BoundLines) (skew : ℕ) (source : Source) (old now : Reading) (bytes : List ℕ)
    (r : StepReading) (end : IsAtEnd binding old now bytes r) (given : Trace)
    (recorded : (whole_reading r bytes).recorded ≡ given) (faultless : (whole_reading r bytes).fault ≡ None)
    (is : IsRecording given) where
  -- what is found of the recording is the answer for the dump with these contents
  IsAnswerForDump-contents : (contents : Contents) → capture_of binding contents ≡ limited given
      → (found : Result Answer BindFault)
      → Finds gave is_over whole version (skew_of skew) given found source
      → IsAnswerForDump gave is_over whole version binding skew contents found source
  IsAnswerForDump-contents contents captured (Ok answer) finds =
      let (fits, rest) = finds in
      let (more, gives, decides) = rest in (
        settled skew given,
        ap (λ (x : Result Trace BindFault). settled_or skew x) (captured ∙ fits),
        (
          more,
          gives,
          subst (λ (t : Trace). Decides is_over more (rows_in version (recorded_rows t)) source answer)
              (settled_whole-settled skew given is) decides,
        ),
      )
  IsAnswerForDump-contents contents captured (Err fault) finds = (captured ∙ finds.0, finds.1)

  -- what is found of the recording at the end of the dump is the answer for the dump that was read
  pub IsAnswerForDump-at_end : (found : Result Answer BindFault)
      → Finds gave is_over whole version (skew_of skew) given found source
      → (contents : Contents) × IsReadDump old now contents
      × IsAnswerForDump gave is_over whole version binding skew contents found source
  IsAnswerForDump-at_end found finds =
      let (contents, dump, same) = (Agrees-text binding end.text).whole (whole_reading r bytes) end.body faultless in (
        contents,
        record {
          text = end.text;
          reading = end.all.0;
          is = dump_read-short end.text end.all.1 (Ok contents) dump;
        },
        IsAnswerForDump-contents contents (capture_of-limited binding contents given
            (same ∙ ap (λ (t : Trace). Ok t) recorded)) found
            finds,
      )
