use Rattle.std.proofs.Common.{◌∙◌, Result, subst, sym}
use Rattle.vme_stream.proofs.AnswerLemmas.{recording_by-fails, recording_by-text}
use Rattle.vme_bind.specs.TextCapture.{CaptureFailsBy}
use Rattle.vme_bind.specs.declared.fault.CaptureFault.{CaptureFault}
use Rattle.vme_bind.proofs.TextCaptureLemmas.{recording_of_text-formed}
use Rattle.vme_trace.specs.Trace.{Trace}
use Rattle.vme_text_commands.proofs.explained_input.taken_input.Goals as goal

pub returns-in-Ok-finish : goal.returns-in-Ok-finish
returns-in-Ok-finish g c =
    let t : Trace = g.F.StepVisitor.recorded c.in-Ok-finish.visitor in
    record {
      gives = λ binding bytes ahead.
          recording_by-text binding bytes t (ahead ∙ c.in-Ok-finish.ensures);
      formed = λ binding bytes ahead. recording_of_text-formed binding bytes t (ahead ∙ c.in-Ok-finish.ensures);
    }

pub returns-in-Err-clause-gives : goal.returns-in-Err-clause-gives
returns-in-Err-clause-gives g c = λ binding bytes ahead.
    let fails = subst (λ (r : Result Trace CaptureFault). CaptureFailsBy c.in-Err.fault r) (sym ahead)
    c.in-Err.ensures in
    rw c.of_capture.ensures (recording_by-fails binding bytes c.in-Err.fault fails)
