use Rattle.std.proofs.Common.{◌≡◌, ◌∙◌, Some, Result, Ok, sym, subst}
use Rattle.vme_trace.specs.Trace.{Trace}
use Rattle.vme_bind.specs.TextCapture.{CaptureFailsBy, recording_of_text}
use Rattle.vme_bind.specs.declared.fault.CaptureFault.{CaptureFault}
use Rattle.vme_bind.proofs.TextCaptureLemmas.{recording_of_text-formed}
use Rattle.vme_stream.specs.Answers.{dump_read}
use Rattle.vme_stream.proofs.AnswerLemmas.{dump_read-fault, dump_read-whole, recording_by-fails, recording_by-refused}
use Rattle.vme_stream.proofs.AnswerLemmas.{recording_by-text}
use Rattle.vme_commands.proofs.judged_settled.taken_in_order.Goals as goal

pub returns-in-Ok-finish : goal.returns-in-Ok-finish
returns-in-Ok-finish g c =
    let bound = c.args.bound.now in
    let t = g.F.StepVisitor.recorded c.in-Ok-finish.visitor in
    let (bytes, short, reading, same) = c.in-Ok.ensures.bytes in
    let rest = rw c.as_slice.ensures.value at c.in-Ok-finish.ensures in
    let is : recording_of_text bound bytes ≡ Ok t = sym (c.new-reader.ensures bytes) ∙ same ∙ rest in
    record {
      gives = (Some bytes, reading, rw (dump_read-whole bytes short) (recording_by-text bound bytes t is));
      formed = recording_of_text-formed bound bytes t is;
    }

pub returns-in-Ok-clause-gives : goal.returns-in-Ok-clause-gives
returns-in-Ok-clause-gives g c =
    let bound = c.args.bound.now in
    let fault = c.in-Err-finish.fault in
    let (bytes, short, reading, same) = c.in-Ok.ensures.bytes in
    let rest = rw c.as_slice.ensures.value at c.in-Err-finish.ensures in
    let fails = subst (λ (r : Result Trace CaptureFault). CaptureFailsBy fault r)
    (sym (sym (c.new-reader.ensures bytes) ∙ same)) rest in (
      Some bytes,
      reading,
      rw (c.of_capture.ensures, dump_read-whole bytes short) (recording_by-fails bound bytes fault
          fails),
    )

pub returns-clause-gives : goal.returns-clause-gives
returns-clause-gives g c =
    let (bytes, reading, refused) = dump_read-fault _ _ c.read_by.result c.in-Err.fault c.in-Err.is
    c.read_by.ensures.read
    c.read_by.ensures.too_long c.read_by.ensures.memory in
    rw c.of_input.ensures (bytes, reading, recording_by-refused c.args.bound.now (dump_read bytes) _ refused)
