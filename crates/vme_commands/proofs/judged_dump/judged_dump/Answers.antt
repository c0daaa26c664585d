use Rattle.std.proofs.Common.{◌≡◌, ◌∙◌, Some, Result, Ok, sym, subst}
use Rattle.std.proofs.lemmas.Result.{err_from_is_err_and}
use Rattle.vme_trace.specs.Trace.{Trace}
use Rattle.vme_bind.specs.TextCapture.{CaptureFailsBy, recording_of_text}
use Rattle.vme_bind.specs.declared.fault.CaptureFault.{CaptureFault}
use Rattle.vme_bind.proofs.TextCaptureLemmas.{recording_of_text-formed}
use Rattle.vme_stream.specs.Answers.{dump_read}
use Rattle.vme_stream.proofs.InputLemmas.{IsReading-unread}
use Rattle.vme_stream.proofs.AnswerLemmas.{dump_read-fault, dump_read-whole, recording_by-fails, recording_by-refused}
use Rattle.vme_stream.proofs.AnswerLemmas.{recording_by-text, recording_read-bound, recording_read-refused}
use Rattle.vme_commands.proofs.judged_dump.judged_dump.Goals as goal

pub returns-in_err-bound-clause-gives : goal.returns-in_err-bound-clause-gives
returns-in_err-bound-clause-gives g c =
    let p = err_from_is_err_and c.from_residual.result c.from_residual.ensures.1 in
    let refusal = c.in_err-bound.field-0.0 in
    let (binding, bound_reading, refused) = c.in_err-bound.ensures in
    let left = IsReading-unread (g.D.Source.reading c.args.dump.now) in
    rw (p.1, p.2)
    (binding, left.0, bound_reading, left.1, recording_read-refused binding left.0 refusal refused)

pub returns-in-Ok-finish : goal.returns-in-Ok-finish
returns-in-Ok-finish g c =
    let bound = c.in_ok-bound.bound in
    let t = c.in-Ok-finish.stream_judge in
    let (binding, bound_reading, bound_is) = c.in_ok-bound.ensures in
    let (bytes, short, reading, same) = c.in-Ok.ensures.bytes in
    let rest = rw c.as_slice.ensures.value at c.in-Ok-finish.ensures in
    let is : recording_of_text bound bytes ≡ Ok t = sym (c.new-reader.ensures bytes) ∙ same ∙ rest in
    record {
      gives = (
        binding,
        Some bytes,
        bound_reading,
        reading,
        rw (recording_read-bound binding (Some bytes) bound bound_is, dump_read-whole bytes short)
            (recording_by-text bound bytes t is),
      );
      formed = recording_of_text-formed bound bytes t is;
    }

pub returns-in-Ok-clause-gives : goal.returns-in-Ok-clause-gives
returns-in-Ok-clause-gives g c =
    let bound = c.in_ok-bound.bound in
    let fault = c.in-Err-finish.fault in
    let (binding, bound_reading, bound_is) = c.in_ok-bound.ensures in
    let (bytes, short, reading, same) = c.in-Ok.ensures.bytes in
    let rest = rw c.as_slice.ensures.value at c.in-Err-finish.ensures in
    let fails = subst (λ (r : Result Trace CaptureFault). CaptureFailsBy fault r)
    (sym (sym (c.new-reader.ensures bytes) ∙ same)) rest in (
      binding,
      Some bytes,
      bound_reading,
      reading,
      rw (c.of_capture.ensures, recording_read-bound binding (Some bytes) bound bound_is, dump_read-whole bytes short)
          (recording_by-fails bound bytes fault fails),
    )

pub returns-clause-gives : goal.returns-clause-gives
returns-clause-gives g c =
    let bound = c.in_ok-bound.bound in
    let (binding, bound_reading, bound_is) = c.in_ok-bound.ensures in
    let (bytes, reading, refused) = dump_read-fault _ _ c.read_by.result c.in-Err.fault c.in-Err.is
    c.read_by.ensures.read
    c.read_by.ensures.too_long c.read_by.ensures.memory in
    rw c.of_input.ensures (
      binding,
      bytes,
      bound_reading,
      reading,
      rw (recording_read-bound binding bytes bound bound_is)
          (recording_by-refused bound (dump_read bytes) _ refused),
    )
