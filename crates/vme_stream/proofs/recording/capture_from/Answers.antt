use Rattle.std.proofs.lemmas.Result.{err_from_is_err_and}
use Rattle.vme_stream.specs.Answers.{dump_read}
use Rattle.vme_stream.proofs.InputLemmas.{IsReading-unread}
use Rattle.vme_stream.proofs.AnswerLemmas.{capture_by-recorded, capture_by-refused, capture_read-bound}
use Rattle.vme_stream.proofs.AnswerLemmas.{capture_read-refused}
use Rattle.vme_stream.proofs.recording.capture_from.Goals as goal

pub returns-in_err-bound : goal.returns-in_err-bound
returns-in_err-bound g c =
    let p = err_from_is_err_and c.from_residual.result c.from_residual.ensures.1 in
    let refusal = c.in_err-bound.field-0.0 in
    let (bound, bound_reading, refused) = c.in_err-bound.ensures in
    let left = IsReading-unread (g.D.Source.reading c.args.dump.now) in
    rw (p.1, p.2) (bound, left.0, bound_reading, left.1, capture_read-refused bound left.0 refusal refused)

pub returns-in-Ok-Ok : goal.returns-in-Ok-Ok
returns-in-Ok-Ok g c =
    let bound = c.in_ok-bound.bound in
    let (binding, bound_reading, bound_is) = c.in_ok-bound.ensures in
    let (bytes, reading, is) = c.in-Ok-Ok.ensures in
    let captured = rw c.in-Ok-Ok.field-0-is at (capture_by-recorded bound (dump_read bytes) _ is) in
    (binding, bytes, bound_reading, reading, rw (capture_read-bound binding bytes bound bound_is) captured)

pub returns-in-Ok-Err : goal.returns-in-Ok-Err
returns-in-Ok-Err g c =
    let bound = c.in_ok-bound.bound in
    let (binding, bound_reading, bound_is) = c.in_ok-bound.ensures in
    let (bytes, reading, is) = c.in-Ok-Err.ensures in
    let captured = rw c.in-Ok-Err.field-0-is at (capture_by-recorded bound (dump_read bytes) _ is) in
    (binding, bytes, bound_reading, reading, rw (capture_read-bound binding bytes bound bound_is) captured)

pub returns : goal.returns
returns g c =
    let bound = c.in_ok-bound.bound in
    let (binding, bound_reading, bound_is) = c.in_ok-bound.ensures in
    let (bytes, reading, refused) = c.in-Err.ensures in (
      binding,
      bytes,
      bound_reading,
      reading,
      rw (capture_read-bound binding bytes bound bound_is)
          (capture_by-refused bound (dump_read bytes) c.in-Err.refusal refused),
    )
