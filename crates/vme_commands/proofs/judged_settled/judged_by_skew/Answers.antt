-- What was judged is the deskewed recording.
use Rattle.std.proofs.Common.{◌∙◌}
use Rattle.std.proofs.lemmas.Result.{err_from_is_err_and}
use Rattle.vme_stream.proofs.InputLemmas.{IsReading-unread}
use Rattle.vme_stream.proofs.AnswerLemmas.{capture_read-unrecorded, recording_read-bound, recording_read-refused}
use Rattle.vme_commands.proofs.SettledLemmas.{settled_read-recorded, settled_read-refused}
use Rattle.vme_commands.proofs.judged_settled.judged_by_skew.Goals as goal

pub returns-in_err-bound-clause-gives : goal.returns-in_err-bound-clause-gives
returns-in_err-bound-clause-gives g c =
    let p = err_from_is_err_and c.from_residual.result c.from_residual.ensures.1 in
    let refusal = c.in_err-bound.field-0.0 in
    let (bound, bound_reading, refused) = c.in_err-bound.ensures in
    let left = IsReading-unread (g.D.Source.reading c.args.dump.now) in
    rw (p.1, p.2) (
      bound,
      left.0,
      bound_reading,
      left.1,
      settled_read-refused g.K.GhostSkew.skew bound left.0 refusal
          (capture_read-unrecorded bound left.0 refusal (recording_read-refused bound left.0 refusal refused)),
    )

pub returns-in_err-settled-clause-gives : goal.returns-in_err-settled-clause-gives
returns-in_err-settled-clause-gives g c =
    let p = err_from_is_err_and c.from_residual-in_err-settled.result c.from_residual-in_err-settled.ensures.1 in
    let refusal = c.in_err-settled.field-0.0 in
    let (bound, bound_reading, bound_is) = c.in_ok-bound.ensures in
    let (bytes, reading, refused) = c.in_err-settled.ensures.gives in
    rw (p.1, p.2) (
      bound,
      bytes,
      bound_reading,
      reading,
      settled_read-refused g.K.GhostSkew.skew bound bytes refusal
          (capture_read-unrecorded bound bytes refusal (rw (recording_read-bound bound bytes _ bound_is) refused)),
    )

pub returns : goal.returns
returns g c =
    let (bound, bound_reading, bound_is) = c.in_ok-bound.ensures in
    let (bytes, reading, given) = c.in_ok-settled.ensures.gives in
    let recorded = recording_read-bound bound bytes _ bound_is ∙ given in
    let well = c.in_ok-settled.ensures.formed in
    record {
      gives = (
        bound,
        bytes,
        bound_reading,
        reading,
        rw (settled_read-recorded g.K.GhostSkew.skew bound bytes _ recorded) (c.settled_visitor.ensures.gives well),
      );
      formed = c.settled_visitor.ensures.formed well;
      short = c.settled_visitor.ensures.short well;
    }
