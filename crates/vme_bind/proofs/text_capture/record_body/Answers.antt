use Rattle.vme_bind.proofs.TextCaptureLemmas.{body_recording-fails, body_recording-built}
use Rattle.vme_bind.proofs.text_capture.record_body.Goals as goal

pub returns-in-Ok : goal.returns-in-Ok
returns-in-Ok g c slots bound_groups begun =
    rw c.into_visitor.ensures (body_recording-built slots bound_groups c.args.head.now
    c.args.made c.in-Ok.end begun c.in-Ok.ensures)

pub returns-in-Err : goal.returns-in-Err
returns-in-Err g c slots bound_groups begun =
    body_recording-fails slots bound_groups c.args.head.now c.args.made c.in-Err.fault
    begun c.in-Err.ensures
