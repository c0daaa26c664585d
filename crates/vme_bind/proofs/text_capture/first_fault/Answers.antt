use Rattle.vme_bind.proofs.TextCaptureLemmas.{recording_after-dump_fails, recording_after-binding_fails}
use Rattle.vme_bind.proofs.text_capture.first_fault.Goals as goal

pub returns-in-Ok : goal.returns-in-Ok
returns-in-Ok c b variables fails =
    recording_after-binding_fails b c.args.head.now variables tt tt c.args.fault c.in-Ok.ensures fails

pub returns-in-Err : goal.returns-in-Err
returns-in-Err c b variables fails =
    recording_after-dump_fails b c.args.head.now variables tt c.in-Err.first c.in-Err.ensures
