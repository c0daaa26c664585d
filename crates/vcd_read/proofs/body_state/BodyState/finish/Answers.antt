use Rattle.vcd_read.proofs.BodyLemmas.{ReadFailsAs-StoppedAs}
use Rattle.vcd_read.proofs.body_state.BodyState.finish.Goals as goal

pub returns-in-Err : goal.returns-in-Err
returns-in-Err g c = λ nets. ReadFailsAs-StoppedAs c.in-Err.stopped.fault.line c.in-Err.stopped.fault.kind _ _ _ _
    (c.in-Err.ensures nets)
