use Rattle.vcd_read.proofs.BodyLemmas.{outcome-same, ReadFailsAs-StoppedAs}
use Rattle.vcd_read.proofs.body.read_piece.Goals as goal

pub returns-in-Ok : goal.returns-in-Ok
returns-in-Ok g c = λ more. outcome-same _ _ (c.in-Ok.ensures more)

pub returns-in-Err : goal.returns-in-Err
returns-in-Err g c = λ more. ReadFailsAs-StoppedAs c.in-Err.stopped.fault.line c.in-Err.stopped.fault.kind _ _ _ _
    (c.in-Err.ensures more)
