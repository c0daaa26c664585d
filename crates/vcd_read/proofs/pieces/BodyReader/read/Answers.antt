use Rattle.vcd_read.proofs.BodyLemmas.{outcome-same, ReadFailsAs-StoppedAs}
use Rattle.vcd_read.proofs.pieces.BodyReader.read.Goals as goal

pub returns-in-Ok-clause-rest : goal.returns-in-Ok-clause-rest
returns-in-Ok-clause-rest g c = λ more. outcome-same _ _ (c.in-Ok.ensures.rest more)

pub returns-in-Err-clause-rest : goal.returns-in-Err-clause-rest
returns-in-Err-clause-rest g c = λ more. ReadFailsAs-StoppedAs c.in-Err.stopped.fault.line c.in-Err.stopped.fault.kind _
    _ _ _
    (c.in-Err.ensures.rest more)
