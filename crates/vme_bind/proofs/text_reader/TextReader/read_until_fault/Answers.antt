use Rattle.std.proofs.Common.{ap}
use Rattle.vcd_read.specs.Bodies.{UntilFault}
use Rattle.vcd_read.specs.Reached.{rest_until_fault}
use Rattle.vcd_read.specs.Tokens.{tokens_from}
use Rattle.vme_bind.specs.BuilderState.{BuilderState, builder_change, builder_instant}
use Rattle.vme_bind.specs.TextPieces.{text_reached}
use Rattle.vme_bind.specs.TextReading.{reading_until_fault}
use Rattle.vme_bind.proofs.TextReadingLemmas.{StopsAs-piece}
use Rattle.vme_bind.proofs.text_reader.TextReader.read_until_fault.Goals as goal

pub returns-in-Ok-clause-rest : goal.returns-in-Ok-clause-rest
returns-in-Ok-clause-rest g c = λ more. ap (λ (read : UntilFault BuilderState). reading_until_fault read)
    (c.in-Ok.ensures.rest more)

pub returns-in-Err-clause-rest : goal.returns-in-Err-clause-rest
returns-in-Err-clause-rest g c = λ more.
    let fault = c.in-Err.stopped.fault in
    let body = (text_reached c.args.self).body in
    let read = rest_until_fault builder_change builder_instant body (tokens_from body.line c.args.piece.now) more in
    rw (c.visitor_of.ensures.fault, c.visitor_of.ensures.time) (StopsAs-piece fault.line fault.kind
    c.in-Err.stopped.visitor _ c.in-Err.stopped.time read
    c.visitor_of.ensures.visitor (c.in-Err.ensures.rest more))
