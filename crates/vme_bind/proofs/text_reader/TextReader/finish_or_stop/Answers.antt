use Rattle.vme_bind.specs.TextPieces.{text_reached}
use Rattle.vme_bind.proofs.TextReadingLemmas.{StopsAs-at_end, reading_until_fault-at_end}
use Rattle.vme_bind.proofs.text_reader.TextReader.finish_or_stop.Goals as goal

pub returns-in-Ok : goal.returns-in-Ok
returns-in-Ok g c = reading_until_fault-at_end _ _ (text_reached c.args.self).body c.into_visitor.ensures
    c.in-Ok.ensures

pub returns-in-Err : goal.returns-in-Err
returns-in-Err g c =
    let fault = c.in-Err.stopped.fault in
    rw (c.visitor_of.ensures.fault, c.visitor_of.ensures.time) (StopsAs-at_end fault.line fault.kind
    c.in-Err.stopped.visitor _ c.in-Err.stopped.time (text_reached c.args.self).body c.visitor_of.ensures.visitor
    c.in-Err.ensures)
