use Rattle.std.proofs.Common.{◌∙◌, ap, List}
use denote.Ref.{Bor}
use Rattle.vcd_read.specs.Header.{Net}
use Rattle.vcd_read.specs.Bodies.{place_of}
use Rattle.vcd_read.specs.Reading.{left_at}
use Rattle.vcd_read.specs.BodyPieces.{state_in}
use Rattle.vcd_read.proofs.BodyLemmas.{until_fault-only_more}
use Rattle.vcd_read.proofs.body.read_until_fault.Goals as goal

pub returns-in-Ok : goal.returns-in-Ok
returns-in-Ok g c =
    let end = c.all.new.self in
    λ more.
    rw (c.end.ensures.taken, c.end.ensures.clock, c.end.ensures.dump_section, c.end.ensures.place) (
    (rw (c.on_line.ensures.line c.args.reader.text) at c.in-Ok.ensures.rest more)
    ∙ until_fault-only_more g.T.ChangeVisitor.with_change g.T.ChangeVisitor.with_instant c.args.codes.now end.codes.now
    (state_in g.T.ChangeVisitor.taken end) (place_of end.place) (left_at end.reader.text end.reader.at)
    (ap (λ (codes : Bor (List Net)). codes.now) c.in-Ok.ensures.codes) c.in-Ok.ensures.end more)

pub returns-in-Err : goal.returns-in-Err
returns-in-Err g c = λ more.
    rw (c.stopped.ensures.fault, c.stopped.ensures.visitor, c.stopped.ensures.time)
    (rw (c.on_line.ensures.line c.args.reader.text) at c.in-Err.ensures.rest more)
