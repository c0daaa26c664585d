-- The dump is read to its end, unless memory ran out.
use Rattle.std.proofs.Common.{Option, subst}
use Rattle.vcd_read.specs.declared.fault.VcdFault.{VcdFault}
use Rattle.vme_dump_input.specs.BodyPieces.{FailsPiece}
use Rattle.vme_dump_input.proofs.body.refused_in_body.Goals as goal

pub returns-in-Some : goal.returns-in-Some
returns-in-Some g c old limit fails =
    let (done, read, has) = subst (λ (f : Option VcdFault). FailsPiece old (g.D.Source.reading c.args.dump.now)
    c.args.input.now f) c.in-Some.is fails in
    c.refused_for.ensures.refused old done read limit has

pub returns-in-None : goal.returns-in-None
returns-in-None g c old limit fails =
    subst (λ (f : Option VcdFault). FailsPiece old (g.D.Source.reading c.args.dump.now) c.args.input.now f) c.in-None.is
    fails
