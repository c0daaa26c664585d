-- The code of the vector is in the piece: its net changes, or the change has a fault.
use Rattle.std.proofs.Common.{◌++◌, List, ap}
use Rattle.vcd_read.specs.Tokens.{Token}
use Rattle.vcd_read.specs.Reading.{left_at, line_of, token_at}
use Rattle.vcd_read.specs.Body.{change}
use Rattle.vcd_read.specs.BodyPieces.{state_in}
use Rattle.vcd_read.proofs.BodyLemmas.{BodyContinuesAs-item, body_from-vector_code}
use Rattle.vcd_read.proofs.body.Body.vector.Goals as goal

pub returns-in-Some-clause-rest : goal.returns-in-Some-clause-rest
returns-in-Some-clause-rest g c =
    let old = c.args.self.now in
    let new = c.change.new.self in
    let text = old.reader.text in
    let line = line_of text c.args.start in
    let after = c.next.new.self.at in
    let t = token_at text c.in-Some.code.at c.in-Some.code.bytes.now in
    let h = rw c.in-Some.ensures.text at c.change.ensures.step in
    let is = λ (more : List Token). body_from-vector_code line c.args.digits.now (left_at text old.reader.at ++ more)
    (left_at text after ++ more) t (ap (λ (ts : List Token). ts ++ more) c.in-Some.ensures.token) in
    BodyContinuesAs-item g.T.ChangeVisitor.with_change g.T.ChangeVisitor.with_instant old.codes.now new.codes.now
    (state_in g.T.ChangeVisitor.taken old) (state_in g.T.ChangeVisitor.taken new)
    text new.reader.text after new.reader.at new.place (change line c.args.digits.now t.bytes) _ c.change.result
    (cc) (cc) (cc) (cc) is h c.change.ensures.kept
