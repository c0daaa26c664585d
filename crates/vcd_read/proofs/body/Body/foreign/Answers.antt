-- The code of the real number or string is in the piece: the change is skipped, or its code isn't declared.
use Rattle.std.proofs.Common.{◌++◌, List, refl, ap, subst}
use Rattle.vcd_read.specs.Tokens.{Token}
use Rattle.vcd_read.specs.Reading.{left_at, line_of, token_at}
use Rattle.vcd_read.specs.Body.{skipped}
use Rattle.vcd_read.specs.Meaning.{ReadGives}
use Rattle.vcd_read.specs.BodyFold.{progress_of, state_of, step}
use Rattle.vcd_read.specs.declared.body_piece.BodyPiece.{BodyPiece}
use Rattle.vcd_read.proofs.BodyLemmas.{BodyContinuesAs-item, body_from-foreign_code, KeepsTaken-same}
use Rattle.vcd_read.proofs.body.Body.foreign.Goals as goal

pub returns-in-Some-clause-rest : goal.returns-in-Some-clause-rest
returns-in-Some-clause-rest g c =
    let old = c.args.self.now in
    let text = old.reader.text in
    let later = c.next.new.self.text in
    let timed = progress_of g.T.ChangeVisitor.taken old.timed in
    let line = line_of text c.args.start in
    let after = c.next.new.self.at in
    let t = token_at text c.in-Some.code.at c.in-Some.code.bytes.now in
    let h = subst (λ (x : BodyPiece). ReadGives (λ _. state_of later timed old.dump_section) c.skip.result
    (step g.T.ChangeVisitor.with_change g.T.ChangeVisitor.with_instant old.codes.now (state_of x timed old.dump_section)
    (skipped (line_of x c.args.start) t.bytes))) c.in-Some.ensures.text c.skip.ensures.step in
    let is = λ (more : List Token). body_from-foreign_code line (left_at text old.reader.at ++ more)
    (left_at text after ++ more)
    t (ap (λ (ts : List Token). ts ++ more) c.in-Some.ensures.token) in
    BodyContinuesAs-item g.T.ChangeVisitor.with_change g.T.ChangeVisitor.with_instant old.codes.now old.codes.now
    (state_of text timed old.dump_section) (state_of later timed old.dump_section) text later after after old.place
    (skipped line t.bytes) _ c.skip.result
    refl c.in-Some.ensures.text refl c.requires.between is h
    (KeepsTaken-same timed c.skip.result)
