-- By the shape of the token: reading from the token on gives what its item gives, and then the rest of the piece.
use Rattle.std.proofs.Common.{◌∙◌, ◌++◌, List, sym, ap}
use Rattle.vcd_read.specs.Tokens.{Token}
use Rattle.vcd_read.specs.Reading.{left_at, token_at}
use Rattle.vcd_read.specs.Body.{time_item, change, dump_section_open, dump_section_end, time_shape, scalar, vector}
use Rattle.vcd_read.specs.Body.{foreign, comment, open_shape, end_shape, none}
use Rattle.vcd_read.specs.Shapes.{found_shape}
use Rattle.vcd_read.specs.Bodies.{until_fault}
use Rattle.vcd_read.specs.BodyPieces.{state_in}
use Rattle.vcd_read.proofs.BodyLemmas.{BodyContinuesAs-item, body_from-shape, BodyContinuesAs-same, steps-wrong}
use Rattle.vcd_read.proofs.body.Body.item.Goals as goal

pub returns-in-Time-clause-rest : goal.returns-in-Time-clause-rest
returns-in-Time-clause-rest g c =
    let old = c.args.self.now in
    let text = old.reader.text in
    let t = token_at text c.args.token.at c.args.token.bytes.now in
    let is = λ (more : List Token). body_from-shape t (left_at text old.reader.at ++ more)
    (time_shape c.in-Time.digits.now)
    (sym (ap found_shape c.in-Time.is) ∙ c.shape_of.ensures) in
    let new = c.time.new.self in
    BodyContinuesAs-item g.T.ChangeVisitor.with_change g.T.ChangeVisitor.with_instant old.codes.now new.codes.now
    (state_in g.T.ChangeVisitor.taken old) (state_in g.T.ChangeVisitor.taken new)
    text new.reader.text old.reader.at new.reader.at new.place (time_item t.line c.in-Time.digits.now) _ c.time.result
    (cc) (cc) (cc) (cc) is c.time.ensures.step c.time.ensures.kept

pub returns-in-Scalar-clause-rest : goal.returns-in-Scalar-clause-rest
returns-in-Scalar-clause-rest g c =
    let old = c.args.self.now in
    let text = old.reader.text in
    let t = token_at text c.args.token.at c.args.token.bytes.now in
    let is = λ (more : List Token). body_from-shape t (left_at text old.reader.at ++ more)
    (scalar c.in-Scalar.digit.now c.in-Scalar.code.now) (sym (ap found_shape c.in-Scalar.is) ∙ c.shape_of.ensures) in
    let new = c.change.new.self in
    BodyContinuesAs-item g.T.ChangeVisitor.with_change g.T.ChangeVisitor.with_instant old.codes.now new.codes.now
    (state_in g.T.ChangeVisitor.taken old) (state_in g.T.ChangeVisitor.taken new) text new.reader.text
    old.reader.at new.reader.at new.place (change t.line c.in-Scalar.digit.now c.in-Scalar.code.now) _ c.change.result
    (cc) (cc) (cc) (cc) is c.change.ensures.step c.change.ensures.kept

pub returns-in-Opens-clause-rest : goal.returns-in-Opens-clause-rest
returns-in-Opens-clause-rest g c =
    let old = c.args.self.now in
    let text = old.reader.text in
    let t = token_at text c.args.token.at c.args.token.bytes.now in
    let is = λ (more : List Token). body_from-shape t (left_at text old.reader.at ++ more) open_shape
    (sym (ap found_shape c.in-Opens.is) ∙ c.shape_of.ensures) in
    let new = c.open.new.self in
    BodyContinuesAs-item g.T.ChangeVisitor.with_change g.T.ChangeVisitor.with_instant old.codes.now new.codes.now
    (state_in g.T.ChangeVisitor.taken old) (state_in g.T.ChangeVisitor.taken new)
    text new.reader.text old.reader.at new.reader.at new.place (dump_section_open t.line) _ c.open.result
    (cc) (cc) (cc) (cc) is c.open.ensures.step c.open.ensures.kept

pub returns-in-Ends-clause-rest : goal.returns-in-Ends-clause-rest
returns-in-Ends-clause-rest g c =
    let old = c.args.self.now in
    let text = old.reader.text in
    let t = token_at text c.args.token.at c.args.token.bytes.now in
    let is = λ (more : List Token). body_from-shape t (left_at text old.reader.at ++ more) end_shape
    (sym (ap found_shape c.in-Ends.is) ∙ c.shape_of.ensures) in
    let new = c.close.new.self in
    BodyContinuesAs-item g.T.ChangeVisitor.with_change g.T.ChangeVisitor.with_instant old.codes.now new.codes.now
    (state_in g.T.ChangeVisitor.taken old) (state_in g.T.ChangeVisitor.taken new)
    text new.reader.text old.reader.at new.reader.at new.place (dump_section_end t.line) _ c.close.result
    (cc) (cc) (cc) (cc) is c.close.ensures.step c.close.ensures.kept

pub returns-in-Vector-clause-rest : goal.returns-in-Vector-clause-rest
returns-in-Vector-clause-rest g c =
    let old = c.args.self.now in
    let text = old.reader.text in
    let t = token_at text c.args.token.at c.args.token.bytes.now in
    let is = λ (more : List Token). body_from-shape t (left_at text old.reader.at ++ more)
    (vector c.in-Vector.digits.now)
    (sym (ap found_shape c.in-Vector.is) ∙ c.shape_of.ensures) in
    BodyContinuesAs-same _ _ _ _ _ c.vector.result
    (λ more. ap (until_fault g.T.ChangeVisitor.with_change g.T.ChangeVisitor.with_instant old.codes.now
    (state_in g.T.ChangeVisitor.taken old)) (is more)) c.vector.ensures.rest

pub returns-in-Foreign-clause-rest : goal.returns-in-Foreign-clause-rest
returns-in-Foreign-clause-rest g c =
    let old = c.args.self.now in
    let text = old.reader.text in
    let t = token_at text c.args.token.at c.args.token.bytes.now in
    let is = λ (more : List Token). body_from-shape t (left_at text old.reader.at ++ more) foreign
    (sym (ap found_shape c.in-Foreign.is) ∙ c.shape_of.ensures) in
    BodyContinuesAs-same _ _ _ _ _ c.foreign.result
    (λ more. ap (until_fault g.T.ChangeVisitor.with_change g.T.ChangeVisitor.with_instant old.codes.now
    (state_in g.T.ChangeVisitor.taken old)) (is more)) c.foreign.ensures.rest

pub returns-in-Comment-clause-rest : goal.returns-in-Comment-clause-rest
returns-in-Comment-clause-rest g c =
    let old = c.args.self.now in
    let text = old.reader.text in
    let t = token_at text c.args.token.at c.args.token.bytes.now in
    let is = λ (more : List Token). body_from-shape t (left_at text old.reader.at ++ more) comment
    (sym (ap found_shape c.in-Comment.is) ∙ c.shape_of.ensures) in
    BodyContinuesAs-same _ _ _ _ _ c.comment.result
    (λ more. ap (until_fault g.T.ChangeVisitor.with_change g.T.ChangeVisitor.with_instant old.codes.now
    (state_in g.T.ChangeVisitor.taken old)) (is more)) c.comment.ensures.rest

pub returns-in-Unknown-clause-rest : goal.returns-in-Unknown-clause-rest
returns-in-Unknown-clause-rest g c =
    let old = c.args.self.now in
    let text = old.reader.text in
    let t = token_at text c.args.token.at c.args.token.bytes.now in
    let is = λ (more : List Token). body_from-shape t (left_at text old.reader.at ++ more) none
    (sym (ap found_shape c.in-Unknown.is) ∙ c.shape_of.ensures) in
    rw c.fault.ensures (λ more. steps-wrong g.T.ChangeVisitor.with_change g.T.ChangeVisitor.with_instant old.codes.now
    (state_in g.T.ChangeVisitor.taken old) t.line _ _ _ (is more))
