-- A scalar change, or a change of a vector and its code, is the item that stands there.
use Rattle.std.proofs.Common.{◌≡◌, ◌∷◌, ◌++◌, ◌∙◌, List, ap}
use Rattle.vcd_read.specs.Tokens.{Token}
use Rattle.vcd_read.specs.Reading.{left_at, token_at}
use Rattle.vcd_read.specs.Body.{change, scalar, vector, ready, body_from}
use Rattle.vcd_read.specs.BodyFold.{progress_of}
use Rattle.vcd_read.proofs.BodyLemmas.{BodyContinuesAs-item_at, body_from-shape, body_from-vector_code}
use Rattle.vcd_read.proofs.body.Body.short_change.Goals as goal

pub returns-in-Some-clause-rest : goal.returns-in-Some-clause-rest
returns-in-Some-clause-rest g c =
    let old = c.args.self.now in
    let reader = c.args.reader.now in
    let text = reader.text in
    let after = c.short_change.new.self.at in
    let digit = c.in-Some.digit.now in
    let code = c.in-Some.code.now in
    let t = token_at text reader.at c.in-Some.ensures.shape.0 in
    let new = c.change.new.self in
    let is : (more : List Token) → body_from ready (left_at text reader.at ++ more) ≡ change t.line digit code
    ∷ body_from ready (left_at text after ++ more) =
    λ more. ap (λ (ts : List Token). body_from ready (ts ++ more)) c.in-Some.ensures.shape.2
    ∙ body_from-shape t (left_at text after ++ more) (scalar digit code) c.in-Some.ensures.shape.1 in
    let step = rw (c.change.ensures.same.0, ← c.requires.text) at c.change.ensures.step in
    BodyContinuesAs-item_at g.T.ChangeVisitor.with_change g.T.ChangeVisitor.with_instant old.codes.now new.codes.now
    (progress_of g.T.ChangeVisitor.taken old.timed) (progress_of g.T.ChangeVisitor.taken new.timed)
    old.dump_section new.dump_section text c.short_change.new.self.text after
    (change t.line digit code) _ c.change.result (cc) c.in-Some.ensures.text is step c.change.ensures.kept

pub returns-in-Some-next-clause-rest : goal.returns-in-Some-next-clause-rest
returns-in-Some-next-clause-rest g c =
    let old = c.args.self.now in
    let reader = c.args.reader.now in
    let text = reader.text in
    let middle = c.vector_digits.new.self.at in
    let after = c.next.new.self.at in
    let t = token_at text reader.at c.in-Some-vector_digits.ensures.shape.0 in
    let code = token_at text c.in-Some-next.code.at c.in-Some-next.code.bytes.now in
    let digits = c.in-Some-vector_digits.digits.now in
    let new = c.change-in-Some-next.new.self in
    let cut : left_at text reader.at ≡ t ∷ left_at text middle = rw (
      c.in_default.ensures.text,
      c.in_default.ensures.none,
    ) at c.in-Some-vector_digits.ensures.shape.2 in
    let text_is = c.in-Some-vector_digits.ensures.text ∙ c.in_default.ensures.text in
    let behind : left_at text middle ≡ code ∷ left_at text after = rw text_is at c.in-Some-next.ensures.token in
    let is : (more : List Token) → body_from ready (left_at text reader.at ++ more) ≡ change t.line digits code.bytes
    ∷ body_from ready (left_at text after ++ more) =
    λ more. ap (λ (ts : List Token). body_from ready (ts ++ more)) cut ∙ body_from-shape t (left_at text middle ++ more)
    (vector digits) c.in-Some-vector_digits.ensures.shape.1
    ∙ body_from-vector_code t.line digits (left_at text middle ++ more) (left_at text after ++ more) code
    (ap (λ (ts : List Token). ts ++ more) behind) in
    let step = rw (c.change-in-Some-next.ensures.same.0, ← c.requires.text) at c.change-in-Some-next.ensures.step in
    BodyContinuesAs-item_at g.T.ChangeVisitor.with_change g.T.ChangeVisitor.with_instant old.codes.now new.codes.now
    (progress_of g.T.ChangeVisitor.taken old.timed) (progress_of g.T.ChangeVisitor.taken new.timed)
    old.dump_section new.dump_section text c.next.new.self.text after
    (change t.line digits code.bytes) _ c.change-in-Some-next.result (cc)
    (c.in-Some-next.ensures.text ∙ text_is) is step c.change-in-Some-next.ensures.kept
