-- Each short item that is read is one of the body's; the first fault is the body's; and the body goes on from where the
-- reader of the short items stands.
use Rattle.std.proofs.Common.{◌≡◌, ◌++◌, ◌∙◌, List, ap, arith, refl, sym, ℕ}
use Rattle.vcd_read.specs.Tokens.{Token}
use Rattle.vcd_read.specs.Bodies.{until_fault}
use Rattle.vcd_read.specs.Body.{body_from, ready}
use Rattle.vcd_read.specs.Reading.{left_at}
use Rattle.vcd_read.specs.BodyFold.{progress_of, state_of}
use Rattle.vcd_read.specs.declared.body_piece.BodyPiece.{BodyPiece}
use Rattle.vcd_read.specs.declared.token.Reader.{Reader}
use Rattle.vcd_read.proofs.BodyLemmas.{Stops-same, BodyContinuesAs-error}
use Rattle.vcd_read.proofs.body.Body.short_items.Goals as goal

pub loop-init : goal.loop-init
loop-init g c =
    let old = c.args.self.now in
    let again = c.again-reader.result in
    let s = λ (p : BodyPiece) (at : ℕ) (more : List Token). until_fault g.T.ChangeVisitor.with_change
    g.T.ChangeVisitor.with_instant old.codes.now
    (state_of p (progress_of g.T.ChangeVisitor.taken old.timed) old.dump_section)
    (body_from ready (left_at p at ++ more)) in
    record {
      codes = refl;
      still = refl;
      text = c.again-reader.ensures.text;
      forward = omega (arith, c.again-reader.ensures.at);
      between = c.requires;
      rest = λ more. sym (ap (λ (p : BodyPiece). s p old.reader.at more) c.again-reader.ensures.text)
          ∙ sym (ap (λ (at : ℕ). s again.text at more) c.again-reader.ensures.at);
    }

pub returns-in_err-short_item-clause-rest : goal.returns-in_err-short_item-clause-rest
returns-in_err-short_item-clause-rest g c =
    let fault = c.in_err-short_item.field-0.0 in
    BodyContinuesAs-error _ _ _ _ c.from_residual.result fault c.from_residual.ensures.1
    (λ more. Stops-same fault _ _ _ _ (c.loop.invariant.rest more) (c.in_err-short_item.ensures.rest more))

pub loop-preserved : goal.loop-preserved
loop-preserved g c =
    let read = c.in_ok-short_item.ensures in
    record {
      codes = read.same.1 ∙ c.loop.invariant.codes;
      still = read.same.0 ∙ c.loop.invariant.still;
      text = read.text ∙ c.loop.invariant.text;
      forward = omega (arith, c.loop.invariant.forward, read.forward);
      between = read.same.2 ∙ c.loop.invariant.between;
      rest = λ more. c.loop.invariant.rest more ∙ read.rest more;
    }

pub returns-clause-rest : goal.returns-clause-rest
returns-clause-rest g c =
    let new = c.short_item.new.self in
    let read = c.in_ok-short_item.ensures in
    let same : c.short_item.new.reader.text ≡ new.reader.text = read.text ∙ c.loop.invariant.text
    ∙ sym (ap (λ (r : Reader). r.text) (read.same.0 ∙ c.loop.invariant.still)) in
    λ more. c.loop.invariant.rest more ∙ read.rest more
    ∙ ap (λ (p : BodyPiece). until_fault g.T.ChangeVisitor.with_change g.T.ChangeVisitor.with_instant new.codes.now
    (state_of p (progress_of g.T.ChangeVisitor.taken new.timed) new.dump_section)
    (body_from ready (left_at p c.short_item.new.reader.at ++ more))) same
