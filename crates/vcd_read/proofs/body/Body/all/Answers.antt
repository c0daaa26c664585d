-- A fault of the item that is resumed, or of a later one, is the first fault of the body from the start of the piece
-- on. Without one, reading on gives what reading from the start of the piece gives.
use Rattle.std.proofs.Common.{◌∙◌}
use Rattle.vcd_read.proofs.BodyLemmas.{Stops-same, BodyContinuesAs-error}
use Rattle.vcd_read.proofs.body.Body.all.Goals as goal

pub returns-in_err-resume-clause-rest : goal.returns-in_err-resume-clause-rest
returns-in_err-resume-clause-rest g c = BodyContinuesAs-error _ _ _ _ c.from_residual.result c.in_err-resume.field-0.0
    c.from_residual.ensures.1 c.in_err-resume.ensures.rest

pub returns-in_err-one-clause-rest : goal.returns-in_err-one-clause-rest
returns-in_err-one-clause-rest g c =
    let fault = c.in_err-one.field-0.0 in
    BodyContinuesAs-error _ _ _ _ c.from_residual-in_err-one.result fault c.from_residual-in_err-one.ensures.1
    (λ more. Stops-same fault _ _ _ _ (c.loop-self.invariant.rest more) (c.in_err-one.ensures.rest more))

pub returns-in_err-short_items-clause-rest : goal.returns-in_err-short_items-clause-rest
returns-in_err-short_items-clause-rest g c =
    let fault = c.in_err-short_items.field-0.0 in
    let between = c.in_ok-one.ensures.between (cc c.if-branch.true) in
    let one = rw between at c.in_ok-one.ensures.rest in
    BodyContinuesAs-error _ _ _ _ c.from_residual-in_err-short_items.result fault
    c.from_residual-in_err-short_items.ensures.1
    (λ more. Stops-same fault _ _ _ _ (c.loop-self.invariant.rest more ∙ one more)
    (c.in_err-short_items.ensures.rest more))

pub loop-self-preserved : goal.loop-self-preserved
loop-self-preserved g c =
    let between = c.in_ok-one.ensures.between (cc c.if-branch.true) in
    let one = rw between at c.in_ok-one.ensures.rest in
    let short = c.in_ok-short_items.ensures in
    record {
      codes = short.codes ∙ c.in_ok-one.ensures.codes ∙ c.loop-self.invariant.codes;
      text = short.text ∙ c.in_ok-one.ensures.text ∙ c.loop-self.invariant.text;
      between = short.between;
      rest = λ more. rw short.between (c.loop-self.invariant.rest more ∙ one more ∙ short.rest more);
    }

pub returns-clause-rest : goal.returns-clause-rest
returns-clause-rest g c = λ more. c.loop-self.invariant.rest more ∙ c.in_ok-one.ensures.rest more
