-- By the place at which the previous piece ends: between two items nothing is read, and within one its rest is.
use Rattle.std.proofs.Common.{◌∙◌, sym, ap}
use Rattle.vcd_read.specs.Body.{BodyPlace, code_of_vector}
use Rattle.vcd_read.specs.Bodies.{place_of}
use Rattle.vcd_read.specs.BodyPieces.{rest_in}
use Rattle.vcd_read.proofs.BodyLemmas.{BodyContinuesAs-same}
use Rattle.vcd_read.proofs.body.Body.resume.Goals as goal

pub returns-in-Ready-clause-rest : goal.returns-in-Ready-clause-rest
returns-in-Ready-clause-rest g c =
    let old = c.args.self.now in
    λ more. ap (λ (p : BodyPlace). rest_in g.T.ChangeVisitor.with_change g.T.ChangeVisitor.with_instant
    g.T.ChangeVisitor.taken old p old.reader more)
    (ap place_of (sym c.in-Ready.ensures.value ∙ sym c.replace.ensures.after))

pub returns-in-Vector-clause-rest : goal.returns-in-Vector-clause-rest
returns-in-Vector-clause-rest g c =
    let old = c.args.self.now in
    BodyContinuesAs-same _ _ _ _ _ c.vector.result
    (λ more. ap (λ (p : BodyPlace). rest_in g.T.ChangeVisitor.with_change g.T.ChangeVisitor.with_instant
    g.T.ChangeVisitor.taken old p old.reader more) (ap place_of (sym c.in-Vector.ensures.value)
    ∙ ap (code_of_vector c.in-Vector.digits.line) (sym c.as_slice.ensures.value)))
    c.vector.ensures.rest

pub returns-in-Foreign-clause-rest : goal.returns-in-Foreign-clause-rest
returns-in-Foreign-clause-rest g c =
    let old = c.args.self.now in
    BodyContinuesAs-same _ _ _ _ _ c.foreign.result
    (λ more. ap (λ (p : BodyPlace). rest_in g.T.ChangeVisitor.with_change g.T.ChangeVisitor.with_instant
    g.T.ChangeVisitor.taken old p old.reader more) (ap place_of (sym c.in-Foreign.ensures.value)))
    c.foreign.ensures.rest

pub returns-in-Comment-clause-rest : goal.returns-in-Comment-clause-rest
returns-in-Comment-clause-rest g c =
    let old = c.args.self.now in
    BodyContinuesAs-same _ _ _ _ _ c.comment.result
    (λ more. ap (λ (p : BodyPlace). rest_in g.T.ChangeVisitor.with_change g.T.ChangeVisitor.with_instant
    g.T.ChangeVisitor.taken old p old.reader more) (ap place_of (sym c.in-Comment.ensures.value)))
    c.comment.ensures.rest
