-- No token is left in the piece, or the item that the next token is or begins is read.
use Rattle.std.proofs.Common.{◌++◌, ◌∙◌, List, sym, ap}
use Rattle.vcd_read.specs.Tokens.{Token}
use Rattle.vcd_read.specs.Bodies.{place_of, until_fault}
use Rattle.vcd_read.specs.Body.{body_from, ready}
use Rattle.vcd_read.specs.BodyPieces.{state_in}
use Rattle.vcd_read.proofs.BodyLemmas.{BodyContinuesAs-same}
use Rattle.vcd_read.proofs.body.Body.one.Goals as goal

pub returns-then-not-finds_token-clause-end : goal.returns-then-not-finds_token-clause-end
returns-then-not-finds_token-clause-end g c = rw c.finds_token.ensures.text (λ _. c.finds_token.ensures.left
    ∙ c.finds_token.ensures.end (cc))

pub returns-then-not-finds_token-clause-rest : goal.returns-then-not-finds_token-clause-rest
returns-then-not-finds_token-clause-rest g c =
    let old = c.args.self.now in
    λ more.
    rw c.finds_token.ensures.text
    (ap (λ (ts : List Token). until_fault g.T.ChangeVisitor.with_change g.T.ChangeVisitor.with_instant old.codes.now
    (state_in g.T.ChangeVisitor.taken old) (body_from (place_of old.place) (ts ++ more)))
    (sym c.finds_token.ensures.left))

pub returns-clause-rest : goal.returns-clause-rest
returns-clause-rest g c =
    let old = c.args.self.now in
    let cut = sym c.finds_token.ensures.left ∙ rw c.finds_token.ensures.text at c.word-bytes.ensures.token in
    BodyContinuesAs-same _ _ _ _ _ c.item.result
    (λ more. rw (c.requires, c.word-bytes.ensures.text, c.finds_token.ensures.text)
    (ap (λ (ts : List Token). until_fault g.T.ChangeVisitor.with_change g.T.ChangeVisitor.with_instant old.codes.now
    (state_in g.T.ChangeVisitor.taken old) (body_from ready (ts ++ more))) cut))
    c.item.ensures.rest
