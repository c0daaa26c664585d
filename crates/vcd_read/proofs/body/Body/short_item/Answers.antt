-- No token is left in the piece, or the next one begins with `#`, as a time does, or is tried as a change.
use Rattle.std.proofs.Common.{◌++◌, List, sym, ap}
use Rattle.vcd_read.specs.Tokens.{Token}
use Rattle.vcd_read.specs.Bodies.{until_fault}
use Rattle.vcd_read.specs.Body.{body_from, ready}
use Rattle.vcd_read.specs.BodyFold.{progress_of, state_of}
use Rattle.vcd_read.proofs.BodyLemmas.{BodyContinuesAs-same}
use Rattle.vcd_read.proofs.body.Body.short_item.Goals as goal

pub returns-then-not-finds_token-clause-rest : goal.returns-then-not-finds_token-clause-rest
returns-then-not-finds_token-clause-rest g c =
    let old = c.args.self.now in
    λ more.
    rw c.finds_token.ensures.text
    (ap (λ (ts : List Token). until_fault g.T.ChangeVisitor.with_change g.T.ChangeVisitor.with_instant old.codes.now
    (state_of c.args.reader.now.text (progress_of g.T.ChangeVisitor.taken old.timed) old.dump_section)
    (body_from ready (ts ++ more))) (sym c.finds_token.ensures.left))

pub returns-then-reader-eq35-clause-rest : goal.returns-then-reader-eq35-clause-rest
returns-then-reader-eq35-clause-rest g c =
    let old = c.args.self.now in
    BodyContinuesAs-same _ _ _ _ _ c.short_time.result
    (λ more. rw c.finds_token.ensures.text
    (ap (λ (ts : List Token). until_fault g.T.ChangeVisitor.with_change g.T.ChangeVisitor.with_instant old.codes.now
    (state_of c.args.reader.now.text (progress_of g.T.ChangeVisitor.taken old.timed) old.dump_section)
    (body_from ready (ts ++ more))) (sym c.finds_token.ensures.left)))
    c.short_time.ensures.rest

pub returns-clause-rest : goal.returns-clause-rest
returns-clause-rest g c =
    let old = c.args.self.now in
    BodyContinuesAs-same _ _ _ _ _ c.short_change.result
    (λ more. rw c.finds_token.ensures.text
    (ap (λ (ts : List Token). until_fault g.T.ChangeVisitor.with_change g.T.ChangeVisitor.with_instant old.codes.now
    (state_of c.args.reader.now.text (progress_of g.T.ChangeVisitor.taken old.timed) old.dump_section)
    (body_from ready (ts ++ more))) (sym c.finds_token.ensures.left)))
    c.short_change.ensures.rest
