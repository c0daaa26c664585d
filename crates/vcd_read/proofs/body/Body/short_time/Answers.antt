-- A time of at most 19 digits is the item that stands there.
use Rattle.std.proofs.Common.{◌≡◌, ◌∷◌, ◌++◌, ◌∙◌, List, ap}
use Rattle.vcd_read.specs.Tokens.{Token}
use Rattle.vcd_read.specs.Reading.{left_at, token_at}
use Rattle.vcd_read.specs.Body.{time_item, time_shape, ready, body_from}
use Rattle.vcd_read.specs.BodyFold.{progress_of}
use Rattle.vcd_read.proofs.BodyLemmas.{BodyContinuesAs-item_at, body_from-shape}
use Rattle.vcd_read.proofs.body.Body.short_time.Goals as goal

pub returns-in-Some-clause-rest : goal.returns-in-Some-clause-rest
returns-in-Some-clause-rest g c =
    let old = c.args.self.now in
    let reader = c.args.reader.now in
    let text = reader.text in
    let after = c.short_time.new.self.at in
    let digits = c.in-Some.ensures.time.0 in
    let t = token_at text reader.at c.in-Some.ensures.time.2.0 in
    let new = c.go_to.new.self in
    let is : (more : List Token) → body_from ready (left_at text reader.at ++ more) ≡ time_item t.line digits
    ∷ body_from ready (left_at text after ++ more) =
    λ more. ap (λ (ts : List Token). body_from ready (ts ++ more)) c.in-Some.ensures.time.2.2
    ∙ body_from-shape t (left_at text after ++ more) (time_shape digits) c.in-Some.ensures.time.2.1 in
    let step = rw (c.go_to.ensures.same.0, ← c.requires.text) at c.go_to.ensures.step digits c.in-Some.ensures.time.1 in
    BodyContinuesAs-item_at g.T.ChangeVisitor.with_change g.T.ChangeVisitor.with_instant old.codes.now new.codes.now
    (progress_of g.T.ChangeVisitor.taken old.timed) (progress_of g.T.ChangeVisitor.taken new.timed)
    old.dump_section new.dump_section text c.short_time.new.self.text after
    (time_item t.line digits) _ c.go_to.result (cc) c.in-Some.ensures.text is step c.go_to.ensures.kept
