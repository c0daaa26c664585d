use Rattle.std.proofs.Common.{◌∙◌, ◌≤◌, ◌&&◌, Bool, ap, arith, length, sym}
use Rattle.std.specs.List.{starts_with}
use Rattle.std.specs.Prelude.{nat_eq}
use Rattle.vme_declarations.proofs.ScopeLemmas.{starts_with-cut}
use Rattle.vme_declarations.proofs.scope_search.begin_with.Goals as goal

pub returns-then-eq : goal.returns-then-eq
returns-then-eq c =
    let front = c.args.front.now in
    let le : length c.args.outer.now ≤ length front = omega (arith, c.if-front-outer.false) in
    c.starts_with-then-eq.ensures.value
    ∙ sym (starts_with-cut front c.args.outer.now c.args.inner.now _ _ le c.split_at.ensures.front
    c.split_at.ensures.back
    ∙ ap (λ (b : Bool). b && starts_with nat_eq c.args.inner.now c.split_at.result.1.now)
    (sym c.eq.ensures ∙ c.if-eq.true))

pub returns-else-eq : goal.returns-else-eq
returns-else-eq c =
    let front = c.args.front.now in
    let le : length c.args.outer.now ≤ length front = omega (arith, c.if-front-outer.false) in
    c.if-eq.false
    ∙ sym (starts_with-cut front c.args.outer.now c.args.inner.now _ _ le c.split_at.ensures.front
    c.split_at.ensures.back
    ∙ ap (λ (b : Bool). b && starts_with nat_eq c.args.inner.now c.split_at.result.1.now)
    (sym c.eq.ensures ∙ c.if-eq.false))
