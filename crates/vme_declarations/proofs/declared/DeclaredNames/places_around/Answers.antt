use Rattle.std.proofs.Common.{◌≡◌, ◌-◌, ◌<◌, List, ap, arith, length}
use Rattle.vme_declarations.specs.Names.{scopes}
use Rattle.vme_declarations.specs.declared.declared.Scope.{Scope}
use Rattle.vme_declarations.proofs.PathLemmas.{places_around-all, places_around-outermost, places_around-added}
use Rattle.vme_declarations.proofs.declared.DeclaredNames.places_around.Goals as goal

pub returns-then-parent : goal.returns-then-parent
returns-then-parent c =
    let count = ap (λ (ss : List Scope). length ss) c.scopes-passed-end.ensures in
    let lt : c.loop-passed.passed < length (scopes c.args.self.now) = omega (arith, count, c.loop-passed-test.true) in
    places_around-outermost c.args.self.now c.loop-passed.around.items _ _ c.loop-passed.passed c.loop-passed.at
    c.parent_of-parent.result lt c.parent_of-parent.ensures c.if-parent.true c.loop-passed.invariant

pub loop-passed-preserved : goal.loop-passed-preserved
loop-passed-preserved c =
    let count = ap (λ (ss : List Scope). length ss) c.scopes-passed-end.ensures in
    let lt : c.loop-passed.passed < length (scopes c.args.self.now) = omega (arith, count, c.loop-passed-test.true) in
    places_around-added c.args.self.now c.loop-passed.around.items c.push.new.self.items _ _ c.loop-passed.passed
    c.loop-passed.at c.parent_of-parent.result lt c.in_ok-push.ensures.items c.parent_of-parent.ensures
    c.if-parent.false c.loop-passed.invariant

pub returns : goal.returns
returns c =
    let count = ap (λ (ss : List Scope). length ss) c.scopes-passed-end.ensures in
    let all : length (scopes c.args.self.now) - c.loop-passed.passed ≡ 0 =
    omega (arith, count, c.loop-passed-test.false) in
    places_around-all c.args.self.now c.loop-passed.around.items _ _ c.loop-passed.passed c.loop-passed.at all
    c.loop-passed.invariant
