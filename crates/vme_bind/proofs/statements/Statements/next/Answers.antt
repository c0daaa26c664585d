use Rattle.std.proofs.Common.{◌≡◌, length, sym, ◌∙◌, arith}
use Rattle.vme_bind.proofs.TextLemmas.{statements_from-empty}
use Rattle.vme_bind.proofs.statements.Statements.next.Goals as goal

pub returns-clause-left : goal.returns-clause-left
returns-clause-left c =
    let none : length c.loop-line.self.rest.now ≡ 0 = grind arith in
    sym c.loop-line.invariant.left ∙ statements_from-empty c.loop-line.self.line c.loop-line.self.rest.now none
