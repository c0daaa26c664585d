use Rattle.std.proofs.Common.{◌≡◌, ℕ, ◌∙◌, ap, arith}
use Rattle.vme_declarations.specs.Found.{groups_below}
use Rattle.vme_declarations.proofs.found_lines.FoundLines.groups.Goals as goal

pub returns : goal.returns
returns c =
    let all : c.loop-number.number ≡ 192 = omega (arith, c.loop-number-test.false, c.loop-number.auto.number-end) in
    c.loop-number.invariant ∙ ap (λ (k : ℕ). groups_below c.args.self.now k) all
