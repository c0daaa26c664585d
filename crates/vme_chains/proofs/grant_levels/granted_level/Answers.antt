use Rattle.std.proofs.Common.{◌≡◌, sym, ◌∙◌, ap, arith}
use Rattle.vme_trace.specs.LineNumbers.{grant}
use Rattle.vme_trace.proofs.Ranges.{least-is, least-none}
use Rattle.vme_chains.specs.GrantLevels.{is_low_in}
use Rattle.vme_chains.proofs.grant_levels.granted_level.Goals as goal

pub returns-then-is_low-clause-level : goal.returns-then-is_low-clause-level
returns-then-is_low-clause-level c =
    sym
    (least-is (λ n. is_low_in c.args.lines.now (grant n 0)) 0 4 c.loop-level.level (omega arith) c.loop-level-test.true
    (ap (is_low_in c.args.lines.now) (sym c.grant.ensures) ∙ sym c.is_low.ensures ∙ c.if-is_low.true)
    c.loop-level.invariant)

pub returns-clause-level : goal.returns-clause-level
returns-clause-level c =
    let e : c.loop-level.level ≡ 4 = omega arith in
    sym (least-none (λ n. is_low_in c.args.lines.now (grant n 0)) 0 4 (rw e at c.loop-level.invariant))
