use Rattle.std.proofs.Common.{sym, ◌∙◌, ap, arith}
use Rattle.std.specs.Prelude.{not, ◌==◌, ◌&&◌}
use Rattle.std.proofs.lemmas.Bool.{and_from}
use Rattle.vme_trace.specs.LineNumbers.{grant}
use Rattle.vme_trace.proofs.Ranges.{any-holds}
use Rattle.vme_chains.specs.GrantLevels.{is_low_in}
use Rattle.vme_chains.proofs.grant_levels.is_other_granted.Goals as goal

pub returns-then-is_low : goal.returns-then-is_low
returns-then-is_low c =
    sym
    (any-holds (λ n. not (grant n 0 == c.args.line) && is_low_in c.args.lines.now (grant n 0)) 0 4 c.loop-level.level
    (omega arith) c.loop-level-test.true
    (and_from _ _ (ap (λ l. not (l == c.args.line)) (sym c.grant-net.ensures) ∙ sym c.ne.ensures ∙ c.if-ne.true)
    (ap (is_low_in c.args.lines.now) (sym c.grant-net.ensures) ∙ sym c.is_low.ensures ∙ c.if-is_low.true)))
