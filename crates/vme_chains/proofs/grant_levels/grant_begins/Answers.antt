use Rattle.std.proofs.Common.{sym, ◌∙◌, ap, arith}
use Rattle.vme_trace.specs.LineNumbers.{grant}
use Rattle.vme_trace.proofs.Ranges.{any-holds}
use Rattle.vme_chains.specs.GrantLevels.{falls_between}
use Rattle.vme_chains.proofs.grant_levels.grant_begins.Goals as goal

pub returns-then-falls : goal.returns-then-falls
returns-then-falls c =
    sym
    (any-holds (λ n. falls_between c.args.before.now c.args.after.now (grant n 0)) 0 4 c.loop-level.level (omega arith)
    c.loop-level-test.true
    (ap (falls_between c.args.before.now c.args.after.now) (sym c.grant.ensures) ∙ sym c.falls.ensures
    ∙ c.if-falls.true))
