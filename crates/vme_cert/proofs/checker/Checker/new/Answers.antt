use Rattle.std.proofs.Common.{◌∙◌, refl, sym, ap, subst, arith}
use Rattle.vme_cert.specs.Vocabulary.{NeverIdle, Trace, levels_at, with_steps}
use Rattle.vme_cert.specs.Checking.{IsWaiting, at_opening}
use Rattle.vme_cert.specs.declared.bus.Bus.{Bus}
use Rattle.vme_cert.proofs.Checking.{IsWaiting-first}
use Rattle.vme_cert.proofs.checker.Checker.new.Goals as goal

pub returns-clause-taken : goal.returns-clause-taken
unfolding levels_at
returns-clause-taken g c =
    let t = at_opening c.args.opening.now in
    let at = c.opening.ensures.at t refl in
    let instant = ap (λ (b : Bus). b.instant) c.begin_where_idle.ensures.bus in
    record {
      instant = instant ∙ c.opening.ensures.instant;
      levels = ap (λ (b : Bus). b.levels) c.begin_where_idle.ensures.bus
          ∙ (at.levels ∙ ap (levels_at t) c.opening.ensures.instant);
      few = omega (arith, c.begin_where_idle.ensures.few, instant);
    }

pub returns-clause-compared : goal.returns-clause-compared
returns-clause-compared g c whole gave_none more =
    let t : Trace = with_steps (at_opening c.args.opening.now) more in
    let first = c.opening.ensures.instant in
    c.begin_where_idle.ensures.checks whole c.args.version t (c.opening.ensures.at t refl) (omega (arith, first))
    (subst (λ n. IsWaiting g.S.RowSource.gave g.S.RowSource.is_over whole c.args.version t n NeverIdle c.new.result)
    (sym first) (IsWaiting-first (c.new.ensures.rows whole gave_none)))
