-- Whether a stretch starts at the instant, which the levels of the bus decide. In both cases `at` says that the
-- checker's bus is that of the recording t, `within` that t has the instant, and `waiting` that the next stretch is
-- awaited from there on; v is the version of the listing.
use Rattle.std.proofs.Common.{◌+◌, ◌∙◌, refl, sym, subst}
use Rattle.vme_cert.specs.Vocabulary.{stretch_from}
use Rattle.vme_cert.specs.Checking.{IsPhase}
use Rattle.vme_cert.specs.declared.checker.CheckPhase.{CheckPhase}
use Rattle.vme_cert.proofs.Checking.{is_idle_at-levels, IsInStretch-start, IsWaiting-next}
use Rattle.vme_cert.proofs.checker.Checker.begin_where_idle.Goals as goal

-- the bus isn't idle: the next stretch is still awaited, from the next instant on
pub returns-then-not-is_idle-clause-checks : goal.returns-then-not-is_idle-clause-checks
returns-then-not-is_idle-clause-checks g c whole v t at within waiting =
    let old = c.args.self.now in
    let n = old.bus.instant in
    record {
      at = at;
      phase_is = subst
          (λ (s : CheckPhase). IsPhase g.S.RowSource.gave g.S.RowSource.is_over whole v t (n + 1) old.outcome
          old.rows s) (sym c.requires.waits) (IsWaiting-next within waiting
          (is_idle_at-levels t old.bus.levels n at.levels ∙ (sym c.is_idle.ensures ∙ c.if-not-is_idle.true)));
    }

-- the bus is idle: a stretch starts here, with the state and the rows of its start
pub returns-clause-checks : goal.returns-clause-checks
returns-clause-checks g c whole v t at within waiting =
    let n = c.args.self.now.bus.instant in
    record {
      at = at;
      phase_is = IsInStretch-start within waiting
          (is_idle_at-levels t c.args.self.now.bus.levels n at.levels
          ∙ (sym c.is_idle.ensures ∙ c.if-not-is_idle.false))
          (c.starting.ensures t (stretch_from t n) at refl)
          (c.start.ensures.rows whole v waiting.done t (stretch_from t n) at refl waiting.rows_are);
    }
