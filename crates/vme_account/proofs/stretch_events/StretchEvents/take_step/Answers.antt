use Rattle.std.proofs.Common.{ap, arith, subst, sym}
use Rattle.vme_account.specs.LastEvents.{AreLast}
use Rattle.vme_account.specs.StretchEvents.{AreEvents}
use Rattle.vme_account.specs.declared.stretch_events.StretchEvents.{StretchEvents}
use Rattle.vme_account.proofs.stretch_events.StretchEvents.take_step.Goals as goal

pub returns-clause-events : goal.returns-clause-events
returns-clause-events c = λ t old at v w time.
    let e = c.args.self.now in
    subst (λ (f : StretchEvents). AreEvents t f) (sym c.forget_before.ensures) (record {
      start = omega (arith, old.start, at);
      last =
          subst (λ j. AreLast t e.start j c.take.new.self) (sym at)
          (c.take.ensures t e.start e.seen old.last old.start at v w time);
      before = tt;
    })

pub returns-clause-seen : goal.returns-clause-seen
returns-clause-seen c = ap (λ (f : StretchEvents). f.seen) c.forget_before.ensures
