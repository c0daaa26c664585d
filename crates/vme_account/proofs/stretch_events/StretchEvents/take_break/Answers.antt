use Rattle.std.proofs.Common.{◌≡◌, ◌-◌, arith, subst, sym}
use Rattle.vme_account.specs.LastEvents.{AreLast}
use Rattle.vme_account.proofs.stretch_events.StretchEvents.take_break.Goals as goal

pub returns-clause-events : goal.returns-clause-events
returns-clause-events c = λ t old at v w time.
    let e = c.args.self.now in
    let before : e.seen ≡ c.args.instant - 1 = omega (arith, at) in record {
      start = omega (arith, old.start, at);
      last =
          subst (λ j. AreLast t e.start j c.take.new.self) (sym at)
          (c.take.ensures t e.start e.seen old.last old.start at v w time);
      before = (omega (arith, old.start, at), subst (λ j. AreLast t e.start j e.last) before old.last);
    }
