use Rattle.std.proofs.Common.{arith}
use Rattle.vme_account.proofs.stretch_events.StretchEvents.begin.Goals as goal

pub returns-clause-events : goal.returns-clause-events
returns-clause-events c = λ t. record {
  start = omega arith;
  last = c.none-self.ensures.last t c.args.self.now.seen;
  before = tt;
}
