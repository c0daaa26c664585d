use Rattle.std.proofs.Common.{arith}
use Rattle.vme_account.proofs.stretch_events.StretchEvents.none.Goals as goal

pub returns-clause-events : goal.returns-clause-events
returns-clause-events c = λ t. record { start = omega arith; last = c.none.ensures.last t 0; before = tt }
