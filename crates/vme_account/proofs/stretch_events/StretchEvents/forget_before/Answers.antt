use Rattle.std.proofs.Common.{ap}
use Rattle.std.specs.Prelude.{Option}
use Rattle.vme_account.specs.declared.last_events.LastEvents.{LastEvents}
use Rattle.vme_account.proofs.stretch_events.StretchEvents.forget_before.Goals as goal

pub returns-in-None : goal.returns-in-None
returns-in-None c = ap (λ (b : Option LastEvents). record c.args.self.now { before = b }) c.in-None.is
