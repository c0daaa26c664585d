use Rattle.std.proofs.Common.{◌+◌, sym, subst}
use Rattle.vme_account.proofs.LastLemmas.{AreLast-step}
use Rattle.vme_account.specs.LastEvents.{AreLast}
use Rattle.vme_account.proofs.last_events.LastEvents.take.Goals as goal

pub returns : goal.returns
returns c = λ t s i last le at is_v is_w is_time.
    subst (λ e. AreLast t s (i + 1) e) (sym c.note.ensures)
    (AreLast-step t s i le c.args.before.now c.args.after.now c.args.changes.now c.requires is_v is_w _ at is_time
    c.falls.ensures c.falls-2.ensures c.args.self.now last)
