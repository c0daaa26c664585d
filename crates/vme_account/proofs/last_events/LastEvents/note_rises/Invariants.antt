-- Noting the remaining changes from here gives the rises that noting all changes from the start gives.
use Rattle.std.proofs.Common.{◌≡◌, drop}
use Rattle.vme_chains.specs.GrantLevels.{rises_between}
use Rattle.vme_account.specs.LastEvents.{noted}
use Rattle.vme_account.proofs.last_events.LastEvents.note_rises.Given as goal

abbrev pub invariant-loop-change : goal.invariant-loop-change
invariant-loop-change l =
    record l.self {
      rises = noted (rises_between l.before l.after) l.moment l.self.rises (drop l.change-index l.changes);
    }
    ≡ record l.fn.self { rises = noted (rises_between l.before l.after) l.moment l.fn.self.rises l.changes }
