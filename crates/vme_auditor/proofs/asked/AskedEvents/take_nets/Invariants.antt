-- Taking the remaining changes from here gives the events that taking all changes from the start gives.
use Rattle.std.proofs.Common.{◌≡◌, drop}
use Rattle.vme_auditor.specs.Events.{nets_taken}
use Rattle.vme_auditor.proofs.asked.AskedEvents.take_nets.Given as goal

abbrev pub invariant-loop-change : goal.invariant-loop-change
invariant-loop-change l = nets_taken l.before l.after l.self (drop l.change-index l.changes)
    ≡ nets_taken l.before l.after l.fn.self l.changes
