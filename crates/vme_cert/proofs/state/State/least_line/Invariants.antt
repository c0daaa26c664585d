-- The rule isn't broken on the lines before the current one.
use Rattle.std.proofs.Common.{◌≡◌, false}
use Rattle.vme_cert.specs.Vocabulary.{Stretch, Trace, any, breaks}
use Rattle.vme_cert.specs.State.{IsStateOf}
use Rattle.vme_cert.proofs.state.State.least_line.Given as goal

abbrev pub invariant-loop-number : goal.invariant-loop-number
invariant-loop-number l = (t : Trace) (stretch : Stretch) → IsStateOf t stretch l.bus l.self
    → any (breaks t stretch l.rule l.bus.instant) l.first l.number ≡ false
