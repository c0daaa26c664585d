-- None of the rules before the current one is broken.
use Rattle.std.proofs.Common.{◌≡◌, drop}
use Rattle.vme_cert.specs.Vocabulary.{Stretch, Trace, all_rules, break_at}
use Rattle.vme_cert.specs.State.{IsStateOf}
use Rattle.vme_cert.proofs.state.State.break_at.Given as goal

abbrev pub invariant-loop-place : goal.invariant-loop-place
invariant-loop-place l =
    (t : Trace) (stretch : Stretch) → IsStateOf t stretch l.bus l.self
    → break_at t stretch (drop l.place all_rules) l.bus.instant ≡ break_at t stretch all_rules l.bus.instant
