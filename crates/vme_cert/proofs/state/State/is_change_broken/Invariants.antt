-- On the lines of the changes so far no rule is broken.
use Rattle.std.proofs.Common.{◌≡◌, ℕ, false, take, true}
use Rattle.vme_cert.specs.Vocabulary.{Rule, Stretch, Trace, is_broken, is_changed}
use Rattle.vme_cert.specs.RulesByLine.{may_be_broken_on}
use Rattle.vme_cert.specs.State.{IsStateOf}
use Rattle.vme_cert.proofs.state.State.is_change_broken.Given as goal

abbrev pub invariant-loop-change : goal.invariant-loop-change
invariant-loop-change l =
    (t : Trace) (stretch : Stretch) (r : Rule) (n : ℕ) → IsStateOf t stretch l.bus l.self
    → is_changed (take l.change-index l.changes) n ≡ true → may_be_broken_on r n ≡ true
    → is_broken t stretch r l.bus.instant n ≡ false
