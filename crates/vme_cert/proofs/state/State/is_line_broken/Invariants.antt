-- None of the rules before the current one is broken.
use Rattle.std.proofs.Common.{◌≡◌, ℕ, ◌<◌, false, get_or}
use Rattle.vme_cert.specs.Vocabulary.{Stretch, Trace, U1, is_broken}
use Rattle.vme_cert.specs.RulesByLine.{rules_on}
use Rattle.vme_cert.specs.State.{IsStateOf}
use Rattle.vme_cert.proofs.state.State.is_line_broken.Given as goal

abbrev pub invariant-loop-rule : goal.invariant-loop-rule
invariant-loop-rule l = record {
  rules : l.rule-items ≡ rules_on l.line;
  kept : (k : ℕ) → k < l.rule-index → (t : Trace) (stretch : Stretch) → IsStateOf t stretch l.bus l.self
      → is_broken t stretch (get_or l.rule-items k U1) l.bus.instant l.line ≡ false;
}
