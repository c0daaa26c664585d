-- If the events are those of the definitions, the rules whose event didn't happen are those that aren't asked.
use Rattle.std.proofs.Common.{◌≡◌, List, not, ap}
use Rattle.std.specs.Prelude.{filter}
use Rattle.std.proofs.lemmas.List.Elements.{filter_agree}
use Rattle.vme_trace.specs.Rules.{all_rules}
use Rattle.vme_trace.specs.Trace.{Trace}
use Rattle.vme_trace.specs.declared.rule.Rule.{Rule}
use Rattle.vme_audit.specs.AskedRules.{is_asked}
use Rattle.vme_auditor.specs.Events.{asks_by}
use Rattle.vme_auditor.specs.declared.asked.AskedEvents.{AskedEvents}
use Rattle.vme_audit_lines.specs.AuditLines.{unasked_among}
use Rattle.vme_audit_lines.proofs.unasked_is_never_asked.Goals as goal

-- if each rule's event happens exactly if the recording asks the rule, the rules among `rules` whose event didn't
-- happen are those that it doesn't ask
unasked_among-not_asked : (e : AskedEvents) (t : Trace) → ((r : Rule) → asks_by e r ≡ is_asked t r)
    → (rules : List Rule)
    → unasked_among e rules ≡ filter (λ (r : Rule). not (is_asked t r)) rules
unfolding unasked_among
unasked_among-not_asked e t same rules =
    filter_agree (λ (r : Rule). not (asks_by e r)) (λ (r : Rule). not (is_asked t r)) (λ r. ap not (same r)) rules

pub returns : goal.returns
returns c = λ e t same. unasked_among-not_asked e t same all_rules
