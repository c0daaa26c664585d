use Rattle.vme_rules_eval.proofs.ShownRules.{rule_is_shown}
use Rattle.vme_rules_eval.proofs.every_rule.Goals as goal

pub returns : goal.returns
returns c = rule_is_shown
