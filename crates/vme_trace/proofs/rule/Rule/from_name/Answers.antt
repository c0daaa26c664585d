-- The rule that is found in the list of all rules is the rule of the name.
use Rattle.std.proofs.Common.{◌∙◌}
use Rattle.vme_trace.specs.Names.{rule_named}
use Rattle.vme_trace.proofs.NameLaws.{rule_named-is, rule_named-IfSome}
use Rattle.vme_trace.proofs.rule.Rule.from_name.Goals as goal

pub returns-clause-rule : goal.returns-clause-rule
unfolding rule_named
returns-clause-rule c = c.first_named.ensures

pub returns-clause-named : goal.returns-clause-named
unfolding rule_named
returns-clause-named c = rule_named-IfSome c.first_named.result c.args.name.now c.first_named.ensures

pub returns-clause-found : goal.returns-clause-found
unfolding rule_named
returns-clause-found c = λ r e. c.first_named.ensures ∙ rule_named-is r c.args.name.now e
