use Rattle.std.proofs.Common.{◌∙◌, ap}
use Rattle.std.specs.Prelude.{◌==◌}
use Rattle.std.specs.List.{list_any}
use Rattle.vme_cert.specs.Vocabulary.{rule_number}
use Rattle.vme_cert.specs.RulesByLine.{rules_on}
use Rattle.vme_cert.proofs.Breaks.{listed-is}
use Rattle.vme_cert.proofs.rules.may_be_broken_on.Goals as goal

pub returns : goal.returns
returns c =
    let number = c.number.result in
    c.is_listed.ensures
    ∙ (ap (list_any (λ rule. rule_number rule == number)) c.rules_on.ensures.rules
    ∙ (ap (λ n. list_any (λ rule. rule_number rule == n) (rules_on c.args.line)) c.number.ensures.number
    ∙ listed-is c.args.line c.args.rule c.rules_on.ensures.exists))
