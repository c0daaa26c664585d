use Rattle.std.proofs.Common.{◌≡◌, ◌∙◌, sym, Some, None}
use Rattle.vme_commands.proofs.AllowanceLemmas.{take-around_equals, IsCut-first_equals, rule_name-no_equals}
use Rattle.vme_commands.proofs.AllowanceLemmas.{Some-same_allowance}
use Rattle.vme_commands.proofs.allowance.allowance_of.Goals as goal

pub returns-in_err-rule-in-Some-clause-found : goal.returns-in_err-rule-in-Some-clause-found
returns-in_err-rule-in-Some-clause-found c a small is =
    let cut = IsCut-first_equals c.args.text.now c.in-Some.end a small is c.in-Some.ensures in
    let bad : None ≡ Some a.rule = sym c.in_err-rule-in-Some.was ∙ c.from_name.ensures.found a.rule cut.before in
    cc

pub returns-in_err-line-in-Some-clause-found : goal.returns-in_err-line-in-Some-clause-found
returns-in_err-line-in-Some-clause-found c a small is =
    let cut = IsCut-first_equals c.args.text.now c.in-Some.end a small is c.in-Some.ensures in
    let bad : None ≡ Some cut.line = sym c.in_err-line-in-Some.was
    ∙ c.from_name-in-Some.ensures.found cut.line cut.small cut.behind in
    cc

pub returns-in_err-rule-in-None-clause-found : goal.returns-in_err-rule-in-None-clause-found
returns-in_err-rule-in-None-clause-found c a small is =
    let whole = rule_name-no_equals c.args.text.now a is c.in-None.ensures in
    let bad : None ≡ Some a.rule = sym c.in_err-rule-in-None.was ∙ c.from_name-in-None.ensures.found a.rule whole.1 in
    cc

pub returns-in_ok-line-in-Some-clause-named : goal.returns-in_ok-line-in-Some-clause-named
returns-in_ok-line-in-Some-clause-named c =
    rw (c.in_ok-rule-in-Some.ensures.named, c.in_ok-line-in-Some.ensures.named)
    (take-around_equals c.args.text.now c.in-Some.end c.in-Some.ensures)

pub returns-in_ok-line-in-Some-clause-found : goal.returns-in_ok-line-in-Some-clause-found
returns-in_ok-line-in-Some-clause-found c a small is =
    let cut = IsCut-first_equals c.args.text.now c.in-Some.end a small is c.in-Some.ensures in
    let rule : Some c.in_ok-rule-in-Some.rule ≡ Some a.rule = sym c.in_ok-rule-in-Some.was
    ∙ c.from_name.ensures.found a.rule cut.before in
    let line : Some c.in_ok-line-in-Some.line ≡ a.line = sym c.in_ok-line-in-Some.was
    ∙ c.from_name-in-Some.ensures.found cut.line cut.small cut.behind ∙ sym cut.line_is in
    Some-same_allowance c.in_ok-rule-in-Some.rule (Some c.in_ok-line-in-Some.line) a rule line
