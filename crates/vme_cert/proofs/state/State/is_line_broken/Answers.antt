use Rattle.std.proofs.Common.{◌≡◌, ◌∙◌, ap, arith, below_more, false, get_or, List, length, subst, sym, true}
use Rattle.vme_cert.specs.Vocabulary.{Rule, Stretch, Trace, U1, is_broken}
use Rattle.vme_cert.specs.RulesByLine.{may_be_broken_on}
use Rattle.vme_cert.specs.State.{IsStateOf}
use Rattle.vme_cert.proofs.Breaks.{listed-may_be_broken, may_be_broken-listed}
use Rattle.vme_cert.proofs.state.State.is_line_broken.Goals as goal

pub is_broken-requires-clause-its_line : goal.is_broken-requires-clause-its_line
is_broken-requires-clause-its_line c =
    let i = c.loop-rule.rule-index in
    let rules = c.rules_on-rule-items.ensures.rules in
    let within = ap (λ (rs : List Rule). length rs) rules in
    subst (λ (rs : List Rule). may_be_broken_on (get_or rs i U1) c.args.line ≡ true) (sym rules)
    (listed-may_be_broken c.args.line i c.rules_on-rule-items.ensures.exists (omega arith))

pub loop-rule-preserved : goal.loop-rule-preserved
loop-rule-preserved c = record {
  rules = c.loop-rule.invariant.rules;
  kept = below_more (λ k. (t : Trace) (stretch : Stretch) → IsStateOf t stretch c.args.bus.now c.args.self.now
      → is_broken t stretch (get_or c.rules_on-rule-items.result.now k U1) c.args.bus.now.instant c.args.line ≡ false)
      c.loop-rule.rule-index c.loop-rule.invariant.kept (λ t stretch h. sym (c.is_broken.ensures t stretch h)
      ∙ c.if-is_broken.false);
}

pub returns : goal.returns
returns c t stretch r h e its_line =
    let (k, below, at) = may_be_broken-listed c.args.line r c.rules_on-rule-items.ensures.exists its_line in
    let rules = c.loop-rule.invariant.rules in
    let within = ap (λ (rs : List Rule). length rs) rules in
    subst (λ (q : Rule). is_broken t stretch q c.args.bus.now.instant c.args.line ≡ false)
    (ap (λ (rs : List Rule). get_or rs k U1) rules ∙ at) (c.loop-rule.invariant.kept k (omega arith) t stretch h)
