use Rattle.std.proofs.Common.{ℕ, List, ◌++◌, sym, ap, ◌∙◌}
use Rattle.std.proofs.lemmas.List.{append-nil}
use Rattle.vme_audit_lines.proofs.Lines.{names_text-written_next, names_text-none}
use Rattle.vme_audit_lines.proofs.counts.push_names.Goals as goal

pub loop-rule-init : goal.loop-rule-init
loop-rule-init c =
    sym (ap (λ (xs : List ℕ). c.args.text.now ++ xs) (names_text-none c.args.events.now c.args.rules.now)
    ∙ append-nil c.args.text.now)

pub loop-rule-preserved : goal.loop-rule-preserved
loop-rule-preserved c =
    names_text-written_next c.args.events.now c.args.rules.now c.loop-rule.rule-index _ c.args.text.now c.loop-rule.text
    c.push_unless_asked.new.text c.loop-rule-test.true c.loop-rule.invariant c.in_ok-push_unless_asked.ensures
