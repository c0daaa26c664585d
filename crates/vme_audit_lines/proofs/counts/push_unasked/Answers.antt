use Rattle.std.proofs.Common.{◌≡◌, ℕ, List, ◌++◌, length, append_assoc, sym, ap, ◌∙◌}
use Rattle.std.specs.Prelude.{◌==◌}
use Rattle.std.proofs.lemmas.Bool.{eqb-false, eqb-true}
use Rattle.std.proofs.lemmas.List.{append-nil}
use Rattle.vme_audit_lines.specs.AuditLines.{names_text, unasked}
use Rattle.vme_audit_lines.proofs.Lines.{unasked_line-none, on_ok, unasked_line-some}
use Rattle.vme_audit_lines.proofs.counts.push_unasked.Goals as goal

pub returns-then-is_empty : goal.returns-then-is_empty
returns-then-is_empty c =
    let rules = unasked c.args.events.now in
    let named : c.push_names.new.text ≡ names_text rules = c.in_ok-push_names.ensures
    ∙ ap (λ (text : List ℕ). text ++ names_text rules) c.new-names.ensures in
    let none : length (names_text rules) ≡ 0 = eqb-true (length (names_text rules)) 0
    (sym (c.if-is_empty.ensures ∙ ap (λ (text : List ℕ). length text == 0) (c.as_bytes.ensures ∙ named))) in
    sym (ap (λ (line : List ℕ). c.args.text.now ++ line) (unasked_line-none c.args.head.now rules none)
    ∙ append-nil c.args.text.now)

pub returns : goal.returns
returns c =
    let rules = unasked c.args.events.now in
    let named : c.push_names.new.text ≡ names_text rules = c.in_ok-push_names.ensures
    ∙ ap (λ (text : List ℕ). text ++ names_text rules) c.new-names.ensures in
    let line = unasked_line-some c.args.head.now rules (eqb-false (length (names_text rules)) 0
    (sym (c.if-is_empty.ensures ∙ ap (λ (text : List ℕ). length text == 0) (c.as_bytes.ensures ∙ named)))) in
    on_ok c.push-4.result _ _ c.push-4.ensures.ok (λ last.
    rw (
      last,
      c.in_ok-push-3.ensures.ok,
      c.in_ok-push-2.ensures.ok,
      c.in_ok-push.ensures.ok,
      c.as_bytes-2.ensures,
      named,
      line,
    ) (simp append_assoc))
