use Rattle.std.proofs.Common.{ℕ, List, ◌++◌, sym, ap, ◌∙◌}
use Rattle.vme_stream.specs.Texts.{line_of}
use Rattle.vme_audit_lines.proofs.Lines.{line_of-after_program, on_ok, refusal_after_name-other}
use Rattle.vme_audit_lines.proofs.dump_lines.push_refusal.Goals as goal

pub returns-in_default : goal.returns-in_default
returns-in_default c =
    on_ok c.push.result _ _ c.push.ensures.ok (λ last. last ∙ ap (λ (xs : List ℕ). c.args.text.now ++ xs)
    (line_of-after_program c.args.refusal.now c.as_bytes.result.now (c.as_bytes.ensures ∙ c.refusal_line-line.ensures)
    ∙ ap line_of (sym (refusal_after_name-other c.args.refusal.now c.in_default.not-CannotOpen
    c.in_default.not-CannotRead))))
