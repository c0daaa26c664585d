use Rattle.std.proofs.Common.{◌++◌, sym, ap, ◌∙◌}
use Rattle.std.proofs.lemmas.List.{append_assoc}
use Rattle.vme_listing.specs.declared.row.Row.TheVariants.{Verdict}
use Rattle.vme_listing.specs.RowText.{break_text, row_text}
use Rattle.vme_listing.proofs.text.RowBuffer.push_verdict.Goals as goal

pub returns-in-Broken-clause-text : goal.returns-in-Broken-clause-text
unfolding row_text
returns-in-Broken-clause-text c =
    let b = c.in-Broken in
    c.push_break.ensures.text
    ∙ ap (λ text. text ++ break_text b.rule b.instant b.line) c.extend-in-Broken.ensures.text
    ∙ append_assoc c.args.self.now _ (break_text b.rule b.instant b.line)
    ∙ ap (λ outcome. c.args.self.now ++ row_text (Verdict outcome)) (sym b.is)
