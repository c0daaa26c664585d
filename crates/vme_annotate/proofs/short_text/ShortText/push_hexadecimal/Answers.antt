use Rattle.std.proofs.Common.{◌++◌, ap, ◌∙◌}
use Rattle.vme_listing.proofs.Digits.{last_digits}
use Rattle.vme_annotate.proofs.short_text.ShortText.push_hexadecimal.Goals as goal

pub returns-clause-text : goal.returns-clause-text
returns-clause-text c =
    let glyphs = c.hexadecimal_digits-glyphs in
    c.push.ensures.text ∙ ap (λ text. c.args.self.now ++ text)
    (last_digits c.args.digits c.args.number glyphs.result c.requires.digits glyphs.ensures)
