use Rattle.std.proofs.Common.{◌++◌, ap, ◌∙◌}
use Rattle.vme_annotate.proofs.short_text.ShortText.push_decimal.Goals as goal

pub returns-clause-text : goal.returns-clause-text
returns-clause-text c =
    c.push.ensures.text ∙ ap (λ text. c.args.self.now ++ text) c.decimal_digits-start.ensures.digits
