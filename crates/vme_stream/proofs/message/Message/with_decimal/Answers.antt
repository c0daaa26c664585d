use Rattle.std.proofs.Common.{◌++◌, length, ap, ◌∙◌, arith}
use Rattle.vme_stream.proofs.message.Message.with_decimal.Goals as goal

pub with-requires : goal.with-requires
with-requires c =
    let made = c.decimal_digits-start.ensures in
    omega (arith, c.requires, made.start, ap length made.digits)

pub returns-clause-text : goal.returns-clause-text
returns-clause-text c =
    c.with.ensures.text ∙ ap (λ text. c.args.self ++ text) c.decimal_digits-start.ensures.digits

pub returns-clause-short : goal.returns-clause-short
returns-clause-short c =
    let made = c.decimal_digits-start.ensures in
    omega (arith, c.with.ensures.long, made.start, ap length made.digits)
