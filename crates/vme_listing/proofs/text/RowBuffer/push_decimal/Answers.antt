use Rattle.std.proofs.Common.{◌++◌, length, ap, ◌∙◌, arith}
use Rattle.std.specs.Prelude.{decimal}
use Rattle.vme_listing.proofs.Digits.{decimal-short}
use Rattle.vme_listing.proofs.text.RowBuffer.push_decimal.Goals as goal

pub extend-requires : goal.extend-requires
extend-requires c =
    let made = c.decimal_digits-start.ensures in
    let few = decimal-short c.from.result (omega (arith, c.from.ensures)) in
    omega (arith, c.requires, made.start, ap length made.digits, few)

pub returns-clause-text : goal.returns-clause-text
returns-clause-text c =
    c.extend.ensures.text
    ∙ ap (λ text. c.args.self.now ++ text) (c.decimal_digits-start.ensures.digits ∙ ap (λ n. decimal n) c.from.ensures)

pub returns-clause-length : goal.returns-clause-length
returns-clause-length c =
    let made = c.decimal_digits-start.ensures in
    let few = decimal-short c.from.result (omega (arith, c.from.ensures)) in
    omega (arith, c.extend.ensures.length, made.start, ap length made.digits, few)
