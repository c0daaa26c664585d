use Rattle.std.proofs.Common.{◌++◌, sym, ◌∙◌, ap}
use Rattle.std.proofs.lemmas.Fmt.{decimal_digit}
use Rattle.vme_trace.proofs.NameLaws.{decimal-two_digits}
use Rattle.vme_trace.proofs.name.Name.with_decimal.Goals as goal

pub returns-then-number-lt10-clause-name : goal.returns-then-number-lt10-clause-name
returns-then-number-lt10-clause-name c = c.with.ensures ∙ ap (λ ds. c.args.self ++ ds)
    (sym (decimal_digit c.args.number c.if-number-lt10.true))

pub returns-else-number-lt10-clause-name : goal.returns-else-number-lt10-clause-name
returns-else-number-lt10-clause-name c = c.with_two_digits.ensures ∙ ap (λ ds. c.args.self ++ ds)
    (sym (decimal-two_digits c.args.number c.if-number-lt10.false c.requires.below))
