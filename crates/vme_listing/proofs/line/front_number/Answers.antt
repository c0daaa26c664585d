use Rattle.std.proofs.Common.{sym, ap, ◌∙◌, arith}
use Rattle.std.specs.Prelude.{Some}
use Rattle.std.proofs.lemmas.List.{take_rest}
use Rattle.vme_listing.proofs.FrontDigits.{after_word-front, number_in-empty, number_in-front, number_in-large}
use Rattle.vme_listing.proofs.FrontDigits.{number_in-zero}
use Rattle.vme_listing.proofs.line.front_number.Goals as goal

pub returns-then-count-eq0-clause-none : goal.returns-then-count-eq0-clause-none
returns-then-count-eq0-clause-none c =
    let d = c.front_digits-front in
    λ _. number_in-empty c.args.text.now d.result.count d.ensures.few d.ensures.within d.ensures.digits d.ensures.end
    (omega arith)

pub returns-then-has_leading_zero-clause-none : goal.returns-then-has_leading_zero-clause-none
returns-then-has_leading_zero-clause-none c =
    let d = c.front_digits-front in
    λ _. number_in-zero c.args.text.now d.result.count d.ensures.few d.ensures.within d.ensures.digits d.ensures.end
    (sym c.has_leading_zero.ensures ∙ c.if-has_leading_zero.true)

pub returns-then-number-gt4294967295-clause-none : goal.returns-then-number-gt4294967295-clause-none
returns-then-number-gt4294967295-clause-none c =
    let d = c.front_digits-front in
    λ _. number_in-large c.args.text.now d.result.count d.ensures.few d.ensures.within d.ensures.digits d.ensures.end
    d.result.number d.ensures.number (omega arith)

pub returns-clause-number : goal.returns-clause-number
returns-clause-number c =
    let d = c.front_digits-front in
    number_in-front c.args.text.now d.result.count d.ensures.few d.ensures.within d.ensures.digits d.ensures.end
    d.result.number d.ensures.number (omega arith) (sym c.has_leading_zero.ensures ∙ c.if-has_leading_zero.false)
    (omega arith)

pub returns-clause-rest : goal.returns-clause-rest
returns-clause-rest c =
    let d = c.front_digits-front in
    after_word-front c.args.text.now d.result.count d.ensures.few d.ensures.within d.ensures.digits d.ensures.end
    d.result.number d.ensures.number (omega arith) (sym c.has_leading_zero.ensures ∙ c.if-has_leading_zero.false)
    ∙ ap Some (sym (take_rest c.args.text.now d.result.count))
