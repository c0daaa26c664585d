use Rattle.std.proofs.Common.{sym, ap, ◌∙◌, arith, rules}
use Rattle.std.specs.Prelude.{Some}
use Rattle.std.proofs.lemmas.List.{take_rest}
use Rattle.vme_listing.proofs.FrontHexadecimals.{after_word-hexadecimal, hexadecimal_in-front, hexadecimal_in-not}
use Rattle.vme_listing.proofs.FrontHexadecimals.{hexadecimal_in-short}
use Rattle.vme_listing.proofs.line.front_hexadecimal.Goals as goal

pub returns-then-text-digits-clause-none : goal.returns-then-text-digits-clause-none
returns-then-text-digits-clause-none c = λ _. hexadecimal_in-short c.args.digits c.args.text.now (omega arith)

pub returns-in-Some-clause-number : goal.returns-in-Some-clause-number
returns-in-Some-clause-number c =
    hexadecimal_in-front c.args.digits c.args.text.now c.in-Some.number c.requires (omega arith)
    c.in-Some.ensures.number c.in-Some.ensures.below

pub returns-in-Some-clause-rest : goal.returns-in-Some-clause-rest
returns-in-Some-clause-rest c =
    after_word-hexadecimal c.args.digits c.args.text.now c.in-Some.number c.requires (omega arith)
    c.in-Some.ensures.number c.in-Some.ensures.below
    ∙ ap Some (sym (take_rest c.args.text.now c.args.digits))

pub returns-in-None-clause-none : goal.returns-in-None-clause-none
returns-in-None-clause-none c = λ _. hexadecimal_in-not c.args.digits c.args.text.now (search rules)
