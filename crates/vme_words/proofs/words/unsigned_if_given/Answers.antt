use Rattle.std.proofs.Common.{◌≡◌, ◌∙◌, ap, sym, inl, inr, is_some, false, true, true≢false}
use Rattle.clap.specs.Words.{found_of, rows_of}
use Rattle.vme_words.proofs.OrderLemmas.{number_in-none, first_of-not_given, is_some-not_given}
use Rattle.vme_words.proofs.words.unsigned_if_given.Goals as goal

pub returns-then-is_none-clause-value : goal.returns-then-is_none-clause-value
returns-then-is_none-clause-value c =
    let none : is_some c.get_str.result ≡ false = rw c.if-is_none.true at c.is_none.ensures in
    let absent = first_of-not_given c.args.found.now c.args.name.now c.get_str.result c.get_str.ensures none in
    sym (number_in-none c.args.name.now (rows_of (found_of c.args.found.now)) absent)

pub returns-in-None-clause-found : goal.returns-in-None-clause-found
returns-in-None-clause-found c has =
    let given : is_some c.get_str.result ≡ true = rw c.if-is_none.false at c.is_none.ensures in
    elim has [
      | inl absent ↦ absurd (true≢false (sym given
          ∙ is_some-not_given c.args.found.now c.args.name.now c.get_str.result c.get_str.ensures absent))
      | inr number ↦ absurd (true≢false (sym (c.unsigned.ensures.found number) ∙ ap is_some c.in-None.is))
    ]
