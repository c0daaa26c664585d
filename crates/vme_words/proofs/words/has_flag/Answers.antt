-- Whether a flag is given, by the text that is found for it.
use Rattle.std.proofs.Common.{◌≡◌, rules, refl}
use Rattle.std.specs.Prelude.{Some, None}
use Rattle.clap.specs.Words.{first_of, found_of, rows_of}
use Rattle.vme_words.proofs.OrderLemmas.{first_of-read}
use Rattle.vme_words.proofs.words.has_flag.Goals as goal

pub returns-in-Some : goal.returns-in-Some
returns-in-Some c =
    let found = found_of c.args.found.now in
    let given : first_of c.args.name.now (rows_of found) ≡ Some c.in-Some.text.now =
    first_of-read c.args.found.now c.args.name.now c.get_str.result (Some c.in-Some.text) c.get_str.ensures
    c.in-Some.is in
    rw given (search rules)

pub returns-in-None : goal.returns-in-None
returns-in-None c =
    let found = found_of c.args.found.now in
    let given : first_of c.args.name.now (rows_of found) ≡ None =
    first_of-read c.args.found.now c.args.name.now c.get_str.result None c.get_str.ensures c.in-None.is in
    rw given refl
