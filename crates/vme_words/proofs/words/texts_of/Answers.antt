-- The values of an option or file argument are the texts that are found for it.
use Rattle.std.proofs.Common.{◌≡◌, List, ap, refl, sym, ◌∙◌, map}
use Rattle.std.specs.Prelude.{Option, Some, None, option_map}
use Rattle.std.specs.Borrow.{Bor}
use Rattle.clap.specs.Words.{Text, all_of, found_of, rows_of}
use Rattle.clap.proofs.WalkLemmas.{raw_values-rows}
use Rattle.vme_words.proofs.words.texts_of.Goals as goal

-- the texts that are found, if any
abbrev found_texts : Option (Bor (List (Bor Text))) → Option (List Text)
found_texts o = option_map (λ (s : Bor (List (Bor Text))). map (λ (v : Bor Text). v.now) s.now) o

pub returns-in-Some : goal.returns-in-Some
returns-in-Some c =
    let found = found_of c.args.found.now in
    let given : all_of c.args.id.now (rows_of found) ≡ Some (map (λ (v : Bor Text). v.now) c.in-Some.texts.now) =
    sym (raw_values-rows found c.args.id.now) ∙ sym c.get_strs.ensures ∙ ap found_texts c.in-Some.is in
    rw given c.owned_texts.ensures

pub returns-in-None : goal.returns-in-None
returns-in-None c =
    let found = found_of c.args.found.now in
    let given : all_of c.args.id.now (rows_of found) ≡ None =
    sym (raw_values-rows found c.args.id.now) ∙ sym c.get_strs.ensures ∙ ap found_texts c.in-None.is in
    rw (given, c.new.ensures.items) refl
