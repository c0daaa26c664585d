-- A string that is put into the body of a text after an item leaves the definitions and the instants as they are.
use Rattle.std.proofs.Common.{◌≡◌, ℕ, List, ◌∷◌, ◌++◌, Option, Some, Result, true}
use Rattle.std.proofs.Common.{refl, sym, ap, ◌∙◌}
use Rattle.std.specs.Prelude.{option_map}
use Rattle.vcd_read.specs.declared.dump.Instant.{Instant}
use Rattle.vcd_read.specs.declared.fault.VcdFault.{VcdFault}
use Rattle.vcd_read.specs.Tokens.{Token, tokens, tokens_from}
use Rattle.vcd_read.specs.Reading.{line_behind}
use Rattle.vcd_read.specs.Header.{Header, HeaderItem, Net, between, header_from, net_of}
use Rattle.vcd_read.specs.Body.{BodyItem, body_from, ready, skipped}
use Rattle.vcd_places.specs.Places.{AreWholeItems, body_in, starts_at_boundary}
use Rattle.vcd_places.proofs.InsertionLemmas.{IsWord, ExtendsBody-all, tokens_from-string, body_from-string}
use Rattle.vcd_places.proofs.InsertionLemmas.{string_text}
use Rattle.vcd_places.proofs.InsertionLemmas.{tokens_from-append_detached}
use Rattle.vcd_places.proofs.SkippedLemmas.{instants_in, instants_in-skipped}

-- ---- the definitions of a text, and its instants by given nets

-- the items of a text's definitions
abbrev pub items_of_text : List ℕ → List HeaderItem
items_of_text text = (header_from between (tokens text)).items

-- the instants of a text's body by these nets, or its first fault, if the text has a body
abbrev pub instants_of_text : List Net → List ℕ → Option (Result (List Instant) VcdFault)
instants_of_text nets text = option_map (λ (body : List Token). instants_in nets (body_from ready body)) (body_in text)

-- ---- strings

-- `text` can be a string of the variable with the code `code`: both are words, and the code is nonempty and has a net
pub record IsShown (nets : List Net) (text code : List ℕ) : Type 0 where
  pub word : IsWord text
  pub first : ℕ
  pub others : List ℕ
  pub code_is : code ≡ first ∷ others
  pub named : IsWord (first ∷ others)
  pub net : ℕ
  pub net_is : net_of nets code ≡ Some net

-- ---- after an item

-- the definitions end in `front`, and the tokens after them end with an item, or there are none
pub record EndsAfterItem (front : List ℕ) : Type 0 where
  pub body : List Token
  pub ended : body_in front ≡ Some body
  pub whole : AreWholeItems body

module _ (front : List ℕ) (ends : EndsAfterItem front) where
  -- the line that `front` ends on
  abbrev line : ℕ
  line = line_behind 1 front

  -- the tokens of the body of `front ++ rest`
  abbrev body_with : List ℕ → List Token
  body_with rest = ends.body ++ tokens_from line rest

  -- the header of `front ++ rest` has the items of `front`, and a body with the tokens of `rest`
  header_from-append : (rest : List ℕ) → starts_at_boundary rest ≡ true → header_from between (tokens (front ++ rest))
      ≡ record { items = items_of_text front; body = Some (body_with rest) }
  header_from-append rest detached =
      ap (header_from between) (tokens_from-append_detached front rest 1 detached)
      ∙ ExtendsBody-all (tokens_from line rest) (tokens front) between ends.body ends.ended

  -- the definitions of `front ++ rest` are those of `front`
  pub items_of_text-append : (rest : List ℕ) → starts_at_boundary rest ≡ true
      → items_of_text (front ++ rest) ≡ items_of_text front
  items_of_text-append rest detached = ap (λ (h : Header). h.items) (header_from-append rest detached)

  -- the instants of `front ++ rest` are those of its body
  instants_of_text-append : (nets : List Net) (rest : List ℕ) → starts_at_boundary rest ≡ true
      → instants_of_text nets (front ++ rest) ≡ Some (instants_in nets (body_from ready (body_with rest)))
  instants_of_text-append nets rest detached =
      ap (λ (h : Header). option_map (λ (body : List Token). instants_in nets (body_from ready body)) h.body)
      (header_from-append rest detached)

  -- a string between `front` and `rest` leaves the instants of the body as they are
  instants_in-string : (nets : List Net) (text code rest : List ℕ) → IsShown nets text code → starts_at_boundary rest
      ≡ true
      → instants_in nets (body_from ready (body_with (string_text text code ++ rest)))
      ≡ instants_in nets (body_from ready (body_with rest))
  instants_in-string nets text code rest is detached =
      let left : List Token = tokens_from line rest in
      let cut : tokens_from line (string_text text code ++ rest)
      ≡ record { line = line; bytes = 115 ∷ text } ∷ record { line = line; bytes = is.first ∷ is.others } ∷ left =
      ap (λ (named : List ℕ). tokens_from line (string_text text named ++ rest)) is.code_is
      ∙ tokens_from-string line text is.first is.others rest is.word is.named detached in
      let items : body_from ready (ends.body ++ record { line = line; bytes = 115 ∷ text }
      ∷ record { line = line; bytes = is.first ∷ is.others } ∷ left)
      ≡ body_from ready ends.body ++ skipped line (is.first ∷ is.others) ∷ body_from ready left =
      ends.whole (record { line = line; bytes = 115 ∷ text }
      ∷ record { line = line; bytes = is.first ∷ is.others } ∷ left)
      ∙ ap (λ (items : List BodyItem). body_from ready ends.body ++ items)
      (body_from-string line text (is.first ∷ is.others) left) in
      ap (λ (ts : List Token). instants_in nets (body_from ready (ends.body ++ ts))) cut
      ∙ ap (instants_in nets) items
      ∙ instants_in-skipped nets line is.net (is.first ∷ is.others) (ap (net_of nets) (sym is.code_is) ∙ is.net_is)
      (body_from ready ends.body) (body_from ready left)
      ∙ sym (ap (instants_in nets) (ends.whole left))

  -- a string that is inserted after `front` leaves the instants, or the fault, as they are
  pub instants_of_text-string : (nets : List Net) (text code rest : List ℕ) → IsShown nets text code
      → starts_at_boundary rest ≡ true
      → instants_of_text nets (front ++ (string_text text code ++ rest)) ≡ instants_of_text nets (front ++ rest)
  instants_of_text-string nets text code rest is detached =
      instants_of_text-append nets (string_text text code ++ rest) refl
      ∙ ap (λ (r : Result (List Instant) VcdFault). Some r) (instants_in-string nets text code rest is detached)
      ∙ sym (instants_of_text-append nets rest detached)

  -- a string between `front` and `rest` leaves the items of the definitions as they are
  pub items_of_text-string : (text code rest : List ℕ) → starts_at_boundary rest ≡ true
      → items_of_text (front ++ (string_text text code ++ rest)) ≡ items_of_text (front ++ rest)
  items_of_text-string text code rest detached =
      items_of_text-append (string_text text code ++ rest) refl ∙ sym (items_of_text-append rest detached)
