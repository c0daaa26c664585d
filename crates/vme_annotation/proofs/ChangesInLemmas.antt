-- A dump with changes inserted has the same definitions, and its body has the same instants.
use Rattle.std.proofs.Common.{◌≡◌, ℕ, zero, suc, ◌-◌, ◌≤◌, true, List, [], ◌∷◌, ◌++◌, take, drop, refl}
use Rattle.std.proofs.Common.{sym}
use Rattle.std.proofs.Common.{ap, ◌∙◌, arith, append_assoc}
use Rattle.std.proofs.lemmas.List.{take-append-drop}
use Rattle.vcd_read.specs.Header.{Net}
use Rattle.vcd_places.specs.Places.{starts_at_boundary}
use Rattle.vcd_places.proofs.StringStepLemmas.{EndsAfterItem, IsShown, instants_of_text, instants_of_text-string}
use Rattle.vcd_places.proofs.StringStepLemmas.{items_of_text}
use Rattle.vcd_places.proofs.StringStepLemmas.{items_of_text-string}
use Rattle.vcd_places.proofs.InsertionLemmas.{string_text}
use Rattle.vme_annotation.specs.Inserted.{PutChange, with_changes}
use Rattle.vme_annotation.specs.Shown.{ShownChange}

-- ---- pieces of a text

-- a text without bytes
abbrev empty : List ℕ
empty = []

-- of no bytes, none are taken
take-empty : (n : ℕ) → empty ≡ take n empty
take-empty zero = refl
take-empty (suc n) = refl

-- the text up to `to` is the text up to `from`, and then that from `from` to `to`
take-joined : (text : List ℕ) (from to : ℕ) → from ≤ to → take to text ≡ take from text
    ++ take (to - from) (drop from text)
take-joined text zero to le = ap (λ (n : ℕ). take n text) (omega arith)
take-joined [] (suc from) zero le = take-empty (zero - suc from)
take-joined [] (suc from) (suc to) le = take-empty (suc to - suc from)
take-joined (b ∷ text) (suc from) zero le = absurd (omega (arith, le))
take-joined (b ∷ text) (suc from) (suc to) le =
    ap (λ (rest : List ℕ). b ∷ rest) (take-joined text from to (omega (arith, le))
    ∙ ap (λ (n : ℕ). take from text ++ take n (drop from text)) (omega arith))

-- if `bytes` and `rest` each begin with a space or are empty, so is a prefix of `bytes` followed by `rest`
starts_at_boundary-prefix : (count : ℕ) (bytes rest : List ℕ) → starts_at_boundary bytes ≡ true
    → starts_at_boundary rest ≡ true
    → starts_at_boundary (take count bytes ++ rest) ≡ true
starts_at_boundary-prefix zero [] rest first second = second
starts_at_boundary-prefix (suc count) [] rest first second = second
starts_at_boundary-prefix zero (b ∷ bytes) rest first second = second
starts_at_boundary-prefix (suc count) (b ∷ bytes) rest first second = first

-- ---- the changes

-- the change `p` is inserted after an item, at a token boundary, and its code has a net
pub record IsPutIn (nets : List Net) (code_of : ShownChange → List ℕ) (dump : List ℕ) (p : PutChange) : Type 0 where
  pub shown : IsShown nets p.change.text (code_of p.change)
  pub behind : EndsAfterItem (take p.place dump)
  pub detached : starts_at_boundary (drop p.place dump) ≡ true

-- `IsPutIn` holds of each change, and the places from `from` on don't go back
abbrev pub ArePutIn : List Net → (ShownChange → List ℕ) → List ℕ → ℕ → List PutChange → Type 0
ArePutIn nets code_of dump from [] = Unit {0}
ArePutIn nets code_of dump from (p ∷ put) =
    (from ≤ p.place) × IsPutIn nets code_of dump p × ArePutIn nets code_of dump p.place put

module _ (nets : List Net) (code_of : ShownChange → List ℕ) (dump : List ℕ) where
  -- the string of a change, with its code
  abbrev pub text_of : ShownChange → List ℕ
  text_of c = string_text c.text (code_of c)

  -- the dump from `from` on, with the changes inserted
  abbrev inserted_from : ℕ → List PutChange → List ℕ
  inserted_from from put = with_changes text_of from put dump

  -- if the dump from `from` on begins with a space or is empty, so is it with the changes inserted
  starts_at_boundary-inserted_from : (put : List PutChange) (from : ℕ) → ArePutIn nets code_of dump from put
      → starts_at_boundary (drop from dump) ≡ true → starts_at_boundary (inserted_from from put) ≡ true
  unfolding with_changes
  starts_at_boundary-inserted_from [] from are detached = detached
  starts_at_boundary-inserted_from (p ∷ put) from are detached =
      starts_at_boundary-prefix (p.place - from) (drop from dump) (text_of p.change ++ inserted_from p.place put)
      detached refl

  -- the text with all changes is the text up to the first change, that change, and what follows it
  inserted_from-first : (p : PutChange) (put : List PutChange) (from : ℕ) → from ≤ p.place
      → take from dump ++ inserted_from from (p ∷ put) ≡ take p.place dump
      ++ (text_of p.change ++ inserted_from p.place put)
  unfolding with_changes
  inserted_from-first p put from le =
      sym (append_assoc (take from dump) (take (p.place - from) (drop from dump))
      (text_of p.change ++ inserted_from p.place put))
      ∙ ap (λ (front : List ℕ). front ++ (text_of p.change ++ inserted_from p.place put))
      (sym (take-joined dump from p.place le))

  -- with the changes inserted the dump has the same instants, and its definitions the same items
  pub instants_of_text-inserted_from : (put : List PutChange) (from : ℕ) → ArePutIn nets code_of dump from put
      → (instants_of_text nets (take from dump ++ inserted_from from put) ≡ instants_of_text nets dump)
      × (items_of_text (take from dump ++ inserted_from from put) ≡ items_of_text dump)
  unfolding with_changes
  instants_of_text-inserted_from [] from are =
      (ap (instants_of_text nets) (take-append-drop from dump), ap items_of_text (take-append-drop from dump))
  instants_of_text-inserted_from (p ∷ put) from are =
      let first = inserted_from-first p put from are.0 in
      let rest = inserted_from p.place put in
      let detached = starts_at_boundary-inserted_from put p.place are.2 are.1.detached in
      let same = instants_of_text-inserted_from put p.place are.2 in (
        ap (instants_of_text nets) first
            ∙ instants_of_text-string (take p.place dump) are.1.behind nets p.change.text (code_of p.change) rest
            are.1.shown
            detached
            ∙ same.0,
        ap items_of_text first
            ∙ items_of_text-string (take p.place dump) are.1.behind p.change.text (code_of p.change) rest detached
            ∙ same.1,
      )
