-- Declarations before the end of a dump's definitions add variables whose paths are new, in a scope whose name is new.
use Rattle.std.proofs.Common.{◌≡◌, ℕ, ◌<◌, Bool, true, false, eqb, List, [], ◌∷◌, ◌++◌}
use Rattle.std.proofs.Common.{Some, refl, sym, ap, subst, ◌∙◌, arith, length}
use Rattle.std.proofs.Common.{append_assoc}
use Rattle.std.proofs.Common.{take, drop, reverse}
use Rattle.std.specs.Prelude.{All, bytes_eq, nat_le, codes, is_some, not, replicate, ◌&&◌}
use Rattle.std.specs.Prelude.{get_or}
use Rattle.std.specs.List.{list_all, list_any}
use Rattle.std.proofs.lemmas.List.{append-nil, reverse-append, take-append-drop}
use Rattle.std.proofs.lemmas.List.Elements.{All-replicate}
use Rattle.std.proofs.lemmas.List.Sums.{AllPass-from_list_all, list_all-from_AllPass}
use Rattle.std.proofs.lemmas.Bool.{and_from, and_parts, leb-true, not-true}
use Rattle.std.proofs.lemmas.Slice.Eq.{bytes_eq-Decides}
use Rattle.vcd_read.proofs.TokenLemmas.{is_space_above_32}
use Rattle.vcd_read.specs.declared.dump.Variable.{Variable}
use Rattle.vcd_read.specs.Tokens.{Token, is_space, tokens, tokens_from}
use Rattle.vcd_read.specs.Reading.{line_behind}
use Rattle.vcd_read.specs.CodeNumbers.{code_number}
use Rattle.vcd_read.specs.Header.{Declared, Header, HeaderItem, between, header_from}
use Rattle.vcd_read.specs.Header.{is_code, is_code_byte, joined_by_dots, opened, path_of}
use Rattle.vcd_places.specs.Places.{begins_with_token, body_in, ends_at_boundary, ends_definitions_at}
use Rattle.vcd_places.specs.Places.{is_between_sections, is_unfinished, starts_at_boundary}
use Rattle.vcd_places.proofs.InsertionLemmas.{AreWords, IsBetweenSections, IsWord, after_items, SplitsHeader-all}
use Rattle.vcd_places.proofs.InsertionLemmas.{tokens_from-append_spaced, tokens_from-word}
use Rattle.vcd_places.proofs.StringStepLemmas.{items_of_text}
use Rattle.vme_annotation.specs.Annotated.{declared_words}
use Rattle.vme_annotation.specs.Fresh.{has_name, has_part, scope_name}
use Rattle.vme_annotation.proofs.BoundLemmas.{AreApart, has_path}
use Rattle.vme_annotation.proofs.DeclaredLemmas.{inserted_variables, nets_1, nets_2, nets_3, shown_in}
use Rattle.vme_annotation.proofs.FreshPathLemmas.{lacks_path, scope_in_path}
use Rattle.vme_annotation.proofs.SameDumpLemmas.{items-end_definitions}
use Rattle.vme_annotation.proofs.ShownWordLemmas.{is_word-append, is_word}

-- ---- the end of the definitions

-- a text that begins with the section that ends the definitions declares nothing
pub items-at_end_definitions : (line : ℕ) (rest : List ℕ) → begins_with_token (codes "$enddefinitions") rest ≡ true
    → (body : List Token)
    → (header_from between (tokens_from line rest)).body ≡ Some body
    → (header_from between (tokens_from line rest)).items ≡ []
unfolding header_from
items-at_end_definitions line rest begins body ends =
    let parts = and_parts (bytes_eq (take 15 rest) (codes "$enddefinitions")) (starts_at_boundary (drop 15 rest))
    begins in
    let word : take 15 rest ≡ codes "$enddefinitions" =
    (bytes_eq-Decides (take 15 rest) (codes "$enddefinitions")).0 parts.0 in
    let whole : rest ≡ codes "$enddefinitions" ++ drop 15 rest =
    sym (take-append-drop 15 rest) ∙ ap (λ (front : List ℕ). front ++ drop 15 rest) word in
    let read : tokens_from line rest
    ≡ record { line = line; bytes = codes "$enddefinitions" } ∷ tokens_from line (drop 15 rest) =
    ap (tokens_from line) whole
    ∙ tokens_from-word line 36 (codes "enddefinitions") (drop 15 rest) refl parts.1 in
    let first : Token = record { line = line; bytes = codes "$enddefinitions" } in
    ap (λ (ts : List Token). (header_from between ts).items) read
    ∙ items-end_definitions (tokens_from line (drop 15 rest)) (opened first) refl body
    (sym (ap (λ (ts : List Token). (header_from between ts).body) read) ∙ ends)

-- what changes nothing at the end of a list is empty
pub append-cancel_nil : {A : Type 0} (xs ys : List A) → xs ++ ys ≡ xs ++ [] → ys ≡ []
append-cancel_nil [] ys e = e
append-cancel_nil {A = A} (x ∷ xs) ys e = append-cancel_nil xs ys (ap rest e)
  where
    -- the list without its first element
    rest : List A → List A
    rest [] = []
    rest (a ∷ others) = others

-- ---- a text after `front`, which ends between two sections of the definitions

module _ (front : List ℕ) (ends : ends_at_boundary front ≡ true) (between_sections : is_between_sections front ≡ true)
  where
    -- the line that `front` ends on
    abbrev line : ℕ
    line = line_behind 1 front

    -- the header of a text after `front`
    abbrev header_after : List ℕ → Header
    header_after rest = header_from between (tokens_from line rest)

    -- the header of `front` has no body, and none of its items is unfinished
    IsBetweenSections-front : IsBetweenSections (header_from between (tokens front))
    IsBetweenSections-front =
        let header : Header = header_from between (tokens front) in
        let parts = and_parts (not (is_some header.body))
        (not (list_any is_unfinished header.items)) between_sections in
        (not-true (is_some header.body) parts.0, not-true (list_any is_unfinished header.items) parts.1)

    -- the items of `front` followed by `rest` are those of `front` and then those of `rest`
    pub header_from-front : (rest : List ℕ) → header_from between (tokens (front ++ rest))
        ≡ after_items (items_of_text front) (header_after rest)
    header_from-front rest =
        ap (header_from between) (tokens_from-append_spaced front rest 1 ends)
        ∙ SplitsHeader-all (tokens_from line rest) (tokens front) between IsBetweenSections-front

-- all items of a dump are before `start`, where the section that ends its definitions begins
pub items_of_text-before_end : (dump : List ℕ) (start : ℕ) → ends_definitions_at dump start ≡ true → (body : List Token)
    → body_in dump ≡ Some body → items_of_text dump ≡ items_of_text (take start dump)
items_of_text-before_end dump start starts body ends =
    let front : List ℕ = take start dump in
    let outer = and_parts (ends_at_boundary front && is_between_sections front)
    (begins_with_token (codes "$enddefinitions") (drop start dump)) starts in
    let inner = and_parts (ends_at_boundary front) (is_between_sections front) outer.0 in
    let read = header_from-front front inner.0 inner.1 (drop start dump) in
    ap items_of_text (sym (take-append-drop start dump))
    ∙ ap (λ (h : Header). h.items) read
    ∙ ap (λ (items : List HeaderItem). items_of_text front ++ items)
    (items-at_end_definitions (line_behind 1 front) (drop start dump) outer.1 body
    (sym (ap (λ (h : Header). h.body) read)
    ∙ ap body_in (take-append-drop start dump) ∙ ends))
    ∙ append-nil (items_of_text front)

-- ---- the codes and the names

module _ (underscores : ℕ) where
  -- the name of the scope
  abbrev pub scope : List ℕ
  scope = scope_name underscores

  -- if an underscore passes `p`, all underscores do
  list_all-replicate : (p : ℕ → Bool) → p 95 ≡ true → list_all p (replicate underscores 95) ≡ true
  list_all-replicate p is = list_all-from_AllPass p (replicate underscores 95)
      (All-replicate (λ (b : ℕ). p b ≡ true) underscores 95 is)

  -- the name of the scope is a word
  pub IsWord-scope : IsWord scope
  IsWord-scope = is_word-append (codes "vmecheck") (replicate underscores 95) refl
      (list_all-replicate (λ b. not (is_space b)) refl)

  -- the byte is no dot
  abbrev undotted : ℕ → Bool
  undotted b = not (eqb b 46)

  -- no byte of the scope's name is a dot, by the test
  list_all-undotted : list_all undotted scope ≡ true
  list_all-undotted = list_all-replicate undotted refl

  -- no byte of the scope's name is a dot
  pub All-undotted : All (λ (b : ℕ). eqb b 46 ≡ false) scope
  All-undotted = λ k d lt. not-true (eqb (get_or scope k d) 46)
      (AllPass-from_list_all undotted scope list_all-undotted k d lt)

  -- a name in the scope has the scope in its path
  has_part-path : (n : ℕ) (name : List ℕ) (scopes : List (List ℕ)) (net : ℕ) (v : Variable)
      → v.path ≡ path_of ((scope ++ []) ∷ scopes) (n ∷ name) → has_part scope v ≡ true
  has_part-path n name scopes net v is =
      let turned : reverse (scope ∷ scopes) ≡ reverse scopes ++ scope ∷ [] = reverse-append (scope ∷ []) scopes in
      let path : v.path ≡ joined_by_dots (reverse scopes ++ scope ∷ (n ∷ name) ∷ []) =
      is ∙ ap (λ (s : List ℕ). joined_by_dots (reverse (s ∷ scopes) ++ (n ∷ name) ∷ [])) (append-nil scope)
      ∙ ap (λ (names : List (List ℕ)). joined_by_dots (names ++ (n ∷ name) ∷ [])) turned
      ∙ ap joined_by_dots (append_assoc (reverse scopes) (scope ∷ []) ((n ∷ name) ∷ [])) in
      ap (λ (p : List ℕ). has_part scope (record v { path = p })) path
      ∙ scope_in_path 118 (codes "mecheck" ++ replicate underscores 95) All-undotted n name (reverse scopes)

  -- no variable that lacks the scope has the path of a name in it
  has_path-in_scope : (n : ℕ) (name : List ℕ) (scopes : List (List ℕ)) (v : Variable) (variables : List Variable)
      → v.path ≡ path_of ((scope ++ []) ∷ scopes) (n ∷ name) → has_name variables underscores ≡ false
      → list_any (has_path v.path) variables ≡ false
  has_path-in_scope n name scopes v variables is lacks =
      lacks_path scope v.path variables (has_part-path n name scopes 0 v is) lacks

  -- no variable of the dump has the path of one of the four variables
  pub AreApart-inserted_variables : (c0 c1 c2 c3 : List ℕ) (d : Declared (List Variable))
      → has_name d.variables underscores ≡ false
      → AreApart d.variables (inserted_variables scope c0 c1 c2 c3 d)
  AreApart-inserted_variables c0 c1 c2 c3 d lacks = (
    has_path-in_scope 116 (codes "enure") d.scopes (shown_in scope c0 c1 c2 c3 d (length d.nets) (codes "tenure"))
        d.variables
        refl lacks,
    (
      has_path-in_scope 99 (codes "ycle") d.scopes (shown_in scope c0 c1 c2 c3 d (length (nets_1 c0 d.nets))
          (codes "cycle")) d.variables refl lacks,
      (
        has_path-in_scope 116 (codes "ransfer") d.scopes
            (shown_in scope c0 c1 c2 c3 d (length (nets_2 c0 c1 d.nets)) (codes "transfer")) d.variables
            refl lacks,
        (
          has_path-in_scope 118 (codes "erdict") d.scopes
              (shown_in scope c0 c1 c2 c3 d (length (nets_3 c0 c1 c2 d.nets)) (codes "verdict")) d.variables
              refl lacks,
          tt,
        ),
      ),
    ),
  )

-- a byte of a code is no space
is_space-code_byte : (b : ℕ) → is_code_byte b ≡ true → not (is_space b) ≡ true
is_space-code_byte b is =
    let parts = and_parts (nat_le 33 b) (nat_le b 126) is in
    ap not (is_space_above_32 b (omega (arith, leb-true 33 b parts.0)))

-- a code is a word
pub IsWord-code : (code : List ℕ) → is_code code ≡ true → IsWord code
IsWord-code [] is = refl
IsWord-code (b ∷ code) is =
    let parts = and_parts (is_code_byte b) (is_code code) is in
    and_from (not (is_space b)) (is_word code) (is_space-code_byte b parts.0) (IsWord-code code parts.1)

-- a code that isn't empty has a first byte
pub cons-some : (code : List ℕ) → 0 < length code → (b : ℕ) × (k : List ℕ) × (code ≡ b ∷ k)
cons-some [] some = absurd (omega (arith, some))
cons-some (b ∷ k) some = (b, k, refl)

-- codes with different numbers differ
pub bytes_eq-different_codes : (a b : List ℕ) → code_number a < code_number b → bytes_eq a b ≡ false
bytes_eq-different_codes a b below = go (bytes_eq a b) refl
  where
    -- the codes differ, whatever the test says
    go : (test : Bool) → bytes_eq a b ≡ test → test ≡ false
    go false is = refl
    go true is = absurd (omega (arith, below, ap code_number ((bytes_eq-Decides a b).0 is)))

-- the words that declare a variable, followed by `rest`
abbrev with_net : List ℕ → List ℕ → List (List ℕ) → List (List ℕ)
with_net code name rest =
    codes "$var" ∷ codes "string" ∷ codes "1" ∷ code ∷ name ∷ codes "$end" ∷ rest

-- the words that declare a variable with this code and name, and then other words, are words
AreWords-with_net : (b n : ℕ) (k name : List ℕ) → IsWord (b ∷ k) → IsWord (n ∷ name) → (rest : List (List ℕ))
    → AreWords rest
    → AreWords (with_net (b ∷ k) (n ∷ name) rest)
AreWords-with_net b n k name code named rest are = (refl, (refl, (refl, (code, (named, (refl, are))))))

-- the words of the declarations
module _ (underscores b0 b1 b2 b3 : ℕ) (k0 k1 k2 k3 : List ℕ) (w0 : IsWord (b0 ∷ k0)) (w1 : IsWord (b1 ∷ k1))
    (w2 : IsWord (b2 ∷ k2)) (w3 : IsWord (b3 ∷ k3)) where
  -- the words after the declaration of the verdict
  abbrev words_after_verdict : List (List ℕ)
  words_after_verdict = codes "$upscope" ∷ codes "$end" ∷ []

  -- the words after the declaration of the transfer
  abbrev words_after_transfer : List (List ℕ)
  words_after_transfer = with_net (b3 ∷ k3) (codes "verdict") words_after_verdict

  -- the words after the declaration of the cycle
  abbrev words_after_cycle : List (List ℕ)
  words_after_cycle = with_net (b2 ∷ k2) (codes "transfer") words_after_transfer

  -- the words after the declaration of the tenure
  abbrev words_after_tenure : List (List ℕ)
  words_after_tenure = with_net (b1 ∷ k1) (codes "cycle") words_after_cycle

  -- the words of the declarations, with codes by their first bytes and the others, are words
  pub AreWords-declared_words : AreWords (declared_words (scope_name underscores)
      ((b0 ∷ k0) ∷ (b1 ∷ k1) ∷ (b2 ∷ k2) ∷ (b3 ∷ k3) ∷ []))
  AreWords-declared_words =
      let verdict = AreWords-with_net b3 118 k3 (codes "erdict") w3 refl words_after_verdict (refl, (refl, tt)) in
      let transfer = AreWords-with_net b2 116 k2 (codes "ransfer") w2 refl words_after_transfer verdict in
      let cycle = AreWords-with_net b1 99 k1 (codes "ycle") w1 refl words_after_cycle transfer in
      let tenure = AreWords-with_net b0 116 k0 (codes "enure") w0 refl words_after_tenure cycle in
      (refl, (refl, (IsWord-scope underscores, (refl, tenure))))

-- the words of the declarations, with codes that are words and not empty, are words
pub AreWords-declarations : (underscores : ℕ) (c0 c1 c2 c3 : List ℕ) → 0 < length c0 → 0 < length c1 → 0 < length c2
    → 0 < length c3
    → IsWord c0 → IsWord c1 → IsWord c2 → IsWord c3
    → AreWords (declared_words (scope_name underscores) (c0 ∷ c1 ∷ c2 ∷ c3 ∷ []))
AreWords-declarations underscores c0 c1 c2 c3 s0 s1 s2 s3 w0 w1 w2 w3 =
    let p0 = cons-some c0 s0 in
    let p1 = cons-some c1 s1 in
    let p2 = cons-some c2 s2 in
    let p3 = cons-some c3 s3 in
    subst (λ (c : List ℕ). AreWords (declared_words (scope_name underscores) (c ∷ c1 ∷ c2 ∷ c3 ∷ []))) (sym p0.2)
    (subst (λ (c : List ℕ). AreWords (declared_words (scope_name underscores) ((p0.0 ∷ p0.1) ∷ c ∷ c2 ∷ c3 ∷ [])))
    (sym p1.2)
    (subst (λ (c : List ℕ). AreWords (declared_words (scope_name underscores)
    ((p0.0 ∷ p0.1) ∷ (p1.0 ∷ p1.1) ∷ c ∷ c3 ∷ []))) (sym p2.2)
    (subst (λ (c : List ℕ). AreWords (declared_words (scope_name underscores)
    ((p0.0 ∷ p0.1) ∷ (p1.0 ∷ p1.1) ∷ (p2.0 ∷ p2.1) ∷ c ∷ []))) (sym p3.2)
    (AreWords-declared_words underscores p0.0 p1.0 p2.0 p3.0 p0.1 p1.1 p2.1 p3.1
    (subst (λ (c : List ℕ). IsWord c) p0.2 w0)
    (subst (λ (c : List ℕ). IsWord c) p1.2 w1) (subst (λ (c : List ℕ). IsWord c) p2.2 w2)
    (subst (λ (c : List ℕ). IsWord c) p3.2 w3)))))
