-- A code that is no token of the definitions isn't the code of a variable.
use Rattle.std.proofs.Common.{◌≡◌, ℕ, Bool, true, false, cond, eqb, List, [], ◌∷◌, ◌++◌, Option, Some, None, Result, Ok}
use Rattle.std.proofs.Common.{Err}
use Rattle.std.proofs.Common.{refl, sym, ap, ◌∙◌, get_or, take}
use Rattle.std.specs.List.Sorted.{IsStrictlyIncreasing}
use Rattle.std.specs.Prelude.{All, bytes_eq, codes, map, ◌||◌}
use Rattle.std.specs.List.{concat, list_any}
use Rattle.std.proofs.lemmas.Bool.{or_from, or_parts}
use Rattle.std.proofs.lemmas.List.Folds.{list_any-append}
use Rattle.vcd_read.specs.declared.dump.Variable.{Variable}
use Rattle.vcd_read.specs.declared.fault.FaultKind.{FaultKind}
use Rattle.vcd_read.specs.declared.fault.FaultKind.TheVariants.{BadVar, SizeConflict}
use Rattle.vcd_read.specs.declared.fault.VcdFault.{VcdFault}
use Rattle.vcd_read.specs.Tokens.{Token, tokens}
use Rattle.vcd_read.specs.Numbers.{number_below}
use Rattle.vcd_read.specs.Header.{Declared, Header, HeaderItem, JoinedNets, Net, Section, VarWords, appended}
use Rattle.vcd_read.specs.Header.{at_line}
use Rattle.vcd_read.specs.Header.{between, close_scope, declare_all, declare_section, declare_var, ends_definitions}
use Rattle.vcd_read.specs.Header.{header_from, inside, is_code, is_end, net_for, net_of, nothing_declared, open_scope}
use Rattle.vcd_read.specs.Header.{opened, opens_section, size_of, stray, unfinished, var_words, whole, with_item}
use Rattle.vcd_read.specs.Header.{with_word}
use Rattle.vcd_read.specs.Header.{HeaderPlace}
use Rattle.vcd_places.proofs.AddedNetLemmas.{net_of-still_none}
use Rattle.vcd_read.specs.CodeNumbers.{code_number}
use Rattle.vcd_read.specs.Meaning.{body_of}
use Rattle.vcd_read.specs.Sections.{Defined, header_of}
use Rattle.vcd_places.specs.Codes.{IsUnused}
use Rattle.vcd_places.specs.Places.{ends_definitions_at}
use Rattle.vme_annotation.specs.Fresh.{AreFree}
use Rattle.vme_annotation.proofs.SameDumpLemmas.{bind-ok}
use Rattle.vme_annotation.proofs.WholeLemmas.{items_of_text-before_end}

module _ (code : List ℕ) where
  -- the token is the code
  abbrev pub is_token : Token → Bool
  is_token t = bytes_eq t.bytes code

  -- the word is the code
  abbrev is_word : List ℕ → Bool
  is_word word = bytes_eq word code

  -- the item is a section with the code as a word
  abbrev item_names : HeaderItem → Bool
  item_names (whole section) = list_any is_word section.words
  item_names (unfinished line) = false
  item_names (stray line) = false

  -- the place is inside a section with the code as a word so far
  abbrev place_names : HeaderPlace → Bool
  place_names between = false
  place_names (inside section) = list_any is_word section.words

  -- ---- no item has the code as a word, since it is no token

  -- no item of the header has the code as a word
  abbrev Lack : Header → Type 0
  Lack header = list_any item_names header.items ≡ false

  -- `Lack` holds from a token between sections on, which opens one (`test`) or not
  Lack-between : (t : Token) (ts : List Token) (test : Bool) → Lack (header_from between ts)
      → Lack (header_from (inside (opened t)) ts)
      → Lack (elim test as (λ _. Header) [
        | true ↦ header_from (inside (opened t)) ts
        | false ↦ with_item (stray t.line) (header_from between ts)
      ])
  Lack-between t ts true next within = within
  Lack-between t ts false next within = next

  -- `Lack` holds from the end of a section on, which ends the definitions (`test`) or not
  Lack-section_end : (section : Section) (ts : List Token) (test : Bool) → list_any is_word section.words ≡ false
      → Lack (header_from between ts)
      → Lack (elim test as (λ _. Header) [
        | true ↦ record { items = []; body = Some ts }
        | false ↦ with_item (whole section) (header_from between ts)
      ])
  Lack-section_end section ts true lacks next = refl
  Lack-section_end section ts false lacks next =
      or_from (list_any is_word section.words) (list_any item_names (header_from between ts).items) lacks next

  -- `Lack` holds from a token inside a section on, which is its end (`test`) or not
  Lack-inside : (section : Section) (t : Token) (ts : List Token) (test : Bool) → list_any is_word section.words ≡ false
      → Lack (header_from between ts) → Lack (header_from (inside (with_word section t.bytes)) ts)
      → Lack (elim test as (λ _. Header) [
        | true ↦ elim (ends_definitions section) as (λ _. Header) [
          | true ↦ record { items = []; body = Some ts }
          | false ↦ with_item (whole section) (header_from between ts)
        ]
        | false ↦ header_from (inside (with_word section t.bytes)) ts
      ])
  Lack-inside section t ts true lacks next within = Lack-section_end section ts (ends_definitions section) lacks next
  Lack-inside section t ts false lacks next within = within

  -- words without the code, and another word, are words without the code
  list_any-with_word : (section : Section) (word : List ℕ) → list_any is_word section.words ≡ false
      → bytes_eq word code ≡ false → list_any is_word (section.words ++ word ∷ []) ≡ false
  list_any-with_word section word lacks differs =
      list_any-append is_word section.words (word ∷ [])
      ∙ or_from (list_any is_word section.words) (bytes_eq word code || false) lacks
      (or_from (bytes_eq word code) false differs refl)

  -- from any place on, tokens other than the code make no item with the code as a word
  Lack-header_from : (ts : List Token) (place : HeaderPlace) → place_names place ≡ false → list_any is_token ts ≡ false
      → Lack (header_from place ts)
  unfolding header_from
  Lack-header_from [] between place lacks = refl
  Lack-header_from [] (inside section) place lacks = refl
  Lack-header_from (t ∷ ts) between place lacks =
      let parts = or_parts (bytes_eq t.bytes code) (list_any is_token ts) lacks in
      Lack-between t ts (opens_section t.bytes) (Lack-header_from ts between refl parts.1)
      (Lack-header_from ts (inside (opened t)) refl parts.1)
  Lack-header_from (t ∷ ts) (inside section) place lacks =
      let parts = or_parts (bytes_eq t.bytes code) (list_any is_token ts) lacks in
      Lack-inside section t ts (is_end t.bytes) place (Lack-header_from ts between refl parts.1)
      (Lack-header_from ts (inside (with_word section t.bytes)) (list_any-with_word section t.bytes place parts.0)
      parts.1)

  -- ---- no net has the code

  -- the net that is found or added for another code gives the code none
  net_for-other_code : (nets : List Net) (other : List ℕ) (size : ℕ) (found : Option ℕ) (joined : JoinedNets)
      → net_of nets other ≡ found → bytes_eq other code ≡ false → net_of nets code ≡ None
      → net_for nets other size found ≡ Ok joined → net_of joined.nets code ≡ None
  net_for-other_code nets other size None joined is differs lacks e =
      sym (ap nets_in e) ∙ net_of-still_none nets other size code is differs lacks
    where
      -- the net of the code among the joined nets, if there is no fault
      nets_in : Result JoinedNets FaultKind → Option ℕ
      nets_in (Ok j) = net_of j.nets code
      nets_in (Err kind) = None
  net_for-other_code nets other size (Some net) joined is differs lacks e = by_size (eqb (size_of nets net) size) e
    where
      -- the net of the code among the joined nets, if there is no fault
      nets_in : Result JoinedNets FaultKind → Option ℕ
      nets_in (Ok j) = net_of j.nets code
      nets_in (Err kind) = None

      -- the code has no net after that, whether the size is the same (`test`) or not
      by_size : (test : Bool)
          → cond test (Ok (record { net = net; nets = nets })) (Err SizeConflict) ≡ Ok joined
          → net_of joined.nets code ≡ None
      by_size true e = sym (ap nets_in e) ∙ lacks
      by_size false e = absurd cc

  -- a variable whose section hasn't the code as a word has another code
  var_words-other_code : (words : List (List ℕ)) (var : VarWords) → list_any is_word words ≡ false
      → var_words words ≡ Ok var → bytes_eq var.code code ≡ false
  var_words-other_code [] var lacks e = absurd cc
  var_words-other_code (type ∷ []) var lacks e = absurd cc
  var_words-other_code (type ∷ size ∷ []) var lacks e = absurd cc
  var_words-other_code (type ∷ size ∷ word ∷ []) var lacks e = absurd cc
  var_words-other_code (type ∷ size ∷ word ∷ first ∷ others) var lacks e =
      let after_type = or_parts (is_word type) (list_any is_word (size ∷ word ∷ first ∷ others)) lacks in
      let after_size = or_parts (is_word size) (list_any is_word (word ∷ first ∷ others)) after_type.1 in
      let at_word = or_parts (is_word word) (list_any is_word (first ∷ others)) after_size.1 in
      let sized = bind-ok (number_below 65537 BadVar size) (λ n. cond (is_code word) (Ok (record {
        size = n;
        code = word;
        reference = concat (first ∷ others);
      })) (Err BadVar)) var e in
      by_code (is_code word) sized.0 at_word.0 sized.2
    where
      -- whether the code that is read is the code
      code_in : Result VarWords FaultKind → Bool
      code_in (Ok v) = bytes_eq v.code code
      code_in (Err kind) = false

      -- the code of the variable is another one, whether the word is a code (`test`) or not
      by_code : (test : Bool) (n : ℕ) → bytes_eq word code ≡ false
          → cond test (Ok (record { size = n; code = word; reference = concat (first ∷ others) })) (Err BadVar) ≡ Ok var
          → bytes_eq var.code code ≡ false
      by_code true n differs e = sym (ap code_in e) ∙ differs
      by_code false n differs e = absurd cc

  -- the net of the code after a declaration, if there is no fault
  abbrev declared_code : Result (Declared (List Variable)) FaultKind → Option ℕ
  declared_code (Ok d) = net_of d.nets code
  declared_code (Err kind) = None

  -- a variable whose words aren't the code gives it no net
  declare_var-other_code : (d next : Declared (List Variable)) (words : List (List ℕ)) → list_any is_word words ≡ false
      → net_of d.nets code ≡ None → declare_var appended d words ≡ Ok next → net_of next.nets code ≡ None
  declare_var-other_code d next words lacks none e =
      let var = bind-ok (var_words words) _ next e in
      let joined = bind-ok (net_for d.nets var.0.code var.0.size (net_of d.nets var.0.code)) _ next var.2 in
      sym (ap declared_code joined.2)
      ∙ net_for-other_code d.nets var.0.code var.0.size (net_of d.nets var.0.code) joined.0 refl
      (var_words-other_code words var.0 lacks var.1) none joined.1

  -- a scope that closes gives the code no net
  close_scope-other_code : (d next : Declared (List Variable)) (scopes : List (List ℕ)) → net_of d.nets code ≡ None
      → close_scope d scopes ≡ Ok next → net_of next.nets code ≡ None
  close_scope-other_code d next [] none e = absurd cc
  close_scope-other_code d next (scope ∷ scopes) none e = sym (ap declared_code e) ∙ none

  -- a section whose words aren't the code gives it no net
  declare_section-other_code : (d next : Declared (List Variable)) (section : Section) → list_any is_word section.words
      ≡ false
      → net_of d.nets code ≡ None → declare_section appended d section ≡ Ok next → net_of next.nets code ≡ None
  declare_section-other_code d next section lacks none e =
      by_keyword (bytes_eq section.keyword (codes "$var")) (bytes_eq section.keyword (codes "$scope"))
      (bytes_eq section.keyword (codes "$upscope")) e
    where
      -- the code has no net after a section with any keyword
      by_keyword : (var scope upscope : Bool)
          → cond var (declare_var appended d section.words) (cond scope (Ok (open_scope d section.words))
          (cond upscope (close_scope d d.scopes) (Ok d))) ≡ Ok next
          → net_of next.nets code ≡ None
      by_keyword true scope upscope e = declare_var-other_code d next section.words lacks none e
      by_keyword false true upscope e = sym (ap declared_code e) ∙ none
      by_keyword false false true e = close_scope-other_code d next d.scopes none e
      by_keyword false false false e = sym (ap declared_code e) ∙ none

  -- a result with a line that is no fault is none without the line
  at_line-ok : (line : ℕ) (r : Result (Declared (List Variable)) FaultKind) (next : Declared (List Variable))
      → at_line line r ≡ Ok next → r ≡ Ok next
  at_line-ok line (Ok d) next e = cc
  at_line-ok line (Err kind) next e = absurd cc

  -- the net of the code after all declarations, if there is no fault
  abbrev declared_after : Result (Declared (List Variable)) VcdFault → Option ℕ
  declared_after (Ok d) = net_of d.nets code
  declared_after (Err fault) = None

  -- items whose words aren't the code give it no net
  declare_all-other_code : (items : List HeaderItem) (d end : Declared (List Variable)) → list_any item_names items
      ≡ false
      → net_of d.nets code ≡ None → declare_all appended d items ≡ Ok end → net_of end.nets code ≡ None
  unfolding declare_all
  declare_all-other_code [] d end lacks none e = sym (ap declared_after e) ∙ none
  declare_all-other_code (whole section ∷ items) d end lacks none e =
      let parts = or_parts (list_any is_word section.words) (list_any item_names items) lacks in
      let read = bind-ok (at_line section.line (declare_section appended d section))
      (λ next. declare_all appended next items) end e in
      declare_all-other_code items read.0 end parts.1
      (declare_section-other_code d read.0 section parts.0 none
      (at_line-ok section.line (declare_section appended d section) read.0
      read.1)) read.2
  declare_all-other_code (unfinished line ∷ items) d end lacks none e = absurd cc
  declare_all-other_code (stray line ∷ items) d end lacks none e = absurd cc

  -- no variable has a code that is no token of the definitions
  pub net_of-unused : (front : List ℕ) (end : Declared (List Variable)) → list_any is_token (tokens front) ≡ false
      → declare_all appended (nothing_declared []) (header_from between (tokens front)).items ≡ Ok end
      → net_of end.nets code ≡ None
  net_of-unused front end lacks e =
      declare_all-other_code (header_from between (tokens front)).items (nothing_declared []) end
      (Lack-header_from (tokens front) between refl lacks) refl e

-- a body that is no fault is there
body_of-ok : (text : List ℕ) (o : Option (List Token)) (body : List Token) → body_of text o ≡ Ok body → o ≡ Some body
body_of-ok text None body e = absurd cc
body_of-ok text (Some other) body e = cc

-- the nets of a header, or none
abbrev nets_in : Result (Defined (List Variable)) VcdFault → List Net
nets_in (Ok d) = d.head.nets
nets_in (Err fault) = []

-- codes that are no tokens of the definitions are free
pub AreFree-unused : (dump : List ℕ) (start : ℕ) (d : Defined (List Variable)) (own : List (List ℕ))
    → ends_definitions_at dump start ≡ true
    → header_of appended dump (nothing_declared []) (tokens dump) ≡ Ok d
    → All (λ (code : List ℕ). IsUnused (take start dump) (code_number code) code) own
    → IsStrictlyIncreasing (map code_number own) → AreFree d.head.nets own
AreFree-unused dump start d own starts e each ascend =
    let header : Header = header_from between (tokens dump) in
    let declared = bind-ok (declare_all appended (nothing_declared []) header.items) _ d e in
    let body = bind-ok (body_of dump header.body) _ d declared.2 in
    let items = items_of_text-before_end dump start starts body.0 (body_of-ok dump header.body body.0 body.1) in
    let declares = sym (ap (declare_all appended (nothing_declared [])) items) ∙ declared.1 in
    let nets : declared.0.nets ≡ d.head.nets = ap nets_in body.2 in
    record {
      each = λ k other lt.
          let unused = each k other lt in
          let code : List ℕ = get_or own k other in
          record {
            some = unused.some;
            is_one = unused.is_one;
            no_end = unused.no_end;
            free = sym (ap (λ (ns : List Net). net_of ns code) nets)
                ∙ net_of-unused code (take start dump) declared.0 unused.unused declares;
          };
      ascend = ascend;
    }
