-- A binding that makes a recording of a dump makes the same of the annotated dump.
use Rattle.std.proofs.Common.{◌≡◌, ℕ, ◌<◌, true, false, List, [], ◌∷◌, ◌++◌, Option, Some, None, Result}
use Rattle.std.proofs.Common.{Ok, Err, refl, sym, ap, subst, ◌∙◌, arith, length, take, drop}
use Rattle.std.specs.Prelude.{codes, map, option_map, ◌&&◌}
use Rattle.std.specs.List.{list_all}
use Rattle.std.proofs.lemmas.Bool.{and_parts}
use Rattle.std.proofs.lemmas.List.{append-nil, take-append-drop}
use Rattle.vcd_read.specs.Contents.{Contents}
use Rattle.vcd_read.specs.declared.dump.Instant.{Instant}
use Rattle.vcd_read.specs.declared.dump.Variable.{Variable}
use Rattle.vcd_read.specs.declared.fault.VcdFault.{VcdFault}
use Rattle.vcd_read.specs.Tokens.{Token, tokens, tokens_from}
use Rattle.vcd_read.specs.Reading.{line_behind}
use Rattle.vcd_read.specs.CodeNumbers.{code_number}
use Rattle.vcd_read.specs.Header.{◌>>=◌, Declared, Header, HeaderItem, Net, appended, between, header_from}
use Rattle.vcd_read.specs.Header.{net_of, nothing_declared}
use Rattle.vcd_read.specs.Sections.{Defined, headed, header_of}
use Rattle.vcd_read.specs.Body.{BodyItem, body_from, ready}
use Rattle.vcd_read.specs.Meaning.{body_of, dump_of}
use Rattle.vcd_places.specs.Places.{begins_with_token, body_in, ends_at_boundary, ends_definitions_at}
use Rattle.vcd_places.specs.Places.{is_between_sections}
use Rattle.vcd_places.proofs.InsertionLemmas.{IsWord, after_items, tokens_from-words}
use Rattle.vcd_places.proofs.SkippedLemmas.{instants_in}
use Rattle.vcd_places.proofs.AddedNetLemmas.{instants_in-all, net_of-added, net_of-all, net_of-still_none}
use Rattle.vcd_places.proofs.StringStepLemmas.{IsShown, instants_of_text, items_of_text}
use Rattle.vme_bind.specs.Binding.{BoundLines}
use Rattle.vme_bind.specs.BoundGroups.{bound_groups_in}
use Rattle.vme_bind.specs.Capture.{recording_of}
use Rattle.vme_bind.specs.TextCapture.{or_binding, recording_of_text, recording_read}
use Rattle.vme_bind.specs.declared.fault.BindFault.{BindFault}
use Rattle.vme_trace.specs.Trace.{Trace}
use Rattle.vme_listing.specs.Recorded.{recorded_rows}
use Rattle.vme_annotation.specs.Annotated.{ArePutAt, annotated, change_text, code_of, declarations}
use Rattle.vme_annotation.specs.Annotated.{declared_words}
use Rattle.vme_annotation.specs.Fresh.{AreFree, IsFree, has_name, scope_name}
use Rattle.vme_annotation.specs.Inserted.{PutChange, change_of, with_changes}
use Rattle.vme_annotation.specs.Same.{SaysTheSame}
use Rattle.vme_annotation.specs.Shown.{ShownChange}
use Rattle.vme_annotation.specs.declared.shown_variable.ShownVariable.{ShownVariable}
use Rattle.vme_annotation.specs.declared.shown_variable.ShownVariable.TheVariants as shown
use Rattle.vme_annotation.proofs.BoundLemmas.{fine_first, groups_stay, is_fine}
use Rattle.vme_annotation.proofs.ChangesInLemmas.{ArePutIn, instants_of_text-inserted_from}
use Rattle.vme_annotation.proofs.DeclaredLemmas.{declare_all-inserted_sections, header_from-declared_words}
use Rattle.vme_annotation.proofs.DeclaredLemmas.{inserted_sections}
use Rattle.vme_annotation.proofs.DeclaredLemmas.{inserted_variables, nets_1, nets_2, nets_3, nets_4, with_inserted}
use Rattle.vme_annotation.proofs.SameDumpLemmas.{IsDump, IsDump-dump_of, dump_of-more_items}
use Rattle.vme_annotation.proofs.ShownWordLemmas.{are_words-of_rows, shows_word}
use Rattle.vme_annotation.proofs.WholeLemmas.{append-cancel_nil, IsWord-code, bytes_eq-different_codes}
use Rattle.vme_annotation.proofs.WholeLemmas.{items-at_end_definitions}
use Rattle.vme_annotation.proofs.WholeLemmas.{AreApart-inserted_variables, header_from-front, cons-some}
use Rattle.vme_annotation.proofs.WholeLemmas.{AreWords-declarations}

-- ---- the codes

module _ (nets : List Net) (c0 c1 c2 c3 : List ℕ) (are : AreFree nets (c0 ∷ c1 ∷ c2 ∷ c3 ∷ [])) where
  -- the four codes
  abbrev four_codes : List (List ℕ)
  four_codes = c0 ∷ c1 ∷ c2 ∷ c3 ∷ []

  -- the first code is free
  free_0 : IsFree nets c0
  free_0 = are.each 0 c0 (omega arith)

  -- the second code is free
  free_1 : IsFree nets c1
  free_1 = are.each 1 c0 (omega arith)

  -- the third code is free
  free_2 : IsFree nets c2
  free_2 = are.each 2 c0 (omega arith)

  -- the fourth code is free
  free_3 : IsFree nets c3
  free_3 = are.each 3 c0 (omega arith)

  -- the number of the first code is below that of the second
  below_01 : code_number c0 < code_number c1
  below_01 = are.ascend 0 (omega arith)

  -- the number of the second code is below that of the third
  below_12 : code_number c1 < code_number c2
  below_12 = are.ascend 1 (omega arith)

  -- the number of the third code is below that of the fourth
  below_23 : code_number c2 < code_number c3
  below_23 = are.ascend 2 (omega arith)

  -- after the first code's net is added, the second code has none
  new_1 : net_of (nets_1 c0 nets) c1 ≡ None
  new_1 = net_of-still_none nets c0 1 c1 free_0.free (bytes_eq-different_codes c0 c1 below_01) free_1.free

  -- after the first code's net is added, the third code has none
  after_0-2 : net_of (nets_1 c0 nets) c2 ≡ None
  after_0-2 = net_of-still_none nets c0 1 c2 free_0.free (bytes_eq-different_codes c0 c2
      (omega (arith, below_01, below_12)))
      free_2.free

  -- after the first code's net is added, the fourth code has none
  after_0-3 : net_of (nets_1 c0 nets) c3 ≡ None
  after_0-3 = net_of-still_none nets c0 1 c3 free_0.free (bytes_eq-different_codes c0 c3
      (omega (arith, below_01, below_12, below_23)))
      free_3.free

  -- after the second code's net is added, the third code has none
  new_2 : net_of (nets_2 c0 c1 nets) c2 ≡ None
  new_2 = net_of-still_none (nets_1 c0 nets) c1 1 c2 new_1 (bytes_eq-different_codes c1 c2 below_12) after_0-2

  -- after the second code's net is added, the fourth code has none
  after_1-3 : net_of (nets_2 c0 c1 nets) c3 ≡ None
  after_1-3 = net_of-still_none (nets_1 c0 nets) c1 1 c3 new_1
      (bytes_eq-different_codes c1 c3 (omega (arith, below_12, below_23)))
      after_0-3

  -- after the third code's net is added, the fourth code has none
  new_3 : net_of (nets_3 c0 c1 c2 nets) c3 ≡ None
  new_3 = net_of-still_none (nets_2 c0 c1 nets) c2 1 c3 new_2 (bytes_eq-different_codes c2 c3 below_23) after_1-3

  -- the nets, with those of the four codes
  abbrev all : List Net
  all = nets_4 c0 c1 c2 c3 nets

  -- the fourth code has the net that was added last
  has_3 : net_of all c3 ≡ Some (length (nets_3 c0 c1 c2 nets))
  has_3 = net_of-added (nets_3 c0 c1 c2 nets) c3 1 new_3

  -- the third code has the net that was added for it
  has_2 : net_of all c2 ≡ Some (length (nets_2 c0 c1 nets))
  has_2 = net_of-all (nets_3 c0 c1 c2 nets) c3 1 new_3 c2 (length (nets_2 c0 c1 nets))
      (net_of-added (nets_2 c0 c1 nets) c2 1 new_2)

  -- the second code has the net that was added for it
  has_1 : net_of all c1 ≡ Some (length (nets_1 c0 nets))
  has_1 = net_of-all (nets_3 c0 c1 c2 nets) c3 1 new_3 c1 (length (nets_1 c0 nets))
      (net_of-all (nets_2 c0 c1 nets) c2 1 new_2 c1 (length (nets_1 c0 nets))
      (net_of-added (nets_1 c0 nets) c1 1 new_1))

  -- the first code has the net that was added for it
  has_0 : net_of all c0 ≡ Some (length nets)
  has_0 = net_of-all (nets_3 c0 c1 c2 nets) c3 1 new_3 c0 (length nets)
      (net_of-all (nets_2 c0 c1 nets) c2 1 new_2 c0 (length nets)
      (net_of-all (nets_1 c0 nets) c1 1 new_1 c0 (length nets) (net_of-added nets c0 1 free_0.free)))

  -- a body without a fault has the same instants when the four nets are added
  pub instants_in-four_nets : (items : List BodyItem) (instants : List Instant) → instants_in nets items ≡ Ok instants
      → instants_in all items ≡ Ok instants
  instants_in-four_nets items instants e =
      instants_in-all (nets_3 c0 c1 c2 nets) c3 1 new_3 items instants
      (instants_in-all (nets_2 c0 c1 nets) c2 1 new_2 items instants
      (instants_in-all (nets_1 c0 nets) c1 1 new_1 items instants
      (instants_in-all nets c0 1 free_0.free items instants e)))

  -- the text `text`, which is a word, is shown by the free code `code`, which has a net in `all`
  IsShown-free_code : (text code : List ℕ) (net : ℕ) → IsWord text → IsFree nets code → net_of all code ≡ Some net
      → IsShown all text code
  IsShown-free_code text code net word free has =
      let first = cons-some code free.some in
      record {
        word = word;
        first = first.0;
        others = first.1;
        code_is = first.2;
        named = subst (λ (c : List ℕ). IsWord c) first.2 (IsWord-code code free.is_one);
        net = net;
        net_is = has;
      }

  -- a text that is a word can be shown by each of the four variables
  IsShown-each_variable : (text : List ℕ) (v : ShownVariable) → IsWord text → IsShown all text (code_of four_codes v)
  IsShown-each_variable text shown.Tenure word = IsShown-free_code text c0 (length nets) word free_0 has_0
  IsShown-each_variable text shown.Cycle word = IsShown-free_code text c1 (length (nets_1 c0 nets)) word free_1 has_1
  IsShown-each_variable text shown.Transfer word = IsShown-free_code text c2 (length (nets_2 c0 c1 nets)) word free_2
      has_2
  IsShown-each_variable text shown.Verdict word = IsShown-free_code text c3 (length (nets_3 c0 c1 c2 nets)) word free_3
      has_3

  -- the code of the variable that a change is of
  abbrev pub code_by : ShownChange → List ℕ
  code_by c = code_of four_codes c.variable

  -- changes that are put at their times, and whose texts are words, are put after items, and their codes have nets
  ArePutIn-ArePutAt : (dump : List ℕ) (t : Trace) (put : List PutChange) (from : ℕ) → ArePutAt dump t from put
      → list_all shows_word (map change_of put) ≡ true → ArePutIn all code_by dump from put
  ArePutIn-ArePutAt dump t [] from placed words = tt
  ArePutIn-ArePutAt dump t (p ∷ put) from placed words =
      let parts = and_parts (shows_word p.change) (list_all shows_word (map change_of put)) words in (
        placed.0,
        record {
          shown = IsShown-each_variable p.change.text p.change.variable parts.0;
          behind = record { body = placed.1.body; ended = placed.1.ended; whole = placed.1.whole };
          detached = placed.1.detached;
        },
        ArePutIn-ArePutAt dump t put p.place placed.2 parts.1,
      )

-- ---- the text

-- a value that is there after `f` was there before
option_map-some : {A B : Type 0} (f : A → B) (o : Option A) (b : B) → option_map f o ≡ Some b
    → (a : A) × (o ≡ Some a) × (f a ≡ b)
option_map-some f None b e = absurd cc
option_map-some f (Some a) b e = (a, refl, cc)

-- the dump has these contents, its definitions end from `start` on, and the changes `put`, whose texts are words, are
-- put at their times, with four free codes
module _ (dump : List ℕ) (contents : Contents) (is : IsDump dump contents) (t : Trace) (underscores start : ℕ)
    (put : List PutChange) (c0 c1 c2 c3 : List ℕ) (starts : ends_definitions_at dump start ≡ true)
    (placed : ArePutAt dump t start put) (words : list_all shows_word (map change_of put) ≡ true)
    (are : AreFree is.declared.nets (c0 ∷ c1 ∷ c2 ∷ c3 ∷ [])) where
  -- the nets of the dump
  abbrev nets : List Net
  nets = is.declared.nets

  -- the name of the scope
  abbrev scope : List ℕ
  scope = scope_name underscores

  -- the four codes
  abbrev four : List (List ℕ)
  four = c0 ∷ c1 ∷ c2 ∷ c3 ∷ []

  -- the nets, with those of the four codes
  abbrev now : List Net
  now = nets_4 c0 c1 c2 c3 nets

  -- the dump before the section that ends its definitions
  abbrev front : List ℕ
  front = take start dump

  -- the line that `front` ends on
  abbrev line : ℕ
  line = line_behind 1 front

  -- the rest of the dump, with the changes
  abbrev rest : List ℕ
  rest = with_changes (change_text four) start put dump

  -- the header of what is put after `front`
  abbrev after : List ℕ → Header
  after text = header_from between (tokens_from line text)

  -- `front` ends with white space and between two sections, and `$enddefinitions` follows
  parts : (ends_at_boundary front ≡ true) × (is_between_sections front ≡ true)
      × (begins_with_token (codes "$enddefinitions") (drop start dump) ≡ true)
  parts =
      let outer = and_parts (ends_at_boundary front && is_between_sections front)
      (begins_with_token (codes "$enddefinitions") (drop start dump)) starts in
      let inner = and_parts (ends_at_boundary front) (is_between_sections front) outer.0 in
      (inner.0, inner.1, outer.1)

  -- a text after `front` has the items of `front`, and then its own
  header_from-after_front : (text : List ℕ) → header_from between (tokens (front ++ text))
      ≡ after_items (items_of_text front) (after text)
  header_from-after_front text = header_from-front front parts.0 parts.1 text

  -- with the changes, the dump has the same instants by all nets, and the same items
  same_instants_and_items : (instants_of_text now (front ++ rest) ≡ instants_of_text now dump)
      × (items_of_text (front ++ rest) ≡ items_of_text dump)
  same_instants_and_items =
      instants_of_text-inserted_from now (code_by nets c0 c1 c2 c3 are) dump put start
      (ArePutIn-ArePutAt nets c0 c1 c2 c3 are dump t put start placed words)

  -- all items of the dump are in `front`
  items_dump : items_of_text dump ≡ items_of_text front ++ []
  items_dump =
      ap items_of_text (sym (take-append-drop start dump))
      ∙ ap (λ (h : Header). h.items) (header_from-after_front (drop start dump))
      ∙ ap (λ (items : List HeaderItem). items_of_text front ++ items)
      (items-at_end_definitions line (drop start dump) parts.2 is.body (sym (ap (λ (h : Header). h.body)
      (header_from-after_front (drop start dump))) ∙ ap body_in (take-append-drop start dump) ∙ is.ends))

  -- the rest of the dump declares nothing
  items_rest : (after rest).items ≡ []
  items_rest =
      append-cancel_nil (items_of_text front) (after rest).items
      (sym (ap (λ (h : Header). h.items) (header_from-after_front rest)) ∙ same_instants_and_items.1 ∙ items_dump)

  -- the instants of a body by all nets
  abbrev read : List Token → Result (List Instant) VcdFault
  read body = instants_in now (body_from ready body)

  -- the rest of the dump has a body, whose instants are those of the dump
  body_rest : (body : List Token) × ((after rest).body ≡ Some body) × (read body ≡ Ok contents.instants)
  body_rest =
      option_map-some read (after rest).body (Ok contents.instants)
      (sym (ap (λ (h : Header). option_map read h.body) (header_from-after_front rest)) ∙ same_instants_and_items.0
      ∙ ap (option_map read) is.ends
      ∙ ap (λ (r : Result (List Instant) VcdFault). Some r)
      (instants_in-four_nets nets c0 c1 c2 c3 are (body_from ready is.body) contents.instants is.comes))

  -- the annotated dump
  abbrev whole : List ℕ
  whole = front ++ (declarations scope four ++ rest)

  -- the header of the annotated dump has the items of `front`, the six sections that are inserted, and the body of the
  -- rest
  header_whole : header_from between (tokens whole)
      ≡ after_items (items_of_text front) (after_items (inserted_sections scope c0 c1 c2 c3 line) (after rest))
  header_whole =
      let f0 = free_0 nets c0 c1 c2 c3 are in
      let f1 = free_1 nets c0 c1 c2 c3 are in
      let f2 = free_2 nets c0 c1 c2 c3 are in
      let f3 = free_3 nets c0 c1 c2 c3 are in
      header_from-after_front (declarations scope four ++ rest)
      ∙ ap (after_items (items_of_text front))
      (ap (header_from between) (tokens_from-words line (declared_words scope four) rest
      (AreWords-declarations underscores c0 c1 c2 c3 f0.some f1.some f2.some f3.some (IsWord-code c0 f0.is_one)
      (IsWord-code c1 f1.is_one) (IsWord-code c2 f2.is_one) (IsWord-code c3 f3.is_one)))
      ∙ header_from-declared_words scope c0 c1 c2 c3 line (tokens_from line rest) refl f0.no_end f1.no_end f2.no_end
      f3.no_end)

  -- the annotated dump has the items of the dump, and then the six sections
  items_whole : items_of_text whole ≡ items_of_text dump ++ inserted_sections scope c0 c1 c2 c3 line
  items_whole =
      let sections : List HeaderItem = inserted_sections scope c0 c1 c2 c3 line in
      ap (λ (h : Header). h.items) header_whole
      ∙ ap (λ (items : List HeaderItem). items_of_text front ++ (sections ++ items)) items_rest
      ∙ ap (λ (items : List HeaderItem). items_of_text front ++ items) (append-nil sections)
      ∙ sym (ap (λ (items : List HeaderItem). items ++ sections) (items_dump ∙ append-nil (items_of_text front)))

  -- the annotated dump has the variables of the dump, and then the four, and the instants of the dump
  pub dump_of-annotated : dump_of whole ≡ Ok (record {
    variables = is.declared.variables ++ inserted_variables scope c0 c1 c2 c3 is.declared;
    instants = contents.instants;
  })
  dump_of-annotated =
      let f0 = free_0 nets c0 c1 c2 c3 are in
      let f1 = free_1 nets c0 c1 c2 c3 are in
      let f2 = free_2 nets c0 c1 c2 c3 are in
      let f3 = free_3 nets c0 c1 c2 c3 are in
      dump_of-more_items dump whole contents is (inserted_sections scope c0 c1 c2 c3 line)
      (with_inserted scope c0 c1 c2 c3 is.declared)
      body_rest.0 items_whole (ap (λ (h : Header). h.body) header_whole ∙ body_rest.1)
      (declare_all-inserted_sections scope c0 c1 c2 c3 line is.declared f0.is_one f1.is_one f2.is_one f3.is_one f0.free
      (new_1 nets c0 c1 c2 c3 are) (new_2 nets c0 c1 c2 c3 are) (new_3 nets c0 c1 c2 c3 are))
      body_rest.2

-- ---- the recording

-- what isn't refused is as it was
or_binding-ok : {A : Type 0} (r : Result A BindFault) (a : A) → or_binding r ≡ Ok a → r ≡ Ok a
or_binding-ok (Ok b) a e = cc
or_binding-ok (Err fault) a e = absurd cc

-- a recording that is made of what was read is made of contents
recording_read-ok : (binding : BoundLines) (r : Result Contents VcdFault) (t : Trace) → recording_read binding r ≡ Ok t
    → (contents : Contents) × (r ≡ Ok contents) × (recording_of binding contents ≡ Ok t)
recording_read-ok binding (Ok contents) t e = (contents, refl, or_binding-ok (recording_of binding contents) t e)
recording_read-ok binding (Err fault) t e = absurd cc

-- further variables leave the recording as it is, if they leave what the binding finds
recording_of-more_variables : (binding : BoundLines) (contents : Contents) (more : List Variable) (t : Trace)
    → recording_of binding contents ≡ Ok t
    → bound_groups_in (contents.variables ++ more) binding.assignments
    ≡ bound_groups_in contents.variables binding.assignments
    → recording_of binding (record { variables = contents.variables ++ more; instants = contents.instants }) ≡ Ok t
unfolding recording_of
recording_of-more_variables binding contents more t e stay = rw stay e

-- if a recording is made, the binding finds its variables
is_fine-bound_groups_in : (binding : BoundLines) (contents : Contents) (t : Trace) → recording_of binding contents
    ≡ Ok t
    → is_fine (bound_groups_in contents.variables binding.assignments) ≡ true
unfolding recording_of
is_fine-bound_groups_in binding contents t e =
    fine_first (bound_groups_in contents.variables binding.assignments) _ (ap is_fine e)

-- a list of four has four elements
four_elements : (own : List (List ℕ)) → length own ≡ 4
    → (c0 : List ℕ) × (c1 : List ℕ) × (c2 : List ℕ) × (c3 : List ℕ) × (own ≡ c0 ∷ c1 ∷ c2 ∷ c3 ∷ [])
four_elements [] e = absurd (omega (arith, e))
four_elements (a ∷ []) e = absurd (omega (arith, e))
four_elements (a ∷ b ∷ []) e = absurd (omega (arith, e))
four_elements (a ∷ b ∷ c ∷ []) e = absurd (omega (arith, e))
four_elements (a ∷ b ∷ c ∷ d ∷ []) e = (a, b, c, d, refl)
four_elements (a ∷ b ∷ c ∷ d ∷ x ∷ xs) e = absurd (omega (arith, e))

-- the header, as a result without a fault
abbrev defined_as : Defined (List Variable) → Result (Defined (List Variable)) VcdFault
defined_as d = Ok d

-- the header that is read, or else the other
abbrev defined_by : Defined (List Variable) → Result (Defined (List Variable)) VcdFault → Defined (List Variable)
defined_by other (Ok d) = d
defined_by other (Err fault) = other

-- headers that are read the same are the same
defined_as-same : (a b : Defined (List Variable)) → defined_as a ≡ defined_as b → a ≡ b
defined_as-same a b e = ap (defined_by a) e

-- the header of a dump is that of its definitions and its body
header_of-IsDump : (dump : List ℕ) (contents : Contents) (is : IsDump dump contents) (defines : Defined (List Variable))
    → header_of appended dump (nothing_declared []) (tokens dump) ≡ Ok defines
    → defines ≡ headed is.declared is.body
header_of-IsDump dump contents is defines e =
    defined_as-same defines (headed is.declared is.body) (sym e
    ∙ ap (λ (r : Result (Declared (List Variable)) VcdFault). r >>= λ declared.
    body_of dump (header_from between (tokens dump)).body >>= λ body. Ok (headed declared body)) is.declares
    ∙ ap (λ (o : Option (List Token)). body_of dump o >>= λ body. Ok (headed is.declared body)) is.ends)

-- any binding that makes a recording of a dump makes the same of the annotated dump
pub says_the_same : SaysTheSame
unfolding annotated recording_of_text
says_the_same binding dump text shown t a e =
    let read = recording_read-ok binding (dump_of dump) t e in
    let contents : Contents = read.0 in
    let is : IsDump dump contents = IsDump-dump_of dump contents read.1 in
    let defines : a.defines ≡ headed is.declared is.body = header_of-IsDump dump contents is a.defines a.defines_are in
    let four = four_elements a.own a.count_is in
    let own : List (List ℕ) = four.0 ∷ four.1 ∷ four.2 ∷ four.3 ∷ [] in
    let are : AreFree is.declared.nets own =
    subst (λ (d : Defined (List Variable)). AreFree d.head.nets own) defines
    (subst (λ (codes : List (List ℕ)). AreFree a.defines.head.nets codes) four.4 a.codes_are) in
    let lacks : has_name is.declared.variables a.underscores ≡ false =
    ap (λ (d : Defined (List Variable)). has_name d.variables a.underscores) (sym defines)
    ∙ a.scope in
    let words : list_all shows_word (map change_of a.put) ≡ true =
    are_words-of_rows (recorded_rows shown) (map change_of a.put) a.changes_are in
    let text_is : text ≡ take a.start dump ++ (declarations (scope_name a.underscores) own
    ++ with_changes (change_text own) a.start a.put dump) =
    a.text_is ∙ ap (λ (codes : List (List ℕ)). annotated dump a.start (scope_name a.underscores) codes a.put) four.4 in
    let dumped = dump_of-annotated dump contents is shown a.underscores a.start a.put four.0 four.1 four.2 four.3
    a.starts
    a.placed words are in
    let more : List Variable = inserted_variables (scope_name a.underscores) four.0 four.1 four.2 four.3 is.declared in
    let variables : contents.variables ≡ is.declared.variables = is.variables in
    ap (λ (bytes : List ℕ). recording_read binding (dump_of bytes)) text_is
    ∙ ap (recording_read binding) dumped
    ∙ ap (λ (vs : List Variable). or_binding (recording_of binding (record {
      variables = vs ++ more;
      instants = contents.instants;
    }))) (sym variables)
    ∙ ap or_binding (recording_of-more_variables binding contents more t read.2
    (ap (λ (vs : List Variable). bound_groups_in (vs ++ more) binding.assignments) variables
    ∙ groups_stay is.declared.variables more (AreApart-inserted_variables a.underscores four.0 four.1 four.2 four.3
    is.declared lacks)
    binding.assignments (sym (ap (λ (vs : List Variable). is_fine (bound_groups_in vs binding.assignments)) variables)
    ∙ is_fine-bound_groups_in binding contents t read.2)
    ∙ sym (ap (λ (vs : List Variable). bound_groups_in vs binding.assignments) variables)))
