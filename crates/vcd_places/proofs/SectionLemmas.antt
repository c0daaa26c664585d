-- After a section that is taken, or a token outside one, the definitions continue, end, or never end.
use Rattle.std.proofs.Common.{◌≡◌, ℕ, Bool, true, false, List, [], ◌∷◌, ◌++◌, Option, Some, None}
use Rattle.std.proofs.Common.{take, refl, sym, ap, ◌∙◌, true≢false}
use Rattle.std.specs.Prelude.{not, ◌&&◌, ◌||◌, bytes_eq, codes, is_some, unwrap_or}
use Rattle.std.specs.List.{list_any}
use Rattle.std.proofs.lemmas.List.{append-nil}
use Rattle.std.proofs.lemmas.List.Folds.{list_any-append}
use Rattle.std.proofs.lemmas.Bool.{and_parts, not-true, or_parts}
use Rattle.vcd_read.specs.Tokens.{Token, cut_from, tokens}
use Rattle.vcd_read.specs.Reading.{tokens_after}
use Rattle.vcd_read.specs.Header.{Header, HeaderItem, Section, between, ends_definitions, header_from, inside, is_end}
use Rattle.vcd_read.specs.Header.{opened, opens_section, stray, whole, with_item, with_word}
use Rattle.vcd_read.specs.Body.{body_from, ready}
use Rattle.vcd_read.specs.Meaning.{last_time}
use Rattle.vcd_read.proofs.HeaderPlaces.{from_between, from_inside, from_section_end}
use Rattle.vcd_places.specs.Places.{IsAtTime, body_in}
use Rattle.vcd_places.specs.Places.{is_between_sections, is_unfinished, item_times, times_of_body}
use Rattle.vcd_places.specs.NextTokens.{IsNextToken, IsTakenToEnd, ends_section, is_token_boundary}
use Rattle.vcd_places.specs.Times.{IsBetweenItems, times_left}
use Rattle.vcd_places.proofs.InsertionLemmas.{IsBetweenSections, after_items, ExtendsBody-all, SplitsHeader-all}
use Rattle.vcd_places.proofs.ItemLemmas.{AreTaken-section, token}
use Rattle.vcd_places.proofs.NextTokenLemmas.{tokens-at_boundary, tokens-detached}

-- ---- a section

-- the section with the words of the tokens after its own
words_of : Section → List Token → Section
words_of section [] = section
words_of section (w ∷ words) = words_of (with_word section w.bytes) words

-- from inside `$enddefinitions` on, the tokens after its `$end` are the body
header_from-end_definitions : (section : Section) (words : List Token) (last : Token) (more : List Token)
    → list_any ends_section words ≡ false → is_end last.bytes ≡ true → ends_definitions section ≡ true
    → header_from (inside section) (words ++ last ∷ more) ≡ record { items = []; body = Some more }
unfolding header_from
header_from-end_definitions section [] last more none ends is =
    ap (from_inside section last more) ends ∙ ap (from_section_end section more) is
header_from-end_definitions section (w ∷ words) last more none ends is =
    let parts = or_parts (is_end w.bytes) (list_any ends_section words) none in
    ap (from_inside section w (words ++ last ∷ more)) parts.0
    ∙ header_from-end_definitions (with_word section w.bytes) words last more parts.1 ends is

-- from inside another section on, it is an item, with its words up to its `$end`, and the header goes on
header_from-whole_section : (section : Section) (words : List Token) (last : Token) (more : List Token)
    → list_any ends_section words ≡ false → is_end last.bytes ≡ true → ends_definitions section ≡ false
    → header_from (inside section) (words ++ last ∷ more)
    ≡ with_item (whole (words_of section words)) (header_from between more)
unfolding header_from words_of
header_from-whole_section section [] last more none ends is =
    ap (from_inside section last more) ends ∙ ap (from_section_end section more) is
header_from-whole_section section (w ∷ words) last more none ends is =
    let parts = or_parts (is_end w.bytes) (list_any ends_section words) none in
    ap (from_inside section w (words ++ last ∷ more)) parts.0
    ∙ header_from-whole_section (with_word section w.bytes) words last more parts.1 ends is

-- from inside a section without `$end` on, there is no body
header_from-endless_section : (section : Section) (words : List Token) → list_any ends_section words ≡ false
    → (header_from (inside section) words).body ≡ None
unfolding header_from
header_from-endless_section section [] none = refl
header_from-endless_section section (w ∷ words) none =
    let parts = or_parts (is_end w.bytes) (list_any ends_section words) none in
    ap (λ (test : Bool). (from_inside section w words test).body) parts.0
    ∙ header_from-endless_section (with_word section w.bytes) words parts.1

-- ---- the definitions continue

-- the header of a text that ends between two sections has no body, and none of its items is unfinished
IsBetweenSections-header : (front : List ℕ) → is_between_sections front ≡ true
    → IsBetweenSections (header_from between (tokens front))
IsBetweenSections-header front between_sections =
    let header : Header = header_from between (tokens front) in
    let parts = and_parts (not (is_some header.body)) (not (list_any is_unfinished header.items)) between_sections in
    (not-true (is_some header.body) parts.0, not-true (list_any is_unfinished header.items) parts.1)

-- the start of a text is between two sections
pub is_between_sections-start : (text : List ℕ) → is_between_sections (take 0 text) ≡ true
unfolding header_from cut_from
is_between_sections-start text = refl

-- where the text up to `at` ends between two sections, its items come before those of the tokens `ts` after it
header_from-split_at : (text : List ℕ) (at : ℕ) → is_between_sections (take at text) ≡ true → (ts : List Token)
    → header_from between (tokens (take at text) ++ ts)
    ≡ after_items (header_from between (tokens (take at text))).items (header_from between ts)
header_from-split_at text at between_sections ts =
    SplitsHeader-all ts (tokens (take at text)) between (IsBetweenSections-header (take at text) between_sections)

-- if neither `items` nor `last` is unfinished, and there is no body, `front` ends between two sections
is_between_sections-item : (front : List ℕ) (items : List HeaderItem) (last : HeaderItem) → list_any is_unfinished items
    ≡ false
    → is_unfinished last ≡ false
    → header_from between (tokens front) ≡ record { items = items ++ last ∷ []; body = None }
    → is_between_sections front ≡ true
is_between_sections-item front items last none is e =
    ap (λ (h : Header). not (is_some h.body) && not (list_any is_unfinished h.items)) e
    ∙ ap not (list_any-append is_unfinished items (last ∷ [])
    ∙ ap (λ (test : Bool). test || (is_unfinished last || false)) none ∙ ap (λ (test : Bool). test || false) is)

module _ {text : List ℕ} {at next : ℕ} {bytes : List ℕ} (one : IsNextToken text at next bytes)
    (between_sections : is_between_sections (take at text) ≡ true) where
  -- the token that is taken
  abbrev first : Token
  first = token one

  -- the items of the definitions before it
  abbrev items : List HeaderItem
  items = (header_from between (tokens (take at text))).items

  -- no item of the definitions before the token is unfinished
  none_unfinished : list_any is_unfinished items ≡ false
  none_unfinished = (IsBetweenSections-header (take at text) between_sections).1

  -- after a token that opens no section, the definitions continue
  pub is_between_sections-stray : opens_section bytes ≡ false → is_between_sections (take next text) ≡ true
  unfolding header_from
  is_between_sections-stray opens =
      is_between_sections-item (take next text) items (stray one.line) none_unfinished refl
      (ap (header_from between) one.taken ∙ header_from-split_at text at between_sections (first ∷ [])
      ∙ ap (after_items items) (ap (from_between first []) opens))

  -- from a token on that opens a section, the header is that from inside the section on
  header_from-opened : (ts : List Token) → opens_section bytes ≡ true
      → header_from between (first ∷ ts) ≡ header_from (inside (opened first)) ts
  unfolding header_from
  header_from-opened ts opens = ap (from_between first ts) opens

  module _ {end : ℕ} (opens : opens_section bytes ≡ true) (e : IsTakenToEnd text next end) where
    -- the tokens up to `end` are those before the section, and its own
    tokens_up_to_end : tokens (take end text) ≡ tokens (take at text) ++ first ∷ (e.words ++ e.last ∷ [])
    tokens_up_to_end = (AreTaken-section one e).taken

    -- the header up to `end` has the items before the section, and then what the section gives
    header_from-up_to_end : header_from between (tokens (take end text))
        ≡ after_items items (header_from (inside (opened first)) (e.words ++ e.last ∷ []))
    header_from-up_to_end =
        ap (header_from between) tokens_up_to_end ∙ header_from-split_at text at between_sections
        (first ∷ (e.words ++ e.last ∷ []))
        ∙ ap (after_items items) (header_from-opened (e.words ++ e.last ∷ []) opens)

    -- after a section other than `$enddefinitions`, the definitions continue
    pub is_between_sections-whole : bytes_eq bytes (codes "$enddefinitions") ≡ false
        → is_between_sections (take end text) ≡ true
    unfolding header_from
    is_between_sections-whole is =
        is_between_sections-item (take end text) items (whole (words_of (opened first) e.words)) none_unfinished refl
        (header_from-up_to_end ∙ ap (after_items items) (header_from-whole_section (opened first) e.words e.last []
        e.none e.ends is))

    -- after the section `$enddefinitions` the body has no tokens yet
    body_in-end_definitions : bytes_eq bytes (codes "$enddefinitions") ≡ true → body_in (take end text) ≡ Some []
    body_in-end_definitions is =
        ap (λ (h : Header). h.body) header_from-up_to_end
        ∙ ap (λ (h : Header). h.body) (header_from-end_definitions (opened first) e.words e.last [] e.none e.ends is)

    -- the place after the section `$enddefinitions` is one of the body, at time 0
    pub IsAtTime-start_of_body : bytes_eq bytes (codes "$enddefinitions") ≡ true → IsAtTime text 0 end
    unfolding body_from last_time
    IsAtTime-start_of_body is = record {
      within = e.within;
      detached = e.detached;
      body = [];
      ended = body_in-end_definitions is;
      whole = λ more. refl;
      time_is = refl;
    }

    -- the place after the section `$enddefinitions` is between two items
    pub IsBetweenItems-start_of_body : bytes_eq bytes (codes "$enddefinitions") ≡ true → IsBetweenItems text end
    unfolding body_from
    IsBetweenItems-start_of_body is = record {
      within = e.within;
      detached = e.detached;
      body = [];
      ended = body_in-end_definitions is;
      whole = λ more. refl;
    }

    -- after the section `$enddefinitions` all times of the body are left
    pub times_left-start_of_body : bytes_eq bytes (codes "$enddefinitions") ≡ true
        → times_left (record { text = text; at = end }) ≡ times_of_body text
    times_left-start_of_body is =
        sym (ap (λ (o : Option (List Token)). item_times (body_from ready (unwrap_or o [])))
        (ap (λ (ts : List Token). (header_from between ts).body) (tokens-detached text end e.detached)
        ∙ ap (λ (h : Header). h.body)
        (ExtendsBody-all (tokens_after 1 text end) (tokens (take end text)) between [] (body_in-end_definitions is))))

  -- if a section has no `$end`, the text has no body
  pub body_in-endless_section : is_token_boundary text at ≡ true → opens_section bytes ≡ true
      → list_any ends_section (tokens_after 1 text next) ≡ false → body_in text ≡ None
  body_in-endless_section boundary opens endless =
      ap (λ (ts : List Token). (header_from between ts).body)
      (tokens-at_boundary text at boundary ∙ ap (λ (ts : List Token). tokens (take at text) ++ ts) one.left)
      ∙ ap (λ (h : Header). h.body) (header_from-split_at text at between_sections (first ∷ tokens_after 1 text next)
      ∙ ap (after_items items) (header_from-opened (tokens_after 1 text next) opens))
      ∙ header_from-endless_section (opened first) (tokens_after 1 text next) endless

-- an option that has no value is `None`
none-not_some : (o : Option (List Token)) → is_some o ≡ false → o ≡ None
none-not_some None e = refl
none-not_some (Some body) e = absurd (true≢false e)

-- if no token is left after the last section, and the definitions haven't ended, the text has no body
pub body_in-end_of_text : (text : List ℕ) (at : ℕ) → is_between_sections (take at text) ≡ true
    → is_token_boundary text at ≡ true
    → tokens_after 1 text at ≡ [] → body_in text ≡ None
body_in-end_of_text text at between_sections boundary left =
    ap (λ (ts : List Token). (header_from between ts).body)
    (tokens-at_boundary text at boundary ∙ ap (λ (ts : List Token). tokens (take at text) ++ ts) left
    ∙ append-nil (tokens (take at text)))
    ∙ none-not_some (header_from between (tokens (take at text))).body
    (IsBetweenSections-header (take at text) between_sections).0
