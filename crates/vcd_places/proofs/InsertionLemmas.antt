-- A text into which something is put, at white space, is read as the text, with the tokens that are put in between.
use Rattle.std.proofs.Common.{◌≡◌, ℕ, Bool, true, false, eqb, List, [], ◌∷◌, ◌++◌}
use Rattle.std.proofs.Common.{refl, sym, ap, ◌∙◌, append_assoc, true≢false, zero-add}
use Rattle.std.specs.Prelude.{Some, Result, Ok, Err, not, ◌||◌, flat_map, is_some, map}
use Rattle.std.specs.List.{list_all, list_any}
use Rattle.std.proofs.lemmas.Bool.{and_parts, not-true}
use Rattle.std.proofs.lemmas.Option.{same_Some}
use Rattle.vcd_read.specs.declared.dump.Variable.{Variable}
use Rattle.vcd_read.specs.declared.fault.VcdFault.{VcdFault}
use Rattle.vcd_read.specs.Tokens.{Token, cut_from, cut_tokens, is_space, next_line, tokens_from}
use Rattle.vcd_read.specs.Tokens.{with_byte}
use Rattle.vcd_read.specs.Reading.{line_behind}
use Rattle.vcd_read.specs.Header.{Header, HeaderItem, HeaderPlace, Section, between, ends_definitions, header_from}
use Rattle.vcd_read.specs.Header.{inside}
use Rattle.vcd_read.specs.Header.{is_end, opened, opens_section, stray, unfinished, whole, with_item, with_word}
use Rattle.vcd_read.specs.Header.{◌>>=◌, Declared, at_line, declare_all, declare_section}
use Rattle.vcd_read.specs.Body.{body_from, ready, skipped}
use Rattle.vcd_read.proofs.HeaderPlaces.{from_between, from_inside, from_section_end}
use Rattle.vcd_read.proofs.PieceLemmas.{line_behind-cons, line_behind-one, spaced, token_before-append}
use Rattle.vcd_read.proofs.PieceLemmas.{with_byte-with_tokens, with_tokens}
use Rattle.vcd_places.specs.Places.{ends_at_boundary, is_unfinished, starts_at_boundary}

-- ---- the tokens

-- the cut of a text that is empty or begins with white space has no run
cut_from-detached : (line : ℕ) (rest : List ℕ) → starts_at_boundary rest ≡ true
    → cut_from line rest ≡ spaced (tokens_from line rest)
unfolding cut_from
cut_from-detached line [] e = refl
cut_from-detached line (b ∷ rest) e = rw e refl

-- if `rest` is empty or begins with white space, the cut of `front ++ rest` is that of `front`, with the tokens of
-- `rest` after it
cut_from-append_detached : (front rest : List ℕ) (line : ℕ) → starts_at_boundary rest ≡ true
    → cut_from line (front ++ rest) ≡ with_tokens (cut_from line front) (tokens_from (line_behind line front) rest)
unfolding cut_from
cut_from-append_detached [] rest line e =
    cut_from-detached line rest e ∙ ap (λ (l : ℕ). spaced (tokens_from l rest)) (sym (zero-add line))
cut_from-append_detached (b ∷ front) rest line e =
    ap (with_byte line b) (cut_from-append_detached front rest (next_line line b) e)
    ∙ with_byte-with_tokens line b (cut_from (next_line line b) front)
    (tokens_from (line_behind (next_line line b) front) rest)
    ∙ ap (λ (l : ℕ). with_tokens (with_byte line b (cut_from (next_line line b) front)) (tokens_from l rest))
    (sym (line_behind-cons line b front))

-- if `rest` is empty or begins with white space, the tokens of `front ++ rest` are those of `front` and then of `rest`
pub tokens_from-append_detached : (front rest : List ℕ) (line : ℕ) → starts_at_boundary rest ≡ true
    → tokens_from line (front ++ rest) ≡ tokens_from line front ++ tokens_from (line_behind line front) rest
tokens_from-append_detached front rest line e =
    let cut = cut_from line front in
    ap (cut_tokens line) (cut_from-append_detached front rest line e) ∙ token_before-append line cut.run cut.others
    (tokens_from (line_behind line front) rest)

-- if `front`, with the byte b before it, ends with white space, the cut of both and `rest` is that of both, with the
-- tokens of `rest` after it
cut_from-append_spaced : (b : ℕ) (front rest : List ℕ) (line : ℕ) → ends_at_boundary (b ∷ front) ≡ true
    → cut_from line ((b ∷ front) ++ rest)
    ≡ with_tokens (cut_from line (b ∷ front)) (tokens_from (line_behind line (b ∷ front)) rest)
unfolding cut_from
cut_from-append_spaced b [] rest line e = rw e (ap (λ (l : ℕ). spaced (tokens_from l rest))
    (sym (line_behind-one line b)))
cut_from-append_spaced b (c ∷ front) rest line e =
    ap (with_byte line b) (cut_from-append_spaced c front rest (next_line line b) e)
    ∙ with_byte-with_tokens line b (cut_from (next_line line b) (c ∷ front))
    (tokens_from (line_behind (next_line line b) (c ∷ front)) rest)
    ∙ ap (λ (l : ℕ). with_tokens (with_byte line b (cut_from (next_line line b) (c ∷ front))) (tokens_from l rest))
    (sym (line_behind-cons line b (c ∷ front)))

-- if `front` is empty or ends with white space, the tokens of `front ++ rest` are those of `front` and then of `rest`
pub tokens_from-append_spaced : (front rest : List ℕ) (line : ℕ) → ends_at_boundary front ≡ true
    → tokens_from line (front ++ rest) ≡ tokens_from line front ++ tokens_from (line_behind line front) rest
unfolding cut_from
tokens_from-append_spaced [] rest line e = ap (λ (l : ℕ). tokens_from l rest) (sym (zero-add line))
tokens_from-append_spaced (b ∷ front) rest line e =
    let cut = cut_from line (b ∷ front) in
    ap (cut_tokens line) (cut_from-append_spaced b front rest line e) ∙ token_before-append line cut.run cut.others
    (tokens_from (line_behind line (b ∷ front)) rest)

-- ---- the definitions

-- `header` with `items` before its own
abbrev pub after_items : List HeaderItem → Header → Header
after_items items header = record { items = items ++ header.items; body = header.body }

-- the header has no body, and none of its items is unfinished
abbrev pub IsBetweenSections : Header → Type 0
IsBetweenSections header = (is_some header.body ≡ false) × (list_any is_unfinished header.items ≡ false)

module _ (more : List Token) where
  -- if the definitions don't end in `ts`, and each section does, the header of `ts ++ more` is that of `more`, with the
  -- items of `ts` before its own
  abbrev SplitsHeader : HeaderPlace → List Token → Type 0
  SplitsHeader place ts = IsBetweenSections (header_from place ts)
      → header_from place (ts ++ more) ≡ after_items (header_from place ts).items (header_from between more)

  -- `SplitsHeader` holds from the end of a section on, if it does after it; `test` says whether the section ends the
  -- definitions
  SplitsHeader-section_end : (section : Section) (ts : List Token) (test : Bool) → SplitsHeader between ts
      → IsBetweenSections (from_section_end section ts test)
      → from_section_end section (ts ++ more) test
      ≡ after_items (from_section_end section ts test).items (header_from between more)
  SplitsHeader-section_end section ts true rest between_sections = absurd (true≢false between_sections.0)
  SplitsHeader-section_end section ts false rest between_sections = ap (with_item (whole section))
      (rest between_sections)

  -- `SplitsHeader` holds from a token in a section on, its end if `test` holds, if it does from the tokens after it on
  SplitsHeader-inside : (section : Section) (t : Token) (ts : List Token) (test : Bool) → SplitsHeader between ts
      → SplitsHeader (inside (with_word section t.bytes)) ts
      → IsBetweenSections (from_inside section t ts test)
      → from_inside section t (ts ++ more) test
      ≡ after_items (from_inside section t ts test).items (header_from between more)
  SplitsHeader-inside section t ts true rest goes_on between_sections = SplitsHeader-section_end section ts
      (ends_definitions section) rest between_sections
  SplitsHeader-inside section t ts false rest goes_on between_sections = goes_on between_sections

  -- `SplitsHeader` holds from a token between sections on, which opens one if `test` holds, if it does from the tokens
  -- after it on
  SplitsHeader-between : (t : Token) (ts : List Token) (test : Bool) → SplitsHeader between ts
      → SplitsHeader (inside (opened t)) ts
      → IsBetweenSections (from_between t ts test)
      → from_between t (ts ++ more) test
      ≡ after_items (from_between t ts test).items (header_from between more)
  SplitsHeader-between t ts true rest goes_on between_sections = goes_on between_sections
  SplitsHeader-between t ts false rest goes_on between_sections = ap (with_item (stray t.line)) (rest between_sections)

  -- `SplitsHeader` holds of all tokens, from each place on
  pub SplitsHeader-all : (ts : List Token) (place : HeaderPlace) → SplitsHeader place ts
  unfolding header_from
  SplitsHeader-all [] between between_sections = refl
  SplitsHeader-all [] (inside section) between_sections = absurd (true≢false between_sections.1)
  SplitsHeader-all (t ∷ ts) between between_sections =
      SplitsHeader-between t ts (opens_section t.bytes) (SplitsHeader-all ts between)
      (SplitsHeader-all ts (inside (opened t))) between_sections
  SplitsHeader-all (t ∷ ts) (inside section) between_sections =
      SplitsHeader-inside section t ts (is_end t.bytes) (SplitsHeader-all ts between)
      (SplitsHeader-all ts (inside (with_word section t.bytes))) between_sections

module _ (more : List Token) where
  -- `header` with the body `body ++ more`
  abbrev with_more_body : Header → List Token → Header
  with_more_body header body = record { items = header.items; body = Some (body ++ more) }

  -- if the definitions end in `ts`, the header of `ts ++ more` is that of `ts`, with `more` after its body
  abbrev ExtendsBody : HeaderPlace → List Token → Type 0
  ExtendsBody place ts = (body : List Token) → (header_from place ts).body ≡ Some body
      → header_from place (ts ++ more) ≡ with_more_body (header_from place ts) body

  -- `ExtendsBody` holds from the end of a section on, which ends the definitions if `test` holds, if it does after it
  ExtendsBody-section_end : (section : Section) (ts body : List Token) (test : Bool) → ExtendsBody between ts
      → (from_section_end section ts test).body ≡ Some body
      → from_section_end section (ts ++ more) test ≡ with_more_body (from_section_end section ts test) body
  ExtendsBody-section_end section ts body true rest ends =
      ap (λ (b : List Token). record { items = []; body = Some (b ++ more) }) (same_Some ts body ends)
  ExtendsBody-section_end section ts body false rest ends = ap (with_item (whole section)) (rest body ends)

  -- `ExtendsBody` holds from a token in a section on, its end if `test` holds, if it does from the tokens after it on
  ExtendsBody-inside : (section : Section) (t : Token) (ts body : List Token) (test : Bool) → ExtendsBody between ts
      → ExtendsBody (inside (with_word section t.bytes)) ts
      → (from_inside section t ts test).body ≡ Some body
      → from_inside section t (ts ++ more) test ≡ with_more_body (from_inside section t ts test) body
  ExtendsBody-inside section t ts body true rest goes_on ends =
      ExtendsBody-section_end section ts body (ends_definitions section) rest ends
  ExtendsBody-inside section t ts body false rest goes_on ends = goes_on body ends

  -- `ExtendsBody` holds from a token between sections on, which opens one if `test` holds, if it does from the tokens
  -- after it on
  ExtendsBody-between : (t : Token) (ts body : List Token) (test : Bool) → ExtendsBody between ts
      → ExtendsBody (inside (opened t)) ts
      → (from_between t ts test).body ≡ Some body
      → from_between t (ts ++ more) test ≡ with_more_body (from_between t ts test) body
  ExtendsBody-between t ts body true rest goes_on ends = goes_on body ends
  ExtendsBody-between t ts body false rest goes_on ends = ap (with_item (stray t.line)) (rest body ends)

  -- `ExtendsBody` holds of all tokens, from each place on
  pub ExtendsBody-all : (ts : List Token) (place : HeaderPlace) → ExtendsBody place ts
  unfolding header_from
  ExtendsBody-all [] between body ends = absurd cc
  ExtendsBody-all [] (inside section) body ends = absurd cc
  ExtendsBody-all (t ∷ ts) between body ends =
      ExtendsBody-between t ts body (opens_section t.bytes) (ExtendsBody-all ts between)
      (ExtendsBody-all ts (inside (opened t))) ends
  ExtendsBody-all (t ∷ ts) (inside section) body ends =
      ExtendsBody-inside section t ts body (is_end t.bytes) (ExtendsBody-all ts between)
      (ExtendsBody-all ts (inside (with_word section t.bytes))) ends

-- ---- what items declare

module _ {V : Type 0} (with_variable : V → Variable → V) where
  -- to declare `xs ++ ys` is to declare `xs` and then `ys`
  pub declare_all-append : (xs ys : List HeaderItem) (d : Declared V)
      → declare_all with_variable d (xs ++ ys)
      ≡ (declare_all with_variable d xs >>= λ next. declare_all with_variable next ys)
  unfolding declare_all
  declare_all-append [] ys d = refl
  declare_all-append (whole section ∷ xs) ys d =
      declare_all-append_after_result (at_line section.line (declare_section with_variable d section))
      (λ next. declare_all-append xs ys next)
    where
      -- if `xs ++ ys` can be declared in two parts after each declaration, it can after a result
      declare_all-append_after_result : (r : Result (Declared V) VcdFault)
          → ((next : Declared V) → declare_all with_variable next (xs ++ ys)
          ≡ (declare_all with_variable next xs >>= λ after. declare_all with_variable after ys))
          → (r >>= λ next. declare_all with_variable next (xs ++ ys))
          ≡ ((r >>= λ next. declare_all with_variable next xs) >>= λ next. declare_all with_variable next ys)
      declare_all-append_after_result (Ok next) each = each next
      declare_all-append_after_result (Err fault) each = refl
  declare_all-append (unfinished line ∷ xs) ys d = refl
  declare_all-append (stray line ∷ xs) ys d = refl

-- ---- words that are put in

-- a word has no space
abbrev pub IsWord : List ℕ → Type 0
IsWord word = list_all (λ b. not (is_space b)) word ≡ true

-- after a byte that is no space the line is the same
next_line-no_space : (line b : ℕ) → is_space b ≡ false → next_line line b ≡ line
next_line-no_space line b unspaced = go (eqb b 10) refl
  where
    -- whether the byte is a line feed (`test`) or not
    go : (test : Bool) → eqb b 10 ≡ test → next_line line b ≡ line
    go false is = rw is refl
    go true is = absurd (true≢false (sym (space_is is) ∙ unspaced))
      where
        -- if the third of four tests holds, one of the four does
        or_last : (x y z w : Bool) → z ≡ true → (x || y || z || w) ≡ true
        or_last true y z w e = refl
        or_last false true z w e = refl
        or_last false false true w e = refl
        or_last false false false w e = absurd (true≢false (sym e))

        -- a line feed is a space
        space_is : eqb b 10 ≡ true → is_space b ≡ true
        space_is e = or_last (eqb b 32) (eqb b 9) (eqb b 10) (eqb b 13) e

-- a word before a text that is empty or begins with white space is the first run
cut_from-word : (line : ℕ) (word rest : List ℕ) → IsWord word → starts_at_boundary rest ≡ true
    → cut_from line (word ++ rest) ≡ record { run = word; others = tokens_from line rest }
unfolding cut_from
cut_from-word line [] rest is detached = cut_from-detached line rest detached
cut_from-word line (b ∷ word) rest is detached =
    let both = and_parts (not (is_space b)) (list_all (λ x. not (is_space x)) word) is in
    let unspaced = not-true (is_space b) both.0 in
    ap (λ (l : ℕ). with_byte line b (cut_from l (word ++ rest))) (next_line-no_space line b unspaced)
    ∙ ap (with_byte line b) (cut_from-word line word rest both.1 detached)
    ∙ rw unspaced refl

-- a word that isn't empty, before a text that is empty or begins with white space, is the first token
pub tokens_from-word : (line b : ℕ) (word rest : List ℕ) → IsWord (b ∷ word) → starts_at_boundary rest ≡ true
    → tokens_from line ((b ∷ word) ++ rest) ≡ record { line = line; bytes = b ∷ word } ∷ tokens_from line rest
tokens_from-word line b word rest is detached = ap (cut_tokens line) (cut_from-word line (b ∷ word) rest is detached)

-- a space before a text doesn't change its tokens
pub tokens_from-space : (line : ℕ) (text : List ℕ) → tokens_from line (32 ∷ text) ≡ tokens_from line text
unfolding cut_from
tokens_from-space line text = refl

-- a string and its code, with a space before each
abbrev pub string_text : List ℕ → List ℕ → List ℕ
string_text text code = 32 ∷ ((115 ∷ text) ++ 32 ∷ code)

-- a string and its code are the first two tokens, before those of `rest`
pub tokens_from-string : (line : ℕ) (text : List ℕ) (b : ℕ) (code rest : List ℕ) → IsWord text → IsWord (b ∷ code)
    → starts_at_boundary rest ≡ true
    → tokens_from line (string_text text (b ∷ code) ++ rest)
    ≡ record { line = line; bytes = 115 ∷ text } ∷ record { line = line; bytes = b ∷ code } ∷ tokens_from line rest
tokens_from-string line text b code rest first second detached =
    ap (λ (all : List ℕ). tokens_from line (32 ∷ all)) (append_assoc (115 ∷ text) (32 ∷ b ∷ code) rest)
    ∙ tokens_from-space line ((115 ∷ text) ++ ((32 ∷ b ∷ code) ++ rest))
    ∙ tokens_from-word line 115 text ((32 ∷ b ∷ code) ++ rest) first refl
    ∙ ap (λ (ts : List Token). record { line = line; bytes = 115 ∷ text } ∷ ts)
    (tokens_from-space line ((b ∷ code) ++ rest) ∙ tokens_from-word line b code rest second detached)

-- where an item may begin, a string and its code are read as a skipped item
pub body_from-string : (line : ℕ) (text code : List ℕ) (more : List Token)
    → body_from ready (record { line = line; bytes = 115 ∷ text } ∷ record { line = line; bytes = code } ∷ more)
    ≡ skipped line code ∷ body_from ready more
unfolding body_from
body_from-string line text code more = refl

-- ---- words with a space after each

-- the words, with a space after each
abbrev pub with_spaces : List (List ℕ) → List ℕ
with_spaces words = flat_map (λ (word : List ℕ). word ++ 32 ∷ []) words

-- the token of a word on this line
abbrev pub on_line : ℕ → List ℕ → Token
on_line line word = record { line = line; bytes = word }

-- each is a nonempty word
abbrev pub AreWords : List (List ℕ) → Type 0
AreWords [] = Unit {0}
AreWords ([] ∷ words) = ⊥
AreWords ((b ∷ word) ∷ words) = IsWord (b ∷ word) × AreWords words

-- nonempty words with a space after each are one token each, before the tokens of `rest`
pub tokens_from-words : (line : ℕ) (words : List (List ℕ)) (rest : List ℕ) → AreWords words
    → tokens_from line (with_spaces words ++ rest) ≡ map (on_line line) words ++ tokens_from line rest
tokens_from-words line [] rest are = refl
tokens_from-words line ([] ∷ words) rest are = absurd are
tokens_from-words line ((b ∷ word) ∷ words) rest are =
    ap (tokens_from line) (append_assoc ((b ∷ word) ++ 32 ∷ []) (with_spaces words) rest
    ∙ append_assoc (b ∷ word) (32 ∷ []) (with_spaces words ++ rest))
    ∙ tokens_from-word line b word (32 ∷ (with_spaces words ++ rest)) are.0 refl
    ∙ ap (λ (ts : List Token). on_line line (b ∷ word) ∷ ts)
    (tokens_from-space line (with_spaces words ++ rest) ∙ tokens_from-words line words rest are.1)
