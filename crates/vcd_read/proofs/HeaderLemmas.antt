-- A header, from a token that opens a section on, is what the section declares and the header after it, its end, or a
-- fault.
use Rattle.std.proofs.Common.{◌≡◌, ℕ, Bool, true, false, cond, List, [], ◌∷◌, ◌++◌, length, Option, Some, None}
use Rattle.std.proofs.Common.{option_map, Result, Ok, Err, codes, refl, sym, ap, subst, ◌∙◌, append_assoc, take}
use Rattle.std.proofs.Common.{take_all, arith}
use Rattle.std.specs.Prelude.{bytes_eq}
use Rattle.std.proofs.lemmas.List.{append-nil}
use Rattle.std.proofs.lemmas.Slice.Eq.{bytes_eq-Decides}
use Rattle.vcd_read.specs.declared.dump.Variable.{Variable}
use Rattle.vcd_read.specs.declared.fault.FaultKind.TheVariants.{BadToken, UnfinishedSection, ScopeUnderflow}
use Rattle.vcd_read.specs.declared.fault.FaultKind.TheVariants.{NoEndDefinitions}
use Rattle.vcd_read.specs.declared.fault.VcdFault.{VcdFault}
use Rattle.vcd_read.specs.declared.header.Opening.{Opening}
use Rattle.vcd_read.specs.declared.header.Opening.TheVariants.{Var, Scope, Upscope, EndDefinitions, Skipped, Nothing}
use Rattle.vcd_read.specs.Tokens.{Token, line_after}
use Rattle.vcd_read.specs.Reading.{line_behind}
use Rattle.vcd_read.specs.Header.{◌>>=◌, at_line, is_end, opens_section, ends_definitions, Section, unfinished}
use Rattle.vcd_read.specs.Header.{stray, with_word, Header, with_item, between, inside, opened, header_from, Declared}
use Rattle.vcd_read.specs.Header.{declare_all, declare_section, declare_var, open_scope, close_scope}
use Rattle.vcd_read.specs.Sections.{Ended, after_word, ended_in, section_from, after_section, opening_of, Defined}
use Rattle.vcd_read.specs.Sections.{headed, header_of, rest_of_header}
use Rattle.vcd_read.specs.Meaning.{ReadFails, body_of}
use Rattle.vcd_read.proofs.HeaderPlaces.{from_inside, from_section_end}
use Rattle.vcd_read.proofs.ResultLemmas.{bind-same}
use Rattle.vcd_read.proofs.ReadLemmas.{ReadFails-first}

-- ---- what a token opens

-- what a word opens, by five tests of it
abbrev opening_by : Bool → Bool → Bool → Bool → Bool → Opening
opening_by opens var scope upscope end = cond opens
    (cond var Var (cond scope Scope (cond upscope Upscope (cond end EndDefinitions Skipped)))) Nothing

-- the word opens a section, which is none of the four kinds that are read
record IsSkipped (opens var scope upscope end : Bool) : Type 0 where
  pub opens_one : opens ≡ true
  pub no_var : var ≡ false
  pub no_scope : scope ≡ false
  pub no_upscope : upscope ≡ false
  pub no_end : end ≡ false

-- the tests hold or fail as they do of a word that opens the first argument
Opens : Opening → Bool → Bool → Bool → Bool → Bool → Type 0
Opens Var opens var scope upscope end = (opens ≡ true) × (var ≡ true)
Opens Scope opens var scope upscope end = (opens ≡ true) × (scope ≡ true)
Opens Upscope opens var scope upscope end = (opens ≡ true) × (upscope ≡ true)
Opens EndDefinitions opens var scope upscope end = (opens ≡ true) × (end ≡ true)
Opens Skipped opens var scope upscope end = IsSkipped opens var scope upscope end
Opens Nothing opens var scope upscope end = opens ≡ false

-- the tests hold or fail as they do of a word that opens what `opening_by` finds by them
Opens-opening_by : (opens var scope upscope end : Bool) → Opens (opening_by opens var scope upscope end) opens var scope
    upscope
    end
unfolding Opens
Opens-opening_by false var scope upscope end = refl
Opens-opening_by true true scope upscope end = (refl, refl)
Opens-opening_by true false true upscope end = (refl, refl)
Opens-opening_by true false false true end = (refl, refl)
Opens-opening_by true false false false true = (refl, refl)
Opens-opening_by true false false false false = record {
  opens_one = refl;
  no_var = refl;
  no_scope = refl;
  no_upscope = refl;
  no_end = refl;
}

-- the tests of `word` hold or fail as they do of a word that opens `opening`
abbrev OpensAs : List ℕ → Opening → Type 0
OpensAs word opening = Opens opening (opens_section word) (bytes_eq word (codes "$var"))
    (bytes_eq word (codes "$scope")) (bytes_eq word (codes "$upscope")) (bytes_eq word (codes "$enddefinitions"))

-- the tests of a word hold or fail as they do of a word that opens what this one opens
OpensAs-opening_of : (word : List ℕ) (opening : Opening) → opening ≡ opening_of word → OpensAs word opening
OpensAs-opening_of word opening e = subst (OpensAs word) (sym e)
    (Opens-opening_by (opens_section word) (bytes_eq word (codes "$var"))
    (bytes_eq word (codes "$scope")) (bytes_eq word (codes "$upscope")) (bytes_eq word (codes "$enddefinitions")))

-- ---- a section in the header that is left

-- the section with these words after those that it has
abbrev section_with : Section → List (List ℕ) → Section
section_with section words = record section { words = section.words ++ words }

-- the header from a section on, by the words up to its end and the tokens after it, if it has an end
abbrev header_from_section : Section → Option Ended → Header
header_from_section section None = record { items = unfinished section.line ∷ []; body = None }
header_from_section section (Some ended) =
    from_section_end (section_with section ended.words) ended.rest (ends_definitions section)

-- one more word of a section, before the words up to its end, is the first of these
header_from_section-with_word : (section : Section) (word : List ℕ) (ended : Option Ended)
    → header_from_section (with_word section word) ended
    ≡ header_from_section section (option_map (after_word word) ended)
header_from_section-with_word section word None = refl
header_from_section-with_word section word (Some ended) =
    ap (λ (words : List (List ℕ)). from_section_end (record section { words = words }) ended.rest
    (ends_definitions section)) (append_assoc section.words (word ∷ []) ended.words)

-- a token in a section ends it, if `end` holds, or is one more word
header_from_section-token : (section : Section) (t : Token) (ts : List Token) (end : Bool)
    → header_from (inside (with_word section t.bytes)) ts ≡ header_from_section (with_word section t.bytes)
    (ended_in ts)
    → from_inside section t ts end ≡ header_from_section section (elim end as (λ _. Option Ended) [
      | true ↦ Some (record { words = []; rest = ts })
      | false ↦ option_map (after_word t.bytes) (ended_in ts)
    ])
header_from_section-token section t ts true more =
    ap (λ (words : List (List ℕ)). from_section_end (record section { words = words }) ts (ends_definitions section))
    (sym (append-nil section.words))
header_from_section-token section t ts false more = more ∙ header_from_section-with_word section t.bytes (ended_in ts)

-- the header from inside a section on is that from the section on, with the words up to its end
header_from-inside : (ts : List Token) (section : Section) → header_from (inside section) ts
    ≡ header_from_section section
    (ended_in ts)
unfolding header_from ended_in
header_from-inside [] section = refl
header_from-inside (t ∷ ts) section = header_from_section-token section t ts (is_end t.bytes)
    (header_from-inside ts (with_word section t.bytes))

-- the header from a token on that opens a section is that from the section on
header_from-between : (t : Token) (ts : List Token) → opens_section t.bytes ≡ true → header_from between (t ∷ ts)
    ≡ header_from_section (opened t) (ended_in ts)
unfolding header_from
header_from-between t ts opens = rw (header_from, opens) (header_from-inside ts (opened t))

-- ---- what is declared after a section
module _ {V : Type 0} (with_variable : V → Variable → V) where
  -- a header with what a visitor made of its variables, or a fault
  abbrev Reading : Type 0
  Reading = Result (Defined V) VcdFault

  -- what reading gives after the section that `t` opens: the whole header, or what is declared and the header after it
  abbrev after_opened : List ℕ → Declared V → Token → Ended → Reading
  after_opened text d t ended =
      elim (ends_definitions (opened t)) [
        | true ↦ Ok (headed d ended.rest)
        | false ↦ at_line t.line (declare_section with_variable d (section_with (opened t) ended.words)) >>= λ next.
            header_of with_variable text next ended.rest
      ]

  -- of three steps the last two, or the first two, can be taken as one
  bind_assoc : {A B C : Type 0} (read : Result A VcdFault) (f : A → Result B VcdFault) (g : B → Result C VcdFault)
      → ((read >>= f) >>= g) ≡ (read >>= λ x. f x >>= g)
  bind_assoc (Ok x) f g = refl
  bind_assoc (Err fault) f g = refl

  -- the header from the end of a section on is the body after it, if `end` holds, and else what the section declares
  -- and the header after it
  rest_of_header-section : (text : List ℕ) (d : Declared V) (section : Section) (rest : List Token) (end : Bool)
      → rest_of_header with_variable text d (from_section_end section rest end)
      ≡ elim end as (λ _. Reading) [
        | true ↦ Ok (headed d rest)
        | false ↦ at_line section.line
            (declare_section with_variable d section) >>= λ next. header_of with_variable text next rest
      ]
  unfolding declare_all
  rest_of_header-section text d section rest true = refl
  rest_of_header-section text d section rest false =
      bind_assoc (at_line section.line (declare_section with_variable d section)) (λ next. declare_all with_variable
      next (header_from between rest).items) (λ declared. body_of text (header_from between rest).body >>= λ body. Ok
      (headed declared body))

  -- the header from a section on is what reading gives after it, or the section is unfinished
  rest_of_header-from_section : (text : List ℕ) (d : Declared V) (t : Token) (ended : Option Ended)
      → rest_of_header with_variable text
      d (header_from_section (opened t) ended)
      ≡ (elim ended as (λ _. Result Ended VcdFault) [
        | None ↦ Err (record { line = t.line; kind = UnfinishedSection })
        | Some e ↦ Ok e
      ] >>= after_opened text d t)
  unfolding declare_all
  rest_of_header-from_section text d t None = refl
  rest_of_header-from_section text d t (Some ended) = rest_of_header-section text d
      (section_with (opened t) ended.words) ended.rest
      (ends_definitions (opened t))

  -- the header from a token on that opens a section is the section, and what reading gives after it
  header_of-section : (text : List ℕ) (d : Declared V) (t : Token) (ts : List Token) → opens_section t.bytes ≡ true
      → header_of with_variable text d (t ∷ ts) ≡ (section_from t.line ts >>= after_opened text d t)
  header_of-section text d t ts opens = ap (rest_of_header with_variable text d) (header_from-between t ts opens)
      ∙ rest_of_header-from_section text d t (ended_in ts)

  -- words that the test finds equal are equal
  same_bytes : (word other : List ℕ) → bytes_eq word other ≡ true → word ≡ other
  same_bytes word other e = (bytes_eq-Decides word other).0 e

  -- what reading gives after the section that `word` opens
  abbrev after_opened_by : List ℕ → Declared V → ℕ → Ended → List ℕ → Reading
  after_opened_by text d line ended word = after_opened text d (record { line = line; bytes = word }) ended

  -- where only the tokens after a section matter, its words can be left out
  bind-rest : (read : Result Ended VcdFault) (g : List Token → Reading) → (read >>= λ ended. g ended.rest)
      ≡ ((read >>= λ ended. Ok ended.rest) >>= g)
  bind-rest (Ok ended) g = refl
  bind-rest (Err fault) g = refl

  -- ---- the kinds of sections

  -- the header from a section `$var` on is what it declares, and the header after it
  header_of-var : (text : List ℕ) (d : Declared V) (t : Token) (ts : List Token) → Var ≡ opening_of t.bytes
      → header_of with_variable text d (t ∷ ts) ≡ (section_from t.line ts >>= λ ended. at_line t.line
      (declare_var with_variable d ended.words) >>= λ next. header_of with_variable text next ended.rest)
  unfolding Opens
  header_of-var text d t ts e =
      let is = OpensAs-opening_of t.bytes Var e in
      header_of-section text d t ts is.0 ∙ bind-same (section_from t.line ts) (after_opened text d t) _
      (λ ended. ap (after_opened_by text d t.line ended) (same_bytes t.bytes (codes "$var") is.1))

  -- the header from a section `$scope` on is the scope that it opens, and the header after it
  header_of-scope : (text : List ℕ) (d : Declared V) (t : Token) (ts : List Token) → Scope ≡ opening_of t.bytes
      → header_of with_variable text d (t ∷ ts) ≡ (section_from t.line ts >>= λ ended. header_of with_variable text
      (open_scope d ended.words) ended.rest)
  unfolding Opens
  header_of-scope text d t ts e =
      let is = OpensAs-opening_of t.bytes Scope e in
      header_of-section text d t ts is.0 ∙ bind-same (section_from t.line ts) (after_opened text d t) _
      (λ ended. ap (after_opened_by text d t.line ended) (same_bytes t.bytes (codes "$scope") is.1))

  -- the header from a section `$upscope` on is the scope that it closes, and the header after it
  header_of-upscope : (text : List ℕ) (d : Declared V) (t : Token) (ts : List Token) → Upscope ≡ opening_of t.bytes
      → header_of with_variable text d (t ∷ ts) ≡ (after_section t.line ts >>= λ rest. at_line t.line
      (close_scope d d.scopes) >>= λ next. header_of with_variable text next rest)
  unfolding Opens
  header_of-upscope text d t ts e =
      let is = OpensAs-opening_of t.bytes Upscope e in
      header_of-section text d t ts is.0
      ∙ bind-same (section_from t.line ts) (after_opened text d t) _ (λ ended. ap (after_opened_by text d t.line ended)
      (same_bytes t.bytes (codes "$upscope") is.1))
      ∙ bind-rest (section_from t.line ts) (λ rest. at_line t.line (close_scope d d.scopes) >>= λ next. header_of
      with_variable text next rest)

  -- a section `$enddefinitions` ends the header; the tokens after it are the body
  header_of-enddefinitions : (text : List ℕ) (d : Declared V) (t : Token) (ts : List Token) → EndDefinitions
      ≡ opening_of t.bytes
      → header_of with_variable text d (t ∷ ts) ≡ (after_section t.line ts >>= λ rest. Ok (headed d rest))
  unfolding Opens
  header_of-enddefinitions text d t ts e =
      let is = OpensAs-opening_of t.bytes EndDefinitions e in
      header_of-section text d t ts is.0
      ∙ bind-same (section_from t.line ts) (after_opened text d t) _ (λ ended. ap (after_opened_by text d t.line ended)
      (same_bytes t.bytes (codes "$enddefinitions") is.1))
      ∙ bind-rest (section_from t.line ts) (λ rest. Ok (headed d rest))

  -- after a section that none of the tests holds of, the header goes on with what was declared before
  after_opened-skipped : (text : List ℕ) (d : Declared V) (line : ℕ) (rest : List Token) (section : Section)
      (var scope upscope end : Bool) → end ≡ false → var ≡ false → scope ≡ false → upscope ≡ false
      → elim end as (λ _. Reading) [
        | true ↦ Ok (headed d rest)
        | false ↦ at_line line (cond var (declare_var with_variable d section.words)
            (cond scope (Ok (open_scope d section.words)) (cond upscope (close_scope d d.scopes) (Ok d)))) >>= λ next.
            header_of with_variable text next rest
      ] ≡ header_of with_variable text d rest
  after_opened-skipped text d line rest section var scope upscope end e v s u = rw (e, v, s, u) refl

  -- a section of any other kind declares nothing; the header goes on after it
  header_of-skipped : (text : List ℕ) (d : Declared V) (t : Token) (ts : List Token) → Skipped ≡ opening_of t.bytes
      → header_of with_variable text d (t ∷ ts) ≡ (after_section t.line ts >>= λ rest. header_of with_variable text d
      rest)
  unfolding Opens
  header_of-skipped text d t ts e =
      let is = OpensAs-opening_of t.bytes Skipped e in
      header_of-section text d t ts is.opens_one
      ∙ bind-same (section_from t.line ts) (after_opened text d t) _
      (λ ended. after_opened-skipped text d t.line ended.rest
      (section_with (opened t) ended.words) _ _ _ _ is.no_end is.no_var is.no_scope is.no_upscope)
      ∙ bind-rest (section_from t.line ts) (λ rest. header_of with_variable text d rest)

  -- a token that opens no section is a fault
  pub header_of-stray : (text : List ℕ) (d : Declared V) (t : Token) (ts : List Token) → Nothing ≡ opening_of t.bytes
      → header_of with_variable text d (t ∷ ts) ≡ Err (record { line = t.line; kind = BadToken })
  unfolding Opens header_from declare_all
  header_of-stray text d t ts e = let is = OpensAs-opening_of t.bytes Nothing e in ap
      (rest_of_header with_variable text d)
      (header_from-stray t ts is)
    where
      -- a token outside a section that opens none is an item of the header
      header_from-stray : (t : Token) (ts : List Token) → opens_section t.bytes ≡ false → header_from between (t ∷ ts)
          ≡ with_item (stray t.line) (header_from between ts)
      header_from-stray t ts none = rw (header_from, none) refl

  -- ---- reading in two steps, the first of which succeeds or fails

  -- if the first step succeeds with `x`, all is what the second makes of `x`
  bind-of_ok : {A B : Type 0} (all : Result B VcdFault) (read : Result A VcdFault) (g : A → Result B VcdFault) (x : A)
      → all
      ≡ (read >>= g) → read ≡ Ok x → all ≡ g x
  bind-of_ok {A} {B} all read g x e is = e ∙ ap (λ (r : Result A VcdFault). r >>= g) is

  -- a section of each kind, opened by `t`: if reading or declaring it fails (`_stops`, `_refused`), the header has that
  -- fault; otherwise (`_continues`) the header is what the tokens after the section give, or they are its body
  -- (`end_continues`)
  module _ (text : List ℕ) (d : Declared V) (t : Token) (ts : List Token) where
    -- what reading gives after a section `$var`
    abbrev after_var : Ended → Reading
    after_var ended = at_line t.line (declare_var with_variable d ended.words) >>= λ next. header_of with_variable text
        next ended.rest

    -- what reading gives after a section `$scope`
    abbrev after_scope : Ended → Reading
    after_scope ended = header_of with_variable text (open_scope d ended.words) ended.rest

    -- what reading gives after a section `$upscope`
    abbrev after_upscope : List Token → Reading
    after_upscope rest = at_line t.line (close_scope d d.scopes) >>= λ next. header_of with_variable text next rest

    -- what reading gives after a section `$enddefinitions`
    abbrev after_end : List Token → Reading
    after_end rest = Ok (headed d rest)

    -- what reading gives after a section of any other kind
    abbrev after_skipped : List Token → Reading
    after_skipped rest = header_of with_variable text d rest

    -- a section `$var` that can't be read is a fault of the header
    pub var_stops : (fault : VcdFault) → Var ≡ opening_of t.bytes → ReadFails fault (section_from t.line ts)
        → ReadFails fault (header_of with_variable text d (t ∷ ts))
    var_stops fault e h =
        ReadFails-first fault (section_from t.line ts) after_var _ (header_of-var text d t ts e) h

    -- a section `$var` whose words declare no variable is a fault of the header
    pub var_refused : (fault : VcdFault) (words : List (List ℕ)) (rest : List Token) → Var ≡ opening_of t.bytes
        → section_from t.line ts ≡ Ok (record { words = words; rest = rest }) → ReadFails fault
        (at_line t.line (declare_var with_variable d words)) → ReadFails fault (header_of with_variable text d (t ∷ ts))
    var_refused fault words rest e is h =
        ReadFails-first fault (at_line t.line (declare_var with_variable d words))
        (λ next. header_of with_variable text next rest) _
        (bind-of_ok (header_of with_variable text d (t ∷ ts)) (section_from t.line ts) after_var
        (record { words = words; rest = rest }) (header_of-var text d t ts e) is) h

    -- after a section `$var` that declares a variable, the header goes on with it
    pub var_continues : (words : List (List ℕ)) (rest : List Token) (next : Declared V) → Var ≡ opening_of t.bytes
        → section_from t.line ts ≡ Ok (record { words = words; rest = rest })
        → at_line t.line (declare_var with_variable d words) ≡ Ok next → header_of with_variable text d (t ∷ ts)
        ≡ header_of with_variable text next rest
    var_continues words rest next e is h =
        bind-of_ok (header_of with_variable text d (t ∷ ts)) (at_line t.line (declare_var with_variable d words))
        (λ next. header_of with_variable text next rest) next
        (bind-of_ok (header_of with_variable text d (t ∷ ts)) (section_from t.line ts) after_var
        (record { words = words; rest = rest }) (header_of-var text d t ts e) is) h

    -- a section `$scope` that can't be read is a fault of the header
    pub scope_stops : (fault : VcdFault) → Scope ≡ opening_of t.bytes → ReadFails fault (section_from t.line ts)
        → ReadFails fault (header_of with_variable text d (t ∷ ts))
    scope_stops fault e h =
        ReadFails-first fault (section_from t.line ts) after_scope _ (header_of-scope text d t ts e) h

    -- after a section `$scope` the header goes on in this scope
    pub scope_continues : (words : List (List ℕ)) (rest : List Token) → Scope ≡ opening_of t.bytes
        → section_from t.line ts ≡ Ok (record { words = words; rest = rest })
        → header_of with_variable text d (t ∷ ts) ≡ header_of with_variable text (open_scope d words) rest
    scope_continues words rest e is =
        bind-of_ok (header_of with_variable text d (t ∷ ts)) (section_from t.line ts) after_scope
        (record { words = words; rest = rest }) (header_of-scope text d t ts e) is

    -- a section `$upscope` that can't be read is a fault of the header
    pub upscope_stops : (fault : VcdFault) → Upscope ≡ opening_of t.bytes → ReadFails fault (after_section t.line ts)
        → ReadFails fault (header_of with_variable text d (t ∷ ts))
    upscope_stops fault e h =
        ReadFails-first fault (after_section t.line ts) after_upscope _ (header_of-upscope text d t ts e) h

    -- a section `$upscope` where no scope is open is a fault of the header
    pub upscope_refused : (rest : List Token) → Upscope ≡ opening_of t.bytes → after_section t.line ts ≡ Ok rest
        → d.scopes ≡ [] → header_of with_variable text d (t ∷ ts)
        ≡ Err (record { line = t.line; kind = ScopeUnderflow })
    upscope_refused rest e is none =
        bind-of_ok (header_of with_variable text d (t ∷ ts)) (after_section t.line ts) after_upscope rest
        (header_of-upscope text d t ts e) is
        ∙ ap (λ (scopes : List (List ℕ)). at_line t.line (close_scope d scopes) >>= λ next. header_of with_variable text
        next rest) none

    -- after a section `$upscope` the header goes on without the innermost scope
    pub upscope_continues : (rest : List Token) (name : List ℕ) (scopes : List (List ℕ)) → Upscope ≡ opening_of t.bytes
        → after_section t.line ts ≡ Ok rest → d.scopes ≡ name ∷ scopes → header_of with_variable text d (t ∷ ts)
        ≡ header_of with_variable text (record d { scopes = scopes }) rest
    upscope_continues rest name scopes e is some =
        bind-of_ok (header_of with_variable text d (t ∷ ts)) (after_section t.line ts) after_upscope rest
        (header_of-upscope text d t ts e) is
        ∙ ap (λ (scopes : List (List ℕ)). at_line t.line (close_scope d scopes) >>= λ next. header_of with_variable text
        next rest) some

    -- a section `$enddefinitions` that can't be read is a fault of the header
    pub end_stops : (fault : VcdFault) → EndDefinitions ≡ opening_of t.bytes → ReadFails fault
        (after_section t.line ts) → ReadFails fault (header_of with_variable text d (t ∷ ts))
    end_stops fault e h =
        ReadFails-first fault (after_section t.line ts) after_end _ (header_of-enddefinitions text d t ts e) h

    -- after a section `$enddefinitions` the tokens are the body
    pub end_continues : (rest : List Token) → EndDefinitions ≡ opening_of t.bytes → after_section t.line ts ≡ Ok rest
        → header_of with_variable text d (t ∷ ts) ≡ Ok (headed d rest)
    end_continues rest e is = bind-of_ok (header_of with_variable text d (t ∷ ts)) (after_section t.line ts) after_end
        rest
        (header_of-enddefinitions text d t ts e) is

    -- a section of another kind that can't be read is a fault of the header
    pub skipped_stops : (fault : VcdFault) → Skipped ≡ opening_of t.bytes → ReadFails fault (after_section t.line ts)
        → ReadFails fault (header_of with_variable text d (t ∷ ts))
    skipped_stops fault e h =
        ReadFails-first fault (after_section t.line ts) after_skipped _ (header_of-skipped text d t ts e) h

    -- after a section of another kind the header goes on as before
    pub skipped_continues : (rest : List Token) → Skipped ≡ opening_of t.bytes → after_section t.line ts ≡ Ok rest
        → header_of with_variable text d (t ∷ ts) ≡ header_of with_variable text d rest
    skipped_continues rest e is =
        bind-of_ok (header_of with_variable text d (t ∷ ts)) (after_section t.line ts) after_skipped
        rest (header_of-skipped text d t ts e) is

  -- where no token is left, the definitions don't end in the text: a fault at its last line
  pub header_of-no_tokens : (text : List ℕ) (line : ℕ) (d : Declared V) (ts : List Token) → line ≡ 1 → ts ≡ []
      → header_of with_variable text d ts
      ≡ Err (record { line = line_behind line (take (length text) text); kind = NoEndDefinitions })
  unfolding header_from declare_all
  header_of-no_tokens text line d ts first none =
      ap (header_of with_variable text d) none
      ∙ ap (λ (front : List ℕ). no_end (line_after front)) (sym (take_all (length text) text (omega arith)))
      ∙ ap (λ (first : ℕ). no_end (line_behind first (take (length text) text))) (sym first)
    where
      -- the definitions don't end, which is found at this line
      no_end : ℕ → Reading
      no_end line = Err (record { line = line; kind = NoEndDefinitions })
