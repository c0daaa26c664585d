-- An annotated dump: the text of a dump, byte for byte, with declarations of added variables, and their changes at the
-- times of the rows.
use Rattle.std.specs.Prelude.{◌≡◌, ℕ, ◌≤◌, ◌==◌, max, true, List, [], ◌∷◌, ◌++◌, length, map, flat_map, filter, codes}
use Rattle.std.specs.Prelude.{get_or, take, Ok}
use Rattle.vcd_read.specs.Header.{appended, nothing_declared}
use Rattle.vcd_read.specs.Sections.{Defined, header_of}
use Rattle.vcd_read.specs.Tokens.{tokens}
use Rattle.vcd_read.specs.declared.dump.Variable.{Variable}
use Rattle.vcd_places.specs.Places.{IsAtTime, ends_definitions_at}
use Rattle.vme_listing.specs.Recorded.{recorded_rows}
use Rattle.vme_trace.specs.Trace.{Trace, time_at}
use Rattle.vme_annotation.specs.Fresh.{AreFree, IsFreeScope, scope_name}
use Rattle.vme_annotation.specs.Inserted.{PutChange, change_of, with_changes}
use Rattle.vme_annotation.specs.Shown.{ShownChange, all_shown, changes_at}
use Rattle.vme_annotation.specs.declared.shown_variable.ShownVariable.{ShownVariable}
use Rattle.vme_annotation.specs.declared.shown_variable.ShownVariable.TheVariants as shown

-- ---- the variables

-- the index of a variable among the others
abbrev pub place_of : ShownVariable → ℕ
place_of shown.Tenure = 0
place_of shown.Cycle = 1
place_of shown.Transfer = 2
place_of shown.Verdict = 3

-- the name of a variable in the dump
abbrev pub name_of : ShownVariable → List ℕ
name_of shown.Tenure = codes "tenure"
name_of shown.Cycle = codes "cycle"
name_of shown.Transfer = codes "transfer"
name_of shown.Verdict = codes "verdict"

-- the identifier code of a variable, by the codes `own` of the four variables
abbrev pub code_of : List (List ℕ) → ShownVariable → List ℕ
code_of own variable = get_or own (place_of variable) []

-- the words of a declaration
abbrev pub declaration : List (List ℕ) → ShownVariable → List (List ℕ)
declaration own variable =
    codes "$var" ∷ codes "string" ∷ codes "1" ∷ code_of own variable ∷ name_of variable ∷ codes "$end" ∷ []

-- the words of the declarations of all variables, in a scope
abbrev pub declared_words : List ℕ → List (List ℕ) → List (List ℕ)
declared_words scope own =
    codes "$scope" ∷ codes "module" ∷ scope ∷ codes "$end" ∷ flat_map (declaration own) all_shown
    ++ codes "$upscope" ∷ codes "$end" ∷ []

-- a word with a space after it
abbrev pub with_space : List ℕ → List ℕ
with_space word = word ++ 32 ∷ []

-- the declarations, with a space after each word
abbrev pub declarations : List ℕ → List (List ℕ) → List ℕ
declarations scope own = flat_map with_space (declared_words scope own)

-- ---- the changes

-- a change, with a space before each token
abbrev pub change_text : List (List ℕ) → ShownChange → List ℕ
change_text own c = codes " s" ++ (c.text ++ (codes " " ++ code_of own c.variable))

-- the time at which an instant is shown: the opening, which has no time, is shown with the first step
abbrev pub shown_time : Trace → ℕ → ℕ
shown_time t instant = time_at t (max instant 1)

-- each change is inserted where the dump has come to the time of its instant, and not before the one that precedes it
abbrev pub ArePutAt : List ℕ → Trace → ℕ → List PutChange → Type 0
ArePutAt dump t from [] = Unit {0}
ArePutAt dump t from (p ∷ put) =
    (from ≤ p.place) × IsAtTime dump (shown_time t p.change.instant) p.place × ArePutAt dump t p.place put

-- ---- the text

-- a dump with declarations before the end of its definitions, and changes in its body
unfoldable pub annotated : List ℕ → ℕ → List ℕ → List (List ℕ) → List PutChange → List ℕ
annotated dump start scope own put =
    take start dump ++ (declarations scope own ++ with_changes (change_text own) start put dump)

-- `text` is the dump, annotated with the listing of the recording `t`
pub record IsAnnotated (dump : List ℕ) (t : Trace) (text : List ℕ) : Type 0 where
  pub defines : Defined (List Variable)
  pub defines_are : header_of appended dump (nothing_declared []) (tokens dump) ≡ Ok defines
  pub underscores : ℕ
  pub scope : IsFreeScope defines.variables underscores
  pub own : List (List ℕ)
  pub count_is : length own ≡ 4
  pub codes_are : AreFree defines.head.nets own
  pub start : ℕ
  pub starts : ends_definitions_at dump start ≡ true
  pub put : List PutChange
  pub placed : ArePutAt dump t start put
  pub changes_are : (instant : ℕ) → filter (λ (c : ShownChange). c.instant == instant) (map change_of put)
      ≡ changes_at (recorded_rows t) instant
  pub text_is : text ≡ annotated dump start (scope_name underscores) own put
