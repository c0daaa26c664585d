-- Reading the header section by section.
use Rattle.std.specs.Prelude.{◌≡◌, ℕ, Bool, true, false, if◌then◌else◌, List, [], ◌∷◌, option_map, Option, Some, None}
use Rattle.std.specs.Prelude.{Result, Ok, Err, codes, bytes_eq}
use Rattle.std.specs.List.{concat}
use Rattle.vcd_read.specs.declared.dump.Variable.{Variable}
use Rattle.vcd_read.specs.declared.fault.FaultKind.TheVariants.{UnfinishedSection}
use Rattle.vcd_read.specs.declared.fault.VcdFault.{VcdFault}
use Rattle.vcd_read.specs.declared.header.Definitions.{Definitions}
use Rattle.vcd_read.specs.declared.header.Opening.{Opening}
use Rattle.vcd_read.specs.declared.header.Opening.TheVariants.{Var, Scope, Upscope, EndDefinitions, Skipped, Nothing}
use Rattle.vcd_read.specs.declared.header.VarSection.{VarSection}
use Rattle.vcd_read.specs.Tokens.{Token}
use Rattle.vcd_read.specs.Header.{◌>>=◌, VarWords, Header, header_from, between, is_end, opens_section, Net, Declared}
use Rattle.vcd_read.specs.Header.{declare_all}
use Rattle.vcd_read.specs.Scopes.{texts}
use Rattle.vcd_read.specs.Meaning.{body_of, ReadFails}

-- ---- a section

-- The words of a section up to its end, and the tokens after it.
pub record Ended : Type 0 where
  pub words : List (List ℕ)
  pub rest : List Token

-- a section with one more word before its words
abbrev pub after_word : List ℕ → Ended → Ended
after_word word ended = record { words = word ∷ ended.words; rest = ended.rest }

-- the words up to the end of a section, and the tokens after it, if it ends
unfoldable pub ended_in : List Token → Option Ended
ended_in [] = None
ended_in (t ∷ ts) = elim (is_end t.bytes) [
  | true ↦ Some (record { words = []; rest = ts })
  | false ↦ option_map
      (after_word t.bytes) (ended_in ts)
]

-- a section without an end is a fault at its line
abbrev pub section_from : ℕ → List Token → Result Ended VcdFault
section_from line ts = elim (ended_in ts) [
  | None ↦ Err
      (record { line = line; kind = UnfinishedSection })
  | Some ended ↦ Ok ended
]

-- the tokens after a section
abbrev pub after_section : ℕ → List Token → Result (List Token) VcdFault
after_section line ts = section_from line ts >>= λ ended. Ok ended.rest

-- what a token opens
abbrev pub opening_of : List ℕ → Opening
opening_of word =
    if opens_section word then (
    if bytes_eq word (codes "$var") then Var
    else if bytes_eq word (codes "$scope") then Scope
    else if bytes_eq word (codes "$upscope") then Upscope
    else if bytes_eq word (codes "$enddefinitions") then EndDefinitions
    else Skipped)
    else Nothing

-- what the section of a variable says
abbrev pub var_of : VarSection → VarWords
var_of var = record { size = var.size; code = var.code.now; reference = concat (texts var.reference.now) }

-- what a function returned, seen by `view`, is `read`
abbrev pub ReturnsAs : {X Y E : Type 0} → (X → Y) → Result X E → Result Y E → Type 0
ReturnsAs view (Ok x) read = read ≡ Ok (view x)
ReturnsAs view (Err e) read = read ≡ Err e

-- ---- the whole header

-- the open scopes, the nets, and what a visitor made of the variables
abbrev pub declared_in : {V : Type 0} → List (List ℕ) → List Net → V → Declared V
declared_in scopes nets variables = record { scopes = scopes; nets = nets; variables = variables }

-- what the sections so far declare, by the scopes of their visitor and what it made of the variables
abbrev pub declared_by : {D V : Type 0} → (D → List (List ℕ)) → (D → V) → Definitions D → Declared V
declared_by scopes taken d = declared_in (scopes d.declarations) d.codes (taken d.declarations)

-- The nets that a header declares, and the tokens after it.
pub record Headed : Type 0 where
  pub nets : List Net
  pub body : List Token

-- A header, and what a visitor made of its variables.
pub record Defined (V : Type 0) : Type 0 where
  pub head : Headed
  pub variables : V

-- a header, and what a visitor made of its variables
abbrev pub defined : {V : Type 0} → Headed → V → Defined V
defined head variables = record { head = head; variables = variables }

-- what is declared, with the tokens after it
abbrev pub headed : {V : Type 0} → Declared V → List Token → Defined V
headed d body = defined (record { nets = d.nets; body = body }) d.variables

module _ {V : Type 0} (with_variable : V → Variable → V) where
  -- the header of `text`, where `d` is declared and the items and tokens of `header` are left
  abbrev pub rest_of_header : List ℕ → Declared V → Header → Result (Defined V) VcdFault
  rest_of_header text d header = declare_all with_variable d header.items >>= λ declared. body_of text header.body
      >>= λ body. Ok (headed declared body)

  -- the header of `text`, where `d` is declared and the tokens `ts` are left
  abbrev pub header_of : List ℕ → Declared V → List Token → Result (Defined V) VcdFault
  header_of text d ts = rest_of_header text d (header_from between ts)

-- a section is read: if the definitions continue (`true`), reading the header gives the same after it as before it;
-- otherwise (`false`) it gives `end`; a fault is that of the header
abbrev pub SectionContinuesAs : {V : Type 0} → Result (Defined V) VcdFault → Result (Defined V) VcdFault → Defined V
    → Result Bool VcdFault → Type 0
SectionContinuesAs before after end (Ok true) = before ≡ after
SectionContinuesAs before after end (Ok false) = before ≡ Ok end
SectionContinuesAs before after end (Err fault) = ReadFails fault before
