-- The header: sections, and what they declare.
use Rattle.std.specs.Prelude.{ℕ, zero, suc, ◌+◌, ◌-◌, nat_le, max, min, Bool, true, false, ◌&&◌, not, ◌==◌}
use Rattle.std.specs.Prelude.{if◌then◌else◌, List, [], ◌∷◌, ◌++◌, length, take, drop, get_or, Option, Some, None}
use Rattle.std.specs.Prelude.{option_map, option_and_then, Result, Ok, Err, codes, bytes_eq, position, reverse}
use Rattle.std.specs.List.{list_all, concat, before_first, after_first, before_last, after_last, list_any}
use Rattle.vcd_read.specs.declared.dump.Variable.{Variable}
use Rattle.vcd_read.specs.declared.fault.FaultKind.{FaultKind}
use Rattle.vcd_read.specs.declared.fault.FaultKind.TheVariants.{BadToken, UnfinishedSection, BadVar, ScopeUnderflow}
use Rattle.vcd_read.specs.declared.fault.FaultKind.TheVariants.{SizeConflict}
use Rattle.vcd_read.specs.declared.fault.VcdFault.{VcdFault}
use Rattle.vcd_read.specs.Tokens.{Token}
use Rattle.vcd_read.specs.Numbers.{is_empty, is_number, number, number_below}

-- goes on with a value, if there is no error
infixl 10 ◌>>=◌
abbrev pub ◌>>=◌ : {A B E : Type 0} → Result A E → (A → Result B E) → Result B E
(Ok x) >>= f = f x
(Err e) >>= f = Err e

-- a kind of fault at a line
abbrev pub at_line : {A : Type 0} → ℕ → Result A FaultKind → Result A VcdFault
at_line line (Ok x) = Ok x
at_line line (Err kind) = Err (record { line = line; kind = kind })

-- ---- the cut into items

-- A section has its first token and the words up to its end.
pub record Section : Type 0 where
  pub line : ℕ
  pub keyword : List ℕ
  pub words : List (List ℕ)

-- an item of a header: a section, or what is none
pub data HeaderItem : Type 0 where
  whole : Section → HeaderItem
  -- a section that the text ends in, by its line
  unfinished : ℕ → HeaderItem
  -- a token outside a section that opens none, by its line
  stray : ℕ → HeaderItem

-- The items up to the end of the definitions, and the tokens after it, if there is one.
pub record Header : Type 0 where
  pub items : List HeaderItem
  pub body : Option (List Token)

-- a header with one more item before its items
abbrev pub with_item : HeaderItem → Header → Header
with_item item header = record { items = item ∷ header.items; body = header.body }

-- the word ends a section
abbrev pub is_end : List ℕ → Bool
is_end word = bytes_eq word (codes "$end")

-- the token opens a section: it begins with a dollar sign, and isn't `$end`
abbrev pub opens_section : List ℕ → Bool
opens_section [] = false
opens_section (b ∷ word) = b == 36 && not (is_end (b ∷ word))

-- the section is the one that ends the definitions
abbrev pub ends_definitions : Section → Bool
ends_definitions section = bytes_eq section.keyword (codes "$enddefinitions")

-- between two sections, or inside one with the words so far
pub data HeaderPlace : Type 0 where
  between : HeaderPlace
  inside : Section → HeaderPlace

-- the section that a token opens, without words so far
abbrev pub opened : Token → Section
opened token = record { line = token.line; keyword = token.bytes; words = [] }

-- a section with one more word
abbrev pub with_word : Section → List ℕ → Section
with_word section word = record section { words = section.words ++ word ∷ [] }

-- the header of the tokens that follow this place
unfoldable pub header_from : HeaderPlace → List Token → Header
header_from between [] = record { items = []; body = None }
header_from between (t ∷ ts) =
    elim (opens_section t.bytes) [
      | true ↦ header_from (inside (opened t)) ts
      | false ↦ with_item (stray t.line) (header_from between ts)
    ]
header_from (inside section) [] = record { items = unfinished section.line ∷ []; body = None }
header_from (inside section) (t ∷ ts) =
    elim (is_end t.bytes) [
      | true ↦ elim (ends_definitions section) [
        | true ↦ record { items = []; body = Some ts }
        | false ↦ with_item (whole section) (header_from between ts)
      ]
      | false ↦ header_from (inside (with_word section t.bytes)) ts
    ]

-- ---- what the items declare

-- a code, and the size of its variables
pub record Net : Type 0 where
  pub code : List ℕ
  pub size : ℕ

-- what is declared so far, with what a visitor made of the variables; the nets are in the order of their first
-- declarations
pub record Declared (V : Type 0) : Type 0 where
  -- the names of the open scopes, the innermost first
  pub scopes : List (List ℕ)
  pub nets : List Net
  pub variables : V

-- the net has this code
abbrev pub has_code : List ℕ → Net → Bool
has_code code net = bytes_eq net.code code

-- the number of the net with this code, if there is one
abbrev pub net_of : List Net → List ℕ → Option ℕ
net_of nets code = position (has_code code) nets

-- how many bits the net with this number has
unfoldable pub size_of : List Net → ℕ → ℕ
size_of [] net = 0
size_of (n ∷ nets) zero = n.size
size_of (n ∷ nets) (suc net) = size_of nets net

-- a byte that may be in a code: a visible ASCII character
abbrev pub is_code_byte : ℕ → Bool
is_code_byte b = nat_le 33 b && nat_le b 126

-- a word that may be a code
abbrev pub is_code : List ℕ → Bool
is_code word = list_all is_code_byte word

-- the names in order, empty ones left out, joined by dots
abbrev pub joined_by_dots : List (List ℕ) → List ℕ
joined_by_dots [] = []
joined_by_dots ([] ∷ names) = joined_by_dots names
joined_by_dots ((b ∷ name) ∷ names) = (b ∷ name) ++ dotted (joined_by_dots names)
  where
    dotted : List ℕ → List ℕ
    dotted [] = []
    dotted (c ∷ path) = 46 ∷ c ∷ path

-- the path of a name in the open scopes, the innermost of which is first
abbrev pub path_of : List (List ℕ) → List ℕ → List ℕ
path_of scopes name = joined_by_dots (reverse scopes ++ name ∷ [])

-- one to nine digits
abbrev pub index_number : List ℕ → Option ℕ
index_number text = if is_number text && nat_le (length text) 9 then Some (number text) else None

-- the numbers between brackets
abbrev pub index_between : List ℕ → Option (ℕ × ℕ)
index_between text =
    if list_any (λ b. b == 58) text then
    option_and_then (λ (m : ℕ). option_map (λ (l : ℕ). (m, l)) (index_number (after_first (λ b. b == 58) text)))
    (index_number (before_first (λ b. b == 58) text))
    else option_map (λ (n : ℕ). (n, n)) (index_number text)

-- how many indices there are from one to the other
abbrev pub index_count : ℕ × ℕ → ℕ
index_count index = max index.0 index.1 - min index.0 index.1 + 1

-- the name of a variable, and the numbers of its leftmost and its rightmost bit, if it has an index
pub record Reference : Type 0 where
  pub name : List ℕ
  pub index : Option (ℕ × ℕ)

-- a text that is all name
abbrev pub without_index : List ℕ → Reference
without_index text = record { name = text; index = None }

-- what is before a last bracket that closes at the end, and what is in it
abbrev pub bracketed : List ℕ → Option (List ℕ × List ℕ)
bracketed text =
    let inner = take (length text - 1) text in
    if get_or text (length text - 1) 0 == 93 && list_any (λ b. b == 91) inner
    then Some (before_last (λ b. b == 91) inner, after_last (λ b. b == 91) inner) else None

-- the index that stands between brackets, if it has as many bits as the variable
abbrev pub index_of : ℕ → List ℕ → Option (ℕ × ℕ)
index_of size text = option_and_then (λ (index : ℕ × ℕ). if index_count index == size then Some index else None)
    (index_between text)

-- a text as a reference, by what is before its last bracket and in it
abbrev pub reference_parts : ℕ → List ℕ → Option (List ℕ × List ℕ) → Reference
reference_parts size text None = without_index text
reference_parts size text (Some parts) =
    if is_empty parts.0 then without_index text
    else (elim (index_of size parts.1) [
      | None ↦ without_index text
      | Some index ↦ record { name = parts.0; index = Some index }
    ])

-- the reference that a text writes, of a variable of `size` bits
abbrev pub reference_of : ℕ → List ℕ → Reference
reference_of size text = reference_parts size text (bracketed text)

-- a variable in the open scopes
abbrev pub variable_in : List (List ℕ) → ℕ → ℕ → Reference → Variable
variable_in scopes net size reference = record {
  path = path_of scopes reference.name;
  index = reference.index;
  size = size;
  net = net;
}

-- the number of a net, and all nets, with that one
pub record JoinedNets : Type 0 where
  pub net : ℕ
  pub nets : List Net

-- the net of a code: a new one, or the one that it has already, which must be of the same size
abbrev pub net_for : List Net → List ℕ → ℕ → Option ℕ → Result JoinedNets FaultKind
net_for nets code size None = Ok (record { net = length nets; nets = nets ++ record { code = code; size = size } ∷ [] })
net_for nets code size (Some net) = if size_of nets net == size then Ok
    (record { net = net; nets = nets }) else Err SizeConflict

-- what the section of a variable says: its size, its code, and its reference without the spaces
pub record VarWords : Type 0 where
  pub size : ℕ
  pub code : List ℕ
  pub reference : List ℕ

-- the words of such a section: the type, the size, the code and at least one of the reference
abbrev pub var_words : List (List ℕ) → Result VarWords FaultKind
var_words (type ∷ size ∷ code ∷ first ∷ others) = do
  n ← number_below 65537 BadVar size
  if is_code code then Ok (record { size = n; code = code; reference = concat (first ∷ others) }) else Err BadVar
var_words words = Err BadVar

-- a scope is opened; its words are the type and the name, which is empty if there are no more
abbrev pub open_scope : {V : Type 0} → Declared V → List (List ℕ) → Declared V
open_scope d words = record d { scopes = concat (drop 1 words) ∷ d.scopes }

-- the innermost scope is closed, if one is open
abbrev pub close_scope : {V : Type 0} → Declared V → List (List ℕ) → Result (Declared V) FaultKind
close_scope d [] = Err ScopeUnderflow
close_scope d (scope ∷ scopes) = Ok (record d { scopes = scopes })

-- `with_variable` is what a visitor makes of one more variable
module _ {V : Type 0} (with_variable : V → Variable → V) where
  -- the section of a variable declares it in the open scopes, and its net if that is new
  abbrev pub declare_var : Declared V → List (List ℕ) → Result (Declared V) FaultKind
  declare_var d words = do
    var ← var_words words
    joined ← net_for d.nets var.code var.size (net_of d.nets var.code)
    Ok (record d {
      nets = joined.nets;
      variables = with_variable d.variables
          (variable_in d.scopes joined.net var.size (reference_of var.size var.reference));
    })

  -- what is declared after one more section, or the fault of the section
  abbrev pub declare_section : Declared V → Section → Result (Declared V) FaultKind
  declare_section d section =
      if bytes_eq section.keyword (codes "$var") then declare_var d section.words
      else if bytes_eq section.keyword (codes "$scope") then Ok (open_scope d section.words)
      else if bytes_eq section.keyword (codes "$upscope") then close_scope d d.scopes
      else Ok d

  -- the first fault of the items, or all that they declare
  unfoldable pub declare_all : Declared V → List HeaderItem → Result (Declared V) VcdFault
  declare_all d [] = Ok d
  declare_all d (whole section ∷ items) = do
    next ← at_line section.line (declare_section d section)
    declare_all next items
  declare_all d (unfinished line ∷ items) = Err (record { line = line; kind = UnfinishedSection })
  declare_all d (stray line ∷ items) = Err (record { line = line; kind = BadToken })

-- nothing is declared yet, and `none` is what a visitor makes of no variables
abbrev pub nothing_declared : {V : Type 0} → V → Declared V
nothing_declared none = record { scopes = []; nets = []; variables = none }

-- one more variable, for a visitor that keeps all
abbrev pub appended : List Variable → Variable → List Variable
appended variables variable = variables ++ variable ∷ []
