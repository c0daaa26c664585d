-- The body: times, changes and dump sections, and their first fault.
use Rattle.std.specs.Prelude.{ℕ, nat_lt, Bool, true, false, ◌&&◌, ◌||◌, not, ◌==◌, if◌then◌else◌, List, [], ◌∷◌, length}
use Rattle.std.specs.Prelude.{Option, Some, None, Result, Ok, Err, codes, bytes_eq}
use Rattle.std.specs.List.{list_all}
use Rattle.vcd_read.specs.declared.fault.FaultKind.{FaultKind}
use Rattle.vcd_read.specs.declared.fault.FaultKind.TheVariants.{BadToken, UnfinishedSection, UndeclaredCode, TooWide}
use Rattle.vcd_read.specs.declared.fault.FaultKind.TheVariants.{TimeBackwards}
use Rattle.vcd_read.specs.declared.fault.VcdFault.{VcdFault}
use Rattle.vcd_read.specs.Tokens.{Token}
use Rattle.vcd_read.specs.Numbers.{is_empty, is_bit, time_of}
use Rattle.vcd_read.specs.Header.{◌>>=◌, at_line, is_end, Net, net_of, size_of}

-- ---- the cut into items

-- an item of a body; the first number is its line
pub data BodyItem : Type 0 where
  -- the digits after a #
  time_item : ℕ → List ℕ → BodyItem
  -- digits, and the code whose value they are
  change : ℕ → List ℕ → List ℕ → BodyItem
  -- the code of a real number or a string
  skipped : ℕ → List ℕ → BodyItem
  dump_section_open : ℕ → BodyItem
  dump_section_end : ℕ → BodyItem
  -- what is no item
  wrong : ℕ → FaultKind → BodyItem

-- what a token begins or is
pub data Shape : Type 0 where
  time_shape : List ℕ → Shape
  scalar : List ℕ → List ℕ → Shape
  -- the code is the next token
  vector : List ℕ → Shape
  foreign : Shape
  comment : Shape
  open_shape : Shape
  end_shape : Shape
  none : Shape

-- the word opens a dump section
abbrev pub opens_dump_section : List ℕ → Bool
opens_dump_section word =
    bytes_eq word (codes "$dumpvars") || bytes_eq word (codes "$dumpall") || bytes_eq word (codes "$dumpon")
    || bytes_eq word (codes "$dumpoff")

-- the shape of a token that begins with a dollar sign
abbrev pub keyword_shape : List ℕ → Shape
keyword_shape word =
    if is_end word then end_shape else if opens_dump_section word then open_shape
    else if bytes_eq word (codes "$comment") then comment else none

-- the digits of a vector: bits, at least one
abbrev pub are_bits : List ℕ → Bool
are_bits digits = not (is_empty digits) && list_all is_bit digits

-- the shape of the token whose first byte is b, and whose other bytes are `word`
abbrev pub shape_from : ℕ → List ℕ → Shape
shape_from b word =
    if b == 35 then time_shape word
    else if is_bit b then (if is_empty word then none else scalar (b ∷ []) word)
    else if b == 98 || b == 66 then (if are_bits word then vector word else none)
    else if b == 114 || b == 82 || b == 115 then foreign
    else if b == 36 then keyword_shape (b ∷ word)
    else none

-- the shape of a token
abbrev pub shape_of : List ℕ → Shape
shape_of [] = none
shape_of (b ∷ word) = shape_from b word

-- between two items, or after the first token of one, with its line: a vector's, one that is skipped, a comment's
pub data BodyPlace : Type 0 where
  ready : BodyPlace
  code_of_vector : ℕ → List ℕ → BodyPlace
  code_of_foreign : ℕ → BodyPlace
  in_comment : ℕ → BodyPlace

-- the items of the tokens that follow this place; what they leave unfinished is wrong
unfoldable pub body_from : BodyPlace → List Token → List BodyItem
body_from ready [] = []
body_from ready (t ∷ ts) =
    elim (shape_of t.bytes) [
      | time_shape digits ↦ time_item t.line digits ∷ body_from ready ts
      | scalar digits code ↦ change t.line digits code ∷ body_from ready ts
      | vector digits ↦ body_from (code_of_vector t.line digits) ts
      | foreign ↦ body_from (code_of_foreign t.line) ts
      | comment ↦ body_from (in_comment t.line) ts
      | open_shape ↦ dump_section_open t.line ∷ body_from ready ts
      | end_shape ↦ dump_section_end t.line ∷ body_from ready ts
      | none ↦ wrong t.line BadToken ∷ body_from ready ts
    ]
body_from (code_of_vector line digits) [] = wrong line UnfinishedSection ∷ []
body_from (code_of_vector line digits) (t ∷ ts) = change line digits t.bytes ∷ body_from ready ts
body_from (code_of_foreign line) [] = wrong line UnfinishedSection ∷ []
body_from (code_of_foreign line) (t ∷ ts) = skipped line t.bytes ∷ body_from ready ts
body_from (in_comment line) [] = wrong line UnfinishedSection ∷ []
body_from (in_comment line) (t ∷ ts) = elim (is_end t.bytes) [
  | true ↦ body_from ready ts
  | false ↦ body_from
      (in_comment line) ts
]

-- ---- the first fault

-- the current time, and the line of the dump section that is open
pub record BodyContext : Type 0 where
  pub now : ℕ
  pub dump_section : Option ℕ

-- a time that isn't before the current one
abbrev pub time_after : ℕ → ℕ → Result ℕ FaultKind
time_after now time = if nat_lt time now then Err TimeBackwards else Ok time

-- the dump section that opens on this line, where none is open
abbrev pub opened_at : ℕ → Option ℕ → Result (Option ℕ) FaultKind
opened_at line None = Ok (Some line)
opened_at line (Some outer) = Err BadToken

-- no dump section, where one was open
abbrev pub closed : Option ℕ → Result (Option ℕ) FaultKind
closed None = Err BadToken
closed (Some line) = Ok None

-- the net of a code, if the change has room
abbrev pub fitting : List Net → ℕ → Option ℕ → Result ℕ FaultKind
fitting nets digits None = Err UndeclaredCode
fitting nets digits (Some net) = if nat_lt (size_of nets net) digits then Err TooWide else Ok net

-- what holds after an item, or the fault of the item
abbrev pub context_after : List Net → BodyContext → BodyItem → Result BodyContext VcdFault
context_after nets s (time_item line digits) = at_line line
    (time_of digits >>= λ n. time_after s.now n >>= λ now. Ok (record s { now = now }))
context_after nets s (change line digits code) = at_line line
    (fitting nets (length digits) (net_of nets code) >>= λ net. Ok s)
context_after nets s (skipped line code) = at_line line (fitting nets 0 (net_of nets code) >>= λ net. Ok s)
context_after nets s (dump_section_open line) = at_line line
    (opened_at line s.dump_section >>= λ dump_section. Ok (record s { dump_section = dump_section }))
context_after nets s (dump_section_end line) = at_line line
    (closed s.dump_section >>= λ dump_section. Ok (record s { dump_section = dump_section }))
context_after nets s (wrong line kind) = Err (record { line = line; kind = kind })

-- what holds after all items, or their first fault
unfoldable pub context_after_all : List Net → BodyContext → List BodyItem → Result BodyContext VcdFault
context_after_all nets s [] = Ok s
context_after_all nets s (item ∷ items) = context_after nets s item >>= λ next. context_after_all nets next items

-- an open dump section is met at the end of the text
abbrev pub at_the_end : BodyContext → Result BodyContext VcdFault
at_the_end s = elim s.dump_section [ None ↦ Ok s | Some line ↦ Err (record { line = line; kind = UnfinishedSection }) ]

-- a body is read from time 0, with no dump section open
abbrev pub first_context : BodyContext
first_context = record { now = 0; dump_section = None }
