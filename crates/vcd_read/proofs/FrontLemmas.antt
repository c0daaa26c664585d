-- The header of a prefix of a text, and a fault in it that isn't met at its end, are those of the whole text.
use Rattle.std.proofs.Common.{◌≡◌, ℕ, Bool, true, false, List, [], ◌∷◌, ◌++◌, Result, Ok, Err, refl, subst}
use Rattle.vcd_read.specs.declared.dump.Variable.{Variable}
use Rattle.vcd_read.specs.declared.fault.FaultKind.{FaultKind}
use Rattle.vcd_read.specs.declared.fault.FaultKind.TheVariants.{Memory, NoEndDefinitions, UnfinishedSection}
use Rattle.vcd_read.specs.declared.fault.VcdFault.{VcdFault}
use Rattle.vcd_read.specs.Tokens.{Token}
use Rattle.vcd_read.specs.Header.{◌>>=◌, at_line, is_end, opens_section, ends_definitions, Section}
use Rattle.vcd_read.specs.Header.{Header, between, inside, opened, with_word, HeaderPlace, header_from}
use Rattle.vcd_read.specs.Header.{Declared, declare_all, declare_section}
use Rattle.vcd_read.specs.Sections.{Defined, defined, headed, header_of, rest_of_header}
use Rattle.vcd_read.specs.Meaning.{ReadFailsAs, body_of}
use Rattle.vcd_read.specs.Fronts.{going_on, IsMetAtTheEnd}
use Rattle.vcd_read.proofs.HeaderPlaces.{from_between, from_inside, from_section_end}

-- a fault stays, but for those that are met at the end of a text
StaysAs : {V : Type 0} → ℕ → FaultKind → Result (Defined V) VcdFault → Type 0
StaysAs line NoEndDefinitions longer = Unit {0}
StaysAs line UnfinishedSection longer = Unit {0}
StaysAs line kind longer = longer ≡ Err (record { line = line; kind = kind })

-- `longer` is the header with the tokens `more` after its body, or the same fault, unless that is met at the end
IsPrefixOf : {V : Type 0} → List Token → Result (Defined V) VcdFault → Result (Defined V) VcdFault → Type 0
IsPrefixOf more (Ok d) longer = longer ≡ Ok (defined (going_on d.head more) d.variables)
IsPrefixOf more (Err fault) longer = StaysAs fault.line fault.kind longer

module _ {V : Type 0} (with_variable : V → Variable → V) (text longer : List ℕ) (more : List Token) where
  -- what the header `h` gives in the prefix, after the declarations `d`
  abbrev read_short : Declared V → Header → Result (Defined V) VcdFault
  read_short d h = rest_of_header with_variable text d h

  -- what the header `h` gives in the longer text, after the declarations `d`
  abbrev read_longer : Declared V → Header → Result (Defined V) VcdFault
  read_longer d h = rest_of_header with_variable longer d h

  -- what the header `h` gives in the prefix holds in the longer text, of the header `h2`
  abbrev IsHeaderPrefix : Declared V → Header → Header → Type 0
  IsHeaderPrefix d h h2 = IsPrefixOf more (read_short d h) (read_longer d h2)

  -- a fault that is the same stays
  StaysAs-same : (line : ℕ) (kind : FaultKind) → StaysAs {V = V} line kind (Err (record { line = line; kind = kind }))
  unfolding StaysAs
  StaysAs-same line NoEndDefinitions = tt
  StaysAs-same line UnfinishedSection = tt
  StaysAs-same line kind = refl

  -- if the headers after a section are prefixes whatever it declares, they are so after it, or after its fault
  IsPrefixOf-section : (h h2 : Header) (r : Result (Declared V) VcdFault)
      → ((next : Declared V) → IsHeaderPrefix next h h2)
      → IsPrefixOf more ((r >>= λ next. declare_all with_variable next h.items) >>= λ declared. body_of text h.body >>=
      λ body. Ok (headed declared body))
      ((r >>= λ next. declare_all with_variable next h2.items) >>= λ declared. body_of longer h2.body >>= λ body. Ok
      (headed declared body))
  unfolding IsPrefixOf
  IsPrefixOf-section h h2 (Ok next) both = both next
  IsPrefixOf-section h h2 (Err fault) both = StaysAs-same fault.line fault.kind

  -- `IsHeaderPrefix` holds at the end of a section, which ends the definitions if `test` holds, if it holds between
  -- sections after it
  IsHeaderPrefix-section_end : (section : Section) (ts : List Token) (d : Declared V) (test : Bool)
      → ((next : Declared V) → IsHeaderPrefix next (header_from between ts) (header_from between (ts ++ more)))
      → IsHeaderPrefix d (from_section_end section ts test) (from_section_end section (ts ++ more) test)
  unfolding IsPrefixOf declare_all
  IsHeaderPrefix-section_end section ts d true both = refl
  IsHeaderPrefix-section_end section ts d false both = IsPrefixOf-section (header_from between ts)
      (header_from between (ts ++ more))
      (at_line section.line (declare_section with_variable d section)) both

  -- `IsHeaderPrefix` holds at a token in a section, which is its end if `end` holds, if it holds after that token
  IsHeaderPrefix-inside : (section : Section) (t : Token) (ts : List Token) (d : Declared V) (end : Bool)
      → ((next : Declared V) → IsHeaderPrefix next (header_from between ts) (header_from between (ts ++ more)))
      → IsHeaderPrefix d (header_from (inside (with_word section t.bytes)) ts)
      (header_from (inside (with_word section t.bytes)) (ts ++ more))
      → IsHeaderPrefix d (from_inside section t ts end) (from_inside section t (ts ++ more) end)
  IsHeaderPrefix-inside section t ts d true both goes_on = IsHeaderPrefix-section_end section ts d
      (ends_definitions section) both
  IsHeaderPrefix-inside section t ts d false both goes_on = goes_on

  -- `IsHeaderPrefix` holds at a token between sections, which opens one if `opens` holds, if it holds after that token
  IsHeaderPrefix-between : (t : Token) (ts : List Token) (d : Declared V) (opens : Bool)
      → IsHeaderPrefix d (header_from (inside (opened t)) ts) (header_from (inside (opened t)) (ts ++ more))
      → IsHeaderPrefix d (from_between t ts opens) (from_between t (ts ++ more) opens)
  unfolding IsPrefixOf StaysAs declare_all
  IsHeaderPrefix-between t ts d true goes_on = goes_on
  IsHeaderPrefix-between t ts d false goes_on = refl

  -- from any place in the definitions on, what tokens give holds with `more` after them
  IsHeaderPrefix-header_from : (ts : List Token) (place : HeaderPlace) (d : Declared V)
      → IsHeaderPrefix d (header_from place ts)
      (header_from place (ts ++ more))
  unfolding IsPrefixOf StaysAs header_from declare_all
  IsHeaderPrefix-header_from [] between d = tt
  IsHeaderPrefix-header_from [] (inside section) d = tt
  IsHeaderPrefix-header_from (t ∷ ts) between d = IsHeaderPrefix-between t ts d (opens_section t.bytes)
      (IsHeaderPrefix-header_from ts (inside (opened t)) d)
  IsHeaderPrefix-header_from (t ∷ ts) (inside section) d = IsHeaderPrefix-inside section t ts d (is_end t.bytes)
      (λ next. IsHeaderPrefix-header_from ts between next)
      (IsHeaderPrefix-header_from ts (inside (with_word section t.bytes)) d)

  -- definitions that are found in a text are those of every text that begins with it
  pub header_of-longer : (d : Declared V) (ts : List Token) (found : Defined V) → header_of with_variable text d ts
      ≡ Ok found
      → header_of with_variable longer d (ts ++ more) ≡ Ok (defined (going_on found.head more) found.variables)
  unfolding IsPrefixOf
  header_of-longer d ts found is = subst (λ (r : Result (Defined V) VcdFault). IsPrefixOf more r
      (header_of with_variable longer d (ts ++ more))) is (IsHeaderPrefix-header_from ts between d)

  -- a fault that isn't met at the end of a text is that of every text that begins with it
  pub ReadFailsAs-longer : (d : Declared V) (ts : List Token) (line : ℕ) (kind : FaultKind) → (IsMetAtTheEnd kind → ⊥)
      → ReadFailsAs line kind (header_of with_variable text d ts)
      → ReadFailsAs line kind (header_of with_variable longer d (ts ++ more))
  unfolding IsPrefixOf StaysAs
  ReadFailsAs-longer d ts line Memory other fails = fails
  ReadFailsAs-longer d ts line NoEndDefinitions other fails = absurd (other tt)
  ReadFailsAs-longer d ts line UnfinishedSection other fails = absurd (other tt)
  ReadFailsAs-longer d ts line kind other fails = subst (λ (r : Result (Defined V) VcdFault). IsPrefixOf more r
      (header_of with_variable longer d (ts ++ more))) fails (IsHeaderPrefix-header_from ts between d)

-- a fault of another kind than these two isn't one of the end of a text
pub IsMetAtTheEnd-others : (kind : FaultKind) → (kind ≡ UnfinishedSection → ⊥) → (kind ≡ NoEndDefinitions → ⊥)
    → IsMetAtTheEnd kind → ⊥
IsMetAtTheEnd-others NoEndDefinitions section definitions met = definitions refl
IsMetAtTheEnd-others UnfinishedSection section definitions met = section refl
IsMetAtTheEnd-others kind section definitions met = met
