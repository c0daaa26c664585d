-- The definitions of a text, by a prefix of it.
use Rattle.std.specs.Prelude.{◌≡◌, ℕ, List, ◌++◌, Option, Some, None, Result, Ok, Err}
use Rattle.vcd_read.specs.declared.dump.Variable.{Variable}
use Rattle.vcd_read.specs.declared.fault.FaultKind.{FaultKind}
use Rattle.vcd_read.specs.declared.fault.FaultKind.TheVariants.{NoEndDefinitions, UnfinishedSection}
use Rattle.vcd_read.specs.declared.fault.VcdFault.{VcdFault}
use Rattle.vcd_read.specs.Tokens.{Token, tokens}
use Rattle.vcd_read.specs.Header.{Declared}
use Rattle.vcd_read.specs.Sections.{Headed, defined, header_of}
use Rattle.vcd_read.specs.Meaning.{ReadFails}

-- The header that a prefix has, the bytes after it, and the line that the prefix ends on.
pub record ReadFront : Type 0 where
  pub head : Headed
  pub left : List ℕ
  pub line : ℕ

-- the header of a text that continues with the tokens `more`
abbrev pub going_on : Headed → List Token → Headed
going_on head more = record head { body = head.body ++ more }

-- the fault says that the definitions don't end in the text
abbrev pub IsMetAtTheEnd : FaultKind → Type 0
IsMetAtTheEnd NoEndDefinitions = Unit {0}
IsMetAtTheEnd UnfinishedSection = Unit {0}
IsMetAtTheEnd kind = ⊥

module _ {V X : Type 0} (with_variable : V → Variable → V) (declared : Declared V) (front : List ℕ) (head : X → Headed)
    (taken : X → V) where
  -- the header or the fault that is found is that of each text that begins with `front`; `None` says that the
  -- definitions don't end in `front`
  abbrev pub HeaderContinuesAs : Result (Option X) VcdFault → Type 0
  HeaderContinuesAs (Ok (Some x)) = (text : List ℕ) (more : List Token)
      → header_of with_variable text declared (tokens front ++ more) ≡ Ok (defined (going_on (head x) more) (taken x))
  HeaderContinuesAs (Ok None) = (fault : VcdFault) × (header_of with_variable front declared (tokens front) ≡ Err fault)
      × IsMetAtTheEnd fault.kind
  HeaderContinuesAs (Err fault) = (text : List ℕ) (more : List Token)
      → ReadFails fault (header_of with_variable text declared (tokens front ++ more))
