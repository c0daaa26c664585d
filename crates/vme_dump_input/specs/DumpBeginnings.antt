-- The result of reading a dump piece by piece.
use Rattle.std.specs.Prelude.{◌≡◌, ℕ, ◌≤◌, List, [], ◌++◌, drop, length, Option, None, Some, Result, Ok, Err}
use Rattle.vcd_read.specs.Contents.{Contents}
use Rattle.vcd_read.specs.Meaning.{dump_of}
use Rattle.vcd_read.specs.declared.fault.FaultKind.{FaultKind}
use Rattle.vcd_read.specs.declared.fault.FaultKind.TheVariants as vcd
use Rattle.vcd_read.specs.declared.fault.VcdFault.{VcdFault}
use Rattle.vme_trace.specs.LineNumbers.{line_count}
use Rattle.vme_trace.specs.Streams.{Reading}
use Rattle.vme_trace.specs.WellFormed.{malformed_step}
use Rattle.vme_bind.specs.Binding.{BoundLines}
use Rattle.vme_bind.specs.Capture.{capture_of}
use Rattle.vme_bind.specs.TextReading.{reading_of_text}
use Rattle.vme_listing.specs.Reading.{IsFollowedBy}
use Rattle.vme_stream.specs.Inputs.{IsReading}
use Rattle.vme_stream.specs.Answers.{dump_read}
use Rattle.vme_stream.specs.declared.refusal.Refusal.{Refusal}
use Rattle.vme_stream.specs.declared.refusal.Refusal.TheVariants.{Memory}
use Rattle.vme_step_reader.specs.StepReading.{StepReading, whole_reading}
use Rattle.vme_dump_input.specs.BufferedInputs.{InputSoFar, IsReadTo}
use Rattle.vme_dump_input.specs.declared.definitions.DumpAfterDefinitions.{DumpAfterDefinitions}
use Rattle.vme_dump_input.specs.declared.definitions.DumpAfterDefinitions.TheVariants.{Body, Unusable}

-- the dump is refused for this, unless memory ran out
abbrev pub IsDumpRefused : Reading → Reading → Refusal → Type 0
IsDumpRefused old now Memory = (bytes : Option (List ℕ)) × IsReading old now bytes
IsDumpRefused old now refusal = (bytes : Option (List ℕ)) × IsReading old now bytes × (dump_read bytes ≡ Err refusal)

-- the dump was read, and has these contents
pub record IsReadDump (old now : Reading) (contents : Contents) : Type 0 where
  pub text : List ℕ
  pub reading : IsReading old now (Some text)
  pub is : dump_read (Some text) ≡ Ok contents

-- a text has this fault, unless memory ran out
abbrev pub HasFault : List ℕ → ℕ → FaultKind → Type 0
HasFault text line vcd.Memory = Unit {0}
HasFault text line kind = dump_of text ≡ Err (record { line = line; kind = kind })

-- each text that begins with the bytes that were taken and those that are held has this fault
abbrev pub HasFaultBefore : List ℕ → InputSoFar → VcdFault → Type 0
HasFaultBefore done input fault = (rest : List ℕ) → IsFollowedBy input.is_whole rest
    → HasFault (done ++ (input.held ++ rest)) fault.line fault.kind

-- the body of a dump was read up to the bytes that are held, and `r` reads on with these
pub record IsAtBody (binding : BoundLines) (old now : Reading) (input : InputSoFar) (r : StepReading) : Type 0 where
  pub done : List ℕ
  pub read : IsReadTo old now done input
  pub body : (rest : List ℕ) → IsFollowedBy input.is_whole rest
      → reading_of_text binding (done ++ (input.held ++ rest)) ≡ Ok (whole_reading r (input.held ++ rest))

-- no byte of a dump was taken: its definitions are the first `count` bytes of those that are held, and `r` reads on
-- after them
pub record IsAtDefinitions (binding : BoundLines) (old now : Reading) (input : InputSoFar) (r : StepReading) (count : ℕ)
    : Type 0 where
  pub read : IsReadTo old now [] input
  pub within : count ≤ length input.held
  pub body : (rest : List ℕ) → IsFollowedBy input.is_whole rest
      → reading_of_text binding (input.held ++ rest) ≡ Ok (whole_reading r (drop count input.held ++ rest))

-- whatever follows, all that is recorded is a well-formed recording of a backplane with at most 21 slots
pub record IsSound (r : StepReading) : Type 0 where
  pub few : r.given.opening.slots ≤ 21
  pub whole : length r.given.opening.levels ≡ line_count
  pub formed : (rest : List ℕ) → malformed_step (whole_reading r rest).recorded ≡ None

-- no step of a body was returned, and whatever follows, all that is recorded is well formed
pub record IsBodyUnread (r : StepReading) : Type 0 where
  pub none : r.given.steps ≡ []
  pub formed : (rest : List ℕ) → malformed_step (whole_reading r rest).recorded ≡ None

-- the body of the dump isn't read yet, or the binding can't be used on the dump
abbrev pub MayBeRead : DumpAfterDefinitions → Type 0
MayBeRead (Body r count) = IsBodyUnread r
MayBeRead (Unusable fault) = Unit {0}

-- `MayBeRead` of the dump, if its definitions were read
abbrev pub MayBeReadIfSome : Option DumpAfterDefinitions → Type 0
MayBeReadIfSome None = Unit {0}
MayBeReadIfSome (Some begun) = MayBeRead begun

-- the bytes of the definitions are held
abbrev pub HoldsDefinitions : InputSoFar → DumpAfterDefinitions → Type 0
HoldsDefinitions input (Body r count) = count ≤ length input.held
HoldsDefinitions input (Unusable fault) = Unit {0}

-- the bytes of the definitions are held, if they were read
abbrev pub HoldsDefinitionsIfSome : InputSoFar → Option DumpAfterDefinitions → Type 0
HoldsDefinitionsIfSome input None = Unit {0}
HoldsDefinitionsIfSome input (Some begun) = HoldsDefinitions input begun

-- the definitions of a dump were read; or the binding can't be used on it, and all of it was; or it is refused
abbrev pub BeginsDump : BoundLines → Reading → Reading → InputSoFar → Result DumpAfterDefinitions Refusal → Type 0
BeginsDump binding old now input (Ok (Body r count)) = IsAtDefinitions binding old now input r count
BeginsDump binding old now input (Ok (Unusable fault)) =
    (contents : Contents) × IsReadDump old now contents × (capture_of binding contents ≡ Err fault)
BeginsDump binding old now input (Err refusal) = IsDumpRefused old now refusal

-- as `BeginsDump`, or the definitions don't end in what is held, and nothing was read or taken
abbrev pub MayBegin : BoundLines → Reading → Reading → InputSoFar → InputSoFar
    → Result (Option DumpAfterDefinitions) Refusal → Type 0
MayBegin binding old now held input (Ok (Some begun)) = BeginsDump binding old now input (Ok begun)
MayBegin binding old now held input (Ok None) = (input ≡ held) × IsReadTo old now [] input
MayBegin binding old now held input (Err refusal) = IsDumpRefused old now refusal
