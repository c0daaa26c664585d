-- The result of reading a piece of a body.
use Rattle.std.specs.Prelude.{◌≡◌, ℕ, List, Option, None, Some, Result, Ok, Err}
use Rattle.vcd_read.specs.declared.fault.VcdFault.{VcdFault}
use Rattle.vme_trace.specs.Streams.{Reading}
use Rattle.vme_bind.specs.Binding.{BoundLines}
use Rattle.vme_bind.specs.TextReading.{reading_of_text}
use Rattle.vme_stream.specs.Inputs.{IsReading, longest_input}
use Rattle.vme_step_reader.specs.StepReading.{StepReading, whole_reading}
use Rattle.vme_dump_input.specs.DumpBeginnings.{HasFaultBefore, IsAtBody}
use Rattle.vme_dump_input.specs.BufferedInputs.{InputSoFar, IsAllOf, IsReadTo}

-- a body isn't read on: for `fault` of the dump, or, without one, for want of memory
abbrev pub FailsPiece : Reading → Reading → InputSoFar → Option VcdFault → Type 0
FailsPiece old now input None = (bytes : Option (List ℕ)) × IsReading old now bytes
FailsPiece old now input (Some fault) =
    (done : List ℕ) × IsReadTo old now done input × HasFaultBefore done input fault

-- after a piece the body is read on by `r`, or it isn't read on
abbrev pub ReadsPiece : BoundLines → Reading → Reading → InputSoFar → Result StepReading (Option VcdFault) → Type 0
ReadsPiece binding old now input (Ok r) = IsAtBody binding old now input r
ReadsPiece binding old now input (Err fault) = FailsPiece old now input fault

-- `bytes` are the last bytes of a body, and all of the dump was read
pub record IsAtEnd (binding : BoundLines) (old now : Reading) (bytes : List ℕ) (r : StepReading) : Type 0 where
  pub text : List ℕ
  pub all : IsAllOf old now text longest_input
  pub body : reading_of_text binding text ≡ Ok (whole_reading r bytes)
