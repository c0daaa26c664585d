-- The recording that a binding makes of the text of a dump.
use Rattle.std.specs.Prelude.{◌≡◌, ℕ, List, length, Result, Ok, Err}
use Rattle.vme_trace.specs.Trace.{Trace}
use Rattle.vcd_read.specs.Contents.{Contents}
use Rattle.vcd_read.specs.Header.{◌>>=◌}
use Rattle.vcd_read.specs.declared.dump.Variable.{Variable}
use Rattle.vcd_read.specs.Sections.{Headed, Defined}
use Rattle.vcd_read.specs.Meaning.{dump_of, instants_from}
use Rattle.vcd_read.specs.declared.fault.VcdFault.{VcdFault}
use Rattle.vcd_read.specs.declared.fault.FaultKind.{FaultKind}
use Rattle.vcd_read.specs.declared.fault.FaultKind.TheVariants.{Memory}
use Rattle.vme_bind.specs.declared.fault.BindFault.{BindFault}
use Rattle.vme_bind.specs.declared.fault.BindFaultKind.{BindFaultKind}
use Rattle.vme_bind.specs.declared.fault.BindFaultKind.TheVariants.{Memory as NoMemory}
use Rattle.vme_bind.specs.declared.fault.CaptureFault.{CaptureFault}
use Rattle.vme_bind.specs.declared.fault.CaptureFault.TheVariants.{Dump, Binding}
use Rattle.vme_bind.specs.Binding.{BoundLines}
use Rattle.vme_bind.specs.declared.bound_groups.BoundGroup.{BoundGroup}
use Rattle.vme_bind.specs.Capture.{recording, recording_of, capture_of}

-- an error is a fault of the binding
abbrev pub or_binding : {A : Type 0} → Result A BindFault → Result A CaptureFault
or_binding (Ok x) = Ok x
or_binding (Err fault) = Err (Binding fault)

-- an error is a fault of the dump
abbrev pub or_dump : {A : Type 0} → Result A VcdFault → Result A CaptureFault
or_dump (Ok x) = Ok x
or_dump (Err fault) = Err (Dump fault)

-- the recording that `bound_groups` make of the body after the definitions `h`
abbrev pub body_recording : ℕ → List BoundGroup → Headed → Result Trace CaptureFault
body_recording slots bound_groups h = or_dump (instants_from h.nets h.body)
    >>= λ instants. Ok (recording slots bound_groups instants (length instants))

-- the recording that a binding makes of the result of reading a dump, within the limit: a fault of the dump comes first
abbrev pub capture_read : BoundLines → Result Contents VcdFault → Result Trace CaptureFault
capture_read b (Ok dump) = or_binding (capture_of b dump)
capture_read b (Err fault) = Err (Dump fault)

-- the recording that a binding makes of the result of reading a dump, however long it is
abbrev pub recording_read : BoundLines → Result Contents VcdFault → Result Trace CaptureFault
recording_read b (Ok dump) = or_binding (recording_of b dump)
recording_read b (Err fault) = Err (Dump fault)

-- the recording that a binding makes of the body after the definitions `d`, however long it is
abbrev pub recording_after : BoundLines → Defined (List Variable) → Result Trace CaptureFault
recording_after b d = recording_read b (instants_from d.head.nets d.head.body
    >>= λ instants. Ok (record { variables = d.variables; instants = instants }))

-- the recording that a binding makes of the dump `text`, however long it is, or else the first fault
unfoldable pub recording_of_text : BoundLines → List ℕ → Result Trace CaptureFault
recording_of_text b text = recording_read b (dump_of text)

-- the recording that a binding makes of the dump `text`, if it isn't too long, or else the first fault
unfoldable pub capture_of_text : BoundLines → List ℕ → Result Trace CaptureFault
capture_of_text b text = capture_read b (dump_of text)

-- `answer` is a fault of the dump of this kind at this line; want of memory is at line 0
abbrev pub DumpFails : {Y : Type 0} → ℕ → FaultKind → Result Y CaptureFault → Type 0
DumpFails line Memory answer = line ≡ 0
DumpFails line kind answer = answer ≡ Err (Dump (record { line = line; kind = kind }))

-- `answer` is a fault of the binding of this kind at this line; want of memory is at line 0
abbrev pub BindingFails : {Y : Type 0} → ℕ → BindFaultKind → Result Y CaptureFault → Type 0
BindingFails line NoMemory answer = line ≡ 0
BindingFails line kind answer = answer ≡ Err (Binding (record { line = line; kind = kind }))

-- `answer` is this fault, unless it is want of memory, which is at line 0
abbrev pub CaptureFailsBy : {Y : Type 0} → CaptureFault → Result Y CaptureFault → Type 0
CaptureFailsBy (Dump fault) answer = DumpFails fault.line fault.kind answer
CaptureFailsBy (Binding fault) answer = BindingFails fault.line fault.kind answer

-- what a function returned agrees with `answer`: its value, seen by `view`, or its fault, unless memory ran out
abbrev pub GivesBy : {X Y : Type 0} → (X → Y) → Result X CaptureFault → Result Y CaptureFault → Type 0
GivesBy view (Ok x) answer = answer ≡ Ok (view x)
GivesBy view (Err fault) answer = CaptureFailsBy fault answer

-- a fault of a binding, i.e. any but want of memory
abbrev pub IsOfBinding : BindFault → Type 0
IsOfBinding fault = fault.kind ≡ NoMemory → ⊥
