-- The refusals for the faults of the inputs.
use Rattle.vcd_read.specs.declared.fault.VcdFault.{VcdFault}
use Rattle.vcd_read.specs.declared.fault.FaultKind.{FaultKind}
use Rattle.vcd_read.specs.declared.fault.FaultKind.TheVariants as vcd
use Rattle.vme_bind.specs.declared.fault.BindFault.{BindFault}
use Rattle.vme_bind.specs.declared.fault.BindFaultKind.{BindFaultKind}
use Rattle.vme_bind.specs.declared.fault.BindFaultKind.TheVariants as bind
use Rattle.vme_bind.specs.declared.fault.CaptureFault.{CaptureFault}
use Rattle.vme_bind.specs.declared.fault.CaptureFault.TheVariants as capture
use Rattle.vme_listing.specs.declared.fault.ListFault.{ListFault}
use Rattle.vme_listing.specs.declared.fault.ListFault.TheVariants as list
use Rattle.vme_summary.specs.declared.stream_judge.NoVerdict.{NoVerdict}
use Rattle.vme_summary.specs.declared.stream_judge.NoVerdict.TheVariants as judge
use Rattle.vme_stream.specs.declared.input.InFault.{InFault}
use Rattle.vme_stream.specs.declared.input.InFault.TheVariants as read
use Rattle.vme_stream.specs.declared.refusal.Input.{Input}
use Rattle.vme_stream.specs.declared.refusal.Refusal.{Refusal}
use Rattle.vme_stream.specs.declared.refusal.Refusal.TheVariants.{CannotRead, TooLong, BadBinding, BadDump, BadListing}
use Rattle.vme_stream.specs.declared.refusal.Refusal.TheVariants.{TooManyBlocks, Memory}

-- the refusal for a fault in reading an input
abbrev pub input_refusal : Input → InFault → Refusal
input_refusal input read.Read = CannotRead input
input_refusal input read.TooLong = TooLong input
input_refusal input read.Memory = Memory

-- `refusal`, or `Memory` if the kind of the dump's fault is want of memory
abbrev pub dump_refusal_as : FaultKind → Refusal → Refusal
dump_refusal_as vcd.Memory refusal = Memory
dump_refusal_as kind refusal = refusal

-- the refusal for a fault of a dump
abbrev pub dump_refusal : VcdFault → Refusal
dump_refusal fault = dump_refusal_as fault.kind (BadDump fault)

-- `refusal`, or `Memory` if the kind of the binding's fault is want of memory
abbrev pub binding_refusal_as : BindFaultKind → Refusal → Refusal
binding_refusal_as bind.Memory refusal = Memory
binding_refusal_as kind refusal = refusal

-- the refusal for a fault of a binding
abbrev pub binding_refusal : BindFault → Refusal
binding_refusal fault = binding_refusal_as fault.kind (BadBinding fault)

-- the refusal for a fault of a dump or of a binding
abbrev pub capture_refusal : CaptureFault → Refusal
capture_refusal (capture.Dump fault) = dump_refusal fault
capture_refusal (capture.Binding fault) = binding_refusal fault

-- the refusal for a recording that isn't judged: too many steps are a fault of the binding, with line 0
abbrev pub judging_refusal : NoVerdict → Refusal
judging_refusal judge.TooManySteps = BadBinding (record { line = 0; kind = bind.TooManySteps })
judging_refusal judge.TooManyBlocks = TooManyBlocks
judging_refusal judge.Memory = Memory

-- the refusal for a fault of a listing
abbrev pub listing_refusal : ListFault → Refusal
listing_refusal list.Memory = Memory
listing_refusal fault = BadListing fault
