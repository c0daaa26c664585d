-- Which faults are want of memory.
use Rattle.std.specs.Prelude.{Bool, true, false}
use Rattle.vcd_read.specs.Meaning.{is_want_of_memory}
use Rattle.vme_bind.specs.declared.fault.BindFaultKind.{BindFaultKind}
use Rattle.vme_bind.specs.declared.fault.BindFaultKind.TheVariants.{Memory}
use Rattle.vme_bind.specs.declared.fault.CaptureFault.{CaptureFault}
use Rattle.vme_bind.specs.declared.fault.CaptureFault.TheVariants.{Dump, Binding}

-- whether a fault of a binding is want of memory
abbrev is_binding_memory_fault : BindFaultKind → Bool
is_binding_memory_fault Memory = true
is_binding_memory_fault kind = false

-- whether a fault of a dump, or of the binding for it, is want of memory
abbrev pub is_memory_fault : CaptureFault → Bool
is_memory_fault (Dump fault) = is_want_of_memory fault.kind
is_memory_fault (Binding fault) = is_binding_memory_fault fault.kind
