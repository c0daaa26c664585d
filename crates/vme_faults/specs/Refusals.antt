-- The kind of a refusal.
use Rattle.vcd_read.specs.declared.fault.FaultKind.{FaultKind}
use Rattle.vcd_read.specs.declared.fault.FaultKind.TheVariants as vcd
use Rattle.vme_bind.specs.declared.fault.BindFaultKind.{BindFaultKind}
use Rattle.vme_bind.specs.declared.fault.BindFaultKind.TheVariants as bind
use Rattle.vme_listing.specs.declared.fault.ListFault.{ListFault}
use Rattle.vme_listing.specs.declared.fault.ListFault.TheVariants as list
use Rattle.vme_stream.specs.declared.refusal.Refusal.{Refusal}
use Rattle.vme_stream.specs.declared.refusal.Refusal.TheVariants as refusal
use Rattle.vme_faults.specs.declared.refusal_kind.RefusalKind.{RefusalKind}
use Rattle.vme_faults.specs.declared.refusal_kind.RefusalKind.TheVariants as kind

-- the kind of a fault of a dump
abbrev pub dump_kind : FaultKind → RefusalKind
dump_kind vcd.BadToken = kind.BadToken
dump_kind vcd.UnfinishedSection = kind.UnfinishedSection
dump_kind vcd.BadVar = kind.BadVar
dump_kind vcd.ScopeUnderflow = kind.ScopeUnderflow
dump_kind vcd.NoEndDefinitions = kind.NoEndDefinitions
dump_kind vcd.UndeclaredCode = kind.UndeclaredCode
dump_kind vcd.TooWide = kind.TooWide
dump_kind vcd.SizeConflict = kind.SizeConflict
dump_kind vcd.TimeBackwards = kind.TimeBackwards
dump_kind vcd.NumberTooLarge = kind.NumberTooLarge
dump_kind vcd.Memory = kind.OutOfMemory

-- the kind of a fault of a binding
abbrev pub binding_kind : BindFaultKind → RefusalKind
binding_kind bind.BadLine = kind.BadLine
binding_kind bind.SlotsFirst = kind.SlotsFirst
binding_kind bind.UnknownName = kind.UnknownName
binding_kind bind.NamedTwice = kind.NamedTwice
binding_kind (bind.Unbound l) = kind.Unbound
binding_kind bind.Memory = kind.OutOfMemory
binding_kind bind.NoSuchPath = kind.NoSuchPath
binding_kind bind.AmbiguousPath = kind.AmbiguousPath
binding_kind bind.WrongWidth = kind.WrongWidth
binding_kind bind.TooManySteps = kind.TooManySteps

-- the kind of a fault of a listing
abbrev pub listing_kind : ListFault → RefusalKind
listing_kind list.BadHeader = kind.BadHeader
listing_kind (list.BadRow row) = kind.BadRow
listing_kind (list.Unsorted row) = kind.Unsorted
listing_kind list.Memory = kind.OutOfMemory

-- the kind of a refusal
abbrev pub kind_of : Refusal → RefusalKind
kind_of (refusal.CannotOpen input) = kind.CannotOpen
kind_of (refusal.CannotRead input) = kind.CannotRead
kind_of (refusal.TooLong input) = kind.TooLong
kind_of (refusal.BadBinding fault) = binding_kind fault.kind
kind_of (refusal.BadDump fault) = dump_kind fault.kind
kind_of (refusal.BadListing fault) = listing_kind fault
kind_of refusal.TooManyBlocks = kind.TooManyBlocks
kind_of refusal.Memory = kind.OutOfMemory
