-- The lines that the program writes, in ASCII and without their line feeds, and its exit status.
use Rattle.std.specs.Prelude.{ℕ, List, [], ◌∷◌, ◌++◌, codes, decimal}
use Rattle.vme_trace.specs.Rules.{rule_name}
use Rattle.vme_trace.specs.Names.{line_name}
use Rattle.vme_trace.specs.declared.verdict.Break.{Break}
use Rattle.vme_trace.specs.declared.verdict.Verdict.{Verdict}
use Rattle.vme_trace.specs.declared.verdict.Verdict.TheVariants.{Conforming, Broken, Unreadable, NeverIdle}
use Rattle.vcd_read.specs.declared.fault.FaultKind.{FaultKind}
use Rattle.vcd_read.specs.declared.fault.FaultKind.TheVariants as vcd
use Rattle.vme_bind.specs.declared.fault.BindFaultKind.{BindFaultKind}
use Rattle.vme_bind.specs.declared.fault.BindFaultKind.TheVariants as bind
use Rattle.vme_listing.specs.declared.fault.ListFault.{ListFault}
use Rattle.vme_listing.specs.declared.fault.ListFault.TheVariants as list
use Rattle.vme_stream.specs.declared.refusal.Input.{Input}
use Rattle.vme_stream.specs.declared.refusal.Input.TheVariants.{Binding, Dump, Listing}
use Rattle.vme_stream.specs.declared.refusal.Refusal.{Refusal}
use Rattle.vme_stream.specs.declared.refusal.Refusal.TheVariants.{CannotOpen, CannotRead, TooLong, BadBinding, BadDump}
use Rattle.vme_stream.specs.declared.refusal.Refusal.TheVariants.{BadListing, TooManyBlocks, Memory}

-- the text with a line feed after it
abbrev pub line_of : List ℕ → List ℕ
line_of text = text ++ 10 ∷ []

-- the verdict can't be written
abbrev pub cannot_write_text : List ℕ
cannot_write_text = codes "vmecheck: cannot write"

-- ---- verdicts

-- what is broken, when, and on which line
abbrev pub break_text : List ℕ → Break → List ℕ
break_text head b =
    head ++ rule_name b.rule ++ codes " at instant " ++ decimal b.instant ++ codes " time " ++ decimal b.time
    ++ codes " line " ++ line_name b.line

-- the text of a verdict
abbrev pub verdict_text : Verdict → List ℕ
verdict_text Conforming = codes "conforming"
verdict_text (Broken b) = break_text (codes "broken ") b
verdict_text (Unreadable b) = break_text (codes "unreadable ") b
verdict_text NeverIdle = codes "never idle"

-- the exit status of a verdict
abbrev pub verdict_status : Verdict → ℕ
verdict_status Conforming = 0
verdict_status (Broken b) = 1
verdict_status (Unreadable b) = 2
verdict_status NeverIdle = 2

-- ---- refusals

-- the name of an input in messages
abbrev pub input_name : Input → List ℕ
input_name Binding = codes "binding"
input_name Dump = codes "dump"
input_name Listing = codes "listing"

-- the name of a fault of a dump
abbrev pub dump_fault_name : FaultKind → List ℕ
dump_fault_name vcd.BadToken = codes "BadToken"
dump_fault_name vcd.UnfinishedSection = codes "UnfinishedSection"
dump_fault_name vcd.BadVar = codes "BadVar"
dump_fault_name vcd.ScopeUnderflow = codes "ScopeUnderflow"
dump_fault_name vcd.NoEndDefinitions = codes "NoEndDefinitions"
dump_fault_name vcd.UndeclaredCode = codes "UndeclaredCode"
dump_fault_name vcd.TooWide = codes "TooWide"
dump_fault_name vcd.SizeConflict = codes "SizeConflict"
dump_fault_name vcd.TimeBackwards = codes "TimeBackwards"
dump_fault_name vcd.NumberTooLarge = codes "NumberTooLarge"
dump_fault_name vcd.Memory = codes "Memory"

-- the text of a fault of a dump on this line
abbrev pub dump_fault_text : ℕ → FaultKind → List ℕ
dump_fault_text line kind = codes "vmecheck: dump line " ++ decimal line ++ codes ": " ++ dump_fault_name kind

-- the name of a fault of the binding, after the text `head`
abbrev pub binding_fault_after : List ℕ → BindFaultKind → List ℕ
binding_fault_after head bind.BadLine = head ++ codes "BadLine"
binding_fault_after head bind.SlotsFirst = head ++ codes "SlotsFirst"
binding_fault_after head bind.UnknownName = head ++ codes "UnknownName"
binding_fault_after head bind.NamedTwice = head ++ codes "NamedTwice"
binding_fault_after head (bind.Unbound l) = head ++ codes "Unbound " ++ line_name l
binding_fault_after head bind.Memory = head ++ codes "Memory"
binding_fault_after head bind.NoSuchPath = head ++ codes "NoSuchPath"
binding_fault_after head bind.AmbiguousPath = head ++ codes "AmbiguousPath"
binding_fault_after head bind.WrongWidth = head ++ codes "WrongWidth"
binding_fault_after head bind.TooManySteps = head ++ codes "TooManySteps"

-- the text of a fault of a binding on this line
abbrev pub binding_fault_text : ℕ → BindFaultKind → List ℕ
binding_fault_text line kind = binding_fault_after (codes "vmecheck: binding line " ++ decimal line ++ codes ": ") kind

-- the text of a fault of a listing
abbrev pub listing_fault_text : ListFault → List ℕ
listing_fault_text list.BadHeader = codes "vmecheck: listing header"
listing_fault_text (list.BadRow row) = codes "vmecheck: listing row " ++ decimal row ++ codes ": BadRow"
listing_fault_text (list.Unsorted row) = codes "vmecheck: listing row " ++ decimal row ++ codes ": Unsorted"
listing_fault_text list.Memory = codes "vmecheck: out of memory"

-- the text of a refusal
abbrev pub refusal_text : Refusal → List ℕ
refusal_text (CannotOpen input) = codes "vmecheck: cannot open " ++ input_name input
refusal_text (CannotRead input) = codes "vmecheck: cannot read " ++ input_name input
refusal_text (TooLong input) = codes "vmecheck: " ++ input_name input ++ codes " too long"
refusal_text (BadBinding fault) = binding_fault_text fault.line fault.kind
refusal_text (BadDump fault) = dump_fault_text fault.line fault.kind
refusal_text (BadListing fault) = listing_fault_text fault
refusal_text TooManyBlocks = codes "vmecheck: too many blocks"
refusal_text Memory = codes "vmecheck: out of memory"

-- the exit status of a refusal
abbrev pub refusal_status : Refusal → ℕ
refusal_status Memory = 4
refusal_status refusal = 3
