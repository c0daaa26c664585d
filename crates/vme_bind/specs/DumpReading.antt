-- The result of a dump that is read as its text comes.
use Rattle.std.specs.Prelude.{ℕ, List, [], Result, Err}
use Rattle.vme_trace.specs.Trace.{Trace}
use Rattle.vme_trace.specs.declared.step_visitor.StepVisitor.{Ghosts}
use Rattle.vcd_read.specs.Tokens.{tokens_from}
use Rattle.vme_bind.specs.TextCapture.{recording_of_text}
use Rattle.vme_bind.specs.TextPieces.{outcome_ahead, text_reached}
use Rattle.vme_bind.specs.declared.fault.CaptureFault.{CaptureFault}
use Rattle.vme_bind.specs.declared.dump_reader.DumpReader.{DumpReader}
use Rattle.vme_bind.specs.declared.dump_reader.DumpReader.TheVariants.{Definitions, Body, Failed}

-- the recording of a dump in this state of reading, whose text continues with `rest`, or the first fault
abbrev pub dump_ahead : {F : Type 0} {follows : Ghosts F} → DumpReader F follows → List ℕ → Result Trace CaptureFault
dump_ahead (Definitions bound visitor) rest = recording_of_text bound.now rest
dump_ahead (Body text) rest = outcome_ahead (text_reached text) (tokens_from (text_reached text).body.line rest) []
dump_ahead (Failed first) rest = Err first.fault
