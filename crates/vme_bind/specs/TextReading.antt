-- The result of reading the text of a dump by a binding, also where the text has a fault.
use Rattle.std.specs.Prelude.{◌≡◌, ℕ, ◌-◌, List, [], length, Option, None, Some, Result, Ok, Err}
use Rattle.vme_trace.specs.Followed.{with_steps}
use Rattle.vme_trace.specs.Trace.{Trace}
use Rattle.vme_trace.specs.declared.step_visitor.StepVisitor.{Ghosts}
use Rattle.vcd_read.specs.Bodies.{UntilFault}
use Rattle.vcd_read.specs.Header.{◌>>=◌, appended, nothing_declared}
use Rattle.vcd_read.specs.Meaning.{instants_before_fault, instants_from, last_time_before_fault}
use Rattle.vcd_read.specs.Reached.{rest_until_fault}
use Rattle.vcd_read.specs.Sections.{Defined, Headed, header_of}
use Rattle.vcd_read.specs.BodyFold.{at_end}
use Rattle.vcd_read.specs.Tokens.{Token, tokens, tokens_from}
use Rattle.vcd_read.specs.declared.dump.Instant.{Instant}
use Rattle.vcd_read.specs.declared.dump.Variable.{Variable}
use Rattle.vcd_read.specs.declared.fault.FaultKind.{FaultKind}
use Rattle.vcd_read.specs.declared.fault.FaultKind.TheVariants.{Memory}
use Rattle.vcd_read.specs.declared.fault.VcdFault.{VcdFault}
use Rattle.vcd_read.specs.declared.stopped.Stopped.{Stopped}
use Rattle.vme_bind.specs.declared.bound_groups.BoundGroup.{BoundGroup}
use Rattle.vme_bind.specs.declared.fault.BindFault.{BindFault}
use Rattle.vme_bind.specs.declared.fault.CaptureFault.{CaptureFault}
use Rattle.vme_bind.specs.declared.fault.CaptureFault.TheVariants.{Binding}
use Rattle.vme_bind.specs.Binding.{BoundLines}
use Rattle.vme_bind.specs.BoundGroups.{bound_groups_in}
use Rattle.vme_bind.specs.Capture.{recording}
use Rattle.vme_bind.specs.BuilderState.{BuilderState, builder_change, builder_instant}
use Rattle.vme_bind.specs.TextCapture.{or_binding, or_dump}
use Rattle.vme_bind.specs.TextPieces.{TextReached, text_reached}
use Rattle.vme_bind.specs.declared.text_reader.TextReader.{TextReader}

-- The recording of the instants of a body that are complete, the first fault of the body, if it has one, and the last
-- time in the body before that fault or its end: 0 where there is none.
pub record TextReading : Type 0 where
  pub recorded : Trace
  pub fault : Option VcdFault
  pub time : ℕ

-- without a fault all instants are complete; with one, those before it are, except the last, which no later time
-- follows
abbrev pub reading_by : ℕ → List BoundGroup → Headed → Result (List Instant) VcdFault → TextReading
reading_by slots bound_groups h (Ok instants) =
    record {
      recorded = recording slots bound_groups instants (length instants);
      fault = None;
      time = last_time_before_fault h.nets h.body;
    }
reading_by slots bound_groups h (Err fault) =
    let instants = instants_before_fault h.nets h.body in
    record {
      recorded = recording slots bound_groups instants (length instants - 1);
      fault = Some fault;
      time = last_time_before_fault h.nets h.body;
    }

-- the reading of the body after the definitions `h`
abbrev pub body_reading : ℕ → List BoundGroup → Headed → TextReading
body_reading slots bound_groups h = reading_by slots bound_groups h (instants_from h.nets h.body)

-- the result for the body after the definitions `d`: a fault of the binding comes before the reading
abbrev pub reading_after : BoundLines → Defined (List Variable) → Result TextReading CaptureFault
reading_after b d = or_binding (bound_groups_in d.variables b.assignments) >>= λ bound_groups. Ok
    (body_reading b.slots bound_groups d.head)

-- the result for a whole text: a fault of its definitions comes first
unfoldable pub reading_of_text : BoundLines → List ℕ → Result TextReading CaptureFault
reading_of_text b text = or_dump (header_of appended text (nothing_declared []) (tokens text)) >>= reading_after b

-- ---- the reading, as it is made

-- the reading of a body, where `complete` is recorded of the instants that a later time follows, and `time` is the last
-- time
abbrev pub reading_made : Trace → ℕ → Result BuilderState VcdFault → TextReading
reading_made complete time (Ok made) = record { recorded = made.recorded; fault = None; time = time }
reading_made complete time (Err fault) = record { recorded = complete; fault = Some fault; time = time }

-- the reading of a body, from the result of its items up to the first fault
abbrev pub reading_until_fault : UntilFault BuilderState → TextReading
reading_until_fault read = reading_made read.reached.progress.accumulator.recorded read.reached.progress.time
    (read.outcome >>= at_end builder_instant)

-- the reading of `tokens` and then `more`, from the state `t`
abbrev pub reading_ahead : TextReached → List Token → List Token → TextReading
reading_ahead t tokens more = reading_until_fault (rest_until_fault builder_change builder_instant t.body tokens more)

-- the fault of the binding, if it has one, or else `reading`
abbrev pub or_fault : Option BindFault → TextReading → Result TextReading CaptureFault
or_fault None reading = Ok reading
or_fault (Some fault) reading = Err (Binding fault)

-- the reading of the bytes `piece` and then the tokens `more`, from the state of `text`, or the fault of the binding
abbrev pub reading_from : {F : Type 0} {follows : Ghosts F} → TextReader F follows → List ℕ → List Token
    → Result TextReading CaptureFault
reading_from text piece more =
    let reached = text_reached text in
    or_fault reached.fault (reading_ahead reached (tokens_from reached.body.line piece) more)

-- `reading` with the recording `t` before its steps
abbrev pub following : Trace → TextReading → TextReading
following t reading = record reading { recorded = with_steps t reading.recorded.steps }

-- ---- what a reader answers

-- `reading` has this first fault, `recorded` before it and `time` as the last time, unless memory ran out
abbrev pub StopsAs : ℕ → FaultKind → Trace → ℕ → TextReading → Type 0
StopsAs line Memory recorded time reading = line ≡ 0
StopsAs line kind recorded time reading =
    reading ≡ record { recorded = recorded; fault = Some (record { line = line; kind = kind }); time = time }

-- the reading stops with the fault of `stopped`, and the visitor has recorded what is complete before it, unless memory
-- ran out
abbrev pub IsStopped : {F : Type 0} → (F → Trace) → Stopped F → TextReading → Type 0
IsStopped recorded stopped reading = StopsAs stopped.fault.line stopped.fault.kind (recorded stopped.visitor)
    stopped.time reading

-- the result is a reader, whose `view` gives the reading `before` for any `more`, or that reading stops as `stopped`
-- says
abbrev pub ReadingContinuesAs : {F X : Type 0} → (X → List Token → TextReading) → (F → Trace) → Result X (Stopped F)
    → (List Token → TextReading) → Type 0
ReadingContinuesAs view recorded (Ok x) before = (more : List Token) → before more ≡ view x more
ReadingContinuesAs view recorded (Err stopped) before = (more : List Token) → IsStopped recorded stopped (before more)

-- the result at the end of a text: `reading` has no fault, what the visitor recorded, and `time` as the last time, or
-- it stops as `stopped` says
abbrev pub ReadingEndsAs : {F : Type 0} → (F → Trace) → ℕ → Result F (Stopped F) → TextReading → Type 0
ReadingEndsAs recorded time (Ok visitor) reading =
    reading ≡ record { recorded = recorded visitor; fault = None; time = time }
ReadingEndsAs recorded time (Err stopped) reading = IsStopped recorded stopped reading
