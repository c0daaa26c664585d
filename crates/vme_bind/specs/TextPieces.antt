-- The recording that a binding makes of a dump that is read piece by piece.
use Rattle.std.specs.Prelude.{◌≡◌, ℕ, List, ◌++◌, Option, None, Some, Result, Ok, Err}
use Rattle.vme_trace.specs.Trace.{Trace}
use Rattle.vme_trace.specs.declared.step_visitor.StepVisitor.{Ghosts}
use Rattle.vcd_read.specs.Fronts.{IsMetAtTheEnd}
use Rattle.vcd_read.specs.Header.{◌>>=◌}
use Rattle.vcd_read.specs.Meaning.{instants_from}
use Rattle.vcd_read.specs.Sections.{Headed}
use Rattle.vcd_read.specs.Reached.{Reached, reached, rest_of}
use Rattle.vcd_read.specs.BodyFold.{at_end}
use Rattle.vcd_read.specs.Tokens.{Token, tokens, tokens_from}
use Rattle.vcd_read.specs.declared.fault.VcdFault.{VcdFault}
use Rattle.vme_bind.specs.declared.fault.BindFault.{BindFault}
use Rattle.vme_bind.specs.declared.fault.CaptureFault.{CaptureFault}
use Rattle.vme_bind.specs.declared.text_reader.TextReader.{TextReader}
use Rattle.vme_bind.specs.declared.fault.CaptureFault.TheVariants.{Dump, Binding}
use Rattle.vme_bind.specs.BuilderState.{BuilderState, builder_change, builder_instant}
use Rattle.vme_bind.specs.TextCapture.{CaptureFailsBy, body_recording, or_dump, recording_of_text}
use Rattle.vme_bind.specs.Binding.{BoundLines}
use Rattle.vme_bind.specs.declared.bound_groups.BoundGroup.{BoundGroup}

-- the result for a body by definition: its own fault, or else that of the binding, or else the recording
abbrev pub body_outcome : Option BindFault → ℕ → List BoundGroup → Headed → Result Trace CaptureFault
body_outcome None slots bound_groups h = body_recording slots bound_groups h
body_outcome (Some fault) slots bound_groups h = or_dump (instants_from h.nets h.body) >>= λ instants. Err
    (Binding fault)

-- the result for a body by what was made of it: its own fault, or else that of the binding, or else the recording
abbrev pub outcome : Option BindFault → Result BuilderState VcdFault → Result Trace CaptureFault
outcome None body = or_dump body >>= λ made. Ok made.recorded
outcome (Some fault) body = or_dump body >>= λ made. Err (Binding fault)

-- how far the recording of a dump is made: the fault of its binding, if it has one, and what is made of its body
pub record TextReached : Type 0 where
  pub fault : Option BindFault
  pub body : Reached BuilderState

-- how far a reader has made the recording
abbrev pub text_reached : {F : Type 0} {follows : Ghosts F} → TextReader F follows → TextReached
text_reached text = record { fault = text.fault; body = reached (λ made. made) text.body_reader }

-- the result for `tokens` and then `more`, from the state `t`
abbrev pub outcome_ahead : TextReached → List Token → List Token → Result Trace CaptureFault
outcome_ahead t tokens more = outcome t.fault (rest_of builder_change builder_instant t.body tokens more
    >>= at_end builder_instant)

-- the result for the bytes `piece` and then the tokens `more`, from the state of `text`
abbrev pub outcome_from : {F : Type 0} {follows : Ghosts F} → TextReader F follows → List ℕ → List Token
    → Result Trace CaptureFault
outcome_from text piece more =
    let reached = text_reached text in
    outcome_ahead reached (tokens_from reached.body.line piece) more

-- the result is a reader, whose `view` gives the result `before` for any `more`, or `before` gives this fault, unless
-- memory ran out
abbrev pub TextContinuesAs : {X Y : Type 0} → (X → List Token → Result Y CaptureFault) → Result X CaptureFault
    → (List Token → Result Y CaptureFault) → Type 0
TextContinuesAs view (Ok x) before = (more : List Token) → before more ≡ view x more
TextContinuesAs view (Err fault) before = (more : List Token) → CaptureFailsBy fault (before more)

-- What beginning a text with the prefix `front` answers. The reader that is begun gives the result of each text that
-- begins with `front`. If the visitor is handed back, the definitions don't end in `front`. A fault is the result of
-- each text that begins with `front`, unless memory ran out.
abbrev pub BeginsAs : {X Y Z : Type 0} → (List ℕ → Result Z CaptureFault) → (X → List Token → Result Z CaptureFault)
    → List ℕ → Result (Result X Y) CaptureFault → Type 0
BeginsAs comes_of view front (Ok (Ok begun)) = (whole : List ℕ) (more : List Token) → tokens whole
    ≡ tokens front ++ more → comes_of whole ≡ view begun more
BeginsAs comes_of view front (Ok (Err back)) = (fault : VcdFault) × (comes_of front ≡ Err (Dump fault))
    × IsMetAtTheEnd fault.kind
BeginsAs comes_of view front (Err fault) = (whole : List ℕ) (more : List Token) → tokens whole ≡ tokens front ++ more
    → CaptureFailsBy fault (comes_of whole)

-- the same of the recording that the binding `b` makes of a text
abbrev pub TextBeginsAs : {X Y : Type 0} → (X → List Token → Result Trace CaptureFault) → BoundLines → List ℕ
    → Result (Result X Y) CaptureFault → Type 0
TextBeginsAs view b front begun = BeginsAs (recording_of_text b) view front begun
