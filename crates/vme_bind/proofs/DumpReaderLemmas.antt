-- Feeding the text of a dump to a reader piece by piece gives the result of the whole text, or its first fault.
use Rattle.std.proofs.Common.{◌≡◌, ℕ, false, List, [], ◌++◌, Result, Err, sym, ap, ◌∙◌, append-nil}
use Rattle.vme_trace.specs.Trace.{Trace}
use Rattle.vcd_read.specs.Header.{◌>>=◌}
use Rattle.vcd_read.specs.Body.{body_from}
use Rattle.vcd_read.specs.Reading.{EndsBetweenTokens, line_behind}
use Rattle.vcd_read.specs.BodyFold.{at_end, state_at, steps}
use Rattle.vcd_read.specs.Tokens.{Token, tokens, tokens_from}
use Rattle.vcd_read.specs.declared.fault.FaultKind.{FaultKind}
use Rattle.vcd_read.specs.declared.fault.FaultKind.TheVariants.{Memory}
use Rattle.vme_bind.specs.declared.fault.BindFaultKind.{BindFaultKind}
use Rattle.vme_bind.specs.declared.fault.BindFaultKind.TheVariants.{Memory as NoMemory}
use Rattle.vme_bind.specs.declared.fault.CaptureFault.{CaptureFault}
use Rattle.vme_bind.specs.declared.fault.CaptureFault.TheVariants.{Dump, Binding}
use Rattle.vme_bind.specs.Binding.{BoundLines}
use Rattle.vme_bind.specs.BuilderState.{builder_change, builder_instant}
use Rattle.vme_bind.specs.TextCapture.{BindingFails, DumpFails, CaptureFailsBy, recording_of_text}
use Rattle.vme_bind.specs.TextPieces.{TextReached, outcome, outcome_ahead}
use Rattle.vme_bind.specs.Wants.{is_memory_fault}

module _ (t : TextReached) where
  -- the result for the tokens `ts`
  abbrev outcome_of_tokens : List Token → Result Trace CaptureFault
  outcome_of_tokens ts = outcome t.fault (steps builder_change builder_instant t.body.nets
      (state_at t.body.progress t.body.dump_section)
      (body_from t.body.place ts) >>= at_end builder_instant)

  -- tokens that are still to come may be read at once
  outcome_ahead-later : (more : List Token) → outcome_ahead t [] more ≡ outcome_ahead t more []
  outcome_ahead-later more = ap outcome_of_tokens (sym (append-nil more))

  -- tokens may be read in two parts
  outcome_ahead-parts : (ts front more : List Token) → ts ≡ front ++ more → outcome_ahead t ts []
      ≡ outcome_ahead t front more
  outcome_ahead-parts ts front more e = ap outcome_of_tokens (append-nil ts ∙ e)

  -- the rest of a text may be read at once, from its line on
  outcome_ahead-line : (line line2 : ℕ) (rest : List ℕ) → line2 ≡ line → outcome_ahead t [] (tokens_from line rest)
      ≡ outcome_ahead t (tokens_from line2 rest) []
  outcome_ahead-line line line2 rest e = outcome_ahead-later (tokens_from line rest)
      ∙ ap (λ (l : ℕ). outcome_ahead t (tokens_from l rest) []) (sym e)

  -- where the prefix `front` begins the body, the result for the text is that for the rest
  pub recording_of_text-begun : (b : BoundLines) (front : List ℕ) (line : ℕ) → line ≡ line_behind 1 front
      → EndsBetweenTokens front
      → ((whole : List ℕ) (more : List Token) → tokens whole ≡ tokens front ++ more → recording_of_text b whole
      ≡ outcome_ahead t [] more)
      → (rest : List ℕ) → recording_of_text b (front ++ rest) ≡ outcome_ahead t (tokens_from line rest) []
  recording_of_text-begun b front line is ends begins rest =
      begins (front ++ rest) (tokens_from (line_behind 1 front) rest) (ends 1 rest)
      ∙ outcome_ahead-line (line_behind 1 front)
      line rest is

-- where a piece of the body is read, the result for the piece and the rest is that for the rest
pub outcome_ahead-piece : (t t2 : TextReached) (piece : List ℕ) (line line2 : ℕ)
    → line2 ≡ line_behind line piece → EndsBetweenTokens piece
    → ((more : List Token) → outcome_ahead t (tokens_from line piece) more ≡ outcome_ahead t2 [] more)
    → (rest : List ℕ) → outcome_ahead t (tokens_from line (piece ++ rest)) [] ≡ outcome_ahead t2
    (tokens_from line2 rest) []
outcome_ahead-piece t t2 piece line line2 is ends leads rest =
    outcome_ahead-parts t (tokens_from line (piece ++ rest)) (tokens_from line piece)
    (tokens_from (line_behind line piece)
    rest) (ends line rest)
    ∙ leads (tokens_from (line_behind line piece) rest)
    ∙ outcome_ahead-line t2 (line_behind line piece) line2 rest is

-- a fault that isn't want of memory is the result
pub CaptureFailsBy-equal : (fault : CaptureFault) (answer : Result Trace CaptureFault) → is_memory_fault fault ≡ false
    → CaptureFailsBy fault answer → answer ≡ Err fault
CaptureFailsBy-equal (Dump fault) answer not_want fails = by_kind fault.line fault.kind not_want fails
  where
    by_kind : (line : ℕ) (kind : FaultKind) → is_memory_fault (Dump (record { line = line; kind = kind })) ≡ false
        → DumpFails line kind answer → answer ≡ Err (Dump (record { line = line; kind = kind }))
    by_kind line Memory not_want fails = absurd (cc not_want)
    by_kind line kind not_want fails = fails
CaptureFailsBy-equal (Binding fault) answer not_want fails = by_kind fault.line fault.kind not_want fails
  where
    by_kind : (line : ℕ) (kind : BindFaultKind) → is_memory_fault (Binding (record { line = line; kind = kind }))
        ≡ false → BindingFails line kind answer → answer ≡ Err (Binding (record { line = line; kind = kind }))
    by_kind line NoMemory not_want fails = absurd (cc not_want)
    by_kind line kind not_want fails = fails

-- a fault that isn't want of memory may be returned where it is the result
pub CaptureFailsBy-not_memory : (fault : CaptureFault) (answer : Result Trace CaptureFault) → is_memory_fault fault
    ≡ false → answer ≡ Err fault → CaptureFailsBy fault answer
CaptureFailsBy-not_memory (Dump fault) answer not_want is = by_kind fault.line fault.kind not_want is
  where
    by_kind : (line : ℕ) (kind : FaultKind) → is_memory_fault (Dump (record { line = line; kind = kind })) ≡ false
        → answer ≡ Err (Dump (record { line = line; kind = kind })) → DumpFails line kind answer
    by_kind line Memory not_want is = absurd (cc not_want)
    by_kind line kind not_want is = is
CaptureFailsBy-not_memory (Binding fault) answer not_want is = by_kind fault.line fault.kind not_want is
  where
    by_kind : (line : ℕ) (kind : BindFaultKind) → is_memory_fault (Binding (record { line = line; kind = kind }))
        ≡ false → answer ≡ Err (Binding (record { line = line; kind = kind })) → BindingFails line kind answer
    by_kind line NoMemory not_want is = absurd (cc not_want)
    by_kind line kind not_want is = is

-- a fault of a piece of the body is the result for the text
pub outcome_ahead-piece_fails : (t : TextReached) (piece : List ℕ) (line : ℕ) (fault : CaptureFault)
    → EndsBetweenTokens piece → is_memory_fault fault ≡ false
    → ((more : List Token) → CaptureFailsBy fault (outcome_ahead t (tokens_from line piece) more))
    → (rest : List ℕ) → outcome_ahead t (tokens_from line (piece ++ rest)) [] ≡ Err fault
outcome_ahead-piece_fails t piece line fault ends not_want fails rest =
    let more = tokens_from (line_behind line piece) rest in
    outcome_ahead-parts t (tokens_from line (piece ++ rest)) (tokens_from line piece) more (ends line rest)
    ∙ CaptureFailsBy-equal fault (outcome_ahead t (tokens_from line piece) more) not_want (fails more)

-- a fault of the prefix `front` is the result for the text
pub recording_of_text-front_fails : (b : BoundLines) (front : List ℕ) (fault : CaptureFault) → EndsBetweenTokens front
    → is_memory_fault fault ≡ false
    → ((whole : List ℕ) (more : List Token) → tokens whole ≡ tokens front ++ more → CaptureFailsBy fault
    (recording_of_text b whole))
    → (rest : List ℕ) → recording_of_text b (front ++ rest) ≡ Err fault
recording_of_text-front_fails b front fault ends not_want fails rest =
    CaptureFailsBy-equal fault (recording_of_text b (front ++ rest)) not_want
    (fails (front ++ rest) (tokens_from (line_behind 1 front) rest) (ends 1 rest))
