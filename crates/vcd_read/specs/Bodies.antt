-- How far a body is read, and what reading the rest gives.
use Rattle.std.specs.Prelude.{◌≡◌, ℕ, List, [], ◌∷◌, ◌++◌, Option, Some, Result, Ok, Err}
use Rattle.vcd_read.specs.declared.dump.Bit.{Bit}
use Rattle.vcd_read.specs.declared.fault.FaultKind.{FaultKind}
use Rattle.vcd_read.specs.declared.fault.FaultKind.TheVariants.{Memory}
use Rattle.vcd_read.specs.declared.fault.VcdFault.{VcdFault}
use Rattle.vcd_read.specs.declared.stopped.Stopped.{Stopped}
use Rattle.vcd_read.specs.declared.token.Reader.{Reader}
use Rattle.vcd_read.specs.declared.body_piece.Start.{Start}
use Rattle.vcd_read.specs.declared.open_item.OpenItem.{OpenItem}
use Rattle.vcd_read.specs.declared.open_item.OpenItem.TheVariants.{Ready, Vector, Foreign, Comment}
use Rattle.vcd_read.specs.Tokens.{Token}
use Rattle.vcd_read.specs.Reading.{left_at, token_at}
use Rattle.vcd_read.specs.Header.{◌>>=◌, Net}
use Rattle.vcd_read.specs.Body.{BodyItem, BodyPlace, ready, code_of_vector, code_of_foreign, in_comment, body_from}
use Rattle.vcd_read.specs.BodyFold.{BodyFold, State, at_end, state_at, state_of, steps, reached_before}
use Rattle.vcd_read.specs.Meaning.{ReadFails}

-- the place in the grammar
abbrev pub place_of : OpenItem → BodyPlace
place_of Ready = ready
place_of (Vector digits) = code_of_vector digits.line digits.bytes.items
place_of (Foreign line) = code_of_foreign line
place_of (Comment line) = in_comment line

-- the line of what isn't ended there: an item, or else the dump section that is open
abbrev pub unfinished : OpenItem → Option ℕ → Option ℕ
unfinished Ready dump_section = dump_section
unfinished (Vector digits) dump_section = Some digits.line
unfinished (Foreign line) dump_section = Some line
unfinished (Comment line) dump_section = Some line

-- what reading gives, and how far it comes: up to the first fault, or after all that is read
pub record UntilFault (A : Type 0) : Type 0 where
  pub outcome : Result (State A) VcdFault
  pub reached : State A

module _ {A : Type 0} (with_change : A → ℕ → List Bit → A) (with_instant : A → ℕ → A) where
  -- what reading `tokens` and then `more` gives from a state and a place in the grammar on
  abbrev pub ahead : List Net → BodyFold A → Option ℕ → BodyPlace → List Token → List Token → Result (State A) VcdFault
  ahead nets timed dump_section place tokens more = steps with_change with_instant nets (state_at timed dump_section)
      (body_from place (tokens ++ more))

  -- what the end of the body gives at a state and a place in the grammar
  abbrev pub finished : List Net → BodyFold A → Option ℕ → BodyPlace → Result A VcdFault
  finished nets timed dump_section place = ahead nets timed dump_section place [] [] >>= at_end with_instant

  -- what reading `items` from `s` on gives, and how far it comes
  abbrev pub until_fault : List Net → State A → List BodyItem → UntilFault A
  until_fault nets s items = record {
    outcome = steps with_change with_instant nets s items;
    reached = reached_before with_change with_instant nets s items;
  }

  -- what reading `tokens` and then `more` gives from a state and a place in the grammar on, and how far it comes
  abbrev pub ahead_until_fault : List Net → BodyFold A → Option ℕ → BodyPlace → List Token → List Token → UntilFault A
  ahead_until_fault nets timed dump_section place tokens more =
      until_fault nets (state_at timed dump_section) (body_from place (tokens ++ more))

  -- what reading the rest of a piece gives, from a place in the grammar on
  abbrev pub remaining_in : BodyPlace → List Net → Reader → BodyFold A → Option Start → List Token → UntilFault A
  remaining_in place nets reader timed dump_section more =
      until_fault nets (state_of reader.text timed dump_section)
      (body_from place (left_at reader.text reader.at ++ more))

  -- what reading a token and then the rest of a piece gives, between two items
  abbrev pub from_token : ℕ → List ℕ → List Net → Reader → BodyFold A → Option Start → List Token → UntilFault A
  from_token at bytes nets reader timed dump_section more =
      until_fault nets (state_of reader.text timed dump_section)
      (body_from ready (token_at reader.text at bytes ∷ (left_at reader.text reader.at ++ more)))

-- ---- where reading stops

-- `read` is this fault, and `taken` and `time` are those before it; if memory ran out, it says only that the line is 0
abbrev pub StoppedAs : {A Y : Type 0} → ℕ → FaultKind → A → ℕ → BodyFold A → Result Y VcdFault → Type 0
StoppedAs line Memory taken time before read = line ≡ 0
StoppedAs line kind taken time before read =
    (read ≡ Err (record { line = line; kind = kind })) × (taken ≡ before.accumulator) × (time ≡ before.time)

-- reading stops with this fault; the visitor has `taken`, and `time` is the last time before the fault
abbrev pub Stops : {A : Type 0} → VcdFault → A → ℕ → UntilFault A → Type 0
Stops fault taken time read = StoppedAs fault.line fault.kind taken time read.reached.progress read.outcome

-- a fault leaves what was taken as it was, unless memory ran out
abbrev pub KeepsAs : {A : Type 0} → FaultKind → A → A → Type 0
KeepsAs Memory before taken = Unit {0}
KeepsAs kind before taken = taken ≡ before

-- a call that fails leaves what was taken as it was, unless memory ran out
abbrev pub KeepsTaken : {A X : Type 0} → A → A → Result X VcdFault → Type 0
KeepsTaken before taken (Ok _) = Unit {0}
KeepsTaken before taken (Err fault) = KeepsAs fault.kind before taken

-- whatever follows, reading gives the same after a call as before it, or stops with the fault of the call
abbrev pub BodyContinuesAs : {A X : Type 0} → (List Token → UntilFault A) → (List Token → UntilFault A) → A → ℕ
    → Result X VcdFault → Type 0
BodyContinuesAs before after taken time (Ok _) = (more : List Token) → before more ≡ after more
BodyContinuesAs before after taken time (Err fault) = (more : List Token) → Stops fault taken time (before more)

-- whatever follows, reading from the returned `x` on gives what it gave before the call, or it stops with the returned
-- fault and visitor
abbrev pub ContinuesOrStops : {A T X : Type 0} → (X → List Token → UntilFault A) → (T → A) → Result X (Stopped T)
    → (List Token → UntilFault A) → Type 0
ContinuesOrStops view taken (Ok x) before = (more : List Token) → before more ≡ view x more
ContinuesOrStops view taken (Err stopped) before = (more : List Token) → Stops stopped.fault (taken stopped.visitor)
    stopped.time (before more)

-- `read`, what the end of a body gives, is what the returned visitor took, or it is the returned fault, and what was
-- taken and the time are those of `before`, unless memory ran out
abbrev pub GivesOrStops : {A T : Type 0} → (T → A) → BodyFold A → Result T (Stopped T) → Result A VcdFault → Type 0
GivesOrStops taken before (Ok visitor) read = read ≡ Ok (taken visitor)
GivesOrStops taken before (Err stopped) read = StoppedAs stopped.fault.line stopped.fault.kind (taken stopped.visitor)
    stopped.time before read

-- whatever follows, reading from the returned `x` on gives what it gave before the call, or it fails with the fault
abbrev pub BodyContinuesTo : {A X : Type 0} → (X → List Token → Result (State A) VcdFault) → Result X VcdFault
    → (List Token → Result (State A) VcdFault) → Type 0
BodyContinuesTo view (Ok x) before = (more : List Token) → before more ≡ view x more
BodyContinuesTo view (Err fault) before = (more : List Token) → ReadFails fault (before more)
