-- A piece of a body, as far as it is read.
use Rattle.std.specs.Prelude.{ℕ, List, Result}
use Rattle.vcd_read.specs.declared.body.Body.{Body}
use Rattle.vcd_read.specs.declared.change_visitor.ChangeVisitor.{Ghosts}
use Rattle.vcd_read.specs.declared.dump.Bit.{Bit}
use Rattle.vcd_read.specs.declared.fault.VcdFault.{VcdFault}
use Rattle.vcd_read.specs.declared.token.Reader.{Reader}
use Rattle.vcd_read.specs.Bodies.{BodyContinuesAs, UntilFault, remaining_in}
use Rattle.vcd_read.specs.Body.{BodyItem, BodyPlace}
use Rattle.vcd_read.specs.BodyFold.{State, progress_of, state_of, step}
use Rattle.vcd_read.specs.Meaning.{ReadGives}
use Rattle.vcd_read.specs.Tokens.{Token}

-- how far the body is read
abbrev pub state_in : {T A : Type 0} {visits : Ghosts T} → (T → A) → Body T visits → State A
state_in taken body = state_of body.reader.text (progress_of taken body.timed) body.dump_section

module _ {T A : Type 0} (with_change : A → ℕ → List Bit → A) (with_instant : A → ℕ → A) (taken : T → A) where
  -- what reading the rest of the piece gives, from a place in the grammar and a reader on
  abbrev pub rest_in : {visits : Ghosts T} → Body T visits → BodyPlace → Reader → List Token → UntilFault A
  rest_in body place reader = remaining_in with_change with_instant place body.codes.now reader
      (progress_of taken body.timed) body.dump_section

  -- whatever follows, reading on in `body`, from `place` and `reader` on, gives what it gave before the call, or it
  -- stops with the fault of the call
  abbrev pub ContinuesIn : {visits : Ghosts T} {X : Type 0} → (List Token → UntilFault A) → Body T visits → BodyPlace
      → Reader → Result X VcdFault → Type 0
  ContinuesIn before body place reader result =
      BodyContinuesAs before (rest_in body place reader) (taken body.timed.visitor) body.timed.clock.time result

  -- `item` leads from `old` to `new`, or the call fails with its fault, unless memory ran out
  abbrev pub StepsTo : {visits : Ghosts T} {X : Type 0} → Body T visits → BodyItem → Body T visits → Result X VcdFault
      → Type 0
  StepsTo old item new result = ReadGives (λ _. state_in taken new) result
      (step with_change with_instant old.codes.now (state_in taken old) item)
