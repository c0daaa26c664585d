-- How far a body is read between two of its pieces.
use Rattle.std.specs.Prelude.{ℕ, List, Option, Result}
use Rattle.vcd_read.specs.declared.dump.Bit.{Bit}
use Rattle.vcd_read.specs.declared.fault.VcdFault.{VcdFault}
use Rattle.vcd_read.specs.declared.pieces.BodyReader.{BodyReader}
use Rattle.vcd_read.specs.Tokens.{Token}
use Rattle.vcd_read.specs.Header.{Net}
use Rattle.vcd_read.specs.Body.{BodyPlace}
use Rattle.vcd_read.specs.BodyFold.{BodyFold, State, progress_of}
use Rattle.vcd_read.specs.Bodies.{UntilFault, ahead, ahead_until_fault, finished, place_of}

-- How far a body is read: what was taken of it, and where reading continues.
pub record Reached (A : Type 0) : Type 0 where
  pub nets : List Net
  pub progress : BodyFold A
  -- the line of the dump section that is open
  pub dump_section : Option ℕ
  pub place : BodyPlace
  -- the line that the next piece begins on
  pub line : ℕ

-- how far some pieces go, by what their visitor took
abbrev pub reached : {T A : Type 0} → (T → A) → BodyReader T → Reached A
reached taken p =
    record {
      nets = p.codes;
      progress = progress_of taken p.state.timed;
      dump_section = p.state.dump_section;
      place = place_of p.state.place;
      line = p.line;
    }

module _ {A : Type 0} (with_change : A → ℕ → List Bit → A) (with_instant : A → ℕ → A) where
  -- what reading `tokens` and then `more` gives from `r` on
  abbrev pub rest_of : Reached A → List Token → List Token → Result (State A) VcdFault
  rest_of r tokens more = ahead with_change with_instant r.nets r.progress r.dump_section r.place tokens more

  -- what reading `tokens` and then `more` gives from `r` on, and how far it comes
  abbrev pub rest_until_fault : Reached A → List Token → List Token → UntilFault A
  rest_until_fault r tokens more = ahead_until_fault with_change with_instant r.nets r.progress r.dump_section r.place
      tokens more

  -- what the end of the body gives at `r`
  abbrev pub outcome_of : Reached A → Result A VcdFault
  outcome_of r = finished with_change with_instant r.nets r.progress r.dump_section r.place
