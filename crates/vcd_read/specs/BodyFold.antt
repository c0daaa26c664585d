-- The fold over the items of a body. A visitor says what a change and the end of an instant make of its accumulator.
use Rattle.std.specs.Prelude.{ℕ, Bool, true, false, ◌&&◌, not, ◌==◌, if◌then◌else◌, List, [], ◌∷◌, Option, None}
use Rattle.std.specs.Prelude.{option_map, unwrap_or, Result, Ok, Err}
use Rattle.vcd_read.specs.declared.dump.Bit.{Bit}
use Rattle.vcd_read.specs.declared.fault.VcdFault.{VcdFault}
use Rattle.vcd_read.specs.declared.timed_visitor.Clock.{Clock}
use Rattle.vcd_read.specs.declared.timed_visitor.TimedVisitor.{TimedVisitor}
use Rattle.vcd_read.specs.Tokens.{Token}
use Rattle.vcd_read.specs.Numbers.{number, extended}
use Rattle.vcd_read.specs.Reading.{line_of}
use Rattle.vcd_read.specs.declared.body_piece.BodyPiece.{BodyPiece}
use Rattle.vcd_read.specs.declared.body_piece.Start.{Start}
use Rattle.vcd_read.specs.Header.{◌>>=◌, Net, net_of, size_of}
use Rattle.vcd_read.specs.Body.{BodyItem, time_item, change, BodyContext, context_after, at_the_end, ready, body_from}

-- the accumulator, with the current time
pub record BodyFold (A : Type 0) : Type 0 where
  pub accumulator : A
  pub time : ℕ
  -- whether there is an instant at the current time
  pub has_instant : Bool

-- an accumulator, with the time of a clock
abbrev pub body_fold : {A : Type 0} → A → Clock → BodyFold A
body_fold a clock = record { accumulator = a; time = clock.time; has_instant = clock.has_instant }

-- what a visitor has taken, with the current time
abbrev pub progress_of : {T A : Type 0} → (T → A) → TimedVisitor T → BodyFold A
progress_of taken timed = body_fold (taken timed.visitor) timed.clock

-- how far a body is read: the time and the open dump section, and the fold over the items so far
pub record State (A : Type 0) : Type 0 where
  pub context : BodyContext
  pub progress : BodyFold A

-- how far a body is read, with the line of the dump section that is open
abbrev pub state_at : {A : Type 0} → BodyFold A → Option ℕ → State A
state_at timed dump_section = record {
  context = record { now = timed.time; dump_section = dump_section };
  progress = timed;
}

-- how far a body is read, where the open dump section starts in the piece that is read, or before it
abbrev pub state_of : {A : Type 0} → BodyPiece → BodyFold A → Option Start → State A
state_of text timed dump_section = state_at timed (option_map (line_of text) dump_section)

-- how far a body is read in this context, or its fault
abbrev pub with_progress : {A : Type 0} → BodyFold A → Result BodyContext VcdFault → Result (State A) VcdFault
with_progress p stood = stood >>= λ next. Ok (record { context = next; progress = p })

-- before any item
abbrev pub at_first : {A : Type 0} → A → State A
at_first a = record {
  context = record { now = 0; dump_section = None };
  progress = record { accumulator = a; time = 0; has_instant = false };
}

-- the end of an instant
module _ {A : Type 0} (with_instant : A → ℕ → A) where
  -- after a time item: if there is an instant at another time, it has ended
  abbrev pub advanced : BodyFold A → ℕ → BodyFold A
  advanced p t =
      if p.has_instant && not (t == p.time) then record {
        accumulator = with_instant p.accumulator p.time;
        time = t;
        has_instant = true;
      }
      else record p { time = t; has_instant = true }

  -- what the end of the body gives: if there is an instant, it ends
  abbrev pub ended : BodyFold A → A
  ended p = if p.has_instant then with_instant p.accumulator p.time else p.accumulator

  -- what a body gives that is read to its end
  abbrev pub at_end : State A → Result A VcdFault
  at_end s = at_the_end s.context >>= λ stood. Ok (ended s.progress)

-- after a change of a net to these bits
abbrev pub changed : {A : Type 0} → (A → ℕ → List Bit → A) → BodyFold A → ℕ → List Bit → BodyFold A
changed with_change p net bits = record p { accumulator = with_change p.accumulator net bits; has_instant = true }

module _ {A : Type 0} (with_change : A → ℕ → List Bit → A) (with_instant : A → ℕ → A) (nets : List Net) where
  -- the fold after one more item
  abbrev pub progress_after : BodyFold A → BodyItem → BodyFold A
  progress_after p (time_item line digits) = advanced with_instant p (number digits)
  progress_after p (change line digits code) =
      let net = unwrap_or (net_of nets code) 0 in
      changed with_change p net (extended (size_of nets net) digits)
  progress_after p item = p

  -- the state after one more item, or the fault of the item
  abbrev pub step : State A → BodyItem → Result (State A) VcdFault
  step s item = with_progress (progress_after s.progress item) (context_after nets s.context item)

  -- the state after all items, or their first fault
  unfoldable pub steps : State A → List BodyItem → Result (State A) VcdFault
  steps s [] = Ok s
  steps s (item ∷ items) = step s item >>= λ next. steps next items

  -- the state before the first of the items that is a fault, or after all of them
  unfoldable pub reached_before : State A → List BodyItem → State A
  reached_before s [] = s
  reached_before s (item ∷ items) = elim (step s item) [
    | Ok next ↦ reached_before next items
    | Err fault ↦ s
  ]

  -- the fold over a whole body, or its first fault
  abbrev pub fold_body : A → List Token → Result A VcdFault
  fold_body a body = steps (at_first a) (body_from ready body) >>= at_end with_instant
