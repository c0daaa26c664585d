-- What is settled of a recording continues what was settled of it before.
use Rattle.std.proofs.Common.{◌≡◌, ◌≤◌, ℕ, List, [], ◌++◌, Option, None, Some, sym, ap, subst, ◌∙◌, arith}
use Rattle.std.proofs.Common.{append-nil, refl, length}
use Rattle.std.specs.Prelude.{All}
use Rattle.std.proofs.lemmas.List.Elements.{All-weaker}
use Rattle.vme_trace.specs.Followed.{with_steps}
use Rattle.vme_trace.specs.Levels.{Levels}
use Rattle.vme_trace.specs.LineNumbers.{line_count}
use Rattle.vme_trace.specs.Trace.{Trace}
use Rattle.vme_trace.specs.WellFormed.{malformed_step}
use Rattle.vme_trace.specs.declared.step.Step.{Step}
use Rattle.vcd_read.specs.declared.fault.FaultKind.TheVariants as vcd
use Rattle.vcd_read.specs.declared.fault.VcdFault.{VcdFault}
use Rattle.vme_skew.specs.Settled.{settled}
use Rattle.vme_skew.specs.Settling.{Settling}
use Rattle.vme_skew.proofs.Grown.{settled-grows, settled_until-grows}
use Rattle.vme_step_reader.specs.StepReading.{StepReading, whole_reading}
use Rattle.vme_step_reader.specs.Stops.{StopsBehind}
use Rattle.vme_step_reader.specs.declared.stopped_steps.StoppedSteps.{StoppedSteps}
use Rattle.vme_dump_input.proofs.ReadSteps.{GivenIsPrefix, StepsFollow, StepsWithin, TimeGoesOn, settled_so_far-formed}
use Rattle.vme_dump_input.proofs.ReadSteps.{settled_so_far-opening}
use Rattle.vme_dump_input.proofs.ReadSteps.{GoOnFrom-steps, GoOnTo-steps, StopsAs-parts, settled_whole-formed}
use Rattle.vme_dump_input.proofs.ReadSteps.{settled_whole-opening}
use Rattle.vme_audit_command.specs.Bodies.{HasGiven}
use Rattle.vme_audit_command.specs.Definitions.{IsFormed}
use Rattle.vme_dump_input.specs.SettledReadings.{settled_before, settled_by, settled_so_far, settled_whole}
use Rattle.vme_dump_input.specs.SettledSteps.{ComesOut, GoOnFrom, GoOnTo}
use Rattle.vme_step_auditor.specs.ReadBy.{GivenSteps}

-- `u` is `t` with further steps
pub record ExtendsTo (t u : Trace) : Type 0 where
  pub more : List Step
  pub is : u ≡ with_steps t more
  pub formed : malformed_step u ≡ None
  pub few : t.opening.slots ≤ 21

-- a recording is itself with no further steps
pub ExtendsTo-itself : (t : Trace) → malformed_step t ≡ None → t.opening.slots ≤ 21 → ExtendsTo t t
ExtendsTo-itself t formed few = record {
  more = [];
  is = ap (λ (l : List Step). record t { steps = l }) (sym (append-nil t.steps));
  formed = formed;
  few = few;
}

-- ---- what is settled

-- what is settled at `time`, after steps none of which is earlier than `known`, continues what is settled at `known`
-- without them
settled_so_far-grows : (skew : Option ℕ) (known time : ℕ) (t : Trace) (steps : List Step)
    → All (λ (step : Step). known ≤ step.time) steps → known ≤ time
    → (more : List Step)
    × (settled_so_far skew time (with_steps t steps) ≡ with_steps (settled_so_far skew known t) more)
settled_so_far-grows None known time t steps late on = (steps, refl)
settled_so_far-grows (Some skew) known time t steps late on = settled_until-grows skew known t steps late time on

-- all that is settled, after steps none of which is earlier than `known`, continues what is settled at `known` without
-- them
settled_whole-grows : (skew : Option ℕ) (known : ℕ) (t : Trace) (steps : List Step)
    → All (λ (step : Step). known ≤ step.time) steps
    → (more : List Step)
    × (settled_whole skew (with_steps t steps) ≡ with_steps (settled_so_far skew known t) more)
settled_whole-grows None known t steps late = (steps, refl)
settled_whole-grows (Some skew) known t steps late = settled-grows skew known t steps late

-- `steps`, of which none is earlier than `known`, follow the recording `given`
module _ (skew : Option ℕ) (known : ℕ) (given : Trace) (steps : List Step)
    (late : All (λ (step : Step). known ≤ step.time) steps) (formed : malformed_step (with_steps given steps) ≡ None)
    (whole : length given.opening.levels ≡ line_count) (few : given.opening.slots ≤ 21) where
  -- what is settled at `known` has at most 21 slots
  slots-settled_so_far : (settled_so_far skew known given).opening.slots ≤ 21
  slots-settled_so_far = subst (λ (v : Levels). v.slots ≤ 21) (sym (settled_so_far-opening skew known given)) few

  -- what is settled at `time` with the steps continues what is settled at `known` without them
  pub ExtendsTo-settled_so_far : (time : ℕ) → known ≤ time
      → ExtendsTo (settled_so_far skew known given) (settled_so_far skew time (with_steps given steps))
  ExtendsTo-settled_so_far time on =
      let (more, is) = settled_so_far-grows skew known time given steps late on in
      record {
        more = more;
        is = is;
        formed = settled_so_far-formed skew time (with_steps given steps) whole formed;
        few = slots-settled_so_far;
      }

  -- all that is settled with the steps continues what is settled at `known` without them
  pub ExtendsTo-settled_whole : ExtendsTo (settled_so_far skew known given)
      (settled_whole skew (with_steps given steps))
  ExtendsTo-settled_whole =
      let (more, is) = settled_whole-grows skew known given steps late in
      record {
        more = more;
        is = is;
        formed = settled_whole-formed skew (with_steps given steps) whole formed;
        few = slots-settled_so_far;
      }

  -- what is settled with the steps, at the end or before a fault at `time`, continues what is settled at `known`
  -- without them
  ExtendsTo-settled_before : (fault : Option VcdFault) (time : ℕ) → known ≤ time
      → ExtendsTo (settled_so_far skew known given) (settled_before skew fault time (with_steps given steps))
  ExtendsTo-settled_before None time on = ExtendsTo-settled_whole
  ExtendsTo-settled_before (Some fault) time on = ExtendsTo-settled_so_far time on

-- `t` is what is settled of `given` at a time that is known
record IsKnown (skew : Option ℕ) (given : Trace) (time : ℕ) (t : Trace) : Type 0 where
  at : ℕ
  known : at ≤ time
  is : t ≡ settled_so_far skew at given

-- what came out of a settler, or is given without one, is what is settled at a time that is known
IsKnown-comes_out : (skew : Option ℕ) (settler : Option Settling) (given : Trace) (time : ℕ) (t : Trace)
    → ComesOut skew settler given time t → IsKnown skew given time t
IsKnown-comes_out None None given time t h = record { at = 0; known = omega arith; is = h }
IsKnown-comes_out (Some skew) (Some s) given time t h = record { at = s.reached; known = h.known; is = h.settled }
IsKnown-comes_out None (Some s) given time t h = absurd h
IsKnown-comes_out (Some skew) None given time t h = absurd h

-- if no step is earlier than `b`, none is earlier than `a`, which is at most `b`
All-not_earlier : (a b : ℕ) (steps : List Step) → a ≤ b → All (λ (step : Step). b ≤ step.time) steps
    → All (λ (step : Step). a ≤ step.time) steps
All-not_earlier a b steps le h =
    All-weaker (λ (step : Step). b ≤ step.time) (λ (step : Step). a ≤ step.time) (λ step late. omega (arith, late, le))
    steps h

module _ (skew : Option ℕ) (settler : Option Settling) (given : Trace) (from : ℕ) (t : Trace)
    (comes : ComesOut skew settler given from t) (steps : List Step) where
  -- what is settled when `time` is reached continues what came out before
  pub ExtendsTo-next : (time : ℕ) → GoOnTo given from steps time
      → ExtendsTo t (settled_so_far skew time (with_steps given steps))
  ExtendsTo-next time to =
      let k = IsKnown-comes_out skew settler given from t comes in
      subst (λ (x : Trace). ExtendsTo x (settled_so_far skew time (with_steps given steps))) (sym k.is)
      (ExtendsTo-settled_so_far skew k.at given steps (All-not_earlier k.at from steps k.known to.go.follows)
      to.go.formed to.go.whole
      to.go.few time (omega (arith, k.known, to.on)))

  -- what is settled at the end of the recording continues what came out before
  pub ExtendsTo-end : GoOnFrom given from steps → ExtendsTo t (settled_whole skew (with_steps given steps))
  ExtendsTo-end go =
      let k = IsKnown-comes_out skew settler given from t comes in
      subst (λ (x : Trace). ExtendsTo x (settled_whole skew (with_steps given steps))) (sym k.is)
      (ExtendsTo-settled_whole skew k.at given steps (All-not_earlier k.at from steps k.known go.follows) go.formed
      go.whole go.few)

-- ---- the result of reading

module _ (front : GivenIsPrefix) (follows : StepsFollow) (on : TimeGoesOn) (skew : Option ℕ) (r : StepReading)
    (rest : List ℕ) where
  -- what the whole text settles to continues what is settled at time `known`
  pub ExtendsTo-reading : (known : ℕ) → known ≤ (whole_reading r []).time → r.given.opening.slots ≤ 21
      → length r.given.opening.levels ≡ line_count → IsFormed r
      → ExtendsTo (settled_so_far skew known r.given) (settled_by skew (whole_reading r rest)).recorded
  ExtendsTo-reading known le few whole formed =
      let reading = whole_reading r rest in
      let (steps, is) = front r rest in
      subst (λ (x : Trace). ExtendsTo (settled_so_far skew known r.given)
      (settled_before skew reading.fault reading.time x)) (sym is)
      (ExtendsTo-settled_before skew known r.given steps
      (All-not_earlier known (whole_reading r []).time steps le (follows r rest steps is))
      (sym (ap malformed_step is) ∙ formed rest) whole few reading.fault reading.time (omega (arith, le, on r rest)))

  -- what the whole text settles to continues what was given to the audit
  pub ExtendsTo-given : (settler : Option Settling) (audit : GivenSteps) → HasGiven skew settler audit r
      → ExtendsTo audit.recording (settled_by skew (whole_reading r rest)).recorded
  ExtendsTo-given settler audit h =
      let k = IsKnown-comes_out skew settler r.given (whole_reading r []).time audit.recording h.comes in
      subst (λ (x : Trace). ExtendsTo x (settled_by skew (whole_reading r rest)).recorded) (sym k.is)
      (ExtendsTo-reading k.at k.known h.few h.whole h.formed)

-- ---- steps that are read

module _ (follows : StepsFollow) (within : StepsWithin) (on : TimeGoesOn) (skew : Option ℕ)
    (settler : Option Settling) (audit : GivenSteps) (r : StepReading) (h : HasGiven skew settler audit r) where
  -- before a fault
  module _ (stopped : StoppedSteps) (rest : List ℕ) (stops : StopsBehind r.given stopped (whole_reading r rest))
      (other : stopped.fault.kind ≡ vcd.Memory → ⊥) where
    -- the steps before the fault may follow those that were given, and none is later than the time of the fault
    pub GoOnTo-stopped : GoOnTo r.given (whole_reading r []).time stopped.steps.items stopped.time
    GoOnTo-stopped =
        let steps = stopped.steps.items in
        let (is, _, time) = StopsAs-parts stopped.fault.line stopped.fault.kind (with_steps r.given steps) stopped.time
        (whole_reading r rest) stops other in
        record {
          go = record {
            formed = sym (ap malformed_step is) ∙ h.formed rest;
            whole = h.whole;
            few = h.few;
            follows = follows r rest steps is;
          };
          within = subst (λ (n : ℕ). All (λ (step : Step). step.time ≤ n) steps) time (within r rest steps is);
          on = subst (λ (n : ℕ). (whole_reading r []).time ≤ n) time (on r rest);
        }

    -- what the text settles to is what is settled at the time of the fault
    pub settled_by-stopped : (settled_by skew (whole_reading r rest)).recorded
        ≡ settled_so_far skew stopped.time (with_steps r.given stopped.steps.items)
    settled_by-stopped =
        let steps = stopped.steps.items in
        let (is, fault, time) = StopsAs-parts stopped.fault.line stopped.fault.kind (with_steps r.given steps)
        stopped.time (whole_reading r rest) stops other in
        let reading = whole_reading r rest in
        ap (λ (f : Option VcdFault). settled_before skew f reading.time reading.recorded) fault
        ∙ ap (λ (n : ℕ). settled_so_far skew n reading.recorded) time
        ∙ ap (settled_so_far skew stopped.time) is

    -- what the text settles to continues what is settled at the time of the fault
    pub ExtendsTo-stopped : ExtendsTo (settled_so_far skew stopped.time (with_steps r.given stopped.steps.items))
        (settled_by skew (whole_reading r rest)).recorded
    ExtendsTo-stopped =
        let t = settled_so_far skew stopped.time (with_steps r.given stopped.steps.items) in
        subst (λ (x : Trace). ExtendsTo t x) (sym settled_by-stopped)
        (ExtendsTo-itself t (settled_so_far-formed skew stopped.time (with_steps r.given stopped.steps.items) h.whole
        GoOnTo-stopped.go.formed)
        (subst (λ (v : Levels). v.slots ≤ 21) (sym (settled_so_far-opening skew stopped.time
        (with_steps r.given stopped.steps.items)))
        h.few))

    -- reading the text ends with this fault
    pub fault-stopped : (settled_by skew (whole_reading r rest)).fault ≡ Some stopped.fault
    fault-stopped =
        let (is, fault, time) = StopsAs-parts stopped.fault.line stopped.fault.kind
        (with_steps r.given stopped.steps.items) stopped.time (whole_reading r rest) stops other in
        fault

  -- at the end of the text
  module _ (bytes : List ℕ) (steps : List Step)
      (is : (whole_reading r bytes).recorded ≡ with_steps r.given steps) where
    -- the steps up to the end of the text may follow those that were given
    pub GoOnFrom-last : GoOnFrom r.given (whole_reading r []).time steps
    GoOnFrom-last = GoOnFrom-steps follows r h.whole h.few h.formed bytes steps is

    -- without a fault, the text settles to all that is settled with these steps
    pub settled_by-last : (whole_reading r bytes).fault ≡ None
        → (settled_by skew (whole_reading r bytes)).recorded ≡ settled_whole skew (with_steps r.given steps)
    settled_by-last whole =
        let reading = whole_reading r bytes in
        ap (λ (f : Option VcdFault). settled_before skew f reading.time reading.recorded) whole
        ∙ ap (settled_whole skew) is

    -- without a fault, what the text settles to continues all that is settled with these steps
    pub ExtendsTo-last : (whole_reading r bytes).fault ≡ None
        → ExtendsTo (settled_whole skew (with_steps r.given steps)) (settled_by skew (whole_reading r bytes)).recorded
    ExtendsTo-last whole =
        let t = settled_whole skew (with_steps r.given steps) in
        subst (λ (x : Trace). ExtendsTo t x) (sym (settled_by-last whole))
        (ExtendsTo-itself t (settled_whole-formed skew (with_steps r.given steps) h.whole GoOnFrom-last.formed)
        (subst (λ (v : Levels). v.slots ≤ 21) (sym (settled_whole-opening skew (with_steps r.given steps))) h.few))

  -- after one more piece
  module _ (front : GivenIsPrefix) (next : StepReading) (steps : List Step) (piece : List ℕ)
      (taken : (rest : List ℕ) → whole_reading r (piece ++ rest) ≡ whole_reading next rest)
      (given : next.given ≡ with_steps r.given steps) where
    -- the steps of the piece may follow those that were given, and none is later than the last time that is read with
    -- it
    pub GoOnTo-next_piece : malformed_step next.given ≡ None
        → GoOnTo r.given (whole_reading r []).time steps (whole_reading next []).time
    GoOnTo-next_piece formed = GoOnTo-steps follows within on front r h.whole h.few next steps piece taken given formed
