-- The steps that a reader of a dump returns may follow those that it returned before.
use Rattle.std.proofs.Common.{◌≡◌, ◌≤◌, ℕ, List, [], ◌++◌, Option, None, Some, sym, ap, subst, ◌∙◌, append_assoc}
use Rattle.std.proofs.Common.{refl, length}
use Rattle.std.specs.Prelude.{All}
use Rattle.vme_trace.specs.Followed.{with_steps}
use Rattle.vme_trace.specs.LineNumbers.{line_count}
use Rattle.vme_trace.specs.Trace.{Trace}
use Rattle.vme_trace.specs.WellFormed.{malformed_step}
use Rattle.vme_trace.specs.declared.step.Step.{Step}
use Rattle.vme_trace.proofs.ListLaws.{All-front}
use Rattle.vcd_read.specs.declared.fault.FaultKind.{FaultKind}
use Rattle.vcd_read.specs.declared.fault.FaultKind.TheVariants as vcd
use Rattle.vme_bind.specs.TextReading.{StopsAs, TextReading}
use Rattle.vme_skew.specs.Settled.{settled, settled_until}
use Rattle.vme_skew.proofs.Laws.{IsRecording-settled}
use Rattle.vme_skew.proofs.SettlerSteps.{IsRecording-settled_until}
use Rattle.vme_step_reader.specs.StepReading.{StepReading, whole_reading}
use Rattle.vme_dump_input.specs.SettledReadings.{settled_so_far, settled_whole}
use Rattle.vme_dump_input.specs.SettledSteps.{GoOnFrom, GoOnTo}

-- no step that is still to come, if `rest` follows, is before the last time that was read
abbrev pub StepsFollow : Type 0
StepsFollow = (r : StepReading) (rest : List ℕ) (steps : List Step)
    → (whole_reading r rest).recorded ≡ with_steps r.given steps
    → All (λ (step : Step). (whole_reading r []).time ≤ step.time) steps

-- no step that is still to come, if `rest` follows, is later than the last time that is then read
abbrev pub StepsWithin : Type 0
StepsWithin = (r : StepReading) (rest : List ℕ) (steps : List Step)
    → (whole_reading r rest).recorded ≡ with_steps r.given steps
    → All (λ (step : Step). step.time ≤ (whole_reading r rest).time) steps

-- the last time that was read doesn't go back, if `rest` follows
abbrev pub TimeGoesOn : Type 0
TimeGoesOn = (r : StepReading) (rest : List ℕ) → (whole_reading r []).time ≤ (whole_reading r rest).time

-- what was returned is a prefix of what is recorded, whatever follows
abbrev pub GivenIsPrefix : Type 0
GivenIsPrefix = (r : StepReading) (rest : List ℕ)
    → (more : List Step) × ((whole_reading r rest).recorded ≡ with_steps r.given more)

-- ---- what is settled

-- what is settled up to `time` has the opening of the recording `t`
pub settled_so_far-opening : (skew : Option ℕ) (time : ℕ) (t : Trace) → (settled_so_far skew time t).opening ≡ t.opening
unfolding settled_until settled
settled_so_far-opening None time t = refl
settled_so_far-opening (Some skew) time t = refl

-- what is settled of the whole has the opening of the recording `t`
pub settled_whole-opening : (skew : Option ℕ) (t : Trace) → (settled_whole skew t).opening ≡ t.opening
unfolding settled
settled_whole-opening None t = refl
settled_whole-opening (Some skew) t = refl

-- what is settled of a well-formed recording up to `time` is well formed
pub settled_so_far-formed : (skew : Option ℕ) (time : ℕ) (t : Trace) → length t.opening.levels ≡ line_count
    → malformed_step t ≡ None → malformed_step (settled_so_far skew time t) ≡ None
settled_so_far-formed None time t whole formed = formed
settled_so_far-formed (Some skew) time t whole formed =
    (IsRecording-settled_until skew time t (record { whole = whole; formed = formed })).formed

-- what is settled of a whole well-formed recording is well formed
pub settled_whole-formed : (skew : Option ℕ) (t : Trace) → length t.opening.levels ≡ line_count → malformed_step t
    ≡ None
    → malformed_step (settled_whole skew t) ≡ None
settled_whole-formed None t whole formed = formed
settled_whole-formed (Some skew) t whole formed = (IsRecording-settled skew t
    (record { whole = whole; formed = formed })).formed

-- ---- steps that are read

-- a reading that stops with a fault other than want of memory has recorded `t`, and has that fault and the time `time`
pub StopsAs-parts : (line : ℕ) (kind : FaultKind) (t : Trace) (time : ℕ) (reading : TextReading)
    → StopsAs line kind t time reading → (kind ≡ vcd.Memory → ⊥)
    → (reading.recorded ≡ t) × (reading.fault ≡ Some (record { line = line; kind = kind })) × (reading.time ≡ time)
StopsAs-parts line vcd.Memory t time reading stops other = absurd (other refl)
StopsAs-parts line kind t time reading stops other = (
  ap (λ (r : TextReading). r.recorded) stops,
  ap (λ (r : TextReading). r.fault) stops,
  ap (λ (r : TextReading). r.time) stops,
)

module _ (follows : StepsFollow) (r : StepReading) (whole : length r.given.opening.levels ≡ line_count)
    (few : r.given.opening.slots ≤ 21) where
  -- the steps that are still to come, if `bytes` follow, may follow those given
  pub GoOnFrom-steps : ((rest : List ℕ) → malformed_step (whole_reading r rest).recorded ≡ None) → (bytes : List ℕ)
      (steps : List Step) → (whole_reading r bytes).recorded ≡ with_steps r.given steps
      → GoOnFrom r.given (whole_reading r []).time steps
  GoOnFrom-steps formed bytes steps is = record {
    formed = sym (ap malformed_step is) ∙ formed bytes;
    whole = whole;
    few = few;
    follows = follows r bytes steps is;
  }

module _ (follows : StepsFollow) (within : StepsWithin) (on : TimeGoesOn) (front : GivenIsPrefix) (r : StepReading)
    (whole : length r.given.opening.levels ≡ line_count) (few : r.given.opening.slots ≤ 21) (next : StepReading)
    (steps : List Step) (piece : List ℕ)
    (taken : (rest : List ℕ) → whole_reading r (piece ++ rest) ≡ whole_reading next rest)
    (given : next.given ≡ with_steps r.given steps) where
  -- what is recorded if the dump ends after the piece begins with the steps given and `steps`
  recorded-of_piece : (more : List Step)
      × ((whole_reading r (piece ++ [])).recorded ≡ with_steps r.given (steps ++ more))
  recorded-of_piece =
      let (more, is) = front next [] in (
        more,
        ap (λ (x : TextReading). x.recorded) (taken []) ∙ is ∙ ap (λ (x : Trace). with_steps x more) given
            ∙ ap (λ (l : List Step). record r.given { steps = l }) (append_assoc r.given.steps steps more),
      )

  -- the last time of a dump that ends after the piece is that of the reader `next`
  time-of_piece : (whole_reading r (piece ++ [])).time ≡ (whole_reading next []).time
  time-of_piece = ap (λ (x : TextReading). x.time) (taken [])

  -- the reader `next`, after `piece`, has returned `steps`: they may follow the steps given, and
  -- none is later than its time
  pub GoOnTo-steps : malformed_step next.given ≡ None
      → GoOnTo r.given (whole_reading r []).time steps (whole_reading next []).time
  GoOnTo-steps formed =
      let (more, is) = recorded-of_piece in
      let bytes = piece ++ [] in
      record {
        go = record {
          formed = sym (ap malformed_step given) ∙ formed;
          whole = whole;
          few = few;
          follows = All-front (λ (step : Step). (whole_reading r []).time ≤ step.time) steps more
              (follows r bytes (steps ++ more) is);
        };
        within = subst (λ (n : ℕ). All (λ (step : Step). step.time ≤ n) steps) time-of_piece
            (All-front (λ (step : Step). step.time ≤ (whole_reading r bytes).time) steps more
            (within r bytes (steps ++ more) is));
        on = subst (λ (n : ℕ). (whole_reading r []).time ≤ n) time-of_piece (on r bytes);
      }
