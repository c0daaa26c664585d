-- The steps of a dump that are still to come are at the last time that was read or later, up to the time at its end.
use Rattle.std.proofs.Common.{◌≡◌, ℕ, ◌<◌, ◌≤◌, Bool, true, false, cond, ◌&&◌, List, [], ◌∷◌, ◌++◌}
use Rattle.std.proofs.Common.{Some, Result, Ok, Err, refl, sym, ap, subst, ◌∙◌, arith}
use Rattle.std.specs.Prelude.{All, not, ◌==◌}
use Rattle.std.proofs.lemmas.Bool.Decides.{nat_tests}
use Rattle.std.proofs.lemmas.List.{append_cancel_left}
use Rattle.std.proofs.lemmas.List.Elements.{All-append, All-cons, All-nil, All-weaker}
use Rattle.vme_trace.specs.Followed.{with_steps}
use Rattle.vme_trace.specs.Trace.{Trace}
use Rattle.vme_trace.specs.declared.step.Step.{Step}
use Rattle.vcd_read.specs.Bodies.{until_fault}
use Rattle.vcd_read.specs.Body.{BodyItem, BodyContext, at_the_end, body_from}
use Rattle.vcd_read.specs.Body.{context_after, time_item, wrong}
use Rattle.vcd_read.specs.Header.{◌>>=◌, Net}
use Rattle.vcd_read.specs.Numbers.{number}
use Rattle.vcd_read.specs.BodyFold.{State, BodyFold, at_end, ended, progress_after, reached_before, state_at, steps}
use Rattle.vcd_read.specs.BodyFold.{with_progress}
use Rattle.vcd_read.specs.Tokens.{tokens_from}
use Rattle.vcd_read.specs.declared.fault.VcdFault.{VcdFault}
use Rattle.vcd_read.proofs.BodyLemmas.{reached_after}
use Rattle.vcd_read.proofs.ContextLemmas.{context_after-time, now-now_after}
use Rattle.vcd_read.proofs.TimeLemmas.{time-advanced}
use Rattle.vme_bind.specs.BuilderState.{BuilderState, builder_change, builder_instant}
use Rattle.vme_bind.specs.Recording.{step_between}
use Rattle.vme_bind.specs.SpeculativeReading.{with_recording}
use Rattle.vme_bind.specs.TextReading.{TextReading, following, reading_ahead, reading_made, reading_until_fault}
use Rattle.vme_step_reader.specs.StepReading.{StepReading, whole_reading}
use Rattle.vme_step_reader.proofs.PieceSteps.{IsIndependentOfRecorded, time-whole_reading}

-- ---- the time after an item

-- a time that ends an instant is later than it
lt-end_of_instant : (has_instant : Bool) (t now : ℕ) → now ≤ t → (has_instant && not (t == now)) ≡ true → now < t
lt-end_of_instant true t now le e = grind (arith, nat_tests)
lt-end_of_instant false t now le e = absurd cc

-- ---- steps from one time on

module _ (from : ℕ) where
  -- all steps are at time `from` or later, and before time `to`
  abbrev AreBefore : ℕ → List Step → Type 0
  AreBefore to ss = All (λ (step : Step). (from ≤ step.time) × (step.time < to)) ss

  -- all steps are at time `from` or later, and at time `to` or before
  abbrev AreUpTo : ℕ → List Step → Type 0
  AreUpTo to ss = All (λ (step : Step). (from ≤ step.time) × (step.time ≤ to)) ss

  -- steps before a time are before a later one
  AreBefore-later : (a b : ℕ) → a ≤ b → (ss : List Step) → AreBefore a ss → AreBefore b ss
  AreBefore-later a b le ss h =
      All-weaker (λ (s : Step). (from ≤ s.time) × (s.time < a)) (λ (s : Step). (from ≤ s.time) × (s.time < b))
      (λ s p. (p.0, omega (arith, p.1, le))) ss h

  -- steps before a time are up to it
  AreUpTo-AreBefore : (to : ℕ) (ss : List Step) → AreBefore to ss → AreUpTo to ss
  AreUpTo-AreBefore to ss h =
      All-weaker (λ (s : Step). (from ≤ s.time) × (s.time < to)) (λ (s : Step). (from ≤ s.time) × (s.time ≤ to))
      (λ s p. (p.0, omega (arith, p.1))) ss h

  -- a step before a time, if there is one (`b`), is before it
  AreBefore-one : (b : Bool) (step : Step) (to : ℕ) → from ≤ step.time → step.time < to
      → AreBefore to (cond b (step ∷ []) [])
  AreBefore-one true step to late lt =
      All-cons (λ (s : Step). (from ≤ s.time) × (s.time < to)) step [] (late, lt)
      (All-nil (λ (s : Step). (from ≤ s.time) × (s.time < to)))
  AreBefore-one false step to late lt = All-nil (λ (s : Step). (from ≤ s.time) × (s.time < to))

  -- a step, if there is one (`b`), is up to its own time
  AreUpTo-one : (b : Bool) (step : Step) → from ≤ step.time → AreUpTo step.time (cond b (step ∷ []) [])
  AreUpTo-one true step late =
      All-cons (λ (s : Step). (from ≤ s.time) × (s.time ≤ step.time)) step [] (late, omega arith)
      (All-nil (λ (s : Step). (from ≤ s.time) × (s.time ≤ step.time)))
  AreUpTo-one false step late = All-nil (λ (s : Step). (from ≤ s.time) × (s.time ≤ step.time))

  -- ---- the steps that are made so far: all from `from` on, and before the current time

  -- the current time is `from` or later, and the steps that are made so far are before it
  record IsMade (p : BodyFold BuilderState) : Type 0 where
    late : from ≤ p.time
    before : AreBefore p.time p.accumulator.recorded.steps

  -- `IsMade` still holds after another time is read
  IsMade-advanced : (test : Bool) (p : BodyFold BuilderState) (t : ℕ) → IsMade p → p.time ≤ t
      → (test ≡ true → p.time < t)
      → IsMade (cond test (record { accumulator = builder_instant p.accumulator p.time; time = t; has_instant = true })
      (record p { time = t; has_instant = true }))
  IsMade-advanced true p t h le later = record {
    late = omega (arith, h.late, le);
    before = All-append (λ (s : Step). (from ≤ s.time) × (s.time < t)) p.accumulator.recorded.steps
        (step_between p.time p.accumulator.progress.shown p.accumulator.progress.now)
        (AreBefore-later p.time t le p.accumulator.recorded.steps h.before) (AreBefore-one _ _ t h.late (later refl));
  }
  IsMade-advanced false p t h le later = record {
    late = omega (arith, h.late, le);
    before = AreBefore-later p.time t le p.accumulator.recorded.steps h.before;
  }

  -- the context and the progress have one current time, and the steps are made so
  record IsAt (s : State BuilderState) : Type 0 where
    at : s.context.now ≡ s.progress.time
    made : IsMade s.progress

  module _ (nets : List Net) where
    -- the progress after an item
    abbrev after : BodyFold BuilderState → BodyItem → BodyFold BuilderState
    after p item = progress_after builder_change builder_instant nets p item

    -- the state after an item, with the context `next`
    abbrev state_after : State BuilderState → BodyItem → BodyContext → State BuilderState
    state_after s item next = record { context = next; progress = after s.progress item }

    -- `IsAt` still holds where neither the time nor the steps change
    IsAt-same_time : (s : State BuilderState) (p : BodyFold BuilderState) (next : BodyContext) → IsAt s → p.time
        ≡ s.progress.time
        → p.accumulator.recorded.steps ≡ s.progress.accumulator.recorded.steps → next.now ≡ s.context.now
        → IsAt (record { context = next; progress = p })
    IsAt-same_time s p next h same steps now = record {
      at = now ∙ h.at ∙ sym same;
      made = record {
        late = subst (λ (t : ℕ). from ≤ t) (sym same) h.made.late;
        before = subst (λ (t : ℕ). AreBefore t p.accumulator.recorded.steps) (sym same)
            (subst (AreBefore s.progress.time) (sym steps) h.made.before);
      };
    }

    -- `IsAt` still holds after an item without a fault
    IsAt-item : (s : State BuilderState) (item : BodyItem) (next : BodyContext) → IsAt s
        → context_after nets s.context item ≡ Ok next → IsAt (state_after s item next)
    IsAt-item s (time_item line digits) next h ok =
        let (read, now, le) = context_after-time nets s.context next line digits ok in
        let p = s.progress in
        let test : Bool = p.has_instant && not (number digits == p.time) in
        let late : p.time ≤ number digits = omega (arith, le, h.at) in
        record {
          at = now ∙ sym (time-advanced builder_change builder_instant nets test p (number digits));
          made = IsMade-advanced test p (number digits) h.made late
              (lt-end_of_instant p.has_instant (number digits) p.time late);
        }
    IsAt-item s (wrong line kind) next h ok = absurd cc
    IsAt-item s item next h ok =
        IsAt-same_time s (after s.progress item) next h refl refl (now-now_after nets s.context next item ok).0

    -- ---- items

    -- `IsAt` still holds after an item, and then items after which it still holds, up to their first fault
    IsAt-reached_before_item : (s : State BuilderState) (item : BodyItem) (items : List BodyItem)
        (stood : Result BodyContext VcdFault)
        → context_after nets s.context item ≡ stood → IsAt s
        → ((next : State BuilderState) → IsAt next
        → IsAt (reached_before builder_change builder_instant nets next items))
        → IsAt (reached_after builder_change builder_instant nets s items
        (with_progress (after s.progress item) stood))
    IsAt-reached_before_item s item items (Ok next) e h rest = rest (state_after s item next)
        (IsAt-item s item next h e)
    IsAt-reached_before_item s item items (Err fault) e h rest = h

    -- `IsAt` still holds after items, up to their first fault
    IsAt-reached_before : (s : State BuilderState) (items : List BodyItem) → IsAt s
        → IsAt (reached_before builder_change builder_instant nets s items)
    unfolding reached_before
    IsAt-reached_before s [] h = h
    IsAt-reached_before s (item ∷ items) h = IsAt-reached_before_item s item items (context_after nets s.context item)
        refl h
        (λ next at. IsAt-reached_before next items at)

    -- where an item and those after it have no fault, all are reached
    reached_before-whole_item : (s end : State BuilderState) (item : BodyItem) (items : List BodyItem)
        (stood : Result BodyContext VcdFault)
        → (with_progress (after s.progress item) stood >>= λ next. steps builder_change builder_instant nets next items)
        ≡ Ok end
        → ((next : State BuilderState) → steps builder_change builder_instant nets next items ≡ Ok end
        → reached_before builder_change builder_instant nets next items ≡ end)
        → reached_after builder_change builder_instant nets s items (with_progress (after s.progress item) stood) ≡ end
    reached_before-whole_item s end item items (Ok next) whole rest = rest (state_after s item next) whole
    reached_before-whole_item s end item items (Err fault) whole rest = absurd cc

    -- where there is no fault, all items are reached
    reached_before-whole : (s end : State BuilderState) (items : List BodyItem)
        → steps builder_change builder_instant nets s items ≡ Ok end
        → reached_before builder_change builder_instant nets s items ≡ end
    unfolding reached_before steps
    reached_before-whole s end [] whole = cc
    reached_before-whole s end (item ∷ items) whole = reached_before-whole_item s end item items
        (context_after nets s.context item) whole
        (λ next all. reached_before-whole next end items all)

  -- ---- the result of reading

  -- the time of a reading is `from` or later, its steps are up to it, and before a fault they are before it
  pub record TimesOf (reading : TextReading) : Type 0 where
    pub late : from ≤ reading.time
    pub up_to : AreUpTo reading.time reading.recorded.steps
    pub before : (fault : VcdFault) → reading.fault ≡ Some fault → AreBefore reading.time reading.recorded.steps

  -- `TimesOf` holds of a reading that stops at a fault
  TimesOf-fault : (p : BodyFold BuilderState) (fault : VcdFault) → IsMade p
      → TimesOf (reading_made p.accumulator.recorded p.time (Err fault))
  TimesOf-fault p fault h = record {
    late = h.late;
    up_to = AreUpTo-AreBefore p.time p.accumulator.recorded.steps h.before;
    before = λ f is. h.before;
  }

  -- after the current instant has ended, the steps are up to its time
  AreUpTo-ended : (has_instant : Bool) (p : BodyFold BuilderState) → IsMade p
      → AreUpTo p.time (cond has_instant (builder_instant p.accumulator p.time) p.accumulator).recorded.steps
  AreUpTo-ended true p h =
      All-append (λ (s : Step). (from ≤ s.time) × (s.time ≤ p.time)) p.accumulator.recorded.steps
      (step_between p.time p.accumulator.progress.shown p.accumulator.progress.now)
      (AreUpTo-AreBefore p.time p.accumulator.recorded.steps h.before) (AreUpTo-one _ (record {
        time = p.time;
        changes = _;
      }) h.late)
  AreUpTo-ended false p h = AreUpTo-AreBefore p.time p.accumulator.recorded.steps h.before

  -- `TimesOf` holds of a reading that comes to the end of the body, or to a dump section that is open there
  TimesOf-end : (p : BodyFold BuilderState) (stood : Result BodyContext VcdFault) → IsMade p
      → TimesOf (reading_made p.accumulator.recorded p.time (stood >>= λ end. Ok (ended builder_instant p)))
  TimesOf-end p (Ok end) h = record {
    late = h.late;
    up_to = AreUpTo-ended p.has_instant p h;
    before = λ fault is. absurd cc;
  }
  TimesOf-end p (Err fault) h = TimesOf-fault p fault h

  -- `TimesOf` holds of a reading that comes to the last item, or stops before
  TimesOf-outcome : (reached : State BuilderState) (outcome : Result (State BuilderState) VcdFault) → IsAt reached
      → ((end : State BuilderState) → outcome ≡ Ok end → reached ≡ end)
      → TimesOf (reading_made reached.progress.accumulator.recorded reached.progress.time
      (outcome >>= at_end builder_instant))
  TimesOf-outcome reached (Ok end) h whole =
      subst (λ (s : State BuilderState). TimesOf (reading_made reached.progress.accumulator.recorded
      reached.progress.time (at_end builder_instant s))) (whole end refl)
      (TimesOf-end reached.progress (at_the_end reached.context) h.made)
  TimesOf-outcome reached (Err fault) h whole = TimesOf-fault reached.progress fault h.made

  -- `TimesOf` holds of a reading of any items
  TimesOf-items : (nets : List Net) (s : State BuilderState) (items : List BodyItem) → IsAt s
      → TimesOf (reading_until_fault (until_fault builder_change builder_instant nets s items))
  TimesOf-items nets s items h =
      TimesOf-outcome (reached_before builder_change builder_instant nets s items)
      (steps builder_change builder_instant nets s items) (IsAt-reached_before nets s items h)
      (λ end whole. reached_before-whole nets s end items whole)

-- ---- the steps that follow what was given

-- what is recorded after what was given
abbrev after_given : StepReading → List ℕ → TextReading
after_given r rest = reading_ahead (with_recording (record { opening = r.given.opening; steps = [] }) r.speculative)
    (tokens_from r.speculative.body.line rest) []

-- `TimesOf` holds of what is recorded after what was given, from the last time that was read on
after_given-times : (r : StepReading) (rest : List ℕ) → TimesOf r.speculative.body.progress.time (after_given r rest)
after_given-times r rest =
    let none : Trace = record { opening = r.given.opening; steps = [] } in
    let time = r.speculative.body.progress.time in
    TimesOf-items time r.speculative.body.nets
    (state_at (with_recording none r.speculative).body.progress r.speculative.body.dump_section)
    (body_from r.speculative.body.place (tokens_from r.speculative.body.line rest ++ [])) (record {
      at = refl;
      made = record {
        late = omega arith;
        before = All-nil (λ (s : Step). (time ≤ s.time) × (s.time < time));
      };
    })

module _ (is_front : IsIndependentOfRecorded) (r : StepReading) (rest : List ℕ) (more : List Step)
    (is : (whole_reading r rest).recorded ≡ with_steps r.given more) where
  -- the whole reading is what was given, and then what is recorded after it
  whole_reading-after_given : whole_reading r rest ≡ following r.given (after_given r rest)
  whole_reading-after_given = is_front r.speculative r.given r.given.opening (tokens_from r.speculative.body.line rest)
      []

  -- the steps that are recorded after what was given are those still to come
  steps-after_given : (after_given r rest).recorded.steps ≡ more
  steps-after_given =
      append_cancel_left r.given.steps (after_given r rest).recorded.steps more
      (sym (ap (λ (x : TextReading). x.recorded.steps) whole_reading-after_given) ∙ ap (λ (t : Trace). t.steps) is)

  -- the time of the whole reading is that of what is recorded after what was given
  time-after_given : (whole_reading r rest).time ≡ (after_given r rest).time
  time-after_given = ap (λ (x : TextReading). x.time) whole_reading-after_given

  -- the last time of the text isn't earlier than the last that was read
  pub time-not_earlier : (whole_reading r []).time ≤ (whole_reading r rest).time
  time-not_earlier = omega (arith, (after_given-times r rest).late, time-whole_reading r, time-after_given)

  -- no step that is still to come is before the last time that was read
  pub steps-not_earlier : All (λ (step : Step). (whole_reading r []).time ≤ step.time) more
  steps-not_earlier =
      subst (λ (ss : List Step). All (λ (step : Step). (whole_reading r []).time ≤ step.time) ss) steps-after_given
      (All-weaker (λ (s : Step). (r.speculative.body.progress.time ≤ s.time) × (s.time ≤ (after_given r rest).time))
      (λ (s : Step). (whole_reading r []).time ≤ s.time) (λ s p. omega (arith, p.0, time-whole_reading r))
      (after_given r rest).recorded.steps (after_given-times r rest).up_to)

  -- no step that is still to come is later than the last time of the text
  pub steps-up_to_time : All (λ (step : Step). step.time ≤ (whole_reading r rest).time) more
  steps-up_to_time =
      subst (λ (ss : List Step). All (λ (step : Step). step.time ≤ (whole_reading r rest).time) ss) steps-after_given
      (All-weaker (λ (s : Step). (r.speculative.body.progress.time ≤ s.time) × (s.time ≤ (after_given r rest).time))
      (λ (s : Step). s.time ≤ (whole_reading r rest).time) (λ s p. omega (arith, p.1, time-after_given))
      (after_given r rest).recorded.steps (after_given-times r rest).up_to)

  -- before a fault, each step that is still to come is before the last time of the text
  pub steps-before_fault : (fault : VcdFault) → (whole_reading r rest).fault ≡ Some fault
      → All (λ (step : Step). step.time < (whole_reading r rest).time) more
  steps-before_fault fault faulty =
      subst (λ (ss : List Step). All (λ (step : Step). step.time < (whole_reading r rest).time) ss) steps-after_given
      (All-weaker (λ (s : Step). (r.speculative.body.progress.time ≤ s.time) × (s.time < (after_given r rest).time))
      (λ (s : Step). s.time < (whole_reading r rest).time) (λ s p. omega (arith, p.1, time-after_given))
      (after_given r rest).recorded.steps
      ((after_given-times r rest).before fault (sym (ap (λ (x : TextReading). x.fault) whole_reading-after_given)
      ∙ faulty)))
