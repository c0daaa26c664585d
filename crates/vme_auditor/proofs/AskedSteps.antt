-- Up to each instant of a recording the audit has noted a rule as asked exactly if its event happens in a stretch that
-- has started by then.
use Rattle.std.proofs.Common.{◌≡◌, ℕ, zero, suc, ◌+◌, ◌<◌, ◌≤◌, Bool, true, false, ◌||◌, List, [], ◌∷◌, ◌++◌, length}
use Rattle.std.proofs.Common.{refl}
use Rattle.std.proofs.Common.{sym, ◌∙◌, ap, subst, arith, cond, inl, inr, Option, None, Some}
use Rattle.std.specs.Prelude.{min, slice_get}
use Rattle.std.specs.List.{list_any}
use Rattle.std.specs.Option.{option_map_or}
use Rattle.std.proofs.Math.Bool.{or-false, or_assoc}
use Rattle.vme_trace.specs.Changes.{touches_control}
use Rattle.vme_trace.specs.Instants.{any}
use Rattle.vme_trace.specs.Judged.{IsStretchOf, Stretch, stretch_from, stretch_starts}
use Rattle.vme_trace.specs.Levels.{Levels, is_idle}
use Rattle.vme_trace.specs.Rules.{ends_stretch}
use Rattle.vme_trace.specs.Trace.{Trace, levels_at}
use Rattle.vme_trace.specs.WellFormed.{malformed_step}
use Rattle.vme_trace.specs.declared.rule.Rule.{Rule}
use Rattle.vme_trace.specs.declared.rule.Rule.TheVariants as rule
use Rattle.vme_trace.specs.declared.step.Change.{Change}
use Rattle.vme_trace.proofs.JudgedStretches.{stretches_before-no_start, stretches_before-starts}
use Rattle.vme_trace.proofs.Ranges.{fails-any, any-next}
use Rattle.vme_monitor.specs.Along.{changes_of, memory_from, next_at}
use Rattle.vme_monitor.specs.Ends.{end_among}
use Rattle.vme_monitor.specs.KnownRules.{known_begin, known_end_fault, known_next, known_start_marks, known_reset_marks}
use Rattle.vme_monitor.specs.OverStretches.{has_started, judging, phase_step, opening_phase}
use Rattle.vme_monitor.specs.Run.{quiet, no_end_fault, no_start_marks, no_step_marks}
use Rattle.vme_monitor.specs.declared.known.Stateless.{Stateless}
use Rattle.vme_monitor.specs.declared.mark.Next.{Next}
use Rattle.vme_monitor.specs.declared.mark.StepMarks.{StepMarks}
use Rattle.vme_monitor.specs.declared.over_stretches.StretchObservation.{StretchObservation}
use Rattle.vme_monitor.specs.declared.over_stretches.StretchPhase.{StretchPhase}
use Rattle.vme_monitor.specs.declared.over_stretches.StretchPhase.TheVariants as phase
use Rattle.vme_monitor.specs.declared.view.End.{End}
use Rattle.vme_monitor.specs.declared.view.End.TheVariants as end
use Rattle.vme_monitor.proofs.Alongside.{nat_lt-zero}
use Rattle.vme_monitor.proofs.StretchFacts.{IsStretch, stretch_facts}
use Rattle.vme_monitor.proofs.StretchLists.{AreOver, started_stretches, started_stretches-none, started_stretches-one}
use Rattle.vme_monitor.proofs.OuterMachine.{IsAtWork, JudgesOn, Loses, Resets, Stands, inner_at, StepCase-at}
use Rattle.vme_monitor.proofs.OuterMachine.{outer_next, Stands-at}
use Rattle.vme_monitor.proofs.Transitions.{outer-in_stretch, waits}
use Rattle.vme_dtb.specs.Machine.{dtb_begin, dtb_observation, dtb_step}
use Rattle.vme_dtb.specs.declared.memory.HandshakeMemory.{HandshakeMemory}
use Rattle.vme_dtb.proofs.HandshakeMeaning.{Holds}
use Rattle.vme_dtb.proofs.HandshakeInstants.{Holds-at}
use Rattle.vme_dtb.proofs.StillSteps.{machine_step-dtb_next}
use Rattle.vme_summary.specs.Runs.{handshake_at, known_at}
use Rattle.vme_audit.specs.AskedRules.{happens}
use Rattle.vme_auditor.specs.Audited.{events_by, events_in, with_stretch}
use Rattle.vme_auditor.specs.Events.{asks_by, at_step}
use Rattle.vme_auditor.specs.declared.asked.AskedEvents.{AskedEvents}
use Rattle.vme_auditor.proofs.AskedAt.{asks_by-after_step, shown}
use Rattle.vme_auditor.proofs.EventFields.{stretch-at_step}

-- some element of `xs ++ ys` satisfies `p` exactly if one of `xs` or one of `ys` does
pub list_any-append : {A : Type 0} (p : A → Bool) (xs ys : List A) → list_any p (xs ++ ys)
    ≡ (list_any p xs || list_any p ys)
list_any-append p [] ys = refl
list_any-append p (x ∷ xs) ys =
    ap (λ b. p x || b) (list_any-append p xs ys) ∙ sym (or_assoc (p x) (list_any p xs) (list_any p ys))

-- the start of a stretch changes no other event than that of U1
pub asks_by-with_stretch : (r : Rule) (e : AskedEvents) (b : Bool) → ends_stretch r ≡ false
    → asks_by (with_stretch e b) r
    ≡ asks_by e r
asks_by-with_stretch rule.U1 e b h = absurd (cc)
asks_by-with_stretch r e b h = refl

-- judging has started after a step where it had started before it, or starts at it
abbrev StartsBy : StretchPhase Stateless → Next (StretchPhase Stateless) → Type 0
StartsBy m n = has_started n.memory ≡ (has_started m || n.shown.start)

-- a step of the monitor of stretches with an observation
abbrev known_phase_step : StretchPhase Stateless → Levels → Levels → StretchObservation Stateless
    → Next (StretchPhase Stateless)
known_phase_step = phase_step known_begin known_start_marks known_reset_marks known_end_fault known_next

-- a step of the monitor of stretches in the phase `m`, which waits, by whether the bus is idle after it
abbrev known_waiting : StretchPhase Stateless → Levels → Bool → Next (StretchPhase Stateless)
known_waiting m w idle =
    cond idle (record { memory = phase.InStretch (known_begin w); fault = None; shown = known_start_marks w }) (quiet m)

-- `StartsBy` holds of a step of a monitor that waits
StartsBy-waiting : (w : Levels) (idle : Bool) → StartsBy phase.Waiting (known_waiting phase.Waiting w idle)
StartsBy-waiting w true = refl
StartsBy-waiting w false = refl

-- `StartsBy` holds of a step of a monitor that waits after a reset
StartsBy-reset : (w : Levels) (idle : Bool) → StartsBy phase.Reset (known_waiting phase.Reset w idle)
StartsBy-reset w true = refl
StartsBy-reset w false = refl

-- `StartsBy` holds of a step of a monitor that judges
StartsBy-judging : (p : Stateless) (v w : Levels) (e : Option End) → StartsBy (phase.InStretch p)
    (judging known_begin known_start_marks known_reset_marks known_end_fault known_next p v w e None)
StartsBy-judging p v w (Some end.Reset) = refl
StartsBy-judging p v w (Some (end.Lost l)) = refl
StartsBy-judging p v w None = refl

-- `StartsBy` holds of a step with an observation
StartsBy-phase_step : (m : StretchPhase Stateless) (v w : Levels) (e : Option End) → StartsBy m
    (known_phase_step m v w (record { end = e; inner = None }))
StartsBy-phase_step phase.Waiting v w e = StartsBy-waiting w (is_idle w)
StartsBy-phase_step (phase.InStretch p) v w e = StartsBy-judging p v w e
StartsBy-phase_step phase.Reset v w e = StartsBy-reset w (is_idle w)
StartsBy-phase_step phase.Ended v w e = refl

-- `StartsBy` holds of a step with an observation or without one
StartsBy-observed : (m : StretchPhase Stateless) (v w : Levels) (e : Option End) (b : Bool) → StartsBy m
    (option_map_or (known_phase_step m v w) (cond b (Some (record { end = e; inner = None })) None) (quiet m))
StartsBy-observed m v w e true = StartsBy-phase_step m v w e
StartsBy-observed m v w e false = sym (or-false (has_started m))

-- `StartsBy` holds of each step of the monitor of stretches
pub StartsBy-known_at : (m : StretchPhase Stateless) (v w : Levels) (cs : List Change) → StartsBy m (known_at m v w cs)
StartsBy-known_at m v w cs = StartsBy-observed m v w (end_among w cs) (touches_control w.slots cs || false)

-- the events of a step leave `stretch` as it is
stretch-events_in : (e : AskedEvents) (m : StretchPhase HandshakeMemory) (o : Option End) (v w : Levels)
    (cs : List Change)
    (kinds : StepMarks) → (events_in e m o v w cs kinds).stretch ≡ e.stretch
stretch-events_in e (phase.InStretch p) None v w cs kinds = stretch-at_step e p v w cs kinds
stretch-events_in e (phase.InStretch p) (Some o) v w cs kinds = refl
stretch-events_in e phase.Waiting o v w cs kinds = refl
stretch-events_in e phase.Reset o v w cs kinds = refl
stretch-events_in e phase.Ended o v w cs kinds = refl

-- a step of a monitor that waits adds no event
events_in-waiting : (e : AskedEvents) (m : StretchPhase HandshakeMemory) (o : Option End) (v w : Levels)
    (cs : List Change)
    (kinds : StepMarks) → waits m ≡ true → events_in e m o v w cs kinds ≡ e
events_in-waiting e phase.Waiting o v w cs kinds h = refl
events_in-waiting e (phase.InStretch p) o v w cs kinds h = absurd (cc)
events_in-waiting e phase.Reset o v w cs kinds h = refl
events_in-waiting e phase.Ended o v w cs kinds h = absurd (cc)

-- if the phase waits after a step in a stretch, the step has an end
end-of_waiting : (p : HandshakeMemory) (v w : Levels) (o : Option End) (s : Option (Unit {0}))
    → waits (judging dtb_begin no_start_marks no_step_marks no_end_fault dtb_step p v w o s).memory ≡ true
    → (l : End) × (o ≡ Some l)
end-of_waiting p v w (Some e) s h = (e, refl)
end-of_waiting p v w None None h = absurd (cc)
end-of_waiting p v w None (Some s) h = absurd (cc)

-- the stretch was cut off by a lost line
abbrev is_over : {P : Type 0} → StretchPhase P → Bool
is_over phase.Waiting = false
is_over (phase.InStretch p) = false
is_over phase.Reset = false
is_over phase.Ended = true

-- if the phase is over after a step in a stretch, the step has an end
end-of_over : (p : HandshakeMemory) (v w : Levels) (o : Option End) (s : Option (Unit {0}))
    → is_over (judging dtb_begin no_start_marks no_step_marks no_end_fault dtb_step p v w o s).memory ≡ true
    → (l : End) × (o ≡ Some l)
end-of_over p v w (Some e) s h = (e, refl)
end-of_over p v w None None h = absurd (cc)
end-of_over p v w None (Some s) h = absurd (cc)

-- the phase is in a stretch
abbrev is_judging : {P : Type 0} → StretchPhase P → Bool
is_judging phase.Waiting = false
is_judging (phase.InStretch p) = true
is_judging phase.Reset = false
is_judging phase.Ended = false

-- if the phase is still in a stretch after the step, the step has no end
no_end-of_judging : (p : HandshakeMemory) (v w : Levels) (o : Option End) (s : Option (Unit {0}))
    → is_judging (judging dtb_begin no_start_marks no_step_marks no_end_fault dtb_step p v w o s).memory ≡ true → o
    ≡ None
no_end-of_judging p v w (Some end.Reset) s h = absurd (cc)
no_end-of_judging p v w (Some (end.Lost l)) s h = absurd (cc)
no_end-of_judging p v w None s h = refl

-- the last of stretches that have ended at `n` or before has ended there or before
AreOver-last : (n : ℕ) (past : List Stretch) (stretch : Stretch) → AreOver n (past ++ stretch ∷ []) → stretch.end ≤ n
AreOver-last n [] stretch h = h.0
AreOver-last n (s ∷ past) stretch h = AreOver-last n past stretch h.1

module _ (t : Trace) (ok : malformed_step t ≡ None) (few : t.opening.slots ≤ 21) where
  -- the changes of the step from instant n to the next
  abbrev pub cs_at : ℕ → List Change
  cs_at n = changes_of (slice_get t.steps n)

  -- the memory of the monitor of stretches at instant n
  abbrev pub known_phase : ℕ → StretchPhase Stateless
  known_phase n = memory_from known_at t (opening_phase known_begin t.opening) 0 n

  -- the memory of the handshake monitor at instant n
  abbrev pub phase_at : ℕ → StretchPhase HandshakeMemory
  phase_at n = memory_from handshake_at t (opening_phase dtb_begin t.opening) 0 n

  -- the events of the step from an instant to the next
  abbrev pub then_at : AskedEvents → ℕ → AskedEvents
  then_at e n =
      events_by e (phase_at n) (end_among (levels_at t (suc n)) (cs_at n)) (levels_at t n) (levels_at t (suc n))
      (cs_at n)
      (next_at known_at t (known_phase n) n).shown (next_at handshake_at t (phase_at n) n).shown

  -- the events up to an instant
  abbrev pub asked_to : AskedEvents → ℕ → AskedEvents
  asked_to e zero = e
  asked_to e (suc n) = then_at (asked_to e n) n

  -- `stretch` is among the events up to instant `n` exactly if it was before, or judging has started by `n`
  pub stretch-asked_to : (e : AskedEvents) (n : ℕ) → n ≤ length t.steps
      → (asked_to (with_stretch e (has_started (opening_phase known_begin t.opening))) n).stretch
      ≡ (e.stretch || has_started (known_phase n))
  stretch-asked_to e zero h = refl
  stretch-asked_to e (suc n) h =
      let from = asked_to (with_stretch e (has_started (opening_phase known_begin t.opening))) n in
      let kinds = (next_at known_at t (known_phase n) n).shown in
      ap (λ b. b || kinds.start)
      (stretch-events_in from (phase_at n) (end_among (levels_at t (suc n)) (cs_at n)) (levels_at t n)
      (levels_at t (suc n))
      (cs_at n) (next_at handshake_at t (phase_at n) n).shown
      ∙ stretch-asked_to e n (omega arith))
      ∙ or_assoc e.stretch (has_started (known_phase n)) kinds.start
      ∙ ap (λ b. e.stretch || b)
      (sym (rw (nat_lt-zero n) (StartsBy-known_at (known_phase n) (levels_at t n) (levels_at t (suc n)) (cs_at n))))

  -- a rule other than U1, whose event is the stretch itself
  module _ (r : Rule) (own : ends_stretch r ≡ false) where
    -- the event of rule `r` happens in the stretch, up to instant `n`
    abbrev pub happened_by : ℕ → Stretch → Bool
    happened_by n stretch = any (happens t stretch r) (stretch.start + 1) (min stretch.end (suc n))

    -- no event happens in a stretch up to its start
    happened_by-before_start : (n : ℕ) (stretch : Stretch) → n ≤ stretch.start → happened_by n stretch ≡ false
    happened_by-before_start n stretch h =
        fails-any (happens t stretch r) (stretch.start + 1) (min stretch.end (suc n)) (λ i a b. absurd (omega arith))

    -- no more events happen in a stretch that has ended
    happened_by-ended : (n : ℕ) (stretch : Stretch) → stretch.end ≤ suc n → happened_by (suc n) stretch
        ≡ happened_by n stretch
    happened_by-ended n stretch h =
        let same : min stretch.end (suc (suc n)) ≡ min stretch.end (suc n) = omega arith in
        ap (any (happens t stretch r) (stretch.start + 1)) same

    -- at the next instant of a stretch the event has happened if it had before, or happens there
    happened_by-next : (n : ℕ) (stretch : Stretch) → stretch.start ≤ n → suc n < stretch.end
        → happened_by (suc n) stretch
        ≡ (happened_by n stretch || happens t stretch r (suc n))
    happened_by-next n stretch from before =
        let later : min stretch.end (suc (suc n)) ≡ suc (suc n) = omega arith in
        let now : suc n ≡ min stretch.end (suc n) = omega arith in
        ap (any (happens t stretch r) (stretch.start + 1)) later
        ∙ any-next (happens t stretch r) (stretch.start + 1) (suc n) (omega arith)
        ∙ ap (λ k. any (happens t stretch r) (stretch.start + 1) k || happens t stretch r (suc n)) now

    -- no more events happen in stretches that have all ended
    list_any-ended : (n : ℕ) (stretches : List Stretch) → AreOver n stretches → list_any (happened_by (suc n)) stretches
        ≡ list_any (happened_by n) stretches
    list_any-ended n [] h = refl
    list_any-ended n (stretch ∷ stretches) h =
        ap (λ b. b || list_any (happened_by (suc n)) stretches) (happened_by-ended n stretch (omega (arith, h.0)))
        ∙ ap (λ b. happened_by n stretch || b) (list_any-ended n stretches h.1)

    -- a stretch that starts at instant `n + 1` adds no event up to an instant `k ≤ n + 1`
    list_any-new_stretch : (k n : ℕ) → k ≤ suc n → list_any (happened_by k) (started_stretches t (suc n))
        ≡ list_any (happened_by k) (started_stretches t n)
    list_any-new_stretch k n h = by_start (stretch_starts t (suc n)) refl
      where
        by_start : (b : Bool) → stretch_starts t (suc n) ≡ b → list_any (happened_by k) (started_stretches t (suc n))
            ≡ list_any (happened_by k) (started_stretches t n)
        by_start true e =
            ap (list_any (happened_by k)) (stretches_before-starts t (suc n) e)
            ∙ list_any-append (happened_by k) (started_stretches t n) (stretch_from t (suc n) ∷ [])
            ∙ ap (λ b. list_any (happened_by k) (started_stretches t n) || (b || false))
            (happened_by-before_start k (stretch_from t (suc n)) h)
            ∙ or-false (list_any (happened_by k) (started_stretches t n))
        by_start false e = ap (list_any (happened_by k)) (stretches_before-no_start t (suc n) e)

    -- up to instant `n` rule `r` is asked exactly if it was asked before, or its event happens in a started stretch
    abbrev HaveHappened : AskedEvents → ℕ → Type 0
    HaveHappened e n = asks_by (asked_to e n) r ≡ (asks_by e r || list_any (happened_by n) (started_stretches t n))

    -- the step from instant n to the next, if `HaveHappened` holds at n
    module _ (e : AskedEvents) (n : ℕ) (within : n < length t.steps) (so_far : HaveHappened e n) where
      -- the levels before the step
      abbrev v : Levels
      v = levels_at t n

      -- the levels after the step
      abbrev w : Levels
      w = levels_at t (suc n)

      -- what ends a stretch at the step, if anything does
      abbrev ends : Option End
      ends = end_among w (cs_at n)

      -- the marks that the handshake monitor shows at the step
      abbrev kinds : StepMarks
      kinds = (next_at handshake_at t (phase_at n) n).shown

      -- the events up to n
      abbrev before : AskedEvents
      before = asked_to e n

      -- the events up to n and those of the step, before the start of a stretch is noted
      abbrev now : AskedEvents
      now = events_in before (phase_at n) ends v w (cs_at n) kinds

      -- the rule is asked up to n + 1 by the events of `now`
      asks_by-next : asks_by (asked_to e (suc n)) r ≡ asks_by now r
      asks_by-next = asks_by-with_stretch r now (next_at known_at t (known_phase n) n).shown.start own

      -- `HaveHappened` holds at n + 1 if the step adds no event to those noted, and none happens in a stretch
      unjudged : now ≡ before → list_any (happened_by (suc n)) (started_stretches t n)
          ≡ list_any (happened_by n) (started_stretches t n)
          → HaveHappened e (suc n)
      unjudged quiet over =
          asks_by-next ∙ ap (λ (e : AskedEvents). asks_by e r) quiet ∙ so_far
          ∙ ap (λ b. asks_by e r || b) (sym over ∙ sym (list_any-new_stretch (suc n) n (omega arith)))

      -- a step of the handshake monitor in a stretch is one of the phase `InStretch`
      outer_next-judging : (p : HandshakeMemory) → phase_at n ≡ phase.InStretch p
          → outer_next dtb_begin no_start_marks no_step_marks no_end_fault dtb_observation dtb_step t few ok n
          ≡ judging dtb_begin no_start_marks no_step_marks no_end_fault dtb_step p v w ends
          (dtb_observation v w (cs_at n))
      outer_next-judging p at =
          rw at (outer-in_stretch dtb_begin no_start_marks no_step_marks no_end_fault dtb_observation
          dtb_step
          v w (cs_at n) p)

      -- a step that ends the stretch adds no event
      now-ended : (p : HandshakeMemory) (l : End) → phase_at n ≡ phase.InStretch p → ends ≡ Some l → now ≡ before
      now-ended p l at e = rw (at, e) refl

      module _ (work : IsAtWork dtb_begin no_start_marks no_step_marks no_end_fault dtb_observation dtb_step t few ok
          n) where
        -- the stretch in which instant n is
        abbrev here : Stretch
        here = stretch_from t work.start

        -- the memory of the handshake rules at n
        abbrev p : HandshakeMemory
        p = inner_at dtb_begin no_start_marks no_step_marks no_end_fault dtb_observation dtb_step t few ok work.start
            n

        -- the event has happened in a started stretch exactly if in one of those that are over, or in the one in which
        -- n is
        list_any-past_and_here : (k : ℕ) → list_any (happened_by k) (started_stretches t n)
            ≡ (list_any (happened_by k) work.past || happened_by k here)
        list_any-past_and_here k =
            ap (list_any (happened_by k)) work.stretches ∙ list_any-append (happened_by k) work.past (here ∷ [])
            ∙ ap (λ b. list_any (happened_by k) work.past || b) (or-false (happened_by k here))

        -- `HaveHappened` holds at n + 1 if the stretch ends there
        HaveHappened-ended : (l : End) → ends ≡ Some l → here.end ≤ suc n → HaveHappened e (suc n)
        HaveHappened-ended l at last =
            unjudged (now-ended p l work.memory at)
            (list_any-past_and_here (suc n)
            ∙ ap (λ b. b || happened_by (suc n) here) (list_any-ended n work.past work.over)
            ∙ ap (λ b. list_any (happened_by n) work.past || b) (happened_by-ended n here last)
            ∙ sym (list_any-past_and_here n))

        -- the stretch is one of those that are judged
        is_stretch : IsStretchOf t here
        is_stretch = record {
          within = omega (arith, work.running.from, within);
          starts = work.running.starts;
          ends = refl;
        }

        module _ (on : JudgesOn dtb_begin no_start_marks no_step_marks no_end_fault dtb_observation dtb_step t few ok
            n work) where
          -- nothing ends the stretch at the step
          ends-none : ends ≡ None
          ends-none =
              no_end-of_judging p v w ends (dtb_observation v w (cs_at n))
              (ap (λ (x : Next (StretchPhase HandshakeMemory)). is_judging x.memory)
              (sym (outer_next-judging p work.memory) ∙ on.step))

          -- what is known of a judged stretch holds of the one in which n is
          facts : IsStretch t here
          facts = stretch_facts t here is_stretch

          -- the memory of the handshake rules says what has happened up to n (`Holds`)
          holds : Holds t here n p
          holds = Holds-at t here facts n work.running.from (omega (arith, on.before))

          -- the marks of the step are those of the handshake rules
          kinds-shown : kinds ≡ shown t ok few here facts n work.running.from on.before within p holds
          kinds-shown =
              ap (λ (x : Next (StretchPhase HandshakeMemory)). x.shown) on.step
              ∙ ap (λ (x : Next HandshakeMemory). x.shown) (machine_step-dtb_next t here n p holds (cs_at n))

          -- the events of the step are added to those noted
          now-at_step : now ≡ at_step before p v w (cs_at n)
              (shown t ok few here facts n work.running.from on.before within p holds)
          now-at_step =
              ap (λ (k : StepMarks). events_in before (phase_at n) ends v w (cs_at n) k) kinds-shown
              ∙ rw (work.memory, ends-none) refl

          -- `HaveHappened` holds at n + 1 if that is in the stretch too
          HaveHappened-judging : HaveHappened e (suc n)
          HaveHappened-judging =
              asks_by-next ∙ ap (λ (e : AskedEvents). asks_by e r) now-at_step
              ∙ asks_by-after_step t ok few here facts n work.running.from on.before within p holds before r
              ∙ ap (λ b. b || happens t here r (suc n)) (so_far ∙ ap (λ b. asks_by e r || b) (list_any-past_and_here n))
              ∙ or_assoc (asks_by e r) (list_any (happened_by n) work.past || happened_by n here)
              (happens t here r (suc n))
              ∙ ap (λ b. asks_by e r || b)
              (or_assoc (list_any (happened_by n) work.past) (happened_by n here) (happens t here r (suc n))
              ∙ ap (λ b. list_any (happened_by n) work.past || b)
              (sym (happened_by-next n here work.running.from on.before))
              ∙ ap (λ b. b || happened_by (suc n) here) (sym (list_any-ended n work.past work.over))
              ∙ sym (list_any-past_and_here (suc n)) ∙ sym (list_any-new_stretch (suc n) n (omega arith)))

        -- `HaveHappened` holds at n + 1 if the bus is reset there
        HaveHappened-reset : Resets dtb_begin no_start_marks no_step_marks no_end_fault dtb_observation dtb_step t few
            ok n work
            → HaveHappened e (suc n)
        HaveHappened-reset reset =
            let end = end-of_waiting p v w ends (dtb_observation v w (cs_at n))
            (ap (λ (x : Next (StretchPhase HandshakeMemory)). waits x.memory)
            (sym (outer_next-judging p work.memory) ∙ reset.step)) in
            HaveHappened-ended end.0 end.1 (omega (arith, reset.last))

        -- `HaveHappened` holds at n + 1 if a control line is lost there
        HaveHappened-lost : Loses dtb_begin no_start_marks no_step_marks no_end_fault dtb_observation dtb_step t few
            ok n work
            → HaveHappened e (suc n)
        HaveHappened-lost loses =
            let end = end-of_over p v w ends (dtb_observation v w (cs_at n))
            (ap (λ (x : Next (StretchPhase HandshakeMemory)). is_over x.memory)
            (sym (outer_next-judging p work.memory) ∙ loses.step)) in
            HaveHappened-ended end.0 end.1 (omega (arith, loses.last))

      -- `HaveHappened` holds at n + 1 if n is in no judged stretch
      HaveHappened-unjudged : AreOver n (started_stretches t n)
          → Stands dtb_begin no_start_marks no_step_marks no_end_fault dtb_observation dtb_step t few ok n
          → HaveHappened e (suc n)
      HaveHappened-unjudged over (inl rest) =
          unjudged (events_in-waiting before (phase_at n) ends v w (cs_at n) kinds rest.waiting)
          (list_any-ended n (started_stretches t n) over)
      HaveHappened-unjudged over (inr (inl work)) =
          let past_end = AreOver-last n work.past (stretch_from t work.start) (subst (AreOver n) work.stretches over) in
          absurd (omega (arith, past_end, work.running.before))
      HaveHappened-unjudged over (inr (inr at_end)) =
          unjudged (rw at_end.ended refl) (list_any-ended n (started_stretches t n) over)

      -- `HaveHappened` holds at n + 1
      HaveHappened-next : HaveHappened e (suc n)
      HaveHappened-next =
          elim (StepCase-at dtb_begin no_start_marks no_step_marks no_end_fault dtb_observation dtb_step t few ok n
          within) [
            | inl stays ↦ HaveHappened-unjudged stays.over
                (Stands-at dtb_begin no_start_marks no_step_marks no_end_fault dtb_observation dtb_step t few ok n
                (omega arith))
            | inr moving ↦
                elim moving [
                  | inl starts ↦ HaveHappened-unjudged starts.over
                      (Stands-at dtb_begin no_start_marks no_step_marks no_end_fault dtb_observation dtb_step t few ok
                      n
                      (omega arith))
                  | inr works ↦
                      elim works.does [
                        | inl on ↦ HaveHappened-judging works.work on
                        | inr ends ↦
                            elim ends [
                              | inl reset ↦ HaveHappened-reset works.work reset
                              | inr loses ↦ HaveHappened-lost works.work loses
                            ]
                      ]
                ]
          ]

    -- `HaveHappened` holds at the opening
    HaveHappened-opening : (e : AskedEvents) → HaveHappened e 0
    HaveHappened-opening e = sym (ap (λ b. asks_by e r || b) (none_happened (stretch_starts t 0) refl)
        ∙ or-false (asks_by e r))
      where
        none_happened : (b : Bool) → stretch_starts t 0 ≡ b → list_any (happened_by 0) (started_stretches t 0) ≡ false
        none_happened true e = ap (list_any (happened_by 0)) (started_stretches-one t e)
            ∙ ap (λ b. b || false) (happened_by-before_start 0 (stretch_from t 0) (omega arith))
        none_happened false e = ap (list_any (happened_by 0)) (started_stretches-none t e)

    -- `HaveHappened` holds at each instant
    pub HaveHappened-asked_to : (e : AskedEvents) (n : ℕ) → n ≤ length t.steps → HaveHappened e n
    HaveHappened-asked_to e zero h = HaveHappened-opening e
    HaveHappened-asked_to e (suc n) h = HaveHappened-next e n (omega arith) (HaveHappened-asked_to e n (omega arith))

    -- stretches that start after instant `k` add no event up to `k`
    pub list_any-later_stretches : (k d : ℕ) → list_any (happened_by k) (started_stretches t (k + d))
        ≡ list_any (happened_by k) (started_stretches t k)
    list_any-later_stretches k zero =
        let none : k + 0 ≡ k = omega arith in
        ap (λ n. list_any (happened_by k) (started_stretches t n)) none
    list_any-later_stretches k (suc d) =
        let one : k + suc d ≡ suc (k + d) = omega arith in
        ap (λ n. list_any (happened_by k) (started_stretches t n)) one ∙ list_any-new_stretch k (k + d) (omega arith)
        ∙ list_any-later_stretches k d
