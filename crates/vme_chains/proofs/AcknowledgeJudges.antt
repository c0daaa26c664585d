-- The memory (state of the automaton) is right of each instant of the stretch, so the machine's faults are the breaks.
use Rattle.std.proofs.Common.{◌≡◌, ℕ, zero, suc, ◌<◌, ◌≤◌, Bool, true, false, ◌&&◌, ◌||◌, not, List, refl, sym, ◌∙◌, ap}
use Rattle.std.proofs.Common.{arith, cond, length, subst, inl, inr, ◌⊎◌, Option, Some, None}
use Rattle.std.specs.Prelude.{option_map, slice_get}
use Rattle.std.specs.Option.{is_some, option_or, option_map_or}
use Rattle.std.proofs.lemmas.Bool.{or_parts, le-ltb}
use Rattle.vme_trace.specs.Changes.{first_changed}
use Rattle.vme_trace.specs.Instants.{least}
use Rattle.vme_trace.specs.LineNumbers.{line_count}
use Rattle.vme_trace.specs.Levels.{Levels}
use Rattle.vme_trace.specs.Trace.{Trace, levels_at, time_at, changed}
use Rattle.vme_trace.specs.WellFormed.{malformed_step}
use Rattle.vme_trace.specs.Judged.{Stretch}
use Rattle.vme_trace.specs.Verdict.{break_at, rule_break}
use Rattle.vme_trace.specs.declared.rule.Rule.TheVariants.{I1, I2, I3}
use Rattle.vme_trace.specs.declared.step.Change.{Change}
use Rattle.vme_trace.proofs.Changing.{first_changed-least}
use Rattle.vme_trace.proofs.StretchEnds.{slots_at}
use Rattle.vme_monitor.specs.Along.{changes_of, next_at, memory_from}
use Rattle.vme_monitor.specs.Run.{break_of_fault, machine_step, run_of, no_end_fault, no_start_marks, no_step_marks}
use Rattle.vme_monitor.specs.OverStretches.{observed, phase_step, opening_phase}
use Rattle.vme_monitor.specs.Whole.{FindsLeast, ShowsAll}
use Rattle.vme_monitor.specs.declared.mark.Next.{Next}
use Rattle.vme_monitor.proofs.InsideRules.{FindsLeast-inside, ShowsAll-inside}
use Rattle.vme_monitor.proofs.StretchFacts.{IsStretch}
use Rattle.vme_monitor.proofs.Alongside.{levels_at-step, are_changes-step, memory_from-before}
use Rattle.vme_monitor.proofs.Transitions.{is_some-none}
use Rattle.vme_chains.specs.AcknowledgeRules.{acknowledge_begin, acknowledge_next, acknowledge_rules, acknowledge_shown}
use Rattle.vme_chains.specs.AcknowledgeRules.{acknowledge_observation, fault_among, fault_on, changes_memory}
use Rattle.vme_chains.specs.AcknowledgeRules.{memory_after, passes_on, passes_unasked, is_strobed}
use Rattle.vme_chains.specs.AcknowledgeRules.{is_addressed}
use Rattle.vme_chains.specs.declared.acknowledge.AcknowledgeMemory.{AcknowledgeMemory}
use Rattle.vme_chains.specs.declared.acknowledge.PassingSlots.{PassingSlots}
use Rattle.vme_chains.proofs.AcknowledgeBreaks.{least-I1, least-I2, least-I3}
use Rattle.vme_chains.proofs.AcknowledgeChanges.{passes_on-unchanged}
use Rattle.vme_chains.proofs.AcknowledgeChanges.{passes_unasked-none, passes_unasked-unchanged}
use Rattle.vme_chains.proofs.AcknowledgeMeaning.{Holds, Holds-start, Holds-next, memory_after-unchanged}

module _ (t : Trace) (stretch : Stretch) (ok : malformed_step t ≡ None) (few : t.opening.slots ≤ 21)
    (facts : IsStretch t stretch) where
  -- a step of the monitor of the interrupt acknowledge
  abbrev step : AcknowledgeMemory → Levels → Levels → List Change → Next AcknowledgeMemory
  step = machine_step acknowledge_observation acknowledge_next

  -- the memory at instant n of the stretch
  abbrev memory_at : ℕ → AcknowledgeMemory
  memory_at n = memory_from step t (acknowledge_begin (levels_at t stretch.start)) stretch.start n

  module _ (n : ℕ) (from : stretch.start ≤ n) (before : suc n < stretch.end) (within : n < length t.steps) where
    -- the levels before the step
    abbrev old : Levels
    old = levels_at t n

    -- the levels after the step
    abbrev new : Levels
    new = levels_at t (suc n)

    -- the changes of the step
    abbrev changes : List Change
    changes = changes_of (slice_get t.steps n)

    -- the backplane has at most 21 slots
    few_slots : old.slots ≤ 21
    few_slots = rw (slots_at t n) few

    -- the first changed line for which `passes_on` holds is the least of all lines for which it holds
    first_changed-passes_on : first_changed (passes_on old new) changes ≡ least (passes_on old new) 0 line_count
    first_changed-passes_on =
        subst (λ (w : Levels). first_changed (passes_on old w) changes ≡ least (passes_on old w) 0 line_count)
        (sym (levels_at-step t n within))
        (first_changed-least old (passes_on old (changed old changes)) few_slots 0 changes
        (are_changes-step t n ok within)
        (passes_on-unchanged old changes))

    -- the first changed line for which `passes_unasked` holds is the least of all lines for which it holds
    first_changed-passes_unasked : first_changed (passes_unasked old new) changes
        ≡ least (passes_unasked old new) 0 line_count
    first_changed-passes_unasked =
        subst (λ (w : Levels). first_changed (passes_unasked old w) changes ≡ least (passes_unasked old w) 0 line_count)
        (sym (levels_at-step t n within))
        (first_changed-least old (passes_unasked old (changed old changes)) few_slots 0 changes
        (are_changes-step t n ok within)
        (passes_unasked-unchanged old changes))

    -- the machine's step from n gives the memory and the fault that it has with an observation, also without one
    next_is : (m : AcknowledgeMemory) → Holds t stretch n m
        → next_at step t m n ≡ record {
          memory = memory_after m old new;
          fault = fault_among m old new
              (first_changed (passes_unasked old new) changes) (first_changed (passes_on old new) changes);
          shown = no_step_marks;
        }
    next_is m h = by_observation (is_some (first_changed (passes_on old new) changes) || changes_memory old new) refl
      where
        by_observation : (b : Bool) → (is_some (first_changed (passes_on old new) changes) || changes_memory old new)
            ≡ b
            → option_map_or (acknowledge_next m old new)
            (cond b (Some (record {
              first = first_changed (passes_on old new) changes;
              unasked = first_changed
                  (passes_unasked old new) changes;
            })) None) (record { memory = m; fault = None; shown = no_step_marks })
            ≡ record {
              memory = memory_after m old new;
              fault = fault_among m old new
                  (first_changed (passes_unasked old new) changes) (first_changed (passes_on old new) changes);
              shown = no_step_marks;
            }
        by_observation true e = refl
        by_observation false e =
            let still = or_parts (is_some (first_changed (passes_on old new) changes)) (changes_memory old new) e in
            rw (
              passes_unasked-none old new changes still.0,
              is_some-none (first_changed (passes_on old new) changes) still.0,
              memory_after-unchanged t stretch facts n from before m h still.1,
            ) refl

    -- the memory is right of the instant n + 1, if it is right of n
    holds_after : (m : AcknowledgeMemory) → Holds t stretch n m → Holds t stretch (suc n) (next_at step t m n).memory
    holds_after m h = subst (λ (x : Next AcknowledgeMemory). Holds t stretch (suc n) x.memory) (sym (next_is m h))
        (Holds-next t stretch facts n from before m h)

    -- the machine's fault at instant n + 1 is the first broken rule
    fault_is : (m : AcknowledgeMemory) → Holds t stretch n m → option_map (break_of_fault (suc n) (time_at t (suc n)))
        (next_at step t m n).fault ≡ break_at t stretch acknowledge_rules (suc n)
    unfolding break_at rule_break
    fault_is m h =
        ap (λ (x : Next AcknowledgeMemory). option_map (break_of_fault (suc n) (time_at t (suc n))) x.fault)
        (next_is m h)
        ∙ rw (
          least-I1 t stretch n from before,
          least-I2 t stretch n from before,
          least-I3 t stretch n from before m
              h,
          first_changed-passes_unasked,
          first_changed-passes_on,
        )
        (by_lines (least (passes_unasked old new) 0 line_count) (least (passes_on old new) 0 line_count))
      where
        by_tests : (l : ℕ) (strobed late : Bool)
            → option_map (break_of_fault (suc n) (time_at t (suc n))) (cond (not strobed) (Some (fault_on I2 l))
            (cond late (Some (fault_on I3 l)) None))
            ≡ option_or (option_map (λ l. record { instant = suc n; time = time_at t (suc n); rule = I2; line = l })
            (cond (not strobed) (Some l) None))
            (option_or (option_map (λ l. record { instant = suc n; time = time_at t (suc n); rule = I3; line = l })
            (cond late (Some l) None)) None)
        by_tests l false late = refl
        by_tests l true true = refl
        by_tests l true false = refl

        none_left : (strobed late : Bool)
            → option_map (break_of_fault (suc n) (time_at t (suc n))) None
            ≡ option_or (option_map (λ l. record { instant = suc n; time = time_at t (suc n); rule = I2; line = l })
            (cond (not strobed) None None))
            (option_or (option_map (λ l. record { instant = suc n; time = time_at t (suc n); rule = I3; line = l })
            (cond late None None)) None)
        none_left false true = refl
        none_left false false = refl
        none_left true true = refl
        none_left true false = refl

        by_lines : (unasked first : Option ℕ)
            → option_map (break_of_fault (suc n) (time_at t (suc n))) (fault_among m old new unasked first)
            ≡ option_or (option_map (λ l. record { instant = suc n; time = time_at t (suc n); rule = I1; line = l })
            unasked)
            (option_or (option_map (λ l. record { instant = suc n; time = time_at t (suc n); rule = I2; line = l })
            (cond (not (is_strobed old new)) first None))
            (option_or (option_map (λ l. record { instant = suc n; time = time_at t (suc n); rule = I3; line = l })
            (cond (is_addressed old new && m.answered_by_dtack) first None)) None))
        by_lines (Some l) first = refl
        by_lines None (Some l) = by_tests l (is_strobed old new) (is_addressed old new && m.answered_by_dtack)
        by_lines None None = none_left (is_strobed old new) (is_addressed old new && m.answered_by_dtack)

  -- an instant n + 1 that isn't before s is s, or n isn't before s either
  first_or_later : (s n : ℕ) → s ≤ suc n → (suc n ≤ s) ⊎ (s ≤ n)
  first_or_later s n h = grind arith

  -- the memory is right of each instant of the stretch
  holds_at : (n : ℕ) → stretch.start ≤ n → n < stretch.end → n ≤ length t.steps → Holds t stretch n (memory_at n)
  holds_at zero from before within = let e : stretch.start ≡ 0 = omega arith in
      subst (λ k. Holds t stretch k (acknowledge_begin (levels_at t stretch.start))) e (Holds-start t stretch facts)
  holds_at (suc n) from before within =
      elim (first_or_later stretch.start n from) [
        | inl first ↦
            let e : stretch.start ≡ suc n = omega arith in
            rw (memory_from-before step t (acknowledge_begin (levels_at t stretch.start)) stretch.start (suc n) first)
            (subst (λ k. Holds t stretch k (acknowledge_begin (levels_at t stretch.start))) e
            (Holds-start t stretch facts))
        | inr later ↦ rw (le-ltb n stretch.start later) (holds_after n later before (omega arith) (memory_at n)
            (holds_at n later (omega arith) (omega arith)))
      ]

  -- within a stretch the machine's fault at the instant n + 1 is the first broken rule
  pub acknowledge_inside : (n : ℕ) → stretch.start ≤ n → suc n < stretch.end → n < length t.steps
      → option_map (break_of_fault (suc n) (time_at t (suc n))) (next_at step t (memory_at n) n).fault
      ≡ break_at t stretch
      acknowledge_rules (suc n)
  acknowledge_inside n from before within = fault_is n from before within (memory_at n)
      (holds_at n from (omega arith) (omega arith))

-- the machine finds the least break of its rules in each recording
pub acknowledge_first_break : FindsLeast
    (run_of (machine_step (observed acknowledge_observation)
    (phase_step acknowledge_begin no_start_marks no_step_marks (λ l. None) acknowledge_next)))
    (opening_phase acknowledge_begin) acknowledge_rules
acknowledge_first_break = FindsLeast-inside acknowledge_begin no_start_marks acknowledge_observation
    acknowledge_next acknowledge_rules
    refl (λ t stretch ok few facts n from before within unbroken. acknowledge_inside t stretch ok few facts n from
    before
    within)

-- the machine shows no marks
pub acknowledge_marks : ShowsAll
    (run_of (machine_step (observed acknowledge_observation)
    (phase_step acknowledge_begin no_start_marks no_step_marks no_end_fault acknowledge_next)))
    (opening_phase acknowledge_begin) no_step_marks acknowledge_shown
acknowledge_marks =
    ShowsAll-inside acknowledge_begin no_start_marks acknowledge_observation acknowledge_next no_end_fault
    acknowledge_shown
    (λ t stretch ok few facts. record {
      at_start = refl;
      inside = λ n from before within. by_observation (acknowledge_observation (levels_at t n) (levels_at t (suc n))
          (changes_of (slice_get t.steps n))) (memory_from (machine_step acknowledge_observation acknowledge_next) t
          (acknowledge_begin (levels_at t stretch.start)) stretch.start n) (levels_at t n) (levels_at t (suc n));
    })
  where
    by_observation : (o : Option PassingSlots) (m : AcknowledgeMemory) (v w : Levels)
        → (option_map_or (acknowledge_next m v w) o (record { memory = m; fault = None; shown = no_step_marks })).shown
        ≡ no_step_marks
    by_observation None m v w = refl
    by_observation (Some seen) m v w = refl
