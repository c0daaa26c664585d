-- The fault that the monitor of stability finds at each judged instant is the first broken rule.
use Rattle.std.proofs.Common.{◌≡◌, ℕ, zero, suc, ◌<◌, ◌≤◌, Bool, true, false, not, ◌&&◌, List, [], refl, sym, arith}
use Rattle.std.proofs.Common.{cond, inl, inr, length, lit<, subst}
use Rattle.std.specs.Prelude.{Option, None, Some, option_map, slice_get}
use Rattle.std.specs.Option.{option_map_or, option_or}
use Rattle.std.proofs.lemmas.Bool.Decides.{nat_tests}
use Rattle.std.proofs.lemmas.Bool.{not-true, le-ltb}
use Rattle.vme_trace.specs.LineNumbers.{line_count, AS, WRITE, is_control}
use Rattle.vme_trace.specs.Levels.{Levels, level_at, is_low, is_high, is_idle, is_idle_on, same_level}
use Rattle.vme_trace.specs.Trace.{Trace, levels_at, time_at}
use Rattle.vme_trace.specs.WellFormed.{malformed_step}
use Rattle.vme_trace.specs.Judged.{Stretch}
use Rattle.vme_trace.specs.Verdict.{break_at, break_before, rule_break}
use Rattle.vme_trace.specs.declared.level.Level.{Level}
use Rattle.vme_trace.specs.declared.level.Level.TheVariants.{Low, High, Unknown}
use Rattle.vme_trace.specs.declared.rule.Rule.TheVariants.{U2, U3, U4, S1, S2, S3}
use Rattle.vme_trace.specs.declared.step.Change.{Change}
use Rattle.vme_trace.proofs.Ranges.{any-fails, next_or_within}
use Rattle.vme_monitor.specs.Along.{changes_of, memory_from, next_at}
use Rattle.vme_monitor.specs.Run.{break_of_fault, no_step_marks, machine_step, quiet, run_of}
use Rattle.vme_monitor.specs.Run.{no_end_fault, no_start_marks}
use Rattle.vme_monitor.specs.OverStretches.{observed, phase_step, opening_phase}
use Rattle.vme_monitor.specs.Whole.{FindsLeast, ShowsAll}
use Rattle.vme_monitor.specs.declared.mark.Next.{Next}
use Rattle.vme_monitor.proofs.InsideRules.{FindsLeast-inside, ShowsAll-inside}
use Rattle.vme_monitor.proofs.StretchFacts.{IsStretch}
use Rattle.vme_monitor.proofs.Alongside.{are_changes-step, levels_at-step, memory_from-before}
use Rattle.vme_dtb.specs.StabilityRules.{fault_on, is_observed, changed_data_fault, undriven_fault, keeps_direction}
use Rattle.vme_dtb.specs.StabilityRules.{direction_turned, changed_need_fault, observation_of, stability_begin}
use Rattle.vme_dtb.specs.StabilityRules.{stability_next, stability_rules, stability_shown}
use Rattle.vme_dtb.specs.StabilityRules.{stability_observation, turned_fault, unknown_address, unknown_direction}
use Rattle.vme_dtb.specs.declared.holding.Holding.{Holding}
use Rattle.vme_dtb.specs.declared.observation.HoldingObservation.{HoldingObservation}
use Rattle.vme_dtb.proofs.AskedLines.{least-U2, least-U3}
use Rattle.vme_dtb.proofs.HeldAddress.{rule_break-S2_none, break_before-none_parts, least-S1, least-S2_none}
use Rattle.vme_dtb.proofs.HeldData.{least-S3, least-U4}
use Rattle.vme_dtb.proofs.HeldDirection.{least-S2}
use Rattle.vme_dtb.proofs.StabilityMeaning.{Holds, Holds-next, Holds-start}
use Rattle.vme_dtb.proofs.Unobserved.{stability_next-unobserved}

-- the step of the machine of stability
abbrev step : Holding → Levels → Levels → List Change → Next Holding
step = machine_step stability_observation stability_next

-- of six rules, the first that is broken on a line gives the fault and the break
first_fault : (n time : ℕ) (a b c d e f : Option ℕ)
    → option_map (break_of_fault n time) (option_or (option_or (fault_on U2 a) (fault_on U3 b))
    (option_or (fault_on U4 c) (option_or (option_or (fault_on S1 d) (fault_on S2 e)) (fault_on S3 f))))
    ≡ option_or (option_map (λ (l : ℕ). record { instant = n; time = time; rule = U2; line = l }) a)
    (option_or (option_map (λ (l : ℕ). record { instant = n; time = time; rule = U3; line = l }) b)
    (option_or (option_map (λ (l : ℕ). record { instant = n; time = time; rule = U4; line = l }) c)
    (option_or (option_map (λ (l : ℕ). record { instant = n; time = time; rule = S1; line = l }) d)
    (option_or (option_map (λ (l : ℕ). record { instant = n; time = time; rule = S2; line = l }) e)
    (option_or (option_map (λ (l : ℕ). record { instant = n; time = time; rule = S3; line = l }) f) None)))))
first_fault n time (Some l) b c d e f = refl
first_fault n time None (Some l) c d e f = refl
first_fault n time None None (Some l) d e f = refl
first_fault n time None None None (Some l) e f = refl
first_fault n time None None None None (Some l) f = refl
first_fault n time None None None None None (Some l) = refl
first_fault n time None None None None None None = refl

module _ (t : Trace) (stretch : Stretch) (ok : malformed_step t ≡ None) (facts : IsStretch t stretch) where
  -- the machine's memory at instant n
  abbrev memory_at : ℕ → Holding
  memory_at n = memory_from step t (stability_begin (levels_at t stretch.start)) stretch.start n

  -- the changes of the step from instant n
  abbrev changes_at : ℕ → List Change
  changes_at n = changes_of (slice_get t.steps n)

  module _ (n : ℕ) (from : stretch.start ≤ n) (before : suc n < stretch.end) (within : n < length t.steps) (m : Holding)
      (holds : Holds t stretch n m) where
    -- what the machine would give if each step were observed
    abbrev full : Next Holding
    full = stability_next m (levels_at t n) (levels_at t (suc n)) (observation_of (levels_at t n) (levels_at t (suc n))
        (changes_at n))

    -- the machine's step is the full one: without an observation it would change nothing
    next_at-full : next_at step t m n ≡ full
    next_at-full = by_test (is_observed (levels_at t n) (levels_at t (suc n)) (changes_at n)) refl
      where
        by_test : (b : Bool) → is_observed (levels_at t n) (levels_at t (suc n)) (changes_at n) ≡ b
            → option_map_or (stability_next m (levels_at t n) (levels_at t (suc n)))
            (cond b (Some (observation_of (levels_at t n) (levels_at t (suc n)) (changes_at n))) None) (quiet m) ≡ full
        by_test true e = refl
        by_test false e = sym (stability_next-unobserved t stretch facts n from before m (changes_at n) holds e)

    -- the fault of that step is the first broken rule at n + 1, if no rule is broken before
    break_at-full_fault : break_before t stretch stability_rules (suc n) ≡ None
        → option_map (break_of_fault (suc n) (time_at t (suc n)))
        full.fault ≡ break_at t stretch stability_rules (suc n)
    unfolding break_at rule_break
    break_at-full_fault unbroken =
        rw (
          least-U2 t stretch facts.reads n from before,
          least-U3 t stretch facts.reads n from before,
          least-U4 t stretch facts.reads n from before m holds unbroken (changes_at n),
          least-S1 t stretch facts n from before unbroken (changes_at n) (levels_at-step t n within)
              (are_changes-step t n ok within) m holds,
          least-S2 t stretch facts.reads n from before m holds (changes_at n),
          least-S3 t stretch facts.reads n from before m holds unbroken (changes_at n) (levels_at-step t n within)
              (are_changes-step t n ok within),
        )
        (first_fault (suc n) (time_at t (suc n)) (unknown_address (levels_at t n) (levels_at t (suc n)))
        (unknown_direction (levels_at t n) (levels_at t (suc n)))
        (undriven_fault m (levels_at t n) (levels_at t (suc n)) (observation_of (levels_at t n) (levels_at t (suc n))
        (changes_at n)))
        (changed_need_fault m (levels_at t n) (levels_at t (suc n))
        (observation_of (levels_at t n) (levels_at t (suc n))
        (changes_at n)))
        (turned_fault m (levels_at t n) (levels_at t (suc n)) (observation_of (levels_at t n) (levels_at t (suc n))
        (changes_at n)))
        (changed_data_fault m (levels_at t n) (levels_at t (suc n))
        (observation_of (levels_at t n) (levels_at t (suc n))
        (changes_at n))))

  -- if no rule is broken before n + 2, none is before n + 1
  break_before-earlier : (n : ℕ) → break_before t stretch stability_rules (suc (suc n)) ≡ None
      → break_before t stretch stability_rules
      (suc n) ≡ None
  break_before-earlier n h = (break_before-none_parts t stretch (suc n) h).0

  -- if `b && c` gives nothing, and b is true, c is false
  cond-None_second : (b c : Bool) → b ≡ true → cond (b && c) (Some WRITE) None ≡ None → c ≡ false
  cond-None_second true true e h = absurd (cc)
  cond-None_second true false e h = refl
  cond-None_second false c e h = absurd (cc)

  -- levels that the test finds the same are both low or both not low
  is_low-same_level : (x y : Level) → not (same_level x y) ≡ false → is_low y ≡ is_low x
  is_low-same_level Low Low h = refl
  is_low-same_level Low High h = absurd (cc)
  is_low-same_level Low Unknown h = absurd (cc)
  is_low-same_level High Low h = absurd (cc)
  is_low-same_level High High h = refl
  is_low-same_level High Unknown h = refl
  is_low-same_level Unknown Low h = absurd (cc)
  is_low-same_level Unknown High h = refl
  is_low-same_level Unknown Unknown h = refl

  -- while the direction is held, WRITE* stays low, or stays not low, if no rule is broken
  is_low-WRITE_held : (n : ℕ) → stretch.start ≤ n → suc n < stretch.end → (m : Holding) → Holds t stretch n m
      → break_before t stretch
      stability_rules (suc (suc n)) ≡ None → keeps_direction m (levels_at t n) (levels_at t (suc n)) ≡ true
      → is_low (level_at (levels_at t (suc n)) WRITE) ≡ is_low (level_at (levels_at t n) WRITE)
  is_low-WRITE_held n from before m holds unbroken keeps =
      is_low-same_level (level_at (levels_at t n) WRITE) (level_at (levels_at t (suc n)) WRITE)
      (cond-None_second (keeps_direction m (levels_at t n) (levels_at t (suc n)))
      (direction_turned (levels_at t n) (levels_at t (suc n))) keeps
      (least-S2_none t stretch (suc n) (turned_fault m (levels_at t n) (levels_at t (suc n))
      (observation_of (levels_at t n) (levels_at t (suc n)) []))
      (least-S2 t stretch facts.reads n from before m holds [])
      (rule_break-S2_none t stretch (suc n) (break_before-none_parts t stretch (suc n) unbroken).1)))

  -- AS*, DS0* and DS1* are control lines
  is_control-strobe : (s l : ℕ) → l < 3 → is_control s l ≡ true
  is_control-strobe s l h = grind (arith, nat_tests)

  -- AS* isn't low at the start of the stretch
  is_low-AS_start : is_low (level_at (levels_at t stretch.start) AS) ≡ false
  unfolding is_idle
  is_low-AS_start = not_low (level_at (levels_at t stretch.start) AS)
      (any-fails (λ k. not (is_idle_on (levels_at t stretch.start) k)) 0 line_count AS (not-true _ facts.idle)
      (omega arith) (lit< tt))
    where
      not_low : (x : Level) → not (is_high x) ≡ false → is_low x ≡ false
      not_low High h = refl
      not_low Low h = absurd (cc)
      not_low Unknown h = refl

  -- the memory is right of each judged instant
  Holds-at : (n : ℕ) → stretch.start ≤ n → n < stretch.end → n ≤ length t.steps → Holds t stretch n (memory_at n)
  Holds-at zero from before within = let e : stretch.start ≡ 0 = omega arith in
      subst (λ k. Holds t stretch k (stability_begin (levels_at t stretch.start))) e
      (Holds-start t stretch facts.reads is_low-AS_start (levels_at t stretch.start))
  Holds-at (suc n) from before within =
      elim (next_or_within stretch.start n from) [
        | inl e ↦ at_start e
        | inr later ↦ let holds = Holds-at n later (omega arith) (omega arith) in
            rw (le-ltb n stretch.start later, next_at-full n later before (omega arith) (memory_at n) holds)
            (Holds-next t stretch facts.reads n later before (break_before-earlier n) (is_low-WRITE_held n later before)
            (λ l below. facts.known n l later (omega arith) (omega arith) (is_control-strobe t.opening.slots l below))
            (λ l below. facts.known (suc n) l (omega arith) before (omega arith)
            (is_control-strobe t.opening.slots l below)) (memory_at n) holds)
      ]
    where
      at_start : stretch.start ≡ suc n → Holds t stretch (suc n) (memory_at (suc n))
      at_start e = rw (
        memory_from-before step t (stability_begin (levels_at t stretch.start)) stretch.start (suc n) (omega arith),
        ← e,
      ) (Holds-start t stretch facts.reads is_low-AS_start (levels_at t stretch.start))

  -- the machine's fault at n + 1 is the first broken rule there, if none is broken before
  break_at-inside : (n : ℕ) → stretch.start ≤ n → suc n < stretch.end → n < length t.steps
      → break_before t stretch stability_rules
      (suc n) ≡ None
      → option_map (break_of_fault (suc n) (time_at t (suc n))) (next_at step t (memory_at n) n).fault
      ≡ break_at t stretch
      stability_rules (suc n)
  break_at-inside n from before within unbroken =
      let holds = Holds-at n from (omega arith) (omega arith) in
      rw (next_at-full n from before within (memory_at n) holds)
      (break_at-full_fault n from before within (memory_at n) holds unbroken)

-- the machine of stability finds the least break of its rules
pub stability_first_break : FindsLeast
    (run_of (machine_step (observed stability_observation)
    (phase_step stability_begin no_start_marks no_step_marks (λ l. None) stability_next)))
    (opening_phase stability_begin) stability_rules
stability_first_break = FindsLeast-inside stability_begin no_start_marks stability_observation stability_next
    stability_rules refl
    (λ t stretch ok few facts n from before within unbroken. break_at-inside t stretch ok facts n from before within
    unbroken)

-- the machine of stability shows nothing
pub stability_marks : ShowsAll
    (run_of (machine_step (observed stability_observation)
    (phase_step stability_begin no_start_marks no_step_marks no_end_fault stability_next)))
    (opening_phase stability_begin) no_step_marks stability_shown
stability_marks =
    ShowsAll-inside stability_begin no_start_marks stability_observation stability_next no_end_fault
    stability_shown (λ t stretch ok few facts. record {
      at_start = refl;
      inside = λ n from before within. by_observation (stability_observation (levels_at t n) (levels_at t (suc n))
          (changes_of (slice_get t.steps n))) (memory_from step t (stability_begin (levels_at t stretch.start))
          stretch.start
          n)
          (levels_at t n) (levels_at t (suc n));
    })
  where
    by_observation : (o : Option HoldingObservation) (m : Holding) (v w : Levels)
        → (option_map_or (stability_next m v w) o (quiet m)).shown ≡ no_step_marks
    by_observation None m v w = refl
    by_observation (Some seen) m v w = refl
