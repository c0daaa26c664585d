-- Over every recording the grant monitor finds the least break of its rules, and shows the tenures.
use Rattle.std.proofs.Common.{◌≡◌, ℕ, zero, suc, ◌<◌, ◌≤◌, Bool, true, false, ◌&&◌, ◌||◌, not, List, refl, sym, ◌∙◌, ap}
use Rattle.std.proofs.Common.{arith, Option, Some, None, cond, length, inl, inr, subst}
use Rattle.std.specs.Prelude.{◌==◌, nat_lt, option_map, slice_get}
use Rattle.std.specs.Option.{option_map_or}
use Rattle.std.proofs.lemmas.Bool.Decides.{nat_tests}
use Rattle.std.proofs.lemmas.Bool.{or_parts, le-ltb, eq-eqb}
use Rattle.vme_trace.specs.LineNumbers.{BBSY, BR}
use Rattle.vme_trace.specs.Levels.{Levels}
use Rattle.vme_trace.specs.Trace.{Trace, levels_at, time_at, changed}
use Rattle.vme_trace.specs.WellFormed.{malformed_step, are_changes}
use Rattle.vme_trace.specs.Signals.{low, falls, rises}
use Rattle.vme_trace.specs.Judged.{Stretch, is_judged}
use Rattle.vme_trace.specs.Tenures.{grant_falls, tenure_starts}
use Rattle.vme_trace.specs.Verdict.{break_at}
use Rattle.vme_trace.specs.declared.step.Change.{Change}
use Rattle.vme_trace.proofs.OpenTransfers.{is_judged-holds}
use Rattle.vme_trace.proofs.Ranges.{next_or_within}
use Rattle.vme_monitor.specs.Along.{changes_of, next_at, memory_from}
use Rattle.vme_monitor.specs.Run.{break_of_fault, machine_step, run_of, quiet, no_end_fault, no_step_marks}
use Rattle.vme_monitor.specs.OverStretches.{observed, phase_step, opening_phase}
use Rattle.vme_monitor.specs.Whole.{FindsLeast, ShowsAll}
use Rattle.vme_monitor.specs.declared.mark.BusGrant.{BusGrant}
use Rattle.vme_monitor.proofs.InsideRules.{FindsLeast-inside, ShowsAll-inside}
use Rattle.vme_monitor.proofs.Alongside.{levels_at-step, are_changes-step, memory_from-before}
use Rattle.vme_chains.specs.GrantLevels.{falls_between, rises_between, is_low_in, grant_begins, requested_in}
use Rattle.vme_chains.specs.GrantLevels.{taken_between, touches_arbitration, is_cycle_unowned, is_ungranted}
use Rattle.vme_chains.specs.GrantMemory.{is_in, union}
use Rattle.vme_chains.specs.GrantRules.{grant_rules, nets_fault, seen_between, grant_begin, grant_start_marks}
use Rattle.vme_chains.specs.GrantRules.{grant_observation, grant_next}
use Rattle.vme_chains.specs.GrantMarks.{tenure_at, tenures_shown}
use Rattle.vme_chains.specs.declared.grant.GrantObservation.{GrantObservation}
use Rattle.vme_chains.specs.declared.grant_memory.Arbitration.{Arbitration}
use Rattle.vme_chains.specs.declared.grant_memory.LevelSet.{LevelSet}
use Rattle.vme_chains.proofs.GrantLines.{has_line-request}
use Rattle.vme_chains.proofs.GrantEdges.{is_low_in-low, falls_between-falls, rises_between-rises, requested_in-low}
use Rattle.vme_chains.proofs.GrantEdges.{grant_begins-grant_falls, taken_between-tenure}
use Rattle.vme_chains.proofs.GrantNets.{is_low_in-unchanged}
use Rattle.vme_chains.proofs.GrantArbiter.{is_in-union}
use Rattle.vme_chains.proofs.GrantMeaning.{Holds, requested_since, granted_since, requested_since-start}
use Rattle.vme_chains.proofs.GrantMeaning.{granted_since-start}
use Rattle.vme_chains.proofs.GrantMeaning.{requested_since-next, granted_since-next, requested_since-now}
use Rattle.vme_chains.proofs.GrantSkips.{is_changed-untouched, is_arbitration-request, nets_fault-untouched}
use Rattle.vme_chains.proofs.GrantSkips.{grant_begins-untouched, falls_between-busy_untouched}
use Rattle.vme_chains.proofs.GrantSkips.{rises_between-busy_untouched}
use Rattle.vme_chains.proofs.GrantSkips.{step_fault-none}
use Rattle.vme_chains.proofs.GrantFaults.{step_fault-break_at}

-- a level is in the set that a condition chooses just if it is in that of the two
is_in-cond : (b : Bool) (x y : LevelSet) (l : ℕ) → is_in (cond b x y) l ≡ cond b (is_in x l) (is_in y l)
is_in-cond true x y l = refl
is_in-cond false x y l = refl

-- a choice between equal truth values by equal conditions is equal
cond-equal : (b c : Bool) (x x' y y' : Bool) → b ≡ c → x ≡ x' → y ≡ y' → cond b x y ≡ cond c x' y'
cond-equal b c x x' y y' e h k = rw (e, h, k) refl

-- `||` of equal truth values is equal
or-equal : (x x' y y' : Bool) → x ≡ x' → y ≡ y' → (x || y) ≡ (x' || y')
or-equal x x' y y' h k = rw (h, k) refl

-- `not f && x` of equal truth values is equal
and_not-equal : (f f' x x' : Bool) → f ≡ f' → x ≡ x' → (not f && x) ≡ (not f' && x')
and_not-equal f f' x x' h k = rw (h, k) refl

-- where neither test holds, the value stays
or-unchanged : (f g x : Bool) → f ≡ false → g ≡ false → (not f && (x || g)) ≡ x
or-unchanged f g true h k = rw h refl
or-unchanged f g false h k = rw (h, k) refl

-- marks of a tenure with equal fields are equal, if none is open
tenure_marks-equal : (opened : Bool) (x y : Option BusGrant) (ends ends' : Bool) → opened ≡ false → x ≡ y → ends ≡ ends'
    → record no_step_marks { tenure = x; tenure_end = ends } ≡ record no_step_marks {
      opened = opened;
      tenure = y;
      tenure_end = ends';
    }
tenure_marks-equal opened x y ends ends' a b c = rw (a, b, c) refl

-- an instant after the start isn't the start
eqb-after_start : (j s : ℕ) (b : Bool) → s < j → ((j == s) && b) ≡ false
eqb-after_start j s b h = grind (arith, nat_tests)

-- at a judged instant the test whether it is judged can be added
and-judged : (judged b : Bool) → judged ≡ true → b ≡ (judged && b)
and-judged judged b h = rw h refl

module _ (t : Trace) (stretch : Stretch) (few : t.opening.slots ≤ 21) where
  -- the memory (state of the automaton) is right of the start of the stretch
  Holds-start : Holds t stretch stretch.start (grant_begin (levels_at t stretch.start))
  Holds-start =
      record {
        requests = λ l h. requested_in-low t stretch.start l h ∙ sym (requested_since-start t stretch l);
        granted = sym (granted_since-start t stretch);
      }

  module _ (n : ℕ) (from : stretch.start ≤ n) (before : suc n < stretch.end) (cs : List Change)
      (step : levels_at t (suc n)
      ≡ changed (levels_at t n) cs) (fit : are_changes (levels_at t n) 0 cs ≡ true) where
    -- the levels before the step
    abbrev old : Levels
    old = levels_at t n

    -- the levels after the step
    abbrev new : Levels
    new = levels_at t (suc n)

    -- what the step shows
    abbrev seen : GrantObservation
    seen = seen_between old new cs

    -- the memory is right of n + 1 after a step with an observation
    Holds-observed : (m : Arbitration) → Holds t stretch n m
        → Holds t stretch (suc n) (grant_next m old new seen).memory
    Holds-observed m held =
        record {
          requests = λ l h.
              is_in-cond (grant_begins old new) (requested_in new) (union m.requests (requested_in new)) l
              ∙ cond-equal (grant_begins old new) (grant_falls t (suc n)) _ _ _ _ (grant_begins-grant_falls t few n)
              (requested_in-low t (suc n) l h)
              (is_in-union m.requests (requested_in new) l h ∙ or-equal _ _ _ _ (held.requests l h)
              (requested_in-low t (suc n) l h))
              ∙ sym (requested_since-next t stretch n l from);
          granted = and_not-equal _ _ _ _ (falls_between-falls t n BBSY refl)
              (or-equal _ _ _ _ held.granted (grant_begins-grant_falls t few n))
              ∙ sym (granted_since-next t stretch n from);
        }

    -- the memory is right of n + 1 after a step without an observation, which leaves it as it is
    Holds-unobserved : touches_arbitration cs ≡ false → (m : Arbitration) → Holds t stretch n m
        → Holds t stretch (suc n) m
    Holds-unobserved h m held =
        let no_grant : grant_falls t (suc n) ≡ false =
        sym (grant_begins-grant_falls t few n) ∙ grant_begins-untouched t stretch few n from
        before cs step fit h in
        let no_fall : falls t BBSY (suc n) ≡ false = sym (falls_between-falls t n BBSY refl)
        ∙ falls_between-busy_untouched t stretch few n from before
        cs step fit h in
        record {
          requests = λ l below.
              let same : low t (BR l) (suc n) ≡ low t (BR l) n =
              sym (is_low_in-low t (suc n) (BR l) (has_line-request t.opening.slots l below))
              ∙ is_low_in-unchanged t stretch few n from before cs step fit (BR l)
              (is_changed-untouched cs (BR l) h (is_arbitration-request l below))
              ∙ is_low_in-low t n (BR l) (has_line-request t.opening.slots l below)
              in
              held.requests l below
              ∙ sym (requested_since-next t stretch n l from
              ∙ cond-equal (grant_falls t (suc n)) false (low t (BR l) (suc n))
              (low t (BR l) (suc n)) _ _ no_grant refl (or-equal (requested_since t stretch n l) _ _ _ refl same)
              ∙ requested_since-now t stretch n l from);
          granted = held.granted ∙ sym (granted_since-next t stretch n from
              ∙ or-unchanged _ _ (granted_since t stretch n) no_fall
              no_grant);
        }

    -- the memory is right of n + 1 after a step with an observation or without one
    Holds-next : (m : Arbitration) (b : Bool) → (touches_arbitration cs || is_cycle_unowned old new) ≡ b
        → Holds t stretch n m → Holds t stretch (suc n) (option_map_or (grant_next m old new) (cond b (Some seen) None)
        (quiet m)).memory
    Holds-next m true e held = Holds-observed m held
    Holds-next m false e held = Holds-unobserved (or_parts _ _ e).0 m held

    -- a step without an observation has the fault that it would have with one, none
    fault-observed_or_not : (m : Arbitration) (b : Bool) → (touches_arbitration cs || is_cycle_unowned old new) ≡ b
        → (option_map_or (grant_next m old new) (cond b (Some seen) None) (quiet m)).fault
        ≡ (grant_next m old new seen).fault
    fault-observed_or_not m true e = refl
    fault-observed_or_not m false e =
        let none = or_parts (touches_arbitration cs) (is_cycle_unowned old new) e in
        sym
        (step_fault-none old new (union m.requests (requested_in new)) (requested_in new)
        (m.granted || grant_begins old new)
        (nets_fault old new cs) (grant_begins old new) (falls_between old new BBSY) (is_ungranted old new)
        (rises_between old new BBSY) (is_cycle_unowned old new) (taken_between old new)
        (nets_fault-untouched old new cs none.0) (grant_begins-untouched t stretch few n from before cs step fit none.0)
        (falls_between-busy_untouched t stretch few n from before cs step fit none.0) none.1)

    -- the fault of the step, as a break, is the break of the grant rules at n + 1
    fault-break_at : (m : Arbitration) → Holds t stretch n m
        → option_map (break_of_fault (suc n) (time_at t (suc n)))
        (machine_step grant_observation grant_next m old new cs).fault
        ≡ break_at t stretch grant_rules (suc n)
    fault-break_at m held =
        ap (option_map (break_of_fault (suc n) (time_at t (suc n))))
        (fault-observed_or_not m (touches_arbitration cs || is_cycle_unowned old new) refl)
        ∙ step_fault-break_at t stretch few n from before cs step fit m held

    -- the grant that is taken, if BBSY falls, is that of the tenure that starts at n + 1
    taken_between-tenure_at : cond (falls_between old new BBSY) (taken_between old new) None
        ≡ tenure_at t stretch (suc n)
    unfolding tenure_starts
    taken_between-tenure_at =
        alike _ _ _ _ (falls_between-falls t n BBSY refl ∙ and-judged (is_judged stretch (suc n)) (falls t BBSY (suc n))
        (is_judged-holds stretch (suc n) (omega arith) before)) (taken_between-tenure t few n)
      where
        alike : (b c : Bool) (x y : Option BusGrant) → b ≡ c → x ≡ y → cond b x None ≡ cond c y None
        alike b c x y e h = rw (e, h) refl

    -- a step with an observation shows the marks of tenures at n + 1
    shown-observed : (m : Arbitration) → (grant_next m old new seen).shown ≡ tenures_shown t stretch (suc n)
    shown-observed m =
        tenure_marks-equal _ _ _ _ _ (eqb-after_start (suc n) stretch.start (low t BBSY (suc n)) (omega arith))
        taken_between-tenure_at
        (rises_between-rises t n BBSY refl ∙ and-judged (is_judged stretch (suc n)) (rises t BBSY (suc n))
        (is_judged-holds stretch (suc n) (omega arith) before))

    -- a step without an observation shows what it would show with one, nothing
    shown-observed_or_not : (m : Arbitration) (b : Bool) → (touches_arbitration cs || is_cycle_unowned old new) ≡ b
        → (option_map_or (grant_next m old new) (cond b (Some seen) None) (quiet m)).shown
        ≡ (grant_next m old new seen).shown
    shown-observed_or_not m true e = refl
    shown-observed_or_not m false e =
        let none = or_parts (touches_arbitration cs) (is_cycle_unowned old new) e in
        sym (passed (falls_between old new BBSY) (rises_between old new BBSY)
        (falls_between-busy_untouched t stretch few n from before cs
        step fit none.0) (rises_between-busy_untouched t stretch few n from before cs step fit none.0))
      where
        passed : (takes ends : Bool) → takes ≡ false → ends ≡ false
            → record no_step_marks { tenure = cond takes (taken_between old new) None; tenure_end = ends }
            ≡ no_step_marks
        passed takes ends a b = rw (a, b) refl

    -- the step shows the marks of tenures at n + 1
    shown-tenures : (m : Arbitration) → (machine_step grant_observation grant_next m old new cs).shown
        ≡ tenures_shown t stretch (suc n)
    shown-tenures m =
        shown-observed_or_not m (touches_arbitration cs || is_cycle_unowned old new) refl ∙ shown-observed m

  module _ (ok : malformed_step t ≡ None) where
    -- the memory at the start of the stretch
    abbrev started : Arbitration
    started = grant_begin (levels_at t stretch.start)

    -- the memory at instant n
    abbrev memory : ℕ → Arbitration
    memory n = memory_from (machine_step grant_observation grant_next) t started stretch.start n

    -- the first memory is right of instant k, if that is the start of the stretch
    Holds-at_start : (k : ℕ) → stretch.start ≡ k → Holds t stretch k started
    Holds-at_start k e = subst (λ i. Holds t stretch i started) e Holds-start

    -- the memory is right of each judged instant
    Holds-along : (n : ℕ) → stretch.start ≤ n → n < stretch.end → n ≤ length t.steps → Holds t stretch n (memory n)
    Holds-along zero from before within = Holds-at_start zero (omega arith)
    Holds-along (suc n) from before within =
        elim (next_or_within stretch.start n from) [
          | inl e ↦ rw (memory_from-before (machine_step grant_observation grant_next) t started stretch.start (suc n)
              (omega arith))
              (Holds-at_start (suc n) e)
          | inr earlier ↦
              rw (le-ltb n stretch.start earlier)
              (Holds-next n earlier before (changes_of (slice_get t.steps n)) (levels_at-step t n (omega arith))
              (are_changes-step t n ok (omega arith)) (memory n)
              (touches_arbitration (changes_of (slice_get t.steps n)) ||
              is_cycle_unowned (levels_at t n) (levels_at t (suc n))) refl
              (Holds-along n earlier (omega arith) (omega arith)))
        ]

    -- at each judged instant the fault of the machine is the break of the grant rules
    pub fault-inside : (n : ℕ) → stretch.start ≤ n → suc n < stretch.end → n < length t.steps
        → option_map (break_of_fault (suc n) (time_at t (suc n))) (next_at (machine_step grant_observation grant_next) t
        (memory n)
        n).fault ≡ break_at t stretch grant_rules (suc n)
    fault-inside n from before within =
        fault-break_at n from before (changes_of (slice_get t.steps n)) (levels_at-step t n within)
        (are_changes-step t n ok within)
        (memory n) (Holds-along n from (omega arith) (omega arith))

    -- at each judged instant the machine shows the marks of tenures
    pub shown-inside : (n : ℕ) → stretch.start ≤ n → suc n < stretch.end → n < length t.steps
        → (next_at (machine_step grant_observation grant_next) t (memory n) n).shown ≡ tenures_shown t stretch (suc n)
    shown-inside n from before within = shown-tenures n from before (changes_of (slice_get t.steps n))
        (levels_at-step t n within) (are_changes-step t n ok within) (memory n)

  -- at the start of the stretch the machine shows the marks of tenures there
  grant_start_marks-shown : grant_start_marks (levels_at t stretch.start) ≡ tenures_shown t stretch stretch.start
  unfolding tenure_starts
  grant_start_marks-shown =
      alike _ _ (is_low_in (levels_at t stretch.start) BBSY) (low t BBSY stretch.start) _ _ _
      (eq-eqb stretch.start stretch.start refl) (is_low_in-low t stretch.start BBSY refl)
      (not_judged stretch.start stretch.end)
    where
      not_judged : (s e : ℕ) → (nat_lt s s && nat_lt s e) ≡ false
      not_judged s e = grind (arith, nat_tests)

      alike : (same judged x y falls rises : Bool) (o : Option BusGrant) → same ≡ true → x ≡ y → judged ≡ false
          → record no_step_marks { opened = x } ≡ record no_step_marks {
            opened = same && y;
            tenure = cond (judged && falls) o None;
            tenure_end = judged && rises;
          }
      alike same judged x y falls rises o a b c = rw (a, b, c) refl

-- over every recording the grant monitor finds the least break of its rules
pub grant_first_break : FindsLeast
    (run_of (machine_step (observed grant_observation)
    (phase_step grant_begin grant_start_marks no_step_marks (λ l. None) grant_next)))
    (opening_phase grant_begin) grant_rules
grant_first_break = FindsLeast-inside grant_begin grant_start_marks grant_observation grant_next grant_rules refl
    (λ t stretch ok few facts n from before within unbroken. fault-inside t stretch few ok n from before within)

-- over every recording the grant monitor shows the tenures
pub grant_marks : ShowsAll
    (run_of (machine_step (observed grant_observation)
    (phase_step grant_begin grant_start_marks no_step_marks no_end_fault grant_next)))
    (opening_phase grant_begin) no_step_marks tenures_shown
grant_marks =
    ShowsAll-inside grant_begin grant_start_marks grant_observation grant_next no_end_fault tenures_shown
    (λ t stretch ok few facts. record {
      at_start = grant_start_marks-shown t stretch few;
      inside = λ n from before within. shown-inside t stretch few ok n from before within;
    })
