-- The least line that breaks S1, i.e. that a cycle needs and that changes before the first answer of the cycle, is that
-- of the machine's fault.
use Rattle.std.proofs.Common.{◌≡◌, ℕ, zero, suc, ◌+◌, ◌<◌, ◌≤◌, Bool, true, false, ◌&&◌, not, List, refl, sym, ◌∙◌, ap}
use Rattle.std.proofs.Common.{arith, cond, inl, inr, length, lit<, subst}
use Rattle.std.specs.Prelude.{Option, None, Some, slice_get, unwrap_or, option_map}
use Rattle.std.specs.Option.{option_or}
use Rattle.std.proofs.lemmas.Option.{slice_get_past}
use Rattle.std.proofs.lemmas.Bool.{and_parts, not-true, cases_lt, not-false}
use Rattle.vme_trace.specs.Instants.{any, least, none}
use Rattle.vme_trace.specs.LineNumbers.{line_count, AS, has_line}
use Rattle.vme_trace.specs.Cycle.{is_needed, is_within, needs_of}
use Rattle.vme_trace.specs.Levels.{Levels, level_at, is_low, is_high, is_known, same_level}
use Rattle.vme_trace.specs.Trace.{Trace, levels_at, changed, time_at}
use Rattle.vme_trace.specs.Signals.{low, high, falls, rises, has_edge}
use Rattle.vme_trace.specs.Judged.{Stretch, is_judged}
use Rattle.vme_trace.specs.Transfers.{is_answer}
use Rattle.vme_trace.specs.Cycles.{cycle_starts, cycle_runs}
use Rattle.vme_trace.specs.Changes.{is_changed}
use Rattle.vme_trace.specs.WellFormed.{are_changes}
use Rattle.vme_trace.specs.Rules.{breaks, is_broken}
use Rattle.vme_trace.specs.Verdict.{break_at, break_before, rule_break}
use Rattle.vme_trace.specs.declared.level.Level.{Level}
use Rattle.vme_trace.specs.declared.level.Level.TheVariants.{Low, High, Unknown}
use Rattle.vme_trace.specs.declared.rule.Rule.TheVariants.{U2, U3, U4, S1, S2, S3}
use Rattle.vme_trace.specs.declared.step.Change.{Change}
use Rattle.vme_trace.proofs.Changing.{level-kept, bus_line_exists, first_changed-least_alike}
use Rattle.vme_trace.proofs.OpenTransfers.{suc-sub-one, is_judged-holds}
use Rattle.vme_trace.proofs.Ranges.{any-alike, any-fails, any-holds, any-least, fails-any, least-found, least-none}
use Rattle.vme_trace.proofs.Ranges.{least-none-any, next_or_within}
use Rattle.vme_monitor.proofs.StretchFacts.{IsStretch}
use Rattle.vme_dtb.specs.StabilityRules.{changed_need_line, changed_need_fault, observation_of, stability_rules}
use Rattle.vme_dtb.specs.declared.holding.Holding.{Holding}
use Rattle.vme_dtb.proofs.ChangedLines.{is_changed-edge, same_level-refl}
use Rattle.vme_dtb.proofs.Needed.{needs_of-below, needs_of-same}
use Rattle.vme_dtb.proofs.Lasting.{any-and, none-shorter}
use Rattle.vme_dtb.proofs.StabilityMeaning.{Holds, holds_address, keeps_address-any}
use Rattle.vme_dtb.proofs.StillSteps.{same_level-equal}

-- if `option_or` of two options is none, both are
option_or-none_parts : {A : Type 0} (a b : Option A) → option_or a b ≡ None → (a ≡ None) × (b ≡ None)
option_or-none_parts None b h = (refl, h)
option_or-none_parts (Some x) b h = absurd (cc)

-- if f of an option is none, the option is
option_map-none : {A B : Type 0} (f : A → B) (a : Option A) → option_map f a ≡ None → a ≡ None
option_map-none f None h = refl
option_map-none f (Some x) h = absurd (cc)

-- if a conjunction is false in which only e may be false, e is
has_edge-off : (j h e a : Bool) → (j && h && (e && a)) ≡ false → j ≡ true → h ≡ true → a ≡ true → e ≡ false
has_edge-off j h true a x jt ht at = rw (jt, ht, at) at x
has_edge-off j h false a x jt ht at = refl

-- a known level that isn't high is low
is_low-known_not_high : (x : Level) → is_known x ≡ true → is_high x ≡ false → is_low x ≡ true
is_low-known_not_high Low h k = refl
is_low-known_not_high High h k = absurd (cc)
is_low-known_not_high Unknown h k = absurd (cc)

-- if a is true, and `a && b` false, b is false
and-false_second : (a b : Bool) → a ≡ true → (a && b) ≡ false → b ≡ false
and-false_second true b h k = k
and-false_second false b h k = absurd (cc)

-- a list of levels in which index l is known is longer than l
length-known_level : (xs : List Level) (l : ℕ) → is_known (unwrap_or (slice_get xs l) Unknown) ≡ true → l < length xs
length-known_level xs l h =
    elim (cases_lt l (length xs)) [
      | inl below ↦ below
      | inr past ↦ absurd (unknown (rw (slice_get_past xs l past) at h))
    ]
  where
    unknown : false ≡ true → ⊥
    unknown h = cc

module _ (t : Trace) (stretch : Stretch) where
  -- if no rule is broken before n + 1, none is at each k up to n
  break_at-none_before : (n k : ℕ) → break_before t stretch stability_rules (suc n) ≡ None → k ≤ n
      → break_at t stretch stability_rules k
      ≡ None
  unfolding break_before
  break_at-none_before zero k h order = let e : k ≡ 0 = omega arith in subst (λ j. break_at t stretch stability_rules j
      ≡ None)
      (sym e)
      (option_or-none_parts (break_before t stretch stability_rules 0) (break_at t stretch stability_rules 0) h).1
  break_at-none_before (suc n) k h order =
      elim (next_or_within k n order) [
        | inl e ↦ subst (λ j. break_at t stretch stability_rules j ≡ None) (sym e)
            (option_or-none_parts (break_before t stretch stability_rules (suc n))
            (break_at t stretch stability_rules (suc n)) h).1
        | inr earlier ↦ break_at-none_before n k (option_or-none_parts (break_before t stretch stability_rules (suc n))
            (break_at t stretch stability_rules (suc n)) h).0 earlier
      ]

  -- where no rule is broken, neither S1 is, nor a rule after it
  S1-none_parts : (k : ℕ) → break_at t stretch stability_rules k ≡ None → (rule_break t stretch k S1 ≡ None)
      × (option_or (rule_break t stretch k S2) (option_or (rule_break t stretch k S3) None) ≡ None)
  unfolding break_at
  S1-none_parts k h =
      let second = (option_or-none_parts (rule_break t stretch k U2) (option_or (rule_break t stretch k U3)
      (option_or (rule_break t stretch k U4) (option_or (rule_break t stretch k S1)
      (option_or (rule_break t stretch k S2)
      (option_or (rule_break t stretch k S3) None))))) h).1 in
      let third = (option_or-none_parts (rule_break t stretch k U3) (option_or (rule_break t stretch k U4)
      (option_or (rule_break t stretch k S1) (option_or (rule_break t stretch k S2)
      (option_or (rule_break t stretch k S3)
      None)))) second).1 in
      let fourth = (option_or-none_parts (rule_break t stretch k U4) (option_or (rule_break t stretch k S1)
      (option_or (rule_break t stretch k S2) (option_or (rule_break t stretch k S3) None))) third).1 in
      option_or-none_parts (rule_break t stretch k S1) (option_or (rule_break t stretch k S2)
      (option_or (rule_break t stretch k S3) None)) fourth

  -- where no rule is broken, S2 isn't
  pub rule_break-S2_none : (k : ℕ) → break_at t stretch stability_rules k ≡ None → rule_break t stretch k S2 ≡ None
  rule_break-S2_none k h = (option_or-none_parts (rule_break t stretch k S2)
      (option_or (rule_break t stretch k S3) None) (S1-none_parts k h).1).0

  -- if there is no break before n + 1, there is none before n and none at n
  pub break_before-none_parts : (n : ℕ) → break_before t stretch stability_rules (suc n) ≡ None
      → (break_before t stretch stability_rules n ≡ None) × (break_at t stretch stability_rules n ≡ None)
  unfolding break_before
  break_before-none_parts n h = option_or-none_parts (break_before t stretch stability_rules n)
      (break_at t stretch stability_rules n) h

  -- if S2 isn't broken at k, it is broken on no line
  pub least-S2_none : (k : ℕ) (f : Option ℕ) → least (breaks t stretch S2 k) 0 line_count ≡ f
      → rule_break t stretch k S2
      ≡ None
      → f ≡ None
  unfolding rule_break
  least-S2_none k f e h = sym e
      ∙ option_map-none (λ (x : ℕ). record { instant = k; time = time_at t k; rule = S2; line = x })
      (least (breaks t stretch S2 k) 0 line_count) h

  -- if S1 isn't broken at k, it is broken on no line
  breaks-S1_none : (k : ℕ) → rule_break t stretch k S1 ≡ None → (l : ℕ) → l < line_count → breaks t stretch S1 k l
      ≡ false
  unfolding rule_break
  breaks-S1_none k h l below = any-fails (breaks t stretch S1 k) 0 line_count l
      (least-none-any (breaks t stretch S1 k) 0
      line_count (option_map-none (λ (x : ℕ). record { instant = k; time = time_at t k; rule = S1; line = x })
      (least (breaks t stretch S1 k) 0 line_count) h)) (omega arith) below

  module _ (facts : IsStretch t stretch) (n : ℕ) (before : n < stretch.end)
      (unbroken : break_before t stretch stability_rules
      (suc n) ≡ None) (i : ℕ) (after : stretch.start < i) (order : i ≤ n)
      (held : holds_address t stretch n i ≡ true) where
    -- the cycle starts at i
    starts : cycle_starts t stretch i ≡ true
    starts = (and_parts _ _ (and_parts _ _ held).0).0

    -- the cycle runs at n
    runs : cycle_runs t i n ≡ true
    runs = (and_parts _ _ (and_parts _ _ held).0).1

    -- the cycle has no answer up to n
    unanswered : none (is_answer t stretch) i (n + 1) ≡ true
    unanswered = (and_parts _ _ held).1

    -- the cycle runs at each instant up to n
    cycle_runs-to : (k : ℕ) → k ≤ n → cycle_runs t i k ≡ true
    unfolding cycle_runs
    cycle_runs-to k h = none-shorter (rises t AS) (i + 1) (k + 1) (n + 1) (omega arith) runs

    -- the cycle holds its lines at each instant up to n
    holds_address-to : (k : ℕ) → k ≤ n → holds_address t stretch k i ≡ true
    holds_address-to k h = rw (
      starts,
      cycle_runs-to k h,
      none-shorter (is_answer t stretch) i (k + 1) (n + 1) (omega arith)
          unanswered,
    )
        refl

    -- a line below 45 that the cycle needs has no edge up to n
    has_edge-held : (k l : ℕ) → i ≤ k → suc k ≤ n → is_needed (levels_at t i) l ≡ true → l < 45 → has_edge t l (suc k)
        ≡ false
    unfolding breaks is_broken
    has_edge-held k l from to needed small =
        has_edge-off (is_judged stretch (suc k)) (has_line t.opening.slots l) (has_edge t l (suc k)) _
        (breaks-S1_none (suc k) (S1-none_parts (suc k) (break_at-none_before n (suc k) unbroken to)).0 l
        (omega arith))
        (is_judged-holds stretch (suc k) (omega arith) (omega arith)) (bus_line_exists t.opening.slots l (omega arith))
        (any-holds (λ j. holds_address t stretch (suc k) j && is_needed (levels_at t j) l) (stretch.start + 1) (suc k) i
        (omega arith) (omega arith) (rw (holds_address-to (suc k) to, needed) refl))

    -- a line without an edge has the level that it had
    level_at-no_edge : (k l : ℕ) → has_edge t l (suc k) ≡ false → level_at (levels_at t (suc k)) l
        ≡ level_at (levels_at t k) l
    unfolding has_edge
    level_at-no_edge k l h = same_level-equal (level_at (levels_at t k) l) (level_at (levels_at t (suc k)) l)
        (not-false (same_level (level_at (levels_at t k) l) (level_at (levels_at t (suc k)) l))
        (rw (suc-sub-one k) at h))

    -- a line below 45 that the cycle needs has, at each instant up to n, the level of its start
    level_at-held : (k l : ℕ) → i ≤ k → k ≤ n → is_needed (levels_at t i) l ≡ true → l < 45 → level_at (levels_at t k) l
        ≡ level_at (levels_at t i) l
    level_at-held zero l from to needed small = let e : i ≡ 0 = omega arith in rw e refl
    level_at-held (suc k) l from to needed small =
        elim (next_or_within i k from) [
          | inl e ↦ rw e refl
          | inr later ↦ level_at-no_edge k l (has_edge-held k l later to needed small)
              ∙ level_at-held k l later (omega arith) needed small
        ]

    -- while the lines of a cycle are held, the levels need the same lines as at its start
    pub needs_of-held : needs_of (levels_at t n) ≡ needs_of (levels_at t i)
    unfolding is_needed
    needs_of-held = needs_of-same (levels_at t i) (levels_at t n) (λ l h. level_at-held n l order (omega arith) h
        (needs_of-below (levels_at t i) l h))

    -- AS* is low where a cycle starts
    low-cycle_start : cycle_starts t stretch i ≡ true → low t AS i ≡ true
    unfolding cycle_starts falls
    low-cycle_start h = (and_parts _ _ (and_parts _ _ h).1).1

    -- AS* doesn't rise while a cycle runs
    rises-none_in_cycle : cycle_runs t i n ≡ true → (k : ℕ) → i ≤ k → suc k ≤ n
        → (low t AS k && high t AS (suc k)) ≡ false
    unfolding cycle_runs rises
    rises-none_in_cycle h k from to =
        rw (suc-sub-one k) at (any-fails (rises t AS) (i + 1) (n + 1) (suc k) (not-true _ h)
        (omega arith) (omega arith))

    -- if AS* is low and doesn't rise, it is low at the next judged instant
    low-next : (k : ℕ) → stretch.start ≤ suc k → suc k < stretch.end → low t AS k ≡ true
        → (low t AS k && high t AS (suc k))
        ≡ false → low t AS (suc k) ≡ true
    unfolding low high
    low-next k from to h r = is_low-known_not_high (level_at (levels_at t (suc k)) AS)
        (facts.known (suc k) AS from to (lit< tt) refl) (and-false_second _ _ h r)

    -- AS* is low at each instant from the start of the cycle to n
    low-held : (k : ℕ) → i ≤ k → k ≤ n → low t AS k ≡ true
    low-held zero from to = let e : i ≡ 0 = omega arith in rw e at (low-cycle_start starts)
    low-held (suc k) from to =
        elim (next_or_within i k from) [
          | inl e ↦ rw e at (low-cycle_start starts)
          | inr later ↦ low-next k (omega arith) (omega arith) (low-held k later (omega arith))
              (rises-none_in_cycle runs k later to)
        ]

    -- while the lines of a cycle are held, AS* is low
    pub is_low-held : is_low (level_at (levels_at t n) AS) ≡ true
    unfolding low
    is_low-held = low-held n order (omega arith)

  module _ (facts : IsStretch t stretch) (n : ℕ) (from : stretch.start ≤ n) (before : suc n < stretch.end)
      (unbroken : break_before t stretch stability_rules (suc n) ≡ None) where
    -- the levels before the step
    abbrev old : Levels
    old = levels_at t n

    -- the levels after the step
    abbrev new : Levels
    new = levels_at t (suc n)

    -- some cycle that started before n + 1 holds its lines at n + 1
    abbrev still_held : Bool
    still_held = any (holds_address t stretch (suc n)) (stretch.start + 1) (suc n)

    -- a cycle that runs at n + 1 runs at n
    cycle_runs-before : (i : ℕ) → cycle_runs t i (suc n) ≡ true → cycle_runs t i n ≡ true
    unfolding cycle_runs
    cycle_runs-before i h = none-shorter (rises t AS) (i + 1) (n + 1) (suc n + 1) (omega arith) h

    -- held lines of a cycle that started up to n were held at n
    holds_address-before : (i : ℕ) → i ≤ n → holds_address t stretch (suc n) i ≡ true → holds_address t stretch n i
        ≡ true
    holds_address-before i order h =
        let two = and_parts (cycle_starts t stretch i && cycle_runs t i (suc n))
        (none (is_answer t stretch) i (suc n + 1)) h in
        let one = and_parts (cycle_starts t stretch i) (cycle_runs t i (suc n)) two.0 in
        rw (
          one.0,
          cycle_runs-before i one.1,
          none-shorter (is_answer t stretch) i (n + 1) (suc n + 1)
              (omega arith) two.1,
        )
        refl

    -- the lines that the held cycle needs are those that the levels before the step need
    any-needed_held : (l : ℕ) → any (λ i. holds_address t stretch (suc n) i && is_needed (levels_at t i) l)
        (stretch.start + 1)
        (suc n) ≡ (still_held && is_needed old l)
    unfolding is_needed
    any-needed_held l = any-alike (λ i. holds_address t stretch (suc n) i && is_needed (levels_at t i) l)
        (λ i. holds_address t stretch (suc n) i && is_needed old l) (stretch.start + 1) (suc n) same
        ∙ any-and (holds_address t stretch (suc n)) (is_needed old l) (stretch.start + 1) (suc n)
      where
        same : (i : ℕ) → stretch.start + 1 ≤ i → i < suc n → (holds_address t stretch (suc n) i
            && is_needed (levels_at t i)
            l) ≡ (holds_address t stretch (suc n) i && is_needed old l)
        same i a b = by_test (holds_address t stretch (suc n) i) refl
          where
            by_test : (h : Bool) → holds_address t stretch (suc n) i ≡ h → (h && is_needed (levels_at t i) l)
                ≡ (h && is_needed old l)
            by_test true e = ap (λ needs. is_within needs l)
                (sym (needs_of-held facts n (omega arith) unbroken i (omega arith) (omega arith)
                (holds_address-before i (omega arith) e)))
            by_test false e = refl

    -- AS* is low before the step if lines are still held
    is_low-still_held : still_held ≡ true → is_low (level_at old AS) ≡ true
    is_low-still_held h =
        let found = any-least (holds_address t stretch (suc n)) (stretch.start + 1) (suc n) h in
        let least_one = least-found (holds_address t stretch (suc n)) (stretch.start + 1) (suc n) found.0 found.1 in
        is_low-held facts n (omega arith) unbroken found.0 (omega (arith, least_one.first))
        (omega (arith, least_one.below)) (holds_address-before found.0 (omega (arith, least_one.below)) least_one.holds)

    -- S1 by its tests: the line has an edge, and a cycle that still holds its lines needs it
    breaks-S1 : (l : ℕ) → breaks t stretch S1 (suc n) l ≡ (is_judged stretch (suc n) && has_line t.opening.slots l
        && (not (same_level (level_at old l) (level_at new l)) && (still_held && is_within (needs_of old) l)))
    unfolding breaks is_broken has_edge is_needed
    breaks-S1 l = rw (suc-sub-one n, any-needed_held l) refl

    -- a line that a cycle needs is below `line_count`
    is_within-below_line_count : (l : ℕ) → is_within (needs_of old) l ≡ true → l < line_count
    is_within-below_line_count l h = omega (arith, needs_of-below old l h)

    module _ (cs : List Change) (stepped : new ≡ changed old cs) (fit : are_changes old 0 cs ≡ true) where
      -- the levels have more than 45 lines
      length-levels_above_45 : 45 < length old.levels
      length-levels_above_45 = length-known_level old.levels 45 (facts.known n 45 from (omega arith) (lit< tt) refl)

      -- S1 isn't broken on a line that isn't changed
      breaks-S1_unchanged : (l : ℕ) → is_changed cs l ≡ false → breaks t stretch S1 (suc n) l ≡ false
      breaks-S1_unchanged l h = breaks-S1 l ∙ rw (stepped, level-kept old cs l h, same_level-refl (level_at old l))
          (no_edge_no_break (is_judged stretch (suc n)) (has_line t.opening.slots l))
        where
          no_edge_no_break : (a b : Bool) → (a && b && false) ≡ false
          no_edge_no_break true true = refl
          no_edge_no_break true false = refl
          no_edge_no_break false b = refl

      -- if lines are still held, S1 is broken on a changed line exactly if it is needed
      breaks-S1_changed : still_held ≡ true → (l : ℕ) → is_changed cs l ≡ true → breaks t stretch S1 (suc n) l
          ≡ is_within (needs_of old) l
      breaks-S1_changed held l h = breaks-S1 l
          ∙ rw (stepped, held, is_judged-holds stretch (suc n) (omega arith) before)
          (by_need (is_within (needs_of old) l) refl)
        where
          ends_false : (a b : Bool) → (true && a && (b && (true && false))) ≡ false
          ends_false true true = refl
          ends_false true false = refl
          ends_false false b = refl

          by_need : (b : Bool) → is_within (needs_of old) l ≡ b → (true && has_line t.opening.slots l
              && (not (same_level (level_at old l) (level_at (changed old cs) l)) && (true && b))) ≡ b
          by_need true e =
              let small = needs_of-below old l e in
              rw (
                bus_line_exists t.opening.slots l (omega arith),
                is_changed-edge old cs l fit
                    (omega (arith, length-levels_above_45)),
                h,
              ) refl
          by_need false e = ends_false (has_line t.opening.slots l)
              (not (same_level (level_at old l) (level_at (changed old cs) l)))

      -- the least line that breaks S1 is the first changed line that is needed, if lines are still held
      least-S1_by_held : (b : Bool) → still_held ≡ b → least (breaks t stretch S1 (suc n)) 0 line_count
          ≡ cond b (changed_need_line old cs) None
      least-S1_by_held true held = sym (rw (is_low-still_held held)
          (first_changed-least_alike old (breaks t stretch S1 (suc n)) (is_within (needs_of old)) line_count
          (λ l exists needed. is_within-below_line_count l needed) 0 cs fit breaks-S1_unchanged
          (breaks-S1_changed held)))
      least-S1_by_held false held = least-none (breaks t stretch S1 (suc n)) 0 line_count
          (fails-any (breaks t stretch S1 (suc n)) 0
          line_count (λ l a b. breaks-S1 l ∙ rw held (nothing_held (is_judged stretch (suc n))
          (has_line t.opening.slots l)
          (not (same_level (level_at old l) (level_at new l))))))
        where
          nothing_held : (a b c : Bool) → (a && b && (c && false)) ≡ false
          nothing_held true true true = refl
          nothing_held true true false = refl
          nothing_held true false c = refl
          nothing_held false b c = refl

      -- the least line that breaks S1 is the line of the machine's fault
      pub least-S1 : (m : Holding) → Holds t stretch n m → least (breaks t stretch S1 (suc n)) 0 line_count
          ≡ changed_need_fault m old new (observation_of old new cs)
      least-S1 m holds = rw (keeps_address-any t stretch facts.reads n from before m holds)
          (least-S1_by_held still_held refl)
