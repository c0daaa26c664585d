-- The fault of a step of the grant monitor is the first broken rule of grants and tenures.
use Rattle.std.proofs.Common.{◌≡◌, ℕ, suc, ◌+◌, ◌<◌, ◌≤◌, true, ◌&&◌, ◌||◌, not, List, refl, sym, ◌∙◌, Option, Some}
use Rattle.std.proofs.Common.{None, cond}
use Rattle.std.specs.Prelude.{option_map}
use Rattle.std.specs.Option.{option_or}
use Rattle.vme_trace.specs.Changes.{first_changed}
use Rattle.vme_trace.specs.Instants.{least}
use Rattle.vme_trace.specs.LineNumbers.{line_count, AS, BBSY, grant}
use Rattle.vme_trace.specs.Levels.{Levels}
use Rattle.vme_trace.specs.Trace.{Trace, levels_at, time_at, changed}
use Rattle.vme_trace.specs.WellFormed.{are_changes}
use Rattle.vme_trace.specs.Judged.{Stretch}
use Rattle.vme_trace.specs.Rules.{breaks, is_option_equal}
use Rattle.vme_trace.specs.Verdict.{break_at, rule_break}
use Rattle.vme_trace.specs.declared.rule.Rule.{Rule}
use Rattle.vme_trace.specs.declared.rule.Rule.TheVariants.{G1, G2, G3, G4, G5, B1, B2, B3, B4}
use Rattle.vme_trace.specs.declared.step.Change.{Change}
use Rattle.vme_trace.specs.declared.verdict.Break.{Break}
use Rattle.vme_monitor.specs.Run.{break_of_fault}
use Rattle.vme_chains.specs.GrantLevels.{falls_between, is_net_broken, grant_begins, requested_in}
use Rattle.vme_chains.specs.GrantLevels.{taken_between, is_ungranted, is_cycle_unowned}
use Rattle.vme_chains.specs.GrantMemory.{union}
use Rattle.vme_chains.specs.GrantRules.{grant_rules, fault_on, line_if, unrequested, seen_between, slot_of, step_fault}
use Rattle.vme_chains.specs.declared.grant_memory.Arbitration.{Arbitration}
use Rattle.vme_chains.proofs.GrantMeaning.{Holds}
use Rattle.vme_chains.proofs.GrantNets.{least-G1, least-G2, least-G3, least-G4}
use Rattle.vme_chains.proofs.GrantArbiter.{least-G5}
use Rattle.vme_chains.proofs.GrantTenures.{least-B1, least-B2, least-B3, least-B4}

-- a break on a line, if there is one
abbrev pub broken_on : ℕ → ℕ → Rule → Option ℕ → Option Break
broken_on j time r lines = option_map (λ l. record { instant = j; time = time; rule = r; line = l }) lines

-- the first break of nine rules, each with its line if it is broken
abbrev pub first_broken : ℕ → ℕ → Option ℕ → Option ℕ → Option ℕ → Option ℕ → Option ℕ → Option ℕ → Option ℕ → Option ℕ
    → Option ℕ → Option Break
first_broken j time g1 g2 g3 g4 g5 b1 b2 b3 b4 =
    option_or (broken_on j time G1 g1)
    (option_or (broken_on j time G2 g2)
    (option_or (broken_on j time G3 g3)
    (option_or (broken_on j time G4 g4)
    (option_or (broken_on j time G5 g5)
    (option_or (broken_on j time B1 b1) (option_or (broken_on j time B2 b2) (option_or (broken_on j time B3 b3)
    (option_or (broken_on j time B4 b4) None))))))))

-- the first of nine faults, as a break, is the first break of nine rules
first_broken-faults : (j time : ℕ) (g1 g2 g3 g4 g5 b1 b2 b3 b4 : Option ℕ)
    → option_map (break_of_fault j time)
    (option_or (option_or (fault_on G1 g1) (option_or (fault_on G2 g2) (option_or (fault_on G3 g3) (fault_on G4 g4))))
    (option_or (fault_on G5 g5)
    (option_or (fault_on B1 b1) (option_or (fault_on B2 b2) (option_or (fault_on B3 b3) (fault_on B4 b4))))))
    ≡ first_broken j time g1 g2 g3 g4 g5 b1 b2 b3 b4
first_broken-faults j time (Some l) g2 g3 g4 g5 b1 b2 b3 b4 = refl
first_broken-faults j time None (Some l) g3 g4 g5 b1 b2 b3 b4 = refl
first_broken-faults j time None None (Some l) g4 g5 b1 b2 b3 b4 = refl
first_broken-faults j time None None None (Some l) g5 b1 b2 b3 b4 = refl
first_broken-faults j time None None None None (Some l) b1 b2 b3 b4 = refl
first_broken-faults j time None None None None None (Some l) b2 b3 b4 = refl
first_broken-faults j time None None None None None None (Some l) b3 b4 = refl
first_broken-faults j time None None None None None None None (Some l) b4 = refl
first_broken-faults j time None None None None None None None None (Some l) = refl
first_broken-faults j time None None None None None None None None None = refl

module _ (t : Trace) (stretch : Stretch) where
  -- the break of the grant rules at an instant is the first break of the nine, each on its least line
  break_at-first_broken : (j : ℕ) (g1 g2 g3 g4 g5 b1 b2 b3 b4 : Option ℕ)
      → least (breaks t stretch G1 j) 0 line_count ≡ g1 → least (breaks t stretch G2 j) 0 line_count ≡ g2
      → least (breaks t stretch G3 j) 0 line_count ≡ g3 → least (breaks t stretch G4 j) 0 line_count ≡ g4
      → least (breaks t stretch G5 j) 0 line_count ≡ g5 → least (breaks t stretch B1 j) 0 line_count ≡ b1
      → least (breaks t stretch B2 j) 0 line_count ≡ b2 → least (breaks t stretch B3 j) 0 line_count ≡ b3
      → least (breaks t stretch B4 j) 0 line_count ≡ b4
      → break_at t stretch grant_rules j ≡ first_broken j (time_at t j) g1 g2 g3 g4 g5 b1 b2 b3 b4
  unfolding break_at rule_break
  break_at-first_broken j g1 g2 g3 g4 g5 b1 b2 b3 b4 e1 e2 e3 e4 e5 f1 f2 f3 f4 =
      rw (e1, e2, e3, e4, e5, f1, f2, f3, f4) refl

  module _ (few : t.opening.slots ≤ 21) (n : ℕ) (from : stretch.start ≤ n) (before : suc n < stretch.end)
      (cs : List Change)
      (step : levels_at t (suc n) ≡ changed (levels_at t n) cs) (fit : are_changes (levels_at t n) 0 cs ≡ true)
      (m : Arbitration) (held : Holds t stretch n m) where
    -- the levels before the step
    abbrev old : Levels
    old = levels_at t n

    -- the levels after the step
    abbrev new : Levels
    new = levels_at t (suc n)

    -- the net of the first level that is granted without a request, if the arbiter begins a grant
    abbrev requests : Option ℕ
    requests = cond (grant_begins old new)
        (option_map (λ n. grant n 0) (unrequested old new (union m.requests (requested_in new)))) None

    -- the fault of the step, as a break, is the break of the grant rules at n + 1
    pub step_fault-break_at : option_map (break_of_fault (suc n) (time_at t (suc n)))
        (step_fault old new (union m.requests (requested_in new)) (m.granted || grant_begins old new)
        (seen_between old new cs)) ≡ break_at t stretch grant_rules (suc n)
    step_fault-break_at =
        first_broken-faults (suc n) (time_at t (suc n)) (first_changed (is_net_broken G1 old new) cs)
        (first_changed (is_net_broken G2 old new) cs) (first_changed (is_net_broken G3 old new) cs)
        (first_changed (is_net_broken G4 old new) cs)
        requests (line_if (falls_between old new BBSY && is_ungranted old new) BBSY)
        (line_if (falls_between old new BBSY && not (m.granted || grant_begins old new)) BBSY)
        (line_if (is_cycle_unowned old new) AS)
        (line_if (is_option_equal (slot_of (cond (falls_between old new BBSY) (taken_between old new) None))
        (new.slots + 1)) BBSY)
        ∙ sym
        (break_at-first_broken (suc n) _ _ _ _ _ _ _ _ _ (least-G1 t stretch few n from before cs step fit)
        (least-G2 t stretch few n from before cs step fit) (least-G3 t stretch few n from before cs step fit)
        (least-G4 t stretch few n from before cs step fit)
        (least-G5 t stretch few n from before m held) (least-B1 t stretch few n from before)
        (least-B2 t stretch few n from before m held)
        (least-B3 t stretch few n from before) (least-B4 t stretch few n from before))
