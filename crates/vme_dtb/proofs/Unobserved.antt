-- A step in which nothing is observed leaves the memory (the state of the automaton) as it is and breaks no rule.
use Rattle.std.proofs.Common.{◌≡◌, ℕ, suc, ◌<◌, ◌≤◌, Bool, true, false, ◌||◌, ◌&&◌, not, List, refl, sym, ◌∙◌, arith}
use Rattle.std.proofs.Common.{cond, lit<}
use Rattle.std.specs.Prelude.{None, Some}
use Rattle.std.specs.Option.{is_some, option_or}
use Rattle.std.proofs.lemmas.Bool.{or_parts}
use Rattle.vme_trace.specs.Edges.{answer_between, rises_between, strobe_low_in, strobe_rises_between, strobes_high_in}
use Rattle.vme_trace.specs.LineNumbers.{AS, DS0, DS1, WRITE}
use Rattle.vme_trace.specs.Levels.{Levels, level_at, is_low, is_known}
use Rattle.vme_trace.specs.Trace.{Trace, levels_at}
use Rattle.vme_trace.specs.Judged.{Stretch}
use Rattle.vme_trace.specs.declared.rule.Rule.TheVariants.{S1, S2}
use Rattle.vme_trace.specs.declared.step.Change.{Change}
use Rattle.vme_trace.proofs.Ranges.{clash}
use Rattle.vme_trace.proofs.OpenTransfers.{noted_while_low-same}
use Rattle.vme_monitor.specs.Run.{quiet}
use Rattle.vme_monitor.specs.declared.tracking.TransferPhase.{TransferPhase}
use Rattle.vme_monitor.specs.declared.tracking.TransferPhase.TheVariants.{Closed, Reading, Writing, Answered}
use Rattle.vme_monitor.proofs.StretchFacts.{IsStretch}
use Rattle.vme_monitor.proofs.Transitions.{is_some-none}
use Rattle.vme_dtb.specs.StabilityRules.{changed_need_line, may_change_memory, direction_turned, fault_on}
use Rattle.vme_dtb.specs.StabilityRules.{unknown_fault, held_fault, is_observed, keeps_address, keeps_direction}
use Rattle.vme_dtb.specs.StabilityRules.{observation_of, changed_data_line, stability_next, stepped, undriven_line}
use Rattle.vme_dtb.specs.declared.holding.Holding.{Holding}
use Rattle.vme_dtb.specs.HoldingNumbers.{has_risen, was_answered}
use Rattle.vme_dtb.proofs.StabilityMeaning.{Holds, strobes_high_in-before, strobes_high_in-is_closed}
use Rattle.vme_dtb.proofs.Progressing.{is_answered_state, is_closed, passed-parts}

-- what has happened in the transfer stays, if nothing had happened where both strobes are high
transfer_part-same : (b a : Bool) → (b ≡ true → a ≡ false) → (not b && (a || false)) ≡ a
transfer_part-same true a off = sym (off refl)
transfer_part-same false true off = refl
transfer_part-same false false off = refl

-- a step without an answer and without a rise of a strobe or AS* leaves the memory as it is
stepped-same : (v w : Levels) (m : Holding) → answer_between v w ≡ false → strobe_rises_between v w ≡ false
    → rises_between v w AS ≡ false
    → (strobes_high_in w ≡ true → was_answered m.transfer ≡ false) → (strobes_high_in w ≡ true → has_risen m.transfer
    ≡ false) → (is_low (level_at v AS) ≡ false → m.cycle_answered ≡ false) → is_known (level_at w AS) ≡ true
    → stepped m v w ≡ m
stepped-same v w m answer strobe address closed still idle known =
    rw (answer, strobe)
    (rw (
      transfer_part-same (strobes_high_in w) (was_answered m.transfer) closed,
      transfer_part-same (strobes_high_in w) (has_risen m.transfer) still,
      passed-parts m.transfer (is_low (level_at v WRITE)),
      noted_while_low-same (level_at v AS) (level_at w AS) m.cycle_answered (not (was_answered m.transfer)
          && (not (strobes_high_in v) || strobe_low_in w)) known idle address,
    )
    refl)

-- no held line breaks a rule if no needed line changes and WRITE* stays
held_fault-none : (v w : Levels) (m : Holding) (cs : List Change) → changed_need_line v cs ≡ None → direction_turned v w
    ≡ false
    → held_fault m v w (observation_of v w cs) ≡ None
held_fault-none v w m cs changed_need turned =
    rw (changed_need, turned) (by_tests (keeps_address m v w) (keeps_direction m v w))
  where
    by_tests : (a b : Bool) → option_or (fault_on S1 (cond a None None))
        (fault_on S2 (cond (b && false) (Some WRITE) None)) ≡ None
    by_tests true true = refl
    by_tests true false = refl
    by_tests false true = refl
    by_tests false false = refl

module _ (t : Trace) (stretch : Stretch) (facts : IsStretch t stretch) (n : ℕ) (from : stretch.start ≤ n)
    (before : suc n < stretch.end) where
  -- the levels before the step
  abbrev old : Levels
  old = levels_at t n

  -- the levels after the step
  abbrev new : Levels
  new = levels_at t (suc n)

  -- if both strobes are high, no transfer is open, so none is answered
  is_answered_state-closed : (p : TransferPhase) → strobes_high_in old ≡ is_closed p → strobes_high_in old ≡ true
      → is_answered_state p
      ≡ false
  is_answered_state-closed Closed e h = refl
  is_answered_state-closed Reading e h = refl
  is_answered_state-closed Writing e h = refl
  is_answered_state-closed Answered e h = absurd (clash (strobes_high_in old) h e)

  -- a step that isn't observed leaves a memory that is right of n as it is, and breaks no rule
  pub stability_next-unobserved : (m : Holding) (cs : List Change) → Holds t stretch n m → is_observed old new cs
      ≡ false
      → stability_next m old new (observation_of old new cs) ≡ quiet m
  stability_next-unobserved m cs holds h =
      let all = or_parts (is_some (unknown_fault old new) || is_some (changed_need_line old cs)
      || direction_turned old new || may_change_memory old new || is_some (undriven_line old new))
      (is_some (changed_data_line old new cs)) h in
      let most = or_parts (is_some (unknown_fault old new) || is_some (changed_need_line old cs) || direction_turned old
      new || may_change_memory old new) (is_some (undriven_line old new)) all.0 in
      let held = or_parts (is_some (unknown_fault old new) || is_some (changed_need_line old cs) || direction_turned old
      new) (may_change_memory old new) most.0 in
      let turned = or_parts (is_some (unknown_fault old new) || is_some (changed_need_line old cs))
      (direction_turned old new) held.0 in
      let changed_need = or_parts (is_some (unknown_fault old new)) (is_some (changed_need_line old cs)) turned.0 in
      let address = or_parts (answer_between old new || strobe_rises_between old new) (rises_between old new AS)
      held.1 in
      let strobe = or_parts (answer_between old new) (strobe_rises_between old new) address.0 in
      let highs = strobes_high_in-before old new (facts.known n DS0 from (omega arith) (lit< tt) refl)
      (facts.known n DS1 from (omega arith) (lit< tt) refl) strobe.1 in
      rw (
        is_some-none (unknown_fault old new) changed_need.0,
        is_some-none (undriven_line old new) most.1,
        is_some-none (changed_data_line old new cs) all.1,
        held_fault-none old new m cs (is_some-none (changed_need_line old cs) changed_need.1) turned.1,
        stepped-same old new m strobe.0 strobe.1 address.1
            (λ h. sym holds.transfer ∙ is_answered_state-closed holds.state
            (strobes_high_in-is_closed t stretch facts.reads n from before holds.state
            holds.says) (highs h))
            (λ h. holds.closed (highs h)) holds.idle (facts.known (suc n) AS (omega arith) before (lit< tt) refl),
      )
      refl
