-- The memory of the handshake (the state of the automaton) is right of each judged instant, whichever rules are broken.
use Rattle.std.proofs.Common.{◌≡◌, ℕ, zero, suc, ◌<◌, ◌≤◌, Bool, true, false, ◌&&◌, ◌||◌, not, refl, sym, ◌∙◌, ap}
use Rattle.std.proofs.Common.{arith, lit<, Option, Some, None, cond, subst, inl, inr}
use Rattle.std.specs.Prelude.{is_some, slice_get}
use Rattle.std.proofs.lemmas.Bool.{not-false, not-true, le-ltb}
use Rattle.vme_trace.specs.LineNumbers.{line_count, DTACK, BERR}
use Rattle.vme_trace.specs.Levels.{Levels, level_at, is_low, is_known, is_idle, is_idle_on}
use Rattle.vme_trace.specs.Trace.{Trace, levels_at}
use Rattle.vme_trace.specs.Signals.{low}
use Rattle.vme_trace.specs.Judged.{Stretch}
use Rattle.vme_trace.specs.Transfers.{strobe_rises, is_answer, answers_write}
use Rattle.vme_trace.proofs.Ranges.{any-fails, next_or_within}
use Rattle.vme_monitor.specs.Along.{changes_of, memory_from}
use Rattle.vme_monitor.specs.Run.{machine_step}
use Rattle.vme_monitor.specs.Tracking.{entered, is_unanswered, is_writing}
use Rattle.vme_monitor.specs.declared.mark.Next.{Next}
use Rattle.vme_monitor.specs.declared.tracking.TransferPhase.{TransferPhase}
use Rattle.vme_monitor.proofs.StretchFacts.{IsStretch}
use Rattle.vme_monitor.proofs.Alongside.{memory_from-before}
use Rattle.vme_monitor.proofs.TrackedTransfers.{IsTransferPhase-start, IsTransferPhase-tracked}
use Rattle.vme_dtb.specs.CycleState.{after_answer, cycle_entered}
use Rattle.vme_dtb.specs.Edge.{edges_between}
use Rattle.vme_dtb.specs.Machine.{answer_in, dtb_begin, dtb_observation, dtb_step, may_rise, memory_after}
use Rattle.vme_dtb.specs.declared.cycle.CyclePhase.{CyclePhase}
use Rattle.vme_dtb.specs.declared.edges.Edges.{Edges}
use Rattle.vme_dtb.specs.declared.memory.HandshakeMemory.{HandshakeMemory}
use Rattle.vme_dtb.proofs.CycleBreaks.{cycle_before-here, answers_write-is_writing}
use Rattle.vme_dtb.proofs.CycleMemory.{cycle_after-answer, cycle_after, cycle_before, cycle_after-start}
use Rattle.vme_dtb.proofs.AnswerRises.{may_rise_at, may_rise_at-high, may_rise_at-next_instant}
use Rattle.vme_dtb.proofs.HandshakeBreaks.{is_answer-unanswered}
use Rattle.vme_dtb.proofs.HandshakeMeaning.{Holds}
use Rattle.vme_dtb.proofs.StepFacts.{old, new, strobe_rises-between}
use Rattle.vme_dtb.proofs.StillSteps.{machine_step-dtb_next}

-- on an idle bus each line is idle
is_idle_on-idle : (v : Levels) (l : ℕ) → l < line_count → is_idle v ≡ true → is_idle_on v l ≡ true
unfolding is_idle
is_idle_on-idle v l below idle = not-false _ (any-fails (λ k. not (is_idle_on v k)) 0 line_count l (not-true _ idle)
    (omega arith) below)

-- two tests of an answer give the same phase: u (the transfer is unanswered) and o (an answer line falls) tested each,
-- or o tested where u holds
after_answer-by_tests : (u w : Bool) (o : Option ℕ) (c : CyclePhase)
    → cond (u && is_some o) (after_answer c (w && is_some o)) c
    ≡ cond (is_some (cond u o None)) (after_answer c w) c
after_answer-by_tests true true None c = refl
after_answer-by_tests true true (Some l) c = refl
after_answer-by_tests true false None c = refl
after_answer-by_tests true false (Some l) c = refl
after_answer-by_tests false w o c = refl

module _ (t : Trace) (stretch : Stretch) (facts : IsStretch t stretch) where
  -- the memory with which a stretch begins is right of its start
  pub Holds-start : Holds t stretch stretch.start (dtb_begin (levels_at t stretch.start))
  Holds-start =
      record {
        transfer = IsTransferPhase-start t stretch facts.reads;
        cycle = sym (cycle_after-start t stretch);
        dtack = may_rise_at-high t stretch DTACK stretch.start (is_idle_on-idle (levels_at t stretch.start) 3 (lit< tt)
            facts.idle);
        berr = may_rise_at-high t stretch BERR stretch.start (is_idle_on-idle (levels_at t stretch.start) 4 (lit< tt)
            facts.idle);
      }

  module _ (n : ℕ) (from : stretch.start ≤ n) (before : suc n < stretch.end) (m : HandshakeMemory)
      (holds : Holds t stretch n m)
    where
      -- the edges of the step from n to n + 1
      abbrev seen : Edges
      seen = edges_between (old t n) (new t n)

      -- the phase of the transfer in which n + 1 is, before an answer counts
      abbrev within : TransferPhase
      within = entered m.transfer (old t n) (new t n)

      -- the phase of the cycle in which n + 1 is
      abbrev here : CyclePhase
      here = cycle_entered m.cycle seen.shown.cycle

      -- the phase of the cycle after the step is that of the definitions at n + 1
      cycle_after-next : cond (is_some (answer_in within seen)) (after_answer here (is_writing within)) here
          ≡ cycle_after t stretch (suc n)
      cycle_after-next =
          sym
          (cycle_after-answer t stretch (suc n)
          ∙ same_counted (is_answer t stretch (suc n)) (is_unanswered within && is_some seen.answer_fall)
          (cycle_before t stretch (suc n)) here (answers_write t stretch (suc n)) (is_writing within
          && is_some seen.answer_fall)
          (is_answer-unanswered t stretch facts.reads n from before m holds)
          (cycle_before-here t stretch facts.reads n from before m holds)
          (answers_write-is_writing t stretch facts.reads n from before m holds)
          ∙ after_answer-by_tests (is_unanswered within) (is_writing within) seen.answer_fall here)
        where
          same_counted : (a b : Bool) (c d : CyclePhase) (w x : Bool) → a ≡ b → c ≡ d → w ≡ x
              → cond a (after_answer c w) c
              ≡ cond b (after_answer d x) d
          same_counted a b c d w x e f g = rw (e, f, g) refl

      -- whether the line l may rise after the step is what the definitions say at n + 1
      may_rise_at-next : (l : ℕ) (was : Bool) → was ≡ may_rise_at t stretch l n → is_known (level_at (old t n) l) ≡ true
          → (is_low (level_at (new t n) l) && may_rise was seen) ≡ may_rise_at t stretch l (suc n)
      unfolding low
      may_rise_at-next l was e readable =
          same_may_rise (is_low (level_at (new t n) l)) was (may_rise_at t stretch l n) (is_some seen.strobe_rise)
          (strobe_rises t (suc n)) e (sym (strobe_rises-between t n))
          ∙ sym (may_rise_at-next_instant t stretch l n from readable)
        where
          same_may_rise : (a b c d f : Bool) → b ≡ c → d ≡ f → (a && (b || d)) ≡ (a && (c || f))
          same_may_rise a b c d f x y = rw (x, y) refl

      -- if the memory is right of n, the memory after the step is right of n + 1
      pub Holds-next : Holds t stretch (suc n) (memory_after m (old t n) (new t n) (edges_between (old t n) (new t n)))
      Holds-next =
          record {
            transfer = IsTransferPhase-tracked t stretch facts.reads n from before m.transfer holds.transfer;
            cycle = cycle_after-next;
            dtack = may_rise_at-next DTACK m.dtack_may_rise holds.dtack
                (facts.known n 3 from (omega (arith, before)) (lit< tt)
                refl);
            berr = may_rise_at-next BERR m.berr_may_rise holds.berr
                (facts.known n 4 from (omega (arith, before)) (lit< tt)
                refl);
          }

  -- the machine's memory at instant k of the stretch
  abbrev pub memory_at : ℕ → HandshakeMemory
  memory_at k = memory_from (machine_step dtb_observation dtb_step) t (dtb_begin (levels_at t stretch.start))
      stretch.start k

  -- the machine's memory is right of the start of the stretch
  Holds-memory_at_start : Holds t stretch stretch.start (memory_at stretch.start)
  Holds-memory_at_start = subst (Holds t stretch stretch.start)
      (sym (memory_from-before (machine_step dtb_observation dtb_step) t (dtb_begin (levels_at t stretch.start))
      stretch.start
      stretch.start
      (omega arith))) Holds-start

  -- the machine's memory is right of each instant of the stretch but its end
  pub Holds-at : (k : ℕ) → stretch.start ≤ k → k < stretch.end → Holds t stretch k (memory_at k)
  Holds-at zero from before = let e : stretch.start ≡ 0 = omega arith
      in subst (λ (k : ℕ). Holds t stretch k (memory_at k)) e
      Holds-memory_at_start
  Holds-at (suc n) from before =
      elim (next_or_within stretch.start n from) [
        | inl e ↦ subst (λ (k : ℕ). Holds t stretch k (memory_at k)) e Holds-memory_at_start
        | inr earlier ↦
            let so_far = Holds-at n earlier (omega arith) in
            rw (le-ltb n stretch.start earlier)
            (subst (Holds t stretch (suc n)) (ap (λ (x : Next HandshakeMemory). x.memory)
            (sym (machine_step-dtb_next t stretch n (memory_at n) so_far (changes_of (slice_get t.steps n)))))
            (Holds-next n earlier before (memory_at n) so_far))
      ]
