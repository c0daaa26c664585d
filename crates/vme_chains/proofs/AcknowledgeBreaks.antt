-- The rules I1 to I3 at a judged instant, by the levels before and after the step and what the memory (state of the
-- automaton) says of the cycle.
use Rattle.std.proofs.Common.{◌≡◌, ℕ, suc, ◌<◌, ◌≤◌, Bool, true, false, ◌&&◌, not, refl, ◌∙◌, ap, arith, cond}
use Rattle.std.specs.Prelude.{None}
use Rattle.vme_trace.specs.Edges.{falls_between, low_near}
use Rattle.vme_trace.specs.Instants.{any, least}
use Rattle.vme_trace.specs.LineNumbers.{line_count, AS, is_slot_iack, input_of, has_line}
use Rattle.vme_trace.specs.Levels.{Levels, level_at, is_low}
use Rattle.vme_trace.specs.Trace.{Trace, levels_at}
use Rattle.vme_trace.specs.Signals.{low, high, falls}
use Rattle.vme_trace.specs.Judged.{Stretch, is_judged}
use Rattle.vme_trace.specs.Cycles.{in_cycle}
use Rattle.vme_trace.specs.Rules.{breaks, is_broken}
use Rattle.vme_trace.specs.declared.rule.Rule.TheVariants.{I1, I2, I3}
use Rattle.vme_trace.proofs.Ranges.{least-alike}
use Rattle.vme_trace.proofs.OpenTransfers.{is_judged-holds, suc-sub-one}
use Rattle.vme_trace.proofs.StretchEnds.{slots_at}
use Rattle.vme_chains.specs.AcknowledgeRules.{passes_on, passes_unasked, is_strobed, is_addressed}
use Rattle.vme_chains.specs.declared.acknowledge.AcknowledgeMemory.{AcknowledgeMemory}
use Rattle.vme_chains.proofs.AcknowledgeChanges.{least-when}
use Rattle.vme_chains.proofs.AcknowledgeMeaning.{dtack_answers, Holds, in_cycle-answered_by_dtack}

-- a test of a line is the same in another order, with whether the backplane has the line asked twice
and-reordered_once : (has slot falls more : Bool) → (has && (slot && falls && more))
    ≡ ((slot && has && has && falls) && more)
and-reordered_once true true falls more = refl
and-reordered_once true false falls more = refl
and-reordered_once false true falls more = refl
and-reordered_once false false falls more = refl

-- a test of a line with three tests after it is the same in another order, with whether the backplane has the line
-- asked twice
and-reordered_thrice : (has slot falls a b c : Bool) → (has && (slot && falls && a && b && c))
    ≡ ((slot && has && has && falls) && (a && b && c))
and-reordered_thrice true true true a b c = refl
and-reordered_thrice true true false a b c = refl
and-reordered_thrice true false falls a b c = refl
and-reordered_thrice false true falls a b c = refl
and-reordered_thrice false false falls a b c = refl

-- the step from instant n to n + 1, both in the stretch
module _ (t : Trace) (stretch : Stretch) (n : ℕ) (from : stretch.start ≤ n) (before : suc n < stretch.end) where
  -- the levels before the step
  abbrev old : Levels
  old = levels_at t n

  -- the levels after the step
  abbrev new : Levels
  new = levels_at t (suc n)

  -- n + 1 is judged
  is_judged-next : is_judged stretch (suc n) ≡ true
  is_judged-next = is_judged-holds stretch (suc n) (omega arith) before

  -- a line breaks I1 just if it passes an acknowledge on while the slot's input isn't low
  pub breaks-I1 : (l : ℕ) → breaks t stretch I1 (suc n) l ≡ passes_unasked old new l
  unfolding breaks is_broken falls high low
  breaks-I1 l =
      rw (suc-sub-one n, is_judged-next, slots_at t n, slots_at t (suc n))
      (and-reordered_once (has_line t.opening.slots l)
      (is_slot_iack l) (falls_between old new l) (not (low_near old new (input_of l))))

  -- a line breaks I2 just if it passes an acknowledge on while the strobes aren't low
  pub breaks-I2 : (l : ℕ) → breaks t stretch I2 (suc n) l ≡ (passes_on old new l && not (is_strobed old new))
  unfolding breaks is_broken falls high low
  breaks-I2 l =
      rw (suc-sub-one n, is_judged-next, slots_at t n, slots_at t (suc n))
      (and-reordered_once (has_line t.opening.slots l)
      (is_slot_iack l) (falls_between old new l) (not (is_strobed old new)))

  -- where the address strobe is low on both sides, the memory says whether DTACK answered a transfer of the cycle
  in_cycle-by_memory : (m : AcknowledgeMemory) → Holds t stretch n m → (b : Bool) → low t AS n ≡ b
      → (b && is_low (level_at new AS) && in_cycle t stretch (λ i. any (dtack_answers t stretch) i (suc n)) n)
      ≡ (b && is_low (level_at new AS) && m.answered_by_dtack)
  in_cycle-by_memory m h true e = ap (λ c. is_low (level_at new AS) && c) (in_cycle-answered_by_dtack t stretch n m h e)
  in_cycle-by_memory m h false e = refl

  -- a line breaks I3 just if it passes an acknowledge on in a cycle in which DTACK answered a transfer, by the memory
  pub breaks-I3 : (m : AcknowledgeMemory) → Holds t stretch n m → (l : ℕ) → breaks t stretch I3 (suc n) l
      ≡ (passes_on old new l && (is_addressed old new && m.answered_by_dtack))
  unfolding breaks is_broken falls high low
  breaks-I3 m h l =
      rw (suc-sub-one n, is_judged-next, slots_at t n, slots_at t (suc n))
      (and-reordered_thrice (has_line t.opening.slots l) (is_slot_iack l) (falls_between old new l)
      (is_low (level_at old AS))
      (is_low (level_at new AS)) (in_cycle t stretch (λ i. any (dtack_answers t stretch) i (suc n)) n)
      ∙ ap (λ c. (is_slot_iack l && has_line t.opening.slots l && has_line t.opening.slots l && falls_between old new l)
      && c) (in_cycle-by_memory m h (is_low (level_at old AS)) refl))

  -- the least line that breaks I1 is the least that passes an acknowledge on while the slot's input isn't low
  pub least-I1 : least (breaks t stretch I1 (suc n)) 0 line_count ≡ least (passes_unasked old new) 0 line_count
  least-I1 = least-alike (breaks t stretch I1 (suc n)) (passes_unasked old new) 0 line_count (λ l a b. breaks-I1 l)

  -- the least line that breaks I2 is the least that passes an acknowledge on, if the strobes aren't low
  pub least-I2 : least (breaks t stretch I2 (suc n)) 0 line_count ≡ cond (not (is_strobed old new))
      (least (passes_on old new) 0 line_count) None
  least-I2 = least-alike (breaks t stretch I2 (suc n)) (λ l. passes_on old new l && not (is_strobed old new)) 0
      line_count (λ l a b. breaks-I2 l) ∙ least-when (passes_on old new) (not (is_strobed old new)) line_count

  -- the least line that breaks I3 is the least that passes an acknowledge on, if DTACK answered a transfer of the
  -- cycle, by the memory
  pub least-I3 : (m : AcknowledgeMemory) → Holds t stretch n m → least (breaks t stretch I3 (suc n)) 0 line_count
      ≡ cond (is_addressed old new && m.answered_by_dtack) (least (passes_on old new) 0 line_count) None
  least-I3 m h = least-alike (breaks t stretch I3 (suc n)) (λ l. passes_on old new l
      && (is_addressed old new && m.answered_by_dtack)) 0 line_count (λ l a b. breaks-I3 m h l)
      ∙ least-when (passes_on old new) (is_addressed old new && m.answered_by_dtack) line_count
