-- The line that breaks S2, i.e. WRITE* where it changes in a transfer before a strobe rises, is that of the machine's
-- fault.
use Rattle.std.proofs.Common.{◌≡◌, ℕ, suc, ◌+◌, ◌<◌, ◌≤◌, Bool, true, false, ◌&&◌, refl, sym, ◌∙◌}
use Rattle.std.specs.Prelude.{◌==◌, List}
use Rattle.std.proofs.Math.Bool.{and_comm}
use Rattle.vme_trace.specs.Instants.{any, least}
use Rattle.vme_trace.specs.LineNumbers.{line_count, WRITE, has_line}
use Rattle.vme_trace.specs.Levels.{Levels}
use Rattle.vme_trace.specs.Trace.{Trace, levels_at}
use Rattle.vme_trace.specs.Signals.{has_edge}
use Rattle.vme_trace.specs.Judged.{Stretch, is_judged}
use Rattle.vme_trace.specs.Rules.{breaks, is_broken}
use Rattle.vme_trace.specs.declared.rule.Rule.TheVariants.{S2}
use Rattle.vme_trace.specs.declared.step.Change.{Change}
use Rattle.vme_trace.proofs.OpenTransfers.{ReadsStrobes, suc-sub-one}
use Rattle.vme_dtb.specs.StabilityRules.{direction_turned, keeps_direction, observation_of, turned_fault}
use Rattle.vme_dtb.specs.declared.holding.Holding.{Holding}
use Rattle.vme_dtb.proofs.AskedLines.{least-WRITE}
use Rattle.vme_dtb.proofs.StabilityMeaning.{Holds, holds_direction, keeps_direction-any}
use Rattle.vme_dtb.proofs.StepFacts.{and-false_test, is_judged-next}

-- S2 on WRITE* by equal tests, if the instant is judged
direction-on_line : (j a b c d : Bool) → j ≡ true → a ≡ d → b ≡ c → (j && true && (true && a && b)) ≡ (c && d)
direction-on_line j a b c d x y z = rw (x, y, z) (and_comm d c)

module _ (t : Trace) (stretch : Stretch) (reads : ReadsStrobes t stretch) (n : ℕ) (from : stretch.start ≤ n)
    (before : suc n < stretch.end) (m : Holding) (holds : Holds t stretch n m) where
  -- the levels before the step
  abbrev old : Levels
  old = levels_at t n

  -- the levels after the step
  abbrev new : Levels
  new = levels_at t (suc n)

  -- S2 is broken on no line but WRITE*
  breaks-S2_elsewhere : (l : ℕ) → (l == WRITE) ≡ false → breaks t stretch S2 (suc n) l ≡ false
  unfolding breaks is_broken
  breaks-S2_elsewhere l h = and-false_test (is_judged stretch (suc n)) (has_line t.opening.slots l) (l == WRITE)
      (has_edge t l (suc n))
      _ h

  -- WRITE* has an edge at n + 1 exactly if it turns between the levels
  has_edge-WRITE : has_edge t WRITE (suc n) ≡ direction_turned old new
  unfolding has_edge
  has_edge-WRITE = rw (suc-sub-one n) refl

  -- S2 is broken on WRITE* exactly if the direction is still held and WRITE* turns
  breaks-S2 : breaks t stretch S2 (suc n) WRITE ≡ (keeps_direction m old new && direction_turned old new)
  unfolding breaks is_broken
  breaks-S2 =
      direction-on_line (is_judged stretch (suc n)) (has_edge t WRITE (suc n))
      (any (holds_direction t stretch (suc n)) (stretch.start + 1)
      (suc n)) (keeps_direction m old new) (direction_turned old new)
      (is_judged-next t n stretch from before) has_edge-WRITE
      (sym (keeps_direction-any t stretch reads n from before m holds))

  -- the least line that breaks S2 is that of the machine's fault
  pub least-S2 : (cs : List Change) → least (breaks t stretch S2 (suc n)) 0 line_count ≡ turned_fault m old new
      (observation_of old new cs)
  least-S2 cs = least-WRITE (breaks t stretch S2 (suc n)) breaks-S2_elsewhere ∙ rw breaks-S2 refl
