-- The least line on which U2 or U3 is broken is the least one that is unknown where it has to be known, by the levels
-- before and after the step.
use Rattle.std.proofs.Common.{◌≡◌, ℕ, suc, ◌<◌, ◌≤◌, Bool, true, false, ◌&&◌, not, refl, ◌∙◌, ap, arith, cond, lit<}
use Rattle.std.proofs.Common.{lit≤}
use Rattle.std.specs.Prelude.{None, Some, ◌==◌}
use Rattle.std.proofs.lemmas.Bool.{eqb-true}
use Rattle.vme_trace.specs.Edges.{falls_between, starts_between}
use Rattle.vme_trace.specs.Instants.{least}
use Rattle.vme_trace.specs.LineNumbers.{line_count, AS, WRITE, has_line}
use Rattle.vme_trace.specs.Cycle.{is_needed, is_within, needs_of}
use Rattle.vme_trace.specs.Levels.{Levels, is_known_on}
use Rattle.vme_trace.specs.Trace.{Trace, levels_at}
use Rattle.vme_trace.specs.Signals.{known}
use Rattle.vme_trace.specs.Judged.{Stretch, is_judged}
use Rattle.vme_trace.specs.Transfers.{transfer_starts}
use Rattle.vme_trace.specs.Cycles.{cycle_starts}
use Rattle.vme_trace.specs.Rules.{breaks, is_broken}
use Rattle.vme_trace.specs.declared.rule.Rule.TheVariants.{U2, U3}
use Rattle.vme_trace.proofs.OpenTransfers.{ReadsStrobes}
use Rattle.vme_trace.proofs.Ranges.{fails-any, least-alike, least-is, least-none, eq-fails_below}
use Rattle.vme_trace.proofs.Changing.{bus_line_exists}
use Rattle.vme_dtb.specs.StabilityRules.{lacks, unknown_address, unknown_direction}
use Rattle.vme_dtb.proofs.StabilityMeaning.{cycle_starts-between}
use Rattle.vme_dtb.proofs.Needed.{needs_of-below}
use Rattle.vme_dtb.proofs.StepFacts.{and-false_test, is_judged-next, transfer_starts-between}

-- the least line with p under a condition b is that with p if b holds, else none
pub least-condition : (b : Bool) (p : ℕ → Bool) → least (λ l. b && p l) 0 line_count
    ≡ cond b (least p 0 line_count) None
least-condition true p = refl
least-condition false p = least-none (λ l. false) 0 line_count (fails-any (λ l. false) 0 line_count (λ l a b. refl))

-- if p fails on all lines but WRITE*, the least line with p is WRITE*, if p holds there, and else there is none
pub least-WRITE : (p : ℕ → Bool) → ((l : ℕ) → (l == WRITE) ≡ false → p l ≡ false) → least p 0 line_count
    ≡ cond (p WRITE) (Some WRITE) None
least-WRITE p elsewhere = by_test (p WRITE) refl
  where
    nowhere : p WRITE ≡ false → (l : ℕ) (b : Bool) → (l == WRITE) ≡ b → p l ≡ false
    nowhere h l true e = ap p (eqb-true l WRITE e) ∙ h
    nowhere h l false e = elsewhere l e

    by_test : (b : Bool) → p WRITE ≡ b → least p 0 line_count ≡ cond b (Some WRITE) None
    by_test true e = least-is p 0 line_count WRITE (lit≤ tt) (lit< tt) e
        (fails-any p 0 WRITE (λ l a b. elsewhere l (eq-fails_below l WRITE b)))
    by_test false e = least-none p 0 line_count (fails-any p 0 line_count (λ l a b. nowhere e l (l == WRITE) refl))

-- U2 on a line by equal tests, if the instant is judged and each needed line exists
unknown-by_tests : (j h c f d k : Bool) → j ≡ true → c ≡ f → (d ≡ true → h ≡ true) → (j && h && (c && d && not k))
    ≡ (f && (d && not k))
unknown-by_tests j h c f d k jt cf hd = rw (jt, cf) (by_need d h f hd)
  where
    by_need : (d h f : Bool) → (d ≡ true → h ≡ true) → (h && (f && d && not k)) ≡ (f && (d && not k))
    by_need true h true hd = rw (hd refl) refl
    by_need true h false hd = rw (hd refl) refl
    by_need false true true hd = refl
    by_need false true false hd = refl
    by_need false false true hd = refl
    by_need false false false hd = refl

-- U3 on WRITE*, if the instant is judged
direction-on_line : (j a b : Bool) → j ≡ true → (j && true && (true && a && b)) ≡ (a && b)
direction-on_line j a b x = rw x refl

module _ (t : Trace) (stretch : Stretch) (reads : ReadsStrobes t stretch) (n : ℕ) (from : stretch.start ≤ n)
    (before : suc n < stretch.end) where
  -- the levels before the step
  abbrev old : Levels
  old = levels_at t n

  -- the levels after the step
  abbrev new : Levels
  new = levels_at t (suc n)

  -- U2 is broken on a line exactly if AS* falls and the line is needed and unknown
  breaks-U2 : (l : ℕ) → breaks t stretch U2 (suc n) l ≡ (falls_between old new AS && lacks new l)
  unfolding breaks is_broken known is_needed
  breaks-U2 l =
      unknown-by_tests (is_judged stretch (suc n)) (has_line t.opening.slots l) (cycle_starts t stretch (suc n))
      (falls_between old new AS) (is_within (needs_of new) l) (is_known_on new l)
      (is_judged-next t n stretch from before) (cycle_starts-between t stretch reads n from before)
      (λ e. bus_line_exists t.opening.slots l (omega (arith, needs_of-below new l e)))

  -- the least line that breaks U2 is the least unknown line that the starting cycle needs
  pub least-U2 : least (breaks t stretch U2 (suc n)) 0 line_count ≡ unknown_address old new
  least-U2 = least-alike (breaks t stretch U2 (suc n)) (λ l. falls_between old new AS && lacks new l) 0 line_count
      (λ l a b. breaks-U2 l) ∙ least-condition (falls_between old new AS) (lacks new)

  -- U3 is broken on no line but WRITE*
  breaks-U3_elsewhere : (l : ℕ) → (l == WRITE) ≡ false → breaks t stretch U3 (suc n) l ≡ false
  unfolding breaks is_broken
  breaks-U3_elsewhere l h = and-false_test (is_judged stretch (suc n)) (has_line t.opening.slots l) (l == WRITE)
      (transfer_starts t stretch (suc n)) (not (known t l (suc n))) h

  -- U3 is broken on WRITE* exactly if a transfer starts and WRITE* is unknown
  breaks-U3 : breaks t stretch U3 (suc n) WRITE ≡ (starts_between old new && not (is_known_on new WRITE))
  unfolding breaks is_broken known
  breaks-U3 = rw (transfer_starts-between t n stretch from before)
      (direction-on_line (is_judged stretch (suc n)) (starts_between old new) (not (is_known_on new WRITE))
      (is_judged-next t n stretch from before))

  -- the least line that breaks U3 is WRITE*, if it is unknown as a transfer starts
  pub least-U3 : least (breaks t stretch U3 (suc n)) 0 line_count ≡ unknown_direction old new
  least-U3 = least-WRITE (breaks t stretch U3 (suc n)) breaks-U3_elsewhere ∙ rw breaks-U3 refl
