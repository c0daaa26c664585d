-- The rules on the nets of grants, G1 to G4: a break is a change of a net, so the least line is the first changed one
-- that breaks it.
use Rattle.std.proofs.Common.{◌≡◌, ℕ, suc, ◌-◌, ◌<◌, ◌≤◌, Bool, true, false, ◌&&◌, not, List, refl, sym, ◌∙◌, ap, arith}
use Rattle.std.specs.Prelude.{◌==◌}
use Rattle.vme_trace.specs.Instants.{any, least}
use Rattle.vme_trace.specs.LineNumbers.{line_count, BBSY, grant, has_line, is_grant, is_slot_grant, is_arbiter_grant}
use Rattle.vme_trace.specs.LineNumbers.{input_of}
use Rattle.vme_trace.specs.Changes.{first_changed, is_changed}
use Rattle.vme_trace.specs.Levels.{Levels, is_low}
use Rattle.vme_trace.specs.Trace.{Trace, levels_at, changed}
use Rattle.vme_trace.specs.WellFormed.{are_changes}
use Rattle.vme_trace.specs.Signals.{near, low, high, falls, rises}
use Rattle.vme_trace.specs.Judged.{Stretch, is_judged}
use Rattle.vme_trace.specs.Rules.{breaks, is_broken}
use Rattle.vme_trace.specs.declared.rule.Rule.TheVariants.{G1, G2, G3, G4}
use Rattle.vme_trace.specs.declared.step.Change.{Change}
use Rattle.vme_trace.proofs.Changing.{first_changed-least}
use Rattle.vme_trace.proofs.Ranges.{least-alike}
use Rattle.vme_trace.proofs.OpenTransfers.{is_judged-holds}
use Rattle.vme_trace.proofs.StretchEnds.{slots_at}
use Rattle.vme_chains.specs.GrantLevels.{is_low_in, falls_between, rises_between, low_near, high_near, is_other_granted}
use Rattle.vme_chains.specs.GrantLevels.{is_net_broken}
use Rattle.vme_chains.proofs.GrantLines.{shown-unchanged, falls_between-changed_elsewhere}
use Rattle.vme_chains.proofs.GrantLines.{rises_between-changed_elsewhere, has_line-input, input_of-slot_grant}
use Rattle.vme_chains.proofs.GrantEdges.{falls_between-falls, rises_between-rises, falls_between-absent}
use Rattle.vme_chains.proofs.GrantEdges.{rises_between-absent, low_near-near, high_near-near}
use Rattle.vme_chains.proofs.GrantEdges.{any-other_granted}

-- two forms of a test of a line: their edges agree if the backplane has the line; else edge' is false
test-of_line : (is_judged-next has kind edge edge' rest rest' : Bool) → is_judged-next ≡ true
    → (has ≡ true → edge' ≡ edge)
    → (has ≡ false → edge' ≡ false) → (has ≡ true → kind ≡ true → rest' ≡ rest)
    → (is_judged-next && has && (kind && edge && rest)) ≡ (kind && edge' && rest')
test-of_line is_judged-next true true edge edge' rest rest' j e a r = rw (j, e refl, r refl refl) refl
test-of_line is_judged-next true false edge edge' rest rest' j e a r = rw j refl
test-of_line is_judged-next false kind edge edge' rest rest' j e a r = rw (j, a refl) (nothing kind)
  where
    nothing : (b : Bool) → false ≡ (b && false && rest')
    nothing true = refl
    nothing false = refl

-- a conjunction of three whose second part fails fails
and-middle_false : (a b c : Bool) → b ≡ false → (a && b && c) ≡ false
and-middle_false true b c h = rw h refl
and-middle_false false b c h = refl

-- the step from instant n to n + 1, both in the stretch
module _ (t : Trace) (stretch : Stretch) (few : t.opening.slots ≤ 21) (n : ℕ) (from : stretch.start ≤ n)
    (before : suc n < stretch.end) where
  -- the levels before the step
  abbrev pub old : Levels
  old = levels_at t n

  -- the levels after the step
  abbrev pub new : Levels
  new = levels_at t (suc n)

  -- n + 1 is judged
  is_judged-next : is_judged stretch (suc n) ≡ true
  is_judged-next = is_judged-holds stretch (suc n) (omega arith) before

  -- what holds near n + 1 of the line before a grant output holds of the slot's input
  near-input : (p : ℕ → ℕ → Bool) (l : ℕ) → is_slot_grant l ≡ true → near (p (l - 1)) (suc n) ≡ near (p (input_of l))
      (suc n)
  near-input p l slot = ap (λ i. near (p i) (suc n)) (sym (input_of-slot_grant l slot))

  -- a line breaks G1 at n + 1 just if the levels on both sides say so
  breaks-G1 : (l : ℕ) → breaks t stretch G1 (suc n) l ≡ is_net_broken G1 old new l
  unfolding breaks is_broken
  breaks-G1 l =
      test-of_line (is_judged stretch (suc n)) (has_line t.opening.slots l) (is_slot_grant l) (falls t l (suc n))
      (falls_between old new l) (not (near (low t (input_of l)) (suc n))) (not (low_near old new (l - 1)))
      is_judged-next
      (falls_between-falls t n l) (falls_between-absent t n l)
      (λ h slot. ap not (low_near-near t n (l - 1) (has_line-input t.opening.slots l slot h)
      ∙ near-input (low t) l slot))

  -- a line breaks G2 at n + 1 just if the levels on both sides say so
  breaks-G2 : (l : ℕ) → breaks t stretch G2 (suc n) l ≡ is_net_broken G2 old new l
  unfolding breaks is_broken
  breaks-G2 l =
      test-of_line (is_judged stretch (suc n)) (has_line t.opening.slots l) (is_slot_grant l) (rises t l (suc n))
      (rises_between old new l) (not (near (high t (input_of l)) (suc n))) (not (high_near old new (l - 1)))
      is_judged-next
      (rises_between-rises t n l) (rises_between-absent t n l)
      (λ h slot. ap not (high_near-near t n (l - 1) (has_line-input t.opening.slots l slot h)
      ∙ near-input (high t) l slot))

  -- a line breaks G3 at n + 1 just if the levels on both sides say so
  breaks-G3 : (l : ℕ) → breaks t stretch G3 (suc n) l ≡ is_net_broken G3 old new l
  unfolding breaks is_broken
  breaks-G3 l =
      test-of_line (is_judged stretch (suc n)) (has_line t.opening.slots l) (is_arbiter_grant l) (falls t l (suc n))
      (falls_between old new l) (any (λ m. not (grant m 0 == l) && low t (grant m 0) (suc n)) 0 4)
      (is_other_granted new l) is_judged-next (falls_between-falls t n l) (falls_between-absent t n l)
      (λ h arbiter. any-other_granted t few (suc n) l)

  -- a line breaks G4 at n + 1 just if the levels on both sides say so
  breaks-G4 : (l : ℕ) → breaks t stretch G4 (suc n) l ≡ is_net_broken G4 old new l
  unfolding breaks is_broken
  breaks-G4 l =
      test-of_line (is_judged stretch (suc n)) (has_line t.opening.slots l) (is_grant l) (falls t l (suc n))
      (falls_between old new l) (not (near (high t BBSY) (suc n))) (not (high_near old new BBSY)) is_judged-next
      (falls_between-falls t n l) (falls_between-absent t n l)
      (λ h net. ap not (high_near-near t n BBSY refl))

  module _ (cs : List Change) (step : new ≡ changed old cs) (fit : are_changes old 0 cs ≡ true) where
    -- a line that the step doesn't change doesn't fall
    pub falls_between-unchanged : (l : ℕ) → is_changed cs l ≡ false → falls_between old new l ≡ false
    falls_between-unchanged l h = ap (λ w. falls_between old w l) step ∙ falls_between-changed_elsewhere old cs l h

    -- a line that the step doesn't change doesn't rise
    pub rises_between-unchanged : (l : ℕ) → is_changed cs l ≡ false → rises_between old new l ≡ false
    rises_between-unchanged l h = ap (λ w. rises_between old w l) step ∙ rises_between-changed_elsewhere old cs l h

    -- a line that the step doesn't change is low after it just if it was before
    pub is_low_in-unchanged : (l : ℕ) → is_changed cs l ≡ false → is_low_in new l ≡ is_low_in old l
    is_low_in-unchanged l h = ap (λ w. is_low_in w l) step ∙ ap is_low (shown-unchanged old cs l h)

    -- the first changed line with p is the least line with p, if p fails on unchanged lines
    first_changed-least_line : (p : ℕ → Bool) → ((l : ℕ) → is_changed cs l ≡ false → p l ≡ false) → first_changed p cs
        ≡ least p 0 line_count
    first_changed-least_line p kept = first_changed-least old p (rw (slots_at t n) few) 0 cs fit kept

    -- the least line that breaks G1 is the first changed one that does
    pub least-G1 : least (breaks t stretch G1 (suc n)) 0 line_count ≡ first_changed (is_net_broken G1 old new) cs
    least-G1 = least-alike _ _ 0 line_count (λ l a b. breaks-G1 l)
        ∙ sym (first_changed-least_line (is_net_broken G1 old new)
        (λ l h. and-middle_false _ _ _ (falls_between-unchanged l h)))

    -- the least line that breaks G2 is the first changed one that does
    pub least-G2 : least (breaks t stretch G2 (suc n)) 0 line_count ≡ first_changed (is_net_broken G2 old new) cs
    least-G2 = least-alike _ _ 0 line_count (λ l a b. breaks-G2 l)
        ∙ sym (first_changed-least_line (is_net_broken G2 old new)
        (λ l h. and-middle_false _ _ _ (rises_between-unchanged l h)))

    -- the least line that breaks G3 is the first changed one that does
    pub least-G3 : least (breaks t stretch G3 (suc n)) 0 line_count ≡ first_changed (is_net_broken G3 old new) cs
    least-G3 = least-alike _ _ 0 line_count (λ l a b. breaks-G3 l)
        ∙ sym (first_changed-least_line (is_net_broken G3 old new)
        (λ l h. and-middle_false _ _ _ (falls_between-unchanged l h)))

    -- the least line that breaks G4 is the first changed one that does
    pub least-G4 : least (breaks t stretch G4 (suc n)) 0 line_count ≡ first_changed (is_net_broken G4 old new) cs
    least-G4 = least-alike _ _ 0 line_count (λ l a b. breaks-G4 l)
        ∙ sym (first_changed-least_line (is_net_broken G4 old new)
        (λ l h. and-middle_false _ _ _ (falls_between-unchanged l h)))
