-- The rules of tenures, B1 to B4: each is on a single line.
use Rattle.std.proofs.Common.{◌≡◌, ℕ, suc, ◌+◌, ◌<◌, ◌≤◌, Bool, true, false, ◌&&◌, ◌||◌, not, refl, sym, ◌∙◌, ap, arith}
use Rattle.std.proofs.Common.{Option, Some, None, cond, lit<}
use Rattle.std.specs.Prelude.{◌==◌, option_map, option_and_then}
use Rattle.std.proofs.lemmas.Bool.{eqb-true}
use Rattle.vme_trace.specs.Instants.{any, none, least, greatest}
use Rattle.vme_trace.specs.LineNumbers.{line_count, AS, BBSY, has_line}
use Rattle.vme_trace.specs.Trace.{Trace, levels_at}
use Rattle.vme_trace.specs.Signals.{near, low, falls}
use Rattle.vme_trace.specs.Judged.{Stretch, is_judged}
use Rattle.vme_trace.specs.Rules.{breaks, is_broken, is_option_equal}
use Rattle.vme_trace.specs.Tenures.{is_granting, grant_falls, tenure_level, tenure_slot, has_reached, taken_grant}
use Rattle.vme_trace.specs.Tenures.{last_before}
use Rattle.vme_trace.specs.declared.rule.Rule.TheVariants.{B1, B2, B3, B4}
use Rattle.vme_trace.proofs.Ranges.{fails-any, least-is, least-none, eq-fails_below}
use Rattle.vme_trace.proofs.OpenTransfers.{is_judged-holds}
use Rattle.vme_trace.proofs.StretchEnds.{slots_at}
use Rattle.vme_monitor.specs.declared.mark.BusGrant.{BusGrant}
use Rattle.vme_chains.specs.GrantLevels.{falls_between, low_near, grant_begins, taken_at, taken_between, is_ungranted}
use Rattle.vme_chains.specs.GrantLevels.{is_cycle_unowned}
use Rattle.vme_chains.specs.GrantRules.{line_if, slot_of}
use Rattle.vme_chains.specs.declared.grant_memory.Arbitration.{Arbitration}
use Rattle.vme_chains.proofs.GrantEdges.{falls_between-falls, low_near-near, grant_begins-grant_falls}
use Rattle.vme_chains.proofs.GrantEdges.{is_ungranted-is_granting, taken_between-tenure}
use Rattle.vme_chains.proofs.GrantMeaning.{Holds, any-granted_up_to_next}
use Rattle.vme_chains.proofs.GrantTests.{rule-other_kind, rule-same_kind, add-one_suc}

-- if p fails on all lines but a, the least line with p is a, if p holds there, and else there is none
least-one_line : (p : ℕ → Bool) (n a : ℕ) → a < n → ((l : ℕ) → (l == a) ≡ false → p l ≡ false) → least p 0 n
    ≡ line_if (p a) a
least-one_line p n a below elsewhere = by_test (p a) refl
  where
    fails_on : p a ≡ false → (l : ℕ) (b : Bool) → (l == a) ≡ b → p l ≡ false
    fails_on h l true e = ap p (eqb-true l a e) ∙ h
    fails_on h l false e = elsewhere l e

    by_test : (b : Bool) → p a ≡ b → least p 0 n ≡ line_if b a
    by_test true e = least-is p 0 n a (omega arith) below e
        (fails-any p 0 a (λ l from to. elsewhere l (eq-fails_below l a to)))
    by_test false e = least-none p 0 n (fails-any p 0 n (λ l from to. fails_on e l (l == a) refl))

-- the slot of a taken grant is the given slot, which is there only if the level is
slot_of-taken : (o : Option ℕ) (f : ℕ → Option ℕ) → slot_of (taken_at o (option_map (λ k. 1 + k) (option_and_then f o)))
    ≡ option_map (λ k. 1 + k) (option_and_then f o)
slot_of-taken None f = refl
slot_of-taken (Some n) f = by_slot (f n)
  where
    by_slot : (o : Option ℕ) → slot_of (taken_at (Some n) (option_map (λ k. 1 + k) o)) ≡ option_map (λ k. 1 + k) o
    by_slot None = refl
    by_slot (Some k) = refl

-- if BBSY falls, the slot of the grant that is taken then is the slot of the grant; else there is none
slot_of-when_falls : (falls : Bool) (o : Option BusGrant) (n : ℕ) → (falls && is_option_equal (slot_of o) n)
    ≡ is_option_equal
    (slot_of (cond falls o None)) n
slot_of-when_falls true o n = refl
slot_of-when_falls false o n = refl

-- the step from instant n to n + 1, both in the stretch
module _ (t : Trace) (stretch : Stretch) (few : t.opening.slots ≤ 21) (n : ℕ) (from : stretch.start ≤ n)
    (before : suc n < stretch.end) where
  -- n + 1 is judged
  is_judged-next : is_judged stretch (suc n) ≡ true
  is_judged-next = is_judged-holds stretch (suc n) (omega arith) before

  -- BBSY falls between the levels just if it falls at n + 1
  pub falls_between-busy : falls_between (levels_at t n) (levels_at t (suc n)) BBSY ≡ falls t BBSY (suc n)
  falls_between-busy = falls_between-falls t n BBSY refl

  -- B1 is broken on no line but BBSY
  breaks-B1_elsewhere : (l : ℕ) → (l == BBSY) ≡ false → breaks t stretch B1 (suc n) l ≡ false
  unfolding breaks is_broken
  breaks-B1_elsewhere l h = rule-other_kind _ (has_line t.opening.slots l) (l == BBSY) (falls t l (suc n)) _ h

  -- B1 is broken on BBSY just if it falls and no level is granted on either side of the step
  breaks-B1 : breaks t stretch B1 (suc n) BBSY ≡ (falls_between (levels_at t n) (levels_at t (suc n)) BBSY
      && is_ungranted (levels_at t n) (levels_at t (suc n)))
  unfolding breaks is_broken
  breaks-B1 = rule-same_kind (is_judged stretch (suc n)) true true (falls t BBSY (suc n))
      (falls_between (levels_at t n) (levels_at t (suc n)) BBSY) (not (near (is_granting t) (suc n)))
      (is_ungranted (levels_at t n) (levels_at t (suc n))) is_judged-next refl refl falls_between-busy
      (is_ungranted-is_granting t few n)

  -- the line that breaks B1 is BBSY, if that breaks it
  pub least-B1 : least (breaks t stretch B1 (suc n)) 0 line_count
      ≡ line_if (falls_between (levels_at t n) (levels_at t (suc n)) BBSY && is_ungranted (levels_at t n)
      (levels_at t (suc n))) BBSY
  least-B1 =
      least-one_line (breaks t stretch B1 (suc n)) line_count BBSY (lit< tt) breaks-B1_elsewhere
      ∙ ap (λ b. line_if b BBSY) breaks-B1

  -- B3 is broken on no line but AS
  breaks-B3_elsewhere : (l : ℕ) → (l == AS) ≡ false → breaks t stretch B3 (suc n) l ≡ false
  unfolding breaks is_broken
  breaks-B3_elsewhere l h = rule-other_kind _ (has_line t.opening.slots l) (l == AS) (falls t l (suc n)) _ h

  -- B3 is broken on AS just if a cycle starts while the bus isn't busy
  breaks-B3 : breaks t stretch B3 (suc n) AS ≡ is_cycle_unowned (levels_at t n) (levels_at t (suc n))
  unfolding breaks is_broken
  breaks-B3 = rule-same_kind (is_judged stretch (suc n)) true true (falls t AS (suc n))
      (falls_between (levels_at t n) (levels_at t (suc n)) AS) (not (near (low t BBSY) (suc n)))
      (not (low_near (levels_at t n) (levels_at t (suc n)) BBSY)) is_judged-next refl refl
      (falls_between-falls t n AS refl)
      (ap not (low_near-near t n BBSY refl))

  -- the line that breaks B3 is AS, if that breaks it
  pub least-B3 : least (breaks t stretch B3 (suc n)) 0 line_count
      ≡ line_if (is_cycle_unowned (levels_at t n) (levels_at t (suc n))) AS
  least-B3 =
      least-one_line (breaks t stretch B3 (suc n)) line_count AS (lit< tt) breaks-B3_elsewhere
      ∙ ap (λ b. line_if b AS) breaks-B3

  -- the slot of the grant that is taken is that of the tenure
  slot_of-tenure_slot : slot_of (taken_between (levels_at t n) (levels_at t (suc n))) ≡ tenure_slot t (suc n)
  unfolding tenure_slot tenure_level
  slot_of-tenure_slot =
      ap slot_of (taken_between-tenure t few n)
      ∙ slot_of-taken (tenure_level t (suc n)) (λ l. greatest (has_reached t (taken_grant t (suc n)) l) 0
      (t.opening.slots + 1))

  -- B4 is broken on no line but BBSY
  breaks-B4_elsewhere : (l : ℕ) → (l == BBSY) ≡ false → breaks t stretch B4 (suc n) l ≡ false
  unfolding breaks is_broken
  breaks-B4_elsewhere l h = rule-other_kind _ (has_line t.opening.slots l) (l == BBSY) (falls t l (suc n)) _ h

  -- B4 is broken on BBSY just if it falls and the grant has passed the last slot
  breaks-B4 : breaks t stretch B4 (suc n) BBSY ≡ (falls_between (levels_at t n) (levels_at t (suc n)) BBSY
      && is_option_equal
      (slot_of (taken_between (levels_at t n) (levels_at t (suc n)))) ((levels_at t (suc n)).slots + 1))
  unfolding breaks is_broken
  breaks-B4 =
      rule-same_kind (is_judged stretch (suc n)) true true (falls t BBSY (suc n))
      (falls_between (levels_at t n) (levels_at t (suc n)) BBSY) (is_option_equal (tenure_slot t (suc n))
      (t.opening.slots + 1))
      (is_option_equal (slot_of (taken_between (levels_at t n) (levels_at t (suc n))))
      ((levels_at t (suc n)).slots + 1)) is_judged-next refl refl falls_between-busy
      (ap (λ s. is_option_equal s ((levels_at t (suc n)).slots + 1)) slot_of-tenure_slot
      ∙ ap (λ k. is_option_equal (tenure_slot t (suc n)) (k + 1)) (slots_at t (suc n)))

  -- the line that breaks B4 is BBSY, if that breaks it
  pub least-B4 : least (breaks t stretch B4 (suc n)) 0 line_count
      ≡ line_if (is_option_equal (slot_of (cond (falls_between (levels_at t n) (levels_at t (suc n)) BBSY)
      (taken_between (levels_at t n) (levels_at t (suc n))) None)) ((levels_at t (suc n)).slots + 1)) BBSY
  least-B4 =
      least-one_line (breaks t stretch B4 (suc n)) line_count BBSY (lit< tt) breaks-B4_elsewhere
      ∙ ap (λ b. line_if b BBSY)
      (breaks-B4 ∙ slot_of-when_falls (falls_between (levels_at t n) (levels_at t (suc n)) BBSY)
      (taken_between (levels_at t n) (levels_at t (suc n))) ((levels_at t (suc n)).slots + 1))

  -- B2 is broken on no line but BBSY
  breaks-B2_elsewhere : (l : ℕ) → (l == BBSY) ≡ false → breaks t stretch B2 (suc n) l ≡ false
  unfolding breaks is_broken
  breaks-B2_elsewhere l h = rule-other_kind _ (has_line t.opening.slots l) (l == BBSY) (falls t l (suc n)) _ h

  -- the memory `m` is right of n
  module _ (m : Arbitration) (held : Holds t stretch n m) where
    -- there was a grant by the memory, or begins one at the step, just if one fell after the last fall of BBSY, up to n
    -- + 1
    granted-since_busy : (m.granted || grant_begins (levels_at t n) (levels_at t (suc n))) ≡ any (grant_falls t)
        (last_before t stretch (falls t BBSY) (suc n) + 1) (suc n + 1)
    granted-since_busy =
        rw (held.granted, grant_begins-grant_falls t few n) (sym (any-granted_up_to_next t stretch n from))
        ∙ ap (any (grant_falls t) (last_before t stretch (falls t BBSY) (suc n) + 1)) (sym (add-one_suc n))

    -- B2 is broken on BBSY just if it falls and there was no grant by the memory, nor begins one
    breaks-B2 : breaks t stretch B2 (suc n) BBSY ≡ (falls_between (levels_at t n) (levels_at t (suc n)) BBSY
        && not (m.granted || grant_begins (levels_at t n) (levels_at t (suc n))))
    unfolding breaks is_broken
    breaks-B2 =
        rule-same_kind (is_judged stretch (suc n)) true true (falls t BBSY (suc n))
        (falls_between (levels_at t n) (levels_at t (suc n)) BBSY)
        (none (grant_falls t) (last_before t stretch (falls t BBSY) (suc n) + 1) (suc n + 1))
        (not (m.granted || grant_begins (levels_at t n) (levels_at t (suc n)))) is_judged-next refl refl
        falls_between-busy
        (ap not granted-since_busy)

    -- the line that breaks B2 is BBSY, if that breaks it
    pub least-B2 : least (breaks t stretch B2 (suc n)) 0 line_count
        ≡ line_if (falls_between (levels_at t n) (levels_at t (suc n)) BBSY
        && not (m.granted || grant_begins (levels_at t n) (levels_at t (suc n)))) BBSY
    least-B2 =
        least-one_line (breaks t stretch B2 (suc n)) line_count BBSY (lit< tt) breaks-B2_elsewhere
        ∙ ap (λ b. line_if b BBSY) breaks-B2
