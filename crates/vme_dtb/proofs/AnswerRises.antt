-- Whether a strobe has risen since an answer line fell, from one instant to the next.
use Rattle.std.proofs.Common.{◌≡◌, ℕ, suc, ◌+◌, ◌≤◌, Bool, true, false, ◌&&◌, ◌||◌, not, refl, ◌∙◌, ap, arith, add-one}
use Rattle.std.proofs.Common.{Option, Some, None, cond}
use Rattle.std.specs.Prelude.{unwrap_or}
use Rattle.vme_trace.specs.Instants.{any, none, greatest}
use Rattle.vme_trace.specs.Levels.{level_at, is_low, is_high, is_known}
use Rattle.vme_trace.specs.Trace.{Trace, levels_at}
use Rattle.vme_trace.specs.Signals.{level, low, high, known, falls, rises}
use Rattle.vme_trace.specs.Judged.{Stretch}
use Rattle.vme_trace.specs.Transfers.{strobe_rises}
use Rattle.vme_trace.specs.Tenures.{last_before}
use Rattle.vme_trace.specs.declared.level.Level.{Level}
use Rattle.vme_trace.specs.declared.level.Level.TheVariants.{Low, High, Unknown}
use Rattle.vme_trace.proofs.Changing.{high_not_low}
use Rattle.vme_trace.proofs.Ranges.{fails-any, any-next, greatest-below}
use Rattle.vme_trace.proofs.OpenTransfers.{suc-sub-one}
use Rattle.vme_dtb.proofs.Searches.{greatest-next}

module _ (t : Trace) (stretch : Stretch) where
  -- the line l is low at n, and a strobe rose at its last fall or after it
  abbrev pub may_rise_at : ℕ → ℕ → Bool
  may_rise_at l n = low t l n && any (strobe_rises t) (last_before t stretch (falls t l) (suc n)) (suc n)

  -- the last instant with p before n + 2 is n + 1, or else the last one before n + 1
  last_before-next : (p : ℕ → Bool) (n : ℕ) → stretch.start ≤ n → last_before t stretch p (suc (suc n))
      ≡ cond (p (suc n)) (suc n)
      (last_before t stretch p (suc n))
  unfolding last_before
  last_before-next p n from = ap (λ o. unwrap_or o stretch.start)
      (greatest-next p (stretch.start + 1) (suc n) (omega arith))
      ∙ by_test (p (suc n)) (greatest p (stretch.start + 1) (suc n))
    where
      by_test : (b : Bool) (o : Option ℕ) → unwrap_or (cond b (Some (suc n)) o) stretch.start
          ≡ cond b (suc n) (unwrap_or o stretch.start)
      by_test true o = refl
      by_test false o = refl

  -- the last instant with p before n + 1, or else the start, is n or before
  last_before-within : (p : ℕ → Bool) (n : ℕ) → stretch.start ≤ n → last_before t stretch p (suc n) ≤ n
  unfolding last_before
  last_before-within p n from = by_found (greatest p (stretch.start + 1) (suc n)) refl
    where
      by_found : (o : Option ℕ) → greatest p (stretch.start + 1) (suc n) ≡ o → unwrap_or o stretch.start ≤ n
      by_found None e = from
      by_found (Some i) e = omega (arith, greatest-below p (stretch.start + 1) (suc n) i e)

  -- a high line isn't one that may rise
  pub may_rise_at-high : (l n : ℕ) → is_high (level_at (levels_at t n) l) ≡ true → false ≡ may_rise_at l n
  unfolding low
  may_rise_at-high l n h = rw (high_not_low (level_at (levels_at t n) l) h) refl

  -- a known line that is low after a step falls at the step, or was low before it
  low-by_levels : (x y : Level) (a b r : Bool) → is_known x ≡ true → ((is_high x && is_low y) ≡ false → a ≡ (b || r))
      → ((is_high x && is_low y) ≡ true → a ≡ r) → (is_low y && a) ≡ (is_low y && ((is_low x && b) || r))
  low-by_levels x Unknown a b r known h k = refl
  low-by_levels x High a b r known h k = refl
  low-by_levels Low Low a b r known h k = h refl
  low-by_levels High Low a b r known h k = k refl
  low-by_levels Unknown Low a b r known h k = absurd (cc)

  -- if a is false, a or b is b
  or-false_first : (a b : Bool) → a ≡ false → (a || b) ≡ b
  or-false_first a b h = rw h refl

  -- a line falls at n + 1 exactly if it is high at n and low at n + 1
  falls-between : (l n : ℕ) → falls t l (suc n) ≡ (is_high (level t l n) && is_low (level t l (suc n)))
  unfolding falls high low
  falls-between l n = rw (suc-sub-one n) refl

  -- `may_rise_at` one instant later, by what it was
  pub may_rise_at-next_instant : (l n : ℕ) → stretch.start ≤ n → is_known (level_at (levels_at t n) l) ≡ true
      → may_rise_at l (suc n)
      ≡ (low t l (suc n) && (may_rise_at l n || strobe_rises t (suc n)))
  unfolding low
  may_rise_at-next_instant l n from readable =
      low-by_levels (level t l n) (level t l (suc n)) _ _ (strobe_rises t (suc n)) readable
      (λ e. ap (λ k. any (strobe_rises t) k (suc (suc n))) (last_before-next (falls t l) n from ∙ kept e)
      ∙ any-next (strobe_rises t) (last_before t stretch (falls t l) (suc n)) (suc n)
      (later n (last_before t stretch (falls t l) (suc n)) (last_before-within (falls t l) n from)))
      (λ e. ap (λ k. any (strobe_rises t) k (suc (suc n))) (last_before-next (falls t l) n from ∙ anew e)
      ∙ any-next (strobe_rises t) (suc n) (suc n) (omega arith) ∙ or-false_first (any (strobe_rises t) (suc n) (suc n))
      (strobe_rises t (suc n)) (fails-any (strobe_rises t) (suc n) (suc n) (λ i a b. absurd (omega arith))))
    where
      later : (n k : ℕ) → k ≤ n → k ≤ suc n
      later n k h = omega arith

      kept : (is_high (level t l n) && is_low (level t l (suc n))) ≡ false → cond (falls t l (suc n)) (suc n)
          (last_before t stretch (falls t l) (suc n)) ≡ last_before t stretch (falls t l) (suc n)
      kept e = rw (falls-between l n, e) refl

      anew : (is_high (level t l n) && is_low (level t l (suc n))) ≡ true → cond (falls t l (suc n)) (suc n)
          (last_before t stretch (falls t l) (suc n)) ≡ suc n
      anew e = rw (falls-between l n, e) refl

  -- a line rises at n + 1 exactly if it is low at n and high at n + 1
  rises-between : (l n : ℕ) → rises t l (suc n) ≡ (is_low (level t l n) && is_high (level t l (suc n)))
  unfolding rises high low
  rises-between l n = rw (suc-sub-one n) refl

  -- a line that rises was low before, so no strobe has risen since its last fall exactly if `may_rise_at` was false and
  -- no strobe rises now
  pub rises-held : (l n : ℕ) → stretch.start ≤ n
      → (rises t l (suc n) && none (strobe_rises t) (last_before t stretch (falls t l) (suc n)) (suc n + 1))
      ≡ (rises t l (suc n) && not (may_rise_at l n || strobe_rises t (suc n)))
  unfolding low
  rises-held l n from =
      let more = any-next (strobe_rises t) (last_before t stretch (falls t l) (suc n)) (suc n)
      (later n (last_before t stretch (falls t l) (suc n)) (last_before-within (falls t l) n from)) in
      rw (rises-between l n, add-one (suc n), more) (by_level (level t l n) (is_high (level t l (suc n)))
      (any (strobe_rises t) (last_before t stretch (falls t l) (suc n)) (suc n)) (strobe_rises t (suc n)))
    where
      later : (n k : ℕ) → k ≤ n → k ≤ suc n
      later n k h = omega arith

      by_level : (x : Level) (h a r : Bool) → ((is_low x && h) && not (a || r))
          ≡ ((is_low x && h) && not ((is_low x && a) || r))
      by_level Low h a r = refl
      by_level High h a r = refl
      by_level Unknown h a r = refl
