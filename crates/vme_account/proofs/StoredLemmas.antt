-- The kept steps after one more step, and the levels and times of the whole recording that follow from them.
use Rattle.std.proofs.Common.{◌≡◌, ◌+◌, ◌<◌, ◌≤◌, ◌++◌, ◌∷◌, [], ℕ, suc, zero, List, length, take, refl, sym, ap}
use Rattle.std.proofs.Common.{◌∙◌, arith, length-append, subst}
use Rattle.std.specs.Prelude.{slice_get}
use Rattle.std.proofs.lemmas.List.{take-append-le}
use Rattle.std.proofs.lemmas.List.FromFn.{map-range_with_len_more}
use Rattle.vme_trace.specs.Levels.{Levels}
use Rattle.vme_trace.specs.Trace.{Trace, levels_after, levels_at, recorded, time_at, time_of}
use Rattle.vme_trace.specs.declared.step.Step.{Step}
use Rattle.vme_trace.proofs.CutBlocks.{levels_at-taken}
use Rattle.vme_account.specs.StoredSteps.{AreStored}
use Rattle.vme_account.specs.RecentSteps.{AreRecent, levels_of}
use Rattle.vme_account.specs.declared.stored_steps.StoredSteps.{StoredSteps}
use Rattle.vme_account.specs.declared.recent_steps.RecentSteps.{RecentSteps}

-- the first elements of a list, as many as it has, are the list
take-length : (x : List Step) → take (length x) x ≡ x
take-length [] = refl
take-length (s ∷ x) = ap (λ (l : List Step). s ∷ l) (take-length x)

-- one more step makes the number of steps one greater
length-append_one : (x : List Step) (s : Step) → length (x ++ s ∷ []) ≡ length x + 1
length-append_one x s = length-append x (s ∷ [])

-- ---- one more step

-- if all steps are kept, the recent steps are those of the whole recording
pub AreRecent-all_kept : (o : Levels) (x : List Step) (k : StoredSteps) → AreStored o x k → k.end ≡ k.steps
    → AreRecent k.recent (recorded o x)
AreRecent-all_kept o x k kept all =
    subst (λ (l : List Step). AreRecent k.recent (recorded o l))
    (ap (λ (n : ℕ). take n x) (all ∙ kept.counted) ∙ take-length x) kept.recent

-- `AreStored` holds after one more step that is kept
pub AreStored-kept : (o : Levels) (x : List Step) (s : Step) (k : StoredSteps) (r : RecentSteps) (n : ℕ)
    → AreStored o x k
    → n ≡ k.steps + 1 → AreRecent r (recorded o (x ++ s ∷ []))
    → AreStored o (x ++ s ∷ []) (record { recent = r; end = n; steps = n })
AreStored-kept o x s k r n kept next recent =
    let more : n ≡ length (x ++ s ∷ []) = omega (arith, next, kept.counted, length-append_one x s) in
    record {
      counted = more;
      within = omega (arith, more);
      recent = subst (λ (l : List Step). AreRecent r (recorded o l))
          (sym (ap (λ (n : ℕ). take n (x ++ s ∷ [])) more ∙ take-length (x ++ s ∷ []))) recent;
    }

-- `AreStored` holds after one more step that is only counted
pub AreStored-passed : (o : Levels) (x : List Step) (s : Step) (k : StoredSteps) (n : ℕ) → AreStored o x k → n
    ≡ k.steps + 1
    → AreStored o (x ++ s ∷ []) (record k { steps = n })
AreStored-passed o x s k n kept next =
    record {
      counted = omega (arith, next, kept.counted, length-append_one x s);
      within = omega (arith, kept.within, length-append_one x s);
      recent = subst (λ (l : List Step). AreRecent k.recent (recorded o l))
          (sym (take-append-le k.end x (s ∷ []) kept.within)) kept.recent;
    }

-- ---- of the whole recording

-- the first i of the first n elements are the first i
take-take : (n i : ℕ) (x : List Step) → i ≤ n → take i (take n x) ≡ take i x
take-take n zero x le = refl
take-take zero (suc i) x le = absurd (omega (arith, le))
take-take (suc n) (suc i) [] le = refl
take-take (suc n) (suc i) (s ∷ x) le = ap (λ (l : List Step). s ∷ l) (take-take n i x (omega (arith, le)))

-- an element among the first n is that of the list
slice_get-take : (n i : ℕ) (x : List Step) → i < n → slice_get (take n x) i ≡ slice_get x i
slice_get-take zero i x less = absurd (omega (arith, less))
slice_get-take (suc n) i [] less = refl
slice_get-take (suc n) zero (s ∷ x) less = refl
slice_get-take (suc n) (suc i) (s ∷ x) less = slice_get-take n i x (omega (arith, less))

module _ (t : Trace) (n : ℕ) where
  -- the recording up to instant n
  abbrev cut : Trace
  cut = recorded t.opening (take n t.steps)

  -- the levels up to instant n of the recording that is cut there are those of the recording
  levels_at-cut : (i : ℕ) → i ≤ n → levels_at cut i ≡ levels_at t i
  levels_at-cut i le = levels_at-taken cut i ∙ (ap (levels_after t.opening) (take-take n i t.steps le)
      ∙ sym (levels_at-taken t i))

  -- the times up to instant n of the recording that is cut there are those of the recording
  pub time_at-cut : (i : ℕ) → i ≤ n → time_at cut i ≡ time_at t i
  time_at-cut zero le = refl
  time_at-cut (suc i) le = ap time_of (slice_get-take n i t.steps (omega (arith, le)))

  -- the lists of levels up to instant n of the recording that is cut there are those of the recording
  pub levels_of-cut : (first count : ℕ) → first + count ≤ n + 1 → levels_of cut first count ≡ levels_of t first count
  levels_of-cut first zero le = refl
  levels_of-cut first (suc count) le =
      let more : suc count ≡ count + 1 = omega arith in
      ap (levels_of cut first) more
      ∙ (map-range_with_len_more (levels_at cut) first count (first + count) refl
      ∙ (ap (λ (l : List Levels). l ++ levels_at cut (first + count) ∷ [])
      (levels_of-cut first count (omega (arith, le)))
      ∙ (ap (λ (v : Levels). levels_of t first count ++ v ∷ []) (levels_at-cut (first + count) (omega (arith, le)))
      ∙ (sym (map-range_with_len_more (levels_at t) first count (first + count) refl)
      ∙ ap (levels_of t first) (sym more)))))
