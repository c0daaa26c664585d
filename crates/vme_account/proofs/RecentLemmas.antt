-- The last steps of a recording after one more step, and what follows from them of its levels and times.
use Rattle.std.proofs.Common.{◌≡◌, ◌+◌, ◌-◌, ◌≤◌, ◌++◌, ◌∷◌, [], ℕ, suc, zero, List, drop, length, refl, sym, ap}
use Rattle.std.proofs.Common.{◌∙◌, append_assoc, arith, length-append, length-drop}
use Rattle.std.specs.Prelude.{None, Some, slice_get}
use Rattle.std.proofs.lemmas.List.{drop_at, take-append-le}
use Rattle.std.proofs.lemmas.List.FromFn.{map-range_with_len_more}
use Rattle.vme_trace.specs.Levels.{Levels}
use Rattle.vme_trace.specs.Trace.{Trace, after, changed, levels_after, levels_at, time_at, time_of}
use Rattle.vme_trace.specs.declared.step.Step.{Step}
use Rattle.vme_trace.proofs.CutBlocks.{levels_at-taken}
use Rattle.vme_trace.proofs.ListLaws.{slice_get-append}
use Rattle.vme_trace.proofs.WellFormedSteps.{levels_at-step}
use Rattle.vme_account.specs.RecentSteps.{levels_of, with_step}

-- ---- the earlier instants stay

-- one more step doesn't change the levels of the instants before it
pub levels_at-with_step : (t : Trace) (s : Step) (n : ℕ) → n ≤ length t.steps → levels_at (with_step t s) n
    ≡ levels_at t n
levels_at-with_step t s n le =
    levels_at-taken (with_step t s) n
    ∙ ap (levels_after t.opening) (take-append-le n t.steps (s ∷ []) le) ∙ sym (levels_at-taken t n)

-- one more step doesn't change the times of the instants before it
pub time_at-with_step : (t : Trace) (s : Step) (n : ℕ) → n ≤ length t.steps → time_at (with_step t s) n ≡ time_at t n
time_at-with_step t s zero le = refl
time_at-with_step t s (suc n) le = ap time_of (slice_get-append t.steps (s ∷ []) n (omega (arith, le)))

-- what is left of appended lists, if only elements of the first are dropped
drop-append : (xs ys : List Step) (n : ℕ) → n ≤ length xs → drop n (xs ++ ys) ≡ drop n xs ++ ys
drop-append xs ys zero le = refl
drop-append [] ys (suc n) le = absurd (omega (arith, le))
drop-append (x ∷ xs) ys (suc n) le = drop-append xs ys n (omega (arith, le))

-- if the older and newer steps are those from `first` on, they are so with one more step at their end
pub drop-with_step : (t : Trace) (s : Step) (first : ℕ) (older newer : List Step) → older ++ newer ≡ drop first t.steps
    → first ≤ length t.steps → older ++ (newer ++ s ∷ []) ≡ drop first (t.steps ++ s ∷ [])
drop-with_step t s first older newer is le =
    sym (append_assoc older newer (s ∷ [])) ∙ ap (λ (xs : List Step). xs ++ s ∷ []) is
    ∙ sym (drop-append t.steps (s ∷ []) first le)

-- ---- what is forgotten

-- no steps
abbrev no_steps : List Step
no_steps = []

-- dropping from no steps leaves none
drop-no_steps : (k : ℕ) → drop k no_steps ≡ no_steps
drop-no_steps zero = refl
drop-no_steps (suc k) = refl

-- no steps have no element
slice_get-no_steps : (k : ℕ) → slice_get no_steps k ≡ None
slice_get-no_steps zero = refl
slice_get-no_steps (suc k) = refl

-- dropping n and then m elements is dropping n + m
drop-add : (xs : List Step) (n m : ℕ) → drop (n + m) xs ≡ drop m (drop n xs)
drop-add xs zero m = ap (λ (k : ℕ). drop k xs) (omega arith)
drop-add [] (suc n) m = drop-no_steps (suc n + m) ∙ sym (drop-no_steps m)
drop-add (x ∷ xs) (suc n) m =
    let e : suc n + m ≡ suc (n + m) = omega arith in
    ap (λ (k : ℕ). drop k (x ∷ xs)) e ∙ drop-add xs n m

-- the steps from `first` on are `older` and then `newer`
module _ (t : Trace) (first : ℕ) (older newer : List Step) (kept : older ++ newer ≡ drop first t.steps) where
  -- `newer` are the steps after `older`
  pub drop-newer : newer ≡ drop (first + length older) t.steps
  drop-newer = sym (drop-add t.steps first (length older) ∙ ap (drop (length older)) (sym kept)
      ∙ drop_at older newer (length older) refl)

  -- `older` ends within the recording
  pub length-older_within : first ≤ length t.steps → first + length older ≤ length t.steps
  length-older_within le =
      let long : length (older ++ newer) ≡ length t.steps - first = ap length kept ∙ length-drop first t.steps in
      omega (arith, long, length-append older newer, le)

-- ---- the step at a place

-- the step at a place of the kept ones is the step at its instant
pub slice_get-kept : (t : Trace) (first n : ℕ) (kept : List Step) → kept ≡ drop first t.steps → first ≤ n
    → slice_get kept (n - first) ≡ slice_get t.steps n
slice_get-kept t first n kept is le =
    ap (λ (xs : List Step). slice_get xs (n - first)) is ∙ get_dropped t.steps first (n - first)
    ∙ ap (slice_get t.steps) (omega (arith, le))
  where
    get_dropped : (xs : List Step) (m k : ℕ) → slice_get (drop m xs) k ≡ slice_get xs (m + k)
    get_dropped xs zero k = ap (slice_get xs) (omega arith)
    get_dropped [] (suc m) k = slice_get-no_steps k ∙ sym (slice_get-no_steps (suc m + k))
    get_dropped (x ∷ xs) (suc m) k =
        let e : suc m + k ≡ suc (m + k) = omega arith in
        get_dropped xs m k ∙ sym (ap (slice_get (x ∷ xs)) e)

-- the levels after a step are those that its changes make
pub levels_at-next_step : (t : Trace) (n : ℕ) (v w : Levels) (step : Step) → slice_get t.steps n ≡ Some step → v
    ≡ levels_at t n
    → w ≡ changed v step.changes → w ≡ levels_at t (n + 1)
levels_at-next_step t n v w step there is made = made ∙ ap (λ (u : Levels). changed u step.changes) is
    ∙ sym (levels_at-step t n ∙ ap (after (levels_at t n)) there)

-- without a step the levels stay
pub levels_at-no_step : (t : Trace) (n : ℕ) (v : Levels) → slice_get t.steps n ≡ None → v ≡ levels_at t n
    → v ≡ levels_at t (n + 1)
levels_at-no_step t n v none is = is ∙ sym (levels_at-step t n ∙ ap (after (levels_at t n)) none)

-- the levels from `first` to `place`, and then those of the next instant, are the levels from `first` to that
pub levels_of-next : (t : Trace) (first place : ℕ) (items : List Levels) (v : Levels) → first ≤ place → items
    ≡ levels_of t first (place - first + 1) → v ≡ levels_at t (place + 1)
    → items ++ v ∷ [] ≡ levels_of t first (place + 1 - first + 1)
levels_of-next t first place items v le is now =
    let count : place + 1 - first + 1 ≡ (place - first + 1) + 1 = omega arith in
    let at : first + (place - first + 1) ≡ place + 1 = omega arith in
    ap (λ (l : List Levels). l ++ v ∷ []) is
    ∙ ap (λ (u : Levels). levels_of t first (place - first + 1) ++ u ∷ []) (now ∙ ap (levels_at t) (sym at))
    ∙ sym (ap (levels_of t first) count ∙ map-range_with_len_more (levels_at t) first (place - first + 1)
    (first + (place - first + 1)) refl)
