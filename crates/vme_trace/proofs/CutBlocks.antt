-- The blocks of a cut, joined, are the steps of the recording, and each block begins with the levels that the steps
-- before it leave.
use Rattle.std.proofs.Common.{◌≡◌, ℕ, zero, suc, ◌+◌, ◌-◌, ◌*◌, ◌/◌, ◌%◌, ◌<◌, ◌≤◌, List, [], ◌∷◌, ◌++◌, refl, sym, ◌∙◌}
use Rattle.std.proofs.Common.{ap, arith, inl, inr, ◌⊎◌, length, take, drop, map, min, max}
use Rattle.std.specs.Prelude.{None, Some, slice_get}
use Rattle.std.specs.Int.{div_ceil}
use Rattle.std.specs.List.{range_with_len}
use Rattle.std.proofs.Math.Nat.{mul-le-mul_right, div-mul-le_self, mod-lt}
use Rattle.std.proofs.Math.Seq.{take-add}
use Rattle.std.proofs.lemmas.Grind.{flat_map-append}
use Rattle.std.proofs.lemmas.List.{take_all, take_more, length-drop, append-nil}
use Rattle.std.proofs.lemmas.List.FromFn.{map-range_with_len_more}
use Rattle.std.proofs.lemmas.Nat.{div-add-mod'}
use Rattle.std.proofs.lemmas.Option.{slice_get_cases, slice_get_within, get_or_from_slice_get}
use Rattle.vme_trace.specs.Blocks.{block_count, block_at, blocks_of, joined_steps}
use Rattle.vme_trace.specs.Levels.{Levels}
use Rattle.vme_trace.specs.Trace.{Trace, levels_at, levels_after, changed}
use Rattle.vme_trace.specs.declared.block.Block.{Block}
use Rattle.vme_trace.specs.declared.step.Step.{Step}

-- the levels after xs and then ys are those after ys, from the levels after xs
pub levels_after-append : (v : Levels) (xs ys : List Step) → levels_after v (xs ++ ys)
    ≡ levels_after (levels_after v xs) ys
levels_after-append v [] ys = refl
levels_after-append v (x ∷ xs) ys = levels_after-append (changed v x.changes) xs ys

-- the first n + 1 steps are the first n and then step n
pub take-next : (xs : List Step) (n : ℕ) (step : Step) → slice_get xs n ≡ Some step → take (n + 1) xs ≡ take n xs
    ++ step ∷ []
take-next xs n step found = take_more xs n step (slice_get_within xs n step found) ∙ ap (λ s. take n xs ++ s ∷ [])
    (get_or_from_slice_get xs n step step found)

-- the levels after the first n + 1 steps are those after the first n, changed by step n
pub levels_after-more : (v : Levels) (xs : List Step) (n : ℕ) (step : Step) → slice_get xs n ≡ Some step
    → levels_after v (take (n + 1) xs) ≡ changed (levels_after v (take n xs)) step.changes
levels_after-more v xs n step found = ap (levels_after v) (take-next xs n step found) ∙ levels_after-append v
    (take n xs) (step ∷ [])

-- a list has an element at n, or n is past its end
within_or_past : (xs : List Step) (n : ℕ)
    → (((x : Step) × (slice_get xs n ≡ Some x)) ⊎ ((length xs ≤ n) × (slice_get xs n ≡ None)))
within_or_past xs n =
    elim (slice_get_cases xs n).1 [
      | inl here ↦ inl (here.0, here.2)
      | inr past ↦ inr past
    ]

-- the levels at an instant are those that the steps up to it leave
pub levels_at-taken : (t : Trace) (n : ℕ) → levels_at t n ≡ levels_after t.opening (take n t.steps)
unfolding levels_at
levels_at-taken t zero = refl
levels_at-taken t (suc n) =
    elim (within_or_past t.steps n) [
      | inl here ↦ rw (here.1, levels_at-taken t n) (sym (levels_after-more t.opening t.steps n here.0 here.1)
          ∙ ap (λ k. levels_after t.opening (take k t.steps)) (one_more n))
      | inr past ↦ rw (past.1, levels_at-taken t n) (ap (levels_after t.opening) (take_all n t.steps past.0
          ∙ sym (take_all (suc n) t.steps (omega (arith, past.0)))))
    ]
  where
    one_more : (n : ℕ) → n + 1 ≡ suc n
    one_more n = omega arith

-- the levels before the first block are the opening's
pub levels_at-first : (t : Trace) (size : ℕ) → levels_at t (0 * size) ≡ t.opening
unfolding levels_at
levels_at-first t size = ap (levels_at t) (zero_times size)
  where
    zero_times : (n : ℕ) → 0 * n ≡ 0
    zero_times n = omega arith

-- the levels at instant k + n are those that the n steps from step k on leave, from the levels at k
pub levels_at-more : (t : Trace) (k n : ℕ) → levels_at t (k + n) ≡ levels_after (levels_at t k)
    (take n (drop k t.steps))
levels_at-more t k n =
    levels_at-taken t (k + n) ∙ ap (levels_after t.opening) (take-add k n t.steps) ∙ levels_after-append t.opening
    (take k t.steps) (take n (drop k t.steps))
    ∙ ap (λ v. levels_after v (take n (drop k t.steps))) (sym (levels_at-taken t k))

-- the steps of the first k blocks are the first steps
joined_steps-first_blocks : (size : ℕ) (t : Trace) (k : ℕ) → joined_steps (map (block_at size t) (range_with_len 0 k))
    ≡ take (k * size) t.steps
joined_steps-first_blocks size t zero = sym (ap (λ n. take n t.steps) (zero_times size))
  where
    zero_times : (n : ℕ) → 0 * n ≡ 0
    zero_times n = omega arith
joined_steps-first_blocks size t (suc k) =
    ap (λ n. joined_steps (map (block_at size t) (range_with_len 0 n))) (one_more k)
    ∙ ap joined_steps (map-range_with_len_more (block_at size t) 0 k k (omega arith))
    ∙ flat_map-append (λ b. b.steps) (map (block_at size t) (range_with_len 0 k)) (block_at size t k ∷ [])
    ∙ ap (λ xs. xs ++ (take size (drop (k * size) t.steps) ++ [])) (joined_steps-first_blocks size t k)
    ∙ ap (λ xs. take (k * size) t.steps ++ xs) (append-nil (take size (drop (k * size) t.steps)))
    ∙ sym (take-add (k * size) size t.steps)
    ∙ ap (λ n. take n t.steps) (times_more k size)
  where
    one_more : (k : ℕ) → suc k ≡ k + 1
    one_more k = omega arith

    times_more : (k n : ℕ) → k * n + n ≡ suc k * n
    times_more k n = omega arith

-- as many blocks of `size` steps as n steps fill have room for n steps
block_count-room : (size n : ℕ) → 0 < size → n ≤ max 1 (div_ceil n size) * size
block_count-room size n positive = by_rest (n % size) refl
  where
    by_rest : (r : ℕ) → n % size ≡ r → n ≤ max 1 (n / size + min 1 (n % size)) * size
    by_rest zero e =
        let whole = div-add-mod' n size in
        let up : n / size * size ≤ max 1 (n / size + min 1 (n % size)) * size = mul-le-mul_right size (omega arith) in
        omega (arith, whole, up, e)
    by_rest (suc r) e =
        let whole = div-add-mod' n size in
        let up : (n / size + 1) * size ≤ max 1 (n / size + min 1 (n % size)) * size = mul-le-mul_right size
        (omega arith) in
        omega (arith, whole, up, mod-lt n positive)

-- the joined steps of all blocks are the steps of the recording
pub joined-blocks : (size : ℕ) (t : Trace) → 0 < size → joined_steps (blocks_of size t) ≡ t.steps
joined-blocks size t positive = joined_steps-first_blocks size t (block_count size t)
    ∙ take_all (block_count size t * size) t.steps
    (block_count-room size (length t.steps) positive)

-- each block starts within the steps
pub block_start-within : (size n k : ℕ) → k < max 1 (div_ceil n size) → k * size ≤ n
block_start-within size n k below =
    let whole = div-mul-le_self n size in
    let fewer : k ≤ n / size = omega arith in
    omega (arith, whole, mul-le-mul_right size fewer)

-- of the steps from k on, the first `size` are those before k + size, or before the end of xs where that is less
pub take-last_part : (size k : ℕ) (xs : List Step) → take (min (length xs) (k + size) - k) (drop k xs)
    ≡ take size (drop k xs)
take-last_part size k xs =
    elim (whole_or_part (length xs) (k + size)) [
      | inl whole ↦ ap (λ n. take n (drop k xs)) (exact (length xs) k size whole)
      | inr part ↦ take_all _ (drop k xs) (omega (arith, length-drop k xs))
          ∙ sym (take_all size (drop k xs) (omega (arith, length-drop k xs)))
    ]
  where
    whole_or_part : (n m : ℕ) → (m ≤ n) ⊎ (n ≤ m)
    whole_or_part n m = grind arith

    exact : (n k size : ℕ) → k + size ≤ n → min n (k + size) - k ≡ size
    exact n k size h = omega arith

-- a block of these parts
abbrev piece : ℕ → Levels → List Step → Block
piece number opening steps = record { number = number; opening = opening; steps = steps }

-- the block of the steps from k * size on, up to size of them, with the levels before them, is block k
pub block_at-is : (size : ℕ) (t : Trace) (k number : ℕ) (opening : Levels) (xs : List Step) (end : ℕ) → number ≡ k
    → opening ≡ levels_at t (k * size) → xs ≡ t.steps → end ≡ min (length xs) (k * size + size)
    → piece number opening (take (end - k * size) (drop (k * size) xs)) ≡ block_at size t k
block_at-is size t k number opening xs end same before all last = rw (
  same,
  before,
  all,
  last
      ∙ ap (λ ys. min (length ys) (k * size + size)) all,
  take-last_part size (k * size) t.steps,
) refl

-- the levels after block k are those before block k + 1
pub levels_at-next : (size : ℕ) (t : Trace) (k : ℕ) (opening : Levels) (xs : List Step) (end : ℕ) → opening
    ≡ levels_at t (k * size) → xs ≡ t.steps → end ≡ min (length xs) (k * size + size) → levels_after opening
    (take (end - k * size) (drop (k * size) xs)) ≡ levels_at t ((k + 1) * size)
levels_at-next size t k opening xs end before all last =
    let here : levels_after opening (take (end - k * size) (drop (k * size) xs)) ≡ levels_at t (k * size + size) = rw
    (before, all, last ∙ ap (λ ys. min (length ys) (k * size + size)) all, take-last_part size (k * size) t.steps)
    (sym (levels_at-more t (k * size) size)) in
    here ∙ ap (levels_at t) (times_more k size)
  where
    times_more : (k n : ℕ) → k * n + n ≡ (k + 1) * n
    times_more k n = omega arith
