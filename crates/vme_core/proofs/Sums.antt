-- Sums over the views after one or two of them changed, and how often a number occurs in a list.
use Rattle.std.proofs.Common.{◌≡◌, ℕ, zero, suc, ◌+◌, ◌<◌, ◌≤◌, ◌≢◌, ◌⊎◌, List, [], ◌∷◌, ◌++◌, cond, set, sym, refl, ap}
use Rattle.std.proofs.Common.{◌∙◌, arith, subst, inl, inr, eq-eqb, ne_eqb, ⊎_elim}
use mathlib.Core.Option.{some, some-injective, some-ne-none}
use mathlib.Core.Logic.{dite}
use native.Mathlib.Decide.{ℕ_discrete}
use lib.ListN.{get_elem?}
use Rattle.vme_trace.specs.declared.block.Block.{Block}
use Rattle.vme_core.specs.Counting.{occurrences, numbers, HasPair, update}
use Rattle.std.specs.Prelude.{sum_by}
use Rattle.std.proofs.lemmas.List.Sums.{sum_by-cons}

module _ {V : Type 0} (g : V → ℕ) where
  -- after v at index i became w, the sum has g w in place of g v
  pub sum_by-set : (vs : List V) (i : ℕ) (v w : V) → get_elem? vs i ≡ some v → sum_by g (set vs i w) + g v
      ≡ sum_by g vs + g w
  sum_by-set [] i v w e = absurd (some-ne-none v (sym e))
  sum_by-set (x ∷ xs) zero v w e = omega (arith, ap g (some-injective x v e), sum_by-cons g x xs, sum_by-cons g w xs)
  sum_by-set (x ∷ xs) (suc i) v w e = omega (
    arith,
    sum_by-set xs i v w e,
    sum_by-cons g x xs,
    sum_by-cons g x
        (set xs i w),
  )

  -- g of an element is at most the sum of g
  pub le-sum_by : (vs : List V) (i : ℕ) (v : V) → get_elem? vs i ≡ some v → g v ≤ sum_by g vs
  le-sum_by [] i v e = absurd (some-ne-none v (sym e))
  le-sum_by (x ∷ xs) zero v e = omega (arith, ap g (some-injective x v e), sum_by-cons g x xs)
  le-sum_by (x ∷ xs) (suc i) v e = omega (arith, le-sum_by xs i v e, sum_by-cons g x xs)

-- the sum of f and g is the sum of f and that of g
pub sum_by-plus : {V : Type 0} (f g : V → ℕ) (vs : List V) → sum_by (λ v. f v + g v) vs ≡ sum_by f vs + sum_by g vs
sum_by-plus f g [] = refl
sum_by-plus f g (x ∷ xs) = omega (
  arith,
  sum_by-plus f g xs,
  sum_by-cons f x xs,
  sum_by-cons g x xs,
  sum_by-cons (λ v. f v + g v) x xs,
)

-- n occurs once more after n is put before a list
pub occurrences-cons_same : (n : ℕ) (xs : List ℕ) → occurrences n (n ∷ xs) ≡ 1 + occurrences n xs
occurrences-cons_same n xs = ap (λ b. cond b 1 0 + occurrences n xs) (eq-eqb n n refl)

-- another number doesn't occur more often after m is put before a list
pub occurrences-cons_other : (n m : ℕ) (xs : List ℕ) → n ≢ m → occurrences n (m ∷ xs) ≡ occurrences n xs
occurrences-cons_other n m xs ne = omega (arith, ap (λ b. cond b 1 0 + occurrences n xs) (ne_eqb n m ne))

-- a number occurs in two lists, appended, as often as in both
pub occurrences-append : (n : ℕ) (xs ys : List ℕ) → occurrences n (xs ++ ys) ≡ occurrences n xs + occurrences n ys
occurrences-append n [] ys = omega arith
occurrences-append n (x ∷ xs) ys = omega (arith, occurrences-append n xs ys)

-- the numbers of two lists, appended, are those of both
pub numbers-append : (xs ys : List (ℕ × Block)) → numbers (xs ++ ys) ≡ numbers xs ++ numbers ys
numbers-append [] ys = refl
numbers-append (x ∷ xs) ys = ap (λ zs. x.0 ∷ zs) (numbers-append xs ys)

-- a pair in two lists, appended, is in one of them
pub HasPair-append : (xs ys : List (ℕ × Block)) (n : ℕ) (b : Block) → HasPair (xs ++ ys) n b → HasPair xs n b ⊎ HasPair
    ys n b
HasPair-append [] ys n b h = inr h
HasPair-append (x ∷ xs) ys n b (inl e) = inl (inl e)
HasPair-append (x ∷ xs) ys n b (inr h) = ⊎_elim (λ a. inl (inr a)) (λ a. inr a) (HasPair-append xs ys n b h)

-- the number of a pair in a list occurs among the list's numbers
pub occurrences-of_pair : (xs : List (ℕ × Block)) (n : ℕ) (b : Block) → HasPair xs n b → 0 < occurrences n (numbers xs)
occurrences-of_pair [] n b h = absurd h
occurrences-of_pair (x ∷ xs) n b (inl e) = let z : occurrences n (x.0 ∷ numbers xs) ≡ 1 + occurrences n (numbers xs) =
    ap
    (λ (y : ℕ). occurrences n (y ∷ numbers xs)) e.0 ∙ occurrences-cons_same n (numbers xs) in omega (arith, z)
occurrences-of_pair (x ∷ xs) n b (inr h) = let r = occurrences-of_pair xs n b h in omega (arith, r)

-- a number that occurs among a list's numbers has a pair in the list
pub HasPair-of_occurrences : (xs : List (ℕ × Block)) (n : ℕ) → 0 < occurrences n (numbers xs)
    → (b : Block) × HasPair xs n b
HasPair-of_occurrences [] n h = absurd (omega arith)
HasPair-of_occurrences (x ∷ xs) n h = dite (ℕ_discrete n x.0) (λ e. (x.1, inl (sym e, refl))) (λ ne. let p =
    HasPair-of_occurrences xs n
    (omega (arith, h, occurrences-cons_other n x.0 (numbers xs) ne)) in (p.0, inr p.1))

module _ {X : Type 0} (f : ℕ → X) (n : ℕ) (x : X) where
  -- f, updated to x at n, is x there
  pub update-same : update f n x n ≡ x
  update-same = ap (λ b. cond b x (f n)) (eq-eqb n n refl)

  -- f, updated at n, is f elsewhere
  pub update-other : (m : ℕ) → m ≢ n → update f n x m ≡ f m
  update-other m ne = ap (λ b. cond b x (f m)) (ne_eqb m n ne)

-- a fact holds of each number if it holds of n and of every other number
pub each-by_cases : (n : ℕ) (F : ℕ → Type 0) → F n → ((m : ℕ) → m ≢ n → F m) → (m : ℕ) → F m
each-by_cases n F here else m = dite (ℕ_discrete m n) (λ e. subst F (sym e) here) (λ ne. else m ne)

-- the items of a list after the one with index i changed, or after one was added
module _ {A : Type 0} where
  -- an element after index i became a is a, or else is at another index as before
  pub get_elem-of_set : (l : List A) (i j : ℕ) (a b : A) → get_elem? (set l i a) j ≡ some b → ((j ≡ i) × (a ≡ b)) ⊎
      ((j ≢ i) × (get_elem? l j ≡ some b))
  get_elem-of_set [] i j a b e = absurd (some-ne-none b (sym e))
  get_elem-of_set (x ∷ xs) zero zero a b e = inl (refl, some-injective a b e)
  get_elem-of_set (x ∷ xs) zero (suc j) a b e = inr ((λ h. omega arith), e)
  get_elem-of_set (x ∷ xs) (suc i) zero a b e = inr ((λ h. omega arith), e)
  get_elem-of_set (x ∷ xs) (suc i) (suc j) a b e = ⊎_elim (λ t. inl (ap suc t.0, t.1)) (λ t. let n = t.0 in
      inr ((λ h. n (omega arith)), t.1)) (get_elem-of_set xs i j a b e)

  -- an element after a was added is one of before, or else a
  pub get_elem-of_push : (l : List A) (a b : A) (j : ℕ) → get_elem? (l ++ a ∷ []) j ≡ some b
      → (get_elem? l j ≡ some b) ⊎ (a ≡ b)
  get_elem-of_push [] a b zero e = inr (some-injective a b e)
  get_elem-of_push [] a b (suc j) e = absurd (some-ne-none b (sym e))
  get_elem-of_push (x ∷ xs) a b zero e = inl e
  get_elem-of_push (x ∷ xs) a b (suc j) e = get_elem-of_push xs a b j e

  -- at index i, after it became a, there is a
  pub get_elem-set_same : (l : List A) (i : ℕ) (a b : A) → get_elem? l i ≡ some b → get_elem? (set l i a) i ≡ some a
  get_elem-set_same [] i a b e = absurd (some-ne-none b (sym e))
  get_elem-set_same (x ∷ xs) zero a b e = refl
  get_elem-set_same (x ∷ xs) (suc i) a b e = get_elem-set_same xs i a b e

  -- at another index there is what was there before
  pub get_elem-set_other : (l : List A) (i j : ℕ) (a : A) → j ≢ i → get_elem? (set l i a) j ≡ get_elem? l j
  get_elem-set_other [] i j a n = refl
  get_elem-set_other (x ∷ xs) zero zero a n = absurd (n refl)
  get_elem-set_other (x ∷ xs) zero (suc j) a n = refl
  get_elem-set_other (x ∷ xs) (suc i) zero a n = refl
  get_elem-set_other (x ∷ xs) (suc i) (suc j) a n = get_elem-set_other xs i j a (λ e. n (ap suc e))
