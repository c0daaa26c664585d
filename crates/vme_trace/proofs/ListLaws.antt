-- Laws of options and of lists, for the proofs of this crate and of those above it.
use Rattle.std.proofs.Common.{◌≡◌, ◌≢◌, ◌⊎◌, ℕ, zero, suc, ◌+◌, ◌-◌, ◌<◌, List, [], ◌∷◌, ◌++◌, length, set, take, drop}
use Rattle.std.proofs.Common.{refl, sym, ap, ◌∙◌, arith, inl, inr, ⊎_elim}
use Rattle.std.specs.Prelude.{All, Option, None, Some, slice_get}
use Rattle.std.specs.List.{AllZip, last_or}
use Rattle.std.specs.Option.{option_map, option_or}
use Rattle.std.proofs.Math.Nat.{zero-add}
use Rattle.std.proofs.Math.Seq.{drop-append_seam, take-append_seam}
use Rattle.std.proofs.lemmas.List.Elements.{All-drop, All-same, All-take}
use Rattle.std.proofs.lemmas.Option.{none-some, same_Some}

-- an option or nothing is the option
pub option_or-none : {A : Type 0} (o : Option A) → option_or o None ≡ o
option_or-none None = refl
option_or-none (Some a) = refl

-- the first of three options that has a value, however they are grouped
pub option_or-assoc : {A : Type 0} (a b c : Option A) → option_or (option_or a b) c ≡ option_or a (option_or b c)
option_or-assoc None b c = refl
option_or-assoc (Some x) b c = refl

-- a function may be applied before or after choosing the first option that has a value
pub option_map-option_or : {A B : Type 0} (f : A → B) (a b : Option A)
    → option_map f (option_or a b) ≡ option_or (option_map f a) (option_map f b)
option_map-option_or f None b = refl
option_map-option_or f (Some x) b = refl

-- the last element is the one at the last index
last_or-at : {A : Type 0} (o : Option A) (x : A) (xs : List A) → last_or o (x ∷ xs) ≡ slice_get (x ∷ xs) (length xs)
last_or-at o x [] = refl
last_or-at o x (y ∷ ys) = last_or-at (Some x) y ys

-- the last element of a list, if there is one, is that at its length less 1
pub last_or-slice_get : {A : Type 0} (xs : List A) → last_or None xs ≡ slice_get xs (length xs - 1)
last_or-slice_get [] = refl
last_or-slice_get (x ∷ xs) =
    let before : length xs ≡ length (x ∷ xs) - 1 = omega arith in
    last_or-at None x xs ∙ ap (slice_get (x ∷ xs)) before

-- the element after those of `xs` is `y`
pub slice_get-here : {A : Type 0} (xs : List A) (y : A) (ys : List A) → slice_get (xs ++ y ∷ ys) (length xs) ≡ Some y
slice_get-here [] y ys = refl
slice_get-here (x ∷ xs) y ys = slice_get-here xs y ys

-- an index within the first of two appended lists gives the element of that list
pub slice_get-append : {A : Type 0} (xs ys : List A) (i : ℕ) → i < length xs → slice_get (xs ++ ys) i ≡ slice_get xs i
slice_get-append [] ys i h = absurd (omega arith)
slice_get-append (x ∷ xs) ys zero h = refl
slice_get-append (x ∷ xs) ys (suc i) h = slice_get-append xs ys i (omega arith)

-- an index past the first of two appended lists gives the element of the second list
pub slice_get-append_past : {A : Type 0} (xs ys : List A) (i : ℕ) → slice_get (xs ++ ys) (length xs + i)
    ≡ slice_get ys i
slice_get-append_past [] ys i = ap (slice_get ys) (zero-add i)
slice_get-append_past (x ∷ xs) ys i =
    let onward : suc (length xs) + i ≡ suc (length xs + i) = omega arith in
    ap (slice_get (x ∷ xs ++ ys)) onward ∙ slice_get-append_past xs ys i

module _ {A : Type 0} where
  -- an element of a list with one more is one of the list, or the last
  pub slice_get-append_one : (xs : List A) (x y : A) (k : ℕ) → slice_get (xs ++ x ∷ []) k ≡ Some y
      → (slice_get xs k ≡ Some y) ⊎
      ((k ≡ length xs) × (x ≡ y))
  slice_get-append_one [] x y zero e = inr (refl, same_Some x y e)
  slice_get-append_one [] x y (suc k) e = absurd (none-some y e)
  slice_get-append_one (z ∷ zs) x y zero e = inl e
  slice_get-append_one (z ∷ zs) x y (suc k) e =
      ⊎_elim (λ a. inl a) (λ a. inr (ap suc a.0, a.1)) (slice_get-append_one zs x y k e)

  -- the element at an index that is set is the one that it is set to
  pub slice_get-set_here : (xs : List A) (i : ℕ) (x : A) → i < length xs → slice_get (set xs i x) i ≡ Some x
  slice_get-set_here [] i x h = absurd (omega arith)
  slice_get-set_here (y ∷ ys) zero x h = refl
  slice_get-set_here (y ∷ ys) (suc i) x h = slice_get-set_here ys i x (omega arith)

  -- the element at another index stays
  pub slice_get-set_elsewhere : (xs : List A) (i k : ℕ) (x : A) → k ≢ i → slice_get (set xs i x) k ≡ slice_get xs k
  slice_get-set_elsewhere [] i k x ne = refl
  slice_get-set_elsewhere (y ∷ ys) zero zero x ne = absurd (ne refl)
  slice_get-set_elsewhere (y ∷ ys) zero (suc k) x ne = refl
  slice_get-set_elsewhere (y ∷ ys) (suc i) zero x ne = refl
  slice_get-set_elsewhere (y ∷ ys) (suc i) (suc k) x ne = slice_get-set_elsewhere ys i k x (λ e. ne (ap suc e))

-- two lists of which R holds, and one element more of each, of which it holds
pub AllZip-push : {A B : Type 0} (R : A → B → Type 0) (xs : List A) (ys : List B) (x : A) (y : B) → AllZip R xs ys
    → R x y → AllZip R (xs ++ x ∷ []) (ys ++ y ∷ [])
AllZip-push R [] [] x y none is = (is, tt)
AllZip-push R [] (y ∷ ys) u v none is = absurd none
AllZip-push R (x ∷ xs) [] u v none is = absurd none
AllZip-push R (x ∷ xs) (y ∷ ys) u v each is = (each.0, AllZip-push R xs ys u v each.1 is)

-- what all elements of `xs ++ ys` have, all of `xs` have
pub All-front : {A : Type 0} (P : A → Type 0) (xs ys : List A) → All P (xs ++ ys) → All P xs
All-front P xs ys all = All-same P xs (take (length xs) (xs ++ ys)) (sym (take-append_seam xs ys))
    (All-take P (length xs) (xs ++ ys) all)

-- what all elements of `xs ++ ys` have, all of `ys` have
pub All-back : {A : Type 0} (P : A → Type 0) (xs ys : List A) → All P (xs ++ ys) → All P ys
All-back P xs ys all = All-same P ys (drop (length xs) (xs ++ ys)) (sym (drop-append_seam xs ys))
    (All-drop P (length xs) (xs ++ ys) all)
