-- A loop that changes a list in place, element by element: what holds after one more element.
use Rattle.std.proofs.Common.{◌≡◌, ℕ, zero, suc, ◌+◌, ◌-◌, ◌<◌, List, [], ◌∷◌, ◌++◌, length, get_or, take, drop}
use Rattle.std.proofs.Common.{map, refl, ap}
use Rattle.std.proofs.Common.{sym, ◌∙◌, add-one, arith, Some}
use Rattle.std.specs.Prelude.{slice_get}
use Rattle.std.proofs.Math.ListN.{get_or-map, set}
use Rattle.std.proofs.lemmas.List.{length-map, map-append, take_more, take_more_set}
use Rattle.std.proofs.lemmas.Option.{slice_get-get_or}
use Rattle.vme_monitor.proofs.Stepped.{get_or-same_rest}
use Rattle.vme_part_tables.specs.Composed.{map_rest}

-- an element within a list doesn't depend on the default
pub get_or-any_default : {A : Type 0} (xs : List A) (i : ℕ) (d e : A) → i < length xs → get_or xs i d ≡ get_or xs i e
get_or-any_default xs i d e h =
    let a : slice_get xs i ≡ Some (get_or xs i d) = slice_get-get_or xs i d h in
    let b : slice_get xs i ≡ Some (get_or xs i e) = slice_get-get_or xs i e h in
    cc

-- if the first i elements are those of ys changed by g, and element i is set to its change too, so are the first i + 1
pub take-map_one_more : {A : Type 0} (g : A → A) (xs ys : List A) (i : ℕ) (x y : A) → i < length xs → length xs
    ≡ length ys
    → x ≡ get_or xs i x → y ≡ g x → take i xs ≡ map g (take i ys) → drop i xs ≡ drop i ys
    → take (i + 1) (set xs i y) ≡ map g (take (i + 1) ys)
take-map_one_more g xs ys i x y h n r e done rest =
    let k : i < length ys = rw (← n) h in
    let s : get_or ys i x ≡ x = get_or-same_rest xs ys i x rest ∙ sym r in
    rw (take_more_set xs i y h, take_more ys i x k, s, map-append g (take i ys) (x ∷ []), done, e) refl

-- the first i + 1 elements of `map_rest g ys` are the first i, and element i changed by g of the number of elements
-- after it
pub take-map_rest_one_more : {A B : Type 0} (g : ℕ → A → B) (ys : List A) (i : ℕ) (d : A) → i < length ys
    → take (suc i) (map_rest g ys) ≡ take i (map_rest g ys) ++ g (length ys - suc i) (get_or ys i d) ∷ []
take-map_rest_one_more g [] i d h = absurd (omega arith)
take-map_rest_one_more g (y ∷ ys) zero d h = let e : suc (length ys) - 1 ≡ length ys = omega arith in rw e refl
take-map_rest_one_more g (y ∷ ys) (suc i) d h =
    let e : suc (length ys) - suc (suc i) ≡ length ys - suc i = omega arith in
    rw e (ap (λ l. g (length ys) y ∷ l) (take-map_rest_one_more g ys i d (omega arith)))

-- if the first i elements are those of `map_rest g` on the values of ys, and element i is set to its change too, so are
-- the first i + 1
pub take-map_rest_set : {A B : Type 0} (f : A → B) (g : ℕ → B → B) (xs ys : List A) (i j : ℕ) (x y : A) → i < length xs
    → length xs ≡ length ys → x ≡ get_or xs i x → j + suc i ≡ length ys → f y ≡ g j (f x)
    → map f (take i xs) ≡ take i (map_rest g (map f ys)) → drop i xs ≡ drop i ys
    → map f (take (i + 1) (set xs i y)) ≡ take (i + 1) (map_rest g (map f ys))
take-map_rest_set f g xs ys i j x y h n r b e done rest =
    let m = map_rest g (map f ys) in
    let k : i < length (map f ys) = rw (length-map ys f, ← n) h in
    let there : get_or (map f ys) i (f x) ≡ f x
    = get_or-map f ys i x ∙ ap f (get_or-same_rest xs ys i x rest ∙ sym r) in
    let count_after : length (map f ys) - suc i ≡ j = omega (arith, length-map ys f) in
    let to : take (i + 1) m ≡ take i m ++ g j (f x) ∷ [] =
    ap (λ n. take n m) (add-one i)
    ∙ (take-map_rest_one_more g (map f ys) i (f x) k
    ∙ (ap (λ n. take i m ++ g n (get_or (map f ys) i (f x)) ∷ []) count_after
    ∙ ap (λ z. take i m ++ g j z ∷ []) there)) in
    rw (take_more_set xs i y h, map-append f (take i xs) (y ∷ []), done, e) (sym to)
