-- What holds of each element of a list that a function makes.
use Rattle.std.proofs.Common.{◌≡◌, List, [], ◌∷◌, ap, map, refl}
use Rattle.std.specs.Prelude.{All}
use Rattle.std.specs.List.{AllByRecursion}
use Rattle.std.proofs.lemmas.List.Elements.{All-from_recursion, recursion_from_All}

-- if P holds of what `f` makes of each element, it holds of each element of the map, by recursion
AllByRecursion-map : {X Y : Type 0} (f : X → Y) (P : Y → Type 0) (xs : List X) → AllByRecursion (λ x. P (f x)) xs
    → AllByRecursion P (map f xs)
AllByRecursion-map f P [] each = tt
AllByRecursion-map f P (x ∷ xs) each = (each.0, AllByRecursion-map f P xs each.1)

-- if P holds of what `f` makes of each element, it holds of each element of the map
pub All-map : {X Y : Type 0} (f : X → Y) (P : Y → Type 0) (xs : List X) → All (λ x. P (f x)) xs → All P (map f xs)
All-map f P xs all =
    All-from_recursion P (map f xs) (AllByRecursion-map f P xs (recursion_from_All (λ x. P (f x)) xs all))

-- two maps, one after the other, are one
pub map-of_map : {X Y Z : Type 0} (f : X → Y) (h : Y → Z) (xs : List X) → map h (map f xs) ≡ map (λ x. h (f x)) xs
map-of_map f h [] = refl
map-of_map {X} {Y} {Z} f h (x ∷ xs) = ap (λ (rest : List Z). h (f x) ∷ rest) (map-of_map f h xs)
