-- The first items of a list that is mapped, and the item after them.
use Rattle.std.proofs.Common.{◌≡◌, ℕ, ◌+◌, ◌<◌, List, [], ◌∷◌, ◌++◌, All, Contains, length, get_or, take, map}
use Rattle.std.proofs.Common.{sym, ap, subst, ◌∙◌}
use Rattle.std.specs.List.{AllZip}
use Rattle.std.proofs.lemmas.List.{get_or-map, length-map, take_more}
use Rattle.std.proofs.lemmas.List.Elements.{All-more}
use Rattle.vme_trace.proofs.ListLaws.{AllZip-push}

-- x is the item at index i of the list
module _ {X Y : Type 0} (f : X → Y) (xs : List X) (i : ℕ) (x : X) (lt : i < length xs) (is : x ≡ get_or xs i x) where
  -- i is an index of the mapped list
  length-map_index : i < length (map f xs)
  length-map_index = subst (λ n. i < n) (sym (length-map xs f)) lt

  -- the item at index i of the mapped list is that of x
  get_or-map_item : get_or (map f xs) i (f x) ≡ f x
  get_or-map_item = get_or-map f xs i x (f x) lt ∙ ap f (sym is)

  -- the mapped list contains the item of x
  pub Contains-map_item : Contains (map f xs) (f x)
  Contains-map_item = (i, length-map_index, get_or-map_item)

  -- if P holds of the mapped items before index i, and of the one there, it holds of those up to it
  pub All-take_map_next : (P : Y → Type 0) → All P (take i (map f xs)) → P (f x) → All P (take (i + 1) (map f xs))
  All-take_map_next P so_far one =
      All-more P (map f xs) i (f x) length-map_index so_far (subst P (sym get_or-map_item) one)

  -- if R holds of the mapped items before index i and a list, and of the one there and y, it holds of those up to it
  -- and the list with y
  pub AllZip-take_map_next : {B : Type 0} (R : Y → B → Type 0) (ys : List B) (y : B) → AllZip R (take i (map f xs)) ys
      → R (f x) y
      → AllZip R (take (i + 1) (map f xs)) (ys ++ y ∷ [])
  AllZip-take_map_next R ys y so_far one =
      subst (λ l. AllZip R l (ys ++ y ∷ []))
      (ap (λ z. take i (map f xs) ++ z ∷ []) (sym get_or-map_item)
      ∙ sym (take_more (map f xs) i (f x) length-map_index))
      (AllZip-push R (take i (map f xs)) ys (f x) y so_far one)

  -- the mapped items before index i, and the one there, are those up to it
  pub take_map-next : (ys : List Y) → ys ≡ take i (map f xs) → ys ++ f x ∷ [] ≡ take (i + 1) (map f xs)
  take_map-next ys so_far =
      ap (λ l. l ++ f x ∷ []) so_far
      ∙ ap (λ z. take i (map f xs) ++ z ∷ []) (sym get_or-map_item)
      ∙ sym (take_more (map f xs) i (f x) length-map_index)
