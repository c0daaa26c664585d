-- The changes of all rows are planned row by row, and then sorted by their instants.
use Rattle.std.proofs.Common.{◌≡◌, ℕ, zero, suc, ◌+◌, ◌<◌, ◌==◌, Bool, true, false, cond, List, [], ◌∷◌, ◌++◌, map}
use Rattle.std.proofs.Common.{take}
use Rattle.std.proofs.Common.{refl, sym, ap, subst, ◌∙◌, arith, append_assoc, get_or, length}
use Rattle.std.specs.Prelude.{filter, flat_map, not, slice_get, unwrap_or, ◌&&◌, Option, Some, None}
use Rattle.std.specs.List.Sorted.{IsNonDecreasingBy, IsPermutation, IsStableByKey}
use Rattle.std.specs.Ordering.{is_lt, nat_cmp}
use Rattle.std.proofs.lemmas.Bool.Decides.{nat_tests}
use Rattle.std.proofs.lemmas.List.{append-nil, map-append}
use Rattle.std.proofs.lemmas.List.Concat.{flat_map-append}
use Rattle.std.proofs.lemmas.List.Elements.{filter_agree}
use Rattle.std.proofs.lemmas.List.Sorted.{IsPermutation-map}
use Rattle.vme_listing.specs.declared.row.Row.{Row}
use Rattle.vme_annotation.specs.Shown.{ShownChange, all_changes, all_idle, change_to, idle_text, opening_changes}
use Rattle.vme_annotation.specs.Shown.{row_changes}
use Rattle.vme_annotation.specs.declared.shown_variable.ShownVariable.TheVariants as shown
use Rattle.vme_annotate.specs.Planned.{ArePlanned, planned}
use Rattle.vme_annotate.specs.declared.changes.PlannedChange.{PlannedChange}

-- ---- the rows, one by one

-- the changes to idle texts at instant 0 are the opening changes
pub planned-opening : (rows : List Row) (ends all : List PlannedChange) (verdict : PlannedChange)
    → map (planned rows) ends ≡ all_idle 0 → planned rows verdict ≡ change_to 0 idle_text shown.Verdict
    → all ≡ ends ++ verdict ∷ []
    → map (planned rows) all ≡ opening_changes
planned-opening rows ends all verdict first last is =
    ap (map (planned rows)) is ∙ map-append (planned rows) ends (verdict ∷ [])
    ∙ ap (λ (changes : List ShownChange). changes ++ planned rows verdict ∷ []) first
    ∙ ap (λ (change : ShownChange). all_idle 0 ++ change ∷ []) last

-- two options that are equal have equal values
some-same : {X : Type 0} (d x y : X) → Some x ≡ Some y → x ≡ y
some-same {X} d x y e = ap (λ (o : Option X). unwrap_or o d) e

-- the first i + 1 elements are the first i, and the one at i
take-next : {X : Type 0} (xs : List X) (i : ℕ) (x : X) → slice_get xs i ≡ Some x → take (i + 1) xs ≡ take i xs ++ x ∷ []
take-next {X} xs i x at =
    let next : suc i ≡ i + 1 = omega arith in
    subst (λ (k : ℕ). take k xs ≡ take i xs ++ x ∷ []) next (by_suc xs i at)
  where
    -- the first `suc i` elements are the first i, and the one at i
    by_suc : (xs : List X) (i : ℕ) → slice_get xs i ≡ Some x → take (suc i) xs ≡ take i xs ++ x ∷ []
    by_suc [] zero e = absurd cc
    by_suc [] (suc i) e = absurd cc
    by_suc (y ∷ ys) zero e = ap (λ (one : X). one ∷ []) (some-same x y x e)
    by_suc (y ∷ ys) (suc i) e = ap (λ (rest : List X). y ∷ rest) (by_suc ys i e)

-- the element at an index within a list is there
pub slice_get-get_or : {X : Type 0} (xs : List X) (i : ℕ) (x : X) → i < length xs → x ≡ get_or xs i x → slice_get xs i
    ≡ Some x
slice_get-get_or [] i x lt e = absurd (omega (arith, lt))
slice_get-get_or {X} (y ∷ ys) zero x lt e = ap (λ (one : X). Some one) (sym e)
slice_get-get_or (y ∷ ys) (suc i) x lt e = slice_get-get_or ys i x (omega (arith, lt)) e

-- what the first i elements make, and then what the one at i makes, is what the first i + 1 make
pub flat_map-next : {X Y : Type 0} (f : X → List Y) (front : List Y) (xs : List X) (i : ℕ) (x : X) → slice_get xs i
    ≡ Some x
    → front ++ flat_map f (take i xs) ++ f x ≡ front ++ flat_map f (take (i + 1) xs)
flat_map-next {X} {Y} f front xs i x at =
    let taken : flat_map f (take (i + 1) xs) ≡ flat_map f (take i xs) ++ f x =
    ap (flat_map f) (take-next xs i x at) ∙ flat_map-append f (take i xs) (x ∷ [])
    ∙ ap (λ (l : List Y). flat_map f (take i xs) ++ l) (append-nil (f x)) in
    append_assoc front (flat_map f (take i xs)) (f x) ∙ ap (λ (l : List Y). front ++ l) (sym taken)

-- after the changes of the first i rows are those of the row at i, which gives those of the first i + 1
pub row_changes-next : (rows : List Row) (i : ℕ) (row : Row) (before after : List ShownChange) → slice_get rows i
    ≡ Some row
    → before ≡ opening_changes ++ flat_map row_changes (take i rows) → after ≡ before ++ row_changes row
    → after ≡ opening_changes ++ flat_map row_changes (take (i + 1) rows)
row_changes-next rows i row before after at so_far is =
    is ∙ ap (λ (changes : List ShownChange). changes ++ row_changes row) so_far
    ∙ flat_map-next row_changes opening_changes rows i row at

-- ---- the instants

-- an element that is there or not, as `b` says, is mapped or not
cond-map : {X Y : Type 0} (f : X → Y) (p : Y → Bool) (b : Bool) (x : X) (xs : List X) (ys : List Y) → ys ≡ map f xs
    → cond b (f x ∷ ys) ys ≡ map f (cond b (x ∷ xs) xs)
cond-map {X} {Y} f p true x xs ys e = ap (λ (l : List Y). f x ∷ l) e
cond-map f p false x xs ys e = e

-- what passes `p` of a map is the map of what passes it after `f`
filter-map : {X Y : Type 0} (f : X → Y) (p : Y → Bool) (xs : List X) → filter p (map f xs)
    ≡ map f (filter (λ x. p (f x)) xs)
filter-map f p [] = refl
filter-map f p (x ∷ xs) =
    cond-map f p (p (f x)) x (filter (λ y. p (f y)) xs) (filter p (map f xs)) (filter-map f p xs)

-- two numbers neither of which is less are equal
eqb-ties : (a b : ℕ) → (not (is_lt (nat_cmp a b)) && not (is_lt (nat_cmp b a))) ≡ (b == a)
eqb-ties a b = grind (arith, nat_tests)

-- the instant of a planned change
abbrev instant_of : PlannedChange → ℕ
instant_of c = c.instant

-- a change at an instant
abbrev at_instant : ℕ → PlannedChange
at_instant n = record { instant = n; variable = shown.Verdict; row = None }

-- all changes of the rows, sorted stably by their instants, are planned
pub ArePlanned-sorted : (rows : List Row) (before after : List PlannedChange) → map (planned rows) before
    ≡ all_changes rows
    → IsPermutation before after → IsNonDecreasingBy instant_of after → IsStableByKey instant_of nat_cmp before after
    → ArePlanned rows after
ArePlanned-sorted rows before after is moved sorted stable = record {
  sorted = sorted;
  moved = subst (λ (changes : List ShownChange). IsPermutation changes (map (planned rows) after)) is
      (IsPermutation-map (planned rows) before after moved);
  are = λ instant.
      let same : filter (λ (c : PlannedChange). c.instant == instant) after
      ≡ filter (λ (c : PlannedChange). c.instant == instant) before =
      sym (filter_agree _ _ (λ (c : PlannedChange). eqb-ties instant c.instant) after) ∙ stable (at_instant instant)
      ∙ filter_agree _ _ (λ (c : PlannedChange). eqb-ties instant c.instant) before in
      filter-map (planned rows) (λ (c : ShownChange). c.instant == instant) after
      ∙ ap (map (planned rows)) same
      ∙ sym (filter-map (planned rows) (λ (c : ShownChange). c.instant == instant) before)
      ∙ ap (filter (λ (c : ShownChange). c.instant == instant)) is;
}
