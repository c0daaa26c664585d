-- The path of a scope is made of the names of the scopes around it, from the outermost inward; these are found outward,
-- one by one.
use Rattle.std.proofs.Common.{◌≡◌, ℕ, zero, suc, ◌+◌, ◌-◌, ◌<◌, Bool, true, false, List, [], ◌∷◌, ◌++◌}
use Rattle.std.proofs.Common.{refl, sym, ap, ◌∙◌, arith, append_assoc}
use Rattle.std.specs.Prelude.{◌==◌, fold, reverse, if◌then◌else◌}
use Rattle.std.proofs.lemmas.Bool.{eq-eqb, ne_eqb}
use Rattle.std.proofs.lemmas.List.{append-nil, reverse-append}
use Rattle.std.proofs.lemmas.List.Sums.{fold-append}
use Rattle.vcd_read.specs.Scopes.{with_dot}
use Rattle.vme_declarations.specs.Names.{name_at, nowhere, parent_of, path_within, places_around}
use Rattle.vme_declarations.specs.declared.declared.DeclaredNames.{DeclaredNames}

-- `path`, a dot, and the name of the scope at `place`
abbrev pub with_name_at : DeclaredNames → List ℕ → ℕ → List ℕ
with_name_at d path place = with_dot path ++ name_at d place

-- if the names of the scopes around the parent of `place` make the parent's path, the names of those around `place`
-- make the path of `place`
path_within-next : (d : DeclaredNames) (n place : ℕ) (b : Bool)
    → fold (with_name_at d) [] (reverse (places_around d n (parent_of d place))) ≡ path_within d n (parent_of d place)
    → fold (with_name_at d) [] (reverse (if b then [] else place ∷ places_around d n (parent_of d place)))
    ≡ (if b then [] else with_dot (path_within d n (parent_of d place)) ++ name_at d place)
path_within-next d n place true is = refl
path_within-next d n place false is =
    let rest = places_around d n (parent_of d place) in
    ap (λ (places : List ℕ). fold (with_name_at d) [] places) (reverse-append (place ∷ []) rest)
    ∙ fold-append (with_name_at d) [] (reverse rest) (place ∷ [])
    ∙ ap (λ (path : List ℕ). with_name_at d path place) is

-- the names at the places around a scope, from the outermost inward, make its path
pub path_within-places : (d : DeclaredNames) (n place : ℕ)
    → fold (with_name_at d) [] (reverse (places_around d n place))
    ≡ path_within d n place
unfolding places_around path_within
path_within-places d zero place = refl
path_within-places d (suc n) place =
    path_within-next d n place (parent_of d place == nowhere) (path_within-places d n (parent_of d place))

-- ---- the places, one by one

-- the places from a scope outward are none for the outermost, and else its own and those of the scope around it
places_around-next : (d : DeclaredNames) (n place : ℕ) (b : Bool) → (parent_of d place == nowhere) ≡ b
    → places_around d (suc n) place ≡ (if b then [] else place ∷ places_around d n (parent_of d place))
unfolding places_around
places_around-next d n place b e =
    ap (λ (t : Bool). if t then [] else place ∷ places_around d n (parent_of d place)) e

-- of as many places as may still be found, after `passed` of n, there is one more than `left`
places_around-left : (d : DeclaredNames) (place left : ℕ) (n passed : ℕ) → passed < n → left ≡ n - (passed + 1)
    → places_around d (n - passed) place ≡ places_around d (suc left) place
places_around-left d place left n passed lt e =
    let same : n - passed ≡ suc left = omega (arith, lt, e) in ap (λ (k : ℕ). places_around d k place) same

-- at the outermost scope, all places are found
pub places_around-outermost : (d : DeclaredNames) (around whole : List ℕ) (n passed place outward : ℕ) → passed < n
    → outward
    ≡ parent_of d place → outward ≡ nowhere → around ++ places_around d (n - passed) place ≡ whole → around ≡ whole
places_around-outermost d around whole n passed place outward lt parent last is =
    sym (append-nil around)
    ∙ ap (λ (places : List ℕ). around ++ places) (sym (places_around-left d place (n - (passed + 1)) n passed lt refl
    ∙ places_around-next d (n - (passed + 1)) place true (eq-eqb (parent_of d place) nowhere (sym parent ∙ last))))
    ∙ is

-- a place that isn't the outermost scope's is added to those found, and those of the scope around it are left
places_around-outward : (d : DeclaredNames) (around whole : List ℕ) (n passed place : ℕ) → passed < n
    → (parent_of d place ≡ nowhere → ⊥) → around ++ places_around d (n - passed) place ≡ whole
    → (around ++ place ∷ []) ++ places_around d (n - (passed + 1)) (parent_of d place) ≡ whole
places_around-outward d around whole n passed place lt more is =
    append_assoc around (place ∷ []) (places_around d (n - (passed + 1)) (parent_of d place))
    ∙ ap (λ (places : List ℕ). around ++ places) (sym (places_around-left d place (n - (passed + 1)) n passed lt refl
    ∙ places_around-next d (n - (passed + 1)) place false (ne_eqb (parent_of d place) nowhere more)))
    ∙ is

-- a place that isn't the outermost scope's is added, and the scope around it is the next
pub places_around-added : (d : DeclaredNames) (around after whole : List ℕ) (n passed place outward : ℕ) → passed < n
    → after
    ≡ around ++ place ∷ [] → outward ≡ parent_of d place → (outward ≡ nowhere → ⊥)
    → around ++ places_around d (n - passed) place ≡ whole
    → after ++ places_around d (n - (passed + 1)) outward ≡ whole
places_around-added d around after whole n passed place outward lt pushed parent more is =
    rw (pushed, parent) (places_around-outward d around whole n passed place lt (λ last. more (parent ∙ last)) is)

-- after `n` scopes all places are found
pub places_around-all : (d : DeclaredNames) (around whole : List ℕ) (n passed place : ℕ) → n - passed ≡ 0
    → around ++ places_around d (n - passed) place ≡ whole → around ≡ whole
unfolding places_around
places_around-all d around whole n passed place all is =
    sym (append-nil around) ∙ ap (λ (k : ℕ). around ++ places_around d k place) (sym all) ∙ is
