-- If no path of a dump has the name of a scope as a part, none is the path of a variable in that scope.
use Rattle.std.proofs.Common.{◌≡◌, ℕ, Bool, true, false, eqb, List, [], ◌∷◌, ◌++◌, refl, sym, ap}
use Rattle.std.proofs.Common.{◌∙◌, true≢false, ◌||◌}
use Rattle.std.specs.Prelude.{All, bytes_eq, drop}
use Rattle.std.specs.List.{list_any, onto_first, slice_split}
use Rattle.std.proofs.lemmas.Bool.{or_right}
use Rattle.std.proofs.lemmas.List.Splits.{slice_split_at, slice_split-cons_no, slice_split-cons_yes}
use Rattle.std.proofs.lemmas.Slice.Eq.{bytes_eq-Decides}
use Rattle.vcd_read.specs.Header.{joined_by_dots}
use Rattle.vcd_read.specs.declared.dump.Variable.{Variable}
use Rattle.vme_annotation.specs.Fresh.{has_part}
use Rattle.vme_annotation.proofs.BoundLemmas.{has_path}

-- the byte is a dot
abbrev is_dot : ℕ → Bool
is_dot b = eqb b 46

-- the parts of a path, between its dots
abbrev parts : List ℕ → List (List ℕ)
parts path = slice_split is_dot path

-- if an element other than the first satisfies `f`, one of all does
list_any-without_first : (f : List ℕ → Bool) (ps : List (List ℕ)) → list_any f (drop 1 ps) ≡ true → list_any f ps ≡ true
list_any-without_first f [] any = any
list_any-without_first f (p ∷ ps) any = or_right (f p) (list_any f ps) any

-- if a part of `rest` satisfies `f`, so does a part, other than the first, of `front`, a dot and `rest`
list_any-after_dot : (f : List ℕ → Bool) (front rest : List ℕ) → list_any f (parts rest) ≡ true
    → list_any f (drop 1 (parts (front ++ 46 ∷ rest))) ≡ true
list_any-after_dot f [] rest some = ap (λ (ps : List (List ℕ)). list_any f (drop 1 ps))
    (slice_split-cons_yes is_dot 46 rest refl) ∙ some
list_any-after_dot f (b ∷ front) rest some = go (is_dot b) refl (list_any-after_dot f front rest some)
  where
    first_only : (ps : List (List ℕ)) → list_any f (drop 1 ps) ≡ true → list_any f (drop 1 (onto_first b ps)) ≡ true
    first_only [] any = absurd (true≢false (sym any))
    first_only (p ∷ ps) any = any

    go : (test : Bool) → is_dot b ≡ test → list_any f (drop 1 (parts (front ++ 46 ∷ rest))) ≡ true
        → list_any f (drop 1 (parts ((b ∷ front) ++ 46 ∷ rest))) ≡ true
    go true is later = ap (λ (ps : List (List ℕ)). list_any f (drop 1 ps))
        (slice_split-cons_yes is_dot b (front ++ 46 ∷ rest) is)
        ∙ list_any-without_first f (parts (front ++ 46 ∷ rest)) later
    go false is later = ap (λ (ps : List (List ℕ)). list_any f (drop 1 ps))
        (slice_split-cons_no is_dot b (front ++ 46 ∷ rest) is)
        ∙ first_only (parts (front ++ 46 ∷ rest)) later

-- the parts of a scope's name, a dot and `name` are the scope's name and the parts of `name`
parts-scope : (scope name : List ℕ) → All (λ b. is_dot b ≡ false) scope
    → parts (scope ++ 46 ∷ name) ≡ scope ∷ parts name
parts-scope scope name none = slice_split_at is_dot scope 46 name none refl

-- ---- the path of a name in a scope

-- the name `b ∷ m` and names whose joined path, `c ∷ path`, isn't empty have a dot between them
joined_by_dots-cons : (b : ℕ) (m : List ℕ) (names : List (List ℕ)) (c : ℕ) (path : List ℕ)
    → joined_by_dots names ≡ c ∷ path → joined_by_dots ((b ∷ m) ∷ names) ≡ (b ∷ m) ++ 46 ∷ c ∷ path
joined_by_dots-cons b m names c path e = rw e refl

-- the scope's name is `first ∷ others`, which has no dot, and the variable's name is `n ∷ name`
module _ (first : ℕ) (others : List ℕ) (undotted : All (λ b. is_dot b ≡ false) (first ∷ others)) (n : ℕ)
    (name : List ℕ) where
  -- the name of the scope
  abbrev scope : List ℕ
  scope = first ∷ others

  -- whether the scope's name is a part of the path
  abbrev has_scope : List ℕ → Bool
  has_scope path = list_any (λ part. bytes_eq part scope) (parts path)

  -- the names along the path: of the scopes `outer`, of the scope, and of the variable
  abbrev inside : List (List ℕ) → List (List ℕ)
  inside outer = outer ++ scope ∷ (n ∷ name) ∷ []

  -- the path of a name in the scope alone has the scope's name
  has_scope-innermost : has_scope (joined_by_dots (scope ∷ (n ∷ name) ∷ [])) ≡ true
  has_scope-innermost =
      ap has_scope (joined_by_dots-cons first others ((n ∷ name) ∷ []) n (name ++ []) refl)
      ∙ ap (list_any (λ part. bytes_eq part scope)) (parts-scope scope (n ∷ name ++ []) undotted)
      ∙ ap (λ (test : Bool). test || list_any (λ part. bytes_eq part scope) (parts (n ∷ name ++ [])))
      ((bytes_eq-Decides scope scope).1 refl)

  -- if a path has the scope's name, so has the path with one more scope around it
  has_scope-around : (b : ℕ) (m : List ℕ) (names : List (List ℕ)) (path : List ℕ) → joined_by_dots names ≡ path
      → has_scope path ≡ true → has_scope (joined_by_dots ((b ∷ m) ∷ names)) ≡ true
  has_scope-around b m names [] e has = absurd (true≢false (sym has))
  has_scope-around b m names (c ∷ path) e has =
      ap has_scope (joined_by_dots-cons b m names c path e)
      ∙ list_any-without_first (λ part. bytes_eq part scope) (parts ((b ∷ m) ++ 46 ∷ c ∷ path))
      (list_any-after_dot (λ part. bytes_eq part scope) (b ∷ m) (c ∷ path) has)

  -- the path of a variable in the scope has the scope's name, whichever scopes `outer` are around it
  pub scope_in_path : (outer : List (List ℕ)) → has_scope (joined_by_dots (inside outer)) ≡ true
  scope_in_path [] = has_scope-innermost
  scope_in_path ([] ∷ outer) = scope_in_path outer
  scope_in_path ((b ∷ m) ∷ outer) =
      has_scope-around b m (inside outer) (joined_by_dots (inside outer)) refl (scope_in_path outer)

-- ---- paths that lack a scope

-- variables that lack `part` in their paths lack each path that has it
pub lacks_path : (part path : List ℕ) (variables : List Variable)
    → list_any (λ p. bytes_eq p part) (parts path) ≡ true → list_any (has_part part) variables ≡ false
    → list_any (has_path path) variables ≡ false
lacks_path part path [] has lacks = refl
lacks_path part path (v ∷ variables) has lacks =
    go (bytes_eq v.path path) refl (has_part part v) refl lacks (λ rest. lacks_path part path variables has rest)
  where
    go : (same : Bool) → bytes_eq v.path path ≡ same → (test : Bool) → has_part part v ≡ test
        → (test || list_any (has_part part) variables) ≡ false
        → (list_any (has_part part) variables ≡ false → list_any (has_path path) variables ≡ false)
        → (same || list_any (has_path path) variables) ≡ false
    go false differs false is rest others = others rest
    go false differs true is rest others = absurd (true≢false rest)
    go true same true is rest others = absurd (true≢false rest)
    go true same false is rest others =
        let path_is : v.path ≡ path = (bytes_eq-Decides v.path path).0 same in
        absurd (true≢false (sym has ∙ ap (λ (p : List ℕ). list_any (λ q. bytes_eq q part) (parts p)) (sym path_is)
        ∙ is))
