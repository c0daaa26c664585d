-- The table's slots after an act, by the slots that a seat has checked out before and after it.
use Rattle.std.proofs.Common.{◌≡◌, ℕ, zero, suc, ◌<◌, ◌≢◌, List, [], ◌∷◌, length, set, sym, refl, ap, ◌∙◌, subst, arith}
use Rattle.std.proofs.Common.{length-set}
use mathlib.Core.Option as maybe
use mathlib.Core.Option.{none, some, some-injective, some-ne-none}
use lib.ListN.{get_elem?}
use Rattle.atomic_table.specs.Table.{Act, keeps, takes, gives, chain, Valid, homes_after, carried_after}
use Rattle.atomic_table.proofs.Lists.{set_again, set_else, set_here}

module _ {A : Type 0} where
  -- an element of a list is at an index below its length
  pub get_elem-within : (l : List A) (i : ℕ) (a : A) → get_elem? l i ≡ some a → i < length l
  get_elem-within [] i a e = absurd (some-ne-none a (sym e))
  get_elem-within (x ∷ xs) zero a e = omega arith
  get_elem-within (x ∷ xs) (suc i) a e = omega (arith, get_elem-within xs i a e)

  -- an element that is set twice has the second value
  set-twice : (l : List A) (i : ℕ) (a b : A) → set (set l i a) i b ≡ set l i b
  set-twice [] i a b = refl
  set-twice (x ∷ xs) zero a b = refl
  set-twice (x ∷ xs) (suc i) a b = ap (λ (ys : List A). x ∷ ys) (set-twice xs i a b)

-- the slots of a table, `none` where a slot is checked out
abbrev Homes : Type 0 → Type 0
Homes S = List (maybe.Option S)

module _ {S : Type 0} where
  -- a slot that is checked out isn't in the table
  none-not_some : (x : S) → ◌≡◌ {A = maybe.Option (maybe.Option S)} (some none) (some (some x)) → ⊥
  none-not_some x e = some-ne-none x (sym (some-injective none (some x) e))

  -- the table's slots after all slots that are checked out are put back
  abbrev returned_homes : Homes S → List (ℕ × S) → Homes S
  returned_homes hs [] = hs
  returned_homes hs (x ∷ xs) = returned_homes (set hs x.0 (some x.1)) xs

  -- an act doesn't change what the slots are after all that are checked out are put back
  returned_homes-same : (hs : Homes S) (c : List (ℕ × S)) (a : Act S) → Valid hs c a
      → returned_homes (homes_after hs c a)
      (carried_after c a) ≡ returned_homes hs c
  returned_homes-same hs c keeps v = refl
  returned_homes-same hs c (takes k y) v = ap (λ (l : Homes S). returned_homes l c) (set-twice hs k none (some y)
      ∙ set_again hs k (some y) v)
  returned_homes-same hs [] gives v = refl
  returned_homes-same hs (x ∷ xs) gives v = refl
  returned_homes-same hs c (chain a b) v = returned_homes-same (homes_after hs c a) (carried_after c a) b v.1
      ∙ returned_homes-same hs c a
      v.0

  -- the slot k is not among those that are checked out
  abbrev IsFresh : ℕ → List (ℕ × S) → Type 0
  IsFresh k [] = Unit {0}
  IsFresh k (x ∷ xs) = (k ≢ x.0) × IsFresh k xs

  -- each slot that is checked out is not in the table, and is checked out once
  abbrev AreOut : Homes S → List (ℕ × S) → Type 0
  AreOut hs [] = Unit {0}
  AreOut hs (x ∷ xs) = (get_elem? hs x.0 ≡ some none) × IsFresh x.0 xs × AreOut hs xs

  -- a slot that is in the table is not among those that are out, and these stay out after it is taken
  AreOut-taken : (hs : Homes S) (c : List (ℕ × S)) (k : ℕ) (y : S) → get_elem? hs k ≡ some (some y) → AreOut hs c
      → IsFresh k c × AreOut (set hs k none) c
  AreOut-taken hs [] k y e o = (tt, tt)
  AreOut-taken hs (x ∷ xs) k y e (here, fresh, more) =
      let apart : k ≢ x.0 = λ q. none-not_some y (sym here ∙ (ap (get_elem? hs) (sym q) ∙ e)) in
      let next = AreOut-taken hs xs k y e more in
      ((apart, next.0), (set_else hs k x.0 none (λ q. apart (sym q)) ∙ here, fresh, next.1))

  -- the slots that are out stay out after another one is put back
  AreOut-given : (hs : Homes S) (c : List (ℕ × S)) (k : ℕ) (y : S) → IsFresh k c → AreOut hs c
      → AreOut (set hs k (some y))
      c
  AreOut-given hs [] k y f o = tt
  AreOut-given hs (x ∷ xs) k y (apart, f) (here, fresh, more) = (
    set_else hs k x.0 (some y) (λ q. apart (sym q)) ∙ here,
    fresh,
    AreOut-given hs xs k y f more,
  )

  -- after an act, the slots that the seat has checked out are out
  AreOut-after : (hs : Homes S) (c : List (ℕ × S)) (a : Act S) → AreOut hs c → Valid hs c a
      → AreOut (homes_after hs c a)
      (carried_after c a)
  AreOut-after hs c keeps o v = o
  AreOut-after hs c (takes k y) o v = let more = AreOut-taken hs c k y v o in
      (set_here hs k none (get_elem-within hs k (some y) v), more.0, more.1)
  AreOut-after hs [] gives o v = tt
  AreOut-after hs (x ∷ xs) gives (here, fresh, more) v = AreOut-given hs xs x.0 x.1 fresh more
  AreOut-after hs c (chain a b) o v = AreOut-after (homes_after hs c a)
      (carried_after c a) b (AreOut-after hs c a o v.0) v.1

  -- if a seat has no slot checked out before and after a valid act, the table's slots don't change
  pub homes_after-left : (hs : Homes S) (a : Act S) → Valid hs [] a → [] ≡ carried_after [] a → homes_after hs [] a ≡ hs
  homes_after-left hs a v e = ap (returned_homes (homes_after hs [] a)) e ∙ returned_homes-same hs [] a v

  -- if a seat had the slot n checked out before a valid act and has none after, it put the slot back
  pub homes_after-given : (hs : Homes S) (a : Act S) (n : ℕ) (x : S) → Valid hs ((n, x) ∷ []) a → []
      ≡ carried_after ((n, x) ∷ []) a → homes_after hs ((n, x) ∷ []) a ≡ set hs n (some x)
  homes_after-given hs a n x v e = ap (returned_homes (homes_after hs ((n, x) ∷ []) a)) e
      ∙ returned_homes-same hs ((n, x) ∷ []) a v

  -- the slot n with the value x was in the table before, and is checked out after
  pub record TookHome (hs after : Homes S) (n : ℕ) (x : S) : Type 0 where
    pub was : get_elem? hs n ≡ some (some x)
    pub out : get_elem? after n ≡ some none
    pub others : (m : ℕ) → m ≢ n → get_elem? after m ≡ get_elem? hs m
    pub long : length after ≡ length hs

  -- if a seat had no slot checked out before a valid act and has the slot n after, it took it
  pub TookHome-taken : (hs : Homes S) (a : Act S) (n : ℕ) (x : S) → Valid hs [] a → (n, x) ∷ [] ≡ carried_after [] a
      → TookHome hs (homes_after hs [] a) n x
  TookHome-taken hs a n x v e =
      let after : Homes S = homes_after hs [] a in let back : set after n (some x) ≡ hs = ap (returned_homes after) e
      ∙ returned_homes-same hs [] a v in
      let out : AreOut after ((n, x) ∷ []) = subst (AreOut after) (sym e) (AreOut-after hs [] a tt v) in record {
        was = ap (λ (l : Homes S). get_elem? l n) (sym back)
            ∙ set_here after n (some x) (get_elem-within after n none out.0);
        out = out.0;
        others = λ m ne. sym (set_else after n m (some x) ne) ∙ ap (λ (l : Homes S). get_elem? l m) back;
        long = sym (length-set after n (some x)) ∙ ap length back;
      }
