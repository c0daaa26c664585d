-- The values of the nets that have one, moved one by one in the order of the nets, are the values of an instant.
use Rattle.std.proofs.Common.{◌≡◌, ◌≢◌, ℕ, zero, suc, ◌+◌, ◌<◌, ◌≤◌, List, [], ◌∷◌, ◌++◌, length, get_or, replicate}
use Rattle.std.proofs.Common.{slice_set, Option, Some, None, IsSome, refl, sym, ap, ◌∙◌, arith, inl, inr}
use Rattle.std.specs.List.Sorted.{IsNonDecreasing, IsPermutation}
use Rattle.std.proofs.lemmas.List.Sorted.{All-permutation, Contains-permutation}
use Rattle.std.proofs.lemmas.List.{append-nil, append_assoc, length-set, get_or-set_other}
use Rattle.std.proofs.lemmas.Bool.{cases_eq}
use Rattle.vcd_read.specs.declared.dump.Bit.{Bit}
use Rattle.vcd_read.specs.declared.dump.Value.{Value}
use Rattle.vcd_read.specs.DumpProgress.{values_from}
use Rattle.vcd_read.specs.ChangedNets.{ListsChangedNets}
use Rattle.vcd_read.proofs.CurrentValues.{CurrentValues}
use Rattle.vcd_read.proofs.ListLemmas.{get_or-replicate_same}

-- the value of a net that has none
abbrev pub no_bits : Option (List Bit)
no_bits = None

-- a value that is there isn't `None`
IsSome-not_None : (bits : Option (List Bit)) → bits ≡ None → IsSome bits → ⊥
IsSome-not_None None e h = cc
IsSome-not_None (Some bits) e h = cc

-- nothing is listed where no net has a value
pub ListsChangedNets-none : (n : ℕ) → ListsChangedNets [] (replicate n no_bits)
ListsChangedNets-none n = record {
  below = λ k d lt. absurd (omega (arith, lt));
  listed = λ net some. absurd (IsSome-not_None (get_or (replicate n no_bits) net None)
      (get_or-replicate_same n no_bits net) some);
}

-- the list has the net at an index from `place` on
pub record IsListedFrom (changed_nets : List ℕ) (place net : ℕ) : Type 0 where
  pub at : ℕ
  pub low : place ≤ at
  pub high : at < length changed_nets
  pub is : get_or changed_nets at 0 ≡ net

-- the values of the nets before `place` in the list are moved to `moved`, and the others are left in `current`
pub record IsMoved (changed_nets : List ℕ) (place : ℕ) (start current : CurrentValues) (moved : List Value) : Type 0
  where
    pub values : moved ++ values_from 0 current ≡ values_from 0 start
    pub room : length current ≡ length start
    pub listed : (net : ℕ) → IsSome (get_or current net None) → IsListedFrom changed_nets place net

-- with no value below a net, its value is the first
values_from-first : (base net : ℕ) (current : CurrentValues) (bits : List Bit) → get_or current net None ≡ Some bits
    → ((k : ℕ) → k < net → get_or current k None ≡ no_bits)
    → values_from base current ≡ record { net = base + net; bits = bits } ∷ values_from base
    (slice_set current net None)
values_from-first base net [] bits e none = absurd (cc)
values_from-first base zero (Some b ∷ current) bits e none =
    let same : b ≡ bits = cc in
    let at : base + 0 ≡ base = omega arith in
    rw (at, same) refl
values_from-first base zero (None ∷ current) bits e none = absurd (cc)
values_from-first base (suc net) (Some b ∷ current) bits e none = let h : Some b ≡ no_bits = none 0 (omega arith) in
    absurd (cc)
values_from-first base (suc net) (None ∷ current) bits e none =
    let h = values_from-first (base + 1) net current bits e (λ k lt. none (suc k) (omega (arith, lt))) in
    let at : (base + 1) + net ≡ base + suc net = omega arith in
    rw (← at) h

-- where no value is there, it is `None`
None-not_IsSome : (bits : Option (List Bit)) → (IsSome bits → ⊥) → bits ≡ None
None-not_IsSome None h = refl
None-not_IsSome (Some bits) h = absurd (h refl)

-- to take the value of a net that has none changes nothing
slice_set-no_bits : (current : CurrentValues) (net : ℕ) → get_or current net None ≡ no_bits → slice_set current net None
    ≡ current
slice_set-no_bits [] net e = refl
slice_set-no_bits (c ∷ current) zero e = ap (λ (x : Option (List Bit)). x ∷ current) (sym e)
slice_set-no_bits (c ∷ current) (suc net) e = ap (λ (xs : CurrentValues). c ∷ xs) (slice_set-no_bits current net e)

-- a net whose value is taken has none
get_or-taken : (current : CurrentValues) (net : ℕ) → get_or (slice_set current net None) net None ≡ no_bits
get_or-taken [] net = refl
get_or-taken (c ∷ current) zero = refl
get_or-taken (c ∷ current) (suc net) = get_or-taken current net

-- no net below the next one has a value
get_or-below_next : (changed_nets : List ℕ) (place : ℕ) (start current : CurrentValues) (moved : List Value)
    → IsNonDecreasing changed_nets
    → IsMoved changed_nets place start current moved
    → (k : ℕ) → k < get_or changed_nets place 0 → get_or current k None ≡ no_bits
get_or-below_next changed_nets place start current moved up h k lt =
    None-not_IsSome (get_or current k None) (λ some.
    let s = h.listed k some in
    let le : get_or changed_nets place 0 ≤ get_or changed_nets s.at 0 = up place s.at 0 s.low s.high in
    omega (arith, s.is))

-- when the value of the net at `place` is taken, each net that still has one is listed after it
IsListedFrom-next : (changed_nets : List ℕ) (place : ℕ) (start current : CurrentValues) (moved : List Value)
    → IsMoved changed_nets place start current moved
    → (net : ℕ) → IsSome (get_or (slice_set current (get_or changed_nets place 0) None) net None)
    → IsListedFrom changed_nets (place + 1) net
IsListedFrom-next changed_nets place start current moved h net some =
    elim (cases_eq net (get_or changed_nets place 0)) [
      | inl e ↦ absurd (IsSome-not_None (get_or (slice_set current (get_or changed_nets place 0) None) net None)
          (rw e (get_or-taken current (get_or changed_nets place 0))) some)
      | inr ne ↦
          let other : get_or (slice_set current (get_or changed_nets place 0) None) net None ≡ get_or current net None
          = get_or-set_other current (get_or changed_nets place 0) net None None ne in
          let s = h.listed net (rw other at some) in
          let apart : place ≢ s.at = λ e. ne (sym s.is ∙ ap (λ (i : ℕ). get_or changed_nets i 0) (sym e)) in
          record { at = s.at; low = omega (arith, s.low, apart); high = s.high; is = s.is }
    ]

-- `IsMoved` holds at the next place after the value of the net at `place` is moved
pub IsMoved-some : (changed_nets : List ℕ) (place : ℕ) (start current : CurrentValues) (moved : List Value)
    (bits : List Bit)
    → IsNonDecreasing changed_nets → IsMoved changed_nets place start current moved
    → get_or current (get_or changed_nets place 0) None ≡ Some bits
    → IsMoved changed_nets (place + 1) start (slice_set current (get_or changed_nets place 0) None)
    (moved ++ record { net = get_or changed_nets place 0; bits = bits } ∷ [])
IsMoved-some changed_nets place start current moved bits up h e =
    let t : ℕ = get_or changed_nets place 0 in
    let left : CurrentValues = slice_set current t None in
    let first = values_from-first 0 t current bits e (get_or-below_next changed_nets place start current moved up h) in
    let zero_first : 0 + t ≡ t = omega arith in
    let first2 : values_from 0 current ≡ record { net = t; bits = bits } ∷ values_from 0 left = rw zero_first at
    first in
    record {
      values = append_assoc moved (record { net = t; bits = bits } ∷ []) (values_from 0 left)
          ∙ ap (λ (xs : List Value). moved ++ xs) (sym first2) ∙ h.values;
      room = length-set current t None ∙ h.room;
      listed = IsListedFrom-next changed_nets place start current moved h;
    }

-- the net at `place`, which has no value, is passed over
pub IsMoved-none : (changed_nets : List ℕ) (place : ℕ) (start current : CurrentValues) (moved : List Value)
    → IsMoved changed_nets place start current moved
    → get_or current (get_or changed_nets place 0) None ≡ no_bits
    → IsMoved changed_nets (place + 1) start (slice_set current (get_or changed_nets place 0) None) moved
IsMoved-none changed_nets place start current moved h e =
    let same = slice_set-no_bits current (get_or changed_nets place 0) e in
    record {
      values = ap (λ (xs : CurrentValues). moved ++ values_from 0 xs) same ∙ h.values;
      room = ap (λ (xs : CurrentValues). length xs) same ∙ h.room;
      listed = IsListedFrom-next changed_nets place start current moved h;
    }

-- if no net has a value, there are no values, and none stands in the list
values_from-no_bits : (base : ℕ) (current : CurrentValues) → ((net : ℕ) → get_or current net None ≡ no_bits)
    → (values_from base current ≡ []) × (current ≡ replicate (length current) None)
values_from-no_bits base [] none = (refl, refl)
values_from-no_bits base (Some bits ∷ current) none = let h : Some bits ≡ no_bits = none 0 in absurd (cc)
values_from-no_bits base (None ∷ current) none =
    let h = values_from-no_bits (base + 1) current (λ net. none (suc net)) in
    (h.0, ap (λ (xs : CurrentValues). None ∷ xs) h.1)

-- at the end of the list all values are moved, and none is left
pub IsMoved-all : (changed_nets : List ℕ) (place : ℕ) (start current : CurrentValues) (moved : List Value)
    → IsMoved changed_nets place start current moved → length changed_nets ≤ place
    → (moved ≡ values_from 0 start) × (current ≡ replicate (length start) None)
IsMoved-all changed_nets place start current moved h past =
    let none : (net : ℕ) → get_or current net None ≡ no_bits =
    λ net. None-not_IsSome (get_or current net None) (λ some. let s = h.listed net some in omega (arith, s.low, s.high))
    in
    let all = values_from-no_bits 0 current none in (
      sym (append-nil moved) ∙ ap (λ (xs : List Value). moved ++ xs) (sym all.0) ∙ h.values,
      all.1 ∙ ap (λ (n : ℕ). replicate n no_bits) h.room,
    )

-- the order of the list doesn't matter
pub ListsChangedNets-permutation : (xs ys : List ℕ) (current : CurrentValues) → IsPermutation xs ys
    → ListsChangedNets xs current
    → ListsChangedNets ys current
ListsChangedNets-permutation xs ys current same h = record {
  below = All-permutation (λ (net : ℕ). net < length current) xs ys same h.below;
  listed = λ net some. Contains-permutation xs ys net same (h.listed net some);
}
