-- The rows of cycles, tenures and transfers are ones that their forms allow.
use Rattle.std.proofs.Common.{◌≡◌, ℕ, zero, suc, ◌+◌, ◌*◌, ◌/◌, ◌%◌, ◌^◌, ◌<◌, ◌≤◌, ◌==◌, Bool, true, false, not}
use Rattle.std.proofs.Common.{cond, refl, ap, arith, add-one, ◌⊎◌, inl, inr}
use Rattle.std.specs.Prelude.{Option, None, Some}
use Rattle.std.proofs.Math.Nat.{pow-succ'}
use Rattle.std.proofs.lemmas.Bool.Decides.{nat_tests}
use Rattle.std.proofs.lemmas.Bool.{and_from, le-leb, lt-ltb}
use Rattle.vme_trace.specs.Instants.{least}
use Rattle.vme_trace.specs.LineNumbers.{A, IACK}
use Rattle.vme_trace.specs.Levels.{Levels, level_at, is_high, is_high_on, is_low}
use Rattle.vme_trace.specs.LineNumbers.{AM}
use Rattle.vme_trace.specs.Cycle.{class_of, has_known_modifier, highest_address, is_block, modifier_bit, modifier_of}
use Rattle.vme_trace.specs.declared.class.Class.{Class}
use Rattle.vme_trace.specs.declared.class.Class.TheVariants as class
use Rattle.vme_trace.proofs.Ranges.{least-found}
use Rattle.vme_listing.specs.Places.{is_address, is_end_instant, is_number, is_row, is_start, is_reset, place_of}
use Rattle.vme_listing.specs.Recorded.{address_to, cycle_row}
use Rattle.vme_listing.specs.declared.row.Version.TheVariants.{Three}
use Rattle.vme_listing.specs.declared.row.Row.{Row}
use Rattle.vme_listing.specs.declared.row.Row.TheVariants.{Tenure}

-- the row is of a tenure, a cycle or a transfer, at the place (i, kind), and is one that its form allows
pub record IsMiddle (i kind : ℕ) (row : Row) : Type 0 where
  pub allowed : is_row Three row ≡ true
  pub place : place_of Three row ≡ Some (i, kind)
  pub no_start : is_start row ≡ false
  pub no_reset : is_reset row ≡ false

-- an instant before `end`, which is at most 2^32, is a number of a row
pub is_number-below : (n end : ℕ) → n < end → end ≤ 2 ^ 32 → is_number n ≡ true
is_number-below n end below few = lt-ltb n (2 ^ 32) (omega arith)

-- an instant that was searched for before `end`, which is at most 2^32, is below 2^32
pub is_end_instant-least : (p : ℕ → Bool) (first end : ℕ) → end ≤ 2 ^ 32 → is_end_instant (least p first end) ≡ true
is_end_instant-least p first end few = found (least p first end) (λ n e. (least-found p first end n e).below)
  where
    found : (o : Option ℕ) → ((n : ℕ) → o ≡ Some n → n < end) → is_end_instant o ≡ true
    found None h = refl
    found (Some n) h = is_number-below n end (h n refl) few

-- an address is even
address_to-even : (v : Levels) (n : ℕ) → (k : ℕ) × (address_to v n ≡ 2 * k)
address_to-even v zero = (0, refl)
address_to-even v (suc n) = grown (is_high (level_at v (A (suc n)))) (address_to-even v n)
  where
    grown : (high : Bool) → ((k : ℕ) × (address_to v n ≡ 2 * k)) → (k : ℕ) × (address_to v n + cond high (2 ^ suc n) 0
        ≡ 2 * k)
    grown true h = (h.0 + 2 ^ n, omega (arith, h.1, pow-succ' 2 n))
    grown false h = (h.0, omega (arith, h.1))

-- an address on lines 1 to n is below 2 to the power n + 1
address_to-bound : (v : Levels) (n : ℕ) → address_to v n < 2 ^ suc n
address_to-bound v zero = omega (arith, pow-succ' 2 0)
address_to-bound v (suc n) = grown (is_high (level_at v (A (suc n)))) (address_to-bound v n)
  where
    grown : (high : Bool) → address_to v n < 2 ^ suc n → address_to v n + cond high (2 ^ suc n) 0 < 2 ^ suc (suc n)
    grown true h = omega (arith, h, pow-succ' 2 (suc n))
    grown false h = omega (arith, h, pow-succ' 2 (suc n))

-- the address on the lines that a modifier code makes meaningful is one that the row may have
is_address-address_to : (v : Levels) (modifier : ℕ) → (highest_address modifier == 0) ≡ false → is_address modifier
    (address_to v (highest_address modifier)) ≡ true
is_address-address_to v modifier h =
    let highest = highest_address modifier in
    let e = address_to-even v highest in
    let rest : address_to v highest % 2 ≡ 0 = remainder (address_to v highest) e.0 e.1 in
    and_from _ _ (and_from _ _ (ap not h) (lt-ltb (address_to v highest) (2 ^ (highest + 1)) (rw add-one
    (address_to-bound v highest))))
    (ap (λ n. n == 0) rest)
  where
    remainder : (a k : ℕ) → a ≡ 2 * k → a % 2 ≡ 0
    remainder a k e = omega arith

-- with the codes of block transfers, address lines are meaningful
highest_address-of_block : (modifier : ℕ) → is_block modifier ≡ true → (highest_address modifier == 0) ≡ false
unfolding highest_address
highest_address-of_block modifier h = grind (arith, nat_tests)

-- a bit of the modifier code is at most its weight of 1
modifier_bit-bound : (v : Levels) (n : ℕ) → modifier_bit v n ≤ 1
modifier_bit-bound v n = chosen (is_high_on v (AM n))
  where
    chosen : (b : Bool) → cond b 1 0 ≤ 1
    chosen true = omega arith
    chosen false = omega arith

-- a modifier code is below 64
modifier_of-bound : (v : Levels) → modifier_of v < 64
unfolding modifier_of
modifier_of-bound v = omega (
  arith,
  modifier_bit-bound v 0,
  modifier_bit-bound v 1,
  modifier_bit-bound v 2,
  modifier_bit-bound v 3,
  modifier_bit-bound v 4,
  modifier_bit-bound v 5,
)

-- what the class of a cycle implies for its code: `known`, whether its bits are known; `block`, whether it is of block
-- transfers; `free`, whether it has no address
abbrev ClassImplies : Class → Bool → Bool → Bool → Type 0
ClassImplies class.S known block free = (block ≡ false) × (free ≡ false)
ClassImplies class.K known block free = block ≡ true
ClassImplies class.I known block free = Unit {0}
ClassImplies class.F known block free = (known ≡ false) ⊎ (free ≡ true)

-- a class that is chosen by tests implies what these say
ClassImplies-by_tests : (interrupt known block free : Bool)
    → ClassImplies (cond interrupt class.I (cond (not known) class.F (cond block class.K (cond free class.F class.S))))
    known block free
ClassImplies-by_tests true known block free = tt
ClassImplies-by_tests false false block free = inl refl
ClassImplies-by_tests false true true free = refl
ClassImplies-by_tests false true false true = inr refl
ClassImplies-by_tests false true false false = (refl, refl)

-- the class of a cycle implies this for its code
ClassImplies-class_of : (v : Levels) → ClassImplies (class_of v) (has_known_modifier v) (is_block (modifier_of v))
    (highest_address (modifier_of v) == 0)
unfolding class_of
ClassImplies-class_of v = ClassImplies-by_tests (is_low (level_at v IACK)) (has_known_modifier v)
    (is_block (modifier_of v))
    (highest_address (modifier_of v) == 0)

-- the row of a cycle is one that its form allows, if the code is known where the class is F
pub IsMiddle-cycle_row : (i : ℕ) (v : Levels) (e : Option ℕ) → is_number i ≡ true → is_end_instant e ≡ true
    → (class_of v ≡ class.F → has_known_modifier v ≡ false → ⊥) → IsMiddle i 3 (cycle_row i v e (class_of v))
unfolding is_row
IsMiddle-cycle_row i v e n ed known = by_class (class_of v) refl (ClassImplies-class_of v)
  where
    by_class : (c : Class) → class_of v ≡ c → ClassImplies c (has_known_modifier v) (is_block (modifier_of v))
        (highest_address (modifier_of v) == 0) → IsMiddle i 3 (cycle_row i v e c)
    by_class class.S is f = record {
      allowed = and_from _ _ (and_from _ _ (and_from _ _ n (ap not f.0)) (is_address-address_to v (modifier_of v) f.1))
          ed;
      place = refl;
      no_start = refl;
      no_reset = refl;
    }
    by_class class.K is f = record {
      allowed = and_from _ _ (and_from _ _ (and_from _ _ n f) (is_address-address_to v (modifier_of v)
          (highest_address-of_block (modifier_of v) f))) ed;
      place = refl;
      no_start = refl;
      no_reset = refl;
    }
    by_class class.I is f =
        let level : address_to v 3 < 16 = address_to-bound v 3 in
        record {
          allowed = and_from _ _ (and_from _ _ n (lt-ltb (address_to v 3 / 2) 8 (omega arith))) ed;
          place = refl;
          no_start = refl;
          no_reset = refl;
        }
    by_class class.F is (inl unknown) = absurd (known is unknown)
    by_class class.F is (inr free) = record {
      allowed = and_from _ _ (and_from _ _ (and_from _ _ n (lt-ltb (modifier_of v) 64 (modifier_of-bound v))) free) ed;
      place
          = refl;
      no_start = refl;
      no_reset = refl;
    }

-- the row of a tenure with a level below 4 and a slot from 1 to 21 is one that its form allows
pub IsMiddle-tenure : (i level slot : ℕ) (e : Option ℕ) → is_number i ≡ true → level < 4 → 1 ≤ slot → slot ≤ 21
    → is_end_instant e
    ≡ true → IsMiddle i 2 (Tenure i level slot e)
unfolding is_row
IsMiddle-tenure i level slot e n below first last ed =
    record {
      allowed = and_from _ _ (and_from _ _ (and_from _ _ (and_from _ _ n (lt-ltb level 4 below))
          (le-leb 1 slot first)) (le-leb slot 21 last)) ed;
      place = refl;
      no_start = refl;
      no_reset = refl;
    }
