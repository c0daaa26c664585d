-- The modifier code, the address or level, and the class in the row of a cycle are what the lines show as the cycle
-- starts, if no rule is broken.
use Rattle.std.proofs.Common.{◌≡◌, ◌≢◌, ◌⊎◌, ℕ, zero, suc, ◌+◌, ◌*◌, ◌/◌, ◌%◌, ◌^◌, ◌<◌, ◌≤◌, Bool, true, false, ◌&&◌}
use Rattle.std.proofs.Common.{not, if◌then◌else◌, refl, sym, ◌∙◌, ap, arith, subst, inl, inr, All}
use Rattle.std.specs.Int.{bit_at}
use Rattle.std.specs.Prelude.{Option, ◌==◌}
use Rattle.std.proofs.Math.Nat.{pow-suc, pow-succ'}
use Rattle.std.proofs.lemmas.Bool.Decides.{nat_tests}
use Rattle.std.proofs.lemmas.Bool.{eqb-true, eqb-false}
use Rattle.std.proofs.lemmas.Nat.Bits.{bit_at-suc}
use Rattle.vme_trace.specs.Instants.{least}
use Rattle.vme_trace.specs.LineNumbers.{AS, IACK, AM}
use Rattle.vme_trace.specs.Cycle.{class_of, has_known_modifier, is_modifier_bit_known, is_block}
use Rattle.vme_trace.specs.Cycle.{is_within, is_needed, modifier_bit, modifier_of, needs_of}
use Rattle.vme_trace.specs.Cycle.{highest_address}
use Rattle.vme_trace.specs.Levels.{Levels, is_low, is_high, is_known, is_high_on, level_at}
use Rattle.vme_trace.specs.Trace.{Trace, levels_at}
use Rattle.vme_trace.specs.Signals.{level, low, high, known, rises}
use Rattle.vme_trace.specs.Judged.{Stretch}
use Rattle.vme_trace.specs.Cycles.{cycle_starts}
use Rattle.vme_trace.specs.Rules.{is_broken}
use Rattle.vme_trace.specs.declared.rule.Rule.TheVariants as rule
use Rattle.vme_trace.specs.declared.class.Class.{Class}
use Rattle.vme_trace.specs.declared.class.Class.TheVariants as class
use Rattle.vme_trace.specs.declared.data.Lanes.{Lanes}
use Rattle.vme_trace.specs.declared.level.Level.{Level}
use Rattle.vme_trace.specs.declared.level.Level.TheVariants.{Low, High, Unknown}
use Rattle.vme_trace.proofs.Ranges.{fails-any}
use Rattle.vme_trace.proofs.Changing.{bus_line_exists}
use Rattle.vme_trace.proofs.HighestAddress.{highest_address-bound}
use Rattle.vme_listing.specs.Recorded.{address_to, cycle_row, rows_before}
use Rattle.vme_listing.specs.declared.row.AnswerLine.{AnswerLine}
use Rattle.vme_listing.specs.declared.row.Direction.{Direction}
use Rattle.vme_listing.specs.declared.row.Row.{Row}
use Rattle.vme_listing.specs.declared.row.Row.TheVariants.{OpenTenure, Tenure, Transfer, PendingTransfer}
use Rattle.vme_split.specs.Split.{ShowNumber, address_line, ShowsModifier, ShowsAddress, IsOfItsCode}
use Rattle.vme_split.proofs.Unbroken.{IsUnbroken, is_broken-unbroken}
use Rattle.vme_split.proofs.EachRow.{All-rows_before, All-tenure_rows, All-cycle_rows_start, All-transfer_rows_any}
use Rattle.vme_split.proofs.Known.{cycle_starts-after}

-- ---- a number by its bits

-- the number of n bits whose bit k is 1 where p holds of k
abbrev value : (ℕ → Bool) → ℕ → ℕ
value p zero = 0
value p (suc n) = (if p 0 then 1 else 0) + 2 * value (λ i. p (suc i)) n

-- a bit is at most 1
bit-le_1 : (b : Bool) → (if b then 1 else 0) ≤ 1
bit-le_1 true = omega arith
bit-le_1 false = omega arith

-- the number of n bits is below 2 to the power n
value-below : (p : ℕ → Bool) (n : ℕ) → value p n < 2 ^ n
value-below p zero = omega arith
value-below p (suc n) =
    let low = value-below (λ i. p (suc i)) n in let b = bit-le_1 (p 0) in
    let e : 2 ^ suc n ≡ 2 ^ n * 2 = pow-suc 2 n in omega (arith, low, b, e)

-- the lowest bit of b + 2 v is b
bit_at-lowest : (b v : ℕ) → b ≤ 1 → (b + 2 * v) / 1 % 2 ≡ b
bit_at-lowest b v h = omega arith

-- the half of b + 2 v is v
div-half : (b v : ℕ) → b ≤ 1 → (b + 2 * v) / 2 ≡ v
div-half b v h = omega arith

-- bit k + 1 of b + 2 v is bit k of v
bit_at-shifted : (b v k : ℕ) → b ≤ 1 → bit_at (b + 2 * v) (suc k) ≡ bit_at v k
bit_at-shifted b v k h = bit_at-suc (b + 2 * v) k ∙ ap (λ (x : ℕ). bit_at x k) (div-half b v h)

-- bit k of the number is 1 where p holds of k
bit_at-value : (p : ℕ → Bool) (n k : ℕ) → k < n → bit_at (value p n) k ≡ (if p k then 1 else 0)
bit_at-value p zero k h = absurd (omega (arith, h))
bit_at-value p (suc n) zero h = bit_at-lowest (if p 0 then 1 else 0) (value (λ i. p (suc i)) n) (bit-le_1 (p 0))
bit_at-value p (suc n) (suc k) h = bit_at-shifted (if p 0 then 1 else 0) (value (λ i. p (suc i)) n) k (bit-le_1 (p 0))
    ∙ bit_at-value (λ i. p (suc i)) n k (omega (arith, h))

-- the weight of bit n + 1 is twice that of bit n, where the bit is set
pow-doubled : (b : Bool) (n : ℕ) → (if b then 2 ^ suc n else 0) ≡ 2 * (if b then 2 ^ n else 0)
pow-doubled true n = pow-succ' 2 n
pow-doubled false n = refl

-- the number of one bit is that bit
value-one_bit : (b : Bool) → (if b then 1 else 0) + 2 * 0 ≡ 0 + (if b then 2 ^ 0 else 0)
value-one_bit true = refl
value-one_bit false = refl

-- the value of n + 1 bits is that of the lower n bits, and the weight of bit n where it is set
value-next_bit : (p : ℕ → Bool) (n : ℕ) → value p (suc n) ≡ value p n + (if p n then 2 ^ n else 0)
value-next_bit p zero = value-one_bit (p 0)
value-next_bit p (suc n) =
    let rest = value-next_bit (λ i. p (suc i)) n in let top = pow-doubled (p (suc n)) n in
    topped (if p 0 then 1 else 0) (value (λ i. p (suc i)) (suc n)) (value (λ i. p (suc i)) n)
    (if p (suc n) then 2 ^ n else 0) (if p (suc n) then 2 ^ suc n else 0) rest top
  where
    topped : (b v w x y : ℕ) → v ≡ w + x → y ≡ 2 * x → b + 2 * v ≡ (b + 2 * w) + y
    topped b v w x y e f = omega (arith, e, f)

-- ---- the modifier code and the address by their lines

-- six bits with their weights, doubled from the last on
sum-six_weights : (a b c d e f : ℕ) → a + 2 * b + 4 * c + 8 * d + 16 * e + 32 * f
    ≡ a + 2 * (b + 2 * (c + 2 * (d + 2 * (e + 2 * (f + 2 * 0)))))
sum-six_weights a b c d e f = omega arith

-- the modifier code is the number of its six lines
modifier_of-value : (v : Levels) → modifier_of v ≡ value (λ n. is_high_on v (AM n)) 6
unfolding modifier_of
modifier_of-value v =
    sum-six_weights (modifier_bit v 0) (modifier_bit v 1) (modifier_bit v 2) (modifier_bit v 3) (modifier_bit v 4)
    (modifier_bit v 5)

-- the address up to n lines is twice the number of these lines
address_to-value : (v : Levels) (n : ℕ) → address_to v n ≡ 2 * value (λ k. is_high_on v (address_line k)) n
address_to-value v zero = refl
address_to-value v (suc n) =
    let p : ℕ → Bool = λ k. is_high_on v (address_line k) in
    topped (address_to v n) (if p n then 2 ^ suc n else 0) (value p n) (if p n then 2 ^ n else 0) (value p (suc n))
    (address_to-value v n) (pow-doubled (p n) n) (value-next_bit p n)
  where
    topped : (a y w x z : ℕ) → a ≡ 2 * w → y ≡ 2 * x → z ≡ w + x → a + y ≡ 2 * z
    topped a y w x z e f g = omega (arith, e, f, g)

-- twice a number is even
mod-twice : (a x : ℕ) → a ≡ 2 * x → a % 2 ≡ 0
mod-twice a x e = omega (arith, e)

-- the half of twice a number is that number
div-twice : (a x : ℕ) → a ≡ 2 * x → a / 2 ≡ x
div-twice a x e = omega (arith, e)

-- a known level is high where its bit is 1, and low where it is 0
is_known-bit : (x : Level) → is_known x ≡ true → (bit : ℕ) → bit ≡ (if is_high x then 1 else 0)
    → ((bit ≡ 1) × (is_high x ≡ true)) ⊎ ((bit ≡ 0) × (is_low x ≡ true))
is_known-bit High k bit e = inl (e, refl)
is_known-bit Low k bit e = inr (e, refl)
is_known-bit Unknown k bit e = absurd (cc)

-- known lines show the number of their levels
ShowNumber-known : (t : Trace) (i : ℕ) (line : ℕ → ℕ) (count : ℕ) → ((n : ℕ) → n < count → known t (line n) i ≡ true)
    → ShowNumber t line count i (value (λ n. is_high_on (levels_at t i) (line n)) count)
unfolding low high known
ShowNumber-known t i line count k = (
  value-below (λ n. is_high_on (levels_at t i) (line n)) count,
  λ n h. is_known-bit
      (level t (line n) i) (k n h) _ (bit_at-value (λ n. is_high_on (levels_at t i) (line n)) count n h),
)

-- ---- the lines that a cycle needs

-- the lines of the modifier are among those that are needed where the modifier is
is_within-modifier : (k n : ℕ) → n < 6 → is_within (record { modifier = true; highest = k }) (6 + n) ≡ true
is_within-modifier k n h = grind (arith, nat_tests)

-- the address lines up to the highest are among those that are needed
is_within-address : (m : Bool) (k n : ℕ) → n < k → is_within (record { modifier = m; highest = k }) (13 + suc n) ≡ true
is_within-address m k n h = grind (arith, nat_tests)

-- a cycle that is no interrupt acknowledge needs the lines of the modifier
is_needed-modifier : (v : Levels) (c : Class) → class_of v ≡ c → (c ≡ class.I → ⊥) → (n : ℕ) → n < 6
    → is_needed v (AM n)
    ≡ true
unfolding is_needed needs_of
is_needed-modifier v class.S e other n h = rw e (is_within-modifier (highest_address (modifier_of v)) n h)
is_needed-modifier v class.K e other n h = rw e (is_within-modifier (highest_address (modifier_of v)) n h)
is_needed-modifier v class.F e other n h = rw e (is_within-modifier 0 n h)
is_needed-modifier v class.I e other n h = absurd (other refl)

-- a cycle with an address needs the address lines that are meaningful with its code
is_needed-address : (v : Levels) (c : Class) → class_of v ≡ c → (c ≡ class.I → ⊥) → (c ≡ class.F → ⊥) → (n : ℕ)
    → n < highest_address (modifier_of v) → is_needed v (address_line n) ≡ true
unfolding is_needed needs_of
is_needed-address v class.S e other free n h = rw e (is_within-address true (highest_address (modifier_of v)) n h)
is_needed-address v class.K e other free n h = rw e (is_within-address true (highest_address (modifier_of v)) n h)
is_needed-address v class.F e other free n h = absurd (free refl)
is_needed-address v class.I e other free n h = absurd (other refl)

-- an interrupt acknowledge needs A01 to A03
is_needed-level : (v : Levels) → class_of v ≡ class.I → (n : ℕ) → n < 3 → is_needed v (address_line n) ≡ true
unfolding is_needed needs_of
is_needed-level v e n h = rw e (is_within-address false 3 n h)

-- ---- the class by the modifier code

-- class S has a code with an address, and of no block
class_of-single : (v : Levels) → class_of v ≡ class.S → (is_block (modifier_of v) ≡ false)
    × (highest_address (modifier_of v) ≢ 0)
unfolding class_of
class_of-single v h = let found = by (is_low (level_at v IACK)) (has_known_modifier v) (is_block (modifier_of v))
    (highest_address (modifier_of v) == 0) h in (found.0, eqb-false (highest_address (modifier_of v)) 0 found.1)
  where
    by : (a b c d : Bool) → (if a then class.I else if not b then class.F else if c then class.K else if d then class.F
        else class.S) ≡ class.S → (c ≡ false) × (d ≡ false)
    by true b c d h = absurd (cc)
    by false false c d h = absurd (cc)
    by false true true d h = absurd (cc)
    by false true false true h = absurd (cc)
    by false true false false h = (refl, refl)

-- class K has the code of a block
class_of-block : (v : Levels) → class_of v ≡ class.K → is_block (modifier_of v) ≡ true
unfolding class_of
class_of-block v h = by (is_low (level_at v IACK)) (has_known_modifier v) (is_block (modifier_of v))
    (highest_address (modifier_of v) == 0) h
  where
    by : (a b c d : Bool) → (if a then class.I else if not b then class.F else if c then class.K else if d then class.F
        else class.S) ≡ class.K → c ≡ true
    by true b c d h = absurd (cc)
    by false false c d h = absurd (cc)
    by false true true d h = refl
    by false true false true h = absurd (cc)
    by false true false false h = absurd (cc)

-- class F with a known modifier has a code without an address, and of no block
class_of-free : (v : Levels) → has_known_modifier v ≡ true → class_of v ≡ class.F → (is_block (modifier_of v) ≡ false)
    × (highest_address (modifier_of v) ≡ 0)
unfolding class_of
class_of-free v k h = let found = by (is_low (level_at v IACK)) (has_known_modifier v) (is_block (modifier_of v))
    (highest_address (modifier_of v) == 0) k h in (found.0, eqb-true (highest_address (modifier_of v)) 0 found.1)
  where
    by : (a b c d : Bool) → b ≡ true → (if a then class.I else if not b then class.F else if c then class.K else if d
        then class.F else class.S) ≡ class.F → (c ≡ false) × (d ≡ true)
    by true b c d k h = absurd (cc)
    by false false c d k h = absurd (cc)
    by false true true d k h = absurd (cc)
    by false true false true k h = (refl, refl)
    by false true false false k h = absurd (cc)

-- ---- the rows

module _ (t : Trace) (stretch : Stretch) (end : ℕ) (most : end ≤ stretch.end)
    (unbroken : IsUnbroken t stretch end) where
  -- a line that a cycle needs is known as it starts
  known-needed : (i : ℕ) → i < end → cycle_starts t stretch i ≡ true → (l : ℕ) → l < 50 → is_needed (levels_at t i) l
      ≡ true → known t l i ≡ true
  unfolding is_broken
  known-needed i before starts l few needed = by (cycle_starts t stretch i) (is_needed (levels_at t i) l) (known t l i)
      starts needed (is_broken-unbroken t stretch end most unbroken rule.U2 i l
      (cycle_starts-after t stretch i starts) before (omega (arith, few))
      (bus_line_exists t.opening.slots l few))
    where
      by : (a b c : Bool) → a ≡ true → b ≡ true → (a && b && not c) ≡ false → c ≡ true
      by true true true h k e = refl
      by true true false h k e = absurd (cc)
      by true false c h k e = absurd (cc)
      by false b c h k e = absurd (cc)

  -- the cycle that starts at i
  module _ (i : ℕ) (before : i < end) (starts : cycle_starts t stretch i ≡ true) (e : Option ℕ) where
    -- the lines of the cycle's modifier are known, if it is no interrupt acknowledge
    known-modifier : (c : Class) → class_of (levels_at t i) ≡ c → (c ≡ class.I → ⊥) → (n : ℕ) → n < 6 → known t (AM n) i
        ≡ true
    known-modifier c of other n low = known-needed i before starts (AM n) (omega (arith, low))
        (is_needed-modifier (levels_at t i) c of other n low)

    -- the address lines that are meaningful with the cycle's code are known, if it has an address
    known-address : (c : Class) → class_of (levels_at t i) ≡ c → (c ≡ class.I → ⊥) → (c ≡ class.F → ⊥) → (n : ℕ)
        → n < highest_address (modifier_of (levels_at t i)) → known t (address_line n) i ≡ true
    known-address c of other free n low = let top = highest_address-bound (modifier_of (levels_at t i)) in
        known-needed i before starts (address_line n) (omega (arith, low, top)) (is_needed-address (levels_at t i) c of
        other free n low)

    -- A01 to A03 are known, if the cycle is an interrupt acknowledge
    known-level : class_of (levels_at t i) ≡ class.I → (n : ℕ) → n < 3 → known t (address_line n) i ≡ true
    known-level of n low = known-needed i before starts (address_line n) (omega (arith, low))
        (is_needed-level (levels_at t i) of n low)

    -- the lines of the cycle's modifier show its code, if it is no interrupt acknowledge
    ShowNumber-modifier : (c : Class) → class_of (levels_at t i) ≡ c → (c ≡ class.I → ⊥) → ShowNumber t (λ n. AM n) 6 i
        (modifier_of (levels_at t i))
    ShowNumber-modifier c of other =
        subst (λ (x : ℕ). ShowNumber t (λ n. AM n) 6 i x) (sym (modifier_of-value (levels_at t i)))
        (ShowNumber-known t i (λ n. AM n) 6 (known-modifier c of other))

    -- known address lines show the half of the address
    ShowNumber-half_address : (count : ℕ) → ((n : ℕ) → n < count → known t (address_line n) i ≡ true)
        → ShowNumber t (λ n. address_line n) count i (address_to (levels_at t i) count / 2)
    ShowNumber-half_address count k = subst (λ (x : ℕ). ShowNumber t (λ n. address_line n) count i x)
        (sym (div-twice (address_to (levels_at t i) count)
        (value (λ n. is_high_on (levels_at t i) (address_line n)) count)
        (address_to-value (levels_at t i) count))) (ShowNumber-known t i (λ n. address_line n) count k)

    -- known address lines show the half of the address, and the address is even
    ShowNumber-address : (count : ℕ) → ((n : ℕ) → n < count → known t (address_line n) i ≡ true)
        → (address_to (levels_at t i) count % 2 ≡ 0) × ShowNumber t (λ n. address_line n) count i
        (address_to (levels_at t i) count / 2)
    ShowNumber-address count k = (
      mod-twice (address_to (levels_at t i) count)
          (value (λ n. is_high_on (levels_at t i) (address_line n)) count) (address_to-value (levels_at t i) count),
      ShowNumber-half_address count k,
    )

    -- the row of the cycle has the code that the lines show
    ShowsModifier-cycle_row : (c : Class) → class_of (levels_at t i) ≡ c
        → ShowsModifier t (cycle_row i (levels_at t i) e c)
    ShowsModifier-cycle_row class.S of = ShowNumber-modifier class.S of (λ h. absurd (cc))
    ShowsModifier-cycle_row class.K of = ShowNumber-modifier class.K of (λ h. absurd (cc))
    ShowsModifier-cycle_row class.F of = ShowNumber-modifier class.F of (λ h. absurd (cc))
    ShowsModifier-cycle_row class.I of = tt

    -- the row of the cycle has the address or the level that the lines show
    ShowsAddress-cycle_row : (c : Class) → class_of (levels_at t i) ≡ c
        → ShowsAddress t (cycle_row i (levels_at t i) e c)
    ShowsAddress-cycle_row class.S of = ShowNumber-address (highest_address (modifier_of (levels_at t i)))
        (known-address class.S of (λ h. absurd (cc)) (λ h. absurd (cc)))
    ShowsAddress-cycle_row class.K of = ShowNumber-address (highest_address (modifier_of (levels_at t i)))
        (known-address class.K of (λ h. absurd (cc)) (λ h. absurd (cc)))
    ShowsAddress-cycle_row class.F of = tt
    ShowsAddress-cycle_row class.I of = ShowNumber-half_address 3 (known-level of)

    -- the modifier is known, if the class is F
    has_known_modifier-free : class_of (levels_at t i) ≡ class.F → has_known_modifier (levels_at t i) ≡ true
    unfolding known
    has_known_modifier-free of = ap not (fails-any (λ n. not (is_modifier_bit_known (levels_at t i) n)) 0 6
        (λ n from low. ap not (known-modifier class.F of (λ h. absurd (cc)) n low)))

    -- the row of the cycle has the class of its code
    IsOfItsCode-cycle_row : (c : Class) → class_of (levels_at t i) ≡ c → IsOfItsCode (cycle_row i (levels_at t i) e c)
    IsOfItsCode-cycle_row class.S of = class_of-single (levels_at t i) of
    IsOfItsCode-cycle_row class.K of = class_of-block (levels_at t i) of
    IsOfItsCode-cycle_row class.F of = class_of-free (levels_at t i) (has_known_modifier-free of) of
    IsOfItsCode-cycle_row class.I of = tt

  -- P holds of all rows, where it holds of the rows of cycles, and of each row of another kind
  All-by_cycle_rows : (P : Row → Type 0) → ((i : ℕ) → i < end → cycle_starts t stretch i ≡ true
      → P (cycle_row i (levels_at t i) (least (rises t AS) (i + 1) end) (class_of (levels_at t i))))
      → ((i : ℕ) (e : Option ℕ) → P (OpenTenure i e)) → ((i level slot : ℕ) (e : Option ℕ) → P (Tenure i level slot e))
      → ((d : Direction) (line : AnswerLine) (i cycle r : ℕ) (e : Option ℕ) (lanes : Option Lanes)
      → P (Transfer d line i cycle r e lanes)) → ((i : ℕ) (d : Direction) → P (PendingTransfer i d))
      → All P (rows_before t stretch end end)
  All-by_cycle_rows P cycles opened tenures answered pending = All-rows_before P t stretch end
      (λ i before. All-tenure_rows P t stretch end i (λ e. opened i e)
      (λ starts level slot e l s. tenures i level slot e))
      (λ i before. All-cycle_rows_start P t stretch end i (λ starts. cycles i before starts))
      (All-transfer_rows_any P t stretch end answered pending)
      end (omega arith)

  -- each row of a cycle has the modifier code that the lines show
  pub All-ShowsModifier : All (ShowsModifier t) (rows_before t stretch end end)
  All-ShowsModifier = All-by_cycle_rows (ShowsModifier t) (λ i before starts. ShowsModifier-cycle_row i before starts
      (least (rises t AS) (i + 1) end) (class_of (levels_at t i)) refl) (λ i e. tt) (λ i l s e. tt)
      (λ d l i c r e x. tt) (λ i d. tt)

  -- each row of a cycle has the address or the level that the lines show
  pub All-ShowsAddress : All (ShowsAddress t) (rows_before t stretch end end)
  All-ShowsAddress = All-by_cycle_rows (ShowsAddress t) (λ i before starts. ShowsAddress-cycle_row i before starts
      (least (rises t AS) (i + 1) end) (class_of (levels_at t i)) refl) (λ i e. tt) (λ i l s e. tt)
      (λ d l i c r e x. tt) (λ i d. tt)

  -- each row of a cycle has the class of its code
  pub All-IsOfItsCode : All IsOfItsCode (rows_before t stretch end end)
  All-IsOfItsCode = All-by_cycle_rows IsOfItsCode (λ i before starts. IsOfItsCode-cycle_row i before starts
      (least (rises t AS) (i + 1) end) (class_of (levels_at t i)) refl) (λ i e. tt) (λ i l s e. tt)
      (λ d l i c r e x. tt) (λ i d. tt)
