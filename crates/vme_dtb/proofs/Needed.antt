-- Which lines a cycle needs: they are among those from IACK* to A31, and levels that agree on them need the same ones.
use Rattle.std.proofs.Common.{◌≡◌, ℕ, ◌+◌, ◌<◌, ◌≤◌, Bool, true, false, ◌||◌, ◌&&◌, not, refl, ◌∙◌, ap, arith, lit≤}
use Rattle.std.specs.Prelude.{◌==◌, nat_le, if◌then◌else◌}
use Rattle.std.proofs.lemmas.Bool.Decides.{nat_tests}
use Rattle.vme_trace.specs.LineNumbers.{AM, IACK}
use Rattle.vme_trace.specs.Levels.{Levels, level_at, is_low, is_known}
use Rattle.vme_trace.specs.Cycle.{Needs, is_within, needs_of, class_of, modifier_of, modifier_bit, highest_address}
use Rattle.vme_trace.specs.Cycle.{has_known_modifier, is_modifier_bit_known, is_block}
use Rattle.vme_trace.specs.declared.class.Class.{Class}
use Rattle.vme_trace.specs.declared.class.Class.TheVariants as class
use Rattle.vme_trace.proofs.Ranges.{clash, every-alike}
use Rattle.vme_trace.proofs.HighestAddress.{highest_address-bound}

-- the highest address line that a cycle needs is at most A31
needs_of-highest : (v : Levels) (c : Class) → class_of v ≡ c → (needs_of v).highest ≤ 31
unfolding needs_of
needs_of-highest v class.I e = rw e (lit≤ tt)
needs_of-highest v class.F e = rw e (lit≤ tt)
needs_of-highest v class.S e = rw e (highest_address-bound (modifier_of v))
needs_of-highest v class.K e = rw e (highest_address-bound (modifier_of v))

-- a needed line is below 45, one after A31
is_within-below : (needs : Needs) (l : ℕ) → needs.highest ≤ 31 → is_within needs l ≡ true → l < 45
is_within-below needs l h k = below needs.modifier needs.highest l h k
  where
    below : (m : Bool) (h l : ℕ) → h ≤ 31 → ((l == 5) || (m && ((nat_le 6 l && nat_le l 11) || (l == 12))) ||
        (nat_le 14 l && nat_le l (13 + h))) ≡ true → l < 45
    below m h l few k = grind (arith, nat_tests)

-- a needed line is from 5 on, IACK*
is_within-above : (needs : Needs) (l : ℕ) → is_within needs l ≡ true → 5 ≤ l
is_within-above needs l k = above needs.modifier needs.highest l k
  where
    above : (m : Bool) (h l : ℕ) → ((l == 5) || (m && ((nat_le 6 l && nat_le l 11) || (l == 12))) ||
        (nat_le 14 l && nat_le l (13 + h))) ≡ true → 5 ≤ l
    above m h l k = grind (arith, nat_tests)

-- each line that a cycle needs is below 45
pub needs_of-below : (v : Levels) (l : ℕ) → is_within (needs_of v) l ≡ true → l < 45
needs_of-below v l h = is_within-below (needs_of v) l (needs_of-highest v (class_of v) refl) h

-- each line that a cycle needs is from 5 on
pub needs_of-above : (v : Levels) (l : ℕ) → is_within (needs_of v) l ≡ true → 5 ≤ l
needs_of-above v l h = is_within-above (needs_of v) l h

-- IACK* is needed by every cycle
pub needs_of-IACK : (v : Levels) → is_within (needs_of v) IACK ≡ true
needs_of-IACK v = refl

-- a cycle of a class other than I needs the address modifier
needs_of-modifier : (v : Levels) (c : Class) → class_of v ≡ c → (c ≡ class.I → ⊥) → (needs_of v).modifier ≡ true
unfolding needs_of
needs_of-modifier v class.I e not_I = absurd (not_I refl)
needs_of-modifier v class.F e not_I = rw e refl
needs_of-modifier v class.S e not_I = rw e refl
needs_of-modifier v class.K e not_I = rw e refl

-- the class is I, that of an interrupt acknowledge
abbrev is_interrupting : Class → Bool
is_interrupting class.I = true
is_interrupting class.S = false
is_interrupting class.K = false
is_interrupting class.F = false

-- if IACK* isn't low, the class isn't I
is_interrupting-not : (v : Levels) → is_low (level_at v IACK) ≡ false → is_interrupting (class_of v) ≡ false
unfolding class_of
is_interrupting-not v h = rw h (by_tests (not (has_known_modifier v)) (is_block (modifier_of v))
    (highest_address (modifier_of v) == 0))
  where
    by_tests : (a b c : Bool) → is_interrupting (if a then class.F else if b then class.K else if c then class.F else
        class.S) ≡ false
    by_tests true b c = refl
    by_tests false true c = refl
    by_tests false false true = refl
    by_tests false false false = refl

-- a cycle that is no interrupt acknowledge needs the address modifier
needs_of-modifier_unless_interrupt : (v : Levels) → is_low (level_at v IACK) ≡ false → (needs_of v).modifier ≡ true
needs_of-modifier_unless_interrupt v h = needs_of-modifier v (class_of v) refl
    (λ e. clash (is_interrupting (class_of v)) (ap is_interrupting e)
    (is_interrupting-not v h))

-- if the address modifier is needed, each of its six lines is
is_within-modifier : (needs : Needs) (b : ℕ) → needs.modifier ≡ true → b < 6 → is_within needs (AM b) ≡ true
is_within-modifier needs b h few = within needs.modifier needs.highest b h few
  where
    within : (m : Bool) (h b : ℕ) → m ≡ true → b < 6
        → ((6 + b == 5) || (m && ((nat_le 6 (6 + b) && nat_le (6 + b) 11) || (6 + b == 12))) || (nat_le 14 (6 + b)
        && nat_le (6 + b) (13 + h))) ≡ true
    within m h b e few = grind (arith, nat_tests)

-- if IACK* isn't low, a cycle needs each line of the address modifier
pub needs_of-modifier_line : (v : Levels) (b : ℕ) → is_low (level_at v IACK) ≡ false → b < 6
    → is_within (needs_of v) (AM b)
    ≡ true
needs_of-modifier_line v b h few = is_within-modifier (needs_of v) b (needs_of-modifier_unless_interrupt v h) few

module _ (v w : Levels) where
  -- levels that agree on the address modifier have one code
  module _ (alike : (b : ℕ) → b < 6 → level_at w (AM b) ≡ level_at v (AM b)) where
    -- a bit of the code is the same in levels that agree on the address modifier
    modifier_bit-same : (b : ℕ) → b < 6 → modifier_bit w b ≡ modifier_bit v b
    modifier_bit-same b h = rw (alike b h) refl

    -- the code is the same in levels that agree on the address modifier
    modifier_of-same : modifier_of w ≡ modifier_of v
    unfolding modifier_of
    modifier_of-same =
        rw (
          modifier_bit-same 0 (omega arith),
          modifier_bit-same 1 (omega arith),
          modifier_bit-same 2 (omega arith),
          modifier_bit-same 3 (omega arith),
          modifier_bit-same 4 (omega arith),
          modifier_bit-same 5 (omega arith),
        ) refl

    -- the code is known in both or in neither of two levels that agree on the address modifier
    has_known_modifier-same : has_known_modifier w ≡ has_known_modifier v
    has_known_modifier-same = every-alike (is_modifier_bit_known w) (is_modifier_bit_known v) 0 6
        (λ b from few. ap is_known (alike b few))

  -- if IACK* is low, the class is I
  class_of-interrupt : (u : Levels) → is_low (level_at u IACK) ≡ true → class_of u ≡ class.I
  unfolding class_of
  class_of-interrupt u h = rw h refl

  -- if IACK*, the code and whether it is known are the same, so is the class
  class_of-same : level_at w IACK ≡ level_at v IACK → modifier_of w ≡ modifier_of v → has_known_modifier w
      ≡ has_known_modifier v → class_of w ≡ class_of v
  unfolding class_of
  class_of-same e code known = rw (e, code, known) refl

  -- interrupt acknowledges need the same lines
  needs_of-same_interrupt : class_of w ≡ class.I → class_of v ≡ class.I → needs_of w ≡ needs_of v
  unfolding needs_of
  needs_of-same_interrupt e h = rw (e, h) refl

  -- cycles of one class with one code need the same lines
  needs_of-same_code : (c : Class) → class_of v ≡ c → class_of w ≡ c → modifier_of w ≡ modifier_of v → needs_of w
      ≡ needs_of v
  unfolding needs_of
  needs_of-same_code class.I e h code = rw (e, h) refl
  needs_of-same_code class.F e h code = rw (e, h) refl
  needs_of-same_code class.S e h code = rw (e, h, code) refl
  needs_of-same_code class.K e h code = rw (e, h, code) refl

  -- if w agrees with v on the lines that v needs, w needs the same lines
  pub needs_of-same : ((l : ℕ) → is_within (needs_of v) l ≡ true → level_at w l ≡ level_at v l) → needs_of w
      ≡ needs_of v
  needs_of-same alike = by_class (is_low (level_at v IACK)) refl
    where
      same_iack : level_at w IACK ≡ level_at v IACK
      same_iack = alike IACK (needs_of-IACK v)

      by_class : (b : Bool) → is_low (level_at v IACK) ≡ b → needs_of w ≡ needs_of v
      by_class true h = needs_of-same_interrupt (class_of-interrupt w (ap is_low same_iack ∙ h))
          (class_of-interrupt v h)
      by_class false h =
          let bits = λ (b : ℕ) (few : b < 6). alike (AM b) (needs_of-modifier_line v b h few) in
          needs_of-same_code (class_of v) refl (class_of-same same_iack (modifier_of-same bits)
          (has_known_modifier-same bits)) (modifier_of-same bits)
