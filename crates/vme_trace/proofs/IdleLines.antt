-- A bus is idle just if each range of lines that its backplane has is idle (`idle_by_ranges`).
use Rattle.std.proofs.Common.{◌≡◌, ℕ, ◌+◌, ◌*◌, ◌<◌, ◌≤◌, Bool, true, false, ◌&&◌, not, refl, ◌∙◌, arith, cond}
use Rattle.std.specs.Prelude.{◌-◌}
use Rattle.std.proofs.lemmas.Bool.Decides.{nat_tests}
use Rattle.vme_trace.specs.Instants.{every}
use Rattle.vme_trace.specs.LineNumbers.{is_control}
use Rattle.vme_trace.specs.Levels.{Levels, rests_high, is_idle, is_idle_on, is_high_on, is_known_on, idle_by_ranges}
use Rattle.vme_trace.proofs.Ranges.{every-split, every-alike, every-holds}

-- a control line that rests high is idle just if it is high; `control` and `strict` say that it is such a line, h
-- whether it is high, k whether it is known
is_idle_on-high : (control strict h k : Bool) → control ≡ true → strict ≡ true
    → cond (not control) true (cond strict h k)
    ≡ h
is_idle_on-high control strict h k a b = rw (a, b) refl

-- a control line that needn't rest high is idle just if it is known
is_idle_on-known : (control strict h k : Bool) → control ≡ true → strict ≡ false
    → cond (not control) true (cond strict h k)
    ≡ k
is_idle_on-known control strict h k a b = rw (a, b) refl

-- a line that is no control line is always idle
is_idle_on-no_control : (control strict h k : Bool) → control ≡ false → cond (not control) true (cond strict h k) ≡ true
is_idle_on-no_control control strict h k a = rw a refl

-- the lines below 6 are control lines
is_control-first : (s l : ℕ) → l < 6 → is_control s l ≡ true
is_control-first s l h = grind (arith, nat_tests)

-- the lines from 45 to 49 are control lines
is_control-requests : (s l : ℕ) → 45 ≤ l → l < 50 → is_control s l ≡ true
is_control-requests s l a b = grind (arith, nat_tests)

-- the lines from 6 to 44 are no control lines
is_control-none_of_others : (s l : ℕ) → 6 ≤ l → l < 45 → is_control s l ≡ false
is_control-none_of_others s l a b = grind (arith, nat_tests)

-- the grant nets of a level, one for each slot and one more, are control lines
is_control-grants : (s l n k : ℕ) → n < 4 → k ≤ s → s ≤ 21 → l ≡ 50 + 22 * n + k → is_control s l ≡ true
is_control-grants s l n k level place few e = grind (arith, nat_tests)

-- the grant nets past those of the slots are no control lines
is_control-no_grant_past_slots : (s l n k : ℕ) → n < 4 → s < k → k < 22 → l ≡ 50 + 22 * n + k → is_control s l ≡ false
is_control-no_grant_past_slots s l n k level place few e = grind (arith, nat_tests)

-- the nets of the acknowledge chain, one for each slot, are control lines
is_control-acknowledges : (s l : ℕ) → s ≤ 21 → 138 ≤ l → l ≤ 137 + s → is_control s l ≡ true
is_control-acknowledges s l few a b = grind (arith, nat_tests)

-- the lines past the nets of the acknowledge chain, up to the data lines, are no control lines
is_control-no_acknowledge_past_slots : (s l : ℕ) → 138 ≤ l → 137 + s < l → l < 191 → is_control s l ≡ false
is_control-no_acknowledge_past_slots s l a b c = grind (arith, nat_tests)

-- SYSRESET*, line 191, is a control line
is_control-SYSRESET : (s l : ℕ) → 191 ≤ l → l < 192 → is_control s l ≡ true
is_control-SYSRESET s l a b = grind (arith, nat_tests)

-- the lines below 5 rest high
rests_high-first : (l : ℕ) → l < 5 → rests_high l ≡ true
rests_high-first l h = grind (arith, nat_tests)

-- the nets of the daisy chains rest high
rests_high-chains : (l : ℕ) → 50 ≤ l → l < 159 → rests_high l ≡ true
rests_high-chains l h b = grind (arith, nat_tests)

-- SYSRESET* rests high
rests_high-SYSRESET : (l : ℕ) → 191 ≤ l → l < 192 → rests_high l ≡ true
rests_high-SYSRESET l a b = grind (arith, nat_tests)

-- the lines from 5 to 49 needn't rest high
rests_high-not_requests : (l : ℕ) → 5 ≤ l → l < 50 → rests_high l ≡ false
rests_high-not_requests l a b = grind (arith, nat_tests)

-- the tests of the ranges, one inside the other, are one conjunction
and-regrouped : (a b c d e f g h i : Bool) → (a && (b && (true && (c && (d && (e && (f && (g && (h && i)))))))))
    ≡ (a && b && c && d && e && f && g && h && i)
and-regrouped a b c d e f g h i = grind (arith, nat_tests)

module _ (v : Levels) (least : 1 ≤ v.slots) (few : v.slots ≤ 21) where
  -- the lines below 5 are idle just if they are high
  every_idle-strobes : every (is_idle_on v) 0 5 ≡ every (is_high_on v) 0 5
  every_idle-strobes = every-alike (is_idle_on v) (is_high_on v) 0 5
      (λ l a b. is_idle_on-high _ _ _ _ (is_control-first v.slots l (omega arith)) (rests_high-first l b))

  -- line 5 is idle just if it is known
  every_idle-IACK : every (is_idle_on v) 5 6 ≡ every (is_known_on v) 5 6
  every_idle-IACK = every-alike (is_idle_on v) (is_known_on v) 5 6
      (λ l a b. is_idle_on-known _ _ _ _ (is_control-first v.slots l b)
      (rests_high-not_requests l a (omega arith)))

  -- the lines from 6 to 44 are always idle
  every_idle-others : every (is_idle_on v) 6 45 ≡ true
  every_idle-others = every-holds (is_idle_on v) 6 45 (λ l a b. is_idle_on-no_control (is_control v.slots l)
      (rests_high l) (is_high_on v l)
      (is_known_on v l) (is_control-none_of_others v.slots l a b))

  -- the lines from 45 to 49 are idle just if they are known
  every_idle-requests : every (is_idle_on v) 45 50 ≡ every (is_known_on v) 45 50
  every_idle-requests = every-alike (is_idle_on v) (is_known_on v) 45 50
      (λ l a b. is_idle_on-known _ _ _ _ (is_control-requests v.slots l a b)
      (rests_high-not_requests l (omega arith) b))

  -- the grant nets of a level are idle just if they are high
  every_idle-grants : (n first end : ℕ) → n < 4 → first ≡ 50 + 22 * n → end ≡ first + v.slots + 1
      → every (is_idle_on v) first
      end ≡ every (is_high_on v) first end
  every_idle-grants n first end level e h = every-alike (is_idle_on v) (is_high_on v) first end
      (λ l a b. is_idle_on-high _ _ _ _ (is_control-grants v.slots l n (l - first) level (omega arith) few
      (omega arith))
      (rests_high-chains l (omega arith) (omega arith)))

  -- the grant nets past those of the slots are always idle
  every_idle-past_grants : (n first end next : ℕ) → n < 4 → first ≡ 50 + 22 * n → end ≡ first + v.slots + 1 → next
      ≡ first + 22
      → every (is_idle_on v) end next ≡ true
  every_idle-past_grants n first end next level e h k = every-holds (is_idle_on v) end next
      (λ l a b. is_idle_on-no_control (is_control v.slots l)
      (rests_high l) (is_high_on v l) (is_known_on v l) (is_control-no_grant_past_slots v.slots l n (l - first) level
      (omega arith)
      (omega arith) (omega arith)))

  -- the nets of the acknowledge chain are idle just if they are high
  every_idle-acknowledges : every (is_idle_on v) 138 (137 + v.slots + 1) ≡ every (is_high_on v) 138 (137 + v.slots + 1)
  every_idle-acknowledges = every-alike (is_idle_on v) (is_high_on v) 138 (137 + v.slots + 1)
      (λ l a b. is_idle_on-high _ _ _ _ (is_control-acknowledges v.slots l few a (omega arith))
      (rests_high-chains l (omega arith) (omega arith)))

  -- the lines past the acknowledge chain, up to the data lines, are always idle
  every_idle-past_acknowledges : every (is_idle_on v) (137 + v.slots + 1) 191 ≡ true
  every_idle-past_acknowledges = every-holds (is_idle_on v)
      (137 + v.slots + 1) 191 (λ l a b. is_idle_on-no_control (is_control v.slots l)
      (rests_high l) (is_high_on v l) (is_known_on v l) (is_control-no_acknowledge_past_slots v.slots l (omega arith)
      (omega arith) b))

  -- SYSRESET* is idle just if it is high
  every_idle-SYSRESET : every (is_idle_on v) 191 192 ≡ every (is_high_on v) 191 192
  every_idle-SYSRESET = every-alike (is_idle_on v) (is_high_on v) 191 192
      (λ l a b. is_idle_on-high _ _ _ _ (is_control-SYSRESET v.slots l a b) (rests_high-SYSRESET l a b))

  -- the lines past the acknowledge chain are idle just if SYSRESET* is high
  every_idle-last : every (is_idle_on v) (137 + v.slots + 1) 192 ≡ every (is_high_on v) 191 192
  every_idle-last = every-split (is_idle_on v) (137 + v.slots + 1) 191 192 (omega arith) (omega arith)
      ∙ rw (every_idle-past_acknowledges, every_idle-SYSRESET) refl

  -- `is_idle_on` holds of all lines from a level's first grant net on just if the nets that exist are high, and it
  -- holds of all lines after the level's nets
  every_idle-level : (n first end next : ℕ) → n < 4 → first ≡ 50 + 22 * n → end ≡ first + v.slots + 1 → next
      ≡ first + 22
      → every (is_idle_on v) first 192 ≡ (every (is_high_on v) first end && every (is_idle_on v) next 192)
  every_idle-level n first end next level e h k =
      every-split (is_idle_on v) first end 192 (omega arith) (omega arith)
      ∙ rw (
        every-split (is_idle_on v) end next 192 (omega arith) (omega arith),
        every_idle-grants n first end level e h,
        every_idle-past_grants n first end next level e h k,
      ) refl

  -- an idle bus is one on which each range is idle
  pub is_idle-ranges : is_idle v ≡ idle_by_ranges v
  unfolding is_idle
  is_idle-ranges =
      every-split (is_idle_on v) 0 5 192 (omega arith) (omega arith)
      ∙ rw (
        every_idle-strobes,
        every-split (is_idle_on v) 5 6 192 (omega arith) (omega arith),
        every_idle-IACK,
        every-split (is_idle_on v) 6 45 192 (omega arith) (omega arith),
        every_idle-others,
        every-split (is_idle_on v) 45 50
            192 (omega arith) (omega arith),
        every_idle-requests,
      )
      (rw (
        every_idle-level 0 50 (50 + v.slots + 1) 72 (omega arith) (omega arith) (omega arith) (omega arith),
        every_idle-level 1 72 (72 + v.slots + 1) 94 (omega arith) (omega arith) (omega arith) (omega arith),
        every_idle-level 2 94
            (94 + v.slots + 1) 116 (omega arith) (omega arith) (omega arith) (omega arith),
        every_idle-level 3 116
            (116 + v.slots + 1) 138 (omega arith) (omega arith) (omega arith) (omega arith),
        every-split (is_idle_on v) 138
            (137 + v.slots + 1) 192 (omega arith) (omega arith),
        every_idle-acknowledges,
        every_idle-last,
      )
      (and-regrouped (every (is_high_on v) 0 5) (every (is_known_on v) 5 6) (every (is_known_on v) 45 50)
      (every (is_high_on v) 50 (50 + v.slots + 1)) (every (is_high_on v) 72 (72 + v.slots + 1))
      (every (is_high_on v) 94 (94 + v.slots + 1)) (every (is_high_on v) 116 (116 + v.slots + 1))
      (every (is_high_on v) 138 (137 + v.slots + 1)) (every (is_high_on v) 191 192)))
