-- Where a stretch ends, which levels are known within it, and what is broken at its end.
use Rattle.std.proofs.Common.{lit<, lit≤, ◌≡◌, ℕ, zero, suc, ◌+◌, ◌<◌, ◌≤◌, Bool, true, false, ◌&&◌, not, List}
use Rattle.std.proofs.Common.{refl, sym, ◌∙◌, ap, arith, inl, inr}
use Rattle.std.specs.Prelude.{Option, None, Some, slice_get, ◌==◌, nat_le, unwrap_or}
use Rattle.std.proofs.lemmas.Bool.Decides.{nat_tests}
use Rattle.std.proofs.lemmas.Bool.{and_from, not-false, not-true, or_parts, cases_lt, eq-eqb}
use Rattle.vme_trace.specs.Instants.{any, least}
use Rattle.vme_trace.specs.LineNumbers.{line_count, has_line}
use Rattle.vme_trace.specs.Levels.{Levels, is_idle, is_idle_on, is_lost, loses_control}
use Rattle.vme_trace.specs.Trace.{Trace, levels_at, after, last_instant}
use Rattle.vme_trace.specs.Signals.{high, known}
use Rattle.vme_trace.specs.Judged.{Stretch, stretch_from, stretch_end, is_idle_at, is_reset_at, loses_control_at}
use Rattle.vme_trace.specs.Judged.{stops_at}
use Rattle.vme_trace.specs.Rules.{breaks, is_broken}
use Rattle.vme_trace.specs.Verdict.{break_before}
use Rattle.vme_trace.specs.declared.step.Step.{Step}
use Rattle.vme_trace.specs.declared.rule.Rule.{Rule}
use Rattle.vme_trace.specs.declared.rule.Rule.TheVariants.{U1}
use Rattle.vme_trace.specs.declared.verdict.Break.{Break}
use Rattle.vme_trace.proofs.Ranges.{any-fails, least-is, least-found, least-none-any, clash, next_or_within}
use Rattle.vme_trace.proofs.OpenTransfers.{ReadsStrobes}
use Rattle.vme_trace.proofs.Changing.{slots-kept}

-- suc n is n + 1
suc-is : (n : ℕ) → suc n ≡ n + 1
suc-is n = omega arith

-- where no instant after s up to n ends a stretch that starts at s, its end is after n
pub end-past : (t : Trace) (s n : ℕ) → any (stops_at t) (s + 1) (n + 1) ≡ false → n ≤ last_instant t
    → n < stretch_end t s
unfolding stretch_end
end-past t s n held within = past (least (stops_at t) (s + 1) (last_instant t + 1)) refl
  where
    past : (o : Option ℕ) → least (stops_at t) (s + 1) (last_instant t + 1) ≡ o → n < unwrap_or o (last_instant t + 1)
    past None e = omega arith
    past (Some w) e = let found = least-found (stops_at t) (s + 1) (last_instant t + 1) w e in
        elim (cases_lt n w) [
          | inl below ↦ below
          | inr above ↦ absurd (clash (stops_at t w) found.holds (any-fails (stops_at t) (s + 1) (n + 1) w held
              found.first (omega arith)))
        ]

-- the first instant after s that ends a stretch is the end of the stretch that starts at s
pub end-is : (t : Trace) (s n : ℕ) → any (stops_at t) (s + 1) (n + 1) ≡ false → s ≤ n → n < last_instant t
    → stops_at t (suc n) ≡ true → stretch_end t s ≡ suc n
unfolding stretch_end
end-is t s n held from within stops =
    rw (least-is (stops_at t) (s + 1) (last_instant t + 1) (suc n) (omega arith) (omega arith) stops
    (ap (any (stops_at t) (s + 1)) (suc-is n) ∙ held)) refl

-- a step leaves the number of slots as it is
slots-after : (v : Levels) (step : Option Step) → (after v step).slots ≡ v.slots
slots-after v None = refl
slots-after v (Some step) = slots-kept v step.changes

-- the slots don't change
pub slots_at : (t : Trace) (n : ℕ) → (levels_at t n).slots ≡ t.opening.slots
unfolding levels_at
slots_at t zero = refl
slots_at t (suc n) = slots-after (levels_at t n) (slice_get t.steps n) ∙ slots_at t n

-- a conjunction whose last part is false is false
and-last_false : (a b c d : Bool) → d ≡ false → (a && (b && c && d)) ≡ false
and-last_false a b c d h = grind (arith, nat_tests)

-- the parts of a conjunction that are true can be left out
and-true_tests : (a b c d e f g : Bool) → a ≡ d → b ≡ true → c ≡ true → (a && (b && c && (d && e && f && g)))
    ≡ (d && e && f && g)
and-true_tests a b c true e f g h k m = rw (h, k, m) refl
and-true_tests a b c false e f g h k m = rw h refl

module _ (t : Trace) (s n : ℕ) where
  -- where no control line is lost at n + 1, U1 isn't broken there
  pub u1-unlost : loses_control_at t (suc n) ≡ false → (l : ℕ) → l < line_count
      → breaks t (stretch_from t s) U1 (suc n) l
      ≡ false
  unfolding breaks is_broken loses_control_at loses_control
  u1-unlost held l below = and-last_false (has_line t.opening.slots l) (suc n == stretch_end t s)
      (nat_le (suc n) (last_instant t)) (is_lost (levels_at t (suc n)) l) (any-fails (is_lost (levels_at t (suc n))) 0
      line_count l held (omega arith) below)

  -- at the end of the stretch U1 is broken on exactly the lost lines; where the bus is reset, no line is lost
  pub u1-lost : stretch_end t s ≡ suc n → n < last_instant t → (l : ℕ) → breaks t (stretch_from t s) U1 (suc n) l
      ≡ is_lost (levels_at t (suc n)) l
  unfolding breaks is_broken
  u1-lost ends within l =
      and-true_tests (has_line t.opening.slots l) (suc n == stretch_end t s) (nat_le (suc n) (last_instant t))
      (has_line (levels_at t (suc n)).slots l) _ _ _
      (ap (λ slots. has_line slots l) (sym (slots_at t (suc n)))) (eq-eqb (suc n) (stretch_end t s) (sym ends))
      (le_test n (last_instant t) within)
    where
      le_test : (a b : ℕ) → a < b → nat_le (suc a) b ≡ true
      le_test a b h = grind (arith, nat_tests)

-- within a stretch nothing ends it
stops_at-within : (t : Trace) (s j : ℕ) → s < j → j < stretch_end t s → stops_at t j ≡ false
unfolding stretch_end
stops_at-within t s j after before = by_end (least (stops_at t) (s + 1) (last_instant t + 1)) refl before
  where
    by_end : (o : Option ℕ) → least (stops_at t) (s + 1) (last_instant t + 1) ≡ o → j < unwrap_or o (last_instant t + 1)
        → stops_at t j ≡ false
    by_end None e b = any-fails (stops_at t) (s + 1) (last_instant t + 1) j (least-none-any (stops_at t) (s + 1)
        (last_instant t + 1) e) (omega arith) b
    by_end (Some w) e b = let found = least-found (stops_at t) (s + 1) (last_instant t + 1) w e in
        any-fails (stops_at t) (s + 1) w j found.least (omega arith) b

-- within a stretch no control line is lost
pub not_lost : (t : Trace) (s j : ℕ) → s < j → j < stretch_end t s → loses_control_at t j ≡ false
not_lost t s j after before = (or_parts (is_reset_at t j) (loses_control_at t j) (stops_at-within t s j after before)).1

-- within a stretch the bus isn't reset
pub not_reset : (t : Trace) (s j : ℕ) → s < j → j < stretch_end t s → is_reset_at t j ≡ false
not_reset t s j after before =
    (or_parts (is_reset_at t j) (loses_control_at t j) (stops_at-within t s j after before)).0

-- after an idle instant both strobes are known, in the stretch that starts there
pub reads_strobes : (t : Trace) (s : ℕ) → is_idle_at t s ≡ true → ReadsStrobes t (stretch_from t s)
unfolding is_idle_at is_idle high known is_reset_at loses_control_at loses_control
reads_strobes t s idle = record {
  opens = and_from _ _ (idle_line 1 (lit< tt)) (idle_line 2 (lit< tt));
  first = λ j a b. known_unless _ _ (any-fails (is_lost (levels_at t j)) 0 line_count 1 (not_lost t s j a b) (lit≤ tt)
      (lit< tt)) (not_reset t s j a b);
  second = λ j a b. known_unless _ _ (any-fails (is_lost (levels_at t j)) 0 line_count 2 (not_lost t s j a b) (lit≤ tt)
      (lit< tt)) (not_reset t s j a b);
}
  where
    idle_line : (l : ℕ) → l < line_count → is_idle_on (levels_at t s) l ≡ true
    idle_line l below = not-false _ (any-fails (λ k. not (is_idle_on (levels_at t s) k)) 0 line_count l
        (not-true _ idle) (omega arith) below)

    known_unless : (a b : Bool) → (not a && not b) ≡ false → b ≡ false → a ≡ true
    known_unless true b h k = refl
    known_unless false true h k = absurd (cc)
    known_unless false false h k = absurd (cc)

-- the first break before j is also the first break before a later k
pub break_before-stays : (t : Trace) (stretch : Stretch) (rules : List Rule) (b : Break) (j k : ℕ)
    → break_before t stretch
    rules j ≡ Some b → j ≤ k → break_before t stretch rules k ≡ Some b
unfolding break_before
break_before-stays t stretch rules b j zero first order = let e : j ≡ 0 = omega arith in rw e at first
break_before-stays t stretch rules b j (suc k) first order =
    elim (next_or_within j k order) [
      | inl e ↦ rw e at first
      | inr before ↦ rw (break_before-stays t stretch rules b j k first before) refl
    ]
