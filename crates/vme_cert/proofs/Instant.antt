-- The grant that a tenure takes, and the lines that are known within a stretch.
use Rattle.std.proofs.Common.{◌≡◌, ℕ, ◌-◌, not, refl, ap, Bool, true, false, ◌∙◌, ◌+◌, ◌<◌, ◌≤◌, sym, arith, inl}
use Rattle.std.proofs.Common.{inr, ◌⊎◌, ◌&&◌}
use Rattle.std.specs.Prelude.{None, is_some, Option, Some, option_map, unwrap_or, nat_lt}
use Rattle.std.proofs.lemmas.Bool.{ltb-true, and_parts}
use Rattle.std.proofs.Math.Bool.{or-false, or-true}
use Rattle.vme_trace.proofs.Ranges.{any-holds, fails-any, least-found, least-none-any, any-fails}
use Rattle.vme_trace.proofs.Ranges.{any-past, is_some-least}
use Rattle.vme_trace.proofs.JudgedStretches.{stretch_unlost, stretch_unreset}
use Rattle.vme_cert.specs.Vocabulary.{AS, IsStretchOf, Stretch, Trace, any, every, falls, grant, greatest, has_edge}
use Rattle.vme_cert.specs.Vocabulary.{has_reached, high, is_control, is_granting, is_judged, is_known_on, is_lost}
use Rattle.vme_cert.specs.Vocabulary.{is_reset, is_reset_at, known, least, levels_at, line_count, loses_control}
use Rattle.vme_cert.specs.Vocabulary.{loses_control_at, low, near, rises, taken_grant, tenure_level, tenure_slot}
use Rattle.vme_cert.proofs.Ranges.{greatest-is, by_either_value}

-- for what a line shows by the levels that a `Bus` keeps: to unfold this is to unfold each of these names
unfoldable pub shown : Trace → ℕ → ℕ → Bool
unfolding falls has_edge high known low rises
shown t l i = falls t l i

-- ---- The grant that a tenure takes.

-- a grant is given at an instant exactly if one of the four levels has a grant that is low there
is_granting-any : (t : Trace) (i : ℕ) → any (λ n. low t (grant n 0) i) 0 4 ≡ is_granting t i
unfolding is_granting
is_granting-any t i = refl

-- a tenure takes the grant of its instant, if there is one
pub taken_grant-now : (t : Trace) (j : ℕ) → is_granting t j ≡ true → taken_grant t j ≡ j
unfolding taken_grant
taken_grant-now t j e = rw e refl

-- a tenure takes the grant of the instant before, if there is none at its instant
pub taken_grant-before : (t : Trace) (j : ℕ) → is_granting t j ≡ false → taken_grant t j ≡ j - 1
unfolding taken_grant
taken_grant-before t j e = rw e refl

-- a tenure has a level exactly if one is granted at the instant or at the one before
pub tenure_level-near_grant : (t : Trace) (j : ℕ) → is_some (tenure_level t j) ≡ near (is_granting t) j
unfolding tenure_level
tenure_level-near_grant t j = is_some-least (λ n. low t (grant n 0) (taken_grant t j)) 0 4
    ∙ (is_granting-any t (taken_grant t j) ∙ by_either_value (is_granting t j)
    (λ e. rw (taken_grant-now t j e, e) (sym (or-true (is_granting t (j - 1)))))
    (λ e. rw (taken_grant-before t j e, e) (sym (or-false (is_granting t (j - 1))))))

-- for the goals of the grant that a tenure takes
pub ruleset grants = (taken_grant-now, taken_grant-before)

-- ---- The request lines and the nets of a grant chain that a backplane has, and how far a grant has come.

-- a positive number is 1 more than the one before
suc-of_pred : (k : ℕ) → 0 < k → k - 1 + 1 ≡ k
suc-of_pred k h = omega arith

-- a positive number is 1 and the one before
one_plus-pred : (k : ℕ) → 0 < k → 1 + (k - 1) ≡ k
one_plus-pred k h = omega arith

-- a number is 0 or positive
zero-or_positive : (k : ℕ) → (k ≡ 0) ⊎ (0 < k)
zero-or_positive k = grind arith

-- a test doesn't both hold and fail
true-not_false : (a : Bool) → a ≡ true → not a ≡ true → ⊥
true-not_false true h k = cc
true-not_false false h k = cc

-- a grant has come as far as the net before the first that isn't low
pub greatest-reached : (p : ℕ → Bool) (n : ℕ) → 0 < n → p 0 ≡ true
    → option_map (λ k. 1 + k) (greatest (λ k. every p 0 (k + 1)) 0
    n) ≡ Some (unwrap_or (least (λ k. not (p k)) 0 n) n)
greatest-reached p n some low = by_least (least (λ k. not (p k)) 0 n) refl
  where
    -- if `p` holds of all numbers below m, and from m on of none together with all before it, m - 1 is the last number
    -- up to which it holds
    greatest-before_first : (m : ℕ) → 0 < m → m ≤ n → any (λ k. not (p k)) 0 m ≡ false
        → any (λ k. every p 0 (k + 1)) (m - 1 + 1) n
        ≡ false → greatest (λ k. every p 0 (k + 1)) 0 n ≡ Some (m - 1)
    greatest-before_first m above within so_far rest =
        greatest-is (λ k. every p 0 (k + 1)) 0 n (m - 1) (omega arith) (omega arith)
        (ap (λ k. not (any (λ i. not (p i)) 0 k)) (suc-of_pred m above) ∙ ap not so_far) rest

    -- by the first number of which `p` doesn't hold, if there is one
    by_least : (o : Option ℕ) → least (λ k. not (p k)) 0 n ≡ o → option_map (λ k. 1 + k)
        (greatest (λ k. every p 0 (k + 1)) 0 n) ≡ Some (unwrap_or (least (λ k. not (p k)) 0 n) n)
    by_least None e =
        let none = least-none-any (λ k. not (p k)) 0 n e in
        rw (
          e,
          greatest-before_first n some (omega arith) none
              (any-past (λ k. every p 0 (k + 1)) (n - 1 + 1) n (omega arith)),
        )
        (ap (λ k. Some k) (one_plus-pred n some))
    by_least (Some m) e =
        let found = least-found (λ k. not (p k)) 0 n m e in
        elim (zero-or_positive m) [
          | inl first ↦ absurd (true-not_false (p 0) low (ap (λ k. not (p k)) (sym first) ∙ found.holds))
          | inr above ↦
              rw (
                e,
                greatest-before_first m above (omega (arith, found.below)) found.least
                    (fails-any (λ k. every p 0 (k + 1)) (m - 1 + 1) n
                    (λ k a b. ap not (any-holds (λ i. not (p i)) 0 (k + 1) m (omega arith) (omega (arith, above))
                    found.holds))),
              )
              (ap (λ k. Some k) (one_plus-pred m above))
        ]

module _ (t : Trace) (j level : ℕ) (is : tenure_level t j ≡ Some level) where
  -- the net k of the grant chain of this level is low at the instant of the grant
  abbrev pub passes : ℕ → Bool
  passes k = low t (grant level k) (taken_grant t j)

  -- the first net is low
  passes-first : passes 0 ≡ true
  unfolding tenure_level
  passes-first = (least-found (λ n. low t (grant n 0) (taken_grant t j)) 0 4 level is).holds

  -- the slot that takes the grant drives the first net that isn't low
  pub tenure_slot-reached : (past : ℕ) (first : Option ℕ) → past ≡ t.opening.slots + 1 → first
      ≡ least (λ k. not (passes k)) 0
      past → Some (unwrap_or first past) ≡ tenure_slot t j
  unfolding tenure_slot has_reached
  tenure_slot-reached past first e f =
      rw (is, sym e, greatest-reached passes past (omega arith) passes-first, f) refl

-- ---- Within a stretch every control line is known.

module _ (t : Trace) (stretch : Stretch) (is : IsStretchOf t stretch) (j : ℕ)
    (judged : is_judged stretch j ≡ true) where
  -- the instant is after the start of the stretch
  after_start : stretch.start < j
  after_start = ltb-true stretch.start j (and_parts (nat_lt stretch.start j) (nat_lt j stretch.end) judged).0

  -- the instant is before the end of the stretch
  before_end : j < stretch.end
  before_end = ltb-true j stretch.end (and_parts (nat_lt stretch.start j) (nat_lt j stretch.end) judged).1

  -- no control line is lost at the instant
  is_lost-none : (l : ℕ) → l < line_count → is_lost (levels_at t j) l ≡ false
  unfolding loses_control_at loses_control
  is_lost-none l below = any-fails (is_lost (levels_at t j)) 0 line_count l
      (stretch_unlost t stretch j is (omega (arith, after_start)) before_end) (omega arith) below

  -- there is no reset at the instant
  is_reset-not : is_reset (levels_at t j) ≡ false
  unfolding is_reset_at
  is_reset-not = stretch_unreset t stretch j is (omega (arith, after_start)) before_end

  -- each control line is known at the instant
  pub known-control_line : (l : ℕ) → l < line_count → is_control (levels_at t j).slots l ≡ true → known t l j ≡ true
  unfolding known
  known-control_line l below control = by_either_value (is_known_on (levels_at t j) l) (λ e. e)
      (λ e. let lost : (true && not false && not false) ≡ false =
      rw (control, e, is_reset-not) at (is_lost-none l below) in
      absurd (cc))

  -- AS is known at the instant
  pub known-AS : known t AS j ≡ true
  known-AS = known-control_line AS (omega arith) refl
