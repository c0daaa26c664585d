-- The rank of a stage is the sum of its bits; a bench has seen a number at the latest stage at which it was seen, which
-- never gets earlier.
use Rattle.std.proofs.Common.{◌≡◌, ℕ, zero, suc, ◌+◌, ◌<◌, ◌≤◌, ◌⊎◌, ⊎_elim, inl, inr, max, refl, arith}
use Rattle.std.proofs.Math.Nat.{le-max_left, le-max_right, max-le}
use Rattle.vme_core.specs.Views.{joint_view}
use Rattle.vme_core.proofs.Sums.{occurrences-append}
use Rattle.vme_core.specs.declared.stage.Stage.{Stage}
use Rattle.vme_core.specs.declared.stage.Stage.TheVariants.{Free, Claimed, Filed, Taken}
use Rattle.vme_core.specs.declared.view.View.{View}
use Rattle.vme_core.specs.Counting.{occurrences}
use Rattle.vme_core.specs.Stages.{rank, claimed_bit, filed_bit, taken_bit, stage_of, seen, SeesMore}

-- the rank of the stage is the sum of its three bits, each of which is at most the one before, and `claimed` at most 1
pub record Bits (x : Stage) : Type 0 where
  pub sum : rank x ≡ claimed_bit x + filed_bit x + taken_bit x
  pub filed : filed_bit x ≤ claimed_bit x
  pub taken : taken_bit x ≤ filed_bit x
  pub claimed : claimed_bit x ≤ 1

-- each stage satisfies `Bits`
pub Bits-of : (x : Stage) → Bits x
Bits-of Free = record { sum = omega arith; filed = omega arith; taken = omega arith; claimed = omega arith }
Bits-of Claimed = record { sum = omega arith; filed = omega arith; taken = omega arith; claimed = omega arith }
Bits-of Filed = record { sum = omega arith; filed = omega arith; taken = omega arith; claimed = omega arith }
Bits-of Taken = record { sum = omega arith; filed = omega arith; taken = omega arith; claimed = omega arith }

-- the stage of a number that was seen taken, filed and claimed t, f and c times isn't after the stage x, if what was
-- seen is so at x
pub rank-stage_of : (t f c : ℕ) (x : Stage) → (0 < c → claimed_bit x ≡ 1) → (0 < f → filed_bit x ≡ 1)
    → (0 < t → taken_bit x ≡ 1) → rank (stage_of t f c) ≤ rank x
rank-stage_of (suc t) f c x h_claimed h_filed h_taken = let b = Bits-of x in
    omega (arith, h_taken (omega arith), b.sum, b.filed, b.taken)
rank-stage_of zero (suc f) c x h_claimed h_filed h_taken = let b = Bits-of x in
    omega (arith, h_filed (omega arith), b.sum, b.filed)
rank-stage_of zero zero (suc c) x h_claimed h_filed h_taken = let b = Bits-of x in
    omega (arith, h_claimed (omega arith), b.sum)
rank-stage_of zero zero zero x h_claimed h_filed h_taken = omega arith

-- the stage at which a bench has seen a number, by what it has seen
module _ (v : View) (n : ℕ) where
  -- a number that was seen taken was seen at the stage Taken
  pub seen-Taken : 0 < occurrences n v.taken → seen v n ≡ Taken
  seen-Taken = by_taken (occurrences n v.taken)
    where
      by_taken : (t : ℕ) → 0 < t → stage_of t (occurrences n v.filed) (occurrences n v.claimed) ≡ Taken
      by_taken zero h = absurd (omega arith)
      by_taken (suc t) h = refl

  -- a number that was seen neither claimed nor filed nor taken was seen at the stage Free
  pub seen-Free : occurrences n v.taken ≡ 0 → occurrences n v.filed ≡ 0 → occurrences n v.claimed ≡ 0 → seen v n ≡ Free
  seen-Free = by_free (occurrences n v.taken) (occurrences n v.filed) (occurrences n v.claimed)
    where
      by_free : (t f c : ℕ) → t ≡ 0 → f ≡ 0 → c ≡ 0 → stage_of t f c ≡ Free
      by_free zero zero zero e g h = refl
      by_free (suc t) f c e g h = absurd (omega arith)
      by_free zero (suc f) c e g h = absurd (omega arith)
      by_free zero zero (suc c) e g h = absurd (omega arith)

-- a number that was seen filed was seen at the stage Filed or later
rank-stage_of_filed : (t f c : ℕ) → 0 < f → 2 ≤ rank (stage_of t f c)
rank-stage_of_filed t zero c h = absurd (omega arith)
rank-stage_of_filed zero (suc f) c h = omega arith
rank-stage_of_filed (suc t) (suc f) c h = omega arith

-- a number that was seen claimed was seen at the stage Claimed or later
rank-stage_of_claimed : (t f c : ℕ) → 0 < c → 1 ≤ rank (stage_of t f c)
rank-stage_of_claimed t f zero h = absurd (omega arith)
rank-stage_of_claimed (suc t) f (suc c) h = omega arith
rank-stage_of_claimed zero (suc f) (suc c) h = omega arith
rank-stage_of_claimed zero zero (suc c) h = omega arith

-- a number that was seen taken was seen at the stage Taken
rank-stage_of_taken : (t f c : ℕ) → 0 < t → 3 ≤ rank (stage_of t f c)
rank-stage_of_taken zero f c h = absurd (omega arith)
rank-stage_of_taken (suc t) f c h = omega arith

-- a number that a bench has seen filed was seen at the stage Filed or later
pub rank-seen_filed : (v : View) (n : ℕ) → 0 < occurrences n v.filed → 2 ≤ rank (seen v n)
rank-seen_filed v n = rank-stage_of_filed (occurrences n v.taken) (occurrences n v.filed) (occurrences n v.claimed)

-- a number that a bench has seen claimed was seen at the stage Claimed or later
pub rank-seen_claimed : (v : View) (n : ℕ) → 0 < occurrences n v.claimed → 1 ≤ rank (seen v n)
rank-seen_claimed v n = rank-stage_of_claimed (occurrences n v.taken) (occurrences n v.filed) (occurrences n v.claimed)

-- a number that was seen neither filed nor taken was seen at a stage before Filed
pub rank-seen_not_filed : (v : View) (n : ℕ) → occurrences n v.filed ≡ 0 → occurrences n v.taken ≡ 0 → rank (seen v n)
    < 2
rank-seen_not_filed v n = by_none (occurrences n v.taken) (occurrences n v.filed) (occurrences n v.claimed)
  where
    by_none : (t f c : ℕ) → f ≡ 0 → t ≡ 0 → rank (stage_of t f c) < 2
    by_none (suc t) f c e g = absurd (omega arith)
    by_none zero (suc f) c e g = absurd (omega arith)
    by_none zero zero zero e g = omega arith
    by_none zero zero (suc c) e g = omega arith

-- a number that was seen taken, filed and claimed at least as often was seen at a stage that isn't earlier
rank-stage_of_grows : (t f c t' f' c' : ℕ) → t ≤ t' → f ≤ f' → c ≤ c' → rank (stage_of t f c) ≤ rank (stage_of t' f' c')
rank-stage_of_grows (suc t) f c t' f' c' a b d = rank-stage_of_taken t' f' c' (omega arith)
rank-stage_of_grows zero (suc f) c t' f' c' a b d = rank-stage_of_filed t' f' c' (omega arith)
rank-stage_of_grows zero zero (suc c) t' f' c' a b d = rank-stage_of_claimed t' f' c' (omega arith)
rank-stage_of_grows zero zero zero t' f' c' a b d = omega arith

-- a bench that sees more has seen each number at a stage that isn't earlier
pub rank-seen_grows : (v w : View) (n : ℕ) → SeesMore v w → rank (seen v n) ≤ rank (seen w n)
rank-seen_grows v w n more = rank-stage_of_grows (occurrences n v.taken) (occurrences n v.filed)
    (occurrences n v.claimed)
    (occurrences n w.taken) (occurrences n w.filed) (occurrences n w.claimed) (more.taken n) (more.filed n)
    (more.claimed n)

-- the rank of the stage at which a number was seen is at most k, if k is at least the rank of each stage at which it
-- was seen
rank-stage_of_at_most : (t f c k : ℕ) → (0 < t → 3 ≤ k) → (0 < f → 2 ≤ k) → (0 < c → 1 ≤ k) → rank (stage_of t f c) ≤ k
rank-stage_of_at_most (suc t) f c k a b d = a (omega arith)
rank-stage_of_at_most zero (suc f) c k a b d = b (omega arith)
rank-stage_of_at_most zero zero (suc c) k a b d = d (omega arith)
rank-stage_of_at_most zero zero zero k a b d = omega arith

-- if a sum is positive, one of its two parts is
positive-sum : (a b sum : ℕ) → sum ≡ a + b → 0 < sum → (0 < a) ⊎ (0 < b)
positive-sum zero b sum is some = inr (omega (arith, is, some))
positive-sum (suc a) b sum is some = inl (omega arith)

-- after a join, a number was seen at the later of the stages at which the two benches saw it
pub seen-joint_view : (v w : View) (n : ℕ) → rank (seen (joint_view v w) n) ≡ max (rank (seen v n)) (rank (seen w n))
seen-joint_view v w n =
    let left : SeesMore v (joint_view v w) = record {
      found = λ d. omega (arith, occurrences-append d v.found w.found);
      claimed = λ d. omega (arith, occurrences-append d v.claimed w.claimed);
      filed = λ d. omega
          (arith, occurrences-append d v.filed w.filed);
      taken = λ d. omega (arith, occurrences-append d v.taken w.taken);
    }
    in
    let right : SeesMore w (joint_view v w) = record {
      found = λ d. omega (arith, occurrences-append d v.found w.found);
      claimed = λ d. omega (arith, occurrences-append d v.claimed w.claimed);
      filed = λ d. omega
          (arith, occurrences-append d v.filed w.filed);
      taken = λ d. omega (arith, occurrences-append d v.taken w.taken);
    }
    in
    let k : ℕ = max (rank (seen v n)) (rank (seen w n)) in let a = le-max_left (rank (seen v n)) (rank (seen w n)) in
    let b = le-max_right (rank (seen v n)) (rank (seen w n)) in
    let u : View = joint_view v w in
    let most : rank (seen u n) ≤ k = rank-stage_of_at_most (occurrences n u.taken) (occurrences n u.filed)
    (occurrences n u.claimed) k
    (λ some. ⊎_elim (λ h. omega (
      arith,
      a,
      rank-stage_of_taken (occurrences n v.taken) (occurrences n v.filed)
          (occurrences n v.claimed) h,
    )) (λ h. omega (
      arith,
      b,
      rank-stage_of_taken (occurrences n w.taken) (occurrences n w.filed)
          (occurrences n w.claimed) h,
    )) (positive-sum (occurrences n v.taken) (occurrences n w.taken) (occurrences n u.taken)
    (occurrences-append n v.taken w.taken) some))
    (λ some. ⊎_elim (λ h. omega (arith, a, rank-seen_filed v n h)) (λ h. omega (arith, b, rank-seen_filed w n h))
    (positive-sum (occurrences n v.filed) (occurrences n w.filed) (occurrences n u.filed)
    (occurrences-append n v.filed w.filed) some))
    (λ some. ⊎_elim (λ h. omega (arith, a, rank-seen_claimed v n h))
    (λ h. omega (arith, b, rank-seen_claimed w n h)) (positive-sum (occurrences n v.claimed) (occurrences n w.claimed)
    (occurrences n u.claimed) (occurrences-append n v.claimed w.claimed) some)) in
    let least : k ≤ rank (seen u n) = max-le (rank-seen_grows v u n left) (rank-seen_grows w u n right) in
    omega (arith, most, least)
