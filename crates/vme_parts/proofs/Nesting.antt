-- Of two segments one lies within the other, or they have no file in common.
use Rattle.std.proofs.Common.{inl, inr, ◌≡◌, ℕ, ◌+◌, ◌-◌, ◌*◌, ◌/◌, ◌%◌, ◌<◌, ◌≤◌, ◌^◌, ap, sym, ◌∙◌, arith}
use Rattle.std.specs.Prelude.{◌⊎◌}
use Rattle.std.proofs.Math.Nat.{mul-le-mul_left, mul_assoc}
use Rattle.std.proofs.lemmas.Bool.{cases_lt}
use Rattle.std.proofs.lemmas.Nat.{pow-add, pow_pos}
use Rattle.vme_part_format.specs.Bounds.{FitsNumbers}
use Rattle.vme_part_format.specs.Tables.{SegmentValue, last_of}
use Rattle.vme_parts.specs.Files.{SegmentCovers}
use Rattle.vme_parts.specs.Gathering.{Precedes}

-- a common factor of both sides of `<` can be left out
lt-cancel_factor : (n a b : ℕ) → n * a < n * b → a < b
lt-cancel_factor n a b h = by_place (cases_lt a b)
  where
    by_place : ((a < b) ⊎ (b ≤ a)) → a < b
    by_place (inl k) = k
    by_place (inr k) = absurd (omega (arith, mul-le-mul_left n k))

-- of two multiples of n, the lesser is at least n below the greater
multiples_apart : (n a b : ℕ) → n * a < n * b → n * a + n ≤ n * b
multiples_apart n a b h =
    let k : a + 1 ≤ b = omega (arith, lt-cancel_factor n a b h) in
    omega (arith, mul-le-mul_left n k)

-- x without a remainder by n is n times its quotient
eq-multiple : (x n : ℕ) → 0 < n → x % n ≡ 0 → x ≡ n * (x / n)
eq-multiple x n some e = omega arith

-- 2 ^ high is 2 ^ low times the power of the difference
pow-split : (low high : ℕ) → low ≤ high → 2 ^ high ≡ 2 ^ low * 2 ^ (high - low)
pow-split low high h =
    let e : low + (high - low) ≡ high = omega arith in
    sym (ap (λ k. 2 ^ k) e) ∙ pow-add 2 low (high - low)

-- a multiple of 2 ^ high is one of 2 ^ low, if low ≤ high
eq-multiple_of_lower : (x low high : ℕ) → low ≤ high → x % 2 ^ high ≡ 0
    → x ≡ 2 ^ low * (2 ^ (high - low) * (x / 2 ^ high))
eq-multiple_of_lower x low high h e =
    eq-multiple x (2 ^ high) (pow_pos high) e
    ∙ (ap (λ k. k * (x / 2 ^ high)) (pow-split low high h)
    ∙ mul_assoc (2 ^ low) (2 ^ (high - low)) (x / 2 ^ high))

-- t begins within s: s comes before t, and the first file of t is none after the last file of s
module _ (s t : SegmentValue) (p : FitsNumbers s.first s.order) (q : FitsNumbers t.first t.order)
    (before : Precedes s t) (meets : t.first ≤ last_of s.first s.order) where
  -- t, if its order is at most that of s, ends where s does, or before
  ends_within : t.order ≤ s.order → t.first + 2 ^ t.order ≤ s.first + 2 ^ s.order
  ends_within h =
      let n = 2 ^ t.order in
      let k = 2 ^ (s.order - t.order) in
      let a = eq-multiple_of_lower s.first t.order s.order h p.aligned in
      let b = eq-multiple t.first n (pow_pos t.order) q.aligned in
      let size = pow-split t.order s.order h in
      let c = k * (s.first / 2 ^ s.order) + k in
      let whole : s.first + 2 ^ s.order ≡ n * c = omega (arith, a, size) in
      let below : n * (t.first / n) < n * c = omega (arith, b, whole, pow_pos s.order) in
      omega (arith, multiples_apart n (t.first / n) c below, b, whole)

  -- the order of t is at most that of s, since t begins within s
  order_le : t.order ≤ s.order
  order_le = by_place (cases_lt s.order t.order) before
    where
      by_place : ((s.order < t.order) ⊎ (t.order ≤ s.order)) → Precedes s t → t.order ≤ s.order
      by_place (inr h) b = h
      by_place (inl h) (inr b) = b.1
      by_place (inl h) (inl b) =
          let n = 2 ^ s.order in
          let x = s.first / n in
          let y = 2 ^ (t.order - s.order) * (t.first / 2 ^ t.order) in
          let e = eq-multiple s.first n (pow_pos s.order) p.aligned in
          let f = eq-multiple_of_lower t.first s.order t.order (omega arith) q.aligned in
          let step : n * x < n * y = omega (arith, e, f) in
          absurd (omega (arith, multiples_apart n x y step, e, f, meets, pow_pos s.order))

  -- each file that t covers is one that s covers
  pub lies_within : (n : ℕ) → SegmentCovers t n → SegmentCovers s n
  lies_within n c =
      let whole = ends_within order_le in
      (first_low, omega (arith, c.1, whole, pow_pos s.order, pow_pos t.order))
    where
      by_case : Precedes s t → s.first ≤ t.first
      by_case (inl b) = omega arith
      by_case (inr b) = omega (arith, b.0)

      first_low : s.first ≤ n
      first_low = omega (arith, by_case before, c.0)
