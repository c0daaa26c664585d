-- How the last instant of an event, and its first one since another event, change with one more instant.
use Rattle.std.proofs.Common.{◌≡◌, ◌+◌, ◌<◌, ◌≤◌, ◌&&◌, ◌||◌, ℕ, zero, suc, Bool, true, false, cond, refl, sym, ap}
use Rattle.std.proofs.Common.{◌∙◌, add-one, arith}
use Rattle.std.specs.Prelude.{Option, None, Some, is_some, nat_le, unwrap_or, if◌then◌else◌}
use Rattle.std.proofs.lemmas.Bool.Decides.{nat_tests}
use Rattle.std.proofs.lemmas.Bool.{lt-leb}
use Rattle.vme_trace.specs.Instants.{any, greatest, least}
use Rattle.vme_trace.proofs.Ranges.{greatest-step, greatest-below, is_some-least, least-past}

-- the first number from f to n that has `p`: the first below n, or else n, if n has it and isn't below f
least-step : (p : ℕ → Bool) (f n : ℕ) → least p f (n + 1) ≡ (if any p f n then least p f n else if nat_le f n
    && p n then Some n else None)
unfolding least
least-step p f n = rw add-one refl

-- the next instant, i + 1, is not before s + 1, the first judged instant
s_next_le : (s i : ℕ) → s ≤ i → nat_le (s + 1) (i + 1) ≡ true
s_next_le s i le = grind (arith, nat_tests)

-- where `p` happens at the instant i + 1, this is its last instant so far
pub greatest-at_next : (p : ℕ → Bool) (s i : ℕ) → s ≤ i → p (i + 1) ≡ true → greatest p (s + 1) (i + 1 + 1)
    ≡ Some (i + 1)
greatest-at_next p s i le now = greatest-step p (s + 1) (i + 1) ∙ rw (s_next_le s i le, now) refl

-- where `p` doesn't happen at the instant i + 1, its last instant is that up to i
pub greatest-not_at_next : (p : ℕ → Bool) (s i : ℕ) → p (i + 1) ≡ false → greatest p (s + 1) (i + 1 + 1)
    ≡ greatest p (s + 1) (i + 1)
greatest-not_at_next p s i none = greatest-step p (s + 1) (i + 1) ∙ rw none (by_test (nat_le (s + 1) (i + 1)))
  where
    by_test : (b : Bool) → cond (b && false) (Some (i + 1)) (greatest p (s + 1) (i + 1))
        ≡ greatest p (s + 1) (i + 1)
    by_test true = refl
    by_test false = refl

-- ---- the first instant of an event since another event

-- the last instant of `q` from s + 1, the first judged instant, up to `i`; without one, s + 1
abbrev pub since_last : (ℕ → Bool) → ℕ → ℕ → ℕ
since_last q s i = unwrap_or (greatest q (s + 1) (i + 1)) (s + 1)

-- `since_last` is at most i + 1
since_last-le : (q : ℕ → Bool) (s i : ℕ) → s ≤ i → since_last q s i ≤ i + 1
since_last-le q s i le = by_case (greatest q (s + 1) (i + 1)) refl
  where
    by_case : (o : Option ℕ) → greatest q (s + 1) (i + 1) ≡ o → unwrap_or o (s + 1) ≤ i + 1
    by_case None e = omega (arith, le)
    by_case (Some n) e = let less = greatest-below q (s + 1) (i + 1) n e in omega (arith, less)

-- p and q say at which instants two events happen; s is the instant at which a stretch starts, and i one from there on
module _ (p q : ℕ → Bool) (s i : ℕ) (le : s ≤ i) where
  -- the first instant of `p`, up to n, from `since_last q s n` on
  abbrev first_since : ℕ → Option ℕ
  first_since n = least p (since_last q s n) (n + 1)

  -- if `q` happens at the next instant, `p` is searched from there on
  pub since-now : q (i + 1) ≡ true → first_since (i + 1) ≡ (if p (i + 1) then Some (i + 1) else None)
  since-now now =
      let here : since_last q s (i + 1) ≡ i + 1 = ap (λ (o : Option ℕ). unwrap_or o (s + 1))
      (greatest-at_next q s i le now) in
      ap (λ (f : ℕ). least p f (i + 1 + 1)) here ∙ least-step p (i + 1) (i + 1)
      ∙ rw (none_before, from_itself (i + 1)) refl
    where
      from_itself : (n : ℕ) → nat_le n n ≡ true
      from_itself n = grind (arith, nat_tests)

      none_before : any p (i + 1) (i + 1) ≡ false
      none_before = sym (is_some-least p (i + 1) (i + 1)) ∙ ap is_some
          (least-past p (i + 1) (i + 1) (omega arith))

  -- if `q` doesn't happen at the next instant, the first `p` since `q` stays, or without one is the next instant, if
  -- `p` happens there
  pub since-before : q (i + 1) ≡ false → first_since (i + 1)
      ≡ (if is_some (first_since i) then first_since i else if p (i + 1) then Some (i + 1) else None)
  since-before none =
      let same : since_last q s (i + 1) ≡ since_last q s i =
      ap (λ (o : Option ℕ). unwrap_or o (s + 1)) (greatest-not_at_next q s i none) in
      let f = since_last q s i in
      ap (λ (f : ℕ). least p f (i + 1 + 1)) same ∙ least-step p f (i + 1)
      ∙ rw (sym (is_some-least p f (i + 1)), reached f (since_last-le q s i le)) refl
    where
      reached : (f : ℕ) → f ≤ i + 1 → nat_le f (i + 1) ≡ true
      reached f le = grind (arith, nat_tests)

-- ---- the last instant of either of two events

-- the later of two instants
abbrev pub later_instant : Option ℕ → Option ℕ → Option ℕ
later_instant None o = o
later_instant (Some a) None = Some a
later_instant (Some a) (Some b) = if nat_le a b then Some b else Some a

-- the last instant of `p` or `q` is the later one of their last instants
pub greatest-either : (p q : ℕ → Bool) (f n : ℕ) → greatest (λ i. p i || q i) f n
    ≡ later_instant (greatest p f n) (greatest q f n)
unfolding greatest
greatest-either p q f zero = refl
greatest-either p q f (suc n) =
    by_tests (nat_le f n) (p n) (q n) (greatest p f n) (greatest q f n) (greatest-below p f n) (greatest-below q f n)
    (greatest-either p q f n)
  where
    is_from : (a n : ℕ) → a < n → nat_le a n ≡ true
    is_from a n less = grind (arith, nat_tests)

    by_itself : (b : Bool) → Some n ≡ cond b (Some n) (Some n)
    by_itself true = refl
    by_itself false = refl

    first_later : (y : Option ℕ) → ((i : ℕ) → y ≡ Some i → i < n) → Some n ≡ later_instant (Some n) y
    first_later None v = refl
    first_later (Some b) v = rw (lt-leb n b (v b refl)) refl

    second_later : (x : Option ℕ) → ((i : ℕ) → x ≡ Some i → i < n) → Some n ≡ later_instant x (Some n)
    second_later None u = refl
    second_later (Some a) u = rw (is_from a n (u a refl)) refl

    by_tests : (r a b : Bool) (x y : Option ℕ) → ((i : ℕ) → x ≡ Some i → i < n) → ((i : ℕ) → y ≡ Some i → i < n)
        → greatest (λ i. p i || q i) f n ≡ later_instant x y
        → cond (r && (a || b)) (Some n) (greatest (λ i. p i || q i) f n)
        ≡ later_instant (cond (r && a) (Some n) x) (cond (r && b) (Some n) y)
    by_tests false a b x y u v e = e
    by_tests true true true x y u v e = by_itself (nat_le n n)
    by_tests true true false x y u v e = first_later y v
    by_tests true false true x y u v e = second_later x u
    by_tests true false false x y u v e = e
