-- Laws of the searches over a range, from f on and before n.
use Rattle.std.proofs.Common.{◌≡◌, ℕ, zero, suc, ◌+◌, ◌<◌, ◌≤◌, Bool, true, false, ◌&&◌, ◌||◌, not, refl, sym, ◌∙◌, ap}
use Rattle.std.proofs.Common.{arith, add-one, inl, inr, ◌⊎◌, cond, subst, [], ◌∷◌, ◌++◌, append_assoc, append-nil}
use Rattle.std.specs.Prelude.{Option, None, Some, nat_le, ◌==◌}
use Rattle.std.specs.Option.{is_some}
use Rattle.std.proofs.lemmas.Bool.Decides.{nat_tests}
use Rattle.std.proofs.lemmas.Bool.{and_parts, and_right, cases_Bool, le-leb, leb-true, lt-leb, or_parts}
use Rattle.vme_trace.specs.Instants.{any, every, greatest, least, those}

-- p holds of some number of a range with n at its end just if it does of one of the range without n, or of n, if n is
-- in it
pub any-step : (p : ℕ → Bool) (f n : ℕ) → any p f (n + 1) ≡ (any p f n || (nat_le f n && p n))
unfolding any
any-step p f n = rw add-one refl

-- p holds of some number of a range with n at its end just if it does of one of the range without n, or of n, if n is
-- in it
pub any-suc : (p : ℕ → Bool) (f n : ℕ) → any p f (suc n) ≡ (any p f n || (nat_le f n && p n))
unfolding any
any-suc p f n = refl

-- p holds of some number of a range with n at its end, where n isn't before the range, just if it does of one of the
-- range without n, or of n
pub any-next : (p : ℕ → Bool) (f n : ℕ) → f ≤ n → any p f (suc n) ≡ (any p f n || p n)
unfolding any
any-next p f n h = rw (le-leb f n h) refl

-- p holds of some number below n + 1, if it holds of i; a says whether it does of one below n
any-suc_holds : (p : ℕ → Bool) (f n i : ℕ) (a : Bool) → f ≤ i → i < suc n → p i ≡ true → (i < n → a ≡ true)
    → (a || (nat_le f n && p n)) ≡ true
any-suc_holds p f n i a in_range below h rest = grind (arith, nat_tests)

-- if p holds of no number below n + 1, it fails at i; a says whether it holds of one below n
any-suc_fails : (p : ℕ → Bool) (f n i : ℕ) (a : Bool) → (a || (nat_le f n && p n)) ≡ false → f ≤ i → i < suc n
    → (a ≡ false → i < n → p i ≡ false) → p i ≡ false
any-suc_fails p f n i a none in_range below rest = grind (arith, nat_tests)

-- a number up to n + 1 is n + 1, or up to n
pub next_or_within : (m n : ℕ) → m ≤ suc n → (m ≡ suc n) ⊎ (m ≤ n)
next_or_within m n h = grind arith

-- of two numbers, one is below the other, or they are equal
pub order_of : (m n : ℕ) → (m < n) ⊎ ((m ≡ n) ⊎ (n < m))
order_of m n = grind arith

-- a number isn't equal to a greater one
pub eq-fails_below : (m n : ℕ) → m < n → (m == n) ≡ false
eq-fails_below m n h = grind (arith, nat_tests)

-- a number isn't equal to a lesser one
pub eq-fails_above : (m n : ℕ) → n < m → (m == n) ≡ false
eq-fails_above m n h = grind (arith, nat_tests)

-- a number before n + 1 is n, or before it
pub last_or_before : (n i : ℕ) → i < suc n → (i ≡ n) ⊎ (i < n)
last_or_before n i h = grind arith

-- a number is n or more, or below n
pub past_or_below : (a n : ℕ) → (n ≤ a) ⊎ (a < n)
past_or_below a n = grind arith

-- where p holds of a number of the range, so does the test of both
and-in_range : (p : ℕ → Bool) (f i : ℕ) → f ≤ i → p i ≡ true → (nat_le f i && p i) ≡ true
and-in_range p f i in_range h = grind (arith, nat_tests)

-- where p holds of some number of the range, `any` is true
pub any-holds : (p : ℕ → Bool) (f n i : ℕ) → f ≤ i → i < n → p i ≡ true → any p f n ≡ true
unfolding any
any-holds p f zero i in_range below h = absurd (omega arith)
any-holds p f (suc n) i in_range below h = any-suc_holds p f n i (any p f n) in_range below h
    (λ b. any-holds p f n i in_range b h)

-- where `any` is false, p holds of no number of the range
pub any-fails : (p : ℕ → Bool) (f n i : ℕ) → any p f n ≡ false → f ≤ i → i < n → p i ≡ false
unfolding any
any-fails p f zero i none in_range below = absurd (omega arith)
any-fails p f (suc n) i none in_range below = any-suc_fails p f n i (any p f n) none in_range below
    (λ e b. any-fails p f n i e in_range b)

-- where p doesn't hold of n, should n be in the range, the test of both fails
and-in_range_fails : (p : ℕ → Bool) (f n : ℕ) → (f ≤ n → p n ≡ false) → (nat_le f n && p n) ≡ false
and-in_range_fails p f n h = grind (arith, nat_tests)

-- where p holds of no number of the range, `any` is false
pub fails-any : (p : ℕ → Bool) (f n : ℕ) → ((i : ℕ) → f ≤ i → i < n → p i ≡ false) → any p f n ≡ false
unfolding any
fails-any p f zero h = refl
fails-any p f (suc n) h = rw (
  fails-any p f n (λ i a b. h i a (omega arith)),
  and-in_range_fails p f n
      (λ a. h n a (omega arith)),
) refl

-- in a range that ends where it begins, or before, p holds of no number
pub any-past : (p : ℕ → Bool) (f n : ℕ) → n ≤ f → any p f n ≡ false
any-past p f n h = fails-any p f n (λ i a b. absurd (omega arith))

-- in an empty range p holds of no number
pub any-empty : (p : ℕ → Bool) (f : ℕ) → any p f 0 ≡ false
unfolding any
any-empty p f = refl

-- a number of which p holds, and of none before it in the range, is the least
pub least-is : (p : ℕ → Bool) (f n i : ℕ) → f ≤ i → i < n → p i ≡ true → any p f i ≡ false → least p f n ≡ Some i
unfolding least any
least-is p f zero i in_range below h first = absurd (omega arith)
least-is p f (suc n) i in_range below h first =
    elim (last_or_before n i below) [
      | inl e ↦ rw (← e) (rw (first, and-in_range p f i in_range h) refl)
      | inr b ↦ rw (any-holds p f n i in_range b h) (least-is p f n i in_range b h first)
    ]

-- there is no least number below n + 1 if there is none below n, and n isn't one
least-suc_none : (a b : Bool) (o : Option ℕ) (n : ℕ) → o ≡ None → a ≡ false → b ≡ false
    → (cond a o (cond b (Some n) None)) ≡ None
least-suc_none a b o n e h k = rw (h, k) refl

-- where p fails of some number of the range, `every` is false
pub every-fails : (p : ℕ → Bool) (f n i : ℕ) → f ≤ i → i < n → p i ≡ false → every p f n ≡ false
every-fails p f n i in_range below h = rw (any-holds (λ k. not (p k)) f n i in_range below (rw h refl)) refl

-- where p holds of no number of the range, `least` is None
pub least-none : (p : ℕ → Bool) (f n : ℕ) → any p f n ≡ false → least p f n ≡ None
unfolding least any
least-none p f zero none = refl
least-none p f (suc n) none = least-suc_none _ _ _ _ (least-none p f n (or_parts _ _ none).0) (or_parts _ _ none).0
    (or_parts _ _ none).1

-- a range that ends where it begins, or before, has no least number
pub least-past : (p : ℕ → Bool) (f n : ℕ) → n ≤ f → least p f n ≡ None
least-past p f n h = least-none p f n (any-past p f n h)

-- a choice is its first part where the test holds, else its second
pub cond-cases : (b : Bool) (x y z : Option ℕ) → cond b x y ≡ z → ((b ≡ true) × (x ≡ z)) ⊎ ((b ≡ false) × (y ≡ z))
cond-cases true x y z h = inl (refl, h)
cond-cases false x y z h = inr (refl, h)

-- i is the least number of the range of which p holds
pub record IsLeast (p : ℕ → Bool) (f n i : ℕ) : Type 0 where
  pub first : f ≤ i
  pub below : i < n
  pub holds : p i ≡ true
  pub least : any p f i ≡ false

-- the least number of a range is the least of the range with n at its end
IsLeast-next : (p : ℕ → Bool) (f n i : ℕ) → IsLeast p f n i → IsLeast p f (suc n) i
IsLeast-next p f n i h = record { first = h.first; below = omega arith; holds = h.holds; least = h.least }

-- what is found at the end of a range is the number there
cond-last : (n i : ℕ) (b : Bool) → cond b (Some n) None ≡ Some i → (b ≡ true) × (n ≡ i)
cond-last n i true h = (refl, cc)
cond-last n i false h = absurd (cc)

-- what `least` finds is the least number of which p holds
pub least-found : (p : ℕ → Bool) (f n i : ℕ) → least p f n ≡ Some i → IsLeast p f n i
unfolding least any
least-found p f zero i h = absurd (cc)
least-found p f (suc n) i h =
    elim (cond-cases (any p f n) (least p f n) (cond (nat_le f n && p n) (Some n) None) (Some i) h) [
      | inl found ↦ IsLeast-next p f n i (least-found p f n i found.1)
      | inr none ↦
          let here = cond-last n i (nat_le f n && p n) none.1 in
          let both = and_parts (nat_le f n) (p n) here.0 in
          subst (λ k. IsLeast p f (suc n) k) here.1
          (record { first = leb-true f n both.0; below = omega arith; holds = both.1; least = none.0 })
    ]

-- the greatest number of a range with n at its end is n, if p holds of n and n is in it, and else that of the range
-- without n
pub greatest-step : (p : ℕ → Bool) (f n : ℕ) → greatest p f (n + 1) ≡ cond (nat_le f n && p n) (Some n) (greatest p f n)
unfolding greatest
greatest-step p f n = rw add-one refl

-- what `greatest` finds is before the end of the range
pub greatest-below : (p : ℕ → Bool) (f n i : ℕ) → greatest p f n ≡ Some i → i < n
unfolding greatest
greatest-below p f zero i e = absurd (cc)
greatest-below p f (suc n) i e = by_test (nat_le f n && p n) (λ h. greatest-below p f n i h) e
  where
    by_test : (b : Bool) → (greatest p f n ≡ Some i → i < n) → cond b (Some n) (greatest p f n) ≡ Some i → i < suc n
    by_test true before h = let same : n ≡ i = cc in omega arith
    by_test false before h = omega (arith, before h)

-- an empty range has no greatest number
pub greatest-empty : (p : ℕ → Bool) (f n : ℕ) → n ≤ f → greatest p f n ≡ None
unfolding greatest
greatest-empty p f zero h = refl
greatest-empty p f (suc n) h = rw (lt-leb f n (omega arith)) (greatest-empty p f n (omega arith))

-- where p and q agree on n, should n be in the range, so do the tests of both
and-in_range_alike : (p q : ℕ → Bool) (f n : ℕ) → (f ≤ n → p n ≡ q n) → (nat_le f n && p n) ≡ (nat_le f n && q n)
and-in_range_alike p q f n alike = grind (arith, nat_tests)

-- an option that isn't `None` has a value
is_some-unless_none : (o : Option ℕ) → (o ≡ None → ⊥) → (i : ℕ) × (o ≡ Some i)
is_some-unless_none None not_none = absurd (not_none refl)
is_some-unless_none (Some i) not_none = (i, refl)

-- nothing is both true and false
pub clash : (b : Bool) → b ≡ true → b ≡ false → ⊥
clash b h k = cc

-- if no number is found at the end of a range, the test fails there
cond-none : (n : ℕ) (b : Bool) → cond b (Some n) None ≡ None → b ≡ false
cond-none n true h = absurd (cc)
cond-none n false h = refl

-- where p and q agree in the range, so do `any` of p and of q
pub any-alike : (p q : ℕ → Bool) (f n : ℕ) → ((i : ℕ) → f ≤ i → i < n → p i ≡ q i) → any p f n ≡ any q f n
unfolding any
any-alike p q f zero alike = refl
any-alike p q f (suc n) alike = rw (any-alike p q f n (λ i a b. alike i a (omega arith)))
    (ap (λ b. any q f n || b) (and-in_range_alike p q f n (λ a. alike n a (omega arith))))

-- where p and q agree in the range, so do `least` of p and of q
pub least-alike : (p q : ℕ → Bool) (f n : ℕ) → ((i : ℕ) → f ≤ i → i < n → p i ≡ q i) → least p f n ≡ least q f n
unfolding least
least-alike p q f zero alike = refl
least-alike p q f (suc n) alike =
    rw (
      any-alike p q f n (λ i a b. alike i a (omega arith)),
      least-alike p q f n (λ i a b. alike i a (omega arith)),
      and-in_range_alike p q f n (λ a. alike n a (omega arith)),
    ) refl

-- where `least` is None, p holds of no number of the range
pub least-none-any : (p : ℕ → Bool) (f n : ℕ) → least p f n ≡ None → any p f n ≡ false
unfolding least any
least-none-any p f zero e = refl
least-none-any p f (suc n) e =
    elim (cond-cases (any p f n) (least p f n) (cond (nat_le f n && p n) (Some n) None) None e) [
      | inl found ↦ absurd (clash (any p f n) found.0 (least-none-any p f n found.1))
      | inr none ↦ rw (none.0, cond-none n (nat_le f n && p n) none.1) refl
    ]

-- where p holds of some number of the range, there is a least one
pub any-least : (p : ℕ → Bool) (f n : ℕ) → any p f n ≡ true → (i : ℕ) × (least p f n ≡ Some i)
any-least p f n h = is_some-unless_none (least p f n) (λ e. clash (any p f n) h (least-none-any p f n e))

-- there is a least number of which p holds exactly if p holds of some number of the range
pub is_some-least : (p : ℕ → Bool) (f n : ℕ) → is_some (least p f n) ≡ any p f n
is_some-least p f n = by_least (least p f n) refl
  where
    by_least : (o : Option ℕ) → least p f n ≡ o → is_some o ≡ any p f n
    by_least None e = sym (least-none-any p f n e)
    by_least (Some i) e = let h = least-found p f n i e in sym (any-holds p f n i h.first h.below h.holds)

-- where p holds of all of the range and of n, it holds of all of the range with n at its end
pub every-more : (p : ℕ → Bool) (f n : ℕ) → every p f n ≡ true → p n ≡ true → every p f (n + 1) ≡ true
every-more p f n so_far here = ap not (any-step (λ k. not (p k)) f n) ∙ more (any (λ k. not (p k)) f n) (nat_le f n)
    (p n) so_far here
  where
    more : (a b c : Bool) → not a ≡ true → c ≡ true → not (a || (b && not c)) ≡ true
    more true b c h k = absurd (cc)
    more false true c h k = rw k refl
    more false false c h k = refl

-- where p holds of n, n is the greatest number up to n
pub greatest-here : (p : ℕ → Bool) (f n : ℕ) → f ≤ n → p n ≡ true → greatest p f (suc n) ≡ Some n
unfolding greatest
greatest-here p f n from h = rw (and-in_range p f n from h) refl

-- where p doesn't hold of n, the greatest number up to n is the one below n
pub greatest-skip : (p : ℕ → Bool) (f n : ℕ) → p n ≡ false → greatest p f (suc n) ≡ greatest p f n
unfolding greatest
greatest-skip p f n h = rw (and_right (nat_le f n) (p n) h) refl

-- a number of which p holds, and of none after it in the range, is the greatest
pub greatest-is : (p : ℕ → Bool) (f n i : ℕ) → f ≤ i → i < n → p i ≡ true → ((k : ℕ) → i < k → k < n → p k ≡ false)
    → greatest p f n ≡ Some i
greatest-is p f zero i from below h none = absurd (omega arith)
greatest-is p f (suc n) i from below h none =
    elim (last_or_before n i below) [
      | inl e ↦ rw (← e) (greatest-here p f i from h)
      | inr b ↦ greatest-skip p f n (none n b (omega arith)) ∙ greatest-is p f n i from b h
          (λ k x y. none k x (omega arith))
    ]

-- where p and q agree in the range, so do `greatest` of p and of q
pub greatest-alike : (p q : ℕ → Bool) (f n : ℕ) → ((i : ℕ) → f ≤ i → i < n → p i ≡ q i) → greatest p f n
    ≡ greatest q f n
unfolding greatest
greatest-alike p q f zero alike = refl
greatest-alike p q f (suc n) alike =
    rw (
      and-in_range_alike p q f n (λ a. alike n a (omega arith)),
      greatest-alike p q f n
          (λ i a b. alike i a (omega arith)),
    )
    refl

-- where p holds of some number of the range, there is a greatest one
pub greatest-some : (p : ℕ → Bool) (f n i : ℕ) → f ≤ i → i < n → p i ≡ true → (k : ℕ) × (greatest p f n ≡ Some k)
greatest-some p f zero i from below h = absurd (omega arith)
greatest-some p f (suc n) i from below h = elim (cases_Bool (p n)) [
  | inl now ↦ (n, greatest-here p f n (omega arith) now)
  | inr off ↦ elim (last_or_before n i below) [
    | inl same ↦ absurd (clash (p i) h (ap p same ∙ off))
    | inr before ↦ let earlier = greatest-some p f n i from before h in (earlier.0, greatest-skip p f n off ∙ earlier.1)
  ]
]

-- i is the greatest number of the range of which p holds
pub record IsGreatest (p : ℕ → Bool) (f n i : ℕ) : Type 0 where
  pub first : f ≤ i
  pub below : i < n
  pub holds : p i ≡ true
  pub none : (k : ℕ) → i < k → k < n → p k ≡ false

-- what `greatest` finds is the greatest number of the range of which p holds
pub greatest-found : (p : ℕ → Bool) (f n i : ℕ) → greatest p f n ≡ Some i → IsGreatest p f n i
unfolding greatest
greatest-found p f zero i e = absurd (cc)
greatest-found p f (suc n) i e = elim (past_or_below n f) [
  | inl from ↦ elim (cases_Bool (p n)) [
    | inl now ↦
        let same : Some n ≡ Some i = sym (greatest-here p f n from now) ∙ e in
        let is : n ≡ i = cc in
        record {
          first = omega arith;
          below = omega arith;
          holds = ap p (sym is) ∙ now;
          none = λ k a b. absurd
              (omega arith);
        }
    | inr off ↦
        let earlier = greatest-found p f n i (sym (greatest-skip p f n off) ∙ e) in
        record {
          first = earlier.first;
          below = omega (arith, earlier.below);
          holds = earlier.holds;
          none = λ k a b.
              elim (last_or_before n k b) [ inl same ↦ ap p same ∙ off | inr before ↦ earlier.none k a before ];
        }
  ]
  | inr late ↦ let nothing : None ≡ Some i = sym (greatest-empty p f (suc n) (omega arith)) ∙ e in absurd (cc)
]

-- neither a nor b is a way to say not a and not b
pub not_or : (a b : Bool) → not (a || b) ≡ (not a && not b)
not_or true b = refl
not_or false b = refl

-- not both a and b is a way to say not a or not b
pub not_and : (a b : Bool) → not (a && b) ≡ (not a || not b)
not_and true b = refl
not_and false b = refl

-- p holds of all of an empty range
pub every-empty : (p : ℕ → Bool) (f : ℕ) → every p f f ≡ true
every-empty p f = ap not (fails-any (λ k. not (p k)) f f (λ i a b. absurd (omega arith)))

-- p holds of some number of a range just if it does before m or from m on
any-split : (p : ℕ → Bool) (f m n : ℕ) → f ≤ m → m ≤ n → any p f n ≡ (any p f m || any p m n)
unfolding any
any-split p f zero zero a b = refl
any-split p f (suc m) zero a b = absurd (omega arith)
any-split p f m (suc n) a b =
    elim (next_or_within m n b) [
      | inl e ↦ subst (λ k. any p f (suc n) ≡ (any p f k || any p k (suc n))) (sym e)
          (or_false (any p f (suc n)) (any p (suc n) (suc n)) (any_after p (suc n)))
      | inr c ↦ rw (any-split p f m n a c) (regroup (any p f m) (any p m n) (nat_le f n) (nat_le m n) (p n)
          (le-leb f n (omega arith)) (le-leb m n c))
    ]
  where
    any_after : (p : ℕ → Bool) (m : ℕ) → any p m m ≡ false
    any_after p m = fails-any p m m (λ i a b. absurd (omega arith))

    or_false : (a b : Bool) → b ≡ false → a ≡ (a || b)
    or_false true b h = refl
    or_false false b h = sym h

    regroup : (a b x y z : Bool) → x ≡ true → y ≡ true → (a || b || (x && z)) ≡ (a || (b || (y && z)))
    regroup true b x y z h k = refl
    regroup false b x y z h k = rw (h, k) refl

-- p holds of all of a range just if it does before m and from m on
pub every-split : (p : ℕ → Bool) (f m n : ℕ) → f ≤ m → m ≤ n → every p f n ≡ (every p f m && every p m n)
every-split p f m n a b = ap not (any-split (λ k. not (p k)) f m n a b) ∙ not_or (any (λ k. not (p k)) f m)
    (any (λ k. not (p k)) m n)

-- where p and q agree in the range, so do `every` of p and of q
pub every-alike : (p q : ℕ → Bool) (f n : ℕ) → ((i : ℕ) → f ≤ i → i < n → p i ≡ q i) → every p f n ≡ every q f n
every-alike p q f n alike = ap not (any-alike (λ k. not (p k)) (λ k. not (q k)) f n (λ i a b. ap not (alike i a b)))

-- where p holds of each number of the range, `every` is true
pub every-holds : (p : ℕ → Bool) (f n : ℕ) → ((i : ℕ) → f ≤ i → i < n → p i ≡ true) → every p f n ≡ true
every-holds p f n h = ap not (fails-any (λ k. not (p k)) f n (λ i a b. ap not (h i a b)))

-- `those` is empty where p holds of no number of the range
pub those-none : (p : ℕ → Bool) (f n : ℕ) → any p f n ≡ false → those p f n ≡ []
unfolding those any
those-none p f zero none = refl
those-none p f (suc n) none = let both = or_parts (any p f n) (nat_le f n && p n) none in
    rw (those-none p f n both.0, both.1) refl

-- there are none in an empty range
pub those-empty : (p : ℕ → Bool) (f n : ℕ) → n ≤ f → those p f n ≡ []
those-empty p f n h = those-none p f n (fails-any p f n (λ i a b. absurd (omega arith)))

-- `those` of the range with n at its end has one more, n, where p holds of n, and no more where it doesn't
pub those-more : (p : ℕ → Bool) (f n : ℕ) → f ≤ n → p n ≡ true → those p f (suc n) ≡ those p f n ++ n ∷ []
unfolding those
those-more p f n from h = rw (and-in_range p f n from h) refl

-- `those` of the range with n at its end are the same where p doesn't hold of n
pub those-same : (p : ℕ → Bool) (f n : ℕ) → p n ≡ false → those p f (suc n) ≡ those p f n
unfolding those
those-same p f n h = rw (and_right (nat_le f n) (p n) h) (append-nil (those p f n))

-- `those` of a range are those before m and then those from m on
pub those-split : (p : ℕ → Bool) (f m n : ℕ) → f ≤ m → m ≤ n → those p f n ≡ those p f m ++ those p m n
those-split p f m zero a b =
    let e : m ≡ 0 = omega arith in
    subst (λ k. those p f 0 ≡ those p f k ++ those p k 0) (sym e)
    (sym (ap (λ xs. those p f 0 ++ xs) (those-none p 0 0 (any-empty p 0)) ∙ append-nil (those p f 0)))
those-split p f m (suc n) a b =
    elim (next_or_within m n b) [
      | inl e ↦ subst (λ k. those p f (suc n) ≡ those p f k ++ those p k (suc n)) (sym e)
          (sym (ap (λ xs. those p f (suc n) ++ xs)
          (those-none p (suc n) (suc n) (fails-any p (suc n) (suc n) (λ i x y. absurd (omega arith))))
          ∙ append-nil (those p f (suc n))))
      | inr c ↦ by_last (p n) refl c (those-split p f m n a c)
    ]
  where
    by_last : (last : Bool) → p n ≡ last → m ≤ n → those p f n ≡ those p f m ++ those p m n → those p f (suc n)
        ≡ those p f m ++ those p m (suc n)
    by_last true e c earlier =
        those-more p f n (omega arith) e
        ∙ (ap (λ xs. xs ++ n ∷ []) earlier ∙ (append_assoc (those p f m) (those p m n) (n ∷ [])
        ∙ ap (λ xs. those p f m ++ xs) (sym (those-more p m n c e))))
    by_last false e c earlier = those-same p f n e ∙ (earlier ∙ ap (λ xs. those p f m ++ xs) (sym (those-same p m n e)))

-- where i is the first number of the range of which p holds, `those` are i and then those after i
pub those-next : (p : ℕ → Bool) (f n i : ℕ) → f ≤ i → i < n → p i ≡ true → any p f i ≡ false → those p f n ≡ i
    ∷ those p (i + 1) n
those-next p f n i from below h first =
    those-split p f (i + 1) n (omega arith) (omega arith)
    ∙ ap (λ xs. xs ++ those p (i + 1) n) (ap (those p f) (sym add-one_is)
    ∙ (those-more p f i from h ∙ ap (λ xs. xs ++ i ∷ []) (those-none p f i first)))
  where
    add-one_is : suc i ≡ i + 1
    add-one_is = omega arith

-- for the goals of a loop that searches a range
pub ruleset searches = (
  any-step,
  any-holds,
  any-fails,
  any-empty,
  every-empty,
  every-fails,
  least-is,
  least-none,
  nat_tests,
)
