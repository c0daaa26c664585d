-- The recording of the first instants of a dump is well formed, if their times ascend: each of its steps may follow
-- those before it.
use Rattle.std.proofs.Common.{◌≡◌, ℕ, zero, suc, ◌+◌, ◌<◌, ◌≤◌, Bool, true, false, cond, not, ◌&&◌, ◌||◌, List, [], ◌∷◌}
use Rattle.std.proofs.Common.{◌++◌, length, map, get_or, refl, sym, ap, ◌∙◌, subst, arith, inl, inr, ◌⊎◌, Some, None}
use Rattle.std.specs.Prelude.{nat_le, nat_lt, ◌==◌, slice_get}
use Rattle.std.specs.List.Sorted.{IsStrictlyIncreasing}
use Rattle.std.proofs.lemmas.Bool.{cases_Bool, cases_lt, false≢true, le-leb, lt-ltb, not-false, not-true}
use Rattle.std.proofs.lemmas.Bool.Decides.{nat_tests}
use Rattle.std.proofs.lemmas.List.{append-nil, length-append, length-map, map_push}
use Rattle.std.proofs.lemmas.Option.{slice_get_within}
use Rattle.vme_trace.specs.Instants.{any, those}
use Rattle.vme_trace.specs.Levels.{Levels, level_at, same_level}
use Rattle.vme_trace.specs.LineNumbers.{line_count, has_line}
use Rattle.vme_trace.specs.Trace.{Trace, changed, levels_at}
use Rattle.vme_trace.specs.WellFormed.{are_changes, is_empty, may_follow, malformed_step}
use Rattle.vme_trace.specs.declared.level.Level.{Level}
use Rattle.vme_trace.specs.declared.level.Level.TheVariants.{Unknown}
use Rattle.vme_trace.specs.declared.step.Change.{Change}
use Rattle.vme_trace.specs.declared.step.Step.{Step}
use Rattle.vme_trace.proofs.Ranges.{any-alike, any-fails, any-empty}
use Rattle.vme_trace.proofs.Changing.{slots-kept}
use Rattle.vme_trace.proofs.ListLaws.{slice_get-append, slice_get-here}
use Rattle.vme_trace.proofs.WellFormedSteps.{HasChecked, HasChecked-step, malformed_step-none}
use Rattle.vcd_read.specs.declared.dump.Instant.{Instant}
use Rattle.vcd_read.specs.Contents.{TimesAscend}
use Rattle.vme_bind.specs.declared.bound_groups.BoundGroup.{BoundGroup}
use Rattle.vme_bind.specs.BoundGroups.{line_source}
use Rattle.vme_bind.specs.Capture.{time_of, level_by, level_after, changes_at, is_step, change_at, step_at}
use Rattle.vme_bind.specs.Capture.{levels_after, recording}
use Rattle.vme_bind.specs.Recording.{differs, change_to, changes_between, step_between}
use Rattle.vme_bind.proofs.RecorderLemmas.{those-yes, those-no, same_level-is, same_levels}
use Rattle.vme_bind.proofs.CaptureLemmas.{level_at-changed_those, length-changed, level_at-levels_after}
use Rattle.vme_bind.proofs.CaptureLemmas.{length-levels_after, slots-levels_after, to_level}

-- ---- the numbers below n for which p holds

-- tests that agree on all numbers below n hold for the same numbers below n
those-alike : (p q : ℕ → Bool) (n : ℕ) → ((l : ℕ) → l < n → p l ≡ q l) → those p 0 n ≡ those q 0 n
unfolding those
those-alike p q zero h = refl
those-alike p q (suc n) h = rw (those-alike p q n (λ l lt. h l (omega (arith, lt))), h n (omega arith)) refl

-- functions that agree on all numbers below n give the same list of the numbers below n with `p`
map-those_alike : {X : Type 0} (f g : ℕ → X) (p : ℕ → Bool) (n : ℕ) → ((l : ℕ) → l < n → f l ≡ g l)
    → map f (those p 0 n)
    ≡ map g (those p 0 n)
unfolding those
map-those_alike f g p zero h = refl
map-those_alike {X = X} f g p (suc n) h = by_test (p n) refl (map-those_alike f g p n (λ l lt. h l (omega (arith, lt))))
  where
    more : n + 1 ≡ suc n
    more = omega arith

    map-append_one : (f : ℕ → X) (xs : List ℕ) (x : ℕ) → map f (xs ++ x ∷ []) ≡ map f xs ++ f x ∷ []
    map-append_one f [] x = refl
    map-append_one f (y ∷ xs) x = ap (λ (ys : List X). f y ∷ ys) (map-append_one f xs x)

    by_test : (b : Bool) → p n ≡ b → map f (those p 0 n) ≡ map g (those p 0 n) → map f (those p 0 (suc n))
        ≡ map g (those p 0 (suc n))
    by_test true e so_far =
        let is : those p 0 (suc n) ≡ those p 0 n ++ n ∷ [] = ap (those p 0) (sym more) ∙ those-yes p n e in
        ap (map f) is ∙ map-append_one f (those p 0 n) n ∙ ap (λ (ys : List X). ys ++ f n ∷ []) so_far
        ∙ ap (λ (y : X). map g (those p 0 n) ++ y ∷ []) (h n (omega arith))
        ∙ sym (map-append_one g (those p 0 n) n) ∙ ap (map g) (sym is)
    by_test false e so_far =
        let is : those p 0 (suc n) ≡ those p 0 n = ap (those p 0) (sym more) ∙ those-no p n e in
        ap (map f) is ∙ so_far ∙ ap (map g) (sym is)

-- a number `i` with `p` is in `those p 0 n`, after the numbers with `p` below it
slice_get-those : (p : ℕ → Bool) (n i : ℕ) → i < n → p i ≡ true → slice_get (those p 0 n) (length (those p 0 i))
    ≡ Some i
slice_get-those p zero i lt h = absurd (omega (arith, lt))
slice_get-those p (suc n) i lt h =
    let more : n + 1 ≡ suc n = omega arith in
    ap (λ (m : ℕ). slice_get (those p 0 m) (length (those p 0 i))) (sym more)
    ∙ elim (cases_lt i n) [
      | inl less ↦ elim (cases_Bool (p n)) [
        | inl yes' ↦
            let found = slice_get-those p n i less h in
            ap (λ (xs : List ℕ). slice_get xs (length (those p 0 i))) (those-yes p n yes')
            ∙ slice_get-append (those p 0 n) (n ∷ []) (length (those p 0 i))
            (slice_get_within (those p 0 n) (length (those p 0 i)) i found)
            ∙ found
        | inr no' ↦ ap (λ (xs : List ℕ). slice_get xs (length (those p 0 i))) (those-no p n no') ∙ slice_get-those p n i
            less h
      ]
      | inr le ↦
          let e : i ≡ n = omega (arith, lt, le) in
          ap (λ (m : ℕ). slice_get (those p 0 (n + 1)) (length (those p 0 m))) e
          ∙ ap (λ (xs : List ℕ). slice_get xs (length (those p 0 n))) (those-yes p n (ap p (sym e) ∙ h))
          ∙ slice_get-here (those p 0 n) n [] ∙ ap Some (sym e)
    ]

-- if `x` is at index k, `f x` is there in the list that is mapped by `f`
slice_get-map : {X Y : Type 0} (f : X → Y) (xs : List X) (k : ℕ) (x : X) → slice_get xs k ≡ Some x
    → slice_get (map f xs) k
    ≡ Some (f x)
slice_get-map f [] k x e = absurd cc
slice_get-map f (y ∷ xs) zero x e = let is : y ≡ x = cc in ap (λ z. Some (f z)) is
slice_get-map f (y ∷ xs) (suc k) x e = slice_get-map f xs k x e

-- if `p` holds for some number below n, `those p 0 n` isn't empty
pub length-those_positive : (p : ℕ → Bool) (n : ℕ) → any p 0 n ≡ true → 0 < length (those p 0 n)
unfolding any those
length-those_positive p zero h = absurd cc
length-those_positive p (suc n) h =
    let more : n + 1 ≡ suc n = omega arith in
    elim (cases_Bool (p n)) [
      | inl yes' ↦ omega (
        arith,
        ap length (ap (those p 0) (sym more) ∙ those-yes p n yes'),
        length-append (those p 0 n)
            (n ∷ []),
      )
      | inr no' ↦ omega (
        arith,
        ap length (ap (those p 0) (sym more) ∙ those-no p n no'),
        length-those_positive p n (any_rest (any p 0 n) (nat_le 0 n) (p n) no' h),
      )
    ]
  where
    any_rest : (a b c : Bool) → c ≡ false → (a || (b && c)) ≡ true → a ≡ true
    any_rest true b c e h = refl
    any_rest false true c e h = absurd (false≢true (sym e ∙ h))
    any_rest false false c e h = absurd (false≢true h)

-- ---- the changes of a step

-- all of the changes are of lines below n
LinesBelow : ℕ → List Change → Type 0
LinesBelow n [] = Unit {0}
LinesBelow n (c ∷ cs) = (c.line < n) × LinesBelow n cs

-- changes of lines below n are of lines below n + 1
LinesBelow-next : (n : ℕ) (cs : List Change) → LinesBelow n cs → LinesBelow (n + 1) cs
unfolding LinesBelow
LinesBelow-next n [] h = tt
LinesBelow-next n (c ∷ cs) h = (omega (arith, h.0), LinesBelow-next n cs h.1)

-- a change of a line below n may be added to changes of lines below n
LinesBelow-append : (n : ℕ) (cs : List Change) (c : Change) → LinesBelow n cs → c.line < n → LinesBelow n (cs ++ c ∷ [])
unfolding LinesBelow
LinesBelow-append n [] c h lt = (lt, tt)
LinesBelow-append n (d ∷ cs) c h lt = (h.0, LinesBelow-append n cs c h.1 lt)

-- a change of a line that exists, to another level
pub record IsChange (v : Levels) (c : Change) : Type 0 where
  pub exists : has_line v.slots c.line ≡ true
  pub other : same_level (level_at v c.line) c.level ≡ false

-- a conjunction of four tests, of which the third is negated, holds if its parts do
and-four_with_not : (a b c d : Bool) → a ≡ true → b ≡ true → c ≡ false → d ≡ true → (a && b && not c && d) ≡ true
and-four_with_not a b c d e f g h = rw (e, f, g, h) refl

-- the parts of a conjunction of four tests that holds hold
and-four_parts : (a b c d : Bool) → (a && b && c && d) ≡ true → (a ≡ true) × (b ≡ true) × (c ≡ true) × (d ≡ true)
and-four_parts true true true true h = (refl, refl, refl, refl)
and-four_parts true true true false h = absurd cc
and-four_parts true true false d h = absurd cc
and-four_parts true false c d h = absurd cc
and-four_parts false b c d h = absurd cc

-- a conjunction of four tests holds if its parts do
and-four : (a b c d : Bool) → a ≡ true → b ≡ true → c ≡ true → d ≡ true → (a && b && c && d) ≡ true
and-four a b c d e f g h = rw (e, f, g, h) refl

-- a change of a line above all others may come after their changes
are_changes-append : (v : Levels) (lowest : ℕ) (cs : List Change) (c : Change) → are_changes v lowest cs ≡ true
    → lowest ≤ c.line → LinesBelow c.line cs → IsChange v c → are_changes v lowest (cs ++ c ∷ []) ≡ true
unfolding are_changes LinesBelow
are_changes-append v lowest [] c h le below is = and-four_with_not (nat_le lowest c.line) (has_line v.slots c.line)
    (same_level (level_at v c.line) c.level) true (le-leb lowest c.line le) is.exists is.other refl
are_changes-append v lowest (d ∷ cs) c h le below is =
    let parts = and-four_parts (nat_le lowest d.line) (has_line v.slots d.line)
    (not (same_level (level_at v d.line) d.level)) (are_changes v (d.line + 1) cs) h in
    and-four (nat_le lowest d.line) (has_line v.slots d.line) (not (same_level (level_at v d.line) d.level))
    (are_changes v (d.line + 1) (cs ++ c ∷ []))
    parts.0 parts.1 parts.2 (are_changes-append v (d.line + 1) cs c parts.3 (omega (arith, below.0)) below.1 is)

-- `cs` are changes from the levels `v`, by ascending line number, of lines below n
record AreChanges (v : Levels) (n : ℕ) (cs : List Change) : Type 0 where
  sound : are_changes v 0 cs ≡ true
  below : LinesBelow n cs

-- the changes of the lines below n with p, by ascending line number, are changes from the levels `v`
AreChanges-those : (v : Levels) (p : ℕ → Bool) (g : ℕ → Level) (n : ℕ)
    → ((l : ℕ) → l < n → p l ≡ true → IsChange v (to_level g l)) → AreChanges v n (map (to_level g) (those p 0 n))
unfolding are_changes LinesBelow those
AreChanges-those v p g zero h = record { sound = refl; below = tt }
AreChanges-those v p g (suc n) h =
    let so_far = AreChanges-those v p g n (λ l lt. h l (omega (arith, lt))) in
    subst (λ (m : ℕ). AreChanges v m (map (to_level g) (those p 0 m))) more (elim (cases_Bool (p n)) [
      | inl yes' ↦ subst (AreChanges v (n + 1)) (sym (ap (map (to_level g)) (those-yes p n yes') ∙ map_push (to_level g)
          (those p 0 n) n)) (record {
            sound = are_changes-append v 0 (map (to_level g) (those p 0 n)) (to_level g n) so_far.sound (omega arith)
                so_far.below
                (h n (omega arith) yes');
            below = LinesBelow-append (n + 1) (map (to_level g) (those p 0 n)) (to_level g n)
                (LinesBelow-next n (map (to_level g) (those p 0 n)) so_far.below) (omega arith);
          })
      | inr no' ↦ subst (AreChanges v (n + 1)) (sym (ap (map (to_level g)) (those-no p n no'))) (record {
        sound = so_far.sound;
        below = LinesBelow-next n (map (to_level g) (those p 0 n)) so_far.below;
      })
    ])
  where
    more : n + 1 ≡ suc n
    more = omega arith

-- ---- the steps

-- a list of changes whose length is above 0 isn't empty
is_empty-false : (cs : List Change) → 0 < length cs → is_empty cs ≡ false
is_empty-false [] h = absurd (omega (arith, h))
is_empty-false (c ∷ cs) h = refl

-- in a list that is strictly increasing, a later element is greater
get_or-increasing : (xs : List ℕ) → IsStrictlyIncreasing xs → (i j : ℕ) → i < j → j < length xs
    → get_or xs i 0 < get_or xs j 0
get_or-increasing xs up i zero lt in' = absurd (omega (arith, lt))
get_or-increasing xs up i (suc j) lt in' =
    let one = up j (omega (arith, in')) in
    let more : j + 1 ≡ suc j = omega arith in
    let last : get_or xs j 0 < get_or xs (suc j) 0 = subst (λ (k : ℕ). get_or xs j 0 < get_or xs k 0) more one in
    elim (cases_lt i j) [
      | inl less ↦ omega (arith, get_or-increasing xs up i j less (omega (arith, in')), last)
      | inr le ↦ let e : i ≡ j = omega (arith, lt, le) in subst (λ (k : ℕ). get_or xs k 0 < get_or xs (suc j) 0) (sym e)
          last
    ]

-- the time of instant i is element i of the times of the instants
time_of-instants : (instants : List Instant) (i : ℕ) → i < length instants → time_of (slice_get instants i)
    ≡ get_or (map (λ (x : Instant). x.time) instants) i 0
time_of-instants [] i lt = absurd (omega (arith, lt))
time_of-instants (x ∷ instants) zero lt = refl
time_of-instants (x ∷ instants) (suc i) lt = time_of-instants instants i (omega (arith, lt))

-- of instants whose times ascend, a later one has a later time
time_of-ascends : (instants : List Instant) → TimesAscend instants → (i j : ℕ) → i < j → j < length instants
    → time_of (slice_get instants i) < time_of (slice_get instants j)
time_of-ascends instants up i j lt in' =
    omega (
      arith,
      time_of-instants instants i (omega (arith, lt, in')),
      time_of-instants
          instants j in',
      get_or-increasing (map (λ (x : Instant). x.time) instants) up i j lt
          (omega (arith, length-map instants (λ (x : Instant). x.time), in')),
    )

-- a step with at least one change, whose changes are changes from `v`, may follow n steps if n is 0 or it is later than
-- `clock`
may_follow-changes : (v : Levels) (n clock : ℕ) (step : Step) → ((n == 0) || nat_lt clock step.time) ≡ true
    → is_empty step.changes ≡ false → are_changes v 0 step.changes ≡ true → may_follow v n clock step ≡ true
may_follow-changes v n clock step a b c = rw (a, b, c) refl

-- the test whether n is 0 or `time` is later than `clock` holds if either does
first_or_later : (n clock time : ℕ) → (n ≡ 0) ⊎ (clock < time) → ((n == 0) || nat_lt clock time) ≡ true
first_or_later n clock time (inl e) = grind (arith, nat_tests)
first_or_later n clock time (inr lt) = grind (arith, nat_tests)

-- a line that isn't on the backplane has no source
line_source-no_line : (slots l : ℕ) (bound_groups : List BoundGroup) → has_line slots l ≡ false
    → line_source slots bound_groups l
    ≡ None
line_source-no_line slots l bound_groups e = rw e refl

module _ (slots : ℕ) (bound_groups : List BoundGroup) (instants : List Instant) where
  -- only lines of the backplane change
  changes_at-has_line : (n l : ℕ) → changes_at slots bound_groups instants n l ≡ true → has_line slots l ≡ true
  unfolding changes_at level_after
  changes_at-has_line n l h = elim (cases_Bool (has_line slots l)) [
    | inl e ↦ e
    | inr none ↦
        let still : not (same_level Unknown Unknown)
        ≡ true = ap (λ source. not (same_level (level_by slots bound_groups instants n l source)
        (level_by slots bound_groups instants (n + 1) l source))) (sym (line_source-no_line slots l bound_groups none))
        ∙ h in
        absurd (false≢true still)
  ]

  -- a line differs between the levels before and after instant n exactly where it changes at instant n
  differs-changes_at : (n l : ℕ) → l < line_count → differs (levels_after slots bound_groups instants n)
      (levels_after slots bound_groups instants (n + 1)) l ≡ changes_at slots bound_groups instants n l
  unfolding changes_at
  differs-changes_at n l lt = rw (
    level_at-levels_after slots bound_groups instants n l lt,
    level_at-levels_after slots bound_groups instants (n + 1) l
        lt,
  ) refl

  -- some line differs between the levels before and after instant n exactly where there is a step at instant n
  pub any_differs-is_step : (n : ℕ) → any (differs (levels_after slots bound_groups instants n)
      (levels_after slots bound_groups instants (n + 1))) 0 line_count ≡ is_step slots bound_groups instants n
  unfolding is_step
  any_differs-is_step n = any-alike
      (differs (levels_after slots bound_groups instants n) (levels_after slots bound_groups instants
      (n + 1))) (changes_at slots bound_groups instants n) 0 line_count (λ l low lt. differs-changes_at n l lt)

  -- the changes from the levels before instant n to those after it are the changes of the lines that change there
  changes_between-instants : (n : ℕ) → changes_between (levels_after slots bound_groups instants n)
      (levels_after slots bound_groups instants (n + 1)) ≡ map (change_at slots bound_groups instants n)
      (those (changes_at slots bound_groups instants n) 0 line_count)
  changes_between-instants n =
      ap (map (change_to (levels_after slots bound_groups instants (n + 1))))
      (those-alike _ (changes_at slots bound_groups instants n) line_count (λ l lt. differs-changes_at n l lt))
      ∙ map-those_alike (change_to (levels_after slots bound_groups instants (n + 1)))
      (change_at slots bound_groups instants
      n) (changes_at slots bound_groups instants n) line_count
      (λ l lt. ap (to_level_on l) (level_at-levels_after slots bound_groups instants (n + 1) l lt))
    where
      to_level_on : ℕ → Level → Change
      to_level_on l x = record { line = l; level = x }

  -- the steps of the first n + 1 instants are those of the first n and the step at instant n, if there is one
  pub steps-next_instant : (n time : ℕ) → time ≡ time_of (slice_get instants n)
      → (recording slots bound_groups instants (n + 1)).steps ≡ (recording slots bound_groups instants n).steps
      ++ step_between time (levels_after slots bound_groups instants n) (levels_after slots bound_groups instants
      (n + 1))
  unfolding recording step_at
  steps-next_instant n time e = by_test (is_step slots bound_groups instants n) refl
    where
      f : ℕ → Step
      f = step_at slots bound_groups instants

      p : ℕ → Bool
      p = is_step slots bound_groups instants

      map-append_one : (xs : List ℕ) (x : ℕ) → map f (xs ++ x ∷ []) ≡ map f xs ++ f x ∷ []
      map-append_one [] x = refl
      map-append_one (y ∷ xs) x = ap (λ (ys : List Step). f y ∷ ys) (map-append_one xs x)

      between : Bool → List Step
      between b = cond b (record {
        time = time;
        changes = changes_between (levels_after slots bound_groups instants n)
            (levels_after slots bound_groups instants (n + 1));
      } ∷ []) []

      same : f n ≡ record {
        time = time;
        changes = changes_between (levels_after slots bound_groups instants n)
            (levels_after slots bound_groups instants (n + 1));
      }
      same = sym (rw (e, changes_between-instants n) refl)

      by_test : (b : Bool) → is_step slots bound_groups instants n ≡ b → map f (those p 0 (n + 1)) ≡ map f (those p 0 n)
          ++ between
          (any (differs (levels_after slots bound_groups instants n) (levels_after slots bound_groups instants (n + 1)))
          0
          line_count)
      by_test true h =
          ap (map f) (those-yes p n h) ∙ map-append_one (those p 0 n) n
          ∙ ap (λ (s : Step). map f (those p 0 n) ++ s ∷ []) same
          ∙ ap (λ (b : Bool). map f (those p 0 n) ++ between b) (sym h ∙ sym (any_differs-is_step n))
      by_test false h =
          ap (map f) (those-no p n h) ∙ sym (append-nil (map f (those p 0 n)))
          ∙ ap (λ (b : Bool). map f (those p 0 n) ++ between b) (sym h ∙ sym (any_differs-is_step n))

  -- a line that doesn't change at instant n has the same level before and after it
  level_after-no_change : (n l : ℕ) → changes_at slots bound_groups instants n l ≡ false
      → level_after slots bound_groups instants
      n l ≡ level_after slots bound_groups instants (n + 1) l
  unfolding changes_at
  level_after-no_change n l h = same_level-is _ _ (not-false _ h)

  -- where there is no step at instant n, the levels before and after it are the same
  levels_after-no_step : (n : ℕ) → is_step slots bound_groups instants n ≡ false
      → levels_after slots bound_groups instants n
      ≡ levels_after slots bound_groups instants (n + 1)
  unfolding is_step
  levels_after-no_step n h =
      same_levels (levels_after slots bound_groups instants n) (levels_after slots bound_groups instants (n + 1))
      (slots-levels_after slots bound_groups instants n ∙ sym (slots-levels_after slots bound_groups instants (n + 1)))
      (length-levels_after slots bound_groups instants n) (length-levels_after slots bound_groups instants (n + 1))
      (λ l lt. level_at-levels_after slots bound_groups instants n l lt
      ∙ level_after-no_change n l
      (any-fails (changes_at slots bound_groups instants n) 0 line_count l h (omega arith) lt)
      ∙ sym (level_at-levels_after slots bound_groups instants (n + 1) l lt))

  -- the changes of a step lead from the levels before it to those after it
  levels_after-step : (n : ℕ) → changed (levels_after slots bound_groups instants n)
      (map (change_at slots bound_groups instants n) (those (changes_at slots bound_groups instants n) 0 line_count))
      ≡ levels_after slots bound_groups instants (n + 1)
  levels_after-step n =
      same_levels (changed before cs) (levels_after slots bound_groups instants (n + 1))
      (slots-kept before cs ∙ slots-levels_after slots bound_groups instants n
      ∙ sym (slots-levels_after slots bound_groups instants (n + 1)))
      (length-changed before cs ∙ length-levels_after slots bound_groups instants n)
      (length-levels_after slots bound_groups instants
      (n + 1))
      (λ l lt.
      level_at-changed_those (changes_at slots bound_groups instants n)
      (level_after slots bound_groups instants (n + 1)) before
      line_count (omega (arith, length-levels_after slots bound_groups instants n)) l
      ∙ ap (cond (nat_lt l line_count && changes_at slots bound_groups instants n l)
      (level_after slots bound_groups instants (n + 1) l)) (level_at-levels_after slots bound_groups instants n l lt)
      ∙ either (nat_lt l line_count) (changes_at slots bound_groups instants n l) l (lt-ltb l line_count lt) refl
      ∙ sym (level_at-levels_after slots bound_groups instants (n + 1) l lt))
    where
      before : Levels
      before = levels_after slots bound_groups instants n

      cs : List Change
      cs = map (change_at slots bound_groups instants n) (those (changes_at slots bound_groups instants n) 0 line_count)

      either : (a b : Bool) (l : ℕ) → a ≡ true → changes_at slots bound_groups instants n l ≡ b
          → cond (a && b) (level_after slots bound_groups instants (n + 1) l) (level_after slots bound_groups instants n
          l) ≡ level_after slots bound_groups instants (n + 1) l
      either true true l e h = refl
      either true false l e h = level_after-no_change n l h
      either false b l e h = absurd cc

  -- where a line changes at instant n, its level after n + 1 instants is a change from the levels after n
  IsChange-changes_at : (n l : ℕ) → l < line_count → changes_at slots bound_groups instants n l ≡ true
      → IsChange (levels_after slots bound_groups instants n)
      (to_level (level_after slots bound_groups instants (n + 1))
      l)
  unfolding changes_at
  IsChange-changes_at n l lt h = record {
    exists = ap (λ (s : ℕ). has_line s l) (slots-levels_after slots bound_groups instants n)
        ∙ changes_at-has_line n l h;
    other = ap (λ (x : Level). same_level x (level_after slots bound_groups instants (n + 1) l))
        (level_at-levels_after slots bound_groups instants n l lt) ∙ not-true _ h;
  }

  -- the number of steps at the first i instants
  abbrev step_count : ℕ → ℕ
  step_count i = length (those (is_step slots bound_groups instants) 0 i)

  -- the first `end` instants, which are all in the dump
  module _ (end : ℕ) (within : end ≤ length instants) where
    -- the recording of the first `end` instants
    abbrev whole : Trace
    whole = recording slots bound_groups instants end

    -- the steps at the first i instants are well formed; `clock` is the time of the last of them, if there is one
    record IsSound (i : ℕ) : Type 0 where
      clock : ℕ
      checked : HasChecked whole (step_count i) (levels_after slots bound_groups instants i) clock
      earlier : (step_count i ≡ 0) ⊎ ((j : ℕ) × (j < i) × (clock ≡ time_of (slice_get instants j)))

    -- no steps at all are well formed
    IsSound-no_instant : IsSound 0
    unfolding levels_at recording those
    IsSound-no_instant = record {
      clock = 0;
      checked = record { levels = refl; time = refl; sound = any-empty _ 0 };
      earlier = inl refl;
    }

    -- the step at instant i comes after the steps at the instants before it
    slice_get-step : (i : ℕ) → i < end → is_step slots bound_groups instants i ≡ true → slice_get whole.steps
        (step_count i) ≡ Some (step_at slots bound_groups instants i)
    unfolding recording
    slice_get-step i lt h = slice_get-map (step_at slots bound_groups instants)
        (those (is_step slots bound_groups instants) 0
        (end)) (step_count i) i (slice_get-those (is_step slots bound_groups instants) (end) i lt h)

    -- the step at instant i may follow the steps at the instants before it
    may_follow-step : TimesAscend instants → (i : ℕ) → i < end → is_step slots bound_groups instants i ≡ true
        → (s : IsSound i) → may_follow (levels_after slots bound_groups instants i) (step_count i) s.clock
        (step_at slots bound_groups instants i) ≡ true
    unfolding step_at is_step
    may_follow-step up i lt h s =
        may_follow-changes (levels_after slots bound_groups instants i) (step_count i) s.clock
        (step_at slots bound_groups instants i)
        (first_or_later (step_count i) s.clock (time_of (slice_get instants i)) (elim s.earlier [
          | inl none ↦ inl none
          | inr at ↦ inr
              (let rises = time_of-ascends instants up at.0 i at.1 (omega (arith, lt, within)) in omega
              (arith, at.2, rises))
        ]))
        (is_empty-false _ (omega (
          arith,
          length-those_positive (changes_at slots bound_groups instants i) line_count h,
          length-map (those (changes_at slots bound_groups instants i) 0 line_count)
              (change_at slots bound_groups instants i),
        )))
        (AreChanges-those (levels_after slots bound_groups instants i) (changes_at slots bound_groups instants i)
        (level_after slots bound_groups instants (i + 1)) line_count (λ l l-lt c. IsChange-changes_at i l l-lt c)).sound

    -- if the steps at the first i instants are well formed, so are those at the first i + 1
    IsSound-next : TimesAscend instants → (i : ℕ) → i < end → (b : Bool) → is_step slots bound_groups instants i
        ≡ b → IsSound i → IsSound (i + 1)
    unfolding step_at
    IsSound-next up i lt true h s =
        let more : step_count (i + 1) ≡ step_count i + 1 = ap length
        (those-yes (is_step slots bound_groups instants) i h)
        ∙ length-append (those (is_step slots bound_groups instants) 0 i) (i ∷ []) in
        let next = HasChecked-step whole (step_count i) (levels_after slots bound_groups instants i) s.clock
        (step_at slots bound_groups instants i) s.checked (slice_get-step i lt h) (may_follow-step up i lt h s) in
        record {
          clock = time_of (slice_get instants i);
          checked = subst (λ (n : ℕ). HasChecked whole n (levels_after slots bound_groups instants (i + 1))
              (time_of (slice_get instants i))) (sym more)
              (subst (λ (v : Levels). HasChecked whole (step_count i + 1) v (time_of (slice_get instants i)))
              (levels_after-step i)
              next);
          earlier = inr (i, omega arith, refl);
        }
    IsSound-next up i lt false h s =
        let same : step_count (i + 1) ≡ step_count i = ap length (those-no (is_step slots bound_groups instants) i h) in
        record {
          clock = s.clock;
          checked = subst (λ (n : ℕ). HasChecked whole n (levels_after slots bound_groups instants (i + 1)) s.clock)
              (sym same)
              (subst (λ (v : Levels). HasChecked whole (step_count i) v s.clock) (levels_after-no_step i h) s.checked);
          earlier = elim s.earlier [ inl none ↦ inl (same ∙ none) | inr at ↦ inr (at.0, omega (arith, at.1), at.2) ];
        }

    -- the steps at the first i instants are well formed
    IsSound-instants : TimesAscend instants → (i : ℕ) → i ≤ end → IsSound i
    IsSound-instants up zero le = IsSound-no_instant
    IsSound-instants up (suc i) le =
        let more : i + 1 ≡ suc i = omega arith in
        subst IsSound more (IsSound-next up i (omega (arith, le)) (is_step slots bound_groups instants i) refl
        (IsSound-instants up i (omega (arith, le))))

    -- no step of the recording is malformed, if the times of the instants ascend
    pub malformed_step-recording : TimesAscend instants → malformed_step (recording slots bound_groups instants (end))
        ≡ None
    unfolding recording
    malformed_step-recording up =
        let s = IsSound-instants up (end) (omega arith) in
        malformed_step-none whole (step_count (end)) (levels_after slots bound_groups instants (end))
        s.clock s.checked (sym (length-map (those (is_step slots bound_groups instants) 0 (end))
        (step_at slots bound_groups instants)))
