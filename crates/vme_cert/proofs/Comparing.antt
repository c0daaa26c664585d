-- The least row that differs, after one more row was taken or compared, and at the end.
use Rattle.std.proofs.Common.{◌≡◌, ℕ, zero, suc, ◌+◌, ◌-◌, ◌<◌, ◌≤◌, Bool, true, false, ◌&&◌, not, List, [], ◌∷◌, ◌++◌}
use Rattle.std.proofs.Common.{length, take, refl, sym, ◌∙◌, ap, subst, arith, inl, inr, ◌⊎◌, length-append}
use Rattle.std.specs.Prelude.{◌==◌, Option, None, Some, slice_get, MatchOption}
use Rattle.std.proofs.lemmas.Bool.Decides.{nat_tests}
use Rattle.std.proofs.lemmas.Option.{slice_get_past, slice_get_within, same_Some}
use Rattle.std.proofs.lemmas.List.{append-nil}
use Rattle.std.proofs.lemmas.Bool.{eqb-true, cases_lt}
use Rattle.vme_trace.proofs.ListLaws.{slice_get-here, slice_get-append}
use Rattle.vme_cert.specs.Vocabulary.{Row}
use Rattle.vme_cert.specs.Comparing.{Decides, Extends, IsBegun, IsCompared, IsDue, IsGiven, IsGivenNext, IsSame}
use Rattle.vme_cert.specs.Comparing.{HasComparedRow, same_to, without}
use Rattle.vme_cert.specs.declared.comparison.Comparison.{Comparison}
use Rattle.vme_cert.specs.declared.comparison.OpenRow.{OpenRow}
use Rattle.vme_cert.specs.declared.compare.Answer.TheVariants.{Yes, No}
use Rattle.vme_cert.specs.Agreement.{DecidesListing, DiffersAt}
use Rattle.vme_cert.specs.declared.compare.Answer.{Answer}
use Rattle.vme_cert.proofs.Ranges.{by_either_value}

module _ {A : Type 0} where
  -- an option isn't both none and a value
  none-not_some : (x : A) → None ≡ Some x → ⊥
  none-not_some x h = cc

  -- lists that have the same first n items begin with the same n items
  pub take-same_items : (n : ℕ) (xs ys : List A) → ((i : ℕ) → i < n → slice_get xs i ≡ slice_get ys i) → take n xs
      ≡ take n ys
  take-same_items zero xs ys h = refl
  take-same_items (suc n) [] [] h = refl
  take-same_items (suc n) [] (y ∷ ys) h = absurd (none-not_some y (h 0 (omega arith)))
  take-same_items (suc n) (x ∷ xs) [] h = absurd (none-not_some x (sym (h 0 (omega arith))))
  take-same_items (suc n) (x ∷ xs) (y ∷ ys) h = rw (
    same_Some x y (h 0 (omega arith)),
    take-same_items n xs ys
        (λ i b. h (suc i) (omega arith)),
  ) refl

  -- lists that have the same items are equal
  list-same_items : (xs ys : List A) → ((i : ℕ) → slice_get xs i ≡ slice_get ys i) → xs ≡ ys
  list-same_items [] [] h = refl
  list-same_items [] (y ∷ ys) h = absurd (none-not_some y (h 0))
  list-same_items (x ∷ xs) [] h = absurd (none-not_some x (sym (h 0)))
  list-same_items (x ∷ xs) (y ∷ ys) h = rw (same_Some x y (h 0), list-same_items xs ys (λ i. h (suc i))) refl

  -- where a list has no item n, it has at most n
  length-at_most_missing : (xs : List A) (n : ℕ) → slice_get xs n ≡ None → length xs ≤ n
  length-at_most_missing [] n h = omega arith
  length-at_most_missing (x ∷ xs) zero h = absurd (none-not_some x (sym h))
  length-at_most_missing (x ∷ xs) (suc n) h = omega (arith, length-at_most_missing xs n h)

-- a place that isn't open without a row is that of the row, or wasn't open
without-fails : (open_at : ℕ → Bool) (row : OpenRow) (n : ℕ) → without open_at (Some row) n ≡ false
    → (n ≡ row.place) ⊎ (open_at n ≡ false)
without-fails open_at row n off = by_either_value (n == row.place) (λ f. inl (eqb-true n row.place f))
    (λ f. by_either_value (open_at n)
    (λ e. let h : (true && not false) ≡ false = rw (e, f) at off in absurd (cc)) (λ e. inr e))

module _ (given expected : List Row) (taken : ℕ) (open_at : ℕ → Bool) (row : OpenRow) where
  -- an open row that differs is the least that does, if the least so far doesn't come before it
  pub compare_row-other : (wrong : Option ℕ) → IsCompared given expected taken open_at wrong → row.place < taken
      → row.place ≤ same_to taken wrong → (IsSame given expected row.place → ⊥)
      → IsCompared given expected taken (without open_at (Some row)) (Some (row.place + 1))
  compare_row-other wrong h within sooner other =
      let back : row.place + 1 - 1 ≡ row.place = omega arith in
      record {
        same = λ n below off. elim (without-fails open_at row n off) [
          | inl e ↦ absurd (omega arith)
          | inr closed ↦ h.same n (omega arith) closed
        ];
        differs = (omega arith, omega arith, rw back other);
      }

  -- an open row that doesn't come before the least that differs leaves it as it is
  pub compare_row-later : (wrong : Option ℕ) → IsCompared given expected taken open_at wrong
      → same_to taken wrong ≤ row.place → IsCompared given expected taken (without open_at (Some row)) wrong
  compare_row-later wrong h later = record {
    same = λ n below off. elim (without-fails open_at row n off) [
      | inl e ↦ absurd (omega arith)
      | inr closed ↦ h.same n below closed
    ];
    differs = h.differs;
  }

-- `IsCompared` stays if more rows are given and taken, each of them open, and each open row stays open
pub IsCompared-more : (given more expected expected_rows : List Row) (taken next : ℕ) (open_at now : ℕ → Bool)
    (wrong : Option ℕ)
    → taken ≤ next → Extends given more taken → Extends expected expected_rows taken
    → ((n : ℕ) → n < next → now n ≡ false → (n < taken) × (open_at n ≡ false))
    → IsCompared given expected taken open_at wrong → IsCompared more expected_rows next now wrong
IsCompared-more given more expected expected_rows taken next open_at now None order extends all kept h = record {
  same = λ n below off. let was = kept n below off in extends n was.0 ∙ h.same n was.0 was.1 ∙ sym (all n was.0);
  differs = tt;
}
IsCompared-more given more expected expected_rows taken next open_at now (Some row) order extends all kept h =
    let (first, within, other) = h.differs in
    let taken_before : (n : ℕ) → n < row - 1 → n < taken = λ n below. omega (arith, first, within) in
    let last : row - 1 < taken = omega (arith, first, within) in
    record {
      same = λ n below off.
          let within = taken_before n below in
          extends n within ∙ h.same n below (kept n (omega arith) off).1 ∙ sym (all n within);
      differs = (
        first,
        omega (arith, within),
        λ same. other (sym (extends (row - 1) last) ∙ same ∙ all (row - 1) last),
      );
    }

-- `IsCompared` stays if each open row stays open, and others may be open
pub IsCompared-more_open : {given expected : List Row} {taken : ℕ} {open_at : ℕ → Bool} {wrong : Option ℕ}
    (now : ℕ → Bool)
    → IsCompared given expected taken open_at wrong → ((n : ℕ) → now n ≡ false → open_at n ≡ false)
    → IsCompared given expected taken now wrong
IsCompared-more_open now h kept = record {
  same = λ n below off. h.same n below (kept n off);
  differs = h.differs;
}

-- after one row was compared
module _ {Source : Type 0} {o : Option OpenRow} {edge : Option ℕ} {old new : Comparison Source}
    (s : HasComparedRow o edge old new) where
  -- `IsCompared` holds after a row with its last edge was compared, whose place is no longer open
  pub compare_row-compared : {given expected : List Row} {open_at : ℕ → Bool}
      → IsCompared given expected old.taken open_at old.wrong → IsDue given expected old.taken edge o
      → IsCompared given expected new.taken (without open_at o) new.wrong
  compare_row-compared {given} {expected} {open_at} h due =
      subst (λ n. IsCompared given expected n (without open_at o) new.wrong) (sym s.taken)
      (s.wrong given expected open_at h due)

  -- `IsGiven` still holds after a row was compared
  pub compare_row-given : {Whole : Type 0} {gave : Whole → Source → List Row → Type 0} {is_over : Source → Type 0}
      {whole : Whole} {given : List Row} → IsGiven gave is_over whole given old.source old.taken
      → IsGiven gave is_over whole given new.source new.taken
  compare_row-given {gave = gave} {is_over = is_over} {whole = whole} {given = given} h =
      subst (IsGiven gave is_over whole given new.source) (sym s.taken)
      (subst (λ (c : Source). IsGiven gave is_over whole given c old.taken) (sym s.source) h)

-- after one more row was taken
module _ {Whole Source : Type 0} {gave : Whole → Source → List Row → Type 0} {is_over : Source → Type 0}
    {expected : Row}
    {old new : Comparison Source} {row : OpenRow} (b : IsBegun gave is_over expected old new row) where
  -- what was compared holds after one more row was taken, which is open
  pub IsCompared-begun : {given expected_rows : List Row} {open_at : ℕ → Bool} (more all : List Row) (now : ℕ → Bool)
      → IsCompared given expected_rows old.taken open_at old.wrong → Extends given more old.taken
      → Extends expected_rows all old.taken
      → ((n : ℕ) → now n ≡ false → (open_at n ≡ false) × ((n == row.place) ≡ false))
      → IsCompared more all new.taken now new.wrong
  IsCompared-begun {given} {expected_rows} {open_at} more all now h extends others kept =
      subst (λ n. IsCompared more all n now new.wrong) (sym b.taken)
      (subst (λ (w : Option ℕ). IsCompared more all (old.taken + 1) now w) (sym b.wrong)
      (IsCompared-more given more expected_rows all old.taken (old.taken + 1) open_at now old.wrong (omega arith)
      extends
      others
      (λ n below off. (below_last n b.place below (kept n off).1, (kept n off).0)) h))
    where
      -- a place up to that of the new row, and not that, is below it
      below_last : (n : ℕ) → row.place ≡ old.taken → n < old.taken + 1 → (n == row.place) ≡ false → n < old.taken
      below_last n e below other = grind (arith, nat_tests)

module _ {Whole Source : Type 0} {gave : Whole → Source → List Row → Type 0} {is_over : Source → Type 0}
    {whole : Whole} where
  -- after the source was asked for one more row, what it gave is the row at place `taken`, if it gave one
  pub IsGivenNext-asked : {given : List Row} {old : Source} {taken : ℕ} (row : Option Row) (new : Source)
      → IsGiven gave is_over whole given old taken
      → MatchOption row (gave whole new given) (λ row. gave whole new (given ++ row ∷ []))
      → (row ≡ None → is_over new) → (is_over old → row ≡ None)
      → IsGivenNext gave is_over whole given row new taken
  IsGivenNext-asked {given} {old} {taken} None new h asked over stays = record {
    more = given;
    is_given = record { gave_is = asked; count = inr (over refl, omega (arith, given-at_most h.count)) };
    extends = λ n below. refl;
    given_is = sym (slice_get_past given taken (given-at_most h.count));
  }
    where
      -- at most `taken` rows were given
      given-at_most : (length given ≡ taken) ⊎ (is_over old × (length given ≤ taken)) → length given ≤ taken
      given-at_most (inl e) = omega arith
      given-at_most (inr short) = short.1
  IsGivenNext-asked {given} {old} {taken} (Some row) new h asked over stays =
      let all : length given ≡ taken = given-all h.count in
      record {
        more = given ++ row ∷ [];
        is_given = record { gave_is = asked; count = inl (length-append given (row ∷ []) ∙ ap (λ n. n + 1) all) };
        extends = λ n below. slice_get-append given (row ∷ []) n (omega (arith, all, below));
        given_is = sym (ap (slice_get (given ++ row ∷ [])) (sym all) ∙ slice_get-here given row []);
      }
    where
      -- exactly `taken` rows were given, since the source isn't over
      given-all : (length given ≡ taken) ⊎ (is_over old × (length given ≤ taken)) → length given ≡ taken
      given-all (inl e) = e
      given-all (inr short) = absurd (none-not_some row (sym (stays short.0)))

-- at the end no row is open
module _ {Source : Type 0} (is_over : Source → Type 0) (given expected : List Row) (taken : ℕ)
    (all : taken ≡ length expected) where
  -- if a row that was compared differs, the least such row is the answer
  pub Decides-other : (source : Source) (row : ℕ) → IsCompared given expected taken (λ n. false) (Some row)
      → (length given ≡ taken) ⊎ (is_over source × (length given ≤ taken))
      → Decides is_over given expected source (No row)
  Decides-other source row h count =
      let (first, within, other) = h.differs in (
        record {
          first = first;
          before = take-same_items (row - 1) given expected (λ i b. h.same i b refl);
          here =
              other;
        },
        elim count [ inl e ↦ inl (omega (arith, within)) | inr short ↦ inr short.0 ],
      )

  module _ (more : List Row) (extends : Extends given more taken)
      (h : IsCompared given expected taken (λ n. false) None) where
    -- if no row differs, and the source gives one more row, that row is the answer
    pub Decides-longer : (source : Source) (row : Row) → Some row ≡ slice_get more taken
        → Decides is_over more expected source (No (taken + 1))
    Decides-longer source row is =
        let back : taken + 1 - 1 ≡ taken = omega arith in
        let long : taken < length more = slice_get_within more taken row (sym is) in (
          record {
            first = omega arith;
            before = rw back (take-same_items taken more expected (λ i b. extends i b ∙ h.same i b refl));
            here = rw back (λ same. none-not_some row
                (sym (is ∙ same ∙ slice_get_past expected taken (omega (arith, all)))));
          },
          inl (omega arith),
        )

    -- if no row differs, and the source gives no more row, the rows are the expected ones
    pub Decides-same : (source : Source) → None ≡ slice_get more taken → is_over source
        → Decides is_over more expected source
        Yes
    Decides-same source is over = (
      list-same_items more expected (λ n. elim (cases_lt n taken) [
        | inl below ↦ extends n below ∙ h.same n below refl
        | inr from ↦
            slice_get_past more n (omega (arith, length-at_most_missing more taken (sym is)))
            ∙ sym (slice_get_past expected n (omega (arith, all)))
      ]),
      over,
    )

-- ---- The answer to all rows that are given, by those that were asked for.

-- an answer for the rows that were asked for is one for all rows, if none is left once the source is over
pub DecidesListing-all : {Source : Type 0} (is_over : Source → Type 0) (given more expected : List Row)
    (source : Source)
    (answer : Answer) → Decides is_over given expected source answer → (is_over source → more ≡ [])
    → DecidesListing (given ++ more) expected answer
DecidesListing-all is_over given more expected source Yes (same, over) none =
    ap (λ (rows : List Row). given ++ rows) (none over) ∙ (append-nil given ∙ same)
DecidesListing-all is_over given more expected source (No row) (differs, known) none = by_count known
  where
    -- by whether the row that differs is among those given, or the source is over
    by_count : (row ≤ length given) ⊎ is_over source → DiffersAt (given ++ more) expected row
    by_count (inr over) = subst (λ (rows : List Row). DiffersAt rows expected row)
        (sym (ap (λ (rows : List Row). given ++ rows) (none over) ∙ append-nil given)) differs
    by_count (inl within) =
        let first = differs.first in
        record {
          first = first;
          before = take-same_items (row - 1) (given ++ more) given
              (λ i below. slice_get-append given more i (omega (arith, below, within))) ∙ differs.before;
          here = λ same. differs.here
              (sym (slice_get-append given more (row - 1) (omega (arith, first, within))) ∙ same);
        }
