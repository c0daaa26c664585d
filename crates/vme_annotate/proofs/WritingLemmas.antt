-- The time stamps that are passed while a dump is written up to a time, and the place between items that is reached
-- there.
use Rattle.std.proofs.Common.{◌≡◌, ℕ, zero, suc, get_or, ◌<◌, ◌≤◌, true, false, eqb, List, [], ◌∷◌, ◌++◌, length}
use Rattle.std.proofs.Common.{refl, sym, ap, subst, ◌∙◌}
use Rattle.std.proofs.Common.{arith, true≢false, inl, inr, append_assoc}
use Rattle.std.specs.Prelude.{nat_lt, max, slice_get, ◌&&◌, IfNone, IfSome, Option, None, Some}
use Rattle.std.specs.List.{list_all}
use Rattle.std.proofs.lemmas.Bool.{and_from, and_parts, eqb-true, lt-ltb, ltb-true, or_cases, or_from}
use Rattle.std.proofs.lemmas.Bool.Decides.{nat_tests}
use Rattle.std.proofs.lemmas.List.Folds.{list_all-append, list_any-append}
use Rattle.vcd_places.specs.Places.{IsAtTime, times_of_body}
use Rattle.vcd_places.specs.Times.{TimesLeft, times_left}
use Rattle.vcd_places.specs.declared.times.TimePlace.{TimePlace}
use Rattle.vcd_places.specs.Times.{IsAscendingFrom, IsReached, is_among}
use Rattle.vme_annotate.specs.declared.inserting.WritingPlace.{WritingPlace}
use Rattle.vme_annotate.specs.Writing.{IsNextTime, IsWrittenTo, StaysWithin, times_ahead}

-- numbers that are all below `low` are all below `high`
pub list_all-below_higher : (xs : List ℕ) (low high : ℕ) → low ≤ high → list_all (λ (x : ℕ). nat_lt x low) xs ≡ true
    → list_all (λ (x : ℕ). nat_lt x high) xs ≡ true
list_all-below_higher [] low high le all = refl
list_all-below_higher (x ∷ xs) low high le all =
    let parts = and_parts (nat_lt x low) (list_all (λ (y : ℕ). nat_lt y low) xs) all in
    and_from (nat_lt x high) (list_all (λ (y : ℕ). nat_lt y high) xs)
    (lt-ltb x high (omega (arith, ltb-true x low parts.0, le))) (list_all-below_higher xs low high le parts.1)

-- a number isn't one above it
eqb-below : (x n : ℕ) → x < n → eqb x n ≡ false
eqb-below x n lt = grind (arith, nat_tests, lt)

-- a number isn't among those below it
is_among-below : (xs : List ℕ) (n : ℕ) → list_all (λ (x : ℕ). nat_lt x n) xs ≡ true → is_among n xs ≡ false
is_among-below [] n all = refl
is_among-below (x ∷ xs) n all =
    let parts = and_parts (nat_lt x n) (list_all (λ (y : ℕ). nat_lt y n) xs) all in
    or_from (eqb x n) (is_among n xs) (eqb-below x n (ltb-true x n parts.0)) (is_among-below xs n parts.1)

-- a number among those that don't go back from `least` on is at least `least`
is_among-least : (least n : ℕ) (xs : List ℕ) → IsAscendingFrom least xs → is_among n xs ≡ true → least ≤ n
is_among-least least n [] from among = absurd (true≢false (sym among))
is_among-least least n (x ∷ xs) from among =
    elim (or_cases (eqb x n) (is_among n xs) among) [
      | inl is ↦ omega (arith, eqb-true x n is, from.0)
      | inr later ↦ omega (arith, from.0, is_among-least x n xs from.1 later)
    ]

-- if numbers don't go back, neither do the last of them
IsAscendingFrom-append_right : (least : ℕ) (xs ys : List ℕ) → IsAscendingFrom least (xs ++ ys) → (lower : ℕ)
    × IsAscendingFrom lower ys
IsAscendingFrom-append_right least [] ys from = (least, from)
IsAscendingFrom-append_right least (x ∷ xs) ys from = IsAscendingFrom-append_right x xs ys from.1

-- a number among two lists, and not among the first, is among the second
is_among-append_right : (n : ℕ) (xs ys : List ℕ) → is_among n (xs ++ ys) ≡ true → is_among n xs ≡ false → is_among n ys
    ≡ true
is_among-append_right n xs ys among none =
    elim (or_cases (is_among n xs) (is_among n ys)
    (sym (list_any-append (λ (x : ℕ). eqb x n) xs ys) ∙ among)) [
      | inl first ↦ absurd (true≢false (sym first ∙ none))
      | inr rest ↦ rest
    ]

-- if `time` is in the list, and each passed time is below it, then the next time is at most `time`
pub next_time-le : (time next : ℕ) (passed rest all : List ℕ) → all ≡ passed ++ next ∷ rest → IsAscendingFrom 0 all
    → list_all (λ (t : ℕ). nat_lt t time) passed ≡ true → is_among time all ≡ true → next ≤ time
next_time-le time next passed rest all split from passed_below among =
    let part = IsAscendingFrom-append_right 0 passed (next ∷ rest)
    (subst (λ (ts : List ℕ). IsAscendingFrom 0 ts) split from) in
    let here = is_among-append_right time passed (next ∷ rest) (sym (ap (is_among time) split) ∙ among)
    (is_among-below passed time passed_below) in
    elim (or_cases (eqb next time) (is_among time rest) here) [
      | inl is ↦ omega (arith, eqb-true next time is)
      | inr later ↦ is_among-least next time rest part.1.1 later
    ]

-- if `time` is in the list, and each passed time is below it, then a next time is left
pub next_time-exists : (time : ℕ) (passed all : List ℕ) → all ≡ passed ++ []
    → list_all (λ (t : ℕ). nat_lt t time) passed ≡ true → is_among time all ≡ true → ⊥
next_time-exists time passed all split passed_below among =
    true≢false (sym (is_among-append_right time passed [] (sym (ap (is_among time) split) ∙ among)
    (is_among-below passed time passed_below)))

-- a next time below `time` joins the times that are passed
pub passed-push : (time next : ℕ) (passed rest all : List ℕ) → all ≡ passed ++ next ∷ rest → next < time
    → list_all (λ (t : ℕ). nat_lt t time) passed ≡ true
    → (all ≡ (passed ++ next ∷ []) ++ rest) × (list_all (λ (t : ℕ). nat_lt t time) (passed ++ next ∷ []) ≡ true)
passed-push time next passed rest all split lt passed_below = (
  split ∙ sym (append_assoc passed (next ∷ []) rest),
  list_all-append (λ (t : ℕ). nat_lt t time) passed (next ∷ [])
      ∙ and_from (list_all (λ (t : ℕ). nat_lt t time) passed) (nat_lt next time && true) passed_below
      (and_from (nat_lt next time) true (lt-ltb next time lt) refl),
)

-- ---- one step

module _ (dump : List ℕ) (asked time : ℕ) (w : WritingPlace) (is : IsWrittenTo dump asked time w) where
  -- a time that is reached, but has no time stamp, is the one at which writing is
  IsAtTime-without_time_stamp : asked ≤ time → IsReached dump time → (is_among time (times_of_body dump) ≡ true → ⊥)
      → IsAtTime dump time w.count
  IsAtTime-without_time_stamp le reached untold =
      elim reached [
        | inl first ↦ subst (λ (t : ℕ). IsAtTime dump t w.count) (omega (arith, le, first)) is.at
        | inr among ↦ absurd (untold among)
      ]

  -- where no time stamp is left, the dump is written up to `time` by `w` as it is
  pub IsWrittenTo-no_next : asked ≤ time → IsReached dump time → w.next ≡ None → IsWrittenTo dump time time w
  IsWrittenTo-no_next le reached none = record {
    same = is.same;
    at = IsAtTime-without_time_stamp le reached (λ among. next_time-exists time is.passed (times_of_body dump)
        (is.all ∙ ap (λ (o : Option TimePlace). is.passed ++ times_ahead o w.places) none) is.passed_below among);
    passed = is.passed;
    all = is.all;
    passed_below = is.passed_below;
    next = is.next;
  }

  module _ (found : TimePlace) (next : w.next ≡ Some found) where
    -- the times of the dump are those passed, the next one, and those left
    split : times_of_body dump ≡ is.passed ++ found.time ∷ times_left w.places
    split = is.all ∙ ap (λ (o : Option TimePlace). is.passed ++ times_ahead o w.places) next

    -- `found` is the next time stamp, and ends where the dump isn't written yet
    behind : IsNextTime dump w.count w.places found
    behind = subst (λ (o : Option TimePlace). IfSome o (IsNextTime dump w.count w.places)) next is.next

    -- where the next time stamp is after `time`, the dump is written up to `time` by `w` as it is
    pub IsWrittenTo-before_next : asked ≤ time → IsReached dump time → IsAscendingFrom 0 (times_of_body dump)
        → time < found.time
        → IsWrittenTo dump time time w
    IsWrittenTo-before_next le reached sorted lt = record {
      same = is.same;
      at = IsAtTime-without_time_stamp le reached (λ among. absurd (omega (
        arith,
        lt,
        next_time-le time found.time is.passed
            (times_left w.places) (times_of_body dump) split sorted is.passed_below among,
      )));
      passed = is.passed;
      all = is.all;
      passed_below = is.passed_below;
      next = is.next;
    }

    -- where the next time stamp is `time`, the dump is written up to `time` once writing is after that time stamp
    pub IsWrittenTo-at_next : found.time ≡ time → (count : ℕ) → count ≡ max found.end w.count
        → IsWrittenTo dump time time (record w { count = count })
    IsWrittenTo-at_next e count here =
        let end : found.end ≡ count = omega (arith, here, behind.behind) in
        record {
          same = is.same;
          at = subst (λ (place : ℕ). IsAtTime dump time place) end
              (subst (λ (t : ℕ). IsAtTime dump t found.end) e behind.at);
          passed = is.passed;
          all = is.all;
          passed_below = is.passed_below;
          next = subst (λ (o : Option TimePlace). IfSome o (IsNextTime dump count w.places)) (sym next) (record {
            at = behind.at;
            behind = omega (arith, end);
            last = behind.last;
          });
        }

    module _ (later : Option TimePlace) (places : TimesLeft) (text : places.text ≡ w.places.text)
        (left : times_left w.places ≡ times_ahead later places)
        (at : IfSome later (λ f. IsAtTime w.places.text f.time f.end))
        (order : IfSome later (λ f. (w.places.at < f.end) × (f.end ≡ places.at))) where
      -- a later time stamp, if there is one, is the next
      IsNextTime-later : (o : Option TimePlace) → later ≡ o → IfSome o (IsNextTime dump w.count places)
      IsNextTime-later None e = tt
      IsNextTime-later (Some f) e =
          let here = subst (λ (o : Option TimePlace). IfSome o (λ f. IsAtTime w.places.text f.time f.end)) e at in
          let ordered = subst (λ (o : Option TimePlace). IfSome o (λ f. (w.places.at < f.end) × (f.end ≡ places.at))) e
          order in
          record {
            at = subst (λ (text : List ℕ). IsAtTime text f.time f.end) is.same here;
            behind = omega (arith, behind.behind, behind.last, ordered.0);
            last = ordered.1;
          }

      -- where the next time stamp is before `time`, `IsWrittenTo` holds once it is passed
      pub IsWrittenTo-past_next : found.time < time → IsWrittenTo dump asked time
          (record w { places = places; next = later })
      IsWrittenTo-past_next lt =
          let more = passed-push time found.time is.passed (times_left w.places)
          (times_of_body dump) split lt is.passed_below in
          record {
            same = text ∙ is.same;
            at = is.at;
            passed = is.passed ++ found.time ∷ [];
            all = more.0 ∙ ap (λ (ts : List ℕ). (is.passed ++ found.time ∷ []) ++ ts) left;
            passed_below = more.1;
            next = IsNextTime-later later refl;
          }

-- the dump that is written up to a time is so for a later time
pub IsWrittenTo-for_time : (dump : List ℕ) (asked time : ℕ) (w : WritingPlace) → IsWrittenTo dump asked asked w
    → asked ≤ time
    → IsWrittenTo dump asked time w
IsWrittenTo-for_time dump asked time w is le = record {
  same = is.same;
  at = is.at;
  passed = is.passed;
  all = is.all;
  passed_below = list_all-below_higher is.passed asked time le is.passed_below;
  next = is.next;
}

-- the times of `old` are that of `later` and then those of `new`, or none if there is no `later`
pub times_left-times_ahead : (later : Option TimePlace) (old new : TimesLeft)
    → IfSome later (λ f. times_left old ≡ f.time ∷ times_left new) → IfNone later (times_left old ≡ [])
    → times_left old ≡ times_ahead later new
times_left-times_ahead None old new some none = none
times_left-times_ahead (Some f) old new some none = some

-- where a list has no element, 0 is taken
pub get_or-past : (xs : List ℕ) (i : ℕ) → slice_get xs i ≡ None → get_or xs i 0 ≡ 0
get_or-past [] zero e = refl
get_or-past [] (suc i) e = refl
get_or-past (x ∷ xs) zero e = absurd cc
get_or-past (x ∷ xs) (suc i) e = get_or-past xs i e

-- ---- within the dump

module _ (w : WritingPlace) (is : StaysWithin w) where
  -- the end of a later time stamp is within the text
  end-within : (text : List ℕ) (later : Option TimePlace) → IfSome later (λ f. IsAtTime text f.time f.end)
      → IfSome later (λ f. f.end ≤ length text)
  end-within text None at = tt
  end-within text (Some f) at = at.within

  -- writing that passes the next time stamp stays within the text
  pub StaysWithin-past_next : (later : Option TimePlace) (places : TimesLeft) → places.text ≡ w.places.text
      → IfSome later (λ f. IsAtTime w.places.text f.time f.end)
      → StaysWithin (record w { places = places; next = later })
  StaysWithin-past_next later places text at = record {
    count = subst (λ (all : List ℕ). w.count ≤ length all) (sym text) is.count;
    next = subst (λ (all : List ℕ). IfSome later (λ f. f.end ≤ length all)) (sym text)
        (end-within w.places.text later at);
  }
