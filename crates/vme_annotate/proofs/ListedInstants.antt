-- The changes that the rows of a recording's listing make are at instants of the recording.
use Rattle.std.proofs.Common.{◌≡◌, ℕ, zero, suc, ◌+◌, ◌≤◌, ◌==◌, Bool, true, false, List, [], ◌∷◌, ◌++◌, refl}
use Rattle.std.proofs.Common.{arith, inl, inr}
use Rattle.std.specs.Prelude.{All, flat_map, if◌then◌else◌, nat_lt, ◌&&◌, IfSome, Option, None, Some}
use Rattle.std.specs.List.{AllByRecursion}
use Rattle.std.proofs.lemmas.Bool.{and_parts, ltb-true}
use Rattle.std.proofs.lemmas.List.Elements.{All-from_recursion}
use Rattle.vme_trace.specs.Cycle.{class_of}
use Rattle.vme_trace.specs.Cycles.{cycle_of, cycle_starts}
use Rattle.vme_trace.specs.Instants.{least}
use Rattle.vme_trace.specs.Judged.{Stretch, is_reset_at, judged_stretches}
use Rattle.vme_trace.specs.Levels.{Levels}
use Rattle.vme_trace.specs.LineNumbers.{AS, BBSY}
use Rattle.vme_trace.specs.Rules.{all_rules, is_unreadable}
use Rattle.vme_trace.specs.Signals.{low, rises}
use Rattle.vme_trace.specs.Tenures.{tenure_level, tenure_slot, tenure_starts}
use Rattle.vme_trace.specs.Trace.{Trace, last_instant, levels_at}
use Rattle.vme_trace.specs.Transfers.{answers, strobes_high, transfer_starts}
use Rattle.vme_trace.specs.Verdict.{least_break, least_of}
use Rattle.vme_trace.specs.declared.class.Class.{Class}
use Rattle.vme_trace.specs.declared.class.Class.TheVariants as class
use Rattle.vme_trace.specs.declared.verdict.Break.{Break}
use Rattle.vme_trace.proofs.Ranges.{least-found}
use Rattle.vme_listing.specs.Recorded.{answered_row, cycle_row, cycle_rows, limit_in, listed_end, listing_before}
use Rattle.vme_listing.specs.Recorded.{listing_by, listing_of_stretches, outcome_of, recorded_rows, reset_rows}
use Rattle.vme_listing.specs.Recorded.{rows_before}
use Rattle.vme_listing.specs.Recorded.{rows_of_stretch, tenure_row, tenure_rows, transfer_row, transfer_rows}
use Rattle.vme_listing.specs.declared.row.ListedVerdict.TheVariants.{Broken, Unreadable}
use Rattle.vme_listing.specs.declared.row.Row.{Row}
use Rattle.vme_listing.specs.declared.row.Row.TheVariants.{Reset, OpenTenure, Verdict}
use Rattle.vme_listing.proofs.FoundBreaks.{option_or-some, least_break-within}
use Rattle.vme_annotation.specs.Shown.{ShownChange, all_changes, ends, opening_changes, row_changes}
use Rattle.vme_annotation.specs.declared.shown_variable.ShownVariable.{ShownVariable}

module _ (last : ℕ) where
  -- the change is at an instant up to `last`
  abbrev IsIn : ShownChange → Type 0
  IsIn c = c.instant ≤ last

  -- each of the changes is at an instant up to `last`
  abbrev AreIn : List ShownChange → Type 0
  AreIn changes = AllByRecursion IsIn changes

  -- the changes of a row are at instants up to `last`
  abbrev RowIsIn : Row → Type 0
  RowIsIn row = AreIn (row_changes row)

  -- the changes of each row are at instants up to `last`
  abbrev RowsAreIn : List Row → Type 0
  RowsAreIn rows = AllByRecursion RowIsIn rows

  -- if the changes of two lists are at instants up to `last`, so are those of both, appended
  AreIn-append : (xs ys : List ShownChange) → AreIn xs → AreIn ys → AreIn (xs ++ ys)
  AreIn-append [] ys first second = second
  AreIn-append (x ∷ xs) ys first second = (first.0, AreIn-append xs ys first.1 second)

  -- if the changes of the rows of two lists are at instants up to `last`, so are those of both, appended
  RowsAreIn-append : (xs ys : List Row) → RowsAreIn xs → RowsAreIn ys → RowsAreIn (xs ++ ys)
  RowsAreIn-append [] ys first second = second
  RowsAreIn-append (x ∷ xs) ys first second = (first.0, RowsAreIn-append xs ys first.1 second)

  -- the changes of all rows are at instants up to `last`, if those of each row are
  AreIn-flat_map : (rows : List Row) → RowsAreIn rows → AreIn (flat_map row_changes rows)
  AreIn-flat_map [] are = tt
  AreIn-flat_map (row ∷ rows) are = AreIn-append (row_changes row) (flat_map row_changes rows) are.0
      (AreIn-flat_map rows are.1)

  -- if the changes of the rows of two lists are at instants up to `last`, so are those of either list
  RowsAreIn-if : (test : Bool) (xs ys : List Row) → RowsAreIn xs → RowsAreIn ys → RowsAreIn (if test then xs else ys)
  RowsAreIn-if true xs ys first second = first
  RowsAreIn-if false xs ys first second = second

  -- the change at an end up to `last`, if there is an end, is one
  AreIn-ends : (variable : ShownVariable) (end : Option ℕ) → IfSome end (λ e. e ≤ last) → AreIn (ends variable end)
  AreIn-ends variable None is = tt
  AreIn-ends variable (Some end) is = (is, tt)

  -- the least number below last + 1 that passes, if there is one, is at most `last`
  least-up_to_last : (p : ℕ → Bool) (first n : ℕ) → n ≤ last + 1 → IfSome (least p first n) (λ e. e ≤ last)
  least-up_to_last p first n most = by_found (least p first n) refl
    where
      -- whether a number is found or not, it is at most `last`
      by_found : (o : Option ℕ) → least p first n ≡ o → IfSome o (λ e. e ≤ last)
      by_found None e = tt
      by_found (Some i) e = let found = least-found p first n i e in omega (arith, found.below, most)

  -- ---- the rows that begin at an instant

  module _ (t : Trace) (stretch : Stretch) (end : ℕ) (most : end ≤ last + 1) (i : ℕ) (is : i ≤ last) where
    -- the changes of the row of a tenure that begins at `i`, and ends up to `last`, if it ends, are at instants up to
    -- `last`
    RowsAreIn-tenure_row : (level slot ending : Option ℕ) → IfSome ending (λ e. e ≤ last)
        → RowsAreIn (tenure_row i level slot ending)
    unfolding row_changes
    RowsAreIn-tenure_row None slot ending e = tt
    RowsAreIn-tenure_row (Some level) None ending e = tt
    RowsAreIn-tenure_row (Some level) (Some slot) ending e = ((is, AreIn-ends _ ending e), tt)

    -- the changes of the row of an open tenure that ends up to `last`, if it ends, are at instants up to `last`
    RowIsIn-OpenTenure : (ending : Option ℕ) → IfSome ending (λ e. e ≤ last) → RowIsIn (OpenTenure i ending)
    unfolding row_changes
    RowIsIn-OpenTenure ending e = (is, AreIn-ends _ ending e)

    -- the changes of the rows of the tenures that begin at `i` are at instants up to `last`
    RowsAreIn-tenure_rows : RowsAreIn (tenure_rows t stretch end i)
    unfolding tenure_rows
    RowsAreIn-tenure_rows =
        let ending = least-up_to_last (rises t BBSY) (i + 1) end most in
        RowsAreIn-if ((i == stretch.start) && low t BBSY i) (OpenTenure i (least (rises t BBSY) (i + 1) end) ∷ []) _
        (RowIsIn-OpenTenure (least (rises t BBSY) (i + 1) end) ending, tt)
        (RowsAreIn-if (tenure_starts t stretch i) _ [] (RowsAreIn-tenure_row (tenure_level t i) (tenure_slot t i)
        (least (rises t BBSY) (i + 1) end) ending) tt)

    -- the changes of the row of a cycle of any class that ends up to `last`, if it ends, are at instants up to `last`
    RowIsIn-cycle_row : (v : Levels) (ending : Option ℕ) (c : Class) → IfSome ending (λ e. e ≤ last)
        → RowIsIn (cycle_row i v ending c)
    unfolding row_changes
    RowIsIn-cycle_row v ending class.S e = (is, AreIn-ends _ ending e)
    RowIsIn-cycle_row v ending c e = (is, AreIn-ends _ ending e)

    -- the changes of the rows of the cycles that begin at `i` are at instants up to `last`
    RowsAreIn-cycle_rows : RowsAreIn (cycle_rows t stretch end i)
    unfolding cycle_rows
    RowsAreIn-cycle_rows =
        let ending = least-up_to_last (rises t AS) (i + 1) end most in
        RowsAreIn-if (cycle_starts t stretch i) _ [] (
          RowIsIn-cycle_row (levels_at t i) (least (rises t AS) (i + 1) end)
              (class_of (levels_at t i)) ending,
          tt,
        ) tt

    -- the changes of the row of a transfer that is answered are at instants up to `last`
    RowIsIn-answered_row : (r : ℕ) (cycle : Option ℕ) → RowIsIn (answered_row t stretch end i r cycle)
    unfolding row_changes
    RowIsIn-answered_row r None = (is, tt)
    RowIsIn-answered_row r (Some cycle) = (is, AreIn-ends _ _ (least-up_to_last (strobes_high t) (i + 1) end most))

    -- the changes of the row of a transfer, answered or pending, are at instants up to `last`
    RowIsIn-transfer_row : (r : Option ℕ) → RowIsIn (transfer_row t stretch end i r)
    unfolding row_changes
    RowIsIn-transfer_row None = (is, tt)
    RowIsIn-transfer_row (Some r) = RowIsIn-answered_row r (cycle_of t stretch r)

    -- the changes of the rows of the transfers that begin at `i` are at instants up to `last`
    RowsAreIn-transfer_rows : RowsAreIn (transfer_rows t stretch end i)
    unfolding transfer_rows
    RowsAreIn-transfer_rows =
        RowsAreIn-if (transfer_starts t stretch i) _ [] (RowIsIn-transfer_row (least (answers t stretch i) i end), tt)
        tt

  -- the changes of the rows that begin before the instant `n`, at most `last + 1`, are at instants up to `last`
  RowsAreIn-rows_before : (t : Trace) (stretch : Stretch) (end n : ℕ) → end ≤ last + 1 → n ≤ last + 1
      → RowsAreIn (rows_before t stretch end n)
  unfolding rows_before
  RowsAreIn-rows_before t stretch end zero most few = tt
  RowsAreIn-rows_before t stretch end (suc n) most few =
      let is : n ≤ last = omega (arith, few) in
      RowsAreIn-append (rows_before t stretch end n ++ tenure_rows t stretch end n ++ cycle_rows t stretch end n)
      (transfer_rows t stretch end n)
      (RowsAreIn-append (rows_before t stretch end n ++ tenure_rows t stretch end n) (cycle_rows t stretch end n)
      (RowsAreIn-append (rows_before t stretch end n) (tenure_rows t stretch end n)
      (RowsAreIn-rows_before t stretch end n most (omega (arith, few))) (RowsAreIn-tenure_rows t stretch end most n is))
      (RowsAreIn-cycle_rows t stretch end most n is)) (RowsAreIn-transfer_rows t stretch end most n is)

  -- ---- the rows of a stretch

  -- the changes of the row of a reset up to `last` are at instants up to `last`
  RowIsIn-Reset : (i : ℕ) → i ≤ last → RowIsIn (Reset i)
  unfolding row_changes
  RowIsIn-Reset i is = (is, (is, (is, tt)))

  -- the changes of the row of the reset that ends a stretch, if one does, are at instants up to `last`
  RowsAreIn-reset_rows : (t : Trace) (limit : ℕ) (stretch : Stretch) → limit ≤ last + 1
      → RowsAreIn (reset_rows t limit stretch)
  RowsAreIn-reset_rows t limit stretch most = by_test (is_reset_at t stretch.end && nat_lt stretch.end limit) refl
    where
      -- whether a reset ends it (`test`) or not
      by_test : (test : Bool) → (is_reset_at t stretch.end && nat_lt stretch.end limit) ≡ test
          → RowsAreIn (if test then Reset stretch.end ∷ [] else [])
      by_test true e =
          let below = ltb-true stretch.end limit (and_parts (is_reset_at t stretch.end) (nat_lt stretch.end limit) e).1
          in
          (RowIsIn-Reset stretch.end (omega (arith, below, most)), tt)
      by_test false e = tt

  -- the changes of the rows of a stretch are at instants up to `last`, if the limit is at most `last + 1`
  RowsAreIn-rows_of_stretch : (t : Trace) (limit : ℕ) (stretch : Stretch) → limit ≤ last + 1
      → RowsAreIn (rows_of_stretch t limit stretch)
  unfolding rows_of_stretch row_changes
  RowsAreIn-rows_of_stretch t limit stretch most =
      let few : limit_in t limit stretch ≤ last + 1 = omega (arith, most) in
      RowsAreIn-if (nat_lt stretch.start limit) _ [] (
        tt,
        RowsAreIn-append
            (rows_before t stretch (limit_in t limit stretch) (limit_in t limit stretch)) (reset_rows t limit stretch)
            (RowsAreIn-rows_before t stretch (limit_in t limit stretch) (limit_in t limit stretch) few few)
            (RowsAreIn-reset_rows t limit stretch most),
      ) tt

  -- the changes of the rows of several stretches are at instants up to `last`, if the limit is at most `last + 1`
  RowsAreIn-stretches : (t : Trace) (limit : ℕ) (stretches : List Stretch) → limit ≤ last + 1
      → RowsAreIn (flat_map (rows_of_stretch t limit) stretches)
  RowsAreIn-stretches t limit [] most = tt
  RowsAreIn-stretches t limit (stretch ∷ stretches) most =
      RowsAreIn-append (rows_of_stretch t limit stretch) (flat_map (rows_of_stretch t limit) stretches)
      (RowsAreIn-rows_of_stretch t limit stretch most)
      (RowsAreIn-stretches t limit stretches most)

-- ---- the verdict

-- the least break is at an instant of the recording
least_of-in_recording : (t : Trace) (stretches : List Stretch) (b : Break) → least_of all_rules t stretches ≡ Some b
    → b.instant ≤ last_instant t
least_of-in_recording t [] b e = absurd (cc)
least_of-in_recording t (stretch ∷ []) b e = let there = least_break-within t stretch all_rules b e in omega
    (arith, there.0)
least_of-in_recording t (stretch ∷ next ∷ stretches) b e =
    elim (option_or-some (least_break t stretch all_rules) (least_of all_rules t (next ∷ stretches)) b e) [
      | inl here ↦ let there = least_break-within t stretch all_rules b here in omega (arith, there.0)
      | inr later ↦ least_of-in_recording t (next ∷ stretches) b later.1
    ]

-- the row of the verdict on a break is at an instant of the recording
RowIsIn-Verdict : (t : Trace) (b : Break) → b.instant ≤ last_instant t
    → RowIsIn (last_instant t) (Verdict (outcome_of (Some b)))
unfolding row_changes
RowIsIn-Verdict t b is = by_rule (is_unreadable b.rule)
  where
    -- whether the break is of a rule that makes the recording unreadable or not
    by_rule : (unreadable : Bool) → RowIsIn (last_instant t) (Verdict (if unreadable then Unreadable b.rule b.instant
        b.line else Broken b.rule b.instant b.line))
    by_rule true = (is, (is, (is, (is, tt))))
    by_rule false = (is, (is, (is, (is, tt))))

-- the rows up to the least break, if there is one, are at instants of the recording
RowsAreIn-listing_before : (t : Trace) (stretches : List Stretch) (found : Option Break)
    → least_of all_rules t stretches ≡ found
    → RowsAreIn (last_instant t) (listing_before t stretches found)
unfolding row_changes
RowsAreIn-listing_before t stretches None e =
    RowsAreIn-append (last_instant t) (flat_map (rows_of_stretch t (listed_end t None)) stretches)
    (Verdict (outcome_of None) ∷ [])
    (RowsAreIn-stretches (last_instant t) t (listed_end t None) stretches (omega arith)) (tt, tt)
RowsAreIn-listing_before t stretches (Some b) e =
    let is = least_of-in_recording t stretches b e in
    RowsAreIn-append (last_instant t) (flat_map (rows_of_stretch t (listed_end t (Some b))) stretches)
    (Verdict (outcome_of (Some b)) ∷ [])
    (RowsAreIn-stretches (last_instant t) t (listed_end t (Some b)) stretches (omega (arith, is)))
    (RowIsIn-Verdict t b is, tt)

-- all rows of a recording are at its instants
RowsAreIn-recorded_rows : (t : Trace) → RowsAreIn (last_instant t) (recorded_rows t)
unfolding listing_by row_changes
RowsAreIn-recorded_rows t = by_stretches (judged_stretches t)
  where
    -- whichever stretches a recording has, the rows of its listing are at its instants
    by_stretches : (stretches : List Stretch) → RowsAreIn (last_instant t) (listing_of_stretches all_rules t stretches)
    by_stretches [] = (tt, tt)
    by_stretches (stretch ∷ stretches) = RowsAreIn-listing_before t (stretch ∷ stretches)
        (least_of all_rules t (stretch ∷ stretches))
        refl

-- all changes of the rows of a recording are at its instants
pub all_changes-within : (t : Trace) → All (λ (c : ShownChange). c.instant ≤ last_instant t)
    (all_changes (recorded_rows t))
all_changes-within t =
    let none : 0 ≤ last_instant t = omega arith in
    All-from_recursion (λ (c : ShownChange). c.instant ≤ last_instant t) (all_changes (recorded_rows t))
    (AreIn-append (last_instant t) opening_changes (flat_map row_changes (recorded_rows t))
    (none, (none, (none, (none, tt))))
    (AreIn-flat_map (last_instant t) (recorded_rows t) (RowsAreIn-recorded_rows t)))
