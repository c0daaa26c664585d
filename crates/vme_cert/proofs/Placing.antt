-- The row of a cycle, and the place of an expected row among the others.
use Rattle.std.proofs.Common.{◌≡◌, ℕ, zero, suc, ◌+◌, ◌*◌, ◌%◌, ◌^◌, ◌<◌, ◌≤◌, Bool, true, false, refl, ap, arith}
use Rattle.std.proofs.Common.{add-one, add-zero, lit<, ◌&&◌, ◌==◌, List, [], ◌∷◌, ◌++◌, length, cond, sym, ◌∙◌, inl}
use Rattle.std.proofs.Common.{inr, length-append, append_assoc}
use Rattle.std.specs.Prelude.{Option, ◌||◌, nat_le, if◌then◌else◌, None, Some, slice_get}
use Rattle.std.proofs.lemmas.Bool.Decides.{nat_tests}
use Rattle.std.proofs.Math.Nat.{pow-le-pow_right, pow-succ', mod-eq_of_lt}
use Rattle.std.proofs.lemmas.List.{append-nil, length-map, map-append}
use Rattle.vme_trace.specs.declared.class.Class.TheVariants as class
use Rattle.vme_trace.proofs.ListLaws.{slice_get-here}
use Rattle.vme_cert.specs.Vocabulary.{A, AddressedCycle, BBSY, Class, Levels, Needs, One, Row, Start, Stretch, Three}
use Rattle.vme_cert.specs.Vocabulary.{Trace, Two, Version, address_to, class_of, cycle_row, cycle_rows, cycle_starts}
use Rattle.vme_cert.specs.Vocabulary.{is_high, is_within, least, level_at, low, modifier_of, needs_of, rises, row_in}
use Rattle.vme_cert.specs.Vocabulary.{rows_before, rows_in, tenure_level, tenure_row, tenure_rows, tenure_slot}
use Rattle.vme_cert.specs.Vocabulary.{tenure_starts, transfer_rows, transfer_starts, without_data}
use Rattle.vme_cert.specs.Following.{count_before, count_with_cycle, count_with_tenure, expected_to}
use Rattle.vme_cert.proofs.Ranges.{eq-or_below}

-- ---- The address of a cycle, line by line.

-- the weight of the next address line is twice as much
pub weight-next : (n : ℕ) → 2 ^ (n + 1) ≡ 2 * 2 ^ n
weight-next n = rw add-one (pow-succ' 2 n)

-- the weight of address line `n + 1` is at most 2^31
pub weight-bound : (n : ℕ) → n < 31 → 2 * 2 ^ n ≤ 2147483648
weight-bound n h = let e = pow-succ' 2 n in let up : 2 ^ suc n ≤ 2 ^ 31 = pow-le-pow_right {n = 2} (lit< tt) {i = suc n}
    {j = 31} (omega arith) in omega (arith, e, up)

-- the weight of an address line isn't cut by 32 bits
pub weight-fits : (n : ℕ) → n < 31 → 2 * 2 ^ n % 4294967296 ≡ 2 * 2 ^ n
weight-fits n h = let below = weight-bound n h in mod-eq_of_lt (omega (arith, below))

-- the address on lines 1 to n is below 2 ^ (n + 1)
pub address_to-bound : (v : Levels) (n : ℕ) → address_to v n < 2 ^ (n + 1)
address_to-bound v zero = lit< tt
address_to-bound v (suc n) = by_test (is_high (level_at v (A (suc n)))) (weight-next n) (weight-next (suc n))
    (pow-succ' 2 n) (address_to-bound v n)
  where
    -- by whether the line is high
    by_test : (b : Bool) → 2 ^ (n + 1) ≡ 2 * 2 ^ n → 2 ^ (suc n + 1) ≡ 2 * 2 ^ suc n → 2 ^ suc n ≡ 2 * 2 ^ n
        → address_to v n < 2 ^ (n + 1) → address_to v n + (if b then 2 ^ suc n else 0) < 2 ^ (suc n + 1)
    by_test true e f g below = omega arith
    by_test false e f g below = omega arith

-- an address line that is needed is at most the highest one
pub is_within-address_line : (needs : Needs) (n : ℕ) → n < 31 → is_within needs (A (n + 1)) ≡ true
    → n + 1 ≤ needs.highest
is_within-address_line needs n h e = by_highest needs.modifier needs.highest e
  where
    -- by whether the cycle needs the address modifier, and by its highest address line
    by_highest : (m : Bool) (k : ℕ)
        → ((A (n + 1) == 5) || (m && ((nat_le 6 (A (n + 1)) && nat_le (A (n + 1)) 11) || (A (n + 1) == 12))) ||
        (nat_le 14 (A (n + 1)) && nat_le (A (n + 1)) (13 + k))) ≡ true → n + 1 ≤ k
    by_highest m k e = grind (arith, nat_tests)

-- an address line that isn't needed is above the highest one
pub is_within-no_address_line : (needs : Needs) (n : ℕ) → n < 31 → is_within needs (A (n + 1)) ≡ false
    → needs.highest ≤ n
is_within-no_address_line needs n h e = by_highest needs.modifier needs.highest e
  where
    -- by whether the cycle needs the address modifier, and by its highest address line
    by_highest : (m : Bool) (k : ℕ)
        → ((A (n + 1) == 5) || (m && ((nat_le 6 (A (n + 1)) && nat_le (A (n + 1)) 11) || (A (n + 1) == 12))) ||
        (nat_le 14 (A (n + 1)) && nat_le (A (n + 1)) (13 + k))) ≡ false → k ≤ n
    by_highest m k e = grind (arith, nat_tests)

-- the address up to a line that is high is that below it, and the weight of the line
pub address_to-high_line : (v : Levels) (n : ℕ) → is_high (level_at v (A (n + 1))) ≡ true → address_to v (n + 1)
    ≡ address_to v n +
    2 * 2 ^ n
address_to-high_line v n h = rw add-one (rw (rw add-one at h) (ap (λ w. address_to v n + w) (pow-succ' 2 n)))

-- the address up to a line that isn't high is that below it
pub address_to-other_line : (v : Levels) (n : ℕ) → is_high (level_at v (A (n + 1))) ≡ false → address_to v (n + 1)
    ≡ address_to v n
address_to-other_line v n h = rw add-one (rw (rw add-one at h) (add-zero (address_to v n)))

-- the row of a cycle that is no interrupt acknowledge, and not of class F, has the address on the lines that it needs
pub cycle_row-addressed : (i : ℕ) (v : Levels) (end : Option ℕ) (k : Class) → class_of v ≡ k → (k ≡ class.I → ⊥)
    → (k ≡ class.F → ⊥) → AddressedCycle i k (modifier_of v) (address_to v (needs_of v).highest) end ≡ cycle_row i v end
    k
unfolding needs_of
cycle_row-addressed i v end class.S e h f = rw e refl
cycle_row-addressed i v end class.K e h f = rw e refl
cycle_row-addressed i v end class.I e h f = absurd (h refl)
cycle_row-addressed i v end class.F e h f = absurd (f refl)

-- of the address lines an interrupt acknowledge needs those up to 3
pub needs_of-interrupt : (v : Levels) → class_of v ≡ class.I → (needs_of v).highest ≡ 3
unfolding needs_of
needs_of-interrupt v e = rw e refl

-- ---- The place of an expected row: how many rows start before an instant doesn't depend on the
-- end, and they come first.

-- the rows of two lists, put in a version, are those of the first list and then those of the second
pub rows_in-append : (v : Version) (xs ys : List Row) → rows_in v (xs ++ ys) ≡ rows_in v xs ++ rows_in v ys
unfolding rows_in
rows_in-append One xs ys = map-append without_data xs ys
rows_in-append Two xs ys = refl
rows_in-append Three xs ys = refl

-- the first of some rows, put in a version, is the first row put in it
pub rows_in-first : (v : Version) (row : Row) (rows : List Row) → rows_in v (row ∷ rows) ≡ row_in v row ∷ rows_in v rows
unfolding rows_in
rows_in-first One row rows = refl
rows_in-first Two row rows = refl
rows_in-first Three row rows = refl

-- as many rows are put in a version as there are
pub rows_in-length : (v : Version) (xs : List Row) → length (rows_in v xs) ≡ length xs
unfolding rows_in
rows_in-length One xs = length-map xs without_data
rows_in-length Two xs = refl
rows_in-length Three xs = refl

-- the row after the rows `xs` is at the index that is their number
pub rows_in-row_after : (v : Version) (xs ys : List Row) (row : Row)
    → slice_get (rows_in v (xs ++ row ∷ ys)) (length xs)
    ≡ Some (row_in v row)
rows_in-row_after v xs ys row =
    ap (slice_get (rows_in v (xs ++ row ∷ ys))) (sym (rows_in-length v xs))
    ∙ (ap (λ (rows : List Row). slice_get rows (length (rows_in v xs))) (rows_in-append v xs (row ∷ ys)
    ∙ ap (λ (rows : List Row). rows_in v xs ++ rows) (rows_in-first v row ys))
    ∙ slice_get-here (rows_in v xs) (row_in v row) (rows_in v ys))

-- whichever row is there, there is one, if b holds
length-cond_one_row : (b : Bool) (x y : Row) → length (cond b (x ∷ []) []) ≡ length (cond b (y ∷ []) [])
length-cond_one_row true x y = refl
length-cond_one_row false x y = refl

-- five lists one after the other may be put together from the right
append-five : (a b c d e : List Row) → a ++ b ++ c ++ d ++ e ≡ a ++ (b ++ (c ++ (d ++ e)))
append-five a b c d e = simp append_assoc

module _ (t : Trace) (stretch : Stretch) where
  module _ (e f : ℕ) where
    -- how many tenures start at an instant doesn't depend on the end
    pub length-tenure_rows : (i : ℕ) → length (tenure_rows t stretch e i) ≡ length (tenure_rows t stretch f i)
    unfolding tenure_rows
    length-tenure_rows i = by_test ((i == stretch.start) && low t BBSY i) (tenure_starts t stretch i) _ _ _ _
        (by_place (tenure_level t i) (tenure_slot t i))
      where
        -- by whether a tenure is open at the start of the stretch, and whether one starts
        by_test : (a b : Bool) (x y : Row) (xs ys : List Row) → length xs ≡ length ys
            → length (cond a (x ∷ []) (cond b xs [])) ≡ length (cond a (y ∷ []) (cond b ys []))
        by_test true b x y xs ys h = refl
        by_test false true x y xs ys h = h
        by_test false false x y xs ys h = refl

        -- by the level and the slot of the tenure
        by_place : (level slot : Option ℕ) → length (tenure_row i level slot (least (rises t BBSY) (i + 1) e))
            ≡ length (tenure_row i level slot (least (rises t BBSY) (i + 1) f))
        by_place None slot = refl
        by_place (Some level) None = refl
        by_place (Some level) (Some slot) = refl

    -- how many cycles start at an instant doesn't depend on the end
    pub length-cycle_rows : (i : ℕ) → length (cycle_rows t stretch e i) ≡ length (cycle_rows t stretch f i)
    unfolding cycle_rows
    length-cycle_rows i = length-cond_one_row (cycle_starts t stretch i) _ _

    -- how many transfers start at an instant doesn't depend on the end
    pub length-transfer_rows : (i : ℕ) → length (transfer_rows t stretch e i) ≡ length (transfer_rows t stretch f i)
    unfolding transfer_rows
    length-transfer_rows i = length-cond_one_row (transfer_starts t stretch i) _ _

    -- how many rows start before an instant doesn't depend on the end
    pub length-rows_before : (j : ℕ) → length (rows_before t stretch e j) ≡ length (rows_before t stretch f j)
    unfolding rows_before
    length-rows_before zero = refl
    length-rows_before (suc j) = simp (
      length-append,
      length-rows_before j,
      length-tenure_rows j,
      length-cycle_rows j,
      length-transfer_rows j,
    )

  -- the rows that start before `j + 1` are those that start before `j`, and those that start at `j`
  rows_before-next : (end j : ℕ) → rows_before t stretch end (j + 1) ≡ rows_before t stretch end j
      ++ tenure_rows t stretch end j
      ++ cycle_rows t stretch end j ++ transfer_rows t stretch end j
  unfolding rows_before
  rows_before-next end j = rw add-one refl

  -- the rows that start before `j` are the first of those that start before `n`
  rows_before-front : (end j n : ℕ) → j ≤ n → (rest : List Row)
      × (rows_before t stretch end n ≡ rows_before t stretch end j
      ++ rest)
  unfolding rows_before
  rows_before-front end j zero h = let e : j ≡ 0 = omega arith in ([], rw e refl)
  rows_before-front end j (suc n) h =
      elim (eq-or_below j (suc n) (omega arith)) [
        | inl e ↦ ([], ap (rows_before t stretch end) (sym e) ∙ sym (append-nil (rows_before t stretch end j)))
        | inr before ↦
            let (rest, is) = rows_before-front end j n (omega arith) in
            let new = tenure_rows t stretch end n ++ (cycle_rows t stretch end n ++ transfer_rows t stretch end n) in
            (rest ++ new, simp (is, append_assoc))
      ]

  -- the rows are those that start before `j`, those that start at `j`, and then the rest
  rows_before-all : (end j : ℕ) → j + 1 ≤ end → (rest : List Row) × (rows_before t stretch end end
      ≡ rows_before t stretch end j
      ++ (tenure_rows t stretch end j ++ (cycle_rows t stretch end j ++ (transfer_rows t stretch end j ++ rest))))
  rows_before-all end j h =
      let (rest, is) = rows_before-front end (j + 1) end h in (
        rest,
        is ∙ (ap (λ (rows : List Row). rows ++ rest) (rows_before-next end j)
            ∙ append-five (rows_before t stretch end j) (tenure_rows t stretch end j) (cycle_rows t stretch end j)
            (transfer_rows t stretch end j) rest),
      )

  module _ (v : Version) (done : List Row) where
    -- a row of the stretch after the rows `xs` is the expected row at `place`, which counts all rows before it
    expected_to-row : (end : ℕ) (xs ys : List Row) (row : Row) (place : ℕ) → rows_before t stretch end end ≡ xs
        ++ row ∷ ys
        → length done + 1 + length xs ≡ place → slice_get (expected_to v done t stretch end) place ≡ Some (row_in v row)
    expected_to-row end xs ys row place is at =
        let all : done ++ (Start stretch.start ∷ rows_before t stretch end end) ≡
        (done ++ Start stretch.start ∷ xs) ++ row ∷ ys =
        ap (λ (rows : List Row). done ++ (Start stretch.start ∷ rows)) is
        ∙ sym (append_assoc done (Start stretch.start ∷ xs) (row ∷ ys)) in
        ap (λ (rows : List Row). slice_get (rows_in v rows) place) all
        ∙ (ap (slice_get (rows_in v ((done ++ Start stretch.start ∷ xs) ++ row ∷ ys)))
        (sym (length-append done (Start stretch.start ∷ xs) ∙ length-before_row) ∙ refl)
        ∙ rows_in-row_after v (done ++ Start stretch.start ∷ xs) ys row)
      where
        -- there are `place` rows before the row
        length-before_row : length done + length (Start stretch.start ∷ xs) ≡ place
        length-before_row = omega (arith, at)

    module _ (end j : ℕ) (h : j + 1 ≤ end) (row : Row) where
      -- the place of a tenure that starts at `j` is the number of the expected rows before it
      pub expected_to-tenure : tenure_rows t stretch end j ≡ row ∷ []
          → slice_get (expected_to v done t stretch end) (count_before v done t stretch j) ≡ Some (row_in v row)
      expected_to-tenure is =
          let (rest, all) = rows_before-all end j h in
          expected_to-row end (rows_before t stretch end j) (cycle_rows t stretch end j
          ++ (transfer_rows t stretch end j ++ rest)) row _
          (rw is at all) (ap (λ n. length done + 1 + n) (length-rows_before end j j))

      -- the place of a cycle that starts at `j` is the number of the expected rows before it, the tenure at `j`
      -- included
      pub expected_to-cycle : cycle_rows t stretch end j ≡ row ∷ []
          → slice_get (expected_to v done t stretch end) (count_with_tenure v done t stretch j) ≡ Some (row_in v row)
      expected_to-cycle is =
          let (rest, all) = rows_before-all end j h in
          expected_to-row end (rows_before t stretch end j ++ tenure_rows t stretch end j)
          (transfer_rows t stretch end j ++ rest) row _
          (rw is at all ∙ sym (append_assoc (rows_before t stretch end j) (tenure_rows t stretch end j)
          (row ∷ (transfer_rows t stretch end j ++ rest))))
          (omega (
            arith,
            length-append (rows_before t stretch end j) (tenure_rows t stretch end j),
            length-rows_before end j j,
            length-tenure_rows end j j,
          ))

      -- the place of a transfer that starts at `j` is the number of the expected rows before it, the tenure and the
      -- cycle at `j` included
      pub expected_to-transfer : transfer_rows t stretch end j ≡ row ∷ []
          → slice_get (expected_to v done t stretch end) (count_with_cycle v done t stretch j) ≡ Some (row_in v row)
      expected_to-transfer is =
          let (rest, all) = rows_before-all end j h in
          expected_to-row end (rows_before t stretch end j ++ tenure_rows t stretch end j ++ cycle_rows t stretch end j)
          rest row
          _
          (rw is at all ∙ simp append_assoc)
          (omega (
            arith,
            length-append (rows_before t stretch end j ++ tenure_rows t stretch end j) (cycle_rows t stretch end j),
            length-append (rows_before t stretch end j) (tenure_rows t stretch end j),
            length-rows_before end j j,
            length-tenure_rows end j j,
            length-cycle_rows end j j,
          ))

    -- the rows that start before `j + 1` are those before `j` and those at `j`
    pub count_before-next : (j : ℕ) → count_before v done t stretch (j + 1)
        ≡ count_with_cycle v done t stretch j + length
        (transfer_rows t stretch j j)
    count_before-next j = simp (
      rows_before-next,
      length-append,
      length-rows_before (j + 1) j,
      length-tenure_rows (j + 1) j,
      length-cycle_rows (j + 1) j,
      length-transfer_rows (j + 1) j,
    ) (omega arith)
