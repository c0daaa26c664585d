-- What is counted row by row is the number of rows of each kind.
use Rattle.std.proofs.Common.{◌≡◌, ◌≢◌, ◌+◌, ◌*◌, ◌<◌, ℕ, Bool, true, false, List, [], ◌∷◌, length, get_or, cond}
use Rattle.std.proofs.Common.{refl, sym, ap, ◌∙◌, arith}
use Rattle.std.specs.Prelude.{◌&&◌, ◌==◌, nat_lt, count_by}
use Rattle.std.specs.List.{fold}
use Rattle.std.proofs.lemmas.List.{get_or-replicate, get_or-set_same, get_or-set_other, length-set}
use Rattle.std.proofs.lemmas.List.Sums.{sum_by-cons}
use Rattle.std.specs.Prelude.{None}
use Rattle.std.proofs.lemmas.Bool.{and_parts, eqb-true, ltb-true, eq-eqb}
use Rattle.vme_listing.specs.declared.row.Row.{Row}
use Rattle.vme_listing.specs.declared.row.Row.TheVariants as row
use Rattle.vme_monitor.specs.declared.mark.Mark.{Mark}
use Rattle.vme_summary.specs.MarkedRows.{rows_of}
use Rattle.vme_account.proofs.KindLemmas.{IgnoresEnd-weight, weight}
use Rattle.vme_account.proofs.KnownLemmas.{total-rows_of}
use Rattle.vme_account.specs.RowCounts.{count_in, is_counted, is_place, no_rows, one_if, place_of, tenures_of}
use Rattle.vme_account.specs.RowCounts.{with_one, with_row, with_tenure}
use Rattle.vme_account.specs.RowKinds.{is_of}
use Rattle.vme_account.specs.KnownRows.{knowns_from, pending_rows}
use Rattle.vme_account.specs.UnendedRows.{nothing_open, opens}
use Rattle.vme_account.specs.declared.row_counts.RowCounts.{RowCounts}
use Rattle.vme_account.specs.declared.row_kind.RowKind.{RowKind}
use Rattle.vme_account.specs.declared.row_kind.RowKind.TheVariants as kind

-- adding nothing changes nothing
add-zero : (n : ℕ) → n ≡ n + 0
add-zero n = omega arith

-- ---- the places of tenures

-- the place of a level and a slot is below 88
place_of-below_88 : (level slot : ℕ) → is_place level slot ≡ true → place_of level slot < 88
place_of-below_88 level slot is =
    let tests = and_parts (nat_lt level 4) (nat_lt slot 22) is in
    bound level slot (ltb-true level 4 tests.0) (ltb-true slot 22 tests.1)
  where
    bound : (level slot : ℕ) → level < 4 → slot < 22 → level * 22 + slot < 88
    bound level slot l s = omega (arith, l, s)

-- different levels or slots have different places
place_of-distinct : (level slot granted taken : ℕ) → is_place level slot ≡ true → is_place granted taken ≡ true
    → (granted == level && taken == slot) ≡ false → place_of level slot ≢ place_of granted taken
place_of-distinct level slot granted taken is other differs same =
    let these = and_parts (nat_lt level 4) (nat_lt slot 22) is in
    let those = and_parts (nat_lt granted 4) (nat_lt taken 22) other in
    let levels : granted ≡ level = one_level level slot granted taken
    (ltb-true slot 22 these.1) (ltb-true taken 22 those.1)
    same in
    let slots : taken ≡ slot = one_slot level slot granted taken levels same in
    let is_one : (granted == level && taken == slot) ≡ true =
    rw (eq-eqb granted level levels, eq-eqb taken slot slots) refl in
    absurd (cc (sym differs ∙ is_one))
  where
    one_level : (level slot granted taken : ℕ) → slot < 22 → taken < 22 → level * 22 + slot ≡ granted * 22 + taken
        → granted ≡ level
    one_level level slot granted taken s t same = omega (arith, s, t, same)

    one_slot : (level slot granted taken : ℕ) → granted ≡ level → level * 22 + slot ≡ granted * 22 + taken
        → taken ≡ slot
    one_slot level slot granted taken l same = omega (arith, l, same)

-- a level and a slot that pass the test are these
eqb-place : (level slot granted taken : ℕ) → (granted == level && taken == slot) ≡ true
    → (granted ≡ level) × (taken ≡ slot)
eqb-place level slot granted taken same =
    let tests = and_parts (granted == level) (taken == slot) same in
    (eqb-true granted level tests.0, eqb-true taken slot tests.1)

module _ (tenures : List ℕ) (long : length tenures ≡ 88) (level slot : ℕ) (is : is_place level slot ≡ true) where
  -- the count of the tenures of the level and the slot
  abbrev read : List ℕ → ℕ
  read these = get_or these (place_of level slot) 0

  -- the count is read at the place
  tenures_of-read : (these : List ℕ) → tenures_of these level slot ≡ read these
  tenures_of-read these = rw is refl

  -- counting a tenure adds one to the count of its level and slot
  read-with_one : read (with_one tenures (place_of level slot)) ≡ read tenures + 1
  read-with_one =
      get_or-set_same tenures (place_of level slot) (read tenures + 1) 0 (inside (place_of-below_88 level slot is))
    where
      inside : place_of level slot < 88 → place_of level slot < length tenures
      inside less = rw long less

  module _ (granted taken : ℕ) where
    -- the tenure is of the level and the slot
    abbrev is_this : Bool
    is_this = granted == level && taken == slot

    -- counting a tenure adds one to the count if it is of the level and the slot, by whether it is and whether it has a
    -- place
    by_tests : (same placed : Bool) → is_this ≡ same → is_place granted taken ≡ placed
        → read (cond placed (with_one tenures (place_of granted taken)) tenures) ≡ read tenures + one_if same
    by_tests true placed e o = of_this (eqb-place level slot granted taken e)
      where
        of_this : (granted ≡ level) × (taken ≡ slot)
            → read (cond placed (with_one tenures (place_of granted taken)) tenures) ≡ read tenures + 1
        of_this h = placed_here placed (sym o ∙ (ap (λ (l : ℕ). is_place l taken) h.0 ∙ ap (is_place level) h.1 ∙ is))
          where
            placed_here : (p : Bool) → p ≡ true
                → read (cond p (with_one tenures (place_of granted taken)) tenures) ≡ read tenures + 1
            placed_here true e = rw (h.0, h.1) read-with_one
            placed_here false e = absurd (cc e)
    by_tests false true e o =
        get_or-set_other tenures (place_of granted taken) (place_of level slot)
        (get_or tenures (place_of granted taken) 0 + 1) 0 (place_of-distinct level slot granted taken is o e)
        ∙ add-zero (read tenures)
    by_tests false false e o = add-zero (read tenures)

    -- counting a tenure adds one to the count if it is of the level and the slot
    read-with_one_if : read (cond (is_place granted taken) (with_one tenures (place_of granted taken)) tenures)
        ≡ read tenures + one_if is_this
    read-with_one_if = by_tests is_this (is_place granted taken) refl refl

  -- counting a row adds one to the count if it is the row of a tenure of the level and the slot
  read-with_tenure : (r : Row) → read (with_tenure tenures r)
      ≡ read tenures + one_if (is_of (kind.Tenures level slot) r)
  read-with_tenure (row.Start instant) = add-zero (read tenures)
  read-with_tenure (row.Reset instant) = add-zero (read tenures)
  read-with_tenure (row.OpenTenure start end) = add-zero (read tenures)
  read-with_tenure (row.Tenure start granted taken end) = read-with_one_if granted taken
  read-with_tenure (row.AddressedCycle start class modifier address end) = add-zero (read tenures)
  read-with_tenure (row.FreeCycle start modifier end) = add-zero (read tenures)
  read-with_tenure (row.InterruptCycle start granted end) = add-zero (read tenures)
  read-with_tenure (row.Transfer direction line start own answer end lanes) = add-zero (read tenures)
  read-with_tenure (row.PendingTransfer start direction) = add-zero (read tenures)
  read-with_tenure (row.Verdict outcome) = add-zero (read tenures)

-- the table of tenures keeps its length
length-with_tenure : (tenures : List ℕ) (r : Row) → length tenures ≡ 88 → length (with_tenure tenures r) ≡ 88
length-with_tenure tenures (row.Tenure start level slot end) long = by_test (is_place level slot)
  where
    by_test : (placed : Bool) → length (cond placed (with_one tenures (place_of level slot)) tenures) ≡ 88
    by_test true = length-set tenures (place_of level slot) (get_or tenures (place_of level slot) 0 + 1) ∙ long
    by_test false = long
length-with_tenure tenures (row.Start instant) long = long
length-with_tenure tenures (row.Reset instant) long = long
length-with_tenure tenures (row.OpenTenure start end) long = long
length-with_tenure tenures (row.AddressedCycle start class modifier address end) long = long
length-with_tenure tenures (row.FreeCycle start modifier end) long = long
length-with_tenure tenures (row.InterruptCycle start granted end) long = long
length-with_tenure tenures (row.Transfer direction line start own answer end lanes) long = long
length-with_tenure tenures (row.PendingTransfer start direction) long = long
length-with_tenure tenures (row.Verdict outcome) long = long

-- ---- one more row

-- one more row adds one to the count of each kind that it is of
count_in-with_row : (c : RowCounts) (r : Row) (k : RowKind) → is_counted k ≡ true → length c.tenures ≡ 88
    → count_in (with_row c r) k ≡ count_in c k + one_if (is_of k r)
count_in-with_row c r kind.OpenTenures is long = refl
count_in-with_row c r (kind.Tenures level slot) is long =
    tenures_of-read c.tenures long level slot is (with_tenure c.tenures r)
    ∙ read-with_tenure c.tenures long level slot is r
    ∙ ap (λ (n : ℕ). n + one_if (is_of (kind.Tenures level slot) r))
    (sym (tenures_of-read c.tenures long level slot is c.tenures))
count_in-with_row c r kind.SingleCycles is long = refl
count_in-with_row c r kind.BlockCycles is long = refl
count_in-with_row c r kind.FreeCycles is long = refl
count_in-with_row c r kind.InterruptCycles is long = refl
count_in-with_row c r kind.AnsweredReads is long = refl
count_in-with_row c r kind.AnsweredWrites is long = refl
count_in-with_row c r kind.AnsweredByDtack is long = refl
count_in-with_row c r kind.AnsweredByBerr is long = refl
count_in-with_row c r kind.PendingTransfers is long = refl
count_in-with_row c r kind.Resets is long = refl

-- after more rows each count is higher by the number of rows of its kind
pub count_in-rows : (rows : List Row) (c : RowCounts) (k : RowKind) → is_counted k ≡ true → length c.tenures ≡ 88
    → count_in (fold with_row c rows) k ≡ count_in c k + count_by (is_of k) rows
count_in-rows [] c k is long = add-zero (count_in c k)
count_in-rows (r ∷ rows) c k is long =
    let rest : count_in (fold with_row (with_row c r) rows) k
    ≡ count_in (with_row c r) k + count_by (is_of k) rows =
    count_in-rows rows (with_row c r) k is (length-with_tenure c.tenures r long) in
    let first : count_by (is_of k) (r ∷ rows) ≡ one_if (is_of k r) + count_by (is_of k) rows =
    sum_by-cons (λ (r : Row). one_if (is_of k r)) r rows in
    let e : count_in (fold with_row (with_row c r) rows) k ≡ count_in c k + count_by (is_of k) (r ∷ rows) =
    omega (arith, rest, first, count_in-with_row c r k is long) in
    e

-- before any row each count is 0
count_in-no_rows : (k : RowKind) → is_counted k ≡ true → count_in no_rows k ≡ 0
count_in-no_rows kind.OpenTenures is = refl
count_in-no_rows (kind.Tenures level slot) is =
    rw is (get_or-replicate 88 (place_of level slot) 0 0 (place_of-below_88 level slot is))
count_in-no_rows kind.SingleCycles is = refl
count_in-no_rows kind.BlockCycles is = refl
count_in-no_rows kind.FreeCycles is = refl
count_in-no_rows kind.InterruptCycles is = refl
count_in-no_rows kind.AnsweredReads is = refl
count_in-no_rows kind.AnsweredWrites is = refl
count_in-no_rows kind.AnsweredByDtack is = refl
count_in-no_rows kind.AnsweredByBerr is = refl
count_in-no_rows kind.PendingTransfers is = refl
count_in-no_rows kind.Resets is = refl

-- ---- all rows of some marks

-- the counts of all rows of some marks
abbrev pub counts_of : List Mark → RowCounts
counts_of ms = fold with_row (fold with_row no_rows (knowns_from nothing_open ms)) (pending_rows (opens ms).waiting)

-- after more rows the table of tenures has the length that it had
length-fold : (rows : List Row) (c : RowCounts) → length c.tenures ≡ 88 → length (fold with_row c rows).tenures ≡ 88
length-fold [] c long = long
length-fold (r ∷ rows) c long = length-fold rows (with_row c r) (length-with_tenure c.tenures r long)

-- the count of each kind is the number of its rows in the listing of the marks
pub count_in-counts_of : (k : RowKind) (ms : List Mark) → is_counted k ≡ true → count_in (counts_of ms) k
    ≡ count_by (is_of k) (rows_of None ms)
count_in-counts_of k ms is =
    let knowns = knowns_from nothing_open ms in
    let last = pending_rows (opens ms).waiting in
    let none : length (no_rows).tenures ≡ 88 = refl in
    let before : count_in (fold with_row no_rows knowns) k ≡ count_in no_rows k + count_by (is_of k) knowns =
    count_in-rows knowns no_rows k is none in
    let with_last : count_in (counts_of ms) k
    ≡ count_in (fold with_row no_rows knowns) k + count_by (is_of k) last =
    count_in-rows last (fold with_row no_rows knowns) k is (length-fold knowns no_rows none) in
    let all : count_by (is_of k) (rows_of None ms) ≡ count_by (is_of k) knowns + count_by (is_of k) last =
    total-rows_of (weight k) (IgnoresEnd-weight k) ms in
    let e : count_in (counts_of ms) k ≡ count_by (is_of k) (rows_of None ms) =
    omega (arith, before, with_last, count_in-no_rows k is, all) in
    e
