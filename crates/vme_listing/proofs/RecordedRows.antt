-- At each listed instant at most one tenure, one cycle and one transfer begin, each with a row that its form allows.
use Rattle.std.proofs.Common.{◌≡◌, ℕ, ◌+◌, ◌-◌, ◌^◌, ◌<◌, ◌≤◌, ◌==◌, Bool, true, false, ◌&&◌, not, cond}
use Rattle.std.proofs.Common.{List, [], ◌∷◌, refl, arith}
use Rattle.std.specs.Prelude.{Option, None, Some, option_map, option_and_then, if◌then◌else◌}
use Rattle.std.proofs.lemmas.Bool.Decides.{nat_tests}
use Rattle.std.proofs.lemmas.Bool.{and_from, not-false, eqb-false}
use Rattle.vme_trace.specs.Instants.{greatest, least}
use Rattle.vme_trace.specs.LineNumbers.{AM, AS, BBSY, grant, has_line, line_count}
use Rattle.vme_trace.specs.Levels.{Levels, is_known_on}
use Rattle.vme_trace.specs.Cycle.{class_of, has_known_modifier, is_modifier_bit_known, is_needed, is_within, needs_of}
use Rattle.vme_trace.specs.Trace.{Trace, levels_at}
use Rattle.vme_trace.specs.Signals.{falls, known, low, rises}
use Rattle.vme_trace.specs.Judged.{Stretch, is_judged}
use Rattle.vme_trace.specs.Transfers.{answers, data_at, is_write, strobes_high, transfer_starts}
use Rattle.vme_trace.specs.Cycles.{cycle_of, cycle_starts}
use Rattle.vme_trace.specs.Tenures.{has_reached, taken_grant, tenure_level, tenure_slot, tenure_starts}
use Rattle.vme_trace.specs.Rules.{breaks, is_broken, is_option_equal}
use Rattle.vme_trace.specs.declared.class.Class.TheVariants as class
use Rattle.vme_trace.specs.declared.rule.Rule.TheVariants.{U2, B4}
use Rattle.vme_trace.proofs.Ranges.{any-least, least-found, greatest-below}
use Rattle.vme_trace.proofs.Changing.{bus_line_exists}
use Rattle.vme_trace.specs.declared.data.Lanes.{Lanes}
use Rattle.vme_listing.specs.Places.{is_allowed_data, has_data, is_row}
use Rattle.vme_listing.specs.Recorded.{answered_row, cycle_row, cycle_rows, data_of, direction_of, tenure_row}
use Rattle.vme_listing.specs.Recorded.{tenure_rows, transfer_row, transfer_rows}
use Rattle.vme_listing.specs.declared.row.Direction.TheVariants.{Read, Write}
use Rattle.vme_listing.specs.declared.row.Version.TheVariants.{Three}
use Rattle.vme_listing.specs.declared.row.Row.{Row}
use Rattle.vme_listing.specs.declared.row.Row.TheVariants.{OpenTenure, PendingTransfer}
use Rattle.vme_listing.proofs.RecordedLanes.{is_allowed_data-lanes_at}
use Rattle.vme_listing.proofs.RowForms.{IsMiddle, IsMiddle-cycle_row, IsMiddle-tenure, is_end_instant-least}
use Rattle.vme_listing.proofs.RowForms.{is_number-below}

-- the list has at most one row, and that is of instant i and of this kind: 2 is a tenure, 3 a cycle, 4 a transfer
abbrev pub AtMostOne : ℕ → ℕ → List Row → Type 0
AtMostOne i kind [] = Unit {0}
AtMostOne i kind (row ∷ []) = IsMiddle i kind row
AtMostOne i kind (row ∷ next ∷ rows) = ⊥

-- the slot of a tenure is one of the backplane, or one more than the last
pub slot_within : (t : Trace) (i slot : ℕ) → tenure_slot t i ≡ Some slot → (1 ≤ slot) × (slot ≤ t.opening.slots + 1)
unfolding tenure_slot
slot_within t i slot e = by_level (tenure_level t i) e
  where
    counted : (o : Option ℕ) → ((k : ℕ) → o ≡ Some k → k < t.opening.slots + 1) → option_map (λ k. 1 + k) o ≡ Some slot
        → (1 ≤ slot) × (slot ≤ t.opening.slots + 1)
    counted None h f = absurd (cc)
    counted (Some k) h f = let same : 1 + k ≡ slot = cc in let below = h k refl in (omega arith, omega arith)

    by_level : (o : Option ℕ) → option_map (λ k. 1 + k)
        (option_and_then (λ n. greatest (has_reached t (taken_grant t i) n) 0 (t.opening.slots + 1)) o) ≡ Some slot
        → (1 ≤ slot) × (slot ≤ t.opening.slots + 1)
    by_level None f = absurd (cc)
    by_level (Some n) f = counted (greatest (has_reached t (taken_grant t i) n) 0 (t.opening.slots + 1))
        (greatest-below (has_reached t (taken_grant t i) n) 0 (t.opening.slots + 1)) f

-- the level of a tenure is below 4
pub level_within : (t : Trace) (i level : ℕ) → tenure_level t i ≡ Some level → level < 4
unfolding tenure_level
level_within t i level e = (least-found (λ n. low t (grant n 0) (taken_grant t i)) 0 4 level e).below

-- if a tenure starts (`judged && falls`) and B4 isn't broken there, its slot isn't one past the last (`past`)
not_past_last_slot : (judged falls past : Bool) → (judged && falls) ≡ true → (judged && true && (true && falls && past))
    ≡ false
    → past ≡ false
not_past_last_slot true true past h e = e
not_past_last_slot true false past h e = absurd (cc)
not_past_last_slot false falls past h e = absurd (cc)

-- a tenure that breaks no rule by its slot has one of the backplane
slot_exists : (t : Trace) (stretch : Stretch) (i : ℕ) → tenure_starts t stretch i ≡ true → breaks t stretch B4 i BBSY
    ≡ false
    → is_option_equal (tenure_slot t i) (t.opening.slots + 1) ≡ false
unfolding breaks is_broken tenure_starts
slot_exists t stretch i starts unbroken = not_past_last_slot (is_judged stretch i) (falls t BBSY i)
    (is_option_equal (tenure_slot t i)
    (t.opening.slots + 1)) starts unbroken

-- a line of the modifier code is needed by a cycle of class F
needs_modifier : (v : Levels) (n : ℕ) → class_of v ≡ class.F → n < 6 → is_needed v (AM n) ≡ true
unfolding is_needed needs_of
needs_modifier v n free below = rw free (within n below)
  where
    within : (n : ℕ) → n < 6 → is_within (record { modifier = true; highest = 0 }) (6 + n) ≡ true
    within n below = grind (arith, nat_tests)

-- as a cycle starts, a line that the backplane has and that the cycle needs breaks U2, if it isn't known
needed_line_is_known : (judged starts has needed known : Bool) → (judged && starts) ≡ true → has ≡ true → needed ≡ true
    → not known
    ≡ true → (judged && has && ((judged && starts) && needed && not known)) ≡ false → ⊥
needed_line_is_known judged starts has needed known s h n k e = grind (arith, nat_tests)

-- a cycle that breaks no rule by a line that it needs, and is of class F, has a code whose bits are known
code_known : (t : Trace) (stretch : Stretch) (i : ℕ) → cycle_starts t stretch i ≡ true
    → ((l : ℕ) → l < line_count → breaks t stretch U2 i l ≡ false) → class_of (levels_at t i) ≡ class.F
    → has_known_modifier
    (levels_at t i) ≡ false → ⊥
unfolding breaks is_broken cycle_starts known
code_known t stretch i starts unbroken free unknown =
    let v = levels_at t i in
    let found = any-least (λ n. not (is_modifier_bit_known v n)) 0 6 (not-false _ unknown) in
    let n = found.0 in
    let is = least-found (λ n. not (is_modifier_bit_known v n)) 0 6 n found.1 in
    needed_line_is_known (is_judged stretch i) (falls t AS i) (has_line t.opening.slots (AM n)) (is_needed v (AM n))
    (is_known_on v (AM n))
    starts (bus_line_exists t.opening.slots (AM n) (omega (arith, is.below))) (needs_modifier v n free is.below)
    is.holds
    (unbroken (AM n) (omega (arith, is.below)))

-- the row of a write may have these data, and that of a read has none
has_data-by_direction : (write : Bool) (lanes : Lanes) → is_allowed_data lanes ≡ true
    → has_data Three (cond write Write Read)
    (cond write (Some lanes) None) ≡ true
has_data-by_direction true lanes h = h
has_data-by_direction false lanes h = refl

-- the data of a transfer is data that the row of its direction may have
data_form : (t : Trace) (stretch : Stretch) (end i r : ℕ) → has_data Three (direction_of t stretch end i)
    (data_of t stretch end i r) ≡ true
unfolding data_at
data_form t stretch end i r = has_data-by_direction (is_write t stretch i) (data_at t stretch r)
    (is_allowed_data-lanes_at (levels_at t (if transfer_starts t stretch r then r else r - 1)))

-- the instant i of a stretch, before `end`
module _ (t : Trace) (stretch : Stretch) (end : ℕ) (few : end ≤ 2 ^ 32) (i : ℕ) (listed : i < end) where
  -- at instant i at most one tenure has a row, if B4 isn't broken there
  pub tenure_one : t.opening.slots ≤ 21 → breaks t stretch B4 i BBSY ≡ false
      → AtMostOne i 2 (tenure_rows t stretch end i)
  unfolding tenure_rows is_row
  tenure_one slots unbroken = by_tests ((i == stretch.start) && low t BBSY i) (tenure_starts t stretch i) refl
    where
      taken : (level slot : Option ℕ) → tenure_level t i ≡ level → tenure_slot t i ≡ slot → is_option_equal slot
          (t.opening.slots + 1) ≡ false → AtMostOne i 2 (tenure_row i level slot (least (rises t BBSY) (i + 1) end))
      taken None slot l s unequal_past = tt
      taken (Some level) None l s unequal_past = tt
      taken (Some level) (Some slot) l s unequal_past =
          let within = slot_within t i slot s in
          let other = eqb-false slot (t.opening.slots + 1) unequal_past in
          IsMiddle-tenure i level slot (least (rises t BBSY) (i + 1) end) (is_number-below i end listed few)
          (level_within t i level l) within.0 (omega (arith, within.1, other))
          (is_end_instant-least (rises t BBSY) (i + 1) end few)

      by_tests : (opened starts : Bool) → tenure_starts t stretch i ≡ starts
          → AtMostOne i 2 (cond opened (OpenTenure i (least (rises t BBSY) (i + 1) end) ∷ [])
          (cond starts (tenure_row i (tenure_level t i) (tenure_slot t i) (least (rises t BBSY) (i + 1) end)) []))
      by_tests true starts e = record {
        allowed = and_from _ _ (is_number-below i end listed few)
            (is_end_instant-least (rises t BBSY) (i + 1) end few);
        place = refl;
        no_start = refl;
        no_reset = refl;
      }
      by_tests false true e = taken (tenure_level t i) (tenure_slot t i) refl refl (slot_exists t stretch i e unbroken)
      by_tests false false e = tt

  -- at instant i at most one cycle has a row, if U2 isn't broken there
  pub cycle_one : ((l : ℕ) → l < line_count → breaks t stretch U2 i l ≡ false)
      → AtMostOne i 3 (cycle_rows t stretch end i)
  unfolding cycle_rows
  cycle_one unbroken = by_test (cycle_starts t stretch i) refl
    where
      by_test : (starts : Bool) → cycle_starts t stretch i ≡ starts
          → AtMostOne i 3 (cond starts (cycle_row i (levels_at t i) (least (rises t AS) (i + 1) end)
          (class_of (levels_at t i)) ∷ []) [])
      by_test true e = IsMiddle-cycle_row i (levels_at t i) (least (rises t AS) (i + 1) end)
          (is_number-below i end listed few)
          (is_end_instant-least (rises t AS) (i + 1) end few) (code_known t stretch i e unbroken)
      by_test false e = tt

  -- at instant i at most one transfer has a row
  pub transfer_one : AtMostOne i 4 (transfer_rows t stretch end i)
  unfolding transfer_rows is_row cycle_of
  transfer_one = by_test (transfer_starts t stretch i)
    where
      pending : IsMiddle i 4 (PendingTransfer i (direction_of t stretch end i))
      pending = record { allowed = is_number-below i end listed few; place = refl; no_start = refl; no_reset = refl }

      answered : (r : ℕ) → r < end → (cycle : Option ℕ) → cycle_of t stretch r ≡ cycle
          → IsMiddle i 4 (answered_row t stretch end i r cycle)
      answered r below None e = pending
      answered r below (Some cycle) e =
          let first = greatest-below (cycle_starts t stretch) (stretch.start + 1) (r + 1) cycle e in
          record {
            allowed =
                and_from _ _
                (and_from _ _ (and_from _ _ (and_from _ _ (is_number-below i end listed few)
                (is_number-below cycle end (omega (arith, first)) few)) (is_number-below r end below few))
                (is_end_instant-least (strobes_high t) (i + 1) end few)) (data_form t stretch end i r);
            place = refl;
            no_start = refl;
            no_reset = refl;
          }

      by_answer : (o : Option ℕ) → ((r : ℕ) → o ≡ Some r → r < end) → IsMiddle i 4 (transfer_row t stretch end i o)
      by_answer None h = pending
      by_answer (Some r) h = answered r (h r refl) (cycle_of t stretch r) refl

      by_test : (starts : Bool) → AtMostOne i 4 (cond starts (transfer_row t stretch end i
          (least (answers t stretch i) i end)
          ∷ []) [])
      by_test true = by_answer (least (answers t stretch i) i end)
          (λ r e. (least-found (answers t stretch i) i end r e).below)
      by_test false = tt
