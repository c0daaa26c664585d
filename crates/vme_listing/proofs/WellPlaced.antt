-- The listing of a recording is well placed.
use Rattle.std.proofs.Common.{◌≡◌, ℕ, zero, suc, ◌+◌, ◌^◌, ◌<◌, ◌≤◌, ◌==◌, Bool, true, false, ◌&&◌, ◌||◌, not, cond}
use Rattle.std.proofs.Common.{min, List, [], ◌∷◌, ◌++◌, length, refl, sym, ◌∙◌, ap, subst, arith, append_assoc, ◌⊎◌}
use Rattle.std.proofs.Common.{inl, inr}
use Rattle.std.specs.Prelude.{Option, None, Some, drop, flat_map, nat_lt, take}
use Rattle.std.proofs.Math.Nat.{min-le_right, min-eq_left}
use Rattle.std.proofs.lemmas.Bool.Decides.{nat_tests}
use Rattle.std.proofs.lemmas.Bool.{and_from, le-ltb, lt-ltb}
use Rattle.vme_trace.specs.LineNumbers.{BBSY, line_count}
use Rattle.vme_trace.specs.Trace.{Trace, last_instant}
use Rattle.vme_trace.specs.Judged.{Stretch, IsStretchOf, is_reset_at, judged_stretches}
use Rattle.vme_trace.specs.Transfers.{transfer_starts}
use Rattle.vme_trace.specs.Cycles.{cycle_starts}
use Rattle.vme_trace.specs.Tenures.{tenure_starts}
use Rattle.vme_trace.specs.Rules.{breaks, all_rules, is_unreadable}
use Rattle.vme_trace.specs.Names.{rule_number}
use Rattle.vme_trace.specs.Verdict.{least_break, least_of}
use Rattle.vme_trace.specs.declared.rule.Rule.{Rule}
use Rattle.vme_trace.specs.declared.rule.Rule.TheVariants.{U2, B4}
use Rattle.vme_trace.specs.declared.verdict.Break.{Break}
use Rattle.vme_trace.proofs.JudgedStretches.{AreInOrder, AreInOrder-judged_stretches, starts_before_end}
use Rattle.vme_trace.proofs.Unjudged.{is_judged-early}
use Rattle.vme_listing.specs.Places.{follows, is_allowed_outcome, is_later_place, is_never_idle, is_reset, is_rest}
use Rattle.vme_listing.specs.Places.{is_row, is_start, is_verdict, is_well_placed, never_idles, place_of}
use Rattle.vme_listing.specs.Recorded.{cycle_rows, listed_end, listing_before, listing_by, recorded_rows}
use Rattle.vme_listing.specs.Recorded.{listing_of_stretches, outcome_of, reset_rows, rows_before, rows_of_stretch}
use Rattle.vme_listing.specs.Recorded.{tenure_rows}
use Rattle.vme_listing.specs.Recorded.{transfer_rows}
use Rattle.vme_listing.specs.declared.row.Version.TheVariants.{Three}
use Rattle.vme_listing.specs.declared.row.Row.{Row}
use Rattle.vme_listing.specs.declared.row.Row.TheVariants.{Start, Reset, Verdict}
use Rattle.vme_listing.proofs.FoundBreaks.{option_or-some, option_or-both_none, least_break-judged}
use Rattle.vme_listing.proofs.FoundBreaks.{least_break-within, breaks-never}
use Rattle.vme_listing.proofs.FoundBreaks.{breaks-not_before}
use Rattle.vme_listing.proofs.RecordedRows.{AtMostOne, cycle_one, tenure_one, transfer_one}
use Rattle.vme_listing.proofs.RowForms.{IsMiddle, is_number-below}

-- the row is of a start, a tenure, a cycle or a transfer, and a row at the place (i, kind) may follow it
record Precedes (row : Row) (i kind : ℕ) : Type 0 where
  unfinished : is_verdict row ≡ false
  goes_on : is_reset row ≡ false
  earlier : is_later_place (place_of Three row) (Some (i, kind)) ≡ true

-- what is before a place is before a place of a later instant, or of the same instant and no earlier kind
is_later_place-later : (o : Option (ℕ × ℕ)) (i j m n : ℕ) → (i < j) ⊎ ((i ≡ j) × (m ≤ n))
    → is_later_place o (Some (i, m)) ≡ true
    → is_later_place o (Some (j, n)) ≡ true
is_later_place-later None i j m n h e = refl
is_later_place-later (Some p) i j m n h e = on p.0 p.1 i j m n h e
  where
    on : (a b i j m n : ℕ) → (i < j) ⊎ ((i ≡ j) × (m ≤ n)) → (nat_lt a i || ((a == i) && nat_lt b m)) ≡ true
        → (nat_lt a j || ((a == j) && nat_lt b n)) ≡ true
    on a b i j m n (inl h) e = grind (arith, nat_tests)
    on a b i j m n (inr h) e = let same = h.0 in let most = h.1 in grind (arith, nat_tests)

-- where a row at the place (i, m) may follow, so may one at (j, n): at a later instant, or at i of no earlier kind
Precedes-later : (row : Row) (i j m n : ℕ) → (i < j) ⊎ ((i ≡ j) × (m ≤ n)) → Precedes row i m → Precedes row j n
Precedes-later row i j m n h p = record {
  unfinished = p.unfinished;
  goes_on = p.goes_on;
  earlier = is_later_place-later
      (place_of Three row) i j m n h p.earlier;
}

-- a tenure may follow the start of a stretch at the same instant
Precedes-start : (start : ℕ) → Precedes (Start start) start 2
Precedes-start start = record { unfinished = refl; goes_on = refl; earlier = higher start }
  where
    higher : (i : ℕ) → (nat_lt i i || ((i == i) && nat_lt 1 2)) ≡ true
    higher i = grind (arith, nat_tests)

-- the row isn't a verdict, as no row with a place is
record HasNoVerdict (row : Row) : Type 0 where
  no_verdict : is_verdict row ≡ false
  no_idle : is_never_idle row ≡ false

-- a row that has a place isn't a verdict
HasNoVerdict-of_place : (row : Row) (p : ℕ × ℕ) → place_of Three row ≡ Some p → HasNoVerdict row
HasNoVerdict-of_place (Verdict outcome) p e = absurd (cc)
HasNoVerdict-of_place row p e = record { no_verdict = refl; no_idle = refl }

-- what may follow a row that isn't a verdict, by whether that row is a reset
may_follow-by_tests : (ended reset idle starts ends : Bool) → ended ≡ false → idle ≡ false → cond reset (starts || ends)
    (not starts) ≡ true → (not ended && not idle && cond reset (starts || ends) (not starts)) ≡ true
may_follow-by_tests ended reset idle starts ends e f g = rw (e, f, g) refl

-- a row at the place (i, kind) that isn't a start may follow a row that precedes that place
follows-by_place : (before row : Row) (i kind : ℕ) → Precedes before i kind → is_row Three row ≡ true
    → place_of Three row
    ≡ Some (i, kind) → is_start row ≡ false → follows Three (Some before) row ≡ true
unfolding follows
follows-by_place before row i kind p allowed place no_start =
    let is = HasNoVerdict-of_place row (i, kind) place in
    and_from _ _ (and_from _ _ allowed
    (may_follow-by_tests (is_verdict before) (is_reset before) (is_never_idle row) (is_start row) (is_verdict row)
    p.unfinished is.no_idle
    (rw (p.goes_on, no_start) refl)))
    (ap (is_later_place (place_of Three before)) place ∙ p.earlier)

-- after a row of a kind, one of the next kind may follow at the same instant
Precedes-next_kind : (row : Row) (i kind : ℕ) → IsMiddle i kind row → Precedes row i (kind + 1)
Precedes-next_kind row i kind m =
    record {
      unfinished = (HasNoVerdict-of_place row (i, kind) m.place).no_verdict;
      goes_on = m.no_reset;
      earlier = ap (λ o. is_later_place o (Some (i, kind + 1))) m.place ∙ higher i kind;
    }
  where
    higher : (i kind : ℕ) → (nat_lt i i || ((i == i) && nat_lt kind (kind + 1))) ≡ true
    higher i kind = grind (arith, nat_tests)

-- `rows`, at most one row at the place (i, kind), and then `more` may follow `before`, if `more` may follow each row
-- that precedes the next kind
is_rest-group : (before : Row) (i kind : ℕ) (rows more : List Row) → AtMostOne i kind rows → Precedes before i kind
    → ((row : Row) → Precedes row i (kind + 1) → is_rest Three (Some row) more ≡ true) → is_rest Three (Some before)
    (rows ++ more) ≡ true
unfolding is_rest
is_rest-group before i kind [] more one p rest =
    rest before (Precedes-later before i i kind (kind + 1) (inr (refl, omega arith)) p)
is_rest-group before i kind (row ∷ []) more one p rest =
    and_from _ _ (follows-by_place before row i kind p one.allowed one.place
    one.no_start) (rest row (Precedes-next_kind row i kind one))
is_rest-group before i kind (row ∷ next ∷ rows) more one p rest = absurd one

-- the verdict may follow a row that isn't a verdict
is_rest-verdict : (row : Row) (found : Option Break) → is_allowed_outcome (outcome_of found) ≡ true → is_verdict row
    ≡ false
    → is_rest Three (Some row) (Verdict (outcome_of found) ∷ []) ≡ true
unfolding is_rest follows is_row
is_rest-verdict row found is e =
    and_from _ _ (and_from _ _ (and_from _ _ is (may_follow-by_tests (is_verdict row) (is_reset row)
    (never_idles (outcome_of found)) false true e (never_idles-outcome found) (of_any (is_reset row))))
    (unplaced (place_of Three row))) refl
  where
    of_any : (reset : Bool) → cond reset true true ≡ true
    of_any true = refl
    of_any false = refl

    unplaced : (o : Option (ℕ × ℕ)) → is_later_place o None ≡ true
    unplaced None = refl
    unplaced (Some p) = refl

    by_rule : (b : Break) (r : Bool) → is_unreadable b.rule ≡ r → never_idles (outcome_of (Some b)) ≡ false
    by_rule b true h = rw h refl
    by_rule b false h = rw h refl

    -- the verdict that follows from a break, or from its absence, isn't that the bus is never idle
    never_idles-outcome : (found : Option Break) → never_idles (outcome_of found) ≡ false
    never_idles-outcome None = refl
    never_idles-outcome (Some b) = by_rule b (is_unreadable b.rule) refl

-- the rules before a rule
abbrev rules_before : Rule → List Rule
rules_before r = take (rule_number r) all_rules

-- the rules after a rule
abbrev rules_after : Rule → List Rule
rules_after r = drop (rule_number r + 1) all_rules

-- an instant below i + 1 is i or below i
eq-or_below : (i s : ℕ) → s < suc i → (s ≡ i) ⊎ (s < i)
eq-or_below i s h = grind arith

-- t is a recording of at most 21 slots and fewer than 2^32 steps
module _ (t : Trace) (slots : t.opening.slots ≤ 21) (few : length t.steps < 2 ^ 32) where
  -- a stretch, of which instants before `end` are listed
  module _ (stretch : Stretch) (end : ℕ) (within : end ≤ 2 ^ 32) where
    -- no tenure starts before the start of the stretch
    tenure_rows-none_early : (i : ℕ) → i < stretch.start → tenure_rows t stretch end i ≡ []
    unfolding tenure_rows tenure_starts
    tenure_rows-none_early i h = rw (unlike i stretch.start h, is_judged-early stretch i (omega arith)) refl
      where
        unlike : (i s : ℕ) → i < s → (i == s) ≡ false
        unlike i s h = grind (arith, nat_tests)

    -- no cycle starts at the start of the stretch or before
    cycle_rows-none_early : (i : ℕ) → i ≤ stretch.start → cycle_rows t stretch end i ≡ []
    unfolding cycle_rows cycle_starts
    cycle_rows-none_early i h = rw (is_judged-early stretch i h) refl

    -- no transfer starts at the start of the stretch or before
    transfer_rows-none_early : (i : ℕ) → i ≤ stretch.start → transfer_rows t stretch end i ≡ []
    unfolding transfer_rows transfer_starts
    transfer_rows-none_early i h = rw (is_judged-early stretch i h) refl

    -- no row of the stretch begins before its start
    rows_before-none_early : (i : ℕ) → i ≤ stretch.start → rows_before t stretch end i ≡ []
    unfolding rows_before
    rows_before-none_early zero h = refl
    rows_before-none_early (suc i) h = rw (
      rows_before-none_early i (omega arith),
      tenure_rows-none_early i (omega arith),
      cycle_rows-none_early i
          (omega arith),
      transfer_rows-none_early i (omega arith),
    ) refl

    -- before the end U2 and B4 aren't broken: the lines that a cycle needs are known, and the slot of a tenure exists
    module _ (needed : (i l : ℕ) → i < end → l < line_count → breaks t stretch U2 i l ≡ false)
        (taken : (i l : ℕ) → i < end
        → l < line_count → breaks t stretch B4 i l ≡ false) where
      -- the rows that begin at instant i, and then `more`
      abbrev rows_at : ℕ → List Row → List Row
      rows_at i more = tenure_rows t stretch end i ++ (cycle_rows t stretch end i
          ++ (transfer_rows t stretch end i ++ more))

      -- the rows that begin at instant i, and `more`, may follow `before`, if `more` may follow each row that precedes
      -- instant i + 1
      is_rest-rows_at : (i : ℕ) → i < end → (before : Row) → Precedes before i 2 → (more : List Row)
          → ((row : Row) → Precedes row (suc i) 0 → is_rest Three (Some row) more ≡ true) → is_rest Three (Some before)
          (rows_at i more) ≡ true
      is_rest-rows_at i below before p more rest =
          let cycles = cycle_rows t stretch end i in
          let transfers = transfer_rows t stretch end i in
          is_rest-group before i 2 (tenure_rows t stretch end i) (cycles ++ (transfers ++ more))
          (tenure_one t stretch end within i below slots (taken i BBSY below (omega arith))) p
          (λ b pb. is_rest-group b i 3 cycles (transfers ++ more) (cycle_one t stretch end within i below
          (λ l there. needed i l below there)) pb
          (λ c pc. is_rest-group c i 4 transfers more (transfer_one t stretch end within i below) pc
          (λ d pd. rest d (Precedes-later d i (suc i) 5 0 (inl (omega arith)) pd))))

      -- the rows that begin before instant n, and `more`, may follow the start of the stretch, if `more` may follow
      -- each row that precedes instant n
      is_rest-rows_before : (n : ℕ) → stretch.start < n → n ≤ end → (more : List Row)
          → ((row : Row) → Precedes row n 0 → is_rest Three (Some row) more ≡ true)
          → is_rest Three (Some (Start stretch.start)) (rows_before t stretch end n ++ more) ≡ true
      unfolding rows_before
      is_rest-rows_before zero after below more rest = absurd (omega arith)
      is_rest-rows_before (suc i) after below more rest =
          let tenures = tenure_rows t stretch end i in
          let cycles = cycle_rows t stretch end i in
          let transfers = transfer_rows t stretch end i in
          let split : rows_before t stretch end (suc i) ++ more ≡ rows_before t stretch end i ++ rows_at i more = simp
          append_assoc in
          subst (λ rows. is_rest Three (Some (Start stretch.start)) rows ≡ true) (sym split)
          (elim (eq-or_below i stretch.start after) [
            | inl same ↦
                subst (λ rows. is_rest Three (Some (Start stretch.start)) (rows ++ rows_at i more) ≡ true)
                (sym (rows_before-none_early i (omega arith)))
                (is_rest-rows_at i (omega arith) (Start stretch.start)
                (Precedes-later (Start stretch.start) stretch.start i 2 2
                (inr (same, omega arith)) (Precedes-start stretch.start)) more rest)
            | inr before ↦
                is_rest-rows_before i before (omega arith) (rows_at i more)
                (λ a pa. is_rest-rows_at i (omega arith) a (Precedes-later a i i 0 2 (inr (refl, omega arith)) pa) more
                rest)
          ])

  -- the instant and line of the least break of stretches that follow one another, the first of which starts at `first`
  record IsNamed (first : ℕ) (b : Break) : Type 0 where
    after : first < b.instant
    below : b.instant < last_instant t + 1
    line : b.line < line_count

  -- the least break of the first stretch is after its start, within the recording and on one of the lines
  IsNamed-by_first : (stretch : Stretch) (stretches : List Stretch) (b : Break) → IsStretchOf t stretch
      → least_break t stretch all_rules
      ≡ Some b → IsNamed stretch.start b
  IsNamed-by_first stretch stretches b is e =
      let there = least_break-within t stretch all_rules b e in
      record {
        after = (least_break-judged t stretch all_rules b (starts_before_end t stretch is) e).0;
        below = there.0;
        line
            = there.1;
      }

  -- the least break of all stretches is after the start of the first, within the recording and on one of the lines
  IsNamed-least_of : (stretch : Stretch) (stretches : List Stretch) (b : Break) → AreInOrder t (stretch ∷ stretches)
      → least_of all_rules t
      (stretch ∷ stretches) ≡ Some b → IsNamed stretch.start b
  IsNamed-least_of stretch [] b order e = IsNamed-by_first stretch [] b order e
  IsNamed-least_of stretch (next ∷ stretches) b order e =
      elim (option_or-some (least_break t stretch all_rules) (least_of all_rules t (next ∷ stretches)) b e) [
        | inl here ↦ IsNamed-by_first stretch (next ∷ stretches) b order.0 here
        | inr Precedes-later ↦
            let is = IsNamed-least_of next stretches b order.3 Precedes-later.1 in
            record {
              after = omega (arith, starts_before_end t stretch order.0, order.2, is.after);
              below = is.below;
              line
                  = is.line;
            }
      ]

  -- the verdict that follows from the least break, or from its absence, is allowed
  is_allowed_outcome-least_of : (stretch : Stretch) (stretches : List Stretch) → AreInOrder t (stretch ∷ stretches)
      → (found : Option Break)
      → least_of all_rules t (stretch ∷ stretches) ≡ found → is_allowed_outcome (outcome_of found) ≡ true
  is_allowed_outcome-least_of stretch stretches order None e = refl
  is_allowed_outcome-least_of stretch stretches order (Some b) e =
      let is = IsNamed-least_of stretch stretches b order e in
      by_rule (is_unreadable b.rule) refl (is_number-below b.instant (last_instant t + 1) is.below (omega arith))
      (lt-ltb b.line line_count is.line)
    where
      by_rule : (r : Bool) → is_unreadable b.rule ≡ r → nat_lt b.instant (2 ^ 32) ≡ true → nat_lt b.line line_count
          ≡ true → is_allowed_outcome (outcome_of (Some b)) ≡ true
      by_rule true h n l = rw (h, h, n, l) refl
      by_rule false h n l = rw (h, h, n, l) refl

  -- the limit is after the start of the first stretch, and at most one more than the last instant
  record IsLimit (stretch : Stretch) (limit : ℕ) : Type 0 where
    after : stretch.start < limit
    most : limit ≤ last_instant t + 1

  -- the end of the listing is after the start of the first stretch, and at most one more than the last instant
  -- (`IsLimit`)
  IsLimit-listed_end : (stretch : Stretch) (stretches : List Stretch) → AreInOrder t (stretch ∷ stretches)
      → (found : Option Break)
      → least_of all_rules t (stretch ∷ stretches) ≡ found → IsLimit stretch (listed_end t found)
  IsLimit-listed_end stretch stretches order None e = record {
    after = omega (arith, (first stretches order).within);
    most =
        omega arith;
  }
    where
      first : (stretches : List Stretch) → AreInOrder t (stretch ∷ stretches) → IsStretchOf t stretch
      first [] order = order
      first (next ∷ stretches) order = order.0
  IsLimit-listed_end stretch stretches order (Some b) e = let is = IsNamed-least_of stretch stretches b order e in
      record { after = is.after; most = omega (arith, is.below) }

  -- at each listed instant of the stretch U2 and B4 aren't broken: the lines that a cycle needs are known, and a tenure
  -- is of a slot that exists
  abbrev IsUnbroken : ℕ → Stretch → Type 0
  IsUnbroken limit stretch = (i l : ℕ) → stretch.start < limit → i < limit → l < line_count
      → (breaks t stretch U2 i l ≡ false)
      × (breaks t stretch B4 i l ≡ false)

  -- at each listed instant of each of the stretches U2 and B4 aren't broken
  abbrev AreUnbroken : ℕ → List Stretch → Type 0
  AreUnbroken limit [] = Unit {0}
  AreUnbroken limit (stretch ∷ stretches) = IsUnbroken limit stretch × AreUnbroken limit stretches

  -- of stretches that start at the limit or later no instant is listed
  AreUnbroken-past_limit : (limit : ℕ) (stretch : Stretch) (stretches : List Stretch)
      → AreInOrder t (stretch ∷ stretches)
      → limit ≤ stretch.start
      → AreUnbroken limit (stretch ∷ stretches)
  AreUnbroken-past_limit limit stretch [] order h = (λ i l first. absurd (omega arith), tt)
  AreUnbroken-past_limit limit stretch (next ∷ stretches) order h = (
    λ i l first. absurd (omega arith),
    AreUnbroken-past_limit limit next stretches order.3
        (omega (arith, starts_before_end t stretch order.0, order.2)),
  )

  -- at no instant of a stretch without a break U2 or B4 is broken
  IsUnbroken-without_break : (stretch : Stretch) → least_break t stretch all_rules ≡ None → (limit : ℕ)
      → limit ≤ last_instant t + 1
      → IsUnbroken limit stretch
  IsUnbroken-without_break stretch e limit most i l first below there = (
    breaks-never t stretch (rules_before U2) (rules_after U2) U2 i l e (omega arith) there,
    breaks-never t stretch (rules_before B4)
        (rules_after B4) B4 i l e (omega arith) there,
  )

  -- at no instant before the least break of a stretch U2 or B4 is broken
  IsUnbroken-before_break : (stretch : Stretch) (b : Break) → least_break t stretch all_rules ≡ Some b
      → IsUnbroken b.instant stretch
  IsUnbroken-before_break stretch b e i l first below there = (
    breaks-not_before t stretch (rules_before U2) (rules_after U2) U2 b i l e below there,
    breaks-not_before t stretch (rules_before B4) (rules_after B4)
        B4 b i l e below there,
  )

  -- at no listed instant of all stretches U2 or B4 is broken, where the listing ends at the least break
  AreUnbroken-least_of : (stretch : Stretch) (stretches : List Stretch) → AreInOrder t (stretch ∷ stretches)
      → (found : Option Break)
      → least_of all_rules t (stretch ∷ stretches) ≡ found → AreUnbroken (listed_end t found) (stretch ∷ stretches)
  AreUnbroken-least_of stretch [] order None e =
      (IsUnbroken-without_break stretch e (last_instant t + 1) (omega arith), tt)
  AreUnbroken-least_of stretch [] order (Some b) e = (IsUnbroken-before_break stretch b e, tt)
  AreUnbroken-least_of stretch (next ∷ stretches) order None e =
      let none = option_or-both_none (least_break t stretch all_rules) (least_of all_rules t (next ∷ stretches)) e in (
        IsUnbroken-without_break stretch none.0 (last_instant t + 1) (omega arith),
        AreUnbroken-least_of next stretches
            order.3 None none.1,
      )
  AreUnbroken-least_of stretch (next ∷ stretches) order (Some b) e =
      elim (option_or-some (least_break t stretch all_rules) (least_of all_rules t (next ∷ stretches)) b e) [
        | inl here ↦
            let judged = least_break-judged t stretch all_rules b (starts_before_end t stretch order.0) here in (
              IsUnbroken-before_break stretch b here,
              AreUnbroken-past_limit b.instant next stretches order.3
                  (omega (arith, judged.1, order.2)),
            )
        | inr Precedes-later ↦
            let is = IsNamed-least_of next stretches b order.3 Precedes-later.1 in (
              IsUnbroken-without_break stretch Precedes-later.0 b.instant (omega (arith, is.below)),
              AreUnbroken-least_of next stretches order.3 (Some b) Precedes-later.1,
            )
      ]

  -- instants before `limit` are listed
  module _ (limit : ℕ) (most : limit ≤ last_instant t + 1) where
    -- a stretch that starts at the limit or later has no rows
    rows_of_stretch-past_limit : (stretch : Stretch) → limit ≤ stretch.start → rows_of_stretch t limit stretch ≡ []
    unfolding rows_of_stretch
    rows_of_stretch-past_limit stretch h = rw (le-ltb stretch.start limit h) refl

    -- stretches of which the first starts at the limit or later have no rows
    rows_of_stretches-past_limit : (stretch : Stretch) (stretches : List Stretch) → AreInOrder t (stretch ∷ stretches)
        → limit ≤ stretch.start
        → flat_map (rows_of_stretch t limit) (stretch ∷ stretches) ≡ []
    rows_of_stretches-past_limit stretch [] order h = rw (rows_of_stretch-past_limit stretch h) refl
    rows_of_stretches-past_limit stretch (next ∷ stretches) order h = rw (rows_of_stretch-past_limit stretch h)
        (rows_of_stretches-past_limit next stretches order.3
        (omega (arith, starts_before_end t stretch order.0, order.2)))

    -- the rows of a stretch after its start, where the start is listed
    abbrev rows_after_start : Stretch → List Row
    rows_after_start stretch = rows_before t stretch (min stretch.end limit) (min stretch.end limit)
        ++ reset_rows t limit stretch

    -- a stretch that starts before the limit has its start as a row, and then `rows_after_start`
    rows_of_stretch-after_start : (stretch : Stretch) → stretch.start < limit → rows_of_stretch t limit stretch
        ≡ Start stretch.start
        ∷ rows_after_start stretch
    unfolding rows_of_stretch
    rows_of_stretch-after_start stretch h = rw (lt-ltb stretch.start limit h) refl

    -- a reset may follow a row that precedes its place
    follows-reset : (row : Row) (i : ℕ) → i < limit → Precedes row i 0 → follows Three (Some row) (Reset i) ≡ true
    unfolding is_row
    follows-reset row i below p = follows-by_place row (Reset i) i 0 p (is_number-below i limit below (omega arith))
        refl refl

    -- the start of a later stretch may follow a reset
    follows-start : (i start : ℕ) → i < start → start < limit → follows Three (Some (Reset i)) (Start start) ≡ true
    unfolding follows is_row
    follows-start i start after below = and_from _ _
        (and_from _ _ (is_number-below start limit below (omega arith)) refl)
        (higher i start after)
      where
        higher : (i j : ℕ) → i < j → (nat_lt i j || ((i == j) && nat_lt 0 1)) ≡ true
        higher i j h = grind (arith, nat_tests)

    -- `found` is the least break, if any, and its verdict is allowed
    module _ (found : Option Break) (is : is_allowed_outcome (outcome_of found) ≡ true) where
      -- the row of the verdict
      abbrev verdict : List Row
      verdict = Verdict (outcome_of found) ∷ []

      -- the rows of stretches that follow one another, and the verdict
      abbrev rows_of : List Stretch → List Row
      rows_of stretches = flat_map (rows_of_stretch t limit) stretches ++ verdict

      -- the rows of stretches are the start of the first one, its other rows, and those of the stretches after it, if
      -- the first starts before the limit
      rows_of-first_stretch : (stretch : Stretch) (stretches : List Stretch) → stretch.start < limit
          → rows_of (stretch ∷ stretches)
          ≡ Start stretch.start ∷ rows_after_start stretch ++ rows_of stretches
      rows_of-first_stretch stretch stretches h =
          ap (λ rows. (rows ++ flat_map (rows_of_stretch t limit) stretches) ++ verdict)
          (rows_of_stretch-after_start stretch h)
          ∙ ap (λ rows. Start stretch.start ∷ rows)
          (append_assoc (rows_after_start stretch) (flat_map (rows_of_stretch t limit) stretches) verdict)

      -- where the reset of a stretch isn't listed, the later stretches have no rows, and the verdict follows
      rows_of-only_verdict : (stretch : Stretch) (stretches : List Stretch) → AreInOrder t (stretch ∷ stretches)
          → (is_reset_at t stretch.end && nat_lt stretch.end limit) ≡ false → rows_of stretches ≡ verdict
      rows_of-only_verdict stretch [] order e = refl
      rows_of-only_verdict stretch (next ∷ stretches) order e =
          ap (λ rows. rows ++ verdict)
          (rows_of_stretches-past_limit next stretches order.3 (omega (
            arith,
            order.2,
            past (is_reset_at t stretch.end) stretch.end order.1 e,
          )))
        where
          past : (b : Bool) (n : ℕ) → b ≡ true → (b && nat_lt n limit) ≡ false → limit ≤ n
          past b n h e = grind (arith, nat_tests)

      -- the rows of a stretch may follow its start, and after them what may follow its reset, where that is listed
      is_rest-stretch : (stretch : Stretch) (stretches : List Stretch) → AreInOrder t (stretch ∷ stretches)
          → IsUnbroken limit stretch
          → stretch.start < stretch.end → stretch.start < limit
          → ((is_reset_at t stretch.end && nat_lt stretch.end limit) ≡ true → is_rest Three (Some (Reset stretch.end))
          (rows_of stretches) ≡ true)
          → is_rest Three (Some (Start stretch.start)) (rows_after_start stretch ++ rows_of stretches) ≡ true
      unfolding is_rest
      is_rest-stretch stretch stretches order held whole listed after =
          let end = min stretch.end limit in
          subst (λ rows. is_rest Three (Some (Start stretch.start)) rows ≡ true)
          (sym (append_assoc (rows_before t stretch end end) (reset_rows t limit stretch) (rows_of stretches)))
          (is_rest-rows_before stretch end (omega (arith, min-le_right stretch.end limit))
          (λ i l below there. (held i l listed (omega (arith, min-le_right stretch.end limit)) there).0)
          (λ i l below there. (held i l listed (omega (arith, min-le_right stretch.end limit)) there).1)
          end (lesser stretch.start stretch.end limit whole listed) (omega arith)
          (reset_rows t limit stretch ++ rows_of stretches)
          (λ row p. by_reset row p (is_reset_at t stretch.end && nat_lt stretch.end limit) refl))
        where
          lesser : (s a b : ℕ) → s < a → s < b → s < min a b
          lesser s a b h k = grind (arith, nat_tests)

          below_limit : (b : Bool) (n : ℕ) → (b && nat_lt n limit) ≡ true → n < limit
          below_limit b n e = grind (arith, nat_tests)

          by_reset : (row : Row) → Precedes row (min stretch.end limit) 0 → (b : Bool)
              → (is_reset_at t stretch.end && nat_lt stretch.end limit) ≡ b
              → is_rest Three (Some row) (cond b (Reset stretch.end ∷ []) [] ++ rows_of stretches) ≡ true
          by_reset row p true e =
              let below = below_limit (is_reset_at t stretch.end) stretch.end e in
              and_from _ _ (follows-reset row stretch.end below (subst (λ i. Precedes row i 0)
              (min-eq_left (omega arith))
              p)) (after e)
          by_reset row p false e = subst (λ rows. is_rest Three (Some row) rows ≡ true)
              (sym (rows_of-only_verdict stretch stretches order e)) (is_rest-verdict row found is p.unfinished)

      -- the rows of a stretch, those of the stretches after it and the verdict may follow the start of the stretch
      is_rest-stretches : (stretch : Stretch) (stretches : List Stretch) → AreInOrder t (stretch ∷ stretches)
          → AreUnbroken limit
          (stretch ∷ stretches) → stretch.start < limit → is_rest Three (Some (Start stretch.start))
          (rows_after_start stretch
          ++ rows_of stretches) ≡ true
      unfolding is_rest
      is_rest-stretches stretch [] order held listed =
          is_rest-stretch stretch [] order held.0 (starts_before_end t stretch order) listed
          (λ reset. is_rest-verdict (Reset stretch.end)
          found is refl)
      is_rest-stretches stretch (next ∷ stretches) order held listed =
          is_rest-stretch stretch (next ∷ stretches) order held.0 (starts_before_end t stretch order.0) listed
          (λ reset.
          elim (by_limit next.start) [
            | inl below ↦
                subst (λ rows. is_rest Three (Some (Reset stretch.end)) rows ≡ true)
                (sym (rows_of-first_stretch next stretches below))
                (and_from _ _ (follows-start stretch.end next.start order.2 below)
                (is_rest-stretches next stretches order.3 held.1
                below))
            | inr past ↦
                subst (λ rows. is_rest Three (Some (Reset stretch.end)) rows ≡ true)
                (sym (ap (λ rows. rows ++ verdict) (rows_of_stretches-past_limit next stretches order.3 past)))
                (is_rest-verdict (Reset stretch.end) found is refl)
          ])
        where
          by_limit : (n : ℕ) → (n < limit) ⊎ (limit ≤ n)
          by_limit n = grind arith

  -- the rows of stretches that follow one another, up to the least break, are a whole listing
  is_rest-listing : (stretch : Stretch) (stretches : List Stretch) → AreInOrder t (stretch ∷ stretches)
      → (found : Option Break)
      → least_of all_rules t (stretch ∷ stretches) ≡ found → is_rest Three None
      (listing_before t (stretch ∷ stretches) found) ≡ true
  unfolding is_rest follows is_row
  is_rest-listing stretch stretches order found e =
      let limit = listed_end t found in
      let form = IsLimit-listed_end stretch stretches order found e in
      let is = is_allowed_outcome-least_of stretch stretches order found e in
      subst (λ rows. is_rest Three None rows ≡ true)
      (sym (rows_of-first_stretch limit form.most found is stretch stretches
      form.after))
      (and_from _ _ (and_from _ _ (and_from _ _
      (is_number-below stretch.start limit form.after (omega (arith, form.most))) refl)
      refl) (is_rest-stretches limit form.most found is stretch stretches order
      (AreUnbroken-least_of stretch stretches order found e)
      form.after))

-- the listing of a recording of at most 21 slots and fewer than 2^32 steps is well placed
pub is_well_placed-listing : (t : Trace) → t.opening.slots ≤ 21 → length t.steps < 2 ^ 32
    → is_well_placed (record { version = Three; rows = recorded_rows t }) ≡ true
unfolding listing_by is_rest follows is_row
is_well_placed-listing t slots few = by_stretches (judged_stretches t) (AreInOrder-judged_stretches t)
  where
    by_stretches : (stretches : List Stretch) → AreInOrder t stretches
        → is_rest Three None (listing_of_stretches all_rules t stretches)
        ≡ true
    by_stretches [] order = refl
    by_stretches (stretch ∷ stretches) order = is_rest-listing t slots few stretch stretches order
        (least_of all_rules t (stretch ∷ stretches)) refl
