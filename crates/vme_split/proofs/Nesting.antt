-- What is listed keeps the rules (`KeepsRules`), if no rule is broken before the end of the listing.
use Rattle.std.proofs.Common.{lit<, ◌≡◌, ℕ, ◌+◌, ◌-◌, ◌<◌, ◌≤◌, Bool, true, false, ◌&&◌, not}
use Rattle.std.proofs.Common.{cond, if◌then◌else◌, refl, sym, ◌∙◌, ap, arith, subst, List, [], ◌∷◌, ◌++◌, map, flat_map}
use Rattle.std.proofs.Common.{inl, inr, ◌⊎◌, All, Contains}
use Rattle.std.specs.Prelude.{Option, None, Some, IfSome, nat_lt, nat_le, option_map, option_and_then}
use Rattle.std.proofs.lemmas.Bool.Decides.{nat_tests}
use Rattle.std.proofs.lemmas.List.Elements.{Contains-append_left, Contains-append_right}
use Rattle.std.proofs.lemmas.Bool.{and_parts, false_from_ne_true, not-false, not-true, lt-ltb, eqb-false}
use Rattle.vme_trace.specs.Instants.{any, least, greatest, those}
use Rattle.vme_trace.specs.LineNumbers.{AS, BBSY, grant}
use Rattle.vme_trace.specs.Trace.{Trace}
use Rattle.vme_trace.specs.Signals.{near, low, falls, rises}
use Rattle.vme_trace.specs.Judged.{Stretch, IsStretchOf, is_judged}
use Rattle.vme_trace.specs.Transfers.{strobes_high, answer_falls, transfer_starts, lasts, is_answered, answers}
use Rattle.vme_trace.specs.Transfers.{in_transfer}
use Rattle.vme_trace.specs.Cycles.{cycle_starts, cycle_of}
use Rattle.vme_trace.specs.Tenures.{is_granting, has_reached, taken_grant, tenure_level, tenure_slot, tenure_starts}
use Rattle.vme_trace.specs.Rules.{is_broken, is_option_equal}
use Rattle.vme_trace.specs.declared.rule.Rule.TheVariants as rule
use Rattle.vme_trace.proofs.OpenTransfers.{in_transfer-is}
use Rattle.vme_trace.proofs.Ranges.{every-more, IsLeast, any-fails, fails-any, least-found, least-none-any, clash}
use Rattle.vme_trace.proofs.Ranges.{greatest-found, greatest-is, past_or_below}
use Rattle.vme_listing.specs.Recorded.{cycle_rows, transfer_row, answered_row, rows_before}
use Rattle.vme_listing.specs.declared.row.Row.{Row}
use Rattle.vme_listing.specs.declared.row.Row.TheVariants as row
use Rattle.vme_listing.specs.declared.row.Row.TheVariants.{OpenTenure, Tenure}
use Rattle.vme_listing.proofs.RecordedRows.{slot_within, level_within}
use Rattle.vme_split.specs.Split.{ShowsGrant, IsOpenAtStart, Interval, interval, Covers, StartsInOne, IsOfASlot}
use Rattle.vme_split.specs.Split.{IsAnsweredInCycle, AwaitsAnswer, is_traffic, tenure_in, cycle_in, KeepsRules}
use Rattle.vme_split.proofs.Intervals.{Covering, Covering-at, least-after_covering}
use Rattle.vme_split.proofs.Unbroken.{IsUnbroken, is_broken-unbroken}
use Rattle.vme_split.proofs.Cycles as cycles
use Rattle.vme_split.proofs.Tenures as tenures
use Rattle.vme_split.proofs.Answering.{least-unanswered, lasts-until_high, reply_at, is_answered-reply_at}
use Rattle.vme_split.proofs.Answering.{least-answers, near_low-reply}
use Rattle.vme_split.proofs.Transfers.{transfer_starts-after, CycleCovers, CycleCovers-low, CycleCovers-starts}
use Rattle.vme_split.proofs.Transfers.{LowNear, LowNear-near}
use Rattle.vme_split.proofs.Classes.{cycles_of_classes}
use Rattle.vme_split.proofs.Directions.{All-ShowsAcknowledge, All-ShowsDirection}
use Rattle.vme_split.proofs.WrittenData.{All-ShowsData}
use Rattle.vme_split.proofs.Codes.{All-IsOfItsCode, All-ShowsModifier, All-ShowsAddress}
use Rattle.vme_split.proofs.EachRow.{Contains-map_those, All-map_those, All-rows_before, All-tenure_rows}
use Rattle.vme_split.proofs.EachRow.{All-tenure_rows_open, All-cycle_rows_any, All-transfer_rows, All-transfer_rows_any}

-- P holds of the value of an option, if there is one, if it holds of each value that it may have
IfSome-value : (o : Option ℕ) (P : ℕ → Type 0) → ((e : ℕ) → o ≡ Some e → P e) → IfSome o P
IfSome-value None P h = tt
IfSome-value (Some e) P h = h e refl

module _ (t : Trace) (stretch : Stretch) (is : IsStretchOf t stretch) (end : ℕ) (within : stretch.start < end)
    (most : end ≤ stretch.end) (unbroken : IsUnbroken t stretch end) where
  -- a tenure is of a level from 0 to 3 and of a slot of the backplane, by rule B4
  IsOfASlot-tenure : (i : ℕ) → i < end → tenure_starts t stretch i ≡ true → (level slot : ℕ) → tenure_level t i
      ≡ Some level
      → tenure_slot t i ≡ Some slot → (level < 4) × (1 ≤ slot) × (slot ≤ t.opening.slots)
  unfolding is_broken
  IsOfASlot-tenure i before starts level slot l e =
      let there = tenures.tenure_starts-falls_after t stretch is end within most unbroken i starts in
      let bounds = slot_within t i slot e in
      let past = off_past (falls t BBSY i) _ there.1
      (is_broken-unbroken t stretch end most unbroken rule.B4 i BBSY there.0 before
      (lit< tt) refl) in
      let other = eqb-false slot (t.opening.slots + 1)
      (sym (ap (λ (o : Option ℕ). is_option_equal o (t.opening.slots + 1)) e) ∙ past) in
      (level_within t i level l, bounds.0, omega (arith, bounds.1, other))
    where
      off_past : (a b : Bool) → a ≡ true → (true && a && b) ≡ false → b ≡ false
      off_past true b h e = e
      off_past false b h e = absurd (cc)

  -- each tenure of the rows is of a level and of a slot of the backplane
  All-IsOfASlot : All (IsOfASlot t.opening.slots) (rows_before t stretch end end)
  All-IsOfASlot = All-rows_before (IsOfASlot t.opening.slots) t stretch end
      (λ i before. All-tenure_rows (IsOfASlot t.opening.slots) t stretch end i (λ e. tt)
      (λ starts level slot e l s. IsOfASlot-tenure i
      before starts level slot l s))
      (All-cycle_rows_any (IsOfASlot t.opening.slots) t stretch end (λ i c m a e. tt) (λ i m e. tt) (λ i l e. tt))
      (All-transfer_rows_any (IsOfASlot t.opening.slots) t stretch end (λ d l i c r e x. tt) (λ i d. tt))
      end (omega arith)

  -- the nets of a tenure's level are low up to its slot, at the instant whose grant it takes
  ShowsGrant-tenure : (i : ℕ) → i < end → tenure_starts t stretch i ≡ true → (level slot : ℕ) (e : Option ℕ)
      → tenure_level t i
      ≡ Some level → tenure_slot t i ≡ Some slot → ShowsGrant t (row.Tenure i level slot e)
  unfolding tenure_slot has_reached taken_grant
  ShowsGrant-tenure i before starts level slot e l s = by (greatest (has_reached t (taken_grant t i) level) 0
      (t.opening.slots + 1)) refl
      (sym (ap (λ (o : Option ℕ). option_map (λ k. 1 + k)
      (option_and_then (λ n. greatest (has_reached t (taken_grant t i) n) 0 (t.opening.slots + 1)) o)) l) ∙ s)
    where
      first : (b : Bool) → (if b then i else i - 1) ≤ i
      first true = omega arith
      first false = omega arith

      second : (b : Bool) → i ≤ (if b then i else i - 1) + 1
      second true = omega arith
      second false = omega arith

      by : (o : Option ℕ) → greatest (has_reached t (taken_grant t i) level) 0 (t.opening.slots + 1) ≡ o
          → option_map (λ k. 1 + k) o ≡ Some slot → ShowsGrant t (row.Tenure i level slot e)
      by None f g = absurd (cc)
      by (Some k) f g =
          let same : 1 + k ≡ slot = cc in
          let found = greatest-found (has_reached t (taken_grant t i) level) 0 (t.opening.slots + 1) k f in
          let of = IsOfASlot-tenure i before starts level slot l s in (
            taken_grant t i,
            first (is_granting t i),
            second (is_granting t i),
            (
              (λ m a. not-false (low t (grant level m) (taken_grant t i))
                  (any-fails (λ net. not (low t (grant level net) (taken_grant t i))) 0 (k + 1) m
                  (not-true (any (λ net. not (low t (grant level net) (taken_grant t i))) 0 (k + 1)) found.holds)
                  (omega arith) (omega (arith, same)))),
              false_from_ne_true (low t (grant level slot) (taken_grant t i)) (λ h.
                  let next : slot ≡ k + 1 = omega (arith, same) in
                  clash (has_reached t (taken_grant t i) level (k + 1))
                  (every-more (λ net. low t (grant level net) (taken_grant t i)) 0 (k + 1) found.holds
                  (ap (λ n. low t (grant level n) (taken_grant t i)) (sym next) ∙ h))
                  (found.none (k + 1) (omega arith) (omega (arith, same, of.2)))),
            ),
          )

  -- each tenure of the rows takes a grant
  All-ShowsGrant : All (ShowsGrant t) (rows_before t stretch end end)
  All-ShowsGrant = All-rows_before (ShowsGrant t) t stretch end
      (λ i before. All-tenure_rows (ShowsGrant t) t stretch end i (λ e. tt)
      (λ starts level slot e l s. ShowsGrant-tenure i before
      starts level slot e l s))
      (All-cycle_rows_any (ShowsGrant t) t stretch end (λ i c m a e. tt) (λ i m e. tt) (λ i l e. tt))
      (All-transfer_rows_any (ShowsGrant t) t stretch end (λ d l i c r e x. tt) (λ i d. tt))
      end (omega arith)

  -- a tenure of the rows is open just if it begins with the stretch
  All-IsOpenAtStart : All (IsOpenAtStart stretch.start) (rows_before t stretch end end)
  All-IsOpenAtStart = All-rows_before (IsOpenAtStart stretch.start) t stretch end
      (λ i before. All-tenure_rows_open (IsOpenAtStart stretch.start) t stretch end i (λ same e. same)
      (λ starts level slot e l s. (tenures.tenure_starts-falls_after t stretch is end within most unbroken i starts).0))
      (All-cycle_rows_any (IsOpenAtStart stretch.start) t stretch end (λ i c m a e. tt) (λ i m e. tt) (λ i l e. tt))
      (All-transfer_rows_any (IsOpenAtStart stretch.start) t stretch end (λ d l i c r e x. tt) (λ i d. tt))
      end (omega arith)

  -- the rows are of tenures, cycles and transfers alone
  All-is_traffic : All (λ row. is_traffic row ≡ true) (rows_before t stretch end end)
  All-is_traffic = All-rows_before (λ row. is_traffic row ≡ true) t stretch end
      (λ i before. All-tenure_rows (λ row. is_traffic row ≡ true) t stretch end i (λ e. refl)
      (λ starts level slot e l s. refl))
      (All-cycle_rows_any (λ row. is_traffic row ≡ true) t stretch end (λ i c m a e. refl) (λ i m e. refl)
      (λ i l e. refl))
      (All-transfer_rows_any (λ row. is_traffic row ≡ true) t stretch end (λ d l i c r e x. refl) (λ i d. refl))
      end (omega arith)

  -- BBSY is low where the address strobe falls, or just before, by rule B3
  near-low_busy : (i : ℕ) → stretch.start < i → i < end → falls t AS i ≡ true → near (low t BBSY) i ≡ true
  unfolding is_broken
  near-low_busy i after before down = by (falls t AS i) (near (low t BBSY) i) down
      (is_broken-unbroken t stretch end most unbroken rule.B3 i
      AS after before (lit< tt) refl)
    where
      by : (a b : Bool) → a ≡ true → (true && a && not b) ≡ false → b ≡ true
      by true true h e = refl
      by true false h e = absurd (cc)
      by false b h e = absurd (cc)

  -- a cycle starts after the start of the stretch, where the address strobe falls
  cycle_starts-falls_after : (i : ℕ) → cycle_starts t stretch i ≡ true → (stretch.start < i) × (falls t AS i ≡ true)
  unfolding cycle_starts
  cycle_starts-falls_after i e = (grind (arith, nat_tests), grind (arith, nat_tests))

  -- the tenure that begins at an instant
  abbrev tenure_from : ℕ → Interval
  tenure_from = tenures.tenure_at t stretch is end within most unbroken

  -- BBSY is low at k since the start of a tenure, or of the stretch
  TenureCovers : ℕ → Type 0
  TenureCovers k = Covering (low t BBSY) (tenure_starts t stretch) (rises t BBSY) (rises t BBSY) stretch.start end
      (tenures.tenure_starts-levels t stretch is end within most unbroken)
      (tenures.rises-levels t stretch is end within most unbroken)
      (tenures.rises-while_low t stretch is end within most unbroken) k

  -- one of the tenures covers the start of a cycle
  StartsInOne-cycle : (i : ℕ) → i < end → cycle_starts t stretch i ≡ true
      → StartsInOne (flat_map tenure_in (rows_before t stretch end end)) (cycles.cycle_at t stretch end i)
  unfolding TenureCovers
  StartsInOne-cycle i before starts =
      let down = cycle_starts-falls_after i starts in
      let there = LowNear-near t BBSY stretch.start i down.0 (near-low_busy i down.0 before down.1) in
      let cover : TenureCovers there.0 =
      Covering-at (low t BBSY) (tenure_starts t stretch) (rises t BBSY) (rises t BBSY)
      stretch.start end
      (tenures.tenure_starts-levels t stretch is end within most unbroken)
      (tenures.rises-levels t stretch is end within most unbroken)
      (tenures.rises-while_low t stretch is end within most unbroken) there.0 there.1 (omega (arith, there.2, before))
      there.4
      in (
        tenure_from cover.first,
        subst (λ xs. Contains xs (tenure_from cover.first))
            (sym (tenures.tenures_of_rows t stretch is end within most unbroken)) (by there.0
            (omega (arith, there.2, before)) cover cover.begun),
        (
          omega (arith, cover.to, there.2),
          IfSome-value (least (rises t BBSY) (cover.first + 1) end) (λ e. i ≤ e)
              (λ e f. let later = least-after_covering (low t BBSY)
              (tenure_starts t stretch) (rises t BBSY) (rises t BBSY) stretch.start end
              (tenures.tenure_starts-levels t stretch is end within most unbroken)
              (tenures.rises-levels t stretch is end within most
              unbroken) (tenures.rises-while_low t stretch is end within most unbroken) there.0
              (omega (arith, there.2, before))
              cover e f in omega (arith, later, there.3)),
        ),
      )
    where
      at_first : (b : Bool) → b ≡ true → (a : Interval) → Contains (cond b (a ∷ []) []) a
      at_first true h a = (0, omega arith, refl)
      at_first false h a = absurd (cc)

      by : (k : ℕ) → k < end → (c : TenureCovers k) → (c.first ≡ stretch.start) ⊎ ((stretch.start < c.first)
          × (tenure_starts t stretch c.first ≡ true))
          → Contains (cond (low t BBSY stretch.start) (tenure_from stretch.start ∷ []) [] ++ map tenure_from
          (those (tenure_starts t stretch) (stretch.start + 1) end)) (tenure_from c.first)
      by k below c (inl same) =
          subst (λ n. Contains (cond (low t BBSY stretch.start) (tenure_from stretch.start ∷ []) [] ++ map tenure_from
          (those (tenure_starts t stretch) (stretch.start + 1) end)) (tenure_from n)) (sym same)
          (Contains-append_left (cond (low t BBSY stretch.start) (tenure_from stretch.start ∷ []) []) _
          (tenure_from stretch.start)
          (at_first (low t BBSY stretch.start) (ap (low t BBSY) (sym same) ∙ c.held c.first (omega arith) c.to)
          (tenure_from stretch.start)))
      by k below c (inr begun) =
          Contains-append_right (cond (low t BBSY stretch.start) (tenure_from stretch.start ∷ []) [])
          _ (tenure_from c.first)
          (Contains-map_those tenure_from (tenure_starts t stretch) (stretch.start + 1) end c.first
          (omega (arith, begun.0))
          (omega (arith, c.to, below)) begun.1)

  -- each cycle starts in one of the tenures
  All-StartsInOne : All (StartsInOne (flat_map tenure_in (rows_before t stretch end end)))
      (flat_map cycle_in (rows_before t stretch end end))
  All-StartsInOne =
      subst (All (StartsInOne (flat_map tenure_in (rows_before t stretch end end))))
      (sym (cycles.cycles_of_rows t stretch end within))
      (All-map_those (StartsInOne (flat_map tenure_in (rows_before t stretch end end))) (cycles.cycle_at t stretch end)
      (cycle_starts t stretch) end end (stretch.start + 1) (omega arith)
      (λ i from before starts. StartsInOne-cycle i before
      starts))

  -- the cycles of the rows
  abbrev cycles_listed : List Interval
  cycles_listed = flat_map cycle_in (rows_before t stretch end end)

  -- the transfer that starts at i, and its answer r
  module _ (i r : ℕ) (starts : transfer_starts t stretch i ≡ true)
      (e : least (reply_at t stretch i) i end ≡ Some r) where
    -- the transfer starts after the start of the stretch
    starts_after : stretch.start < i
    starts_after = transfer_starts-after t stretch i starts

    -- r is the first fall of an answer line in the transfer
    IsLeast-answer : IsLeast (reply_at t stretch i) i end r
    IsLeast-answer = least-found (reply_at t stretch i) i end r e

    -- the transfer lasts at its answer
    lasts-answer : lasts t stretch i r ≡ true
    lasts-answer = (and_parts (lasts t stretch i r) (answer_falls t r) IsLeast-answer.holds).0

    -- at no instant between the transfer's start and its answer are both strobes high
    strobes_high-none : (m : ℕ) → i < m → m < r → strobes_high t m ≡ false
    unfolding lasts
    strobes_high-none m a b = any-fails (strobes_high t) (i + 1) r m (last_part (nat_le i r) (is_judged stretch r)
        (any (strobes_high t) (i + 1) r) lasts-answer) (omega arith) b
      where
        last_part : (x y z : Bool) → (x && y && not z) ≡ true → z ≡ false
        last_part true true true h = absurd (cc)
        last_part true true false h = refl
        last_part true false z h = absurd (cc)
        last_part false y z h = absurd (cc)

    -- the transfer covers its answer
    Covers-answer : Covers (interval i (least (strobes_high t) (i + 1) end)) r
    Covers-answer = (
      IsLeast-answer.first,
      IfSome-value (least (strobes_high t) (i + 1) end) (λ c. r ≤ c)
          (λ c f. by c (least-found (strobes_high t) (i + 1) end c f) (past_or_below c r)),
    )
      where
        by : (c : ℕ) → IsLeast (strobes_high t) (i + 1) end c → (r ≤ c) ⊎ (c < r) → r ≤ c
        by c close (inl past) = past
        by c close (inr before) =
            absurd (clash (strobes_high t c) close.holds (strobes_high-none c (omega (arith, close.first))
            before))

    -- the address strobe is low at the answer or at the instant before
    low-near_answer : LowNear t AS stretch.start r
    low-near_answer = LowNear-near t AS stretch.start r (omega (arith, IsLeast-answer.first, starts_after))
        (near_low-reply t stretch is end within most unbroken i r starts_after starts e)

    -- a cycle covers the instant near the answer at which the address strobe is low
    covering_cycle : CycleCovers t stretch is end within most low-near_answer.0
    covering_cycle =
        CycleCovers-low t stretch is end within most low-near_answer.0 low-near_answer.1
        (omega (arith, low-near_answer.2, IsLeast-answer.below)) low-near_answer.4

    -- no cycle starts after the covering one, up to r
    cycle_starts-none_later : (k : ℕ) → covering_cycle.first < k → k < r + 1 → cycle_starts t stretch k ≡ false
    cycle_starts-none_later k a b =
        let back : k ≡ (k - 1) + 1 = omega (arith, a) in
        ap (cycle_starts t stretch) back
        ∙ (cycles.cycle_starts-levels t stretch is end within most (k - 1) (omega (arith, covering_cycle.from, a))
        (omega (arith, back, b, IsLeast-answer.below))
        ∙ ap (λ v. not v && low t AS (k - 1 + 1)) (covering_cycle.held (k - 1) (omega (arith, a))
        (omega (arith, back, b, low-near_answer.3))))

    -- the answer belongs to the covering cycle
    cycle_of-answer : cycle_of t stretch r ≡ Some covering_cycle.first
    unfolding cycle_of
    cycle_of-answer =
        let begun = CycleCovers-starts t stretch is end within most low-near_answer.0 covering_cycle in
        greatest-is (cycle_starts t stretch) (stretch.start + 1) (r + 1) covering_cycle.first (omega (arith, begun.0))
        (omega (arith, covering_cycle.to, low-near_answer.2)) begun.1 cycle_starts-none_later

    -- the covering cycle is one of those that are listed, and covers the answer
    cycle_covers-answer : (o : Option ℕ) × Contains cycles_listed (interval covering_cycle.first o)
        × Covers (interval covering_cycle.first o) r
    cycle_covers-answer =
        let begun = CycleCovers-starts t stretch is end within most low-near_answer.0 covering_cycle in (
          least (rises t AS) (covering_cycle.first + 1) end,
          subst (λ xs. Contains xs (cycles.cycle_at t stretch end covering_cycle.first))
              (sym (cycles.cycles_of_rows t stretch end within))
              (Contains-map_those (cycles.cycle_at t stretch end) (cycle_starts t stretch) (stretch.start + 1) end
              covering_cycle.first
              (omega (arith, begun.0)) (omega (arith, covering_cycle.to, low-near_answer.2, IsLeast-answer.below))
              begun.1),
          (
            omega (arith, covering_cycle.to, low-near_answer.2),
            IfSome-value (least (rises t AS) (covering_cycle.first + 1) end) (λ c. r ≤ c) (λ c f.
                let later = least-after_covering (low t AS) (cycle_starts t stretch) (rises t AS) (rises t AS)
                stretch.start end
                (cycles.cycle_starts-levels t stretch is end within most)
                (cycles.rises-levels t stretch is end within most)
                (cycles.rises-while_low t stretch is end within most) low-near_answer.0
                (omega (arith, low-near_answer.2, IsLeast-answer.below))
                covering_cycle c f in
                omega (arith, later, low-near_answer.3)),
          ),
        )

  -- the address strobe doesn't rise in a transfer that isn't answered yet at j
  rises-awaiting : (i j : ℕ) → transfer_starts t stretch i ≡ true → i < j → j < end → lasts t stretch i j ≡ true
      → any (reply_at t stretch i) i (j + 1) ≡ false → rises t AS j ≡ false
  unfolding is_broken
  rises-awaiting i j starts order before lasting none =
      by (rises t AS j) (in_transfer t stretch (λ k. nat_lt k j && not (is_answered t stretch k (j + 1))) j)
      (nat_lt i j)
      (is_answered t stretch i (j + 1))
      (in_transfer-is t stretch (λ k. nat_lt k j && not (is_answered t stretch k (j + 1))) i j
      (transfer_starts-after t stretch i starts)
      (omega arith) starts lasting)
      (lt-ltb i j order) (is_answered-reply_at t stretch i (j + 1) ∙ none)
      (is_broken-unbroken t stretch end most unbroken rule.H7 j AS
      (omega (arith, transfer_starts-after t stretch i starts)) before (lit< tt)
      refl)
    where
      by : (a x n d : Bool) → x ≡ (n && not d) → n ≡ true → d ≡ false → (true && a && x) ≡ false → a ≡ false
      by true x n d h k e f = absurd (clash x (h ∙ (ap (λ b. b && not d) k ∙ ap not e)) f)
      by false x n d h k e f = refl

  -- the address strobe doesn't rise from the start of a transfer to its answer, or to the end without one
  AwaitsAnswer-transfer_row : (i : ℕ) → transfer_starts t stretch i ≡ true → AwaitsAnswer t end
      (transfer_row t stretch end i (least (answers t stretch i) i end))
  AwaitsAnswer-transfer_row i starts = subst (λ (o : Option ℕ). AwaitsAnswer t end (transfer_row t stretch end i o))
      (sym (least-answers t stretch i end)) (by (least (reply_at t stretch i) i end) refl)
    where
      row_told : (r : ℕ) (o : Option ℕ) (c : ℕ) → o ≡ Some c → least (reply_at t stretch i) i end ≡ Some r
          → AwaitsAnswer t end (answered_row t stretch end i r o)
      row_told r None c e f = absurd (cc)
      row_told r (Some k) c e f = λ j a b.
          let found = least-found (reply_at t stretch i) i end r f in
          rises-awaiting i j starts a (omega (arith, found.below))
          (lasts-until_high t stretch is i j (transfer_starts-after t stretch i starts) (omega arith)
          (omega (arith, found.below))
          (λ m x y. strobes_high-none i r starts f m x (omega arith)))
          (fails-any (reply_at t stretch i) i (j + 1) (λ m x y. any-fails (reply_at t stretch i) i r m found.least x
          (omega arith)))

      by : (o : Option ℕ) → least (reply_at t stretch i) i end ≡ o → AwaitsAnswer t end (transfer_row t stretch end i o)
      by None e = λ j a b.
          rises-awaiting i j starts a b
          (lasts-until_high t stretch is i j (transfer_starts-after t stretch i starts) (omega arith) (omega arith)
          (λ m x y. any-fails (strobes_high t) (i + 1) end m (least-none-any (strobes_high t) (i + 1) end
          (least-unanswered t stretch is end within most unbroken i (transfer_starts-after t stretch i starts) starts
          e)) (omega arith)
          (omega arith)))
          (fails-any (reply_at t stretch i) i (j + 1) (λ m x y. any-fails (reply_at t stretch i) i end m
          (least-none-any (reply_at t stretch i) i end e) x (omega arith)))
      by (Some r) e =
          row_told r (cycle_of t stretch r) (covering_cycle i r starts e).first (cycle_of-answer i r starts e) e

  -- the row of a transfer has its answer in the transfer and in a cycle that is listed
  IsAnsweredInCycle-transfer_row : (i : ℕ) → transfer_starts t stretch i ≡ true → IsAnsweredInCycle cycles_listed
      (transfer_row t stretch end i (least (answers t stretch i) i end))
  IsAnsweredInCycle-transfer_row i starts = subst (λ (o : Option ℕ). IsAnsweredInCycle cycles_listed
      (transfer_row t stretch end i o))
      (sym (least-answers t stretch i end)) (by (least (reply_at t stretch i) i end) refl)
    where
      by : (o : Option ℕ) → least (reply_at t stretch i) i end ≡ o → IsAnsweredInCycle cycles_listed
          (transfer_row t stretch end i o)
      by None e = tt
      by (Some r) e = subst (λ (c : Option ℕ). IsAnsweredInCycle cycles_listed (answered_row t stretch end i r c))
          (sym (cycle_of-answer i r starts e)) (Covers-answer i r starts e, cycle_covers-answer i r starts e)

  -- P holds of each row, if it does of any row of a tenure or a cycle, and of the row of each transfer that starts
  abbrev AllByTransfers : (P : Row → Type 0) → Type 0
  AllByTransfers P = ((i : ℕ) (e : Option ℕ) → P (OpenTenure i e)) → ((i level slot : ℕ) (e : Option ℕ)
      → P (Tenure i level slot e)) → ((i : ℕ) → i < end → All P (cycle_rows t stretch end i))
      → ((i : ℕ) → transfer_starts t stretch i ≡ true → P (transfer_row t stretch end i
      (least (answers t stretch i) i end)))
      → All P (rows_before t stretch end end)

  -- `AllByTransfers` holds of each P
  AllByTransfers-rows : (P : Row → Type 0) → AllByTransfers P
  AllByTransfers-rows P opened started cycle transfer = All-rows_before P t stretch end
      (λ i before. All-tenure_rows P t stretch end i (opened i) (λ starts level slot e l s. started i level slot e))
      cycle
      (λ i before. All-transfer_rows P t stretch end i (transfer i))
      end (omega arith)

  -- the rows of a stretch keep the rules
  pub KeepsRules-rows_before : KeepsRules t stretch.start end (rows_before t stretch end end)
  KeepsRules-rows_before = record {
    tenures_of_slots = All-IsOfASlot;
    open_at_start = All-IsOpenAtStart;
    grants = All-ShowsGrant;
    cycles_in_tenures = All-StartsInOne;
    answers_in_cycles =
        AllByTransfers-rows (IsAnsweredInCycle cycles_listed) (λ i e. tt) (λ i level slot e. tt)
        (All-cycle_rows_any (IsAnsweredInCycle cycles_listed) t stretch end (λ i c m a e. tt) (λ i m e. tt)
        (λ i l e. tt))
        IsAnsweredInCycle-transfer_row;
    cycles_of_classes = cycles_of_classes t stretch is end within most unbroken;
    acknowledges = All-ShowsAcknowledge t stretch is end within most unbroken;
    codes_of_classes = All-IsOfItsCode t stretch end most unbroken;
    modifiers = All-ShowsModifier t stretch end most unbroken;
    addresses = All-ShowsAddress t stretch end most unbroken;
    directions = All-ShowsDirection t stretch is end within most unbroken;
    written_data = All-ShowsData t stretch is end within most unbroken;
    strobe_awaits =
        AllByTransfers-rows (AwaitsAnswer t end) (λ i e. tt) (λ i level slot e. tt)
        (All-cycle_rows_any (AwaitsAnswer t end) t stretch end (λ i c m a e. tt) (λ i m e. tt) (λ i l e. tt))
        AwaitsAnswer-transfer_row;
    nothing_else = All-is_traffic;
  }
