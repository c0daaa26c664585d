-- The listing of a recording is checked stretch by stretch, from one instant to the next, as its steps are taken one by
-- one.
use Rattle.std.proofs.Common.{◌≡◌, ℕ, ◌+◌, ◌<◌, ◌≤◌, List, [], ◌∷◌, ◌++◌, refl, sym, ◌∙◌, ap, arith, append_assoc, zero}
use Rattle.std.proofs.Common.{suc, ◌-◌, true, false, inl, inr, ◌⊎◌, add-one, ◌*◌, map, subst, length-append}
use Rattle.std.proofs.Common.{not, get_or, length, take, append-nil}
use Rattle.std.specs.Prelude.{Option, None, Some, flat_map, nat_lt, ◌==◌, option_map, ◌-◌, if◌then◌else◌, slice_get}
use Rattle.std.specs.Option.{option_or}
use Rattle.std.proofs.Math.Nat.{min-eq_left, min-eq_right}
use Rattle.std.proofs.lemmas.List.{append-nil, length-take-le, take_all}
use Rattle.std.proofs.lemmas.Option.{slice_get_read, slice_get_within, same_Some}
use Rattle.std.proofs.Math.Seq.{get_or-append_seam}
use Rattle.std.proofs.lemmas.Bool.{lt-ltb, le-ltb, and_parts, and_right, not-false, or_from, or_right}
use Rattle.vme_trace.proofs.JudgedStretches.{AreInOrder, starts_before_end, ends_within, AreInOrder-judged_stretches}
use Rattle.vme_trace.proofs.JudgedStretches.{stretch_unlost, IsStretchOf-first}
use Rattle.vme_trace.proofs.JudgedStretches.{stretch_unreset, awaits-first, awaits-next, busy-no_start, end-after}
use Rattle.vme_trace.proofs.JudgedStretches.{end-within, reset-unlost_at, stretch_reset, judged_stretches-after_first}
use Rattle.vme_trace.proofs.JudgedStretches.{stretches_after-next}
use Rattle.vme_trace.proofs.Changing.{lost-least}
use Rattle.vme_trace.proofs.Ranges.{any-fails, any-holds, fails-any, least-alike, least-found, least-none-any}
use Rattle.vme_trace.proofs.Ranges.{those-none, those-split, eq-fails_below, eq-fails_above}
use Rattle.vme_trace.proofs.OpenTransfers.{suc-sub-one, is_judged-holds}
use Rattle.vme_trace.proofs.StretchEnds.{break_before-stays, end-is, end-past, u1-lost, u1-unlost}
use Rattle.vme_trace.proofs.CutBlocks.{levels_after-append, levels_at-taken, take-next}
use Rattle.vme_trace.proofs.FollowedLaws.{with_steps-append, with_steps-none}
use Rattle.vme_trace.proofs.Unjudged.{break_at-none, is_judged-early}
use Rattle.vme_listing.proofs.FoundBreaks.{least_break-judged}
use Rattle.vme_cert.specs.Vocabulary.{Break, Change, Conforming, IsStretchOf, ListedVerdict, NeverIdle, Row, Rule}
use Rattle.vme_cert.specs.Vocabulary.{Stretch}
use Rattle.vme_cert.specs.Vocabulary.{Trace, U1, Verdict, all_rules, any, are_changes, break_at, break_before, breaks}
use Rattle.vme_cert.specs.Vocabulary.{changed, has_line, is_broken, is_judged, is_lost, is_reset_at, judged_stretches}
use Rattle.vme_cert.specs.Vocabulary.{last_instant, least, least_break, least_of, levels_at, line_count, listed_end}
use Rattle.vme_cert.specs.Vocabulary.{listing_before, listing_by, listing_of_stretches, loses_control, loses_control_at}
use Rattle.vme_cert.specs.Vocabulary.{lost_among, outcome_of, recorded_rows, rows_before, rows_of_stretch, rule_break}
use Rattle.vme_cert.specs.Vocabulary.{stretch_end, stretch_from, stops_at, time_at, AS, BBSY, Broken, IsCapture, Levels}
use Rattle.vme_cert.specs.Vocabulary.{Reset, Step, Unreadable, Version, is_idle, is_idle_at, is_reset, is_step}
use Rattle.vme_cert.specs.Vocabulary.{is_unreadable, Awaits, malformed_step, stretch_starts, stretches_after, those}
use Rattle.vme_cert.specs.Vocabulary.{with_steps}
use Rattle.vme_cert.specs.Checking.{reset_at, rows_by, rows_from, Checks, HasCompared, HasFollowed, IsEnded}
use Rattle.vme_cert.specs.Checking.{IsInStretch, IsPhase, IsWaiting, MayGoOn, last_levels}
use Rattle.vme_cert.specs.Following.{rows_to, CanClose, Follows}
use Rattle.vme_cert.specs.Instant.{LeadToInstant, named, IsBusOf}
use Rattle.vme_cert.specs.State.{Holds, IsStateOf}
use Rattle.vme_cert.specs.declared.bus.Bus.{Bus}
use Rattle.vme_cert.specs.declared.checker.Checker.{Checker}
use Rattle.vme_cert.specs.declared.checker.CheckPhase.{CheckPhase}
use Rattle.vme_cert.specs.declared.checker.CheckPhase.TheVariants.{Ended, InStretch, Waiting}
use Rattle.vme_cert.specs.declared.open_rows.OpenRows.{OpenRows}
use Rattle.vme_cert.specs.declared.state.State.{State}
use Rattle.vme_cert.proofs.Ranges.{by_option}
use Rattle.vme_cert.proofs.Ranges.{eq-or_below}
use Rattle.vme_cert.proofs.Following.{IsDue-at_last, IsDue-transfer_at_last}

-- ---- The listing of a recording, stretch by stretch.

module _ (t : Trace) where
  -- a stretch that ends at the limit or before is listed whole, and then the reset at its end, if there is one
  rows_of_stretch-whole : (stretch : Stretch) (limit : ℕ) → stretch.start < stretch.end → stretch.end ≤ limit
      → nat_lt stretch.end limit
      ≡ nat_lt stretch.end (last_instant t + 1) → rows_of_stretch t limit stretch ≡ rows_to t stretch stretch.end
      ++ reset_at t
      stretch.end
  unfolding rows_of_stretch
  rows_of_stretch-whole stretch limit order within same =
      rw (lt-ltb stretch.start limit (omega arith), min-eq_left within, same) refl

  -- a stretch in which the limit is, or at its end, is listed up to the limit
  rows_of_stretch-cut : (stretch : Stretch) (limit : ℕ) → stretch.start < limit → limit ≤ stretch.end
      → rows_of_stretch t limit stretch
      ≡ rows_to t stretch limit
  unfolding rows_of_stretch
  rows_of_stretch-cut stretch limit order within =
      rw (
        lt-ltb stretch.start limit order,
        min-eq_right within,
        and_right (is_reset_at t stretch.end)
            (nat_lt stretch.end limit) (le-ltb stretch.end limit within),
      )
      (append-nil (rows_to t stretch limit))

  -- a stretch that starts at the limit or later isn't listed
  rows_of_stretch-past : (stretch : Stretch) (limit : ℕ) → limit ≤ stretch.start → rows_of_stretch t limit stretch ≡ []
  unfolding rows_of_stretch
  rows_of_stretch-past stretch limit h = rw (le-ltb stretch.start limit h) refl

  -- if the limit is in the first stretch, those after it aren't listed
  rows_of_stretches-past : (stretch : Stretch) (stretches : List Stretch) (limit : ℕ)
      → AreInOrder t (stretch ∷ stretches)
      → limit ≤ stretch.end
      → flat_map (rows_of_stretch t limit) stretches ≡ []
  rows_of_stretches-past stretch [] limit order h = refl
  rows_of_stretches-past stretch (next ∷ stretches) limit order h =
      ap (λ (rows : List Row). rows ++ flat_map (rows_of_stretch t limit) stretches)
      (rows_of_stretch-past next limit (omega (arith, h, order.2)))
      ∙ rows_of_stretches-past next stretches limit order.3
      (omega (arith, h, order.2, starts_before_end t next (IsStretchOf-first t next stretches order.3)))

  -- the least break of a stretch comes after its start, and at its end at the latest
  least_break-within_stretch : (stretch : Stretch) (b : Break) → IsStretchOf t stretch → least_break t stretch all_rules
      ≡ Some b
      → (stretch.start < b.instant) × (b.instant ≤ stretch.end)
  least_break-within_stretch stretch b is e =
      least_break-judged t stretch all_rules b (starts_before_end t stretch is) e

  -- the listing ends after the start of the first of the stretches
  listed_end-after_start : (stretch : Stretch) (stretches : List Stretch) → AreInOrder t (stretch ∷ stretches)
      → stretch.start < listed_end t
      (least_of all_rules t (stretch ∷ stretches))
  listed_end-after_start stretch [] is =
      by_option (least_break t stretch all_rules) (λ e. rw e (omega (arith, is.within)))
      (λ b e. rw e (least_break-within_stretch stretch b is e).0)
  listed_end-after_start stretch (next ∷ stretches) order =
      let later = listed_end-after_start next stretches order.3 in
      by_option (least_break t stretch all_rules)
      (λ e. rw e (omega (arith, later, order.2, starts_before_end t stretch order.0)))
      (λ b e. rw e (least_break-within_stretch stretch b order.0 e).0)

  -- the listing of the only stretch is its rows, up to its least break, and the verdict
  listing_before-one_stretch : (stretch : Stretch) → IsStretchOf t stretch → listing_before t (stretch ∷ [])
      (least_break t stretch all_rules)
      ≡ rows_by t stretch (least_break t stretch all_rules) (Verdict Conforming ∷ [])
  listing_before-one_stretch stretch is = by_option (least_break t stretch all_rules)
      (λ e. rw (
        e,
        append-nil (rows_of_stretch t (last_instant t + 1) stretch),
        rows_of_stretch-whole stretch (last_instant t + 1) (starts_before_end t stretch is) (ends_within t stretch is)
            refl,
      )
      (append_assoc (rows_to t stretch stretch.end) (reset_at t stretch.end) (Verdict Conforming ∷ [])))
      (λ b e. let there = least_break-within_stretch stretch b is e in
      rw (e, append-nil (rows_of_stretch t b.instant stretch), rows_of_stretch-cut stretch b.instant there.0 there.1)
      refl)

  -- the listing of stretches that follow one another is their rows, one after the other
  listing_before-rows_from : (outcome : ListedVerdict) (stretch : Stretch) (stretches : List Stretch)
      → AreInOrder t (stretch ∷ stretches)
      → listing_before t (stretch ∷ stretches) (least_of all_rules t (stretch ∷ stretches))
      ≡ rows_from t outcome (stretch ∷ stretches)
  listing_before-rows_from outcome stretch [] is = listing_before-one_stretch stretch is
  listing_before-rows_from outcome stretch (next ∷ stretches) order = by_break (least_break t stretch all_rules) refl
      (listing_before-rows_from Conforming next stretches order.3)
    where
      -- the least break of the stretches after the first
      later_break : Option Break
      later_break = least_of all_rules t (next ∷ stretches)

      -- by whether the first stretch has a break
      by_break : (o : Option Break) → least_break t stretch all_rules ≡ o
          → listing_before t (next ∷ stretches) later_break
          ≡ rows_from t Conforming (next ∷ stretches)
          → listing_before t (stretch ∷ next ∷ stretches) (option_or o later_break)
          ≡ rows_by t stretch o (rows_from t Conforming (next ∷ stretches))
      by_break None e following =
          let limit = listed_end t later_break in
          let start_before_end = starts_before_end t stretch order.0 in
          let below : stretch.end < limit = omega (arith, listed_end-after_start next stretches order.3, order.2) in
          let within : stretch.end < last_instant t + 1 = omega (
            arith,
            order.2,
            (IsStretchOf-first t next stretches order.3).within,
          ) in
          let same : nat_lt stretch.end limit ≡ nat_lt stretch.end (last_instant t + 1) = lt-ltb stretch.end limit below
          ∙ sym (lt-ltb stretch.end (last_instant t + 1) within) in
          let rest = flat_map (rows_of_stretch t limit) (next ∷ stretches) in
          ap (λ (rows : List Row). rows ++ rest ++ Verdict (outcome_of later_break) ∷ [])
          (rows_of_stretch-whole stretch limit start_before_end (omega (arith, below)) same)
          ∙ (append_assoc (rows_to t stretch stretch.end ++ reset_at t stretch.end) rest
          (Verdict (outcome_of later_break) ∷ [])
          ∙ (append_assoc (rows_to t stretch stretch.end) (reset_at t stretch.end)
          (rest ++ Verdict (outcome_of later_break) ∷ [])
          ∙ ap (λ (rows : List Row). rows_to t stretch stretch.end ++ (reset_at t stretch.end ++ rows)) following))
      by_break (Some b) e following =
          let there = least_break-within_stretch stretch b order.0 e in
          rw (
            rows_of_stretch-cut stretch b.instant there.0 there.1,
            rows_of_stretches-past stretch (next ∷ stretches) b.instant order there.1,
            append-nil (rows_before t stretch b.instant b.instant),
          ) refl

  -- the rows of a recording are those of its stretches, one after the other
  pub recorded_rows-rows_from : recorded_rows t ≡ rows_from t NeverIdle (judged_stretches t)
  unfolding listing_by
  recorded_rows-rows_from = by_stretches (judged_stretches t) (AreInOrder-judged_stretches t)
    where
      -- by whether there is a stretch
      by_stretches : (stretches : List Stretch) → AreInOrder t stretches
          → listing_of_stretches all_rules t stretches ≡ rows_from t NeverIdle
          stretches
      by_stretches [] order = refl
      by_stretches (stretch ∷ stretches) order = listing_before-rows_from NeverIdle stretch stretches order

-- ---- The first break of a stretch: there is none before its start, after its end or at a reset, and where a line is
-- lost it is U1.

module _ (t : Trace) (stretch : Stretch) where
  -- a break that is found at instant `j` has that instant
  pub break_at-instant : (rules : List Rule) (j : ℕ) (b : Break) → break_at t stretch rules j ≡ Some b → b.instant ≡ j
  unfolding break_at rule_break
  break_at-instant [] j b e = absurd (cc)
  break_at-instant (r ∷ rs) j b e = by_line (least (breaks t stretch r j) 0 line_count) (break_at-instant rs j b) e
    where
      -- by the first line on which the rule is broken, if there is one
      by_line : (o : Option ℕ) → (break_at t stretch rs j ≡ Some b → b.instant ≡ j) → option_or (option_map
          (λ l. record { instant = j; time = time_at t j; rule = r; line = l }) o) (break_at t stretch rs j) ≡ Some b
          → b.instant ≡ j
      by_line None later f = later f
      by_line (Some l) later f =
          let same : record { instant = j; time = time_at t j; rule = r; line = l } ≡ b = cc in
          sym (ap (λ (x : Break). x.instant) same)

  -- no rule is broken at an instant that isn't judged, if no line is lost there
  breaks-unjudged : (j : ℕ) → is_judged stretch j ≡ false → ((l : ℕ) → l < line_count → breaks t stretch U1 j l
      ≡ false)
      → (r : Rule) (l : ℕ) → l < line_count → breaks t stretch r j l ≡ false
  unfolding breaks
  breaks-unjudged j out still U1 l below = still l below
  breaks-unjudged j out still r l below = rw out refl

  -- at an instant that isn't judged there is no break, if no line is lost there
  pub break_at-unjudged : (j : ℕ) → is_judged stretch j ≡ false
      → ((l : ℕ) → l < line_count → breaks t stretch U1 j l ≡ false)
      → (rules : List Rule) → break_at t stretch rules j ≡ None
  break_at-unjudged j out still rules = break_at-none t stretch j (λ r l below. breaks-unjudged j out still r l below)
      rules

  -- without a break before `j` or at `j` there is none before `j + 1`
  pub break_before-next_none : (rules : List Rule) (j : ℕ) → break_before t stretch rules j ≡ None
      → break_at t stretch rules j ≡ None
      → break_before t stretch rules (j + 1) ≡ None
  unfolding break_before
  break_before-next_none rules j none here = rw (add-one, none, here) refl

  -- without a break before `m`, nor from there to `n`, there is none before `n`
  pub break_before-none_up_to : (rules : List Rule) (m n : ℕ) → m ≤ n → break_before t stretch rules m ≡ None
      → ((i : ℕ) → m ≤ i → i < n → break_at t stretch rules i ≡ None) → break_before t stretch rules n ≡ None
  unfolding break_before
  break_before-none_up_to rules m zero order none later = let e : m ≡ 0 = omega arith in rw e at none
  break_before-none_up_to rules m (suc n) order none later =
      elim (eq-or_below m (suc n) (omega arith)) [
        | inl e ↦ rw e at none
        | inr before ↦ rw (
          break_before-none_up_to rules m n (omega arith) none (λ i a b. later i a (omega arith)),
          later n (omega arith) (omega arith),
        ) refl
      ]

  -- a break at `j`, without one before it, is the least
  pub least_break-found : (j : ℕ) (b : Break) → break_before t stretch all_rules j ≡ None
      → break_at t stretch all_rules j
      ≡ Some b
      → j ≤ last_instant t → least_break t stretch all_rules ≡ Some b
  unfolding least_break break_before
  least_break-found j b none here within = break_before-stays t stretch all_rules b (suc j) (last_instant t + 1)
      (rw (none, here) refl) (omega arith)

  -- away from the end of a stretch U1 isn't broken
  pub breaks-no_loss_within : (j l : ℕ) → (j == stretch.end) ≡ false → breaks t stretch U1 j l ≡ false
  unfolding breaks is_broken
  breaks-no_loss_within j l other = rw other (and_right (has_line t.opening.slots l) false refl)

  -- no rule is broken up to the start of the stretch
  pub break_before-none_at_start : (j : ℕ) → j ≤ stretch.start + 1 → stretch.start < stretch.end
      → break_before t stretch all_rules j
      ≡ None
  unfolding break_before
  break_before-none_at_start j upto order = break_before-none_up_to all_rules 0 j (omega arith) refl
      (λ i a b. break_at-unjudged i (is_judged-early stretch i (omega arith))
      (λ l below. breaks-no_loss_within i l (eq-fails_below i stretch.end (omega arith)))
      all_rules)

-- the instant after `j` of the stretch that starts at `s`: it ends there, or continues
module _ (t : Trace) (s j : ℕ) (is : IsStretchOf t (stretch_from t s)) (from : s ≤ j) (before : j < stretch_end t s)
    (within : suc j ≤ last_instant t) where
  -- no instant after the start up to `j` ends the stretch
  stops_at-none_so_far : any (stops_at t) (s + 1) (j + 1) ≡ false
  stops_at-none_so_far = fails-any (stops_at t) (s + 1) (j + 1) (λ i a b. or_from _ _
      (stretch_unreset t (stretch_from t s) i is (omega arith) (omega arith))
      (stretch_unlost t (stretch_from t s) i is (omega arith) (omega arith)))

  -- if the next instant ends a stretch, it is the end of this one
  pub stretch_end-here : stops_at t (suc j) ≡ true → stretch_end t s ≡ suc j
  stretch_end-here stops = end-is t s j stops_at-none_so_far from (omega arith) stops

  -- without a reset or a loss of control at the next instant, the stretch lasts past it
  pub stretch_end-past_next : is_reset_at t (suc j) ≡ false → loses_control_at t (suc j) ≡ false
      → suc j < stretch_end t s
  stretch_end-past_next unreset unlost =
      end-past t s (suc j) (fails-any (stops_at t) (s + 1) (suc j + 1) (λ i a b. stops_at-none_up_to_next i a
      (eq-or_below i (suc j) b))) within
    where
      -- no instant after the start up to the next one ends the stretch
      stops_at-none_up_to_next : (i : ℕ) → s + 1 ≤ i → (i ≡ suc j) ⊎ (i < suc j) → stops_at t i ≡ false
      stops_at-none_up_to_next i a (inl e) = rw (e, unreset, unlost) refl
      stops_at-none_up_to_next i a (inr earlier) =
          any-fails (stops_at t) (s + 1) (j + 1) i stops_at-none_so_far a (omega arith)

-- at an instant of a stretch, or at its end
module _ (t : Trace) (s : ℕ) (is : IsStretchOf t (stretch_from t s)) where
  -- the stretch that starts at `s`
  abbrev own_stretch : Stretch
  own_stretch = stretch_from t s

  -- a reset in the stretch, or at its end, is its end
  pub stretch_end-at_reset : (n : ℕ) → s < n → n ≤ own_stretch.end → n ≤ last_instant t → is_reset_at t n ≡ true
      → own_stretch.end
      ≡ n
  stretch_end-at_reset zero after upto within reset = absurd (omega arith)
  stretch_end-at_reset (suc j) after upto within reset =
      stretch_end-here t s j is (omega arith) (omega arith) within (rw reset refl)

  -- of the changes that lead to an instant the first lost control line is the least one
  module _ (cs : List Change) where
    -- the first of the changes that loses a control line is on the least line that is lost
    lost_among-least : (j : ℕ) → s ≤ j → j < own_stretch.end → (levels_at t j).slots ≤ 21
        → levels_at t (suc j) ≡ changed (levels_at t j) cs
        → are_changes (levels_at t j) 0 cs ≡ true
        → lost_among (levels_at t (suc j)) cs ≡ least (is_lost (levels_at t (suc j))) 0 line_count
    unfolding loses_control_at is_reset_at
    lost_among-least j from before few made sound = rw made (lost-least (levels_at t j) cs few sound
        (stretch_unlost t own_stretch j is from before) (stretch_unreset t own_stretch j is from before))

    -- where a control line is lost, the break is U1 on that line
    pub break_at-loss : (n l : ℕ) → s < n → n ≤ own_stretch.end → n ≤ last_instant t → (levels_at t (n - 1)).slots ≤ 21
        → levels_at t n ≡ changed (levels_at t (n - 1)) cs → are_changes (levels_at t (n - 1)) 0 cs ≡ true
        → lost_among (levels_at t n) cs ≡ Some l
        → break_at t own_stretch all_rules n ≡ Some (record { instant = n; time = time_at t n; rule = U1; line = l })
    unfolding break_at rule_break loses_control_at loses_control
    break_at-loss zero l after upto within few made sound lost = absurd (omega arith)
    break_at-loss (suc j) l after upto within few made sound lost =
        let back = suc-sub-one j in
        let least_is = sym (lost_among-least j (omega arith) (omega arith) (rw back at few) (rw back at made)
        (rw back at sound))
        ∙ lost in
        let found = least-found (is_lost (levels_at t (suc j))) 0 line_count l least_is in
        let loses : loses_control_at t (suc j) ≡ true = any-holds (is_lost (levels_at t (suc j))) 0 line_count l
        found.first
        found.below found.holds in
        let ends = stretch_end-here t s j is (omega arith) (omega arith) within
        (or_right (is_reset_at t (suc j)) _ loses) in
        rw (least-alike (breaks t own_stretch U1 (suc j)) (is_lost (levels_at t (suc j))) 0 line_count
        (λ k a b. u1-lost t s j ends (omega arith) k) ∙ least_is) refl

    -- without a reset and a lost line, the instant is before the end of the stretch
    pub stretch_end-no_reset_no_loss : (n : ℕ) → s < n → n ≤ own_stretch.end → n ≤ last_instant t
        → (levels_at t (n - 1)).slots ≤ 21
        → levels_at t n ≡ changed (levels_at t (n - 1)) cs → are_changes (levels_at t (n - 1)) 0 cs ≡ true
        → is_reset_at t n ≡ false → lost_among (levels_at t n) cs ≡ None → n < own_stretch.end
    unfolding loses_control_at loses_control
    stretch_end-no_reset_no_loss zero after upto within few made sound unreset lost = absurd (omega arith)
    stretch_end-no_reset_no_loss (suc j) after upto within few made sound unreset lost =
        let back = suc-sub-one j in
        stretch_end-past_next t s j is (omega arith) (omega arith) within unreset (least-none-any _ _ _
        (sym (lost_among-least j (omega arith) (omega arith) (rw back at few) (rw back at made) (rw back at sound))
        ∙ lost))

-- after the last instant no stretch starts
stretches_after-last : (t : Trace) (n : ℕ) → last_instant t + 1 ≤ n → stretches_after t n ≡ []
stretches_after-last t n past =
    ap (map (stretch_from t)) (those-none (stretch_starts t) n (last_instant t + 1)
    (fails-any (stretch_starts t) n (last_instant t + 1) (λ i a b. absurd (omega arith))))

-- no stretch starts at an instant that isn't idle
stretches_after-not_idle : (t : Trace) (n : ℕ) → n ≤ last_instant t → is_idle_at t n ≡ false → stretches_after t n
    ≡ stretches_after t (n + 1)
stretches_after-not_idle t n within busy =
    ap (map (stretch_from t)) (those-split (stretch_starts t) n (n + 1) (last_instant t + 1) (omega arith) (omega arith)
    ∙ ap (λ (is : List ℕ). is ++ those (stretch_starts t) (n + 1) (last_instant t + 1))
    (those-none (stretch_starts t) n (n + 1)
    (fails-any (stretch_starts t) n (n + 1) (λ i a b. let here : i ≡ n = omega arith in
    ap (stretch_starts t) here ∙ busy-no_start t n busy))))

module _ {Whole Source : Type 0} {gave : Whole → Source → List Row → Type 0} {is_over : Source → Type 0} {whole : Whole}
    {v : Version} {t : Trace} where
  -- open rows have no last edge where the listing ends
  pub CanClose-follows : {done : List Row} {stretch : Stretch} {n : ℕ} {rows : OpenRows Source}
      → Follows gave is_over whole v done t stretch n rows → n ≤ stretch.end
      → CanClose gave is_over whole v (done ++ rows_to t stretch n) rows
  CanClose-follows {done} {stretch} {n} {rows} h within =
      let a = h.are_taken in
      let taken = rows.compared.taken in
      record {
        version_is = a.version_is;
        taken_is = omega (arith, a.taken_is, length-append done (rows_to t stretch n));
        given = a.given;
        is_given = a.is_given;
        compared = a.compared n (omega arith) within;
        tenure = IsDue-at_last v done t stretch BBSY n a.given taken rows.tenure a.placed.tenure h.tenure within;
        cycle = IsDue-at_last v done t stretch AS n a.given taken rows.cycle a.placed.cycle h.cycle within;
        transfer = IsDue-transfer_at_last t stretch v done a.given taken n rows.transfer a.placed.transfer h.transfer
            within;
      }

  -- at the opening the first stretch is awaited
  pub IsWaiting-first : {rows : OpenRows Source} → CanClose gave is_over whole v [] rows
      → IsWaiting gave is_over whole v t 0 NeverIdle rows
  IsWaiting-first h = record {
    awaits = awaits-first t;
    done = [];
    all = ap (rows_from t NeverIdle) (sym (judged_stretches-after_first t)) ∙ sym (recorded_rows-rows_from t);
    rows_are = h;
  }

  module _ {n : ℕ} (within : n ≤ last_instant t) {outcome : ListedVerdict} {rows : OpenRows Source} where
    -- at an instant that isn't idle no stretch starts
    pub IsWaiting-next : IsWaiting gave is_over whole v t n outcome rows → is_idle_at t n ≡ false
        → IsWaiting gave is_over whole v t (n + 1) outcome rows
    IsWaiting-next h busy = record {
      awaits = rw add-one (awaits-next t n h.awaits busy);
      done = h.done;
      all = ap (λ (stretches : List Stretch). h.done ++ rows_from t outcome stretches)
          (sym (stretches_after-not_idle t n within busy))
          ∙ h.all;
      rows_are = h.rows_are;
    }

    -- at an idle instant a stretch starts
    pub IsInStretch-start : (h : IsWaiting gave is_over whole v t n outcome rows) → is_idle_at t n ≡ true
        → {state : State}
        → Holds t (stretch_from t n) (n + 1) (n + 1) state → {later : OpenRows Source}
        → Follows gave is_over whole v h.done t (stretch_from t n) (n + 1) later
        → IsInStretch gave is_over whole v t (n + 1) Conforming later state
    IsInStretch-start h idle holds follows =
        let found = stretches_after-next t n n h.awaits (omega arith) within idle
        (fails-any (is_idle_at t) n n (λ i a b. absurd (omega arith))) in
        let order = end-after t n within in
        record {
          start = n;
          is = found.0;
          after = omega arith;
          upto = omega (arith, order);
          unbroken = break_before-none_at_start t (stretch_from t n) (n + 1) (omega arith) order;
          holds = holds;
          conforms = refl;
          done = h.done;
          all = ap (λ (stretches : List Stretch). h.done ++ rows_from t outcome stretches) (sym found.1) ∙ h.all;
          rows_are = follows;
        }

    module _ {state : State} (h : IsInStretch gave is_over whole v t n outcome rows state) where
      -- the stretch in which the instant is
      abbrev stretch : Stretch
      stretch = stretch_from t h.start

      -- the rows after those of this stretch, if it has no break
      abbrev rows_after_stretch : List Row
      rows_after_stretch = rows_from t Conforming (stretches_after t (stretch.end + 1))

      -- the rows up to the instant
      abbrev so_far : List Row
      so_far = h.done ++ rows_to t stretch n

      -- a reset ends the stretch, and the next one is awaited
      pub IsWaiting-after_reset : stretch_end t h.start ≡ n → is_reset_at t n ≡ true → {new : OpenRows Source}
          → CanClose gave is_over whole v (h.done ++ rows_to t stretch n ++ Reset n ∷ []) new
          → IsWaiting gave is_over whole v t (n + 1) outcome new
      unfolding least_break
      IsWaiting-after_reset ends reset closed = record {
        awaits = rw add-one (subst (λ m. Awaits t (suc m)) ends
            (stretch_reset t stretch h.is (ap (is_reset_at t) ends ∙ reset)));
        done = h.done ++ rows_to t stretch n ++ Reset n ∷ [];
        all =
            ap (λ (o : ListedVerdict). (h.done ++ rows_to t stretch n ++ Reset n ∷ []) ++ rows_from t o
            (stretches_after t (n + 1))) h.conforms
            ∙ (regroup h.done (rows_to t stretch n) (Reset n ∷ []) (rows_from t Conforming (stretches_after t (n + 1)))
            ∙ (ap (λ (xs : List Row). h.done ++ xs) (sym whole_stretch) ∙ h.all));
        rows_are = closed;
      }
        where
          -- four lists one after the other may be put together from the right
          regroup : (a b c d : List Row) → (a ++ b ++ c) ++ d ≡ a ++ (b ++ (c ++ d))
          regroup a b c d = simp append_assoc

          -- the stretch has no break
          no_break : least_break t stretch all_rules ≡ None
          no_break = break_before-none_up_to t stretch all_rules n (last_instant t + 1) (omega arith) h.unbroken
              (λ i a b. break_at-unjudged t stretch i (is_judged-past_reset i a)
              (λ l below. U1_unbroken_by_order i l below (here_or_later i a)) all_rules)
            where
              -- from the reset on no instant is judged
              is_judged-past_reset : (i : ℕ) → n ≤ i → is_judged stretch i ≡ false
              is_judged-past_reset i a = and_right (nat_lt stretch.start i) (nat_lt i stretch.end)
                  (le-ltb i stretch.end (omega (arith, ends)))

              -- an instant from the reset on is that of the reset or comes after it
              here_or_later : (i : ℕ) → n ≤ i → (i ≡ n) ⊎ (n < i)
              here_or_later i a = grind arith

              -- where no control line is lost, U1 isn't broken
              U1_unbroken_here : (n l : ℕ) → h.start < n → l < line_count → loses_control_at t n ≡ false
                  → breaks t stretch U1 n l ≡ false
              U1_unbroken_here (suc m) l after below unlost = u1-unlost t h.start m unlost l below
              U1_unbroken_here zero l after below unlost = absurd (omega arith)

              -- U1 isn't broken from the reset on: at it no control line is lost, and after it the stretch is over
              U1_unbroken_by_order : (i l : ℕ) → l < line_count → (i ≡ n) ⊎ (n < i) → breaks t stretch U1 i l ≡ false
              U1_unbroken_by_order i l below (inl e) =
                  rw e (U1_unbroken_here n l h.after below (reset-unlost_at t n reset))
              U1_unbroken_by_order i l below (inr after) =
                  breaks-no_loss_within t stretch i l (eq-fails_above i stretch.end (omega (arith, after, ends)))

          -- the rows from the stretch on are those up to the reset, that of the reset, and those of the stretches after
          -- it
          whole_stretch : rows_by t stretch (least_break t stretch all_rules) rows_after_stretch ≡ rows_to t stretch n
              ++ (Reset n ∷ [] ++ rows_from t Conforming (stretches_after t (n + 1)))
          whole_stretch = rw (no_break, ends, reset, lt-ltb n (last_instant t + 1) (omega arith)) refl

      -- a break ends judging
      pub IsEnded-break : (b : Break) → break_at t stretch all_rules n ≡ Some b
          → IsEnded gave is_over whole v t (outcome_of (Some b)) rows
      IsEnded-break b here =
          let at : b.instant ≡ n = break_at-instant t stretch all_rules n b here in
          let found = least_break-found t stretch n b h.unbroken here within in
          record {
            done = so_far;
            all =
                append_assoc h.done (rows_to t stretch n) (Verdict (outcome_of (Some b)) ∷ [])
                ∙ (ap (λ i. h.done ++ (rows_to t stretch i ++ Verdict (outcome_of (Some b)) ∷ [])) (sym at)
                ∙ (ap (λ (o : Option Break). h.done ++ rows_by t stretch o rows_after_stretch) (sym found) ∙ h.all));
            rows_are = CanClose-follows h.rows_are h.upto;
          }

      -- without a break the stretch continues
      pub IsInStretch-next : n < stretch_end t h.start → break_at t stretch all_rules n ≡ None → {new : State}
          → Holds t stretch (n + 1) (n + 1) new → {taken : OpenRows Source}
          → Follows gave is_over whole v h.done t stretch (n + 1) taken
          → IsInStretch gave is_over whole v t (n + 1) outcome taken new
      IsInStretch-next before here holds follows = record {
        start = h.start;
        is = h.is;
        after = omega (arith, h.after);
        upto = omega (arith, before);
        unbroken = break_before-next_none t stretch all_rules n h.unbroken here;
        holds = holds;
        conforms = h.conforms;
        done = h.done;
        all = h.all;
        rows_are = follows;
      }

-- an instant is idle exactly if its levels are
pub is_idle_at-levels : (t : Trace) (levels : Levels) (n : ℕ) → levels ≡ levels_at t n → is_idle_at t n ≡ is_idle levels
unfolding is_idle_at
is_idle_at-levels t levels n e = ap is_idle (sym e)

-- an instant is a reset exactly if its levels are
pub is_reset_at-levels : (t : Trace) (levels : Levels) (n : ℕ) → levels ≡ levels_at t n → is_reset_at t n
    ≡ is_reset levels
unfolding is_reset_at
is_reset_at-levels t levels n e = ap is_reset (sym e)

-- if `named` gives a rule and a line, there is a break with them
pub named-some : (o : Option Break) (rule : Rule) (line : ℕ) → Some (rule, line) ≡ named o
    → (b : Break) × (o ≡ Some b) × (b.rule ≡ rule) × (b.line ≡ line)
named-some None rule line e = absurd (cc)
named-some (Some b) rule line e = (
  b,
  refl,
  ap (λ (p : Rule × ℕ). p.0) (sym (same_Some _ _ e)),
  ap (λ (p : Rule × ℕ). p.1) (sym (same_Some _ _ e)),
)

-- if `named` gives nothing, there is no break
pub named-no_break : (o : Option Break) → None ≡ named o → o ≡ None
named-no_break None e = refl
named-no_break (Some b) e = absurd (cc)

-- the checker after a break: judging has ended
module _ {Whole Source : Type 0} {gave : Whole → Source → List Row → Type 0} {is_over : Source → Type 0} {whole : Whole}
    {v : Version} {t : Trace} {bus : Bus} {rows : OpenRows Source} {outcome : ListedVerdict}
    (new : Checker Source) where
  -- after a break the checker has ended judging
  pub Checks-ended : new.bus ≡ bus → new.rows ≡ rows → new.phase ≡ Ended → new.outcome ≡ outcome → IsBusOf t bus
      → IsEnded gave is_over whole v t outcome rows → Checks gave is_over whole v t new
  Checks-ended same_bus same_rows phase same_outcome at h = record {
    at = subst (IsBusOf t) (sym same_bus) at;
    phase_is =
        subst (λ (s : CheckPhase). IsPhase gave is_over whole v t (new.bus.instant + 1) new.outcome new.rows s)
        (sym phase) (subst (λ (o : ListedVerdict). IsEnded gave is_over whole v t o new.rows) (sym same_outcome)
        (subst (λ (r : OpenRows Source). IsEnded gave is_over whole v t outcome r) (sym same_rows) h));
  }

-- an instant of a stretch, or its end, by the levels and the changes: a reset, a lost line, or a break; without a reset
-- and a lost line the instant is within the stretch
module _ {Whole Source : Type 0} {gave : Whole → Source → List Row → Type 0} {is_over : Source → Type 0} {whole : Whole}
    {v : Version} {t : Trace} {bus : Bus} {cs : List Change} {outcome : ListedVerdict} {rows : OpenRows Source}
    {state : State} (at : IsBusOf t bus) (lead : LeadToInstant bus cs) (few : bus.before.slots ≤ 21)
    (within : bus.instant ≤ last_instant t)
    (h : IsInStretch gave is_over whole v t bus.instant outcome rows state) where
  -- the levels of the instant are those of the one before, changed
  made : levels_at t bus.instant ≡ changed (levels_at t (bus.instant - 1)) cs
  made = sym at.levels ∙ (lead.made ∙ ap (λ (w : Levels). changed w cs) at.before)

  -- the changes are well formed
  sound : are_changes (levels_at t (bus.instant - 1)) 0 cs ≡ true
  sound = ap (λ (w : Levels). are_changes w 0 cs) (sym at.before) ∙ lead.sound

  -- the backplane has at most 21 slots
  few_slots : (levels_at t (bus.instant - 1)).slots ≤ 21
  few_slots = omega (arith, few, ap (λ (w : Levels). w.slots) at.before)

  -- the lost line by the levels of the bus is that by the levels of the recording
  lost_among-bus : (o : Option ℕ) → o ≡ lost_among bus.levels cs → lost_among (levels_at t bus.instant) cs ≡ o
  lost_among-bus o e = ap (λ (w : Levels). lost_among w cs) (sym at.levels) ∙ sym e

  -- at a reset the next stretch is awaited
  pub judge-resets : is_reset bus.levels ≡ true → {new : OpenRows Source}
      → CanClose gave is_over whole v (h.done ++ rows_to t (stretch_from t h.start) bus.instant ++ Reset bus.instant
      ∷ [])
      new
      → IsWaiting gave is_over whole v t (bus.instant + 1) outcome new
  judge-resets reset closed =
      let here = is_reset_at-levels t bus.levels bus.instant at.levels ∙ reset in
      IsWaiting-after_reset within h (stretch_end-at_reset t h.start h.is bus.instant h.after h.upto within here) here
      closed

  -- where a control line is lost, judging ends with U1
  pub judge-loses : (line : ℕ) → Some line ≡ lost_among bus.levels cs
      → IsEnded gave is_over whole v t (Unreadable U1 bus.instant line) rows
  judge-loses line e = IsEnded-break within h _
      (break_at-loss t h.start h.is cs bus.instant line h.after h.upto within few_slots made sound
      (lost_among-bus (Some line) e))

  -- where a rule is broken, judging ends with it
  pub judge-breaks : (rule : Rule) (line : ℕ)
      → Some (rule, line) ≡ named (break_at t (stretch_from t h.start) all_rules bus.instant)
      → IsEnded gave is_over whole v t
      (if is_unreadable rule then Unreadable rule bus.instant line else Broken rule bus.instant line) rows
  judge-breaks rule line e =
      let (b, here, same_rule, same_line) = named-some (break_at t (stretch_from t h.start) all_rules bus.instant) rule
      line e in
      let same_instant = break_at-instant t (stretch_from t h.start) all_rules bus.instant b here in
      subst (λ (o : ListedVerdict). IsEnded gave is_over whole v t o rows)
      (ap (λ (r : Rule). if is_unreadable r then Unreadable r b.instant b.line else Broken r b.instant b.line) same_rule
      ∙ (ap (λ i. if is_unreadable rule then Unreadable rule i b.line else Broken rule i b.line) same_instant
      ∙ ap (λ l. if is_unreadable rule then Unreadable rule bus.instant l else Broken rule bus.instant l) same_line))
      (IsEnded-break within h b here)

  -- without a reset and a lost line, the stretch lasts past the instant
  pub judge-within : is_reset bus.levels ≡ false → None ≡ lost_among bus.levels cs → bus.instant < stretch_end t h.start
  judge-within unreset e = stretch_end-no_reset_no_loss t h.start h.is cs bus.instant h.after h.upto within few_slots
      made sound
      (is_reset_at-levels t bus.levels bus.instant at.levels ∙ unreset) (lost_among-bus None e)

-- within the stretch, the state with the cycle and the transfer that start at the instant is that of the bus
-- (`IsStateOf`)
pub judge-state : {Whole Source : Type 0} {gave : Whole → Source → List Row → Type 0} {is_over : Source → Type 0}
    {whole : Whole} {v : Version} {t : Trace} {bus : Bus} {outcome : ListedVerdict} {rows : OpenRows Source}
    {state opened : State} → IsBusOf t bus → (h : IsInStretch gave is_over whole v t bus.instant outcome rows state)
    → bus.instant < stretch_end t h.start
    → (is_judged (stretch_from t h.start) bus.instant ≡ true
    → Holds t (stretch_from t h.start) (bus.instant + 1) bus.instant opened)
    → IsStateOf t (stretch_from t h.start) bus opened
judge-state {t = t} {bus = bus} at h before holds =
    let judged = is_judged-holds (stretch_from t h.start) bus.instant h.after before in
    record { at = at; is = h.is; judged = judged; holds = holds judged }

-- a bus that the changes of a step advance has the levels of the recording one instant later
IsBusOf-advanced : (t : Trace) (old new : Bus) (cs : List Change) → IsBusOf t old → new.instant ≡ old.instant + 1
    → new.before ≡ old.levels → new.levels ≡ changed old.levels cs
    → levels_at t (old.instant + 1) ≡ changed (levels_at t old.instant) cs → IsBusOf t new
IsBusOf-advanced t old new cs at instant before levels made =
    let back : old.instant ≡ new.instant - 1 = omega (arith, instant) in
    record {
      before = before ∙ (at.levels ∙ ap (levels_at t) back);
      levels = levels ∙ (ap (λ (w : Levels). changed w cs) at.levels ∙ (sym made ∙ ap (levels_at t) (sym instant)));
    }

-- ---- The step that leads from an instant to the next.

module _ (t : Trace) (i : ℕ) (step : Step) (found : slice_get t.steps i ≡ Some step) where
  -- the changes of the step after instant i make the levels of instant `i + 1`
  pub levels_at-next : levels_at t (i + 1) ≡ changed (levels_at t i) step.changes
  unfolding levels_at
  levels_at-next = rw (add-one, found) refl

  -- the changes of the step after instant i are sound, if no step is malformed
  pub are_changes-step : malformed_step t ≡ None → are_changes (levels_at t i) 0 step.changes ≡ true
  unfolding malformed_step is_step
  are_changes-step well =
      let fits = not-false (is_step t i) (any-fails (λ n. not (is_step t n)) 0 (length t.steps) i
      (least-none-any _ _ _ well) (omega arith) (slice_get_within t.steps i step found)) in
      (and_parts _ _ (rw found at fits)).1

-- a step that was read from the steps at place `i` is step `i` of the recording
pub slice_get-read_step : (t : Trace) (steps : List Step) (i : ℕ) (step : Step) → steps ≡ t.steps → i < length steps
    → step ≡ get_or steps i step → slice_get t.steps i ≡ Some step
slice_get-read_step t steps i step e below is = ap (λ (xs : List Step). slice_get xs i) (sym e) ∙ slice_get_read steps
    (length steps) i step refl below is

-- ---- A recording whose steps are taken one by one.

-- a recording with steps is the one with the first of them, and then with the others
pub with_steps-one_by_one : (recorded : Trace) (step : Step) (more : List Step)
    → with_steps recorded (step ∷ more) ≡ with_steps (with_steps recorded (step ∷ [])) more
with_steps-one_by_one recorded step more = sym (with_steps-append recorded (step ∷ []) more)

-- the step after those of a recording is the next one
pub slice_get-next_step : (recorded : Trace) (step : Step) (more : List Step)
    → slice_get (recorded.steps ++ step ∷ more) (last_instant recorded) ≡ Some step
slice_get-next_step recorded step more =
    slice_get_read (recorded.steps ++ step ∷ more) (length (recorded.steps ++ step ∷ more)) (length recorded.steps) step
    refl (omega (arith, length-append recorded.steps (step ∷ more)))
    (sym (get_or-append_seam recorded.steps step more step))

-- the last levels with one more step
pub last_levels-next_step : (recorded : Trace) (step : Step) (levels : Levels) (changes : List Change)
    → levels ≡ last_levels recorded → changes ≡ step.changes
    → changed levels changes ≡ last_levels (with_steps recorded (step ∷ []))
last_levels-next_step recorded step levels changes behind same =
    ap (λ (w : Levels). changed w changes) behind ∙ (ap (changed (last_levels recorded)) same
    ∙ sym (levels_after-append recorded.opening recorded.steps (step ∷ [])))

-- a checker that takes `step` has followed the recording with that step
pub HasFollowed-next : {Source : Type 0} {recorded : Trace} {old : Checker Source} {bus : Bus} {cs : List Change}
    (step : Step)
    → HasFollowed recorded old → bus.instant ≡ old.bus.instant + 1 → bus.levels ≡ changed old.bus.levels cs
    → cs ≡ step.changes → (new : Checker Source) → new.bus ≡ bus → new.rows.compared.taken ≤ 4 * bus.instant + 4
    → HasFollowed (with_steps recorded (step ∷ [])) new
HasFollowed-next {recorded = recorded} {old = old} {cs = cs} step taken instant levels same new is few =
    let at = ap (λ (b : Bus). b.instant) is in
    record {
      instant = omega (arith, at, instant, taken.instant, length-append recorded.steps (step ∷ []));
      levels = ap (λ (b : Bus). b.levels) is
          ∙ (levels ∙ last_levels-next_step recorded step old.bus.levels cs taken.levels same);
      few = omega (arith, at, few);
    }

-- what the phase says of the next instant holds there once the step is taken
pub IsPhase-next_instant : {Whole Source : Type 0} {gave : Whole → Source → List Row → Type 0}
    {is_over : Source → Type 0}
    {whole : Whole} {v : Version} {recorded : Trace} {old : Checker Source} {bus : Bus} {cs : List Change}
    (step : Step) → HasFollowed recorded old → bus.instant ≡ old.bus.instant + 1 → bus.before ≡ old.bus.levels
    → bus.levels ≡ changed old.bus.levels cs → cs ≡ step.changes → HasCompared gave is_over whole v recorded old
    → {phase : CheckPhase} → old.phase ≡ phase → (more : List Step)
    → IsBusOf (with_steps (with_steps recorded (step ∷ [])) more) bus
    × (bus.instant ≤ last_instant (with_steps (with_steps recorded (step ∷ [])) more))
    × IsPhase gave is_over whole v (with_steps (with_steps recorded (step ∷ [])) more) bus.instant old.outcome old.rows
    phase
IsPhase-next_instant {gave = gave} {is_over = is_over} {whole = whole} {v = v} {recorded = recorded} {old = old}
    {bus = bus}
    {cs = cs} step taken instant before levels same compared {phase} is more =
    let t : Trace = with_steps recorded (step ∷ more) in
    let n = last_instant recorded in
    let h = compared (step ∷ more) in
    subst (λ (u : Trace). IsBusOf u bus × (bus.instant ≤ last_instant u)
    × IsPhase gave is_over whole v u bus.instant old.outcome old.rows phase)
    (with_steps-one_by_one recorded step more) (
      IsBusOf-advanced t old.bus bus cs h.at instant before levels
          (subst (λ i. levels_at t (i + 1) ≡ changed (levels_at t i) cs) (sym taken.instant)
          (levels_at-next t n step (slice_get-next_step recorded step more) ∙ ap (changed (levels_at t n)) (sym same))),
      omega (arith, instant, taken.instant, length-append recorded.steps (step ∷ more)),
      subst (λ n. IsPhase gave is_over whole v t n old.outcome old.rows phase) (sym instant)
          (subst (IsPhase gave is_over whole v t (old.bus.instant + 1) old.outcome old.rows) is h.phase_is),
    )

-- a recording up to instant `n`: its first `n` steps
abbrev pub recorded_to : Trace → ℕ → Trace
recorded_to t n = record t { steps = take n t.steps }

module _ (t : Trace) (n : ℕ) where
  -- the recording up to instant n, with the step n, is that up to instant n + 1
  pub recorded_to-next : (step : Step) → slice_get t.steps n ≡ Some step
      → with_steps (recorded_to t n) (step ∷ []) ≡ recorded_to t (n + 1)
  recorded_to-next step found =
      ap (λ (steps : List Step). record t { steps = steps }) (sym (take-next t.steps n step found))

  -- the recording up to instant n may go on with the step n
  pub MayGoOn-recorded_to : (step : Step) → IsCapture t → slice_get t.steps n ≡ Some step
      → MayGoOn (recorded_to t n) step
  MayGoOn-recorded_to step capture found =
      let below = slice_get_within t.steps n step found in
      record {
        within = omega (arith, below, capture.limited, length-take-le n t.steps (omega arith));
        sound = ap (λ (w : Levels). are_changes w 0 step.changes) (sym (levels_at-taken t n))
            ∙ are_changes-step t n step found capture.well_formed;
      }

  -- up to an instant that isn't before the last, the recording is whole
  pub recorded_to-whole : length t.steps ≤ n → recorded_to t n ≡ t
  recorded_to-whole past = ap (λ (steps : List Step). record t { steps = steps }) (take_all n t.steps past)

-- ---- Where the recording is whole.

module _ {Whole Source : Type 0} (gave : Whole → Source → List Row → Type 0) (is_over : Source → Type 0) (whole : Whole)
    (v : Version) (t : Trace) where
  -- after the last instant, whatever the phase is, judging has ended
  IsEnded-after_last : (outcome : ListedVerdict) (rows : OpenRows Source) (phase : CheckPhase)
      → IsPhase gave is_over whole v t (last_instant t + 1) outcome rows phase
      → IsEnded gave is_over whole v t outcome rows
  unfolding least_break
  IsEnded-after_last outcome rows Ended h = h
  IsEnded-after_last outcome rows Waiting h = record {
    done = h.done;
    all = ap (λ (stretches : List Stretch). h.done ++ rows_from t outcome stretches)
        (sym (stretches_after-last t (last_instant t + 1) (omega arith))) ∙ h.all;
    rows_are = h.rows_are;
  }
  IsEnded-after_last outcome rows (InStretch state) h =
      let stretch = stretch_from t h.start in
      let ends : stretch.end ≡ last_instant t + 1 = omega (arith, h.upto, end-within t h.start) in
      record {
        done = h.done ++ rows_to t stretch (last_instant t + 1);
        all =
            append_assoc h.done (rows_to t stretch (last_instant t + 1)) (Verdict outcome ∷ [])
            ∙ (ap (λ (rows : List Row). h.done ++ rows) (sym (whole_stretch h.start h.unbroken ends)) ∙ h.all);
        rows_are = CanClose-follows h.rows_are h.upto;
      }
    where
      -- if the stretch has no break and ends after the last instant, the rows from it on are its rows and the verdict
      whole_stretch : (s : ℕ) → break_before t (stretch_from t s) all_rules (last_instant t + 1) ≡ None
          → stretch_end t s ≡ last_instant t + 1
          → rows_by t (stretch_from t s) (least_break t (stretch_from t s) all_rules) (rows_from t Conforming
          (stretches_after t (stretch_end t s + 1))) ≡ rows_to t (stretch_from t s) (last_instant t + 1)
          ++ Verdict outcome ∷ []
      whole_stretch s none ends = rw (
        none,
        ends,
        stretches_after-last t (last_instant t + 1 + 1) (omega arith),
        h.conforms,
        le-ltb (last_instant t + 1) (last_instant t + 1) (omega arith),
        and_right (is_reset_at t (last_instant t + 1)) false refl,
      ) refl

-- a checker that has taken all steps has ended
pub IsEnded-all_steps : {Whole Source : Type 0} {gave : Whole → Source → List Row → Type 0} {is_over : Source → Type 0}
    {whole : Whole} {v : Version} {t : Trace} {checker : Checker Source} → HasFollowed t checker
    → HasCompared gave is_over whole v t checker → IsEnded gave is_over whole v t checker.outcome checker.rows
IsEnded-all_steps {gave = gave} {is_over = is_over} {whole = whole} {v = v} {t = t} {checker = checker} taken compared =
    let h = subst (λ (u : Trace). Checks gave is_over whole v u checker) (with_steps-none t)
    (compared []) in
    IsEnded-after_last gave is_over whole v t checker.outcome checker.rows checker.phase
    (subst (λ n. IsPhase gave is_over whole v t (n + 1) checker.outcome checker.rows checker.phase) taken.instant
    h.phase_is)
