-- The stretches of a recording that are judged: what is known of each, where they are, and how they are found from
-- instant to instant.
use Rattle.std.proofs.Common.{◌≡◌, ℕ, zero, suc, ◌+◌, ◌<◌, ◌≤◌, Bool, true, false, ◌&&◌, ◌||◌, List, [], ◌∷◌, ◌++◌}
use Rattle.std.proofs.Common.{map, refl, sym, ◌∙◌, ap, arith, inl, inr, ◌⊎◌, cond, subst}
use Rattle.std.specs.Prelude.{Option, None, Some, nat_le, unwrap_or}
use Rattle.std.proofs.lemmas.Bool.Decides.{nat_tests}
use Rattle.std.proofs.lemmas.List.{map-append}
use Rattle.std.proofs.lemmas.Bool.{and_parts, cases_Bool, not-true, or_from, or_left, or_right, le-leb}
use Rattle.std.proofs.Math.Bool.{and-false}
use Rattle.vme_trace.specs.Instants.{any, least, greatest, those}
use Rattle.vme_trace.specs.Trace.{Trace, levels_at, last_instant}
use Rattle.vme_trace.specs.Judged.{Awaits, Stretch, IsStretchOf, stretch_from, stretch_end, is_idle_at, is_reset_at}
use Rattle.vme_trace.specs.Judged.{loses_control_at, stops_at, last_reset, was_idle, is_cut_off, stretch_starts}
use Rattle.vme_trace.specs.Judged.{judged_stretches, stretches_after}
use Rattle.vme_trace.proofs.Changing.{idle-unlost, idle-unreset, reset-unlost}
use Rattle.vme_trace.proofs.OpenTransfers.{ReadsStrobes}
use Rattle.vme_trace.proofs.Ranges.{any-fails, fails-any, any-least, least-found, those-none, those-more, those-same}
use Rattle.vme_trace.proofs.Ranges.{those-next, those-split, clash, next_or_within}
use Rattle.vme_trace.proofs.StretchEnds.{not_lost, not_reset, reads_strobes}

-- 0 is at most n
zero_le : (n : ℕ) → nat_le 0 n ≡ true
zero_le n = grind (arith, nat_tests)

-- the greatest number below n with p, or else 0, is at most n
greatest-or_zero : (p : ℕ → Bool) (n : ℕ) → unwrap_or (greatest p 0 n) 0 ≤ n
unfolding greatest
greatest-or_zero p zero = omega arith
greatest-or_zero p (suc n) = by_test (nat_le 0 n && p n) (greatest-or_zero p n)
  where
    by_test : (b : Bool) → unwrap_or (greatest p 0 n) 0 ≤ n → unwrap_or (cond b (Some n) (greatest p 0 n)) 0 ≤ suc n
    by_test true h = omega arith
    by_test false h = omega arith

-- an instant n from s on is s, or after it
pub same_or_after : (s n : ℕ) → s ≤ n → (s ≡ n) ⊎ (s < n)
same_or_after s n h = grind arith

module _ (t : Trace) where
  -- instant n is in the stretch that starts at s, its start included
  pub record IsIn (s n : ℕ) : Type 0 where
    pub starts : stretch_starts t s ≡ true
    pub from : s ≤ n
    pub before : n < stretch_end t s

  -- where the bus is idle, no control line is lost
  pub idle-unlost_at : (n : ℕ) → is_idle_at t n ≡ true → loses_control_at t n ≡ false
  unfolding is_idle_at loses_control_at
  idle-unlost_at n h = idle-unlost (levels_at t n) h

  -- where the bus is idle, it isn't reset
  pub idle-unreset_at : (n : ℕ) → is_idle_at t n ≡ true → is_reset_at t n ≡ false
  unfolding is_idle_at is_reset_at
  idle-unreset_at n h = idle-unreset (levels_at t n) h

  -- where the bus is reset, no control line is lost
  pub reset-unlost_at : (n : ℕ) → is_reset_at t n ≡ true → loses_control_at t n ≡ false
  unfolding is_reset_at loses_control_at
  reset-unlost_at n h = reset-unlost (levels_at t n) h

  -- where the bus is reset, it isn't idle
  pub reset-busy_at : (n : ℕ) → is_reset_at t n ≡ true → is_idle_at t n ≡ false
  reset-busy_at n h =
      elim (cases_Bool (is_idle_at t n)) [
        | inl idle ↦ absurd (clash (is_reset_at t n) h (idle-unreset_at n idle))
        | inr busy ↦ busy
      ]

  -- where a stretch stops, the bus isn't idle
  pub stops-busy_at : (n : ℕ) → stops_at t n ≡ true → is_idle_at t n ≡ false
  stops-busy_at n h =
      elim (cases_Bool (is_idle_at t n)) [
        | inl idle ↦ absurd (clash (stops_at t n) h (or_from _ _ (idle-unreset_at n idle) (idle-unlost_at n idle)))
        | inr busy ↦ busy
      ]

  -- before the opening the bus wasn't idle
  pub was_idle-first : was_idle t 0 ≡ false
  unfolding was_idle any greatest
  was_idle-first = refl

  -- where the bus is reset at n, the last reset before n + 1 is n
  last_reset-at : (n : ℕ) → is_reset_at t n ≡ true → last_reset t (suc n) ≡ n
  unfolding greatest
  last_reset-at n h = rw (zero_le n, h) refl

  -- where the bus isn't reset at n, the last reset before n + 1 is that before n
  last_reset-unreset : (n : ℕ) → is_reset_at t n ≡ false → last_reset t (suc n) ≡ last_reset t n
  unfolding greatest
  last_reset-unreset n h = rw (zero_le n, h) refl

  -- after a reset at n the bus wasn't idle since the last reset
  pub was_idle-reset : (n : ℕ) → is_reset_at t n ≡ true → was_idle t (suc n) ≡ false
  unfolding was_idle
  was_idle-reset n h =
      ap (λ first. any (is_idle_at t) first (suc n)) (last_reset-at n h)
      ∙ fails-any (is_idle_at t) n (suc n) (λ i a b. let e : i ≡ n = omega arith in
      ap (is_idle_at t) e ∙ reset-busy_at n h)

  -- where the bus isn't reset at n, it was idle since the last reset before n + 1 just if it was before n, or is at n
  pub was_idle-next : (n : ℕ) → is_reset_at t n ≡ false → was_idle t (suc n) ≡ (was_idle t n || is_idle_at t n)
  unfolding was_idle any
  was_idle-next n h =
      ap (λ first. any (is_idle_at t) first (suc n)) (last_reset-unreset n h)
      ∙ ap (λ b. any (is_idle_at t) (last_reset t n) n || (b && is_idle_at t n))
      (le-leb (last_reset t n) n (greatest-or_zero (is_reset_at t) n))

  -- before the opening no stretch was cut off
  pub cut-first : any (is_cut_off t) 0 0 ≡ false
  unfolding any
  cut-first = refl

  -- a stretch was cut off before n + 1 just if one was before n, or if a control line is lost at n where the bus was
  -- idle
  pub cut-next : (n : ℕ) → any (is_cut_off t) 0 (suc n)
      ≡ (any (is_cut_off t) 0 n || (loses_control_at t n && was_idle t n))
  unfolding any is_cut_off
  cut-next n = rw (zero_le n) refl

  -- at the opening the next idle instant starts a stretch
  pub awaits-first : Awaits t 0
  awaits-first = record { unjudged = was_idle-first; uncut = cut-first }

  -- where a stretch is awaited at n, it starts at n just if n is idle
  pub awaits-starts : (n : ℕ) → Awaits t n → stretch_starts t n ≡ is_idle_at t n
  unfolding stretch_starts
  awaits-starts n w = rw (w.unjudged, w.uncut) (ends_in_true (is_idle_at t n))
    where
      ends_in_true : (b : Bool) → (b && true && true) ≡ b
      ends_in_true true = refl
      ends_in_true false = refl

  -- where a stretch is awaited at n and n isn't idle, it is still awaited at n + 1
  pub awaits-next : (n : ℕ) → Awaits t n → is_idle_at t n ≡ false → Awaits t (suc n)
  awaits-next n w busy = record {
    unjudged =
        elim (cases_Bool (is_reset_at t n)) [
          | inl reset ↦ was_idle-reset n reset
          | inr unreset ↦ was_idle-next n unreset ∙ or_from _ _ w.unjudged busy
        ];
    uncut = cut-next n ∙ or_from _ _ w.uncut (rw w.unjudged (and-false (loses_control_at t n)));
  }

  -- where a stretch is awaited at f, and no instant from f on and before n is idle, it is awaited at n
  pub awaits-until : (f n : ℕ) → Awaits t f → f ≤ n → any (is_idle_at t) f n ≡ false → Awaits t n
  awaits-until f zero w from busy = let e : f ≡ 0 = omega arith in subst (Awaits t) e w
  awaits-until f (suc n) w from busy =
      elim (next_or_within f n from) [
        | inl e ↦ subst (Awaits t) e w
        | inr before ↦ awaits-next n
            (awaits-until f n w before (fails-any (is_idle_at t) f n (λ i a b. any-fails (is_idle_at t) f (suc n) i busy
            a
            (omega arith)))) (any-fails (is_idle_at t) f (suc n) n busy before (omega arith))
      ]

  -- a stretch starts at an idle instant
  pub starts-idle : (s : ℕ) → stretch_starts t s ≡ true → is_idle_at t s ≡ true
  unfolding stretch_starts
  starts-idle s h = (and_parts _ _ (and_parts _ _ h).0).0

  -- a stretch is awaited where one starts
  awaits-at_start : (s : ℕ) → stretch_starts t s ≡ true → Awaits t s
  unfolding stretch_starts
  awaits-at_start s h = record {
    unjudged = not-true _ (and_parts _ _ (and_parts _ _ h).0).1;
    uncut = not-true _
        (and_parts _ _ h).1;
  }

  -- no stretch starts after one was cut off
  pub cut-no_start : (n : ℕ) → any (is_cut_off t) 0 n ≡ true → stretch_starts t n ≡ false
  cut-no_start n h =
      elim (cases_Bool (stretch_starts t n)) [
        | inl starts ↦ absurd (clash _ h (awaits-at_start n starts).uncut)
        | inr none ↦ none
      ]

  -- no stretch starts where the bus was idle since the last reset
  pub idle-no_start : (n : ℕ) → was_idle t n ≡ true → stretch_starts t n ≡ false
  idle-no_start n h =
      elim (cases_Bool (stretch_starts t n)) [
        | inl starts ↦ absurd (clash _ h (awaits-at_start n starts).unjudged)
        | inr none ↦ none
      ]

  -- no stretch starts where the bus isn't idle
  pub busy-no_start : (n : ℕ) → is_idle_at t n ≡ false → stretch_starts t n ≡ false
  busy-no_start n h =
      elim (cases_Bool (stretch_starts t n)) [
        | inl starts ↦ absurd (clash _ (starts-idle n starts) h)
        | inr none ↦ none
      ]

  -- a stretch that was cut off before m was cut off before each later n
  pub cut-stays : (m n : ℕ) → any (is_cut_off t) 0 m ≡ true → m ≤ n → any (is_cut_off t) 0 n ≡ true
  cut-stays m zero h from = let e : m ≡ 0 = omega arith in ap (any (is_cut_off t) 0) (sym e) ∙ h
  cut-stays m (suc n) h from =
      elim (next_or_within m n from) [
        | inl e ↦ ap (any (is_cut_off t) 0) (sym e) ∙ h
        | inr before ↦ cut-next n ∙ or_left _ _ (cut-stays m n h before)
      ]

  -- a stretch ends after its start, at the latest one after the last instant
  pub end-after : (s : ℕ) → s ≤ last_instant t → s < stretch_end t s
  unfolding stretch_end
  end-after s within = by_end (least (stops_at t) (s + 1) (last_instant t + 1)) refl
    where
      by_end : (o : Option ℕ) → least (stops_at t) (s + 1) (last_instant t + 1) ≡ o → s < unwrap_or o
          (last_instant t + 1)
      by_end None e = omega arith
      by_end (Some w) e = omega (arith, (least-found (stops_at t) (s + 1) (last_instant t + 1) w e).first)

  -- a stretch ends at the latest one after the last instant
  pub end-within : (s : ℕ) → stretch_end t s ≤ last_instant t + 1
  unfolding stretch_end
  end-within s = by_end (least (stops_at t) (s + 1) (last_instant t + 1)) refl
    where
      by_end : (o : Option ℕ) → least (stops_at t) (s + 1) (last_instant t + 1) ≡ o → unwrap_or o (last_instant t + 1) ≤
          last_instant t + 1
      by_end None e = omega arith
      by_end (Some w) e = omega (arith, (least-found (stops_at t) (s + 1) (last_instant t + 1) w e).below)

  -- at the end of a stretch the bus is reset or a control line is lost, unless the end is after the last instant
  pub end-stops : (s : ℕ) → stretch_end t s ≤ last_instant t → stops_at t (stretch_end t s) ≡ true
  unfolding stretch_end
  end-stops s = by_end (least (stops_at t) (s + 1) (last_instant t + 1)) refl
    where
      by_end : (o : Option ℕ) → least (stops_at t) (s + 1) (last_instant t + 1) ≡ o → unwrap_or o (last_instant t + 1) ≤
          last_instant t → stops_at t (unwrap_or o (last_instant t + 1)) ≡ true
      by_end None e within = absurd (omega arith)
      by_end (Some w) e within = (least-found (stops_at t) (s + 1) (last_instant t + 1) w e).holds

  -- the start of a stretch is in it
  pub in-first : (s : ℕ) → stretch_starts t s ≡ true → s ≤ last_instant t → IsIn s s
  in-first s starts within = record { starts = starts; from = omega arith; before = end-after s within }

  -- the next instant is in the stretch if it is before its end
  pub in-next : (s n : ℕ) → IsIn s n → suc n < stretch_end t s → IsIn s (suc n)
  in-next s n h before = record { starts = h.starts; from = omega (arith, h.from); before = before }

  -- no control line is lost in a stretch
  pub in-unlost : (s n : ℕ) → IsIn s n → loses_control_at t n ≡ false
  in-unlost s n h =
      elim (same_or_after s n h.from) [
        | inl e ↦ ap (loses_control_at t) (sym e) ∙ idle-unlost_at s (starts-idle s h.starts)
        | inr after ↦ not_lost t s n after h.before
      ]

  -- the bus isn't reset in a stretch
  pub in-unreset : (s n : ℕ) → IsIn s n → is_reset_at t n ≡ false
  in-unreset s n h =
      elim (same_or_after s n h.from) [
        | inl e ↦ ap (is_reset_at t) (sym e) ∙ idle-unreset_at s (starts-idle s h.starts)
        | inr after ↦ not_reset t s n after h.before
      ]

  -- after an instant in a stretch, the bus was idle since the last reset, and no stretch was cut off
  was_idle-in_stretch : (s n : ℕ) → IsIn s n → (was_idle t (suc n) ≡ true) × (any (is_cut_off t) 0 (suc n) ≡ false)
  was_idle-in_stretch s zero h =
      let e : s ≡ 0 = omega (arith, h.from) in
      let starts = subst (λ i. stretch_starts t i ≡ true) e h.starts in (
        was_idle-next 0 (in-unreset s 0 h) ∙ or_right _ _ (starts-idle 0 starts),
        cut-next 0 ∙ or_from _ _ cut-first (ap (λ b. b && was_idle t 0) (in-unlost s 0 h)),
      )
  was_idle-in_stretch s (suc n) h =
      elim (next_or_within s n h.from) [
        | inl e ↦
            let starts = subst (λ i. stretch_starts t i ≡ true) e h.starts in (
              was_idle-next (suc n) (in-unreset s (suc n) h) ∙ or_right _ _ (starts-idle (suc n) starts),
              cut-next (suc n) ∙ or_from _ _ (awaits-at_start (suc n) starts).uncut (ap (λ b. b && was_idle t (suc n))
                  (in-unlost s (suc n) h)),
            )
        | inr before ↦
            let earlier = was_idle-in_stretch s n (record {
              starts = h.starts;
              from = before;
              before =
                  omega (arith, h.before);
            })
            in (
              was_idle-next (suc n) (in-unreset s (suc n) h) ∙ or_left _ _ earlier.0,
              cut-next (suc n) ∙ or_from _ _ earlier.1 (ap (λ b. b && was_idle t (suc n)) (in-unlost s (suc n) h)),
            )
      ]

  -- no other stretch starts within a stretch, nor at its end
  pub in-no_start : (s n : ℕ) → IsIn s n → stretch_starts t (suc n) ≡ false
  in-no_start s n h = idle-no_start (suc n) (was_idle-in_stretch s n h).0

  -- where a stretch ends by a reset, the next one is awaited
  pub in-reset : (s n : ℕ) → IsIn s n → is_reset_at t (suc n) ≡ true → Awaits t (suc (suc n))
  in-reset s n h reset = record {
    unjudged = was_idle-reset (suc n) reset;
    uncut = cut-next (suc n) ∙ or_from _ _ (was_idle-in_stretch s n h).1 (ap (λ b. b && was_idle t (suc n))
        (reset-unlost_at (suc n) reset));
  }

  -- where a stretch ends by a lost control line, it is cut off
  pub in-lost : (s n : ℕ) → IsIn s n → loses_control_at t (suc n) ≡ true → any (is_cut_off t) 0 (suc (suc n)) ≡ true
  in-lost s n h lost = cut-next (suc n) ∙ or_right _ (loses_control_at t (suc n) && was_idle t (suc n))
      (rw (lost, (was_idle-in_stretch s n h).0) refl)

  -- if a is false, and a or b true, b is true
  or-false_first : (a b : Bool) → a ≡ false → (a || b) ≡ true → b ≡ true
  or-false_first true b h k = absurd (cc)
  or-false_first false b h k = k

  -- a stretch of a recording is the one that starts at its start
  stretch_from-start : (stretch : Stretch) → IsStretchOf t stretch → stretch ≡ stretch_from t stretch.start
  stretch_from-start stretch is = ap (λ end. from_to stretch.start end) is.ends
    where
      from_to : ℕ → ℕ → Stretch
      from_to start end = record { start = start; end = end }

  -- an instant from the start of a stretch on and before its end is in it
  IsIn-stretch : (stretch : Stretch) (n : ℕ) → IsStretchOf t stretch → stretch.start ≤ n → n < stretch.end
      → IsIn stretch.start n
  IsIn-stretch stretch n is from before = record { starts = is.starts; from = from; before = omega (arith, is.ends) }

  -- the bus is idle at the start of a stretch
  pub is_idle_at-stretch_start : (stretch : Stretch) → IsStretchOf t stretch → is_idle_at t stretch.start ≡ true
  is_idle_at-stretch_start stretch is = starts-idle stretch.start is.starts

  -- a stretch starts before its end
  pub starts_before_end : (stretch : Stretch) → IsStretchOf t stretch → stretch.start < stretch.end
  starts_before_end stretch is = omega (arith, is.ends, end-after stretch.start is.within)

  -- a stretch ends at the latest one after the last instant
  pub ends_within : (stretch : Stretch) → IsStretchOf t stretch → stretch.end ≤ last_instant t + 1
  ends_within stretch is = omega (arith, is.ends, end-within stretch.start)

  -- from the start of a stretch on and before its end no control line is lost
  pub stretch_unlost : (stretch : Stretch) (n : ℕ) → IsStretchOf t stretch → stretch.start ≤ n → n < stretch.end
      → loses_control_at t n
      ≡ false
  stretch_unlost stretch n is from before = in-unlost stretch.start n (IsIn-stretch stretch n is from before)

  -- within a stretch the bus isn't reset
  pub stretch_unreset : (stretch : Stretch) (n : ℕ) → IsStretchOf t stretch → stretch.start ≤ n → n < stretch.end
      → is_reset_at t n ≡ false
  stretch_unreset stretch n is from before = in-unreset stretch.start n (IsIn-stretch stretch n is from before)

  -- a stretch starts with both strobes high, and within it both are known
  pub stretch_reads : (stretch : Stretch) → IsStretchOf t stretch → ReadsStrobes t stretch
  stretch_reads stretch is = subst (ReadsStrobes t) (sym (stretch_from-start stretch is))
      (reads_strobes t stretch.start (is_idle_at-stretch_start stretch is))

  -- where a stretch ends within the recording, the bus is reset or a control line lost
  pub stretch_stops : (stretch : Stretch) → IsStretchOf t stretch → stretch.end ≤ last_instant t
      → stops_at t stretch.end ≡ true
  stretch_stops stretch is within = ap (stops_at t) is.ends ∙ end-stops stretch.start (omega (arith, is.ends))

  -- where a stretch ends within the recording and not by a reset, a control line is lost at its end
  pub stretch_lost : (stretch : Stretch) → IsStretchOf t stretch → stretch.end ≤ last_instant t
      → is_reset_at t stretch.end ≡ false
      → loses_control_at t stretch.end ≡ true
  stretch_lost stretch is within unreset = or-false_first _ _ unreset (stretch_stops stretch is within)

  -- the last instant before the end of a stretch is in it
  IsIn-last : (stretch : Stretch) → IsStretchOf t stretch → (n : ℕ) × (stretch.end ≡ suc n) × IsIn stretch.start n
  IsIn-last stretch is = by_end stretch.end refl
    where
      by_end : (end : ℕ) → stretch.end ≡ end → (n : ℕ) × (stretch.end ≡ suc n) × IsIn stretch.start n
      by_end zero e = absurd (omega (arith, e, starts_before_end stretch is))
      by_end (suc n) e = (
        n,
        e,
        IsIn-stretch stretch n is (omega (arith, e, starts_before_end stretch is))
            (omega (arith, e)),
      )

  -- where a stretch ends within the recording and not by a reset, no other starts at its end or later
  pub stretch_final : (stretch : Stretch) (j : ℕ) → IsStretchOf t stretch → stretch.end ≤ last_instant t
      → is_reset_at t stretch.end
      ≡ false → stretch.end ≤ j → stretch_starts t j ≡ false
  stretch_final stretch j is within unreset from =
      let last = IsIn-last stretch is in
      let lost = ap (loses_control_at t) (sym last.1) ∙ stretch_lost stretch is within unreset in
      elim (same_or_after stretch.end j from) [
        | inl e ↦ ap (stretch_starts t) (sym e) ∙ busy-no_start stretch.end
            (stops-busy_at stretch.end (stretch_stops stretch is within))
        | inr later ↦ cut-no_start j (cut-stays (suc (suc last.0)) j (in-lost stretch.start last.0 last.2 lost)
            (omega (arith, last.1)))
      ]

  -- where a stretch ends by a reset, the next one is awaited after its end
  pub stretch_reset : (stretch : Stretch) → IsStretchOf t stretch → is_reset_at t stretch.end ≡ true
      → Awaits t (suc stretch.end)
  stretch_reset stretch is reset =
      let last = IsIn-last stretch is in
      subst (λ n. Awaits t (suc n)) (sym last.1) (in-reset stretch.start last.0 last.2 (ap (is_reset_at t) (sym last.1)
      ∙ reset))

  -- no other stretch starts within a stretch, nor at its end
  pub one_stretch_alone : (stretch : Stretch) (j : ℕ) → IsStretchOf t stretch → stretch.start < j → j ≤ stretch.end
      → stretch_starts t j ≡ false
  one_stretch_alone stretch zero is after upto = absurd (omega arith)
  one_stretch_alone stretch (suc n) is after upto = in-no_start stretch.start n
      (IsIn-stretch stretch n is (omega arith) (omega arith))

  -- of two stretches the first one ends by a reset, before the second one starts
  pub stretches-apart : (stretch next : Stretch) → IsStretchOf t stretch → IsStretchOf t next
      → stretch.start < next.start
      → (is_reset_at t stretch.end ≡ true) × (stretch.end < next.start)
  stretches-apart stretch next is is_next order =
      elim (before_or_after next.start stretch.end) [
        | inl within ↦ absurd (clash _ is_next.starts (one_stretch_alone stretch next.start is order within))
        | inr past ↦ (by_test (is_reset_at t stretch.end) refl past, past)
      ]
    where
      before_or_after : (j n : ℕ) → (j ≤ n) ⊎ (n < j)
      before_or_after j n = grind arith

      by_test : (b : Bool) → is_reset_at t stretch.end ≡ b → stretch.end < next.start → b ≡ true
      by_test true e past = refl
      by_test false e past = absurd
          (clash _ is_next.starts (stretch_final stretch next.start is (omega (arith, is_next.within)) e (omega arith)))

  -- the stretches that start before an instant
  abbrev pub stretches_before : ℕ → List Stretch
  stretches_before n = map (stretch_from t) (those (stretch_starts t) 0 n)

  -- the judged stretches are those that start before the instant after the last
  pub judged_stretches-before : judged_stretches t ≡ stretches_before (last_instant t + 1)
  unfolding judged_stretches
  judged_stretches-before = refl

  -- the judged stretches are those that start at the opening or later
  pub judged_stretches-after_first : judged_stretches t ≡ stretches_after t 0
  unfolding judged_stretches
  judged_stretches-after_first = refl

  -- where a stretch starts at n, it is added to those that start before n
  pub stretches_before-starts : (n : ℕ) → stretch_starts t n ≡ true → stretches_before (suc n) ≡ stretches_before n
      ++ stretch_from t n ∷ []
  stretches_before-starts n h = ap (map (stretch_from t)) (those-more (stretch_starts t) 0 n (omega arith) h)
      ∙ map-append (stretch_from t)
      (those (stretch_starts t) 0 n) (n ∷ [])

  -- where no stretch starts at n, none is added
  pub stretches_before-no_start : (n : ℕ) → stretch_starts t n ≡ false → stretches_before (suc n) ≡ stretches_before n
  stretches_before-no_start n h = ap (map (stretch_from t)) (those-same (stretch_starts t) 0 n h)

  -- where no stretch starts from f on and before m, the starts from f on are those from m on
  those-same_starts : (f m : ℕ) → f ≤ m → ((j : ℕ) → f ≤ j → j < m → stretch_starts t j ≡ false)
      → those (stretch_starts t) f
      (last_instant t + 1) ≡ those (stretch_starts t) m (last_instant t + 1)
  those-same_starts f m order none =
      elim (within_or_past m (last_instant t)) [
        | inl within ↦
            those-split (stretch_starts t) f m (last_instant t + 1) order (omega arith)
            ∙ ap (λ js. js ++ those (stretch_starts t) m (last_instant t + 1))
            (those-none (stretch_starts t) f m (fails-any (stretch_starts t) f m none))
        | inr past ↦
            those-none (stretch_starts t) f (last_instant t + 1) (fails-any (stretch_starts t) f (last_instant t + 1)
            (λ j a b. none j a (omega arith)))
            ∙ sym (those-none (stretch_starts t) m (last_instant t + 1)
            (fails-any (stretch_starts t) m (last_instant t + 1)
            (λ j a b. absurd (omega arith))))
      ]
    where
      within_or_past : (m last : ℕ) → (m ≤ last + 1) ⊎ (last + 1 < m)
      within_or_past m last = grind arith

  -- the stretches that start after the start of one are those that start after its end
  stretches_after-past_end : (stretch : Stretch) → IsStretchOf t stretch → stretches_after t (stretch.start + 1)
      ≡ stretches_after t (stretch.end + 1)
  stretches_after-past_end stretch is =
      ap (map (stretch_from t)) (those-same_starts (stretch.start + 1) (stretch.end + 1)
      (omega (arith, starts_before_end stretch is))
      (λ j a b. one_stretch_alone stretch j is (omega arith) (omega arith)))

  -- where a stretch starts at f, it is the first of those that start from f on
  stretches_after-here : (f : ℕ) → f ≤ last_instant t → stretch_starts t f ≡ true → stretches_after t f
      ≡ stretch_from t f
      ∷ stretches_after t (f + 1)
  stretches_after-here f within starts =
      ap (map (stretch_from t)) (those-next (stretch_starts t) f (last_instant t + 1) f (omega arith) (omega arith)
      starts
      (fails-any (stretch_starts t) f f (λ j a b. absurd (omega arith))))

  -- the stretch of the first start i from f on is the first of those that start from f on
  stretches_after-there : (f i : ℕ) → f ≤ i → i ≤ last_instant t → stretch_starts t i ≡ true
      → any (stretch_starts t) f i ≡ false
      → stretches_after t f ≡ stretch_from t i ∷ stretches_after t (i + 1)
  stretches_after-there f i from within starts none = ap (map (stretch_from t))
      (those-next (stretch_starts t) f (last_instant t + 1) i
      from (omega arith) starts none)

  -- where a stretch is awaited at f, the first idle instant i starts it, and the others start after its end
  pub stretches_after-next : (f i : ℕ) → Awaits t f → f ≤ i → i ≤ last_instant t → is_idle_at t i ≡ true
      → any (is_idle_at t) f i
      ≡ false
      → IsStretchOf t (stretch_from t i) × (stretches_after t f ≡ stretch_from t i
      ∷ stretches_after t (stretch_end t i + 1))
  stretches_after-next f i w from within idle busy =
      let starts = awaits-starts i (awaits-until f i w from busy) ∙ idle in
      let is : IsStretchOf t (stretch_from t i) = record { within = within; starts = starts; ends = refl } in (
        is,
        stretches_after-there f i from within starts
            (fails-any (stretch_starts t) f i (λ j a b. busy-no_start j (any-fails (is_idle_at t) f i j busy a b)))
            ∙ ap (λ stretches. stretch_from t i ∷ stretches) (stretches_after-past_end (stretch_from t i) is),
      )

-- the stretches are ones of t, in order: each but the last ends by a reset, before the next one starts
abbrev pub AreInOrder : Trace → List Stretch → Type 0
AreInOrder t [] = Unit {0}
AreInOrder t (stretch ∷ []) = IsStretchOf t stretch
AreInOrder t (stretch ∷ next ∷ stretches) = IsStretchOf t stretch × (is_reset_at t stretch.end ≡ true)
    × (stretch.end < next.start)
    × AreInOrder t (next ∷ stretches)

-- the first of stretches that follow one another is one of the recording
pub IsStretchOf-first : (t : Trace) (stretch : Stretch) (stretches : List Stretch) → AreInOrder t (stretch ∷ stretches)
    → IsStretchOf t stretch
IsStretchOf-first t stretch [] order = order
IsStretchOf-first t stretch (next ∷ stretches) order = order.0

module _ (t : Trace) where
  -- the stretches that start from f on are in order; k is how many instants are left
  AreInOrder-stretches_after : (k f : ℕ) → f + k ≡ last_instant t + 1 → AreInOrder t (stretches_after t f)
  AreInOrder-stretches_after zero f e =
      let none : stretches_after t f ≡ [] = ap (map (stretch_from t))
      (those-none (stretch_starts t) f (last_instant t + 1)
      (fails-any (stretch_starts t) f (last_instant t + 1) (λ j a b. absurd (omega arith)))) in
      subst (AreInOrder t) (sym none) tt
  AreInOrder-stretches_after (suc k) f e = by_start (cases_Bool (stretch_starts t f))
      (AreInOrder-stretches_after k (f + 1) (omega arith))
    where
      is_one : (i : ℕ) → i ≤ last_instant t → stretch_starts t i ≡ true → IsStretchOf t (stretch_from t i)
      is_one i within starts = record { within = within; starts = starts; ends = refl }

      by_next : stretch_starts t f ≡ true → (any (stretch_starts t) (f + 1) (last_instant t + 1) ≡ true) ⊎
          (any (stretch_starts t) (f + 1) (last_instant t + 1) ≡ false) → AreInOrder t (stretches_after t (f + 1))
          → AreInOrder t (stretch_from t f ∷ stretches_after t (f + 1))
      by_next starts (inr none) later =
          let last : stretches_after t (f + 1) ≡ [] = ap (map (stretch_from t)) (those-none (stretch_starts t) (f + 1)
          (last_instant t + 1) none) in
          subst (λ stretches. AreInOrder t (stretch_from t f ∷ stretches)) (sym last) (is_one f (omega arith) starts)
      by_next starts (inl some) later =
          let i = any-least (stretch_starts t) (f + 1) (last_instant t + 1) some in
          let found = least-found (stretch_starts t) (f + 1) (last_instant t + 1) i.0 i.1 in
          let there = stretches_after-there t (f + 1) i.0 found.first (omega (arith, found.below)) found.holds
          found.least in
          let is = is_one f (omega arith) starts in
          let is_next = is_one i.0 (omega (arith, found.below)) found.holds in
          let apart = stretches-apart t (stretch_from t f) (stretch_from t i.0) is is_next (omega (arith, found.first))
          in
          subst (λ stretches. AreInOrder t (stretch_from t f ∷ stretches)) (sym there) (
            is,
            apart.0,
            apart.1,
            subst (AreInOrder t)
                there later,
          )

      by_start : (stretch_starts t f ≡ true) ⊎ (stretch_starts t f ≡ false) → AreInOrder t (stretches_after t (f + 1))
          → AreInOrder t (stretches_after t f)
      by_start (inr none) later =
          let same : stretches_after t f ≡ stretches_after t (f + 1) = ap (map (stretch_from t))
          (those-same_starts t f (f + 1) (omega arith) (λ j a b. let here : j ≡ f =
          omega arith in ap (stretch_starts t) here
          ∙ none)) in
          subst (AreInOrder t) (sym same) later
      by_start (inl starts) later = subst (AreInOrder t) (sym (stretches_after-here t f (omega arith) starts))
          (by_next starts (cases_Bool (any (stretch_starts t) (f + 1) (last_instant t + 1))) later)

  -- the judged stretches are in order
  pub AreInOrder-judged_stretches : AreInOrder t (judged_stretches t)
  AreInOrder-judged_stretches = subst (AreInOrder t) (sym (judged_stretches-after_first t))
      (AreInOrder-stretches_after (last_instant t + 1) 0 (omega arith))
