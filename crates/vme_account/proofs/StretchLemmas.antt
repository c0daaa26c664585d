-- When the event happened that a break refers to, by the last events up to the break and up to the instant before.
use Rattle.std.proofs.Common.{◌≡◌, ◌+◌, ◌-◌, ◌<◌, ◌≤◌, ℕ, Bool, true, false, cond, Option, None, Some, refl}
use Rattle.std.proofs.Common.{sym, subst, ap}
use Rattle.std.proofs.Common.{◌∙◌, arith}
use Rattle.std.specs.Prelude.{◌||◌, IfSome, nat_le, unwrap_or}
use Rattle.std.proofs.lemmas.Bool.{eqb-true, ltb-true, eq-eqb}
use Rattle.vme_trace.specs.Instants.{greatest, least}
use Rattle.vme_trace.specs.LineNumbers.{AS, DS0, DS1, DTACK, grant, line_count}
use Rattle.vme_trace.specs.Trace.{Trace}
use Rattle.vme_trace.proofs.Ranges.{greatest-below, least-past, eq-fails_below}
use Rattle.vme_account.proofs.EventLemmas.{greatest-either, greatest-not_at_next, greatest-at_next, later_instant}
use Rattle.vme_account.specs.LastEvents.{AreLast, last_fall, last_of, last_rise, later, moment, moment_at}
use Rattle.vme_account.specs.RelatedEvents.{happens, searched, since}
use Rattle.vme_account.specs.StretchEvents.{AreEvents, is_at, is_kept_at, is_kept_last, moment_before}
use Rattle.vme_account.specs.declared.last_events.LastEvents.{LastEvents}
use Rattle.vme_account.specs.declared.last_events.Moment.{Moment}
use Rattle.vme_account.specs.declared.related_event.Occurrence.{Occurrence}
use Rattle.vme_account.specs.declared.related_event.Occurrence.TheVariants.{Last, LastOrNow, FirstInTransfer}
use Rattle.vme_account.specs.declared.related_event.Occurrence.TheVariants.{FirstInCycle}
use Rattle.vme_account.specs.declared.related_event.StepEvent.{StepEvent}
use Rattle.vme_account.specs.declared.related_event.StepEvent.TheVariants.{AnswerFalls, Falls, GrantFalls, Rises}
use Rattle.vme_account.specs.declared.related_event.StepEvent.TheVariants.{StrobeRises, TransferStarts}
use Rattle.vme_account.specs.declared.stretch_events.StretchEvents.{StretchEvents}

module _ (t : Trace) where
  -- ---- the last of two

  -- the moment of the later of two instants is the later of their moments
  moment-later : (x y : Option ℕ) → moment t (later_instant x y) ≡ later (moment t x) (moment t y)
  moment-later None y = refl
  moment-later (Some a) None = refl
  moment-later (Some a) (Some b) = by_test (nat_le a b)
    where
      by_test : (c : Bool) → moment t (cond c (Some b) (Some a)) ≡ cond c (Some (moment_at t b)) (Some (moment_at t a))
      by_test true = refl
      by_test false = refl

  -- the moment of the last instant from f on and before n at which p holds
  abbrev last_at : (ℕ → Bool) → ℕ → ℕ → Option Moment
  last_at p f n = moment t (greatest p f n)

  -- the last moment of either property is the later of their last moments
  last_at-either : (p q : ℕ → Bool) (f n : ℕ) → last_at (λ i. p i || q i) f n ≡ later (last_at p f n) (last_at q f n)
  last_at-either p q f n = ap (moment t) (greatest-either p q f n) ∙ moment-later (greatest p f n) (greatest q f n)

  -- the later of the last moments of `p` and of `q` is the last moment of either
  later-either : (p q : ℕ → Bool) (f n : ℕ) (a b : Option Moment) → a ≡ last_at p f n → b ≡ last_at q f n
      → later a b ≡ last_at (λ i. p i || q i) f n
  later-either p q f n a b e g =
      ap (λ (o : Option Moment). later o b) e ∙ (ap (λ (o : Option Moment). later (last_at p f n) o) g
      ∙ sym (last_at-either p q f n))

  -- ---- the last time, and the first since another

  -- a level is granted
  abbrev grants : ℕ → ℕ → Bool
  grants l i = happens t (Falls (grant l 0)) i

  module _ (s i : ℕ) (e : LastEvents) (last : AreLast t s i e) where
    -- when an event last happened is its last instant up to `i`, if that is kept
    pub last_of-greatest : (k : StepEvent) → is_kept_last k ≡ true → last_of e k
        ≡ moment t (greatest (happens t k) (s + 1) (i + 1))
    unfolding happens
    last_of-greatest (Falls l) kept = last.falls l (ltb-true l line_count kept)
    last_of-greatest (Rises l) kept = last.rises l (ltb-true l line_count kept)
    last_of-greatest StrobeRises kept =
        later-either (happens t (Rises DS0)) (happens t (Rises DS1)) (s + 1) (i + 1) (last_rise e DS0) (last_rise e DS1)
        (last.rises DS0 (omega arith)) (last.rises DS1 (omega arith))
    last_of-greatest TransferStarts kept = last.transfer
    last_of-greatest AnswerFalls kept = absurd (cc kept)
    last_of-greatest GrantFalls kept =
        later-either (λ i. (grants 0 i || grants 1 i) || grants 2 i) (grants 3) (s + 1) (i + 1)
        (later (later (last_fall e (grant 0 0)) (last_fall e (grant 1 0))) (last_fall e (grant 2 0)))
        (last_fall e (grant 3 0))
        (later-either (λ i. grants 0 i || grants 1 i) (grants 2) (s + 1) (i + 1)
        (later (last_fall e (grant 0 0)) (last_fall e (grant 1 0))) (last_fall e (grant 2 0))
        (later-either (grants 0) (grants 1) (s + 1) (i + 1) (last_fall e (grant 0 0)) (last_fall e (grant 1 0))
        (last.falls (grant 0 0) (omega arith)) (last.falls (grant 1 0) (omega arith)))
        (last.falls (grant 2 0) (omega arith)))
        (last.falls (grant 3 0) (omega arith))

  module _ (s i : ℕ) (le : s ≤ i) (p q : StepEvent) where
    -- the moment of the first `p` up to `i`, since the instant `o`, or since judging started
    abbrev first_since : Option ℕ → Option Moment
    first_since o = moment t (least (happens t p) (unwrap_or o (s + 1)) (i + 1))

    -- the first `p` since the last `q` up to `i`, unless `o` is the next instant
    abbrev unless_now : Option ℕ → Option Moment
    unless_now o = cond (is_at (moment t o) (i + 1)) None (first_since (greatest (happens t q) (s + 1) (i + 1)))

    -- if `o` is before the next instant, `unless_now` gives the first `p` since the last `q` up to `i`
    unless_now-earlier : (o : Option ℕ) → ((n : ℕ) → o ≡ Some n → n < i + 1) → unless_now o
        ≡ first_since (greatest (happens t q) (s + 1) (i + 1))
    unless_now-earlier None w = refl
    unless_now-earlier (Some n) w = ap
        (λ (c : Bool). cond c None (first_since (greatest (happens t q) (s + 1) (i + 1))))
        (eq-fails_below n (i + 1) (w n refl))

    -- with the last `q` up to the next instant, `unless_now` gives the first `p` since that `q` and before the next
    -- instant
    pub unless_now-next : unless_now (greatest (happens t q) (s + 1) (i + 1 + 1))
        ≡ moment t (least (happens t p) (since t q s (i + 1)) (i + 1))
    unless_now-next = by_test (happens t q (i + 1)) refl
      where
        by_test : (b : Bool) → happens t q (i + 1) ≡ b → unless_now (greatest (happens t q) (s + 1) (i + 1 + 1))
            ≡ moment t (least (happens t p) (since t q s (i + 1)) (i + 1))
        by_test true now =
            let here : greatest (happens t q) (s + 1) (i + 1 + 1) ≡ Some (i + 1) =
            greatest-at_next (happens t q) s i le now in
            let nowhere : first_since (Some (i + 1)) ≡ None =
            ap (moment t) (least-past (happens t p) (i + 1) (i + 1) (omega arith)) in
            ap unless_now here
            ∙ (ap (λ (c : Bool). cond c None (first_since (greatest (happens t q) (s + 1) (i + 1))))
            (eq-eqb (i + 1) (i + 1) refl) ∙ sym (ap first_since here ∙ nowhere))
        by_test false none =
            let same : greatest (happens t q) (s + 1) (i + 1 + 1) ≡ greatest (happens t q) (s + 1) (i + 1) =
            greatest-not_at_next (happens t q) s i none in
            ap unless_now same
            ∙ (unless_now-earlier (greatest (happens t q) (s + 1) (i + 1))
            (greatest-below (happens t q) (s + 1) (i + 1))
            ∙ sym (ap first_since same))

  -- ---- all of them

  module _ (s i : ℕ) (le : s ≤ i) (now before : LastEvents) (is_now : AreLast t s (i + 1) now)
      (is_before : AreLast t s i before) where
    -- the first `p` since `q`, by the last `q`, and by the first `p` one instant before
    first-since_last : (p q : StepEvent) (last first : Option Moment)
        → last ≡ moment t (greatest (happens t q) (s + 1) (i + 1 + 1))
        → first ≡ moment t (least (happens t p) (since t q s i) (i + 1)) → cond (is_at last (i + 1)) None first
        ≡ moment t (least (happens t p) (since t q s (i + 1)) (i + 1))
    first-since_last p q last first e g =
        ap (λ (o : Option Moment). cond (is_at o (i + 1)) None first) e
        ∙ (ap (λ (o : Option Moment). cond (is_at (moment t (greatest (happens t q) (s + 1) (i + 1 + 1))) (i + 1)) None
        o) g ∙ unless_now-next s i le p q)

    -- the moment that is meant, by the events up to the next instant and up to `i`, is that of the instant that is
    -- searched, if it is kept
    moment_before-searched : (occurrence : Occurrence) (k : StepEvent) → is_kept_at occurrence k ≡ true
        → moment_before now (i + 1) before occurrence k ≡ moment t (searched t occurrence k s (i + 1))
    moment_before-searched Last k kept = last_of-greatest s i before is_before k kept
    moment_before-searched LastOrNow k kept = last_of-greatest s (i + 1) now is_now k kept
    moment_before-searched FirstInTransfer AnswerFalls kept =
        first-since_last AnswerFalls TransferStarts now.transfer before.answer_in_transfer is_now.transfer
        is_before.answer_in_transfer
    moment_before-searched FirstInTransfer k kept = absurd (cc kept)
    moment_before-searched FirstInCycle AnswerFalls kept =
        first-since_last AnswerFalls (Falls AS) (last_fall now AS) before.answer_in_cycle
        (is_now.falls AS (omega arith))
        is_before.answer_in_cycle
    moment_before-searched FirstInCycle (Falls l) kept =
        first-since_last (Falls DTACK) (Falls AS) (last_fall now AS) before.dtack_in_cycle
        (is_now.falls AS (omega arith))
        is_before.dtack_in_cycle
        ∙ ap (λ (x : ℕ). moment t (least (happens t (Falls x)) (since t (Falls AS) s (i + 1)) (i + 1)))
        (sym (eqb-true l DTACK kept))
    moment_before-searched FirstInCycle k kept = absurd (cc kept)

  -- the moment that is meant, by the events of a stretch, is that of the instant that is searched, if it is kept
  pub moment_before-kept : (e : StretchEvents) (before : LastEvents) → AreEvents t e → e.before ≡ Some before
      → (occurrence : Occurrence) (k : StepEvent) → is_kept_at occurrence k ≡ true
      → moment_before e.last e.seen before occurrence k ≡ moment t (searched t occurrence k e.start e.seen)
  moment_before-kept e before events is occurrence k kept =
      let both = subst
      (λ (o : Option LastEvents). IfSome o (λ b. (e.start < e.seen) × AreLast t e.start (e.seen - 1) b)) is
      events.before in
      let at : e.seen ≡ (e.seen - 1) + 1 = omega (arith, both.0) in
      subst
      (λ (j : ℕ). moment_before e.last j before occurrence k ≡ moment t (searched t occurrence k e.start j))
      (sym at)
      (moment_before-searched e.start (e.seen - 1) (omega (arith, both.0)) e.last before
      (subst (λ (j : ℕ). AreLast t e.start j e.last) at events.last) both.1 occurrence k kept)
