-- The phase of the transfer at instant n says whether n + 1 is in a transfer that started before, without an answer or
-- with one, or in one that is answered twice.
use Rattle.std.proofs.Common.{◌≡◌, ℕ, suc, ◌+◌, ◌<◌, ◌≤◌, Bool, true, false, ◌||◌, ◌&&◌, not, refl, sym, ◌∙◌, ap, arith}
use Rattle.std.proofs.Common.{inl, inr, add-one}
use Rattle.std.specs.Prelude.{nat_lt}
use Rattle.std.proofs.lemmas.Bool.{le-ltb, lt-ltb}
use Rattle.vme_trace.specs.Instants.{any}
use Rattle.vme_trace.specs.LineNumbers.{DTACK, BERR}
use Rattle.vme_trace.specs.Trace.{Trace}
use Rattle.vme_trace.specs.Signals.{falls}
use Rattle.vme_trace.specs.Judged.{Stretch}
use Rattle.vme_trace.specs.Transfers.{strobes_high, answer_falls, lasts, is_answered, answers}
use Rattle.vme_trace.specs.Transfers.{in_transfer}
use Rattle.vme_trace.proofs.Ranges.{clash, any-next, next_or_within}
use Rattle.vme_trace.proofs.OpenTransfers.{suc-sub-one, ReadsStrobes}
use Rattle.vme_monitor.specs.Tracked.{StaysOpen, IsTransferPhase}
use Rattle.vme_monitor.specs.Tracking.{is_unanswered, is_within}
use Rattle.vme_monitor.specs.declared.tracking.TransferPhase.{TransferPhase}
use Rattle.vme_monitor.specs.declared.tracking.TransferPhase.TheVariants.{Closed, Reading, Writing, Answered}
use Rattle.vme_monitor.proofs.TrackedTransfers.{IsIn, Enters, Enters-entered}
use Rattle.vme_monitor.proofs.TrackedTransfers.{IsIn-StaysOpen, in_transfer-closed, in_transfer-open}
use Rattle.vme_monitor.specs.Tracking.{entered}
use Rattle.vme_trace.specs.Trace.{levels_at}
use Rattle.vme_dtb.specs.Machine.{has_answer}

-- where d and b are both asked for, d or b needn't be
and-both_alone : (d b : Bool) → ((((d || b) && true) && d) && b) ≡ (d && b)
and-both_alone true true = refl
and-both_alone true false = refl
and-both_alone false true = refl
and-both_alone false false = refl

module _ (t : Trace) (stretch : Stretch) (reads : ReadsStrobes t stretch) (n : ℕ) (from : stretch.start ≤ n)
    (before : suc n < stretch.end) where
  -- a transfer that stays open after n lasts to n + 1
  lasts-StaysOpen : (i : ℕ) (w a : Bool) → StaysOpen t stretch n i w a → lasts t stretch i (suc n) ≡ true
  lasts-StaysOpen i w a o = (IsIn-StaysOpen t stretch n i w a before from o).last

  -- while the transfer of i stays open after n, p holds of a transfer at n + 1 exactly if it holds of i
  in_transfer-StaysOpen : (p : ℕ → Bool) (i : ℕ) (w a : Bool) → StaysOpen t stretch n i w a
      → in_transfer t stretch p (suc n) ≡ p i
  in_transfer-StaysOpen p i w a o =
      in_transfer-open t stretch (suc n) p i w a (IsIn-StaysOpen t stretch n i w a before from o)

  -- if both strobes are high at n, a transfer in which n + 1 is starts there
  IsIn-starts_now : (i : ℕ) (w a : Bool) → IsIn t stretch (suc n) i w a → strobes_high t n ≡ true → i ≡ suc n
  IsIn-starts_now i w a o high_before =
      elim (next_or_within i n o.within) [
        | inl e ↦ e
        | inr earlier ↦ absurd (clash (strobes_high t n) high_before (o.still n earlier (omega arith)))
      ]

  -- if both strobes are high at n, and p fails on n + 1, n + 1 is in no transfer with p
  in_transfer-Enters_closed : (p : ℕ → Bool) (e : TransferPhase) → Enters t stretch (suc n) e → strobes_high t n ≡ true
      → p (suc n)
      ≡ false
      → in_transfer t stretch p (suc n) ≡ false
  in_transfer-Enters_closed p Closed o high_before fails =
      in_transfer-closed t stretch reads n from before p high_before o.1
  in_transfer-Enters_closed p Reading o high_before fails = in_transfer-open t stretch (suc n) p o.0 false false o.1
      ∙ ap p (IsIn-starts_now o.0 false false o.1 high_before) ∙ fails
  in_transfer-Enters_closed p Writing o high_before fails = in_transfer-open t stretch (suc n) p o.0 true false o.1
      ∙ ap p (IsIn-starts_now o.0 true false o.1 high_before) ∙ fails
  in_transfer-Enters_closed p Answered o high_before fails = in_transfer-open t stretch (suc n) p o.0 o.1 true o.2
      ∙ ap p (IsIn-starts_now o.0 o.1 true o.2 high_before)
      ∙ fails

  -- if no transfer is open at n, instant n + 1 is in none that started before
  in_transfer-not_before : (p : ℕ → Bool) → strobes_high t n ≡ true → p (suc n) ≡ false
      → in_transfer t stretch p (suc n) ≡ false
  in_transfer-not_before p high_before fails = in_transfer-Enters_closed p
      (entered Closed (levels_at t n) (levels_at t (suc n)))
      (Enters-entered t stretch reads n from before Closed high_before) high_before fails

  -- a transfer that stays open after n is answered up to n + 1 if it was, or if an answer falls there
  is_answered-StaysOpen : (i : ℕ) (w a : Bool) → StaysOpen t stretch n i w a → is_answered t stretch i (suc n + 1)
      ≡ (a || answer_falls t (suc n))
  unfolding is_answered
  is_answered-StaysOpen i w a o =
      ap (any (λ r. lasts t stretch i r && answer_falls t r) i) (add-one (suc n))
      ∙ any-next (λ r. lasts t stretch i r && answer_falls t r) i (suc n) (omega (arith, o.within))
      ∙ rw (o.reply, lasts-StaysOpen i w a o) refl

  -- n + 1 isn't before itself
  nat_lt-self : (b : Bool) → (nat_lt (suc n) (suc n) && b) ≡ false
  nat_lt-self b = rw (le-ltb (suc n) (suc n) (omega arith)) refl

  -- whether n + 1 is in a transfer that started before and has no answer up to n + 1
  pub in_transfer-is_unanswered : (m : TransferPhase) → IsTransferPhase t stretch n m
      → in_transfer t stretch (λ i. nat_lt i (suc n)
      && not (is_answered t stretch i (suc n + 1))) (suc n) ≡ (is_unanswered m && not (answer_falls t (suc n)))
  in_transfer-is_unanswered Closed high_before = in_transfer-not_before
      (λ i. nat_lt i (suc n) && not (is_answered t stretch i (suc n + 1)))
      high_before (nat_lt-self (not (is_answered t stretch (suc n) (suc n + 1))))
  in_transfer-is_unanswered Reading o =
      in_transfer-StaysOpen (λ i. nat_lt i (suc n) && not (is_answered t stretch i (suc n + 1))) o.0 false false o.1
      ∙ rw (lt-ltb o.0 (suc n) (omega (arith, o.1.within)), is_answered-StaysOpen o.0 false false o.1) refl
  in_transfer-is_unanswered Writing o =
      in_transfer-StaysOpen (λ i. nat_lt i (suc n) && not (is_answered t stretch i (suc n + 1))) o.0 true false o.1
      ∙ rw (lt-ltb o.0 (suc n) (omega (arith, o.1.within)), is_answered-StaysOpen o.0 true false o.1) refl
  in_transfer-is_unanswered Answered o =
      in_transfer-StaysOpen (λ i. nat_lt i (suc n) && not (is_answered t stretch i (suc n + 1))) o.0 o.1 true o.2
      ∙ rw (lt-ltb o.0 (suc n) (omega (arith, o.2.within)), is_answered-StaysOpen o.0 o.1 true o.2) refl

  -- whether n + 1 is in a transfer that started before n + 1 and was answered before n + 1
  pub in_transfer-has_answer : (m : TransferPhase) → IsTransferPhase t stretch n m
      → in_transfer t stretch (λ i. nat_lt i (suc n)
      && is_answered t stretch i (suc n)) (suc n) ≡ has_answer m
  in_transfer-has_answer Closed high_before = in_transfer-not_before
      (λ i. nat_lt i (suc n) && is_answered t stretch i (suc n)) high_before
      (nat_lt-self (is_answered t stretch (suc n) (suc n)))
  in_transfer-has_answer Reading o = in_transfer-StaysOpen (λ i. nat_lt i (suc n) && is_answered t stretch i (suc n))
      o.0 false false o.1
      ∙ rw (lt-ltb o.0 (suc n) (omega (arith, o.1.within)), o.1.reply) refl
  in_transfer-has_answer Writing o = in_transfer-StaysOpen (λ i. nat_lt i (suc n) && is_answered t stretch i (suc n))
      o.0 true false o.1
      ∙ rw (lt-ltb o.0 (suc n) (omega (arith, o.1.within)), o.1.reply) refl
  in_transfer-has_answer Answered o = in_transfer-StaysOpen (λ i. nat_lt i (suc n) && is_answered t stretch i (suc n))
      o.0 o.1 true o.2
      ∙ rw (lt-ltb o.0 (suc n) (omega (arith, o.2.within)), o.2.reply) refl

  -- whether n + 1 is in a transfer that started before
  pub in_transfer-is_within : (m : TransferPhase) → IsTransferPhase t stretch n m
      → in_transfer t stretch (λ i. nat_lt i (suc n)) (suc n)
      ≡ is_within m
  in_transfer-is_within Closed high_before = in_transfer-not_before (λ i. nat_lt i (suc n)) high_before
      (le-ltb (suc n) (suc n) (omega arith))
  in_transfer-is_within Reading o = in_transfer-StaysOpen (λ i. nat_lt i (suc n)) o.0 false false o.1
      ∙ lt-ltb o.0 (suc n)
      (omega (arith, o.1.within))
  in_transfer-is_within Writing o = in_transfer-StaysOpen (λ i. nat_lt i (suc n)) o.0 true false o.1
      ∙ lt-ltb o.0 (suc n)
      (omega (arith, o.1.within))
  in_transfer-is_within Answered o = in_transfer-StaysOpen (λ i. nat_lt i (suc n)) o.0 o.1 true o.2 ∙ lt-ltb o.0 (suc n)
      (omega (arith, o.2.within))

  -- the transfer of i has an answer before n + 1, or is answered there by both lines
  abbrev answered_twice : ℕ → Bool
  answered_twice i = is_answered t stretch i (suc n) || (answers t stretch i (suc n) && falls t DTACK (suc n)
      && falls t BERR (suc n))

  -- a transfer without an answer is answered twice exactly if both lines fall
  answered_twice-unanswered : (i : ℕ) (w : Bool) → IsIn t stretch (suc n) i w false → answered_twice i
      ≡ (falls t DTACK (suc n) && falls t BERR (suc n))
  unfolding answers
  answered_twice-unanswered i w o = rw (o.last, o.reply) (and-both_alone (falls t DTACK (suc n)) (falls t BERR (suc n)))

  -- whether n + 1 is in a transfer that is answered twice, by a phase that is right of it before its answer counts
  in_transfer-Enters_doubled : (e : TransferPhase) → Enters t stretch (suc n) e
      → in_transfer t stretch answered_twice (suc n)
      ≡ (has_answer e || (is_unanswered e && (falls t DTACK (suc n) && falls t BERR (suc n))))
  in_transfer-Enters_doubled Closed o = in_transfer-closed t stretch reads n from before answered_twice
      (ap (strobes_high t) (sym (suc-sub-one n)) ∙ o.0) o.1
  in_transfer-Enters_doubled Reading o = in_transfer-open t stretch (suc n) answered_twice o.0 false false o.1
      ∙ answered_twice-unanswered o.0 false o.1
  in_transfer-Enters_doubled Writing o = in_transfer-open t stretch (suc n) answered_twice o.0 true false o.1
      ∙ answered_twice-unanswered o.0 true o.1
  in_transfer-Enters_doubled Answered o = in_transfer-open t stretch (suc n) answered_twice o.0 o.1 true o.2
      ∙ rw o.2.reply refl

  -- whether n + 1 is in a transfer that is answered again there, or by both lines
  pub in_transfer-answered_twice : (m : TransferPhase) → IsTransferPhase t stretch n m → let e =
      entered m (levels_at t n)
      (levels_at t (suc n)) in
      in_transfer t stretch answered_twice (suc n)
      ≡ (has_answer e || (is_unanswered e && (falls t DTACK (suc n) && falls t BERR (suc n))))
  in_transfer-answered_twice m says = in_transfer-Enters_doubled (entered m (levels_at t n) (levels_at t (suc n)))
      (Enters-entered t stretch reads n from before m says)
