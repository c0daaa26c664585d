-- The least line that breaks U4 or S3, i.e. a data line of a write that is unknown as a strobe falls, or changes while
-- it is held, is that of the machine's fault.
use Rattle.std.proofs.Common.{◌≡◌, ℕ, suc, ◌+◌, ◌-◌, ◌<◌, ◌≤◌, Bool, true, false, ◌||◌, ◌&&◌, not, refl, sym, ◌∙◌, ap}
use Rattle.std.proofs.Common.{arith, cond, inl, inr}
use Rattle.std.specs.Prelude.{Option, None, Some, List, nat_le, nat_lt}
use Rattle.std.proofs.lemmas.Bool.Decides.{nat_tests}
use Rattle.std.proofs.lemmas.Bool.{and_parts, le-leb}
use Rattle.std.proofs.Math.Bool.{and-false}
use Rattle.vme_trace.specs.Edges.{answer_between, strobe_falls_between, strobe_low_in, strobe_rises_between}
use Rattle.vme_trace.specs.Edges.{strobes_high_in}
use Rattle.vme_trace.specs.Instants.{least, none}
use Rattle.vme_trace.specs.LineNumbers.{line_count, DS0, DS1, DTACK, BERR, LWORD, WRITE, A, has_line}
use Rattle.vme_trace.specs.Levels.{Levels, level_at, is_low, is_high, is_known_on, same_level}
use Rattle.vme_trace.specs.Data.{is_selected}
use Rattle.vme_trace.specs.Trace.{Trace, levels_at, changed}
use Rattle.vme_trace.specs.Signals.{known, high, has_edge}
use Rattle.vme_trace.specs.Judged.{Stretch, is_judged}
use Rattle.vme_trace.specs.Transfers.{strobes_high, strobe_rises, strobe_falls, answer_falls, lasts}
use Rattle.vme_trace.specs.Transfers.{is_answered, is_write, in_transfer}
use Rattle.vme_trace.specs.Rules.{breaks, is_broken}
use Rattle.vme_trace.specs.Verdict.{break_before}
use Rattle.vme_trace.specs.Changes.{is_changed}
use Rattle.vme_trace.specs.WellFormed.{are_changes}
use Rattle.vme_trace.specs.declared.rule.Rule.TheVariants.{U4, S3}
use Rattle.vme_trace.specs.declared.step.Change.{Change}
use Rattle.vme_trace.proofs.Changing.{first_changed-least_alike, level-kept}
use Rattle.vme_trace.proofs.OpenTransfers.{ReadsStrobes, suc-sub-one}
use Rattle.vme_trace.proofs.Ranges.{any-step, clash, fails-any, least-alike, least-none, next_or_within}
use Rattle.vme_trace.proofs.StretchEnds.{slots_at}
use Rattle.vme_monitor.specs.Tracking.{entered, is_writing}
use Rattle.vme_monitor.specs.declared.tracking.TransferPhase.{TransferPhase}
use Rattle.vme_monitor.specs.declared.tracking.TransferPhase.TheVariants.{Closed, Reading, Writing, Answered}
use Rattle.vme_monitor.proofs.TrackedTransfers.{IsIn, Enters, Enters-entered, in_transfer-open, in_transfer-closed}
use Rattle.vme_dtb.specs.HoldingNumbers.{has_risen, writes_of}
use Rattle.vme_dtb.specs.StabilityRules.{is_changed_data, is_undriven, keeps_data, kept, may_write, changed_data_fault}
use Rattle.vme_dtb.specs.StabilityRules.{observation_of, stability_rules, undriven_fault, writes_now}
use Rattle.vme_dtb.specs.declared.holding.Holding.{Holding}
use Rattle.vme_dtb.proofs.AskedLines.{least-condition}
use Rattle.vme_dtb.proofs.ChangedLines.{same_level-refl}
use Rattle.vme_dtb.proofs.StabilityMeaning.{Holds, strobes_high_in-is_closed}
use Rattle.vme_dtb.proofs.StabilityMeaning.{strobe_rises-between}
use Rattle.vme_dtb.proofs.Lasting.{none-next}
use Rattle.vme_dtb.proofs.Progressing.{keeps_data-by_state, is_closed, kept-cond, is_writing-entered}
use Rattle.vme_dtb.proofs.StepFacts.{falls-between, is_judged-next, transfer_starts-between}

-- lines that a transfer moves are from 159 on, the first data line
data_line-from : (a b c d e : Bool) (l : ℕ)
    → ((a && ((b && (nat_le 159 l && nat_le l 166)) || (c && (nat_le 167 l && nat_le l 174)))) || (d && e && b && c
    && (nat_le 159 l && nat_le l 190))) ≡ true → 159 ≤ l
data_line-from a b c d e l h = grind (arith, nat_tests)

-- lines that a transfer moves are below 191, one after the last data line
data_line-to : (a b c d e : Bool) (l : ℕ)
    → ((a && ((b && (nat_le 159 l && nat_le l 166)) || (c && (nat_le 167 l && nat_le l 174)))) || (d && e && b && c
    && (nat_le 159 l && nat_le l 190))) ≡ true → l < 191
data_line-to a b c d e l h = grind (arith, nat_tests)

-- a line that a transfer moves is from 159 on
pub is_selected-from : (v : Levels) (l : ℕ) → is_selected v l ≡ true → 159 ≤ l
unfolding is_selected
is_selected-from v l h = data_line-from (is_high (level_at v LWORD)) (is_low (level_at v DS0)) (is_low (level_at v DS1))
    (is_low (level_at v LWORD)) (is_low (level_at v (A 1))) l h

-- a line that a transfer moves is below 191
pub is_selected-to : (v : Levels) (l : ℕ) → is_selected v l ≡ true → l < 191
unfolding is_selected
is_selected-to v l h = data_line-to (is_high (level_at v LWORD)) (is_low (level_at v DS0)) (is_low (level_at v DS1))
    (is_low (level_at v LWORD)) (is_low (level_at v (A 1))) l h

-- each data line exists
pub has_line-data : (slots l : ℕ) → 159 ≤ l → l < 191 → has_line slots l ≡ true
has_line-data slots l h k = grind (arith, nat_tests)

-- U4 on a line by equal tests, if the instant is judged and each line that a transfer moves exists
undriven-by_tests : (j h s k f w g x : Bool) → j ≡ true → f ≡ g → w ≡ x → (s ≡ true → h ≡ true)
    → (j && h && (s && not k && f && w))
    ≡ ((g && x) && (s && not k))
undriven-by_tests j h s k f w g x jt fg wx sh = rw (jt, fg, wx) (by_need s h k g x sh)
  where
    by_need : (s h k g x : Bool) → (s ≡ true → h ≡ true) → (true && h && (s && not k && g && x))
        ≡ ((g && x) && (s && not k))
    by_need true false k g x sh = absurd (clash false (sh refl) refl)
    by_need true true true true true sh = refl
    by_need true true true true false sh = refl
    by_need true true true false true sh = refl
    by_need true true true false false sh = refl
    by_need true true false true true sh = refl
    by_need true true false true false sh = refl
    by_need true true false false true sh = refl
    by_need true true false false false sh = refl
    by_need false true true true true sh = refl
    by_need false true true true false sh = refl
    by_need false true true false true sh = refl
    by_need false true true false false sh = refl
    by_need false true false true true sh = refl
    by_need false true false true false sh = refl
    by_need false true false false true sh = refl
    by_need false true false false false sh = refl
    by_need false false true true true sh = refl
    by_need false false true true false sh = refl
    by_need false false true false true sh = refl
    by_need false false true false false sh = refl
    by_need false false false true true sh = refl
    by_need false false false true false sh = refl
    by_need false false false false true sh = refl
    by_need false false false false false sh = refl

-- a line that is taken where a strobe falls in a write is the line that is taken where it may be a write, kept if it is
-- one
kept-may_write : (f w y : Bool) (o : Option ℕ) → (w ≡ true → y ≡ true) → cond (f && w) o None
    ≡ kept w (cond (f && y) o None)
kept-may_write true true y None h = rw (h refl) refl
kept-may_write true true y (Some l) h = rw (h refl) refl
kept-may_write true false true None h = refl
kept-may_write true false true (Some l) h = refl
kept-may_write true false false o h = refl
kept-may_write false w y o h = refl

-- a transfer that is a write after the step may be a write by the levels
may_write-of_write : (h l d z : Bool) → cond h (l && d) z ≡ true → (not h || d) ≡ true
may_write-of_write true l d z e = (and_parts l d e).1
may_write-of_write false l d z e = refl

-- if the instant is judged, and the data of a write is held, S3 is broken on a line exactly if the line exists, is
-- moved by the transfer and gets another level
changed_data-by_tests : (j h s e q k d : Bool) → j ≡ true → q ≡ (k && d) → (k && d) ≡ true → (j && h && (s && e && q))
    ≡ (h && h && (s && e))
changed_data-by_tests j h s e q k d jt qk kd = rw (jt, qk, kd) (by_tests h s e)
  where
    by_tests : (h s e : Bool) → (true && h && (s && e && true)) ≡ (h && h && (s && e))
    by_tests true true true = refl
    by_tests true true false = refl
    by_tests true false true = refl
    by_tests true false false = refl
    by_tests false true true = refl
    by_tests false true false = refl
    by_tests false false true = refl
    by_tests false false false = refl

-- S3 isn't broken on a line if no data is held
changed_data-not_held : (j h s e q : Bool) → q ≡ false → (j && h && (s && e && q)) ≡ false
changed_data-not_held j h s e q x = grind (arith, nat_tests)

module _ (t : Trace) (stretch : Stretch) (reads : ReadsStrobes t stretch) (n : ℕ) (from : stretch.start ≤ n)
    (before : suc n < stretch.end) (m : Holding) (holds : Holds t stretch n m)
    (unbroken : break_before t stretch stability_rules (suc n) ≡ None) where
  -- the levels before the step
  abbrev old : Levels
  old = levels_at t n

  -- the levels after the step
  abbrev new : Levels
  new = levels_at t (suc n)

  -- in an open transfer the memory and WRITE* say whether it is a write without an answer
  writes_of-direction : strobes_high_in old ≡ false → writes_of m.transfer (is_low (level_at old WRITE))
      ≡ is_writing holds.state
  writes_of-direction = holds.directed unbroken

  -- both strobes are high at n exactly if no transfer is open
  strobes_high_in-state : strobes_high_in old ≡ is_closed holds.state
  strobes_high_in-state = strobes_high_in-is_closed t stretch reads n from before holds.state holds.says

  -- the phase that the step enters is right of n + 1 before its answer counts
  Enters-now : Enters t stretch (suc n) (entered holds.state old new)
  Enters-now = Enters-entered t stretch reads n from before holds.state holds.says

  -- the transfer that starts at i is a write that had no answer before n + 1
  abbrev is_asked : ℕ → Bool
  is_asked i = is_write t stretch i && not (is_answered t stretch i (suc n))

  -- n + 1 is in a write without an answer before it exactly if the phase is `Writing`
  in_transfer-asked : (e : TransferPhase) → Enters t stretch (suc n) e → in_transfer t stretch is_asked (suc n)
      ≡ is_writing e
  in_transfer-asked Closed o = in_transfer-closed t stretch reads n from before is_asked
      (ap (strobes_high t) (sym (suc-sub-one n)) ∙ o.0) o.1
  in_transfer-asked Reading o = in_transfer-open t stretch (suc n) is_asked o.0 false false o.1 ∙ rw o.1.direction refl
  in_transfer-asked Writing o = in_transfer-open t stretch (suc n) is_asked o.0 true false o.1
      ∙ rw (o.1.direction, o.1.reply) refl
  in_transfer-asked Answered o = in_transfer-open t stretch (suc n) is_asked o.0 o.1 true o.2
      ∙ rw (o.2.direction, o.2.reply) (and-false o.1)

  -- n + 1 is in a write without an answer before it exactly if the memory and the levels say so
  in_transfer-writes_now : in_transfer t stretch is_asked (suc n) ≡ writes_now m old new
  in_transfer-writes_now = in_transfer-asked (entered holds.state old new) Enters-now
      ∙ is_writing-entered holds.state (strobes_high_in old)
      (strobe_low_in new) (is_low (level_at new WRITE)) (writes_of m.transfer (is_low (level_at old WRITE)))
      strobes_high_in-state
      writes_of-direction

  -- a strobe falls at n + 1 exactly if one falls between the levels
  strobe_falls-between : strobe_falls t (suc n) ≡ strobe_falls_between old new
  strobe_falls-between =
      rw (falls-between t n DS0, falls-between t n DS1) refl

  -- U4 is broken on a line exactly if a strobe falls in a write without an answer, and the line is moved and unknown
  breaks-U4 : (l : ℕ) → breaks t stretch U4 (suc n) l ≡ ((strobe_falls_between old new && writes_now m old new)
      && is_undriven new l)
  unfolding breaks is_broken known
  breaks-U4 l =
      undriven-by_tests (is_judged stretch (suc n)) (has_line t.opening.slots l) (is_selected new l) (is_known_on new l)
      (strobe_falls t (suc n)) (in_transfer t stretch is_asked (suc n)) (strobe_falls_between old new)
      (writes_now m old new)
      (is_judged-next t n stretch from before) strobe_falls-between in_transfer-writes_now
      (λ e. has_line-data t.opening.slots l (is_selected-from new l e)
      (is_selected-to new l e))

  -- the least line that breaks U4 is the least unknown line that the write moves as a strobe falls
  pub least-U4 : (cs : List Change) → least (breaks t stretch U4 (suc n)) 0 line_count ≡ undriven_fault m old new
      (observation_of old new cs)
  least-U4 cs =
      least-alike (breaks t stretch U4 (suc n)) (λ l. (strobe_falls_between old new && writes_now m old new)
      && is_undriven new l) 0 line_count (λ l a b. breaks-U4 l)
      ∙ (least-condition (strobe_falls_between old new && writes_now m old new) (is_undriven new)
      ∙ kept-may_write (strobe_falls_between old new) (writes_now m old new) (may_write old new)
      (least (is_undriven new) 0 line_count)
      (may_write-of_write (strobes_high_in old) (strobe_low_in new) (is_low (level_at new WRITE))
      (writes_of m.transfer (is_low (level_at old WRITE)))))

  -- the transfer that starts at i is a write that started before n + 1 and has had no answer and no rising strobe up to
  -- n + 1
  abbrev is_held : ℕ → Bool
  is_held i = nat_lt i (suc n) && is_write t stretch i && not (is_answered t stretch i (suc n + 1))
      && none (strobe_rises t)
      (i + 1) (suc n + 1)

  -- an instant up to n is before n + 1
  nat_lt-earlier : (i : ℕ) → i ≤ n → nat_lt i (suc n) ≡ true
  nat_lt-earlier i h = grind (arith, nat_tests)

  -- instant n + 1 isn't before n + 1
  nat_lt-now : (i : ℕ) → i ≡ suc n → nat_lt i (suc n) ≡ false
  nat_lt-now i h = grind (arith, nat_tests)

  -- a transfer that starts at n + 1 isn't held there
  is_held-just_started : (i : ℕ) (w a : Bool) → IsIn t stretch (suc n) i w a → strobes_high t n ≡ true → is_held i
      ≡ false
  is_held-just_started i w a o strobes_high_in-state =
      elim (next_or_within i n o.within) [
        | inl e ↦ rw (nat_lt-now i e) refl
        | inr earlier ↦ absurd (clash (strobes_high t n) strobes_high_in-state (o.still n earlier (omega arith)))
      ]

  -- if both strobes are high at n, no data is held at n + 1
  in_transfer-held_from_high : (e : TransferPhase) → Enters t stretch (suc n) e → strobes_high t n ≡ true
      → in_transfer t stretch is_held
      (suc n) ≡ false
  in_transfer-held_from_high Closed o h = in_transfer-closed t stretch reads n from before is_held
      (ap (strobes_high t) (sym (suc-sub-one n)) ∙ o.0) o.1
  in_transfer-held_from_high Reading o h = in_transfer-open t stretch (suc n) is_held o.0 false false o.1
      ∙ is_held-just_started o.0 false false o.1 h
  in_transfer-held_from_high Writing o h = in_transfer-open t stretch (suc n) is_held o.0 true false o.1
      ∙ is_held-just_started o.0 true false o.1 h
  in_transfer-held_from_high Answered o h = in_transfer-open t stretch (suc n) is_held o.0 o.1 true o.2
      ∙ is_held-just_started o.0 o.1 true o.2 h

  -- an answer line falls at n + 1 exactly if one falls between the levels
  answer_falls-between : answer_falls t (suc n) ≡ answer_between old new
  answer_falls-between =
      rw (falls-between t n DTACK, falls-between t n BERR) refl

  -- a transfer that lasts to n + 1 is answered up to it if it was, or if an answer falls there
  is_answered-next : (i : ℕ) (w a : Bool) → IsIn t stretch (suc n) i w a → is_answered t stretch i (suc n + 1)
      ≡ (a || answer_between old new)
  unfolding is_answered
  is_answered-next i w a o =
      any-step (λ r. lasts t stretch i r && answer_falls t r) i (suc n)
      ∙ rw (o.reply, o.last, le-leb i (suc n) o.within, answer_falls-between) refl

  -- a transfer that was open at n started at n or before
  started_before : (i : ℕ) (w a : Bool) → IsIn t stretch (suc n) i w a → strobes_high_in old ≡ false → i ≤ n
  started_before i w a o low =
      elim (next_or_within i n o.within) [
        | inl e ↦ absurd (clash (strobes_high_in old) (and_parts (strobes_high_in old) (strobe_low_in new)
            (sym (transfer_starts-between t n stretch from before) ∙ (rw e at o.starts))).0 low)
        | inr earlier ↦ earlier
      ]

  -- no strobe has risen up to n + 1 in an open transfer exactly if none had, by the memory, and none rises
  none_rises-next : (i : ℕ) (w a : Bool) → IsIn t stretch (suc n) i w a → strobes_high_in old ≡ false
      → none (strobe_rises t)
      (i + 1) (suc n + 1) ≡ (not (has_risen m.transfer) && not (strobe_rises_between old new))
  none_rises-next i w a o low =
      let earlier = started_before i w a o low in
      none-next (strobe_rises t) (i + 1) n (omega arith)
      ∙ rw (
        holds.fresh i earlier o.starts (λ r x y. o.still r x (omega arith)),
        strobe_rises-between t stretch reads n from
            before,
      ) refl

  -- if a transfer is open at n, its data is held at n + 1 exactly if it is a write without an answer and without a
  -- rising strobe
  in_transfer-held_from_low : (e : TransferPhase) → Enters t stretch (suc n) e → is_closed e ≡ false
      → strobes_high_in old ≡ false
      → in_transfer t stretch is_held (suc n) ≡ (is_writing e && not (answer_between old new)
      && (not (has_risen m.transfer) && not (strobe_rises_between old new)))
  in_transfer-held_from_low Closed o c low = absurd (cc)
  in_transfer-held_from_low Reading o c low = in_transfer-open t stretch (suc n) is_held o.0 false false o.1
      ∙ rw o.1.direction (read (nat_lt o.0 (suc n)) _ _)
    where
      read : (a b c : Bool) → (a && false && b && c) ≡ false
      read true b c = refl
      read false b c = refl
  in_transfer-held_from_low Writing o c low =
      in_transfer-open t stretch (suc n) is_held o.0 true false o.1
      ∙ rw (
        o.1.direction,
        nat_lt-earlier o.0 (started_before o.0 true false o.1 low),
        is_answered-next o.0 true false o.1,
        none_rises-next o.0 true false o.1 low,
      ) refl
  in_transfer-held_from_low Answered o c low =
      in_transfer-open t stretch (suc n) is_held o.0 o.1 true o.2 ∙ rw (is_answered-next o.0 o.1 true o.2)
      (over (nat_lt o.0 (suc n)) (is_write t stretch o.0) _)
    where
      over : (a b c : Bool) → (a && b && false && c) ≡ false
      over true true c = refl
      over true false c = refl
      over false b c = refl

  -- data is held at n + 1 exactly if the memory keeps it and WRITE* was low
  in_transfer-keeps_data : in_transfer t stretch is_held (suc n) ≡ (keeps_data m old new && is_low (level_at old WRITE))
  unfolding high
  in_transfer-keeps_data = by_strobes (strobes_high_in old) refl
    where
      by_strobes : (b : Bool) → strobes_high_in old ≡ b → in_transfer t stretch is_held (suc n)
          ≡ (keeps_data m old new && is_low (level_at old WRITE))
      by_strobes true e = in_transfer-held_from_high (entered holds.state old new) Enters-now e ∙ rw e refl
      by_strobes false e =
          in_transfer-held_from_low holds.state (rw e at Enters-now) (sym strobes_high_in-state ∙ e) e
          ∙ rw (← writes_of-direction e, e) (keeps_data-by_state m.transfer (answer_between old new)
          (strobe_rises_between old new)
          (is_low (level_at old WRITE)))

  -- S3 by its tests: a line that was moved has an edge while data is held
  breaks-S3 : (l : ℕ) → breaks t stretch S3 (suc n) l ≡ (is_judged stretch (suc n) && has_line t.opening.slots l
      && (is_selected old l && not (same_level (level_at old l) (level_at new l)) && in_transfer t stretch is_held
      (suc n)))
  unfolding breaks is_broken has_edge
  breaks-S3 l = rw (suc-sub-one n) refl

  -- while data is held, S3 is broken on a line exactly if it is a changed data line
  breaks-is_changed_data : keeps_data m old new ≡ true → is_low (level_at old WRITE) ≡ true → (l : ℕ)
      → breaks t stretch S3 (suc n) l
      ≡ is_changed_data old new l
  breaks-is_changed_data k d l =
      breaks-S3 l
      ∙ changed_data-by_tests (is_judged stretch (suc n)) (has_line t.opening.slots l) (is_selected old l)
      (not (same_level (level_at old l) (level_at new l))) (in_transfer t stretch is_held (suc n))
      (keeps_data m old new)
      (is_low (level_at old WRITE))
      (is_judged-next t n stretch from before) in_transfer-keeps_data (rw (k, d) refl)
      ∙ rw (slots_at t n, slots_at t (suc n)) refl

  -- a changed data line is below `line_count`
  is_changed_data-below : (l : ℕ) → is_changed_data old new l ≡ true → l < line_count
  is_changed_data-below l h = let within : l < 191 = is_selected-to old l
      (and_parts _ _ (and_parts (has_line old.slots l && has_line new.slots l) _ h).1).0 in omega arith

  -- if no data is held, S3 is broken on no line
  least-S3_none : (cs : List Change) → (keeps_data m old new && is_low (level_at old WRITE)) ≡ false
      → least (breaks t stretch S3 (suc n)) 0 line_count ≡ None
  least-S3_none cs h = least-none (breaks t stretch S3 (suc n)) 0 line_count (fails-any (breaks t stretch S3 (suc n)) 0
      line_count (λ l a b. breaks-S3 l ∙ changed_data-not_held (is_judged stretch (suc n)) (has_line t.opening.slots l)
      (is_selected old l) (not (same_level (level_at old l) (level_at new l))) (in_transfer t stretch is_held (suc n))
      (in_transfer-keeps_data ∙ h)))

  -- the least line that breaks S3 is the first changed line that a write moved, without an answer and a rising strobe
  -- so far
  pub least-S3 : (cs : List Change) → new ≡ changed old cs → are_changes old 0 cs ≡ true
      → least (breaks t stretch S3 (suc n)) 0 line_count ≡ changed_data_fault m old new (observation_of old new cs)
  least-S3 cs stepped fit = by_tests (keeps_data m old new) (is_low (level_at old WRITE)) refl refl
      ∙ sym (kept-cond (keeps_data m old new) _)
    where
      unchanged : (l : ℕ) → is_changed cs l ≡ false → breaks t stretch S3 (suc n) l ≡ false
      unchanged l h = breaks-S3 l ∙ rw (stepped, level-kept old cs l h, same_level-refl (level_at old l))
          (no_edge (is_judged stretch (suc n)) (has_line t.opening.slots l) (is_selected old l) _)
        where
          no_edge : (a b c d : Bool) → (a && b && (c && false && d)) ≡ false
          no_edge a b c d = grind (arith, nat_tests)

      by_tests : (k d : Bool) → keeps_data m old new ≡ k → is_low (level_at old WRITE) ≡ d
          → least (breaks t stretch S3 (suc n)) 0 line_count ≡ cond k (observation_of old new cs).changed_data None
      by_tests true true ke de =
          sym (rw de (first_changed-least_alike old (breaks t stretch S3 (suc n)) (is_changed_data old new) line_count
          (λ l exists moved. is_changed_data-below l moved) 0 cs fit unchanged
          (λ l h. breaks-is_changed_data ke de l)))
      by_tests true false ke de = least-S3_none cs (rw (ke, de) refl) ∙ sym (rw de refl)
      by_tests false d ke de = least-S3_none cs (rw ke refl)
