-- If AS*, the strobes and the answer lines stay as they are, nothing happens.
use Rattle.std.proofs.Common.{◌≡◌, ℕ, Bool, true, false, ◌&&◌, ◌||◌, not, refl, sym, ◌∙◌, ap, arith, List, Option, Some}
use Rattle.std.proofs.Common.{None, cond}
use Rattle.std.specs.Prelude.{is_some, option_map}
use Rattle.std.specs.Option.{option_or, option_map_or}
use Rattle.std.proofs.lemmas.Bool.{or_from}
use Rattle.std.proofs.Math.Bool.{and-false, and-not_self}
use Rattle.vme_trace.specs.Edges.{answer_between, falls_between, rises_between, starts_between, strobe_low_in}
use Rattle.vme_trace.specs.Edges.{strobes_high_in}
use Rattle.vme_trace.specs.LineNumbers.{AS, DS0, DS1, DTACK, BERR, WRITE}
use Rattle.vme_trace.specs.Levels.{Levels, level_at, is_low, is_high, same_level}
use Rattle.vme_trace.specs.Trace.{Trace}
use Rattle.vme_trace.specs.Signals.{low, high}
use Rattle.vme_trace.specs.Judged.{Stretch}
use Rattle.vme_trace.specs.declared.level.Level.{Level}
use Rattle.vme_trace.specs.declared.level.Level.TheVariants.{Low, High, Unknown}
use Rattle.vme_trace.specs.declared.rule.Rule.TheVariants.{H2, H3, H4, H5, H7, H8}
use Rattle.vme_trace.specs.declared.step.Change.{Change}
use Rattle.vme_trace.proofs.Changing.{falls_between-unchanged, rises_between-unchanged}
use Rattle.vme_monitor.specs.Run.{machine_step, no_step_marks, quiet}
use Rattle.vme_monitor.specs.Tracked.{IsTransferPhase}
use Rattle.vme_monitor.specs.Tracking.{answered_by, entered, is_unanswered, is_within, is_writing, tracked}
use Rattle.vme_monitor.specs.declared.mark.TransferAnswer.{TransferAnswer as Answer}
use Rattle.vme_monitor.specs.declared.mark.CycleStart.{CycleStart}
use Rattle.vme_monitor.specs.declared.mark.Fault.{Fault}
use Rattle.vme_monitor.specs.declared.tracking.TransferPhase.{TransferPhase}
use Rattle.vme_monitor.specs.declared.tracking.TransferPhase.TheVariants.{Closed, Reading, Writing, Answered}
use Rattle.vme_dtb.specs.CycleState.{after_answer}
use Rattle.vme_dtb.specs.Edge.{cycle_start_of, edges_between, first_of, is_still, is_answer_not_high}
use Rattle.vme_dtb.specs.Edge.{closes_between, stays_on}
use Rattle.vme_dtb.specs.Machine.{answer_in, answered_in, fault_if, cycle_fault, data_in, dtb_next, dtb_observation}
use Rattle.vme_dtb.specs.Machine.{dtb_step}
use Rattle.vme_dtb.specs.Machine.{handshake_fault, is_doubled, has_answer, is_left_unanswered, memory_after}
use Rattle.vme_dtb.specs.Machine.{strobe_faults}
use Rattle.vme_dtb.specs.declared.cycle.CyclePhase.{CyclePhase}
use Rattle.vme_dtb.specs.declared.edges.Edges.{Edges}
use Rattle.vme_dtb.specs.declared.memory.HandshakeMemory.{HandshakeMemory}
use Rattle.vme_dtb.proofs.Faults.{first_of_faults-none, fault_if-not_applied, cycle_fault-no_answer, fault_if-none}
use Rattle.vme_dtb.proofs.HandshakeMeaning.{Holds}
use Rattle.vme_dtb.proofs.StepFacts.{old, new}

-- levels that the test finds the same are equal
pub same_level-equal : (x y : Level) → same_level x y ≡ true → y ≡ x
same_level-equal Low Low h = refl
same_level-equal Low High h = absurd (cc)
same_level-equal Low Unknown h = absurd (cc)
same_level-equal High Low h = absurd (cc)
same_level-equal High High h = refl
same_level-equal High Unknown h = absurd (cc)
same_level-equal Unknown Low h = absurd (cc)
same_level-equal Unknown High h = absurd (cc)
same_level-equal Unknown Unknown h = refl

-- two levels aren't both high, and one of them low
pub not_high_and_one_low : (x y : Level) → ((is_high x && is_high y) && (is_low x || is_low y)) ≡ false
not_high_and_one_low Low y = refl
not_high_and_one_low Unknown y = refl
not_high_and_one_low High Low = refl
not_high_and_one_low High High = refl
not_high_and_one_low High Unknown = refl

-- each of five tests is true if their conjunction is
pub and-five_parts : (a b c d e : Bool) → (a && b && c && d && e) ≡ true
    → (a ≡ true) × (b ≡ true) × (c ≡ true) × (d ≡ true)
    × (e ≡ true)
and-five_parts true true true true true h = (refl, refl, refl, refl, refl)
and-five_parts false b c d e h = absurd (cc)
and-five_parts true false c d e h = absurd (cc)
and-five_parts true true false d e h = absurd (cc)
and-five_parts true true true false e h = absurd (cc)
and-five_parts true true true true false h = absurd (cc)

-- an option that is none is none under each test
cond-none : {A : Type 0} (b : Bool) (o : Option A) → o ≡ None → cond b o None ≡ None
cond-none true o e = e
cond-none false o e = refl

-- the first of two options that are none is none
option_or-none : (a b : Option Fault) → a ≡ None → b ≡ None → option_or a b ≡ None
option_or-none a b e f = rw (e, f) refl

-- the edges of a step, by the tests that they rest on
abbrev pub edges_by_tests : (as_falls as_rises starts closes rise0 rise1 fall0 fall1 dtack_falls berr_falls dtack_rises
    berr_rises unaddressed : Bool) → CycleStart → Bool → Option ℕ → Edges
edges_by_tests as_falls as_rises starts closes rise0 rise1 fall0 fall1 dtack_falls berr_falls dtack_rises berr_rises
    unaddressed
    cycle_start write answer_not_high =
    record {
      shown = record no_step_marks {
        cycle = cond as_falls (Some cycle_start) None;
        cycle_end = as_rises;
        transfer = cond starts
            (Some write) None;
        close = closes;
      };
      answer_not_high = cond starts answer_not_high None;
      strobe_rise = first_of rise0 DS0 rise1 DS1;
      strobe_fall = first_of fall0 DS0 fall1 DS1;
      answer_fall = first_of dtack_falls DTACK berr_falls BERR;
      both_fall = (dtack_falls && berr_falls);
      dtack_rises = dtack_rises;
      berr_rises = berr_rises;
      unaddressed = unaddressed;
    }

-- the edges of a step that has none; u says that AS* is low neither before nor after
abbrev absent_edges : Bool → Edges
absent_edges u = record {
  shown = no_step_marks;
  answer_not_high = None;
  strobe_rise = None;
  strobe_fall = None;
  answer_fall = None;
  both_fall = false;
  dtack_rises = false;
  berr_rises = false;
  unaddressed = u;
}

-- steps with equal tests have equal edges
pub edges_by_tests-alike : (a' b' s' c' r0' r1' f0' f1' d' e' g' h' u' a b s c r0 r1 f0 f1 d e g h u : Bool)
    (x : CycleStart) (y : Bool) (o : Option ℕ) → a ≡ a' → b ≡ b' → s ≡ s' → c ≡ c' → r0 ≡ r0' → r1 ≡ r1' → f0 ≡ f0'
    → f1 ≡ f1' → d ≡ d' → e ≡ e' → g ≡ g' → h ≡ h' → u ≡ u'
    → edges_by_tests a' b' s' c' r0' r1' f0' f1' d' e' g' h' u' x y o
    ≡ edges_by_tests a b s c r0 r1 f0 f1 d e g h u x y o
edges_by_tests-alike a' b' s' c' r0' r1' f0' f1' d' e' g' h' u' a b s c r0 r1 f0 f1 d e g h u x y o pa pb ps pc p0 p1 q0
    q1 pd pe pg ph pu =
    rw (pa, pb, ps, pc, p0, p1, q0, q1, pd, pe, pg, ph, pu) refl

module _ (v w : Levels) where
  -- a line that stays as it is has the level that it had
  level-stays : (l : ℕ) → stays_on v w l ≡ true → level_at w l ≡ level_at v l
  level-stays l h = same_level-equal (level_at v l) (level_at w l) h

  -- it doesn't fall
  pub falls_between-stays : (l : ℕ) → stays_on v w l ≡ true → falls_between v w l ≡ false
  falls_between-stays l h = falls_between-unchanged v w l (level-stays l h)

  -- it doesn't rise
  pub rises_between-stays : (l : ℕ) → stays_on v w l ≡ true → rises_between v w l ≡ false
  rises_between-stays l h = rises_between-unchanged v w l (level-stays l h)

  -- both strobes are high after the step exactly if they were before it, if they stay as they are
  strobes_high_in-stays : stays_on v w DS0 ≡ true → stays_on v w DS1 ≡ true → strobes_high_in w ≡ strobes_high_in v
  strobes_high_in-stays h k = ap (λ x. is_high x && is_high (level_at w DS1)) (level-stays DS0 h)
      ∙ ap (λ x. is_high (level_at v DS0) && is_high x) (level-stays DS1 k)

  -- a strobe is low after the step exactly if one was before it, if they stay as they are
  strobe_low_in-stays : stays_on v w DS0 ≡ true → stays_on v w DS1 ≡ true → strobe_low_in w ≡ strobe_low_in v
  strobe_low_in-stays h k = ap (λ x. is_low x || is_low (level_at w DS1)) (level-stays DS0 h)
      ∙ ap (λ x. is_low (level_at v DS0) || is_low x) (level-stays DS1 k)

  -- no transfer starts if the strobes stay as they are
  pub starts_between-stays : stays_on v w DS0 ≡ true → stays_on v w DS1 ≡ true → starts_between v w ≡ false
  starts_between-stays h k = ap (λ b. strobes_high_in v && b) (strobe_low_in-stays h k)
      ∙ not_high_and_one_low (level_at v DS0) (level_at v DS1)

  -- no transfer closes if the strobes stay as they are
  pub closes_between-stays : stays_on v w DS0 ≡ true → stays_on v w DS1 ≡ true → closes_between v w ≡ false
  closes_between-stays h k = ap (λ b. b && not (strobes_high_in v)) (strobes_high_in-stays h k)
      ∙ and-not_self (strobes_high_in v)

module _ (v w : Levels) (still : is_still v w ≡ true) where
  -- AS*, the strobes and the answer lines stay as they are
  parts-still : (stays_on v w AS ≡ true) × (stays_on v w DS0 ≡ true) × (stays_on v w DS1 ≡ true)
      × (stays_on v w DTACK ≡ true) × (stays_on v w BERR ≡ true)
  parts-still = and-five_parts (stays_on v w AS) (stays_on v w DS0) (stays_on v w DS1) (stays_on v w DTACK)
      (stays_on v w BERR) still

  -- no transfer starts at a still step
  starts_between-still : starts_between v w ≡ false
  starts_between-still = starts_between-stays v w parts-still.1 parts-still.2

  -- AS* is low neither before nor after the step
  abbrev unaddressed_in : Bool
  unaddressed_in = not (is_low (level_at v AS) || is_low (level_at w AS))

  -- a still step has no edges
  edges_between-still : edges_between v w ≡ absent_edges unaddressed_in
  edges_between-still =
      sym (edges_by_tests-alike false false false false false false false false false false false false unaddressed_in
      (falls_between v w AS) (rises_between v w AS) (starts_between v w) (closes_between v w) (rises_between v w DS0)
      (rises_between v w DS1) (falls_between v w DS0) (falls_between v w DS1) (falls_between v w DTACK)
      (falls_between v w BERR) (rises_between v w DTACK) (rises_between v w BERR) unaddressed_in (cycle_start_of w)
      (is_low (level_at w WRITE)) (first_of (is_answer_not_high v w DTACK) DTACK (is_answer_not_high v w BERR) BERR)
      (falls_between-stays v w AS parts-still.0) (rises_between-stays v w AS parts-still.0) starts_between-still
      (closes_between-stays v w parts-still.1 parts-still.2) (rises_between-stays v w DS0 parts-still.1)
      (rises_between-stays v w DS1 parts-still.2) (falls_between-stays v w DS0 parts-still.1)
      (falls_between-stays v w DS1 parts-still.2) (falls_between-stays v w DTACK parts-still.3)
      (falls_between-stays v w BERR parts-still.4) (rises_between-stays v w DTACK parts-still.3)
      (rises_between-stays v w BERR parts-still.4) refl)

  -- if no answer comes and no transfer starts, the phase is the one before, unless both strobes are high
  tracked-by_tests : (h a s x : Bool) (p : TransferPhase) (q : TransferPhase) → h ≡ x → a ≡ false → s ≡ false
      → cond h Closed (answered_by a (cond s q p)) ≡ cond x Closed p
  tracked-by_tests h a s x p q e f g = rw (e, f, g) refl

  -- no answer comes at a still step
  answer_between-still : answer_between v w ≡ false
  answer_between-still = or_from (falls_between v w DTACK) (falls_between v w BERR)
      (falls_between-stays v w DTACK parts-still.3) (falls_between-stays v w BERR parts-still.4)

  -- a still step leaves the phase as it is, unless both strobes are high
  tracked-still : (p : TransferPhase) → tracked p v w ≡ cond (strobes_high_in v) Closed p
  tracked-still p = tracked-by_tests (strobes_high_in w) (answer_between v w) (starts_between v w) (strobes_high_in v) p
      (cond (is_low (level_at w WRITE)) Writing Reading) (strobes_high_in-stays v w parts-still.1 parts-still.2)
      answer_between-still starts_between-still

module _ (t : Trace) (stretch : Stretch) (n : ℕ) (m : HandshakeMemory) (holds : Holds t stretch n m) where
  -- a phase that is right of n is closed if both strobes are high
  transfer-phase_kept : (p : TransferPhase) → IsTransferPhase t stretch n p → cond (strobes_high_in (old t n)) Closed p
      ≡ p
  unfolding high
  transfer-phase_kept Closed h = rw h refl
  transfer-phase_kept Reading o = rw (o.1.still n o.1.within (omega arith)) refl
  transfer-phase_kept Writing o = rw (o.1.still n o.1.within (omega arith)) refl
  transfer-phase_kept Answered o = rw (o.2.still n o.2.within (omega arith)) refl

  -- whether an answer line may rise stays as it is, if its level does and no strobe rises
  may_rise-still : (after before rest was : Bool) → after ≡ before → was ≡ (before && rest) → (after && (was || false))
      ≡ was
  may_rise-still after before rest was e f = rw (e, f) (by_level before rest)
    where
      by_level : (a b : Bool) → (a && ((a && b) || false)) ≡ (a && b)
      by_level true true = refl
      by_level true false = refl
      by_level false b = refl

  -- a step that leaves m, without a fault and without an answer, is quiet
  quiet-parts : (k : HandshakeMemory) (f : Option Fault) (a : Option Answer) → k ≡ m → f ≡ None → a ≡ None
      → record { memory = k; fault = f; shown = record no_step_marks { answer = a } } ≡ quiet m
  quiet-parts k f a x y z = rw (x, y, z) refl

  -- a memory with the parts of m is m
  memory-parts : (p : TransferPhase) (c : CyclePhase) (a b : Bool) → p ≡ m.transfer → c ≡ m.cycle → a ≡ m.dtack_may_rise
      → b
      ≡ m.berr_may_rise → record { transfer = p; cycle = c; dtack_may_rise = a; berr_may_rise = b } ≡ m
  memory-parts p c a b x y z u = rw (x, y, z, u) refl

  -- the answer by the line l, with its data
  abbrev answer_on : TransferPhase → ℕ → Answer
  answer_on e l = record { line = l; lanes = data_in e (old t n) (new t n) }

  -- a step without edges leaves the memory as it is, breaks nothing and shows nothing
  pub dtb_next-still : is_still (old t n) (new t n) ≡ true → dtb_next m (old t n) (new t n)
      (edges_between (old t n) (new t n)) ≡ quiet m
  unfolding low
  dtb_next-still still =
      let v = old t n in
      let w = new t n in
      let u = not (is_low (level_at v AS) || is_low (level_at w AS)) in
      let e = entered m.transfer v w in
      let kept = parts-still v w still in
      let none : answer_in e (absent_edges u) ≡ None = cond-none (is_unanswered e) None refl in
      let no_mark : answered_in e v w (absent_edges u) ≡ None = ap
      (λ (o : Option ℕ). option_map (λ (l : ℕ). answer_on e l) o) none in
      ap (dtb_next m v w) (edges_between-still v w still)
      ∙ quiet-parts (memory_after m v w (absent_edges u)) (option_or (handshake_fault m e (absent_edges u))
      (cycle_fault m.cycle (is_writing e) (answer_in e (absent_edges u)))) (answered_in e v w (absent_edges u))
      (memory-parts (tracked m.transfer v w) (cond (is_some (answer_in e (absent_edges u)))
      (after_answer m.cycle (is_writing e)) m.cycle) (is_low (level_at w DTACK) && (m.dtack_may_rise || false))
      (is_low (level_at w BERR) && (m.berr_may_rise || false))
      (tracked-still v w still m.transfer ∙ transfer-phase_kept m.transfer holds.transfer)
      (ap (λ o. cond (is_some o) (after_answer m.cycle (is_writing e)) m.cycle) none)
      (may_rise-still (is_low (level_at w DTACK)) (is_low (level_at v DTACK)) _ m.dtack_may_rise
      (ap is_low (level-stays v w DTACK kept.3)) holds.dtack)
      (may_rise-still (is_low (level_at w BERR)) (is_low (level_at v BERR)) _ m.berr_may_rise
      (ap is_low (level-stays v w BERR kept.4)) holds.berr))
      (option_or-none (handshake_fault m e (absent_edges u))
      (cycle_fault m.cycle (is_writing e) (answer_in e (absent_edges u)))
      (first_of_faults-none (strobe_faults m e (absent_edges u)) (
        refl,
        (
          fault_if-none H2 (is_left_unanswered m.transfer (absent_edges u)),
          (
            fault_if-none H3 (has_answer m.transfer),
            (
              fault_if-none H4 (not (is_within e)),
              (
                fault_if-none H5 (is_doubled e (absent_edges u)),
                (
                  refl,
                  (
                    fault_if-not_applied H7 _ (Some AS) (and-false (is_left_unanswered m.transfer (absent_edges u))),
                    (ap (fault_if H8 u) none ∙ fault_if-none H8 u, tt),
                  ),
                ),
              ),
            ),
          ),
        ),
      ))
      (ap (cycle_fault m.cycle (is_writing e)) none ∙ sym (cycle_fault-no_answer m.cycle (is_writing e))))
      no_mark

  -- the machine's step is `dtb_next`, also where nothing is observed
  pub machine_step-dtb_next : (cs : List Change) → machine_step dtb_observation dtb_step m (old t n) (new t n) cs
      ≡ dtb_next m (old t n)
      (new t n) (edges_between (old t n) (new t n))
  machine_step-dtb_next cs = by_still (is_still (old t n) (new t n)) refl
    where
      by_still : (b : Bool) → is_still (old t n) (new t n) ≡ b
          → option_map_or (dtb_step m (old t n) (new t n)) (cond b None (Some tt)) (quiet m)
          ≡ dtb_next m (old t n) (new t n) (edges_between (old t n) (new t n))
      by_still true e = sym (dtb_next-still e)
      by_still false e = refl
