-- What the machine of the handshake gives for the usual kinds of steps: DTACK* alone falls or rises, AS* alone falls,
-- or the strobes move.
use Rattle.std.proofs.Common.{◌≡◌, ℕ, Bool, true, false, ◌&&◌, ◌||◌, not, refl, sym, ◌∙◌, ap, Option, Some, None, cond}
use Rattle.std.specs.Prelude.{is_some, option_map}
use Rattle.std.specs.Option.{option_or}
use Rattle.std.proofs.lemmas.Bool.{or_parts}
use Rattle.std.proofs.Math.Bool.{and-false}
use Rattle.vme_trace.specs.Edges.{falls_between, rises_between, starts_between, strobe_falls_between}
use Rattle.vme_trace.specs.Edges.{strobe_rises_between, strobes_high_in}
use Rattle.vme_trace.specs.LineNumbers.{AS, DS0, DS1, DTACK, BERR, WRITE}
use Rattle.vme_trace.specs.Lanes.{lanes_at}
use Rattle.vme_trace.specs.Levels.{Levels, level_at, is_low, is_high}
use Rattle.vme_trace.specs.declared.data.Lanes.{Lanes}
use Rattle.vme_trace.specs.declared.rule.Rule.{Rule}
use Rattle.vme_trace.specs.declared.rule.Rule.TheVariants.{H2, H3, H4, H5, H7, H8}
use Rattle.vme_monitor.specs.Run.{no_step_marks, quiet}
use Rattle.vme_monitor.specs.Tracking.{answered_by, entered, is_unanswered, is_within, is_writing, tracked}
use Rattle.vme_monitor.specs.declared.mark.TransferAnswer.{TransferAnswer as Answer}
use Rattle.vme_monitor.specs.declared.mark.Fault.{Fault}
use Rattle.vme_monitor.specs.declared.mark.StepMarks.{StepMarks}
use Rattle.vme_monitor.specs.declared.mark.Next.{Next}
use Rattle.vme_monitor.specs.declared.tracking.TransferPhase.{TransferPhase}
use Rattle.vme_monitor.specs.declared.tracking.TransferPhase.TheVariants.{Closed, Reading, Writing, Answered}
use Rattle.vme_dtb.specs.CycleState.{after_answer, unanswered_of}
use Rattle.vme_dtb.specs.Machine.{fault_if, cycle_fault, data_in, dtb_next, handshake_fault, is_doubled, has_answer}
use Rattle.vme_dtb.specs.Machine.{is_left_unanswered, strobe_faults}
use Rattle.vme_dtb.specs.Edge.{cycle_start_of, closes_between, edges_between, first_of, is_addressed, stays_on}
use Rattle.vme_dtb.specs.UsualSteps.{is_answer_alone, strobes_break_rule, is_start_alone, is_strobes_alone, memory_left}
use Rattle.vme_dtb.specs.declared.cycle.CyclePhase.{CyclePhase}
use Rattle.vme_dtb.specs.declared.memory.HandshakeMemory.{HandshakeMemory}
use Rattle.vme_dtb.proofs.Faults.{first_of_faults-none, fault_if-not_applied, cycle_fault-no_answer, fault_if-none}
use Rattle.vme_dtb.proofs.StillSteps.{and-five_parts, falls_between-stays, starts_between-stays}
use Rattle.vme_dtb.proofs.UsualEdges.{and-four_parts, answer_edges, answer_edges-between}
use Rattle.vme_dtb.proofs.UsualEdges.{ready_edges, ready_edges-between}
use Rattle.vme_dtb.proofs.UsualEdges.{rises-not_falls, start_edges, start_edges-between, strobes_here-between}
use Rattle.vme_dtb.proofs.UsualEdges.{strobes_here}

-- the results of two steps are equal if their parts are, and if no rule on strobes is broken
next-same_parts : (p l : TransferPhase) (k : StepMarks) (c d : CyclePhase) (x y : Bool) (h q r : Option Fault)
    (a b : Option Answer) → p
    ≡ l → c ≡ d → h ≡ None → q ≡ r → a ≡ b
    → ◌≡◌ {A = Next HandshakeMemory}
    (record {
      memory = record { transfer = p; cycle = c; dtack_may_rise = x; berr_may_rise = y };
      fault = option_or h q;
      shown = record k { answer = a };
    })
    (record {
      memory = record { transfer = l; cycle = d; dtack_may_rise = x; berr_may_rise = y };
      fault = r;
      shown = record k
          { answer = b };
    })
next-same_parts p l k c d x y h q r a b o e f g i = rw (o, e, f, g, i) refl

-- a choice between none and none is none
cond-none : (b : Bool) → let none : Option ℕ = None in cond b none none ≡ none
cond-none true = refl
cond-none false = refl

-- `first_of` has a value exactly if one of its two tests holds
is_some-first_of : (a b : Bool) (k l : ℕ) → is_some (first_of a k b l) ≡ (a || b)
is_some-first_of true b k l = refl
is_some-first_of false true k l = refl
is_some-first_of false false k l = refl

-- a rule isn't broken if neither line has the edge
fault_if-no_line : (r : Rule) (a b : Bool) (k l : ℕ) → (a || b) ≡ false → fault_if r true (first_of a k b l) ≡ None
fault_if-no_line r false false k l h = refl
fault_if-no_line r true b k l h = absurd (cc)
fault_if-no_line r false true k l h = absurd (cc)

-- if the strobes break no rule, H2 isn't broken by a strobe that rises at a step without an answer
fault_if-H2 : (p : TransferPhase) (a b e f : Bool) → strobes_break_rule p (a || b) e f ≡ false
    → fault_if H2 (is_unanswered p && true)
    (first_of a DS0 b DS1) ≡ None
fault_if-H2 Closed a b e f h = refl
fault_if-H2 Answered a b e f h = refl
fault_if-H2 Reading a b e f h = fault_if-no_line H2 a b DS0 DS1 (or_parts (a || b) e h).0
fault_if-H2 Writing a b e f h = fault_if-no_line H2 a b DS0 DS1 (or_parts (a || b) e h).0

-- if the strobes break no rule, H3 isn't broken by a strobe that falls
fault_if-H3 : (p : TransferPhase) (r e a b : Bool) → strobes_break_rule p r e (a || b) ≡ false
    → fault_if H3 (has_answer p) (first_of a DS0 b DS1) ≡ None
fault_if-H3 Closed r e a b h = refl
fault_if-H3 Reading r e a b h = refl
fault_if-H3 Writing r e a b h = refl
fault_if-H3 Answered r e a b h = fault_if-no_line H3 a b DS0 DS1 h

-- if the strobes break no rule, the cycle doesn't end in a transfer without an answer
cycle_end-unbroken : (p : TransferPhase) (r e f : Bool) → strobes_break_rule p r e f ≡ false
    → ((is_unanswered p && true) && e)
    ≡ false
cycle_end-unbroken Closed r e f h = refl
cycle_end-unbroken Answered r e f h = refl
cycle_end-unbroken Reading r e f h = (or_parts r e h).1
cycle_end-unbroken Writing r e f h = (or_parts r e h).1

-- in a transfer without an answer, DTACK* alone is its answer, and no second one
unanswered-one_answer : (e : TransferPhase) → is_unanswered e ≡ true → (not (is_within e) ≡ false)
    × ((has_answer e || (is_unanswered e && false)) ≡ false) × (cond (is_unanswered e) (Some DTACK) None ≡ Some DTACK)
unanswered-one_answer Reading h = (refl, refl, refl)
unanswered-one_answer Writing h = (refl, refl, refl)
unanswered-one_answer Closed h = absurd (cc)
unanswered-one_answer Answered h = absurd (cc)

-- to close a phase twice, if h, is to close it once, if h
pub cond_closed_twice : (h : Bool) (p : TransferPhase) → cond h Closed (cond h Closed p) ≡ cond h Closed p
cond_closed_twice true p = refl
cond_closed_twice false p = refl

module _ (m : HandshakeMemory) (v w : Levels) where
  -- the phase of the transfer in which the step ends, before an answer counts
  abbrev within : TransferPhase
  within = entered m.transfer v w

  -- without an answer, no rule on the answers of a cycle is broken
  cycle_fault-unanswered : (c : CyclePhase) → cycle_fault c (is_writing within) (cond (is_unanswered within) None None)
      ≡ None
  cycle_fault-unanswered c = ap (cycle_fault c (is_writing within)) (cond-none (is_unanswered within))
      ∙ sym (cycle_fault-no_answer c (is_writing within))

  -- without an answer, the phase of the cycle stays as it is
  cycle-unanswered : (c : CyclePhase) → (let none : Option ℕ =
      None in cond (is_some (cond (is_unanswered within) none none))
      (after_answer c (is_writing within)) c) ≡ c
  cycle-unanswered c = ap (λ (o : Option ℕ). cond (is_some o) (after_answer c (is_writing within)) c)
      (cond-none (is_unanswered within))

  -- without an answer, H8 isn't broken
  fault_if-H8 : (u : Bool) → fault_if H8 u (cond (is_unanswered within) None None) ≡ None
  fault_if-H8 u = ap (fault_if H8 u) (cond-none (is_unanswered within)) ∙ fault_if-none H8 u

  -- after a step in which no answer line falls, the phase of the transfer is `Closed`, if both strobes are high, and
  -- else the phase within
  tracked-unanswered : (o : TransferPhase) → falls_between v w DTACK ≡ false → falls_between v w BERR ≡ false → within
      ≡ o
      → tracked m.transfer v w ≡ cond (strobes_high_in w) Closed o
  tracked-unanswered o d b e = left_by (strobes_high_in w) (falls_between v w DTACK)
      (falls_between v w BERR) within o d b
      e
    where
      left_by : (h d b : Bool) (e o : TransferPhase) → d ≡ false → b ≡ false → e ≡ o
          → cond h Closed (answered_by (d || b) e)
          ≡ cond h Closed o
      left_by h d b e o x y z = rw (x, y, z) refl

  -- after a step in which DTACK* answers it, the phase of the transfer is `Closed`, if both strobes are high, and else
  -- `Answered`
  tracked-answered : falls_between v w DTACK ≡ true → is_unanswered within ≡ true → tracked m.transfer v w
      ≡ cond (strobes_high_in w) Closed Answered
  tracked-answered d u = ap (λ (b : Bool). cond (strobes_high_in w) Closed (answered_by (b || falls_between v w BERR)
      within)) d ∙ ap (cond (strobes_high_in w) Closed) (becomes_answered within u)
    where
      becomes_answered : (e : TransferPhase) → is_unanswered e ≡ true → answered_by true e ≡ Answered
      becomes_answered Reading h = refl
      becomes_answered Writing h = refl
      becomes_answered Closed h = absurd (cc)
      becomes_answered Answered h = absurd (cc)

  -- if no transfer starts, the phase is that of the memory
  within-no_start : starts_between v w ≡ false → within ≡ m.transfer
  within-no_start s = ap (λ (b : Bool). cond b (cond (is_low (level_at w WRITE)) Writing Reading) m.transfer) s

  -- the answer by the line l with the data d
  abbrev answer_with : Option Lanes → ℕ → Answer
  answer_with d l = record { line = l; lanes = d }

  -- the answer by the line l in the transfer in which the step ends
  abbrev answer_on : ℕ → Answer
  answer_on = answer_with (data_in within v w)

  -- without an answer, none is shown
  answer-unanswered : option_map answer_on (cond (is_unanswered within) None None) ≡ None
  answer-unanswered = ap (option_map answer_on) (cond-none (is_unanswered within))

  -- the answer of the transfer that was open before the step
  abbrev pub plain_answer : ℕ → Answer
  plain_answer = answer_with (cond (is_writing m.transfer) (Some (lanes_at v)) None)

  -- if no transfer starts, the data of an answer is that before the step
  data_in-no_start : starts_between v w ≡ false → data_in within v w
      ≡ cond (is_writing m.transfer) (Some (lanes_at v)) None
  data_in-no_start s = by_start (starts_between v w) within m.transfer s (within-no_start s)
    where
      by_start : (b : Bool) (e p : TransferPhase) → b ≡ false → e ≡ p → cond (is_writing e)
          (Some (lanes_at (cond b w v))) None ≡ cond (is_writing p) (Some (lanes_at v)) None
      by_start b e p x y = rw (x, y) refl

  -- what a step gives in which AS* alone falls: a cycle starts
  pub dtb_next-start_alone : is_start_alone v w ≡ true
      → record {
        memory = memory_left m w m.transfer (unanswered_of (cycle_start_of w).class) false;
        fault = None;
        shown
            = record no_step_marks { cycle = Some (cycle_start_of w) };
      } ≡ dtb_next m v w (edges_between v w)
  dtb_next-start_alone alone =
      let all = and-five_parts (falls_between v w AS) (stays_on v w DS0) (stays_on v w DS1) (stays_on v w DTACK)
      (stays_on v w BERR) alone in
      let s = start_edges (cycle_start_of w) in
      let c = unanswered_of (cycle_start_of w).class in
      sym
      (next-same_parts (tracked m.transfer v w) _ s.shown _ c _ _ (handshake_fault m within s) _ None _ None
      (tracked-unanswered m.transfer (falls_between-stays v w DTACK all.3) (falls_between-stays v w BERR all.4)
      (within-no_start (starts_between-stays v w all.1 all.2))) (cycle-unanswered c)
      (first_of_faults-none (strobe_faults m within s) (
        refl,
        (
          fault_if-none H2 (is_left_unanswered m.transfer s),
          (
            fault_if-none H3 (has_answer m.transfer),
            (
              fault_if-none H4 (not (is_within within)),
              (
                fault_if-none H5 (is_doubled within s),
                (
                  refl,
                  (
                    fault_if-not_applied H7 _ (Some AS) (and-false (is_left_unanswered m.transfer s)),
                    (fault_if-H8 false, tt),
                  ),
                ),
              ),
            ),
          ),
        ),
      ))
      (cycle_fault-unanswered c) answer-unanswered)
      ∙ ap (dtb_next m v w) (start_edges-between v w alone)

  -- what a step gives in which the strobes move, from a low AS*, and no rule is broken
  pub dtb_next-strobes_alone : is_strobes_alone v w ≡ true → strobes_break_rule m.transfer (strobe_rises_between v w)
      (rises_between v w AS)
      (strobe_falls_between v w) ≡ false
      → record {
        memory = memory_left m w within m.cycle (strobe_rises_between v w);
        fault = None;
        shown = record
            no_step_marks {
              cycle_end = rises_between v w AS;
              transfer = cond (starts_between v w)
                  (Some (is_low (level_at w WRITE))) None;
              close = closes_between v w;
            };
      } ≡ dtb_next m v w (edges_between v w)
  dtb_next-strobes_alone alone unbroken =
      let all = and-four_parts (is_low (level_at v AS)) (stays_on v w DTACK) (stays_on v w BERR)
      (not (starts_between v w) || (is_high (level_at v DTACK) && is_high (level_at v BERR))) alone in
      let s = strobes_here v w in
      ap (λ (b : Bool). by_rise (memory_left m w within m.cycle b))
      (sym (is_some-first_of (rises_between v w DS0) (rises_between v w DS1) DS0 DS1))
      ∙ sym
      (next-same_parts (tracked m.transfer v w) _ s.shown _ m.cycle _ _ (handshake_fault m within s) _ None _ None
      (tracked-unanswered within (falls_between-stays v w DTACK all.1) (falls_between-stays v w BERR all.2) refl)
      (cycle-unanswered m.cycle)
      (first_of_faults-none (strobe_faults m within s) (
        refl,
        (
          fault_if-H2 m.transfer (rises_between v w DS0) (rises_between v w DS1) (rises_between v w AS)
              (strobe_falls_between v w) unbroken,
          (
            fault_if-H3 m.transfer (strobe_rises_between v w) (rises_between v w AS)
                (falls_between v w DS0) (falls_between v w DS1) unbroken,
            (
              fault_if-none H4 (not (is_within within)),
              (
                fault_if-none H5 (is_doubled within s),
                (
                  refl,
                  (
                    fault_if-not_applied H7 _ (Some AS) (cycle_end-unbroken m.transfer (strobe_rises_between v w)
                        (rises_between v w AS)
                        (strobe_falls_between v w) unbroken),
                    (fault_if-H8 false, tt),
                  ),
                ),
              ),
            ),
          ),
        ),
      ))
      (cycle_fault-unanswered m.cycle) answer-unanswered)
      ∙ ap (dtb_next m v w) (strobes_here-between v w alone)
    where
      by_rise : HandshakeMemory → Next HandshakeMemory
      by_rise left = record {
        memory = left;
        fault = None;
        shown = record no_step_marks {
          cycle_end = rises_between v w AS;
          transfer = cond (starts_between v w) (Some (is_low (level_at w WRITE))) None;
          close = closes_between v w;
        };
      }

  -- what a step gives in which DTACK* alone falls, and answers a transfer, while AS* is low before or after it
  pub dtb_next-answer_alone : is_answer_alone v w ≡ true → falls_between v w DTACK ≡ true → is_addressed v w ≡ true
      → is_unanswered m.transfer ≡ true
      → record {
        memory = memory_left m w Answered (after_answer m.cycle (is_writing m.transfer)) false;
        fault
            = cycle_fault m.cycle (is_writing m.transfer) (Some DTACK);
        shown = record no_step_marks
            { answer = Some (plain_answer DTACK) };
      } ≡ dtb_next m v w (edges_between v w)
  dtb_next-answer_alone alone falls addressed waits =
      let all = and-four_parts (stays_on v w AS) (stays_on v w DS0) (stays_on v w DS1) (stays_on v w BERR) alone in
      let s = answer_edges in
      let same = within-no_start (starts_between-stays v w all.1 all.2) in
      let one = unanswered-one_answer within (ap is_unanswered same ∙ waits) in
      sym
      (next-same_parts (tracked m.transfer v w) _ s.shown _ (after_answer m.cycle (is_writing m.transfer)) _ _
      (handshake_fault m within s) _ (cycle_fault m.cycle (is_writing m.transfer) (Some DTACK)) _
      (Some (plain_answer DTACK)) (tracked-answered falls (ap is_unanswered same ∙ waits))
      (ap (λ (o : Option ℕ). cond (is_some o) (after_answer m.cycle (is_writing within)) m.cycle) one.2
      ∙ ap (λ (p : TransferPhase). after_answer m.cycle (is_writing p)) same)
      (first_of_faults-none (strobe_faults m within s) (
        refl,
        (
          fault_if-none H2 (is_left_unanswered m.transfer s),
          (
            fault_if-none H3 (has_answer m.transfer),
            (
              fault_if-not_applied H4 _ (Some DTACK) one.0,
              (
                fault_if-not_applied H5 _ (Some DTACK) one.1,
                (refl, (fault_if-not_applied H7 _ (Some AS) (and-false (is_left_unanswered m.transfer s)), (refl, tt))),
              ),
            ),
          ),
        ),
      ))
      (ap (cycle_fault m.cycle (is_writing within)) one.2
      ∙ ap (λ (p : TransferPhase). cycle_fault m.cycle (is_writing p)
      (Some DTACK)) same)
      (ap (option_map answer_on) one.2 ∙ ap (λ (d : Option Lanes). Some (answer_with d DTACK))
      (data_in-no_start (starts_between-stays v w all.1 all.2))))
      ∙ ap (dtb_next m v w) (answer_edges-between v w alone falls addressed)

  -- what a step gives in which DTACK* alone rises, and may rise: nothing
  pub dtb_next-answer_rises : is_answer_alone v w ≡ true → rises_between v w DTACK ≡ true → m.dtack_may_rise ≡ true
      → quiet (memory_left m w m.transfer m.cycle false) ≡ dtb_next m v w (edges_between v w)
  dtb_next-answer_rises alone rises gone =
      let all = and-four_parts (stays_on v w AS) (stays_on v w DS0) (stays_on v w DS1) (stays_on v w BERR) alone in
      let s = ready_edges (not (is_addressed v w)) in
      sym
      (next-same_parts (tracked m.transfer v w) _ s.shown _ m.cycle _ _ (handshake_fault m within s) _ None _ None
      (tracked-unanswered m.transfer (rises-not_falls (level_at v DTACK) (level_at w DTACK) rises)
      (falls_between-stays v w BERR all.3)
      (within-no_start (starts_between-stays v w all.1 all.2))) (cycle-unanswered m.cycle)
      (first_of_faults-none (strobe_faults m within s) (
        refl,
        (
          fault_if-none H2 (is_left_unanswered m.transfer s),
          (
            fault_if-none H3 (has_answer m.transfer),
            (
              fault_if-none H4 (not (is_within within)),
              (
                fault_if-none H5 (is_doubled within s),
                (
                  rw gone refl,
                  (
                    fault_if-not_applied H7 _ (Some AS) (and-false (is_left_unanswered m.transfer s)),
                    (fault_if-H8 (not (is_addressed v w)), tt),
                  ),
                ),
              ),
            ),
          ),
        ),
      ))
      (cycle_fault-unanswered m.cycle) answer-unanswered)
      ∙ ap (dtb_next m v w) (ready_edges-between v w alone rises)
