-- The events of a step to a judged instant, as the audit notes them by what the step shows, are those that the
-- definitions see at that instant.
use Rattle.std.proofs.Common.{◌≡◌, ℕ, suc, ◌<◌, ◌≤◌, Bool, true, false, not, ◌&&◌, ◌||◌, List, length}
use Rattle.std.proofs.Common.{refl}
use Rattle.std.proofs.Common.{sym, ◌∙◌, ap, cond, Option, None, Some}
use Rattle.std.specs.Prelude.{is_some, slice_get}
use Rattle.std.specs.Option.{option_map, option_map_or}
use Rattle.std.proofs.Math.Bool.{and_comm, or-false}
use Rattle.vme_trace.specs.Cycles.{answers_of, class_at, cycle_starts, in_cycle}
use Rattle.vme_trace.specs.Edges.{answer_between, falls_between, rises_between, starts_between, strobe_falls_between}
use Rattle.vme_trace.specs.Edges.{strobe_rises_between}
use Rattle.vme_trace.specs.Instants.{any}
use Rattle.vme_trace.specs.Judged.{Stretch}
use Rattle.vme_trace.specs.Levels.{Levels, is_low, level_at}
use Rattle.vme_trace.specs.LineNumbers.{AS, BBSY, BERR, DS0, DS1, DTACK, WRITE, is_arbiter_grant, is_grant}
use Rattle.vme_trace.specs.LineNumbers.{is_slot_grant}
use Rattle.vme_trace.specs.LineNumbers.{is_slot_iack, line_count}
use Rattle.vme_trace.specs.Rules.{is_block_class, is_interrupt, has_earlier_answer, is_single}
use Rattle.vme_trace.specs.Signals.{falls, low, rises}
use Rattle.vme_trace.specs.Tenures.{grant_falls, tenure_starts}
use Rattle.vme_trace.specs.Trace.{Trace, changed}
use Rattle.vme_trace.specs.Transfers.{answer_falls, is_answer, is_write, strobe_falls}
use Rattle.vme_trace.specs.Transfers.{strobe_rises}
use Rattle.vme_trace.specs.Transfers.{transfer_starts}
use Rattle.vme_trace.specs.WellFormed.{malformed_step}
use Rattle.vme_trace.specs.declared.class.Class.{Class}
use Rattle.vme_trace.specs.declared.class.Class.TheVariants as class
use Rattle.vme_trace.specs.declared.rule.Rule.{Rule}
use Rattle.vme_trace.specs.declared.step.Change.{Change}
use Rattle.vme_trace.proofs.Ranges.{any-alike}
use Rattle.vme_trace.proofs.StretchEnds.{slots_at}
use Rattle.vme_monitor.specs.Along.{changes_of}
use Rattle.vme_monitor.specs.Tracking.{entered, is_unanswered, is_within}
use Rattle.vme_monitor.specs.declared.mark.CycleStart.{CycleStart}
use Rattle.vme_monitor.specs.declared.mark.StepMarks.{StepMarks}
use Rattle.vme_monitor.specs.declared.tracking.TransferPhase.{TransferPhase}
use Rattle.vme_monitor.proofs.Alongside.{are_changes-step, levels_at-step}
use Rattle.vme_monitor.proofs.StretchFacts.{IsStretch}
use Rattle.vme_dtb.specs.CycleState.{cycle_entered, is_interrupt_acknowledge, is_answered_interrupt_acknowledge}
use Rattle.vme_dtb.specs.CycleState.{unanswered_of}
use Rattle.vme_dtb.specs.Edge.{cycle_start_of, edges_between}
use Rattle.vme_dtb.specs.Machine.{answer_in, dtb_next}
use Rattle.vme_dtb.specs.declared.cycle.CyclePhase.{CyclePhase}
use Rattle.vme_dtb.specs.declared.edges.Edges.{Edges}
use Rattle.vme_dtb.specs.declared.memory.HandshakeMemory.{HandshakeMemory}
use Rattle.vme_dtb.proofs.CycleBreaks.{cycle_starts-between, cycle_before-here}
use Rattle.vme_dtb.proofs.CycleMemory.{cycle_before, in_interrupt_acknowledge, in_answered_interrupt_acknowledge}
use Rattle.vme_dtb.proofs.CycleMemory.{in_cycle-phase, is-phase_by_answers, phase_by_answers}
use Rattle.vme_dtb.proofs.HandshakeBreaks.{is_answer-unanswered}
use Rattle.vme_dtb.proofs.HandshakeMeaning.{Holds}
use Rattle.vme_dtb.proofs.OpenState.{in_transfer-is_within}
use Rattle.vme_dtb.proofs.StepFacts.{falls-between, is_judged-next, new, old, rises-between, transfer_starts-between}
use Rattle.vme_dtb.proofs.StepFacts.{and-same, or-same}
use Rattle.vme_audit.specs.AskedRules.{any_grant_falls, answer_rises, answered_again_in_class}
use Rattle.vme_audit.specs.AskedRules.{answered_in_class, event_happens, happens, within_transfer}
use Rattle.vme_audit.specs.AskedRules.{write_starts}
use Rattle.vme_audit.specs.Event.{Event, event_of}
use Rattle.vme_audit.specs.Event as event
use Rattle.vme_auditor.specs.Events.{asks_by, at_step, has_happened, is_interrupt_entered}
use Rattle.vme_auditor.specs.declared.asked.AskedEvents.{AskedEvents}
use Rattle.vme_auditor.proofs.EventFields.{any_falls, any_rises, answers_again, is_block_answered}
use Rattle.vme_auditor.proofs.EventFields.{is_single_answered, acknowledge_fall-at_step, answer-at_step}
use Rattle.vme_auditor.proofs.EventFields.{answer_fall-at_step}
use Rattle.vme_auditor.proofs.EventFields.{answer_rise-at_step, arbiter_fall-at_step, block_again-at_step}
use Rattle.vme_auditor.proofs.EventFields.{cycle-at_step, cycle_end-at_step}
use Rattle.vme_auditor.proofs.EventFields.{interrupt-at_step, interrupt_again-at_step, single_again-at_step}
use Rattle.vme_auditor.proofs.EventFields.{slot_grant_fall-at_step}
use Rattle.vme_auditor.proofs.EventFields.{slot_grant_rise-at_step, stretch-at_step, strobe_fall-at_step}
use Rattle.vme_auditor.proofs.EventFields.{strobe_rise-at_step, tenure-at_step}
use Rattle.vme_auditor.proofs.EventFields.{transfer-at_step, write-at_step}
use Rattle.vme_auditor.proofs.NetEvents.{any-arbiter_grant, any-falls_between, any-is_grant, any-rises_between}
use Rattle.vme_auditor.proofs.Truth.{or_swapped}

-- an option that has a value under the condition `b` has one exactly if `b` holds
is_some-cond : {A : Type 0} (b : Bool) (a : A) → is_some (cond b (Some a) None) ≡ b
is_some-cond true a = refl
is_some-cond false a = refl

-- an option that has the value `w` under the condition `b` holds, with `false` for none, exactly if both hold
option_map_or-cond : (b w : Bool) → option_map_or (λ (w : Bool). w) (cond b (Some w) None) false ≡ (b && w)
option_map_or-cond true w = refl
option_map_or-cond false w = refl

-- applying a function to the value of an option leaves whether there is one
is_some-option_map : {A B : Type 0} (f : A → B) (o : Option A) → is_some (option_map f o) ≡ is_some o
is_some-option_map f None = refl
is_some-option_map f (Some a) = refl

-- the option `o` under the condition `b` has a value exactly if `b` holds and `o` has one
is_some-cond_option : (b : Bool) (o : Option ℕ) → is_some (cond b o None) ≡ (b && is_some o)
is_some-cond_option true o = refl
is_some-cond_option false o = refl

-- for a property `is` of cycles with an answer: it holds after a step exactly if it held before and no cycle starts
cycle_entered-answered : (is : CyclePhase → Bool) → ((k : Class) → is (unanswered_of k) ≡ false)
    → (c : CyclePhase) (s : Option CycleStart)
    → (not (is_some s) && is c) ≡ is (cycle_entered c s)
cycle_entered-answered is fresh c None = refl
cycle_entered-answered is fresh c (Some s) = sym (fresh s.class)

-- a cycle without an answer is no single cycle with one
is_single_answered-unanswered : (k : Class) → is_single_answered (unanswered_of k) ≡ false
is_single_answered-unanswered class.S = refl
is_single_answered-unanswered class.K = refl
is_single_answered-unanswered class.I = refl
is_single_answered-unanswered class.F = refl

-- a cycle without an answer is no block transfer with one
is_block_answered-unanswered : (k : Class) → is_block_answered (unanswered_of k) ≡ false
is_block_answered-unanswered class.S = refl
is_block_answered-unanswered class.K = refl
is_block_answered-unanswered class.I = refl
is_block_answered-unanswered class.F = refl

-- a cycle without an answer is no interrupt acknowledge with one
is_answered_interrupt_acknowledge-unanswered : (k : Class)
    → is_answered_interrupt_acknowledge (unanswered_of k) ≡ false
is_answered_interrupt_acknowledge-unanswered class.S = refl
is_answered_interrupt_acknowledge-unanswered class.K = refl
is_answered_interrupt_acknowledge-unanswered class.I = refl
is_answered_interrupt_acknowledge-unanswered class.F = refl

-- a class is that of an interrupt acknowledge exactly if its cycle without an answer is one
is_interrupt-unanswered : (k : Class) → is_interrupt k ≡ is_interrupt_acknowledge (unanswered_of k)
is_interrupt-unanswered class.S = refl
is_interrupt-unanswered class.K = refl
is_interrupt-unanswered class.I = refl
is_interrupt-unanswered class.F = refl

-- the cycle after a step, of which `s` is the start if one starts, is an interrupt acknowledge by both tests, or by
-- none
is_interrupt_entered-acknowledge : (c : CyclePhase) (s : Option CycleStart) → is_interrupt_entered c s
    ≡ is_interrupt_acknowledge (cycle_entered c s)
is_interrupt_entered-acknowledge c None = refl
is_interrupt_entered-acknowledge c (Some s) = is_interrupt-unanswered s.class

module _ (t : Trace) (stretch : Stretch) where
  -- a cycle of class `c` with the answers `rs` is single and has an answer exactly if its phase says so
  is_single_answered-of_answers : (c : Class) (rs : List ℕ) → (is_single c && has_earlier_answer rs)
      ≡ is_single_answered
      (phase_by_answers t stretch c rs)
  is_single_answered-of_answers =
      is-phase_by_answers t stretch (λ c rs. is_single c && has_earlier_answer rs) is_single_answered (λ rs. refl) refl
      (λ r. refl) (λ r rs. refl) refl (λ r rs. refl) (λ r rs. refl) refl (λ r rs. refl)

  -- a cycle of class `c` with the answers `rs` is a block transfer and has an answer exactly if its phase says so
  is_block_answered-of_answers : (c : Class) (rs : List ℕ) → (is_block_class c && has_earlier_answer rs)
      ≡ is_block_answered (phase_by_answers t stretch c rs)
  is_block_answered-of_answers =
      is-phase_by_answers t stretch (λ c rs. is_block_class c && has_earlier_answer rs) is_block_answered (λ rs. refl)
      refl (λ r. refl) (λ r rs. refl) refl (λ r rs. refl) (λ r rs. refl) refl (λ r rs. refl)

  -- the cycle at instant j is single and has an answer before j exactly if its phase before j says so
  in_cycle-single_answered : (j : ℕ) → in_cycle t stretch (λ i. is_single (class_at t i) && has_earlier_answer
      (answers_of t stretch i j)) j
      ≡ is_single_answered (cycle_before t stretch j)
  in_cycle-single_answered =
      in_cycle-phase t stretch (λ c rs. is_single c && has_earlier_answer rs) is_single_answered refl
      is_single_answered-of_answers

  -- the cycle at instant j is a block transfer and has an answer before j exactly if its phase before j says so
  in_cycle-block_answered : (j : ℕ)
      → in_cycle t stretch (λ i. is_block_class (class_at t i) && has_earlier_answer
      (answers_of t stretch i j)) j
      ≡ is_block_answered (cycle_before t stretch j)
  in_cycle-block_answered =
      in_cycle-phase t stretch (λ c rs. is_block_class c && has_earlier_answer rs) is_block_answered refl
      is_block_answered-of_answers

-- the step from instant n to n + 1, both in the stretch, in a well-formed recording; `m` is the memory of the handshake
-- monitor at n
module _ (t : Trace) (ok : malformed_step t ≡ None) (few : t.opening.slots ≤ 21) (stretch : Stretch)
    (facts : IsStretch t stretch)
    (n : ℕ) (from : stretch.start ≤ n) (before : suc n < stretch.end) (within : n < length t.steps)
    (m : HandshakeMemory)
    (holds : Holds t stretch n m) where
  -- the levels before the step
  abbrev v : Levels
  v = old t n

  -- the levels after the step
  abbrev w : Levels
  w = new t n

  -- the changes of the step
  abbrev cs : List Change
  cs = changes_of (slice_get t.steps n)

  -- the edges of the step
  abbrev step_edges : Edges
  step_edges = edges_between v w

  -- the marks that the handshake monitor shows at the step
  abbrev pub shown : StepMarks
  shown = (dtb_next m v w step_edges).shown

  -- the phase of the transfer after the step, before an answer counts
  abbrev transfer_entered : TransferPhase
  transfer_entered = entered m.transfer v w

  -- the step shows the start of a cycle exactly if one starts at n + 1
  cycle_event : is_some shown.cycle ≡ cycle_starts t stretch (suc n)
  cycle_event =
      is_some-cond (falls_between v w AS) (cycle_start_of w)
      ∙ sym (cycle_starts-between t stretch facts.reads n from before m
      holds)

  -- the address strobe rises in the step exactly if it rises at n + 1
  cycle_end_event : rises_between v w AS ≡ rises t AS (suc n)
  cycle_end_event = sym (rises-between t n AS)

  -- the step shows the start of a transfer exactly if one starts at n + 1
  transfer_event : is_some shown.transfer ≡ transfer_starts t stretch (suc n)
  transfer_event =
      is_some-cond (starts_between v w) (is_low (level_at w WRITE))
      ∙ sym (transfer_starts-between t n stretch from before)

  -- the step shows the start of a write exactly if one starts at n + 1
  write_event : option_map_or (λ (w : Bool). w) shown.transfer false ≡ write_starts t stretch (suc n)
  unfolding is_write low
  write_event =
      option_map_or-cond (starts_between v w) (is_low (level_at w WRITE))
      ∙ ap (λ b. b && is_low (level_at w WRITE)) (sym (transfer_starts-between t n stretch from before))

  -- a transfer is open before the step exactly if n + 1 is in a transfer that started before
  within_event : is_within m.transfer ≡ within_transfer t stretch (suc n)
  within_event = sym (in_transfer-is_within t stretch facts.reads n from before m.transfer holds.transfer)

  -- a strobe rises in the step, within a transfer, exactly if one does at n + 1
  strobe_rise_event : (is_within m.transfer && strobe_rises_between v w)
      ≡ (strobe_rises t (suc n) && within_transfer t stretch (suc n))
  strobe_rise_event =
      and_comm (is_within m.transfer) (strobe_rises_between v w)
      ∙ and-same _ _ _ _ (or-same _ _ _ _ (sym (rises-between t n DS0)) (sym (rises-between t n DS1)))
      within_event

  -- a strobe falls in the step, within a transfer, exactly if one does at n + 1
  strobe_fall_event : (is_within m.transfer && strobe_falls_between v w)
      ≡ (strobe_falls t (suc n) && within_transfer t stretch (suc n))
  strobe_fall_event =
      and_comm (is_within m.transfer) (strobe_falls_between v w)
      ∙ and-same _ _ _ _ (or-same _ _ _ _ (sym (falls-between t n DS0)) (sym (falls-between t n DS1)))
      within_event

  -- an answer line falls in the step exactly if one falls at n + 1
  answer_fall_event : answer_between v w ≡ answer_falls t (suc n)
  answer_fall_event = or-same _ _ _ _ (sym (falls-between t n DTACK)) (sym (falls-between t n BERR))

  -- an answer line rises in the step exactly if one rises at n + 1
  answer_rise_event : (rises_between v w DTACK || rises_between v w BERR) ≡ answer_rises t (suc n)
  answer_rise_event = or-same _ _ _ _ (sym (rises-between t n DTACK)) (sym (rises-between t n BERR))

  -- the step shows an answer exactly if a transfer is answered at n + 1
  answer_event : is_some shown.answer ≡ is_answer t stretch (suc n)
  answer_event =
      is_some-option_map _ (answer_in transfer_entered step_edges)
      ∙ is_some-cond_option (is_unanswered transfer_entered) step_edges.answer_fall
      ∙ sym (is_answer-unanswered t stretch facts.reads n from before m holds)

  -- the phase of the cycle at n + 1, before an answer there, is that of the memory, or that of the cycle that starts
  cycle_before-entered : cycle_before t stretch (suc n) ≡ cycle_entered m.cycle shown.cycle
  cycle_before-entered = cycle_before-here t stretch facts.reads n from before m holds

  -- the step shows an answer in an interrupt acknowledge exactly if a transfer of one is answered at n + 1
  interrupt_event : (is_some shown.answer && is_interrupt_entered m.cycle shown.cycle)
      ≡ answered_in_class t stretch is_interrupt (suc n)
  interrupt_event =
      and-same _ _ _ _ answer_event
      (is_interrupt_entered-acknowledge m.cycle shown.cycle ∙ ap is_interrupt_acknowledge (sym cycle_before-entered)
      ∙ sym (in_interrupt_acknowledge t stretch (suc n)))

  -- the step shows an answer in a cycle of a chosen class that had one before exactly if a transfer of such a cycle is
  -- answered at n + 1, if the phase says which cycles these are
  again_event : (is : CyclePhase → Bool) (chosen : Class → Bool) → ((k : Class) → is (unanswered_of k) ≡ false)
      → in_cycle t stretch (λ i. chosen (class_at t i) && has_earlier_answer (answers_of t stretch i (suc n)))
      (suc n)
      ≡ is (cycle_before t stretch (suc n))
      → answers_again is m.cycle shown.cycle shown.answer ≡ answered_again_in_class t stretch chosen (suc n)
  again_event is chosen fresh answered_before =
      and-same _ _ _ _ answer_event
      (cycle_entered-answered is fresh m.cycle shown.cycle ∙ ap is (sym cycle_before-entered) ∙ sym answered_before)

  -- BBSY falls in the step exactly if a tenure starts at n + 1
  tenure_event : falls_between v w BBSY ≡ tenure_starts t stretch (suc n)
  unfolding tenure_starts
  tenure_event = sym (falls-between t n BBSY)
      ∙ ap (λ b. b && falls t BBSY (suc n)) (sym (is_judged-next t n stretch from before))

  -- the levels before the step have at most 21 slots, as the opening has
  few_slots : v.slots ≤ 21
  few_slots = rw (slots_at t n) few

  -- the changes make the levels after the step from those before
  changed-after : changed v cs ≡ w
  changed-after = sym (levels_at-step t n within)

  -- some change of the step lets a chosen line fall exactly if a chosen line falls at n + 1
  any_falls-at : (chosen : ℕ → Bool) (e : AskedEvents) → any_falls e m v w cs shown chosen
      ≡ any (λ l. chosen l && falls t l (suc n)) 0 line_count
  any_falls-at chosen e =
      ap (λ (w : Levels). any_falls e m v w cs shown chosen) (sym changed-after)
      ∙ sym (any-falls_between v few_slots cs (are_changes-step t n ok within) chosen)
      ∙ ap (λ (w : Levels). any (λ l. chosen l && falls_between v w l) 0 line_count) changed-after
      ∙ any-alike (λ l. chosen l && falls_between v w l) (λ l. chosen l && falls t l (suc n)) 0 line_count
      (λ l a b. ap (λ x. chosen l && x) (sym (falls-between t n l)))

  -- some change of the step lets a chosen line rise exactly if a chosen line rises at n + 1
  any_rises-at : (chosen : ℕ → Bool) (e : AskedEvents) → any_rises e m v w cs shown chosen
      ≡ any (λ l. chosen l && rises t l (suc n)) 0 line_count
  any_rises-at chosen e =
      ap (λ (w : Levels). any_rises e m v w cs shown chosen) (sym changed-after)
      ∙ sym (any-rises_between v few_slots cs (are_changes-step t n ok within) chosen)
      ∙ ap (λ (w : Levels). any (λ l. chosen l && rises_between v w l) 0 line_count) changed-after
      ∙ any-alike (λ l. chosen l && rises_between v w l) (λ l. chosen l && rises t l (suc n)) 0 line_count
      (λ l a b. ap (λ x. chosen l && x) (sym (rises-between t n l)))

  -- some change lets a grant net of the arbiter fall exactly if the arbiter grants at n + 1
  arbiter_event : (e : AskedEvents) → any_falls e m v w cs shown is_arbiter_grant ≡ grant_falls t (suc n)
  unfolding grant_falls
  arbiter_event e = any_falls-at is_arbiter_grant e ∙ any-arbiter_grant (λ l. falls t l (suc n))

  -- some change lets a grant net fall exactly if the arbiter or a slot grants at n + 1
  grant_event : (e : AskedEvents)
      → (any_falls e m v w cs shown is_arbiter_grant || any_falls e m v w cs shown is_slot_grant)
      ≡ any_grant_falls t (suc n)
  grant_event e = any-is_grant v w cs ∙ any_falls-at is_grant e

  module _ (e : AskedEvents) where
    -- the events that happened, after the step
    abbrev after_step : AskedEvents
    after_step = at_step e m v w cs shown

    -- the right side of `||` may be replaced by an equal one
    or-equal_right : (a b c d : Bool) → a ≡ (b || c) → c ≡ d → a ≡ (b || d)
    or-equal_right a b c d p q = p ∙ ap (λ x. b || x) q

    -- an event has happened after the step exactly if it had before, or happens at n + 1
    has_happened-after_step : (v : Event) → has_happened after_step v
        ≡ (has_happened e v || event_happens t stretch v (suc n))
    has_happened-after_step event.stretch = stretch-at_step e m v w cs shown ∙ sym (or-false e.stretch)
    has_happened-after_step event.cycle = or-equal_right _ _ _ _ (cycle-at_step e m v w cs shown) cycle_event
    has_happened-after_step event.cycle_end =
        or-equal_right _ _ _ _ (cycle_end-at_step e m v w cs shown) cycle_end_event
    has_happened-after_step event.transfer = or-equal_right _ _ _ _ (transfer-at_step e m v w cs shown) transfer_event
    has_happened-after_step event.write = or-equal_right _ _ _ _ (write-at_step e m v w cs shown) write_event
    has_happened-after_step event.strobe_rise =
        or-equal_right _ _ _ _ (strobe_rise-at_step e m v w cs shown) strobe_rise_event
    has_happened-after_step event.strobe_fall =
        or-equal_right _ _ _ _ (strobe_fall-at_step e m v w cs shown) strobe_fall_event
    has_happened-after_step event.answer_fall =
        or-equal_right _ _ _ _ (answer_fall-at_step e m v w cs shown) answer_fall_event
    has_happened-after_step event.answer_rise =
        or-equal_right _ _ _ _ (answer_rise-at_step e m v w cs shown) answer_rise_event
    has_happened-after_step event.answer = or-equal_right _ _ _ _ (answer-at_step e m v w cs shown) answer_event
    has_happened-after_step event.single_again =
        or-equal_right _ _ _ _ (single_again-at_step e m v w cs shown)
        (again_event is_single_answered is_single is_single_answered-unanswered
        (in_cycle-single_answered t stretch (suc n)))
    has_happened-after_step event.block_again =
        or-equal_right _ _ _ _ (block_again-at_step e m v w cs shown)
        (again_event is_block_answered is_block_class is_block_answered-unanswered
        (in_cycle-block_answered t stretch (suc n)))
    has_happened-after_step event.interrupt =
        or-equal_right _ _ _ _ (interrupt-at_step e m v w cs shown) interrupt_event
    has_happened-after_step event.interrupt_again =
        or-equal_right _ _ _ _ (interrupt_again-at_step e m v w cs shown)
        (again_event is_answered_interrupt_acknowledge is_interrupt is_answered_interrupt_acknowledge-unanswered
        (in_answered_interrupt_acknowledge t stretch (suc n)))
    has_happened-after_step event.slot_grant_fall =
        or-equal_right _ _ _ _ (slot_grant_fall-at_step e m v w cs shown) (any_falls-at is_slot_grant e)
    has_happened-after_step event.slot_grant_rise =
        or-equal_right _ _ _ _ (slot_grant_rise-at_step e m v w cs shown) (any_rises-at is_slot_grant e)
    has_happened-after_step event.arbiter_fall =
        or-equal_right _ _ _ _ (arbiter_fall-at_step e m v w cs shown) (arbiter_event e)
    has_happened-after_step event.grant_fall =
        or-same _ _ _ _ (arbiter_fall-at_step e m v w cs shown) (slot_grant_fall-at_step e m v w cs shown)
        ∙ or_swapped e.arbiter_fall (any_falls e m v w cs shown is_arbiter_grant) e.slot_grant_fall
        (any_falls e m v w cs shown is_slot_grant)
        ∙ ap (λ x. (e.arbiter_fall || e.slot_grant_fall) || x) (grant_event e)
    has_happened-after_step event.tenure = or-equal_right _ _ _ _ (tenure-at_step e m v w cs shown) tenure_event
    has_happened-after_step event.acknowledge_fall =
        or-equal_right _ _ _ _ (acknowledge_fall-at_step e m v w cs shown) (any_falls-at is_slot_iack e)

    -- a rule is asked after the step exactly if it was before, or its event happens at n + 1
    pub asks_by-after_step : (r : Rule) → asks_by after_step r ≡ (asks_by e r || happens t stretch r (suc n))
    unfolding happens
    asks_by-after_step r = has_happened-after_step (event_of r)
