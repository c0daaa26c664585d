-- What one more step does to each of the noted events: an event has happened after the step exactly if it had before,
-- or the step has it.
use Rattle.std.proofs.Common.{◌≡◌, ℕ, Bool, true, false, not, ◌&&◌, ◌||◌, List, [], ◌∷◌, refl, sym, ◌∙◌, ap, Option}
use Rattle.std.proofs.Common.{None, Some}
use Rattle.std.specs.Prelude.{is_some}
use Rattle.std.specs.List.{list_any}
use Rattle.std.specs.Option.{option_map_or}
use Rattle.std.proofs.Math.Bool.{or-false, or-true, or_assoc}
use Rattle.vme_trace.specs.Edges.{answer_between, falls_between, rises_between, strobe_falls_between}
use Rattle.vme_trace.specs.Edges.{strobe_rises_between}
use Rattle.vme_trace.specs.Levels.{Levels}
use Rattle.vme_trace.specs.LineNumbers.{AS, BBSY, BERR, DTACK, is_arbiter_grant, is_slot_grant, is_slot_iack}
use Rattle.vme_trace.specs.declared.step.Change.{Change}
use Rattle.vme_monitor.specs.Tracking.{is_within}
use Rattle.vme_monitor.specs.declared.mark.CycleStart.{CycleStart}
use Rattle.vme_monitor.specs.declared.mark.StepMarks.{StepMarks}
use Rattle.vme_monitor.specs.declared.mark.TransferAnswer.{TransferAnswer}
use Rattle.vme_dtb.specs.CycleState.{is_answered_interrupt_acknowledge}
use Rattle.vme_dtb.specs.declared.cycle.CyclePhase.{CyclePhase}
use Rattle.vme_dtb.specs.declared.cycle.CyclePhase.TheVariants.{Block, BlockReading, BlockWriting, Free, Interrupt}
use Rattle.vme_dtb.specs.declared.cycle.CyclePhase.TheVariants.{InterruptDone, Single, SingleDone, SingleRead}
use Rattle.vme_dtb.specs.declared.memory.HandshakeMemory.{HandshakeMemory}
use Rattle.vme_auditor.specs.Events.{answer_taken, at_step, cycle_taken, further_taken, is_interrupt_entered}
use Rattle.vme_auditor.specs.Events.{net_falls, net_rises, net_taken, nets_taken, strobes_taken, tenure_taken}
use Rattle.vme_auditor.specs.declared.asked.AskedEvents.{AskedEvents}

-- a field that no change of a net alters is the same after all changes
nets_taken-unaltered : (v w : Levels) (get : AskedEvents → Bool)
    → ((e : AskedEvents) (c : Change) → get (net_taken v w e c) ≡ get e)
    → (cs : List Change) (e : AskedEvents) → get (nets_taken v w e cs) ≡ get e
nets_taken-unaltered v w get kept [] e = refl
nets_taken-unaltered v w get kept (c ∷ cs) e = nets_taken-unaltered v w get kept cs (net_taken v w e c) ∙ kept e c

-- a field that each change may set is set after all changes exactly if it was set before or one of them sets it
nets_taken-any : (v w : Levels) (get : AskedEvents → Bool) (now : Change → Bool)
    → ((e : AskedEvents) (c : Change) → get (net_taken v w e c) ≡ (get e || now c))
    → (cs : List Change) (e : AskedEvents)
    → get (nets_taken v w e cs) ≡ (get e || list_any now cs)
nets_taken-any v w get now taken [] e = sym (or-false (get e))
nets_taken-any v w get now taken (c ∷ cs) e =
    nets_taken-any v w get now taken cs (net_taken v w e c) ∙ ap (λ b. b || list_any now cs) (taken e c)
    ∙ or_assoc (get e) (now c) (list_any now cs)

-- a field that a further answer doesn't alter
module _ (get : AskedEvents → Bool) (single : (e : AskedEvents) → get (record e { single_again = true }) ≡ get e)
    (block : (e : AskedEvents) → get (record e { block_again = true }) ≡ get e)
    (again : (e : AskedEvents) → get (record e { interrupt_again = true }) ≡ get e) where
  -- a further answer in a cycle leaves the field as it is
  further_taken-unaltered : (e : AskedEvents) (cycle : CyclePhase) → get (further_taken e cycle) ≡ get e
  further_taken-unaltered e Free = refl
  further_taken-unaltered e Single = refl
  further_taken-unaltered e SingleRead = single e
  further_taken-unaltered e SingleDone = single e
  further_taken-unaltered e Block = refl
  further_taken-unaltered e BlockReading = block e
  further_taken-unaltered e BlockWriting = block e
  further_taken-unaltered e Interrupt = refl
  further_taken-unaltered e InterruptDone = again e

  -- an answer, or none, leaves the field as it is, if no answer alters it
  answer_taken-unaltered : ((e : AskedEvents) (b : Bool) → get (record e { answer = true; interrupt = b }) ≡ get e)
      → (e : AskedEvents) (cycle : CyclePhase) (starts : Option CycleStart) (answer : Option TransferAnswer)
      → get (answer_taken e cycle starts answer) ≡ get e
  answer_taken-unaltered kept e cycle starts None = refl
  answer_taken-unaltered kept e cycle None (Some a) =
      further_taken-unaltered (record e { answer = true; interrupt = e.interrupt || is_interrupt_entered cycle None })
      cycle
      ∙ kept e (e.interrupt || is_interrupt_entered cycle None)
  answer_taken-unaltered kept e cycle (Some s) (Some a) = kept e (e.interrupt || is_interrupt_entered cycle (Some s))

-- the cycle is single and had an answer
abbrev pub is_single_answered : CyclePhase → Bool
is_single_answered SingleRead = true
is_single_answered SingleDone = true
is_single_answered c = false

-- the cycle is a block transfer and had an answer
abbrev pub is_block_answered : CyclePhase → Bool
is_block_answered BlockReading = true
is_block_answered BlockWriting = true
is_block_answered c = false

-- there is an answer, no cycle starts at the step, and `is` holds of the cycle
abbrev pub answers_again : (CyclePhase → Bool) → CyclePhase → Option CycleStart → Option TransferAnswer → Bool
answers_again is cycle starts answer = is_some answer && (not (is_some starts) && is cycle)

-- after a further answer `single_again` has happened exactly if it had before, or the cycle is single and had an answer
single_again-further_taken : (e : AskedEvents) (cycle : CyclePhase) → (further_taken e cycle).single_again
    ≡ (e.single_again || is_single_answered cycle)
single_again-further_taken e Free = sym (or-false e.single_again)
single_again-further_taken e Single = sym (or-false e.single_again)
single_again-further_taken e SingleRead = sym (or-true e.single_again)
single_again-further_taken e SingleDone = sym (or-true e.single_again)
single_again-further_taken e Block = sym (or-false e.single_again)
single_again-further_taken e BlockReading = sym (or-false e.single_again)
single_again-further_taken e BlockWriting = sym (or-false e.single_again)
single_again-further_taken e Interrupt = sym (or-false e.single_again)
single_again-further_taken e InterruptDone = sym (or-false e.single_again)

-- after a further answer `block_again` has happened exactly if it had before, or the cycle is a block transfer and had
-- an answer
block_again-further_taken : (e : AskedEvents) (cycle : CyclePhase) → (further_taken e cycle).block_again
    ≡ (e.block_again || is_block_answered cycle)
block_again-further_taken e Free = sym (or-false e.block_again)
block_again-further_taken e Single = sym (or-false e.block_again)
block_again-further_taken e SingleRead = sym (or-false e.block_again)
block_again-further_taken e SingleDone = sym (or-false e.block_again)
block_again-further_taken e Block = sym (or-false e.block_again)
block_again-further_taken e BlockReading = sym (or-true e.block_again)
block_again-further_taken e BlockWriting = sym (or-true e.block_again)
block_again-further_taken e Interrupt = sym (or-false e.block_again)
block_again-further_taken e InterruptDone = sym (or-false e.block_again)

-- after a further answer `interrupt_again` has happened exactly if it had before, or the cycle is an interrupt
-- acknowledge and had an answer
interrupt_again-further_taken : (e : AskedEvents) (cycle : CyclePhase) → (further_taken e cycle).interrupt_again
    ≡ (e.interrupt_again || is_answered_interrupt_acknowledge cycle)
interrupt_again-further_taken e Free = sym (or-false e.interrupt_again)
interrupt_again-further_taken e Single = sym (or-false e.interrupt_again)
interrupt_again-further_taken e SingleRead = sym (or-false e.interrupt_again)
interrupt_again-further_taken e SingleDone = sym (or-false e.interrupt_again)
interrupt_again-further_taken e Block = sym (or-false e.interrupt_again)
interrupt_again-further_taken e BlockReading = sym (or-false e.interrupt_again)
interrupt_again-further_taken e BlockWriting = sym (or-false e.interrupt_again)
interrupt_again-further_taken e Interrupt = sym (or-false e.interrupt_again)
interrupt_again-further_taken e InterruptDone = sym (or-true e.interrupt_again)

-- if a further answer sets a field exactly where `is` holds of the cycle, and an answer doesn't alter it otherwise,
-- then after an answer, or none, it is set exactly if it was before, or the answer is a further one of such a cycle
again-answer_taken : (get : AskedEvents → Bool) (is : CyclePhase → Bool)
    → ((e : AskedEvents) (b : Bool) → get (record e { answer = true; interrupt = b }) ≡ get e)
    → ((e : AskedEvents) (cycle : CyclePhase) → get (further_taken e cycle) ≡ (get e || is cycle))
    → (cycle : CyclePhase) (e : AskedEvents) (starts : Option CycleStart) (answer : Option TransferAnswer)
    → get (answer_taken e cycle starts answer) ≡ (get e || answers_again is cycle starts answer)
again-answer_taken get is kept further cycle e starts None = sym (or-false (get e))
again-answer_taken get is kept further cycle e None (Some a) =
    further (record e { answer = true; interrupt = e.interrupt || is_interrupt_entered cycle None }) cycle
    ∙ ap (λ b. b || is cycle) (kept e (e.interrupt || is_interrupt_entered cycle None))
again-answer_taken get is kept further cycle e (Some s) (Some a) =
    kept e (e.interrupt || is_interrupt_entered cycle (Some s)) ∙ sym (or-false (get e))

-- the step is in the cycle `cycle`, unless one starts at it
module _ (cycle : CyclePhase) where
  -- after an answer, or none, `answer` has happened exactly if it had before, or there is an answer
  answer-answer_taken : (e : AskedEvents) (starts : Option CycleStart) (answer : Option TransferAnswer)
      → (answer_taken e cycle starts answer).answer ≡ (e.answer || is_some answer)
  answer-answer_taken e starts None = sym (or-false e.answer)
  answer-answer_taken e None (Some a) =
      further_taken-unaltered (λ e. e.answer) (λ e. refl) (λ e. refl) (λ e. refl)
      (record e { answer = true; interrupt = e.interrupt || is_interrupt_entered cycle None }) cycle
      ∙ sym (or-true e.answer)
  answer-answer_taken e (Some s) (Some a) = sym (or-true e.answer)

  -- after an answer, or none, `interrupt` has happened exactly if it had before, or there is an answer and the cycle
  -- after the step is an interrupt acknowledge
  interrupt-answer_taken : (e : AskedEvents) (starts : Option CycleStart) (answer : Option TransferAnswer)
      → (answer_taken e cycle starts answer).interrupt
      ≡ (e.interrupt || (is_some answer && is_interrupt_entered cycle starts))
  interrupt-answer_taken e starts None = sym (or-false e.interrupt)
  interrupt-answer_taken e None (Some a) =
      further_taken-unaltered (λ e. e.interrupt) (λ e. refl) (λ e. refl) (λ e. refl)
      (record e { answer = true; interrupt = e.interrupt || is_interrupt_entered cycle None }) cycle
  interrupt-answer_taken e (Some s) (Some a) = refl

-- what a step to a judged instant does to each event
module _ (e : AskedEvents) (m : HandshakeMemory) (v w : Levels) (cs : List Change) (shown : StepMarks) where
  -- the noted events after the step
  abbrev stepped : AskedEvents
  stepped = at_step e m v w cs shown

  -- the events of the step, by the address strobe and the starts of cycles and transfers
  abbrev cycles : AskedEvents
  cycles = cycle_taken e v w shown

  -- the events of `cycles`, and the edges of the strobes
  abbrev strobes : AskedEvents
  strobes = strobes_taken cycles m.transfer v w

  -- the events of `strobes`, and the edges of the answer lines
  abbrev answering : AskedEvents
  answering = record strobes {
    answer_fall = strobes.answer_fall || answer_between v w;
    answer_rise = strobes.answer_rise || rises_between v w DTACK || rises_between v w BERR;
  }

  -- the events of `answering`, and the answer
  abbrev answers : AskedEvents
  answers = answer_taken answering m.cycle shown.cycle shown.answer

  -- a field that no change of a net, no start of a tenure and no answer alters is the same after these
  at_step-unaltered : (get : AskedEvents → Bool) → ((e : AskedEvents) (c : Change) → get (net_taken v w e c) ≡ get e)
      → ((e : AskedEvents) → get (tenure_taken e v w) ≡ get e)
      → ((e : AskedEvents) (b : Bool) → get (record e { answer = true; interrupt = b }) ≡ get e)
      → ((e : AskedEvents) → get (record e { single_again = true }) ≡ get e)
      → ((e : AskedEvents) → get (record e { block_again = true }) ≡ get e)
      → ((e : AskedEvents) → get (record e { interrupt_again = true }) ≡ get e) → get stepped ≡ get answering
  at_step-unaltered get nets tenures kept single block again =
      nets_taken-unaltered v w get nets cs (tenure_taken answers v w) ∙ tenures answers
      ∙ answer_taken-unaltered get single block again kept answering m.cycle shown.cycle shown.answer

  -- a field that each change may set, and nothing else of these alters, is set after them exactly if it was set before
  -- or a change sets it
  at_step-any : (get : AskedEvents → Bool) (now : Change → Bool)
      → ((e : AskedEvents) (c : Change) → get (net_taken v w e c) ≡ (get e || now c))
      → ((e : AskedEvents) → get (tenure_taken e v w) ≡ get e)
      → ((e : AskedEvents) (b : Bool) → get (record e { answer = true; interrupt = b }) ≡ get e)
      → ((e : AskedEvents) → get (record e { single_again = true }) ≡ get e)
      → ((e : AskedEvents) → get (record e { block_again = true }) ≡ get e)
      → ((e : AskedEvents) → get (record e { interrupt_again = true }) ≡ get e)
      → get stepped ≡ (get answering || list_any now cs)
  at_step-any get now taken tenures kept single block again =
      nets_taken-any v w get now taken cs (tenure_taken answers v w)
      ∙ ap (λ b. b || list_any now cs) (tenures answers
      ∙ answer_taken-unaltered get single block again kept answering m.cycle shown.cycle shown.answer)

  -- `cycle` has happened after the step exactly if it had before, or a cycle starts
  pub cycle-at_step : stepped.cycle ≡ (e.cycle || is_some shown.cycle)
  cycle-at_step =
      at_step-unaltered (λ e. e.cycle) (λ e c. refl) (λ e. refl) (λ e b. refl) (λ e. refl) (λ e. refl) (λ e. refl)

  -- `cycle_end` has happened after the step exactly if it had before, or the address strobe rises
  pub cycle_end-at_step : stepped.cycle_end ≡ (e.cycle_end || rises_between v w AS)
  cycle_end-at_step =
      at_step-unaltered (λ e. e.cycle_end) (λ e c. refl) (λ e. refl) (λ e b. refl) (λ e. refl) (λ e. refl) (λ e. refl)

  -- `transfer` has happened after the step exactly if it had before, or a transfer starts
  pub transfer-at_step : stepped.transfer ≡ (e.transfer || is_some shown.transfer)
  transfer-at_step =
      at_step-unaltered (λ e. e.transfer) (λ e c. refl) (λ e. refl) (λ e b. refl) (λ e. refl) (λ e. refl) (λ e. refl)

  -- `write` has happened after the step exactly if it had before, or a write starts
  pub write-at_step : stepped.write ≡ (e.write || option_map_or (λ write. write) shown.transfer false)
  write-at_step =
      at_step-unaltered (λ e. e.write) (λ e c. refl) (λ e. refl) (λ e b. refl) (λ e. refl) (λ e. refl) (λ e. refl)

  -- `strobe_rise` has happened after the step exactly if it had before, or a strobe rises within a transfer
  pub strobe_rise-at_step : stepped.strobe_rise ≡ (e.strobe_rise || (is_within m.transfer && strobe_rises_between v w))
  strobe_rise-at_step =
      at_step-unaltered (λ e. e.strobe_rise) (λ e c. refl) (λ e. refl) (λ e b. refl) (λ e. refl) (λ e. refl) (λ e. refl)

  -- `strobe_fall` has happened after the step exactly if it had before, or a strobe falls within a transfer
  pub strobe_fall-at_step : stepped.strobe_fall ≡ (e.strobe_fall || (is_within m.transfer && strobe_falls_between v w))
  strobe_fall-at_step =
      at_step-unaltered (λ e. e.strobe_fall) (λ e c. refl) (λ e. refl) (λ e b. refl) (λ e. refl) (λ e. refl) (λ e. refl)

  -- `answer_fall` has happened after the step exactly if it had before, or an answer line falls
  pub answer_fall-at_step : stepped.answer_fall ≡ (e.answer_fall || answer_between v w)
  answer_fall-at_step =
      at_step-unaltered (λ e. e.answer_fall) (λ e c. refl) (λ e. refl) (λ e b. refl) (λ e. refl) (λ e. refl) (λ e. refl)

  -- `answer_rise` has happened after the step exactly if it had before, or an answer line rises
  pub answer_rise-at_step : stepped.answer_rise ≡ (e.answer_rise || (rises_between v w DTACK || rises_between v w BERR))
  answer_rise-at_step =
      at_step-unaltered (λ e. e.answer_rise) (λ e c. refl) (λ e. refl) (λ e b. refl) (λ e. refl) (λ e. refl) (λ e. refl)
      ∙ or_assoc e.answer_rise (rises_between v w DTACK) (rises_between v w BERR)

  -- `answer` has happened after the step exactly if it had before, or a transfer is answered
  pub answer-at_step : stepped.answer ≡ (e.answer || is_some shown.answer)
  answer-at_step =
      nets_taken-unaltered v w (λ e. e.answer) (λ e c. refl) cs (tenure_taken answers v w)
      ∙ answer-answer_taken m.cycle answering shown.cycle shown.answer

  -- `interrupt` has happened after the step exactly if it had before, or a transfer of an interrupt acknowledge is
  -- answered
  pub interrupt-at_step : stepped.interrupt
      ≡ (e.interrupt || (is_some shown.answer && is_interrupt_entered m.cycle shown.cycle))
  interrupt-at_step =
      nets_taken-unaltered v w (λ e. e.interrupt) (λ e c. refl) cs (tenure_taken answers v w)
      ∙ interrupt-answer_taken m.cycle answering shown.cycle shown.answer

  -- `single_again` has happened after the step exactly if it had before, or a further transfer of a single cycle is
  -- answered
  pub single_again-at_step : stepped.single_again
      ≡ (e.single_again || answers_again is_single_answered m.cycle shown.cycle shown.answer)
  single_again-at_step =
      nets_taken-unaltered v w (λ e. e.single_again) (λ e c. refl) cs (tenure_taken answers v w)
      ∙ again-answer_taken (λ e. e.single_again) is_single_answered (λ e b. refl) single_again-further_taken
      m.cycle answering shown.cycle shown.answer

  -- `block_again` has happened after the step exactly if it had before, or a further transfer of a block transfer is
  -- answered
  pub block_again-at_step : stepped.block_again
      ≡ (e.block_again || answers_again is_block_answered m.cycle shown.cycle shown.answer)
  block_again-at_step =
      nets_taken-unaltered v w (λ e. e.block_again) (λ e c. refl) cs (tenure_taken answers v w)
      ∙ again-answer_taken (λ e. e.block_again) is_block_answered (λ e b. refl) block_again-further_taken
      m.cycle answering shown.cycle shown.answer

  -- `interrupt_again` has happened after the step exactly if it had before, or a further transfer of an interrupt
  -- acknowledge is answered
  pub interrupt_again-at_step : stepped.interrupt_again
      ≡ (e.interrupt_again || answers_again is_answered_interrupt_acknowledge m.cycle shown.cycle shown.answer)
  interrupt_again-at_step =
      nets_taken-unaltered v w (λ e. e.interrupt_again) (λ e c. refl) cs (tenure_taken answers v w)
      ∙ again-answer_taken (λ e. e.interrupt_again) is_answered_interrupt_acknowledge (λ e b. refl)
      interrupt_again-further_taken m.cycle answering shown.cycle shown.answer

  -- `tenure` has happened after the step exactly if it had before, or BBSY falls
  pub tenure-at_step : stepped.tenure ≡ (e.tenure || falls_between v w BBSY)
  tenure-at_step =
      nets_taken-unaltered v w (λ e. e.tenure) (λ e c. refl) cs (tenure_taken answers v w)
      ∙ ap (λ b. b || falls_between v w BBSY)
      (answer_taken-unaltered (λ e. e.tenure) (λ e. refl) (λ e. refl) (λ e. refl) (λ e b. refl) answering m.cycle
      shown.cycle shown.answer)

  -- a change of the step lets a chosen line of the backplane fall
  abbrev pub any_falls : (ℕ → Bool) → Bool
  any_falls chosen = list_any (λ c. chosen c.line && net_falls v w c.line) cs

  -- a change of the step lets a chosen line of the backplane rise
  abbrev pub any_rises : (ℕ → Bool) → Bool
  any_rises chosen = list_any (λ c. chosen c.line && net_rises v w c.line) cs

  -- `slot_grant_fall` has happened after the step exactly if it had before, or a slot begins to grant on
  pub slot_grant_fall-at_step : stepped.slot_grant_fall ≡ (e.slot_grant_fall || any_falls is_slot_grant)
  slot_grant_fall-at_step =
      at_step-any (λ e. e.slot_grant_fall) (λ c. is_slot_grant c.line && net_falls v w c.line) (λ e c. refl) (λ e. refl)
      (λ e b. refl) (λ e. refl) (λ e. refl) (λ e. refl)

  -- `slot_grant_rise` has happened after the step exactly if it had before, or a slot ends its grant
  pub slot_grant_rise-at_step : stepped.slot_grant_rise ≡ (e.slot_grant_rise || any_rises is_slot_grant)
  slot_grant_rise-at_step =
      at_step-any (λ e. e.slot_grant_rise) (λ c. is_slot_grant c.line && net_rises v w c.line) (λ e c. refl) (λ e. refl)
      (λ e b. refl) (λ e. refl) (λ e. refl) (λ e. refl)

  -- `arbiter_fall` has happened after the step exactly if it had before, or the arbiter grants
  pub arbiter_fall-at_step : stepped.arbiter_fall ≡ (e.arbiter_fall || any_falls is_arbiter_grant)
  arbiter_fall-at_step =
      at_step-any (λ e. e.arbiter_fall) (λ c. is_arbiter_grant c.line && net_falls v w c.line) (λ e c. refl) (λ e. refl)
      (λ e b. refl) (λ e. refl) (λ e. refl) (λ e. refl)

  -- `acknowledge_fall` has happened after the step exactly if it had before, or a slot passes the acknowledge on
  pub acknowledge_fall-at_step : stepped.acknowledge_fall ≡ (e.acknowledge_fall || any_falls is_slot_iack)
  acknowledge_fall-at_step =
      at_step-any (λ e. e.acknowledge_fall) (λ c. is_slot_iack c.line && net_falls v w c.line) (λ e c. refl) (λ e. refl)
      (λ e b. refl) (λ e. refl) (λ e. refl) (λ e. refl)

  -- `stretch` has happened after the step exactly if it had before
  pub stretch-at_step : stepped.stretch ≡ e.stretch
  stretch-at_step =
      at_step-unaltered (λ e. e.stretch) (λ e c. refl) (λ e. refl) (λ e b. refl) (λ e. refl) (λ e. refl) (λ e. refl)
