-- How slots pass an acknowledge on, by the levels before and after a step and its changes.
use Rattle.std.specs.Prelude.{◌≡◌, refl, ℕ, ◌+◌, ◌-◌, ◌<◌, Bool, true, false, not, ◌&&◌, ◌||◌, nat_lt, List, []}
use Rattle.std.specs.Prelude.{◌∷◌, Option, None, Some, if◌then◌else◌}
use Rattle.std.proofs.Common.{lit<}
use Rattle.std.specs.Option.{is_some}
use Rattle.vme_trace.specs.Changes.{first_changed}
use Rattle.vme_trace.specs.Edges.{answer_between, falls_between, low_near, strobe_low_in, strobes_high_in}
use Rattle.vme_trace.specs.LineNumbers.{AS, DS0, DS1, DTACK, is_slot_iack, input_of, has_line}
use Rattle.vme_trace.specs.Levels.{Levels, level_at, is_low, is_high}
use Rattle.vme_trace.specs.Trace.{Trace}
use Rattle.vme_trace.specs.Judged.{Stretch}
use Rattle.vme_trace.specs.declared.step.Change.{Change}
use Rattle.vme_trace.specs.declared.rule.Rule.{Rule}
use Rattle.vme_trace.specs.declared.rule.Rule.TheVariants.{I1, I2, I3}
use Rattle.vme_monitor.specs.Run.{no_step_marks}
use Rattle.vme_monitor.specs.Tracking.{entered, is_unanswered, tracked, transfer_phase_nth, transfer_phase_place}
use Rattle.vme_monitor.specs.declared.mark.Fault.{Fault}
use Rattle.vme_monitor.specs.declared.mark.StepMarks.{StepMarks}
use Rattle.vme_monitor.specs.declared.mark.Next.{Next}
use Rattle.vme_monitor.specs.declared.tracking.TransferPhase.{TransferPhase}
use Rattle.vme_monitor.specs.declared.tracking.TransferPhase.TheVariants.{Closed, Reading, Writing, Answered}
use Rattle.vme_chains.specs.declared.acknowledge.AcknowledgeMemory.{AcknowledgeMemory}
use Rattle.vme_chains.specs.declared.acknowledge.PassingSlots.{PassingSlots}

-- the rules of interrupt acknowledge
abbrev pub acknowledge_rules : List Rule
acknowledge_rules = I1 ∷ I2 ∷ I3 ∷ []

-- the number of a memory (state of the monitor's automaton): first those of a cycle that DTACK* hasn't answered
abbrev pub acknowledge_memory_place : AcknowledgeMemory → ℕ
acknowledge_memory_place m = if m.answered_by_dtack then 4 + transfer_phase_place m.transfer else transfer_phase_place
    m.transfer

-- the memory with a number
abbrev pub acknowledge_memory_nth : ℕ → AcknowledgeMemory
acknowledge_memory_nth k =
    if nat_lt k 4 then record { transfer = transfer_phase_nth k; answered_by_dtack = false } else record {
      transfer = transfer_phase_nth
          (k - 4);
      answered_by_dtack = true;
    }

-- the line is the acknowledge output of a slot, and falls
abbrev pub passes_on : Levels → Levels → ℕ → Bool
passes_on v w l = is_slot_iack l && has_line v.slots l && has_line w.slots l && falls_between v w l

-- the line is the acknowledge output of a slot, and falls while the slot's input isn't low
abbrev pub passes_unasked : Levels → Levels → ℕ → Bool
passes_unasked v w l = passes_on v w l && not (low_near v w (input_of l))

-- AS* and a data strobe are low, each before the step or after it
abbrev pub is_strobed : Levels → Levels → Bool
is_strobed v w = low_near v w AS && (low_near v w DS0 || low_near v w DS1)

-- AS* is low before the step and after it
abbrev pub is_addressed : Levels → Levels → Bool
is_addressed v w = is_low (level_at v AS) && is_low (level_at w AS)

-- a transfer starts, or the open one closes
abbrev pub changes_strobes : Levels → Levels → Bool
changes_strobes v w = if strobes_high_in v then strobe_low_in w else strobes_high_in w

-- the memory may change: a transfer starts, is answered or closes, or AS* rises
abbrev pub changes_memory : Levels → Levels → Bool
changes_memory v w = changes_strobes v w || answer_between v w || (is_low (level_at v AS) && is_high (level_at w AS))

-- a transfer is answered by DTACK*
abbrev pub is_answered_by_dtack : TransferPhase → Levels → Levels → Bool
is_answered_by_dtack m v w = is_unanswered (entered m v w) && falls_between v w DTACK

-- whether AS* is low after the step, and a transfer of the cycle was answered by DTACK*
abbrev pub answered_by_dtack_after : AcknowledgeMemory → Levels → Levels → Bool
answered_by_dtack_after m v w = is_low (level_at w AS) && (m.answered_by_dtack || is_answered_by_dtack m.transfer v w)

-- the memory after the step
abbrev pub memory_after : AcknowledgeMemory → Levels → Levels → AcknowledgeMemory
memory_after m v w = record { transfer = tracked m.transfer v w; answered_by_dtack = answered_by_dtack_after m v w }

-- the fault that rule r is broken on line l
abbrev pub fault_on : Rule → ℕ → Fault
fault_on r l = record { rule = r; line = l }

-- the rule I2 or I3, if the first slot that passes an acknowledge on breaks it
abbrev pub fault_of_first : AcknowledgeMemory → Levels → Levels → Option ℕ → Option Fault
fault_of_first m v w None = None
fault_of_first m v w (Some l) = if not (is_strobed v w) then Some (fault_on I2 l) else if is_addressed v w
    && m.answered_by_dtack then Some (fault_on I3 l) else None

-- the first broken rule: I1 on l, the first acknowledge output that falls while the slot's input isn't low, if there is
-- one; else I2 or I3 on `first`
abbrev pub fault_among : AcknowledgeMemory → Levels → Levels → Option ℕ → Option ℕ → Option Fault
fault_among m v w (Some l) first = Some (fault_on I1 l)
fault_among m v w None first = fault_of_first m v w first

-- the memory at the start of a stretch
abbrev pub acknowledge_begin : Levels → AcknowledgeMemory
acknowledge_begin v = record { transfer = Closed; answered_by_dtack = false }

-- the slots that pass an acknowledge on, if there are any or the memory may change
abbrev pub acknowledge_observation : Levels → Levels → List Change → Option PassingSlots
acknowledge_observation v w cs =
    if is_some (first_changed (passes_on v w) cs)
    || changes_memory v w then Some (record {
      first = first_changed (passes_on v w) cs;
      unasked = first_changed
          (passes_unasked v w) cs;
    }) else None

-- the result of an observed step
abbrev pub acknowledge_next : AcknowledgeMemory → Levels → Levels → PassingSlots → Next AcknowledgeMemory
acknowledge_next m v w seen = record {
  memory = memory_after m v w;
  fault = fault_among m v w seen.unasked seen.first;
  shown = no_step_marks;
}

-- the monitor of acknowledges has no marks
abbrev pub acknowledge_shown : Trace → Stretch → ℕ → StepMarks
acknowledge_shown t stretch j = no_step_marks

pub acknowledge_memory_placed : (m : AcknowledgeMemory) → acknowledge_memory_place m < 8
acknowledge_memory_placed m = placed_at m.transfer m.answered_by_dtack
  where
    placed_at : (p : TransferPhase) (b : Bool) → (if b then 4 + transfer_phase_place p else transfer_phase_place p) < 8
    placed_at Closed true = lit< tt
    placed_at Reading true = lit< tt
    placed_at Writing true = lit< tt
    placed_at Answered true = lit< tt
    placed_at Closed false = lit< tt
    placed_at Reading false = lit< tt
    placed_at Writing false = lit< tt
    placed_at Answered false = lit< tt

pub acknowledge_memory_found : (m : AcknowledgeMemory) → acknowledge_memory_nth (acknowledge_memory_place m) ≡ m
acknowledge_memory_found m = found_at m.transfer m.answered_by_dtack
  where
    found_at : (p : TransferPhase) (b : Bool) → acknowledge_memory_nth
        (if b then 4 + transfer_phase_place p else transfer_phase_place p)
        ≡ record { transfer = p; answered_by_dtack = b }
    found_at Closed true = refl
    found_at Reading true = refl
    found_at Writing true = refl
    found_at Answered true = refl
    found_at Closed false = refl
    found_at Reading false = refl
    found_at Writing false = refl
    found_at Answered false = refl
