-- Which of the events happened without which a rule can't be broken, step by step.
use Rattle.std.specs.Prelude.{ℕ, Bool, true, false, ◌&&◌, ◌||◌, List, Option, None, Some, is_some}
use Rattle.std.specs.List.{fold}
use Rattle.std.specs.Option.{option_map_or}
use Rattle.vme_trace.specs.Edges.{answer_between, falls_between, rises_between, strobe_falls_between}
use Rattle.vme_trace.specs.Edges.{strobe_rises_between}
use Rattle.vme_trace.specs.Levels.{Levels}
use Rattle.vme_trace.specs.LineNumbers.{AS, DTACK, BERR, BBSY, has_line, is_arbiter_grant, is_slot_grant}
use Rattle.vme_trace.specs.LineNumbers.{is_slot_iack}
use Rattle.vme_trace.specs.Rules.{is_interrupt}
use Rattle.vme_trace.specs.declared.rule.Rule.{Rule}
use Rattle.vme_trace.specs.declared.step.Change.{Change}
use Rattle.vme_monitor.specs.Tracking.{is_within}
use Rattle.vme_monitor.specs.declared.mark.CycleStart.{CycleStart}
use Rattle.vme_monitor.specs.declared.mark.StepMarks.{StepMarks}
use Rattle.vme_monitor.specs.declared.mark.TransferAnswer.{TransferAnswer}
use Rattle.vme_monitor.specs.declared.tracking.TransferPhase.{TransferPhase}
use Rattle.vme_dtb.specs.CycleState.{is_interrupt_acknowledge}
use Rattle.vme_dtb.specs.declared.cycle.CyclePhase.{CyclePhase}
use Rattle.vme_dtb.specs.declared.cycle.CyclePhase.TheVariants.{SingleRead, SingleDone, BlockReading, BlockWriting}
use Rattle.vme_dtb.specs.declared.cycle.CyclePhase.TheVariants.{InterruptDone}
use Rattle.vme_dtb.specs.declared.memory.HandshakeMemory.{HandshakeMemory}
use Rattle.vme_audit.specs.Event.{Event, event_of}
use Rattle.vme_audit.specs.Event as event
use Rattle.vme_auditor.specs.declared.asked.AskedEvents.{AskedEvents}

-- no event has happened
abbrev pub nothing_happened : AskedEvents
nothing_happened =
    record {
      stretch = false;
      cycle = false;
      cycle_end = false;
      transfer = false;
      write = false;
      strobe_rise = false;
      strobe_fall = false;
      answer_fall = false;
      answer_rise = false;
      answer = false;
      single_again = false;
      block_again = false;
      interrupt = false;
      interrupt_again = false;
      slot_grant_fall = false;
      slot_grant_rise = false;
      arbiter_fall = false;
      tenure = false;
      acknowledge_fall = false;
    }

-- whether an event happened
abbrev pub has_happened : AskedEvents → Event → Bool
has_happened e event.stretch = e.stretch
has_happened e event.cycle = e.cycle
has_happened e event.cycle_end = e.cycle_end
has_happened e event.transfer = e.transfer
has_happened e event.write = e.write
has_happened e event.strobe_rise = e.strobe_rise
has_happened e event.strobe_fall = e.strobe_fall
has_happened e event.answer_fall = e.answer_fall
has_happened e event.answer_rise = e.answer_rise
has_happened e event.answer = e.answer
has_happened e event.single_again = e.single_again
has_happened e event.block_again = e.block_again
has_happened e event.interrupt = e.interrupt
has_happened e event.interrupt_again = e.interrupt_again
has_happened e event.slot_grant_fall = e.slot_grant_fall
has_happened e event.slot_grant_rise = e.slot_grant_rise
has_happened e event.arbiter_fall = e.arbiter_fall
has_happened e event.grant_fall = e.arbiter_fall || e.slot_grant_fall
has_happened e event.tenure = e.tenure
has_happened e event.acknowledge_fall = e.acknowledge_fall

-- whether the event of rule `r` happened
abbrev pub asks_by : AskedEvents → Rule → Bool
asks_by e r = has_happened e (event_of r)

-- whether the cycle after a step is an interrupt acknowledge: the one that starts, or else the one before
abbrev pub is_interrupt_entered : CyclePhase → Option CycleStart → Bool
is_interrupt_entered cycle None = is_interrupt_acknowledge cycle
is_interrupt_entered cycle (Some start) = is_interrupt start.class

-- a net that the backplane has falls
abbrev pub net_falls : Levels → Levels → ℕ → Bool
net_falls before after l = has_line before.slots l && has_line after.slots l && falls_between before after l

-- a net that the backplane has rises
abbrev pub net_rises : Levels → Levels → ℕ → Bool
net_rises before after l = has_line before.slots l && has_line after.slots l && rises_between before after l

-- ---- the events after one more step

-- whether a cycle starts or ends, and a transfer starts
abbrev pub cycle_taken : AskedEvents → Levels → Levels → StepMarks → AskedEvents
cycle_taken e before after shown = record e {
  cycle = e.cycle || is_some shown.cycle;
  cycle_end = e.cycle_end || rises_between before after AS;
  transfer = e.transfer || is_some shown.transfer;
  write = e.write || option_map_or (λ write. write) shown.transfer false;
}

-- whether a strobe rises or falls in a transfer that started before
abbrev pub strobes_taken : AskedEvents → TransferPhase → Levels → Levels → AskedEvents
strobes_taken e phase before after = record e {
  strobe_rise = e.strobe_rise || (is_within phase && strobe_rises_between before after);
  strobe_fall = e.strobe_fall || (is_within phase && strobe_falls_between before after);
}

-- an answer in a cycle that started before: a further one, if the cycle had an answer already
abbrev pub further_taken : AskedEvents → CyclePhase → AskedEvents
further_taken e SingleRead = record e { single_again = true }
further_taken e SingleDone = record e { single_again = true }
further_taken e BlockReading = record e { block_again = true }
further_taken e BlockWriting = record e { block_again = true }
further_taken e InterruptDone = record e { interrupt_again = true }
further_taken e cycle = e

-- the same, unless a cycle starts
abbrev pub further_unless : AskedEvents → CyclePhase → Option CycleStart → AskedEvents
further_unless e cycle None = further_taken e cycle
further_unless e cycle (Some start) = e

-- an answer, if there is one
abbrev pub answer_taken : AskedEvents → CyclePhase → Option CycleStart → Option TransferAnswer → AskedEvents
answer_taken e cycle starts None = e
answer_taken e cycle starts (Some answer) =
    further_unless
    (record e { answer = true; interrupt = e.interrupt || is_interrupt_entered cycle starts }) cycle starts

-- whether an answer line falls or rises, and the answer
abbrev pub answers_taken : AskedEvents → CyclePhase → Levels → Levels → StepMarks → AskedEvents
answers_taken e cycle before after shown =
    answer_taken
    (record e {
      answer_fall = e.answer_fall || answer_between before after;
      answer_rise = e.answer_rise || rises_between before after DTACK || rises_between before after BERR;
    })
    cycle shown.cycle shown.answer

-- whether a slot starts or stops passing a grant on, the arbiter grants, or a slot passes an acknowledge on, by one
-- change
abbrev pub net_taken : Levels → Levels → AskedEvents → Change → AskedEvents
net_taken before after e c = record e {
  slot_grant_fall = e.slot_grant_fall || (is_slot_grant c.line && net_falls before after c.line);
  slot_grant_rise = e.slot_grant_rise || (is_slot_grant c.line && net_rises before after c.line);
  arbiter_fall = e.arbiter_fall || (is_arbiter_grant c.line && net_falls before after c.line);
  acknowledge_fall = e.acknowledge_fall || (is_slot_iack c.line && net_falls before after c.line);
}

-- the same by all changes
abbrev pub nets_taken : Levels → Levels → AskedEvents → List Change → AskedEvents
nets_taken before after e changes = fold (net_taken before after) e changes

-- whether a tenure starts
abbrev pub tenure_taken : AskedEvents → Levels → Levels → AskedEvents
tenure_taken e before after = record e { tenure = e.tenure || falls_between before after BBSY }

-- all events of a step at a judged instant, where `entered` is the memory of the handshake before it
abbrev pub at_step : AskedEvents → HandshakeMemory → Levels → Levels → List Change → StepMarks → AskedEvents
at_step e entered before after changes shown =
    let a = cycle_taken e before after shown in
    let b = strobes_taken a entered.transfer before after in
    let c = answers_taken b entered.cycle before after shown in
    nets_taken before after (tenure_taken c before after) changes
