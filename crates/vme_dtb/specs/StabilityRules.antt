-- What a step shows of the lines that have to be known and held, from the levels before and after it and its changes.
use Rattle.std.specs.Prelude.{ℕ, Bool, false, not, ◌&&◌, ◌||◌, List, [], ◌∷◌, Option, None, Some, if◌then◌else◌}
use Rattle.std.specs.Option.{option_or, is_some}
use Rattle.vme_trace.specs.Changes.{first_changed}
use Rattle.vme_trace.specs.Edges.{answer_between, falls_between, rises_between, starts_between, strobe_falls_between}
use Rattle.vme_trace.specs.Edges.{strobe_low_in, strobe_rises_between, strobes_high_in}
use Rattle.vme_trace.specs.Instants.{least}
use Rattle.vme_trace.specs.LineNumbers.{line_count, AS, WRITE, has_line}
use Rattle.vme_trace.specs.Levels.{Levels, level_at, is_low, is_known_on, same_level}
use Rattle.vme_trace.specs.Data.{is_selected}
use Rattle.vme_trace.specs.Cycle.{Needs, is_needed, is_within, needs_of}
use Rattle.vme_trace.specs.Judged.{Stretch}
use Rattle.vme_trace.specs.Trace.{Trace}
use Rattle.vme_trace.specs.declared.step.Change.{Change}
use Rattle.vme_trace.specs.declared.rule.Rule.{Rule}
use Rattle.vme_trace.specs.declared.rule.Rule.TheVariants.{U2, U3, U4, S1, S2, S3}
use Rattle.vme_monitor.specs.Run.{no_step_marks}
use Rattle.vme_monitor.specs.declared.mark.Fault.{Fault}
use Rattle.vme_monitor.specs.declared.mark.StepMarks.{StepMarks}
use Rattle.vme_monitor.specs.declared.mark.Next.{Next}
use Rattle.vme_dtb.specs.HoldingNumbers.{has_risen, passed, was_answered, writes_of}
use Rattle.vme_dtb.specs.declared.holding.Holding.{Holding}
use Rattle.vme_dtb.specs.declared.holding.TransferState.{TransferState}
use Rattle.vme_dtb.specs.declared.holding.TransferState.TheVariants.{Fresh}
use Rattle.vme_dtb.specs.declared.observation.HoldingObservation.{HoldingObservation}

-- the rules of lines that have to be known and held
abbrev pub stability_rules : List Rule
stability_rules = U2 ∷ U3 ∷ U4 ∷ S1 ∷ S2 ∷ S3 ∷ []

-- the fault that rule r is broken on line l
abbrev pub fault_at : Rule → ℕ → Fault
fault_at r l = record { rule = r; line = l }

-- the fault that rule r is broken, if there is a line
abbrev pub fault_on : Rule → Option ℕ → Option Fault
fault_on r None = None
fault_on r (Some l) = Some (fault_at r l)

-- a cycle that starts at these levels needs the line, and the line is unknown
abbrev pub lacks : Levels → ℕ → Bool
lacks w l = is_needed w l && not (is_known_on w l)

-- the least line that a cycle needs that starts at these levels, and that is unknown
abbrev pub unknown_need : Levels → Option ℕ
unknown_need w = least (lacks w) 0 line_count

-- the least line on which U2 is broken
abbrev pub unknown_address : Levels → Levels → Option ℕ
unknown_address v w = if falls_between v w AS then unknown_need w else None

-- the line on which U3 is broken: WRITE*
abbrev pub unknown_direction : Levels → Levels → Option ℕ
unknown_direction v w = if starts_between v w && not (is_known_on w WRITE) then Some WRITE else None

-- the rule U2 or U3, if a line is unknown that has to be known at this step
abbrev pub unknown_fault : Levels → Levels → Option Fault
unknown_fault v w = option_or (fault_on U2 (unknown_address v w)) (fault_on U3 (unknown_direction v w))

-- a transfer at these levels moves the line, and the line is unknown
abbrev pub is_undriven : Levels → ℕ → Bool
is_undriven w l = is_selected w l && not (is_known_on w l)

-- the transfer may be a write: it was open, or WRITE* is low as it starts
abbrev pub may_write : Levels → Levels → Bool
may_write v w = not (strobes_high_in v) || is_low (level_at w WRITE)

-- the least unknown data line that a transfer moves, if a strobe falls in a transfer that may be a write
abbrev pub undriven_line : Levels → Levels → Option ℕ
undriven_line v w = if strobe_falls_between v w && may_write v w then least (is_undriven w) 0 line_count else None

-- the first changed line that is among `needs`
abbrev pub first_needed : Needs → List Change → Option ℕ
first_needed needs cs = first_changed (is_within needs) cs

-- a transfer moved the line before the step, and the line has another level after it
abbrev pub is_changed_data : Levels → Levels → ℕ → Bool
is_changed_data v w l = has_line v.slots l && has_line w.slots l
    && (is_selected v l && not (same_level (level_at v l) (level_at w l)))

-- the first changed line that a transfer moved before the step, if WRITE* was low
abbrev pub changed_data_line : Levels → Levels → List Change → Option ℕ
changed_data_line v w cs = if is_low (level_at v WRITE) then first_changed (is_changed_data v w) cs else None

-- the first changed line that the cycle needs, if AS* was low before the step
abbrev pub changed_need_line : Levels → List Change → Option ℕ
changed_need_line v cs = if is_low (level_at v AS) then first_needed (needs_of v) cs else None

-- WRITE* has another level after the step
abbrev pub direction_turned : Levels → Levels → Bool
direction_turned v w = not (same_level (level_at v WRITE) (level_at w WRITE))

-- the memory (state of the automaton) may change: an answer comes, or a data strobe or AS* rises
abbrev pub may_change_memory : Levels → Levels → Bool
may_change_memory v w = answer_between v w || strobe_rises_between v w || rises_between v w AS

-- what the step shows
abbrev pub observation_of : Levels → Levels → List Change → HoldingObservation
observation_of v w cs = record {
  unknown = unknown_fault v w;
  undriven = undriven_line v w;
  changed_need = changed_need_line v cs;
  turned = direction_turned v w;
  changed_data = changed_data_line v w cs;
}

-- whether the step is observed: otherwise nothing has changed that counts
abbrev pub is_observed : Levels → Levels → List Change → Bool
is_observed v w cs = is_some (unknown_fault v w) || is_some (changed_need_line v cs) || direction_turned v w
    || may_change_memory v w || is_some (undriven_line v w) || is_some (changed_data_line v w cs)

-- the observation of the step, if it is observed
abbrev pub stability_observation : Levels → Levels → List Change → Option HoldingObservation
stability_observation v w cs = if is_observed v w cs then Some (observation_of v w cs) else None

-- the answer of a transfer comes
abbrev pub answers_in : Holding → Levels → Levels → Bool
answers_in m v w = not (was_answered m.transfer) && (not (strobes_high_in v) || strobe_low_in w) && answer_between v w

-- a cycle runs that has had no answer
abbrev pub awaits_answer : Holding → Levels → Bool
awaits_answer m v = is_low (level_at v AS) && not m.cycle_answered

-- the lines that the cycle needs are still held at the step
abbrev pub keeps_address : Holding → Levels → Levels → Bool
keeps_address m v w = awaits_answer m v && not (rises_between v w AS) && not (answers_in m v w)

-- a transfer is open in which no strobe has risen
abbrev pub holds_direction : Holding → Levels → Bool
holds_direction m v = not (strobes_high_in v) && not (has_risen m.transfer)

-- the direction is still held at the step
abbrev pub keeps_direction : Holding → Levels → Levels → Bool
keeps_direction m v w = holds_direction m v && not (strobe_rises_between v w)

-- the data lines of a write are still held at the step: the transfer has had no answer and no rising strobe
abbrev pub keeps_data : Holding → Levels → Levels → Bool
keeps_data m v w = keeps_direction m v w && not (was_answered m.transfer) && not (answer_between v w)

-- at the instant after the step there is a transfer that is a write and had no answer before
abbrev pub writes_now : Holding → Levels → Levels → Bool
writes_now m v w = if strobes_high_in v then strobe_low_in w
    && is_low (level_at w WRITE) else writes_of m.transfer (is_low (level_at v WRITE))

-- what has happened in the transfer up to the end of a step
abbrev pub passed_in : Holding → Levels → Levels → TransferState
passed_in m v w =
    passed (not (strobes_high_in w) && (was_answered m.transfer || answer_between v w))
    (not (strobes_high_in w) && (has_risen m.transfer || strobe_rises_between v w))
    (writes_of m.transfer (is_low (level_at v WRITE)))

-- the memory after a step
abbrev pub stepped : Holding → Levels → Levels → Holding
stepped m v w =
    record {
      transfer = passed_in m v w;
      cycle_answered = is_low (level_at w AS) && (m.cycle_answered || answers_in m v w);
    }

-- the line on which S1 is broken
abbrev pub changed_need_fault : Holding → Levels → Levels → HoldingObservation → Option ℕ
changed_need_fault m v w seen = if keeps_address m v w then seen.changed_need else None

-- the line on which S2 is broken: WRITE*
abbrev pub turned_fault : Holding → Levels → Levels → HoldingObservation → Option ℕ
turned_fault m v w seen = if keeps_direction m v w && seen.turned then Some WRITE else None

-- the first rule that a change of a held line breaks
abbrev pub held_fault : Holding → Levels → Levels → HoldingObservation → Option Fault
held_fault m v w seen = option_or (fault_on S1 (changed_need_fault m v w seen)) (fault_on S2 (turned_fault m v w seen))

-- the line, if b
abbrev pub kept : Bool → Option ℕ → Option ℕ
kept b None = None
kept b (Some l) = if b then Some l else None

-- the line on which U4 is broken
abbrev pub undriven_fault : Holding → Levels → Levels → HoldingObservation → Option ℕ
undriven_fault m v w seen = kept (writes_now m v w) seen.undriven

-- the line on which S3 is broken
abbrev pub changed_data_fault : Holding → Levels → Levels → HoldingObservation → Option ℕ
changed_data_fault m v w seen = kept (keeps_data m v w) seen.changed_data

-- the first rule that the step breaks
abbrev pub fault_in : Holding → Levels → Levels → HoldingObservation → Option Fault
fault_in m v w seen =
    option_or seen.unknown
    (option_or (fault_on U4 (undriven_fault m v w seen))
    (option_or (held_fault m v w seen) (fault_on S3 (changed_data_fault m v w seen))))

-- the memory at the start of a stretch
abbrev pub stability_begin : Levels → Holding
stability_begin v = record { transfer = Fresh; cycle_answered = false }

-- the result of an observed step
abbrev pub stability_next : Holding → Levels → Levels → HoldingObservation → Next Holding
stability_next m v w seen = record { memory = stepped m v w; fault = fault_in m v w seen; shown = no_step_marks }

-- nothing is shown
abbrev pub stability_shown : Trace → Stretch → ℕ → StepMarks
stability_shown t stretch j = no_step_marks
