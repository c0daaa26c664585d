-- For each rule a recording that breaks it, and those nearest to it that conform. Both are total: a rule without them
-- can't be added.
use Rattle.std.specs.Prelude.{◌≡◌, ◌≤◌, Bool, true, false, List, [], ◌∷◌, length, All, Option, None, Some}
use Rattle.vme_trace.specs.Trace.{Trace}
use Rattle.vme_trace.specs.Rules.{is_unreadable}
use Rattle.vme_trace.specs.Verdict.{verdict}
use Rattle.vme_trace.specs.declared.rule.Rule.{Rule}
use Rattle.vme_trace.specs.declared.rule.Rule.TheVariants.{U1, U2, U3, U4, H1, H2, H3, H4, H5, H6, H7, H8, S1, S2, S3}
use Rattle.vme_trace.specs.declared.rule.Rule.TheVariants.{C1, C2, G1, G2, G3, G4, G5, B1, B2, B3, B4, I1, I2, I3, I4}
use Rattle.vme_trace.specs.declared.rule.Rule.TheVariants.{I5}
use Rattle.vme_trace.specs.declared.verdict.Verdict.{Verdict}
use Rattle.vme_trace.specs.declared.verdict.Verdict.TheVariants.{Conforming, Broken, Unreadable, NeverIdle}
use Rattle.vme_eval.specs.Dumps.{strobe_lost_at_once, answer_low_before_judging, address_lost_between_cycles}
use Rattle.vme_eval.specs.Resets.{strobe_lost_with_the_reset}
use Rattle.vme_eval.specs.Transfers.{read_cycle, bus_error, starts_before_the_answer_rose}
use Rattle.vme_eval.specs.Transfers.{answer_rises_as_the_next_transfer_starts, strobes_rise_early}
use Rattle.vme_eval.specs.Transfers.{strobes_rise_with_answer, strobe_falls_after_the_answer}
use Rattle.vme_eval.specs.Transfers.{strobe_falls_with_the_answer, second_strobe_falls_before_the_answer, stray_answer}
use Rattle.vme_eval.specs.Transfers.{answered_at_its_first_instant, answered_again_by_the_same_line}
use Rattle.vme_eval.specs.Transfers.{answer_withdrawn_early, answer_rises_with_the_strobes, cycle_ends_unanswered}
use Rattle.vme_eval.specs.Transfers.{cycle_ends_with_the_answer, transfer_as_the_cycle_ends, answer_without_a_cycle}
use Rattle.vme_eval.specs.Cycles.{read_modify_write, write_then_read, block_read, block_turns}
use Rattle.vme_eval.specs.Cycles.{free_cycle_reads_writes_and_reads}
use Rattle.vme_eval.specs.HeldLines.{address_changes_early, address_changes_with_answer, unneeded_line_changes}
use Rattle.vme_eval.specs.HeldLines.{address_changes_as_the_cycle_ends, address_changes_after_an_answer_at_the_start}
use Rattle.vme_eval.specs.HeldLines.{address_lost_as_the_cycle_starts, address_known_as_the_cycle_starts}
use Rattle.vme_eval.specs.HeldLines.{direction_unknown, direction_known_as_the_transfer_starts}
use Rattle.vme_eval.specs.HeldLines.{direction_changes_as_the_transfer_starts, direction_changes}
use Rattle.vme_eval.specs.HeldLines.{direction_changes_as_a_strobe_rises}
use Rattle.vme_eval.specs.WriteData.{data_unknown, data_change, unmoved_data_unknown, data_of_a_read}
use Rattle.vme_eval.specs.WriteData.{data_change_with_the_answer, second_byte_changes, unmoved_data_change}
use Rattle.vme_eval.specs.Grants.{slot_grants_ungranted, slot_grants_with_its_input, slot_grants_as_its_input_rises}
use Rattle.vme_eval.specs.Grants.{slot_ends_its_grant_early, slot_ends_its_grant_as_its_input_falls}
use Rattle.vme_eval.specs.Grants.{second_level_granted, another_level_granted_as_the_first_ends, grant_while_busy}
use Rattle.vme_eval.specs.Grants.{grant_falls_as_the_bus_is_let_go, grant_unasked, request_with_the_grant}
use Rattle.vme_eval.specs.Grants.{request_low_at_the_start, request_of_the_grant_before_serves_again, grant_withdrawn}
use Rattle.vme_eval.specs.Tenures.{taken_by_the_last_slot, grant_read_at_the_instant_before}
use Rattle.vme_eval.specs.Tenures.{slot_read_as_the_bus_is_taken, another_levels_grant_taken, bus_taken_ungranted}
use Rattle.vme_eval.specs.Tenures.{grant_taken_twice, cycle_without_the_bus, cycle_starts_as_the_bus_is_taken}
use Rattle.vme_eval.specs.Tenures.{cycle_starts_as_the_bus_is_let_go, grant_past_last_slot}
use Rattle.vme_eval.specs.Acknowledges.{acknowledge_skips_slot, acknowledge_with_its_input}
use Rattle.vme_eval.specs.Acknowledges.{acknowledge_as_its_input_rises, acknowledge_before_strobe}
use Rattle.vme_eval.specs.Acknowledges.{acknowledge_by_the_second_strobe, acknowledge_as_the_strobe_rises}
use Rattle.vme_eval.specs.Acknowledges.{acknowledge_near_a_strobe_and_near_the_cycle, acknowledge_after_answer}
use Rattle.vme_eval.specs.Acknowledges.{acknowledge_with_the_answer, acknowledge_after_a_bus_error}
use Rattle.vme_eval.specs.Acknowledges.{acknowledge_as_the_next_cycle_starts, acknowledge_write}
use Rattle.vme_eval.specs.Acknowledges.{acknowledge_is_a_read_from_its_start, acknowledged_twice}

-- a recording that breaks the rule
abbrev pub example : Rule → Trace
example U1 = strobe_lost_at_once.trace
example U2 = address_lost_as_the_cycle_starts.trace
example U3 = direction_unknown.trace
example U4 = data_unknown.trace
example H1 = starts_before_the_answer_rose.trace
example H2 = strobes_rise_early.trace
example H3 = strobe_falls_after_the_answer.trace
example H4 = stray_answer.trace
example H5 = answered_again_by_the_same_line.trace
example H6 = answer_withdrawn_early.trace
example H7 = cycle_ends_unanswered.trace
example H8 = answer_without_a_cycle.trace
example S1 = address_changes_early.trace
example S2 = direction_changes.trace
example S3 = data_change.trace
example C1 = write_then_read.trace
example C2 = block_turns.trace
example G1 = slot_grants_ungranted.trace
example G2 = slot_ends_its_grant_early.trace
example G3 = second_level_granted.trace
example G4 = grant_while_busy.trace
example G5 = grant_unasked.trace
example B1 = bus_taken_ungranted.trace
example B2 = grant_taken_twice.trace
example B3 = cycle_without_the_bus.trace
example B4 = grant_past_last_slot.trace
example I1 = acknowledge_skips_slot.trace
example I2 = acknowledge_before_strobe.trace
example I3 = acknowledge_after_answer.trace
example I4 = acknowledge_write.trace
example I5 = acknowledged_twice.trace

-- the recordings nearest to breaking the rule that conform
abbrev pub nearest : Rule → List Trace
nearest U1 =
    address_lost_between_cycles.trace ∷ answer_low_before_judging.trace ∷ strobe_lost_with_the_reset.trace ∷ []
nearest U2 = address_known_as_the_cycle_starts.trace ∷ read_cycle.trace ∷ []
nearest U3 = direction_known_as_the_transfer_starts.trace ∷ []
nearest U4 = unmoved_data_unknown.trace ∷ data_of_a_read.trace ∷ []
nearest H1 = answer_rises_as_the_next_transfer_starts.trace ∷ []
nearest H2 = strobes_rise_with_answer.trace ∷ []
nearest H3 = strobe_falls_with_the_answer.trace ∷ second_strobe_falls_before_the_answer.trace ∷ []
nearest H4 = answered_at_its_first_instant.trace ∷ strobes_rise_with_answer.trace ∷ []
nearest H5 = answer_rises_as_the_next_transfer_starts.trace ∷ bus_error.trace ∷ []
nearest H6 = answer_rises_with_the_strobes.trace ∷ []
nearest H7 = cycle_ends_with_the_answer.trace ∷ transfer_as_the_cycle_ends.trace ∷ []
nearest H8 = address_changes_after_an_answer_at_the_start.trace ∷ transfer_as_the_cycle_ends.trace ∷ []
nearest S1 =
    address_changes_with_answer.trace
    ∷ address_changes_as_the_cycle_ends.trace
    ∷ address_changes_after_an_answer_at_the_start.trace
    ∷ unneeded_line_changes.trace
    ∷ []
nearest S2 = direction_changes_as_a_strobe_rises.trace ∷ direction_changes_as_the_transfer_starts.trace ∷ []
nearest S3 = data_change_with_the_answer.trace ∷ second_byte_changes.trace ∷ unmoved_data_change.trace ∷ []
nearest C1 = read_modify_write.trace ∷ free_cycle_reads_writes_and_reads.trace ∷ []
nearest C2 = block_read.trace ∷ free_cycle_reads_writes_and_reads.trace ∷ []
nearest G1 = slot_grants_with_its_input.trace ∷ slot_grants_as_its_input_rises.trace ∷ []
nearest G2 = slot_ends_its_grant_as_its_input_falls.trace ∷ []
nearest G3 = another_level_granted_as_the_first_ends.trace ∷ another_levels_grant_taken.trace ∷ []
nearest G4 = grant_falls_as_the_bus_is_let_go.trace ∷ slot_read_as_the_bus_is_taken.trace ∷ []
nearest G5 =
    request_with_the_grant.trace
    ∷ request_low_at_the_start.trace
    ∷ request_of_the_grant_before_serves_again.trace
    ∷ []
nearest B1 = grant_read_at_the_instant_before.trace ∷ another_levels_grant_taken.trace ∷ []
nearest B2 = grant_falls_as_the_bus_is_let_go.trace ∷ another_level_granted_as_the_first_ends.trace ∷ []
nearest B3 = cycle_starts_as_the_bus_is_taken.trace ∷ cycle_starts_as_the_bus_is_let_go.trace ∷ []
nearest B4 = taken_by_the_last_slot.trace ∷ grant_withdrawn.trace ∷ []
nearest I1 = acknowledge_with_its_input.trace ∷ acknowledge_as_its_input_rises.trace ∷ []
nearest I2 =
    acknowledge_as_the_strobe_rises.trace
    ∷ acknowledge_near_a_strobe_and_near_the_cycle.trace
    ∷ acknowledge_by_the_second_strobe.trace
    ∷ []
nearest I3 =
    acknowledge_with_the_answer.trace
    ∷ acknowledge_after_a_bus_error.trace
    ∷ acknowledge_as_the_next_cycle_starts.trace
    ∷ []
nearest I4 = acknowledge_is_a_read_from_its_start.trace ∷ []
nearest I5 = acknowledge_near_a_strobe_and_near_the_cycle.trace ∷ []

-- the rule that a verdict names
abbrev pub named_rule : Verdict → Option Rule
named_rule Conforming = None
named_rule NeverIdle = None
named_rule (Broken b) = Some b.rule
named_rule (Unreadable b) = Some b.rule

-- the verdict is that the recording is unreadable
abbrev pub says_unreadable : Verdict → Bool
says_unreadable Conforming = false
says_unreadable NeverIdle = false
says_unreadable (Broken b) = false
says_unreadable (Unreadable b) = true

-- the verdict on the recording is that it conforms
abbrev pub Conforms : Trace → Type 0
Conforms t = verdict t ≡ Conforming

-- the verdict on the example names the rule, unreadable if the rule says so and else broken; the recordings nearest to
-- it conform
pub record IsShown (r : Rule) : Type 0 where
  pub rule : named_rule (verdict (example r)) ≡ Some r
  pub unreadable : says_unreadable (verdict (example r)) ≡ is_unreadable r
  pub some : 1 ≤ length (nearest r)
  pub spared : All Conforms (nearest r)
