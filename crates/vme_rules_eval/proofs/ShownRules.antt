-- Each rule is shown by its example and the recordings nearest to that.
use Rattle.std.proofs.Common.{ap, arith, refl, ◌∙◌}
use Rattle.std.proofs.lemmas.List.Elements.{All-from_recursion}
use Rattle.std.specs.List.{AllByRecursion}
use Rattle.std.specs.Prelude.{◌≡◌, ◌≤◌, length, Some}
use Rattle.vme_trace.specs.Rules.{is_unreadable}
use Rattle.vme_trace.specs.Verdict.{verdict}
use Rattle.vme_trace.specs.declared.rule.Rule.{Rule}
use Rattle.vme_trace.specs.declared.rule.Rule.TheVariants.{U1, U2, U3, U4, H1, H2, H3, H4, H5, H6, H7, H8, S1, S2, S3}
use Rattle.vme_trace.specs.declared.rule.Rule.TheVariants.{C1, C2, G1, G2, G3, G4, G5, B1, B2, B3, B4, I1, I2, I3, I4}
use Rattle.vme_trace.specs.declared.rule.Rule.TheVariants.{I5}
use Rattle.vme_trace.specs.declared.verdict.Verdict.{Verdict}
use Rattle.vme_eval.proofs.Facts.{◌&◌}
use Rattle.vme_eval.specs.Examples.{Conforms, IsShown, example, named_rule, nearest, says_unreadable}
use Rattle.vme_eval.specs.Dumps.{strobe_lost_at_once, answer_low_before_judging, address_lost_between_cycles}
use Rattle.vme_judging_eval.proofs.DumpsAgree.{strobe_lost_at_once_agrees, answer_low_before_judging_agrees}
use Rattle.vme_judging_eval.proofs.DumpsAgree.{address_lost_between_cycles_agrees}
use Rattle.vme_eval.specs.Resets.{strobe_lost_with_the_reset}
use Rattle.vme_judging_eval.proofs.ResetsAgree.{strobe_lost_with_the_reset_agrees}
use Rattle.vme_eval.specs.Transfers.{read_cycle, bus_error, starts_before_the_answer_rose}
use Rattle.vme_eval.specs.Transfers.{answer_rises_as_the_next_transfer_starts, strobes_rise_early}
use Rattle.vme_eval.specs.Transfers.{strobes_rise_with_answer, strobe_falls_after_the_answer}
use Rattle.vme_eval.specs.Transfers.{strobe_falls_with_the_answer, second_strobe_falls_before_the_answer, stray_answer}
use Rattle.vme_eval.specs.Transfers.{answered_at_its_first_instant, answered_again_by_the_same_line}
use Rattle.vme_eval.specs.Transfers.{answer_withdrawn_early, answer_rises_with_the_strobes, cycle_ends_unanswered}
use Rattle.vme_eval.specs.Transfers.{cycle_ends_with_the_answer, transfer_as_the_cycle_ends, answer_without_a_cycle}
use Rattle.vme_transfers_eval.proofs.TransfersAgree.{read_cycle_agrees, bus_error_agrees}
use Rattle.vme_transfers_eval.proofs.TransfersAgree.{starts_before_the_answer_rose_agrees}
use Rattle.vme_transfers_eval.proofs.TransfersAgree.{answer_rises_as_the_next_transfer_starts_agrees}
use Rattle.vme_transfers_eval.proofs.TransfersAgree.{strobes_rise_early_agrees, strobes_rise_with_answer_agrees}
use Rattle.vme_transfers_eval.proofs.TransfersAgree.{strobe_falls_after_the_answer_agrees}
use Rattle.vme_transfers_eval.proofs.TransfersAgree.{strobe_falls_with_the_answer_agrees}
use Rattle.vme_transfers_eval.proofs.TransfersAgree.{second_strobe_falls_before_the_answer_agrees, stray_answer_agrees}
use Rattle.vme_transfers_eval.proofs.TransfersAgree.{answered_at_its_first_instant_agrees}
use Rattle.vme_transfers_eval.proofs.TransfersAgree.{answered_again_by_the_same_line_agrees}
use Rattle.vme_transfers_eval.proofs.TransfersAgree.{answer_withdrawn_early_agrees}
use Rattle.vme_transfers_eval.proofs.TransfersAgree.{answer_rises_with_the_strobes_agrees, cycle_ends_unanswered_agrees}
use Rattle.vme_transfers_eval.proofs.TransfersAgree.{cycle_ends_with_the_answer_agrees}
use Rattle.vme_transfers_eval.proofs.TransfersAgree.{transfer_as_the_cycle_ends_agrees, answer_without_a_cycle_agrees}
use Rattle.vme_eval.specs.Cycles.{read_modify_write, write_then_read, block_read, block_turns}
use Rattle.vme_eval.specs.Cycles.{free_cycle_reads_writes_and_reads}
use Rattle.vme_transfers_eval.proofs.CyclesAgree.{read_modify_write_agrees, write_then_read_agrees, block_read_agrees}
use Rattle.vme_transfers_eval.proofs.CyclesAgree.{block_turns_agrees, free_cycle_reads_writes_and_reads_agrees}
use Rattle.vme_eval.specs.HeldLines.{address_changes_early, address_changes_with_answer, unneeded_line_changes}
use Rattle.vme_eval.specs.HeldLines.{address_changes_as_the_cycle_ends, address_changes_after_an_answer_at_the_start}
use Rattle.vme_eval.specs.HeldLines.{address_lost_as_the_cycle_starts, address_known_as_the_cycle_starts}
use Rattle.vme_eval.specs.HeldLines.{direction_unknown, direction_known_as_the_transfer_starts}
use Rattle.vme_eval.specs.HeldLines.{direction_changes_as_the_transfer_starts, direction_changes}
use Rattle.vme_eval.specs.HeldLines.{direction_changes_as_a_strobe_rises}
use Rattle.vme_stability_eval.proofs.HeldLinesAgree.{address_changes_early_agrees, address_changes_with_answer_agrees}
use Rattle.vme_stability_eval.proofs.HeldLinesAgree.{unneeded_line_changes_agrees}
use Rattle.vme_stability_eval.proofs.HeldLinesAgree.{address_changes_as_the_cycle_ends_agrees}
use Rattle.vme_stability_eval.proofs.HeldLinesAgree.{address_changes_after_an_answer_at_the_start_agrees}
use Rattle.vme_stability_eval.proofs.HeldLinesAgree.{address_lost_as_the_cycle_starts_agrees}
use Rattle.vme_stability_eval.proofs.HeldLinesAgree.{address_known_as_the_cycle_starts_agrees, direction_unknown_agrees}
use Rattle.vme_stability_eval.proofs.HeldLinesAgree.{direction_known_as_the_transfer_starts_agrees}
use Rattle.vme_stability_eval.proofs.HeldLinesAgree.{direction_changes_as_the_transfer_starts_agrees}
use Rattle.vme_stability_eval.proofs.HeldLinesAgree.{direction_changes_agrees}
use Rattle.vme_stability_eval.proofs.HeldLinesAgree.{direction_changes_as_a_strobe_rises_agrees}
use Rattle.vme_eval.specs.WriteData.{data_unknown, data_change, unmoved_data_unknown, data_of_a_read}
use Rattle.vme_eval.specs.WriteData.{data_change_with_the_answer, second_byte_changes, unmoved_data_change}
use Rattle.vme_stability_eval.proofs.WriteDataAgree.{data_unknown_agrees, data_change_agrees}
use Rattle.vme_stability_eval.proofs.WriteDataAgree.{unmoved_data_unknown_agrees, data_of_a_read_agrees}
use Rattle.vme_stability_eval.proofs.WriteDataAgree.{data_change_with_the_answer_agrees, second_byte_changes_agrees}
use Rattle.vme_stability_eval.proofs.WriteDataAgree.{unmoved_data_change_agrees}
use Rattle.vme_eval.specs.Grants.{slot_grants_ungranted, slot_grants_with_its_input, slot_grants_as_its_input_rises}
use Rattle.vme_eval.specs.Grants.{slot_ends_its_grant_early, slot_ends_its_grant_as_its_input_falls}
use Rattle.vme_eval.specs.Grants.{second_level_granted, another_level_granted_as_the_first_ends, grant_while_busy}
use Rattle.vme_eval.specs.Grants.{grant_falls_as_the_bus_is_let_go, grant_unasked, request_with_the_grant}
use Rattle.vme_eval.specs.Grants.{request_low_at_the_start, request_of_the_grant_before_serves_again, grant_withdrawn}
use Rattle.vme_chains_eval.proofs.GrantsAgree.{slot_grants_ungranted_agrees, slot_grants_with_its_input_agrees}
use Rattle.vme_chains_eval.proofs.GrantsAgree.{slot_grants_as_its_input_rises_agrees, slot_ends_its_grant_early_agrees}
use Rattle.vme_chains_eval.proofs.GrantsAgree.{slot_ends_its_grant_as_its_input_falls_agrees}
use Rattle.vme_chains_eval.proofs.GrantsAgree.{second_level_granted_agrees}
use Rattle.vme_chains_eval.proofs.GrantsAgree.{another_level_granted_as_the_first_ends_agrees, grant_while_busy_agrees}
use Rattle.vme_chains_eval.proofs.GrantsAgree.{grant_falls_as_the_bus_is_let_go_agrees, grant_unasked_agrees}
use Rattle.vme_chains_eval.proofs.GrantsAgree.{request_with_the_grant_agrees, request_low_at_the_start_agrees}
use Rattle.vme_chains_eval.proofs.GrantsAgree.{request_of_the_grant_before_serves_again_agrees, grant_withdrawn_agrees}
use Rattle.vme_eval.specs.Tenures.{taken_by_the_last_slot, grant_read_at_the_instant_before}
use Rattle.vme_eval.specs.Tenures.{slot_read_as_the_bus_is_taken, another_levels_grant_taken, bus_taken_ungranted}
use Rattle.vme_eval.specs.Tenures.{grant_taken_twice, cycle_without_the_bus, cycle_starts_as_the_bus_is_taken}
use Rattle.vme_eval.specs.Tenures.{cycle_starts_as_the_bus_is_let_go, grant_past_last_slot}
use Rattle.vme_chains_eval.proofs.TenuresAgree.{taken_by_the_last_slot_agrees, grant_read_at_the_instant_before_agrees}
use Rattle.vme_chains_eval.proofs.TenuresAgree.{slot_read_as_the_bus_is_taken_agrees, another_levels_grant_taken_agrees}
use Rattle.vme_chains_eval.proofs.TenuresAgree.{bus_taken_ungranted_agrees, grant_taken_twice_agrees}
use Rattle.vme_chains_eval.proofs.TenuresAgree.{cycle_without_the_bus_agrees, cycle_starts_as_the_bus_is_taken_agrees}
use Rattle.vme_chains_eval.proofs.TenuresAgree.{cycle_starts_as_the_bus_is_let_go_agrees, grant_past_last_slot_agrees}
use Rattle.vme_eval.specs.Acknowledges.{acknowledge_skips_slot, acknowledge_with_its_input}
use Rattle.vme_eval.specs.Acknowledges.{acknowledge_as_its_input_rises, acknowledge_before_strobe}
use Rattle.vme_eval.specs.Acknowledges.{acknowledge_by_the_second_strobe, acknowledge_as_the_strobe_rises}
use Rattle.vme_eval.specs.Acknowledges.{acknowledge_near_a_strobe_and_near_the_cycle, acknowledge_after_answer}
use Rattle.vme_eval.specs.Acknowledges.{acknowledge_with_the_answer, acknowledge_after_a_bus_error}
use Rattle.vme_eval.specs.Acknowledges.{acknowledge_as_the_next_cycle_starts, acknowledge_write}
use Rattle.vme_eval.specs.Acknowledges.{acknowledge_is_a_read_from_its_start, acknowledged_twice}
use Rattle.vme_chains_eval.proofs.AcknowledgesAgree.{acknowledge_skips_slot_agrees, acknowledge_with_its_input_agrees}
use Rattle.vme_chains_eval.proofs.AcknowledgesAgree.{acknowledge_as_its_input_rises_agrees}
use Rattle.vme_chains_eval.proofs.AcknowledgesAgree.{acknowledge_before_strobe_agrees}
use Rattle.vme_chains_eval.proofs.AcknowledgesAgree.{acknowledge_by_the_second_strobe_agrees}
use Rattle.vme_chains_eval.proofs.AcknowledgesAgree.{acknowledge_as_the_strobe_rises_agrees}
use Rattle.vme_chains_eval.proofs.AcknowledgesAgree.{acknowledge_near_a_strobe_and_near_the_cycle_agrees}
use Rattle.vme_chains_eval.proofs.AcknowledgesAgree.{acknowledge_after_answer_agrees}
use Rattle.vme_chains_eval.proofs.AcknowledgesAgree.{acknowledge_with_the_answer_agrees}
use Rattle.vme_chains_eval.proofs.AcknowledgesAgree.{acknowledge_after_a_bus_error_agrees}
use Rattle.vme_chains_eval.proofs.AcknowledgesAgree.{acknowledge_as_the_next_cycle_starts_agrees}
use Rattle.vme_chains_eval.proofs.AcknowledgesAgree.{acknowledge_write_agrees}
use Rattle.vme_chains_eval.proofs.AcknowledgesAgree.{acknowledge_is_a_read_from_its_start_agrees}
use Rattle.vme_chains_eval.proofs.AcknowledgesAgree.{acknowledged_twice_agrees}

-- a rule is shown by the verdict on its example and by those on the recordings nearest to it
shown : (r : Rule) {v : Verdict} → verdict (example r) ≡ v → named_rule v ≡ Some r → says_unreadable v ≡ is_unreadable r
    → 1 ≤ length (nearest r) → AllByRecursion Conforms (nearest r) → IsShown r
shown r is rule unreadable some spared = record {
  rule = ap named_rule is ∙ rule;
  unreadable = ap says_unreadable is ∙ unreadable;
  some = some;
  spared = All-from_recursion Conforms (nearest r) spared;
}

U1_is_shown : IsShown U1
unfolding strobe_lost_at_once address_lost_between_cycles answer_low_before_judging strobe_lost_with_the_reset
U1_is_shown = shown U1 strobe_lost_at_once_agrees.verdict refl refl (omega arith)
    (address_lost_between_cycles_agrees.verdict & answer_low_before_judging_agrees.verdict
    & strobe_lost_with_the_reset_agrees.verdict & tt)

U2_is_shown : IsShown U2
unfolding address_lost_as_the_cycle_starts address_known_as_the_cycle_starts read_cycle
U2_is_shown = shown U2 address_lost_as_the_cycle_starts_agrees.verdict refl refl (omega arith)
    (address_known_as_the_cycle_starts_agrees.verdict & read_cycle_agrees.verdict & tt)

U3_is_shown : IsShown U3
unfolding direction_unknown direction_known_as_the_transfer_starts
U3_is_shown = shown U3 direction_unknown_agrees.verdict refl refl (omega arith)
    (direction_known_as_the_transfer_starts_agrees.verdict & tt)

U4_is_shown : IsShown U4
unfolding data_unknown unmoved_data_unknown data_of_a_read
U4_is_shown = shown U4 data_unknown_agrees.verdict refl refl (omega arith)
    (unmoved_data_unknown_agrees.verdict & data_of_a_read_agrees.verdict & tt)

H1_is_shown : IsShown H1
unfolding starts_before_the_answer_rose answer_rises_as_the_next_transfer_starts
H1_is_shown = shown H1 starts_before_the_answer_rose_agrees.verdict refl refl (omega arith)
    (answer_rises_as_the_next_transfer_starts_agrees.verdict & tt)

H2_is_shown : IsShown H2
unfolding strobes_rise_early strobes_rise_with_answer
H2_is_shown = shown H2 strobes_rise_early_agrees.verdict refl refl (omega arith)
    (strobes_rise_with_answer_agrees.verdict & tt)

H3_is_shown : IsShown H3
unfolding strobe_falls_after_the_answer strobe_falls_with_the_answer second_strobe_falls_before_the_answer
H3_is_shown = shown H3 strobe_falls_after_the_answer_agrees.verdict refl refl (omega arith)
    (strobe_falls_with_the_answer_agrees.verdict & second_strobe_falls_before_the_answer_agrees.verdict & tt)

H4_is_shown : IsShown H4
unfolding stray_answer answered_at_its_first_instant strobes_rise_with_answer
H4_is_shown = shown H4 stray_answer_agrees.verdict refl refl (omega arith)
    (answered_at_its_first_instant_agrees.verdict & strobes_rise_with_answer_agrees.verdict & tt)

H5_is_shown : IsShown H5
unfolding answered_again_by_the_same_line answer_rises_as_the_next_transfer_starts bus_error
H5_is_shown = shown H5 answered_again_by_the_same_line_agrees.verdict refl refl (omega arith)
    (answer_rises_as_the_next_transfer_starts_agrees.verdict & bus_error_agrees.verdict & tt)

H6_is_shown : IsShown H6
unfolding answer_withdrawn_early answer_rises_with_the_strobes
H6_is_shown = shown H6 answer_withdrawn_early_agrees.verdict refl refl (omega arith)
    (answer_rises_with_the_strobes_agrees.verdict & tt)

H7_is_shown : IsShown H7
unfolding cycle_ends_unanswered cycle_ends_with_the_answer transfer_as_the_cycle_ends
H7_is_shown = shown H7 cycle_ends_unanswered_agrees.verdict refl refl (omega arith)
    (cycle_ends_with_the_answer_agrees.verdict & transfer_as_the_cycle_ends_agrees.verdict & tt)

H8_is_shown : IsShown H8
unfolding answer_without_a_cycle address_changes_after_an_answer_at_the_start transfer_as_the_cycle_ends
H8_is_shown = shown H8 answer_without_a_cycle_agrees.verdict refl refl (omega arith)
    (address_changes_after_an_answer_at_the_start_agrees.verdict & transfer_as_the_cycle_ends_agrees.verdict & tt)

S1_is_shown : IsShown S1
unfolding address_changes_early address_changes_with_answer address_changes_as_the_cycle_ends
    address_changes_after_an_answer_at_the_start unneeded_line_changes
S1_is_shown = shown S1 address_changes_early_agrees.verdict refl refl (omega arith)
    (address_changes_with_answer_agrees.verdict & address_changes_as_the_cycle_ends_agrees.verdict
    & address_changes_after_an_answer_at_the_start_agrees.verdict & unneeded_line_changes_agrees.verdict & tt)

S2_is_shown : IsShown S2
unfolding direction_changes direction_changes_as_a_strobe_rises direction_changes_as_the_transfer_starts
S2_is_shown = shown S2 direction_changes_agrees.verdict refl refl (omega arith)
    (direction_changes_as_a_strobe_rises_agrees.verdict & direction_changes_as_the_transfer_starts_agrees.verdict & tt)

S3_is_shown : IsShown S3
unfolding data_change data_change_with_the_answer second_byte_changes unmoved_data_change
S3_is_shown = shown S3 data_change_agrees.verdict refl refl (omega arith)
    (data_change_with_the_answer_agrees.verdict & second_byte_changes_agrees.verdict
    & unmoved_data_change_agrees.verdict & tt)

C1_is_shown : IsShown C1
unfolding write_then_read read_modify_write free_cycle_reads_writes_and_reads
C1_is_shown = shown C1 write_then_read_agrees.verdict refl refl (omega arith)
    (read_modify_write_agrees.verdict & free_cycle_reads_writes_and_reads_agrees.verdict & tt)

C2_is_shown : IsShown C2
unfolding block_turns block_read free_cycle_reads_writes_and_reads
C2_is_shown = shown C2 block_turns_agrees.verdict refl refl (omega arith)
    (block_read_agrees.verdict & free_cycle_reads_writes_and_reads_agrees.verdict & tt)

G1_is_shown : IsShown G1
unfolding slot_grants_ungranted slot_grants_with_its_input slot_grants_as_its_input_rises
G1_is_shown = shown G1 slot_grants_ungranted_agrees.verdict refl refl (omega arith)
    (slot_grants_with_its_input_agrees.verdict & slot_grants_as_its_input_rises_agrees.verdict & tt)

G2_is_shown : IsShown G2
unfolding slot_ends_its_grant_early slot_ends_its_grant_as_its_input_falls
G2_is_shown = shown G2 slot_ends_its_grant_early_agrees.verdict refl refl (omega arith)
    (slot_ends_its_grant_as_its_input_falls_agrees.verdict & tt)

G3_is_shown : IsShown G3
unfolding second_level_granted another_level_granted_as_the_first_ends another_levels_grant_taken
G3_is_shown = shown G3 second_level_granted_agrees.verdict refl refl (omega arith)
    (another_level_granted_as_the_first_ends_agrees.verdict & another_levels_grant_taken_agrees.verdict & tt)

G4_is_shown : IsShown G4
unfolding grant_while_busy grant_falls_as_the_bus_is_let_go slot_read_as_the_bus_is_taken
G4_is_shown = shown G4 grant_while_busy_agrees.verdict refl refl (omega arith)
    (grant_falls_as_the_bus_is_let_go_agrees.verdict & slot_read_as_the_bus_is_taken_agrees.verdict & tt)

G5_is_shown : IsShown G5
unfolding grant_unasked request_with_the_grant request_low_at_the_start request_of_the_grant_before_serves_again
G5_is_shown = shown G5 grant_unasked_agrees.verdict refl refl (omega arith)
    (request_with_the_grant_agrees.verdict & request_low_at_the_start_agrees.verdict
    & request_of_the_grant_before_serves_again_agrees.verdict & tt)

B1_is_shown : IsShown B1
unfolding bus_taken_ungranted grant_read_at_the_instant_before another_levels_grant_taken
B1_is_shown = shown B1 bus_taken_ungranted_agrees.verdict refl refl (omega arith)
    (grant_read_at_the_instant_before_agrees.verdict & another_levels_grant_taken_agrees.verdict & tt)

B2_is_shown : IsShown B2
unfolding grant_taken_twice grant_falls_as_the_bus_is_let_go another_level_granted_as_the_first_ends
B2_is_shown = shown B2 grant_taken_twice_agrees.verdict refl refl (omega arith)
    (grant_falls_as_the_bus_is_let_go_agrees.verdict & another_level_granted_as_the_first_ends_agrees.verdict & tt)

B3_is_shown : IsShown B3
unfolding cycle_without_the_bus cycle_starts_as_the_bus_is_taken cycle_starts_as_the_bus_is_let_go
B3_is_shown = shown B3 cycle_without_the_bus_agrees.verdict refl refl (omega arith)
    (cycle_starts_as_the_bus_is_taken_agrees.verdict & cycle_starts_as_the_bus_is_let_go_agrees.verdict & tt)

B4_is_shown : IsShown B4
unfolding grant_past_last_slot taken_by_the_last_slot grant_withdrawn
B4_is_shown = shown B4 grant_past_last_slot_agrees.verdict refl refl (omega arith)
    (taken_by_the_last_slot_agrees.verdict & grant_withdrawn_agrees.verdict & tt)

I1_is_shown : IsShown I1
unfolding acknowledge_skips_slot acknowledge_with_its_input acknowledge_as_its_input_rises
I1_is_shown = shown I1 acknowledge_skips_slot_agrees.verdict refl refl (omega arith)
    (acknowledge_with_its_input_agrees.verdict & acknowledge_as_its_input_rises_agrees.verdict & tt)

I2_is_shown : IsShown I2
unfolding acknowledge_before_strobe acknowledge_as_the_strobe_rises acknowledge_near_a_strobe_and_near_the_cycle
    acknowledge_by_the_second_strobe
I2_is_shown = shown I2 acknowledge_before_strobe_agrees.verdict refl refl (omega arith)
    (acknowledge_as_the_strobe_rises_agrees.verdict & acknowledge_near_a_strobe_and_near_the_cycle_agrees.verdict
    & acknowledge_by_the_second_strobe_agrees.verdict & tt)

I3_is_shown : IsShown I3
unfolding acknowledge_after_answer acknowledge_with_the_answer acknowledge_after_a_bus_error
    acknowledge_as_the_next_cycle_starts
I3_is_shown = shown I3 acknowledge_after_answer_agrees.verdict refl refl (omega arith)
    (acknowledge_with_the_answer_agrees.verdict & acknowledge_after_a_bus_error_agrees.verdict
    & acknowledge_as_the_next_cycle_starts_agrees.verdict & tt)

I4_is_shown : IsShown I4
unfolding acknowledge_write acknowledge_is_a_read_from_its_start
I4_is_shown = shown I4 acknowledge_write_agrees.verdict refl refl (omega arith)
    (acknowledge_is_a_read_from_its_start_agrees.verdict & tt)

I5_is_shown : IsShown I5
unfolding acknowledged_twice acknowledge_near_a_strobe_and_near_the_cycle
I5_is_shown = shown I5 acknowledged_twice_agrees.verdict refl refl (omega arith)
    (acknowledge_near_a_strobe_and_near_the_cycle_agrees.verdict & tt)

-- `IsShown` holds of each rule
pub rule_is_shown : (r : Rule) → IsShown r
rule_is_shown U1 = U1_is_shown
rule_is_shown U2 = U2_is_shown
rule_is_shown U3 = U3_is_shown
rule_is_shown U4 = U4_is_shown
rule_is_shown H1 = H1_is_shown
rule_is_shown H2 = H2_is_shown
rule_is_shown H3 = H3_is_shown
rule_is_shown H4 = H4_is_shown
rule_is_shown H5 = H5_is_shown
rule_is_shown H6 = H6_is_shown
rule_is_shown H7 = H7_is_shown
rule_is_shown H8 = H8_is_shown
rule_is_shown S1 = S1_is_shown
rule_is_shown S2 = S2_is_shown
rule_is_shown S3 = S3_is_shown
rule_is_shown C1 = C1_is_shown
rule_is_shown C2 = C2_is_shown
rule_is_shown G1 = G1_is_shown
rule_is_shown G2 = G2_is_shown
rule_is_shown G3 = G3_is_shown
rule_is_shown G4 = G4_is_shown
rule_is_shown G5 = G5_is_shown
rule_is_shown B1 = B1_is_shown
rule_is_shown B2 = B2_is_shown
rule_is_shown B3 = B3_is_shown
rule_is_shown B4 = B4_is_shown
rule_is_shown I1 = I1_is_shown
rule_is_shown I2 = I2_is_shown
rule_is_shown I3 = I3_is_shown
rule_is_shown I4 = I4_is_shown
rule_is_shown I5 = I5_is_shown
