-- Each recording of `asking` asks, by the definitions, the rules that stand beside it: computed. The lemma
-- `NAME_agrees` says so of the recording NAME.
use Rattle.std.proofs.Common.{refl}
use Rattle.std.proofs.lemmas.List.Elements.{All-from_recursion}
use Rattle.std.specs.Prelude.{All}
use Rattle.vme_eval.proofs.Everything.{everything}
use Rattle.vme_eval.proofs.Facts.{◌&◌}
use Rattle.vme_audit_eval.proofs.Computing.{asked}
use Rattle.vme_audit_eval.specs.Audited.{AskingAgrees}
use Rattle.vme_audit_eval.specs.Asking.{never_idle, idle, strobe_rises_at_the_start, cycle_starts, cycle_ends}
use Rattle.vme_audit_eval.specs.Asking.{cycle_starts_with_a_reset, cycle_starts_after_a_reset, transfer_starts}
use Rattle.vme_audit_eval.specs.Asking.{transfer_starts_by_both, write_starts, write_after_a_read_starts, strobe_rises}
use Rattle.vme_audit_eval.specs.Asking.{second_strobe_rises, second_strobe_falls, answer_falls, bus_error_falls}
use Rattle.vme_audit_eval.specs.Asking.{answer_falls_with_a_reset, answer_rises_at_the_start}
use Rattle.vme_audit_eval.specs.Asking.{cycle_starts_after_a_break, cycle_starts_in_the_next_part}
use Rattle.vme_audit_eval.specs.Asking.{transfer_is_answered, answer_rises, bus_error_rises, two_of_a_single_cycle}
use Rattle.vme_audit_eval.specs.Asking.{two_of_a_block_cycle, two_of_a_free_cycle, two_of_an_acknowledge_cycle}
use Rattle.vme_audit_eval.specs.Asking.{one_of_a_block_cycle, one_of_an_acknowledge_cycle, unanswered_acknowledge}
use Rattle.vme_audit_eval.specs.Asking.{two_of_two_cycles, level_is_requested, level_is_granted, grant_is_passed_on}
use Rattle.vme_audit_eval.specs.Asking.{arbiter_ends_its_grant, slot_ends_its_grant, slot_grants, bus_is_taken}
use Rattle.vme_audit_eval.specs.Asking.{bus_is_let_go, slot_acknowledges, last_slot_acknowledges}
use Rattle.vme_audit_eval.specs.Asking.{acknowledge_is_asked_for, asking}

pub never_idle_agrees : AskingAgrees never_idle
unfolding everything asked never_idle
never_idle_agrees = record { well_formed = refl; asked = refl }

pub idle_agrees : AskingAgrees idle
unfolding everything asked idle
idle_agrees = record { well_formed = refl; asked = refl }

pub strobe_rises_at_the_start_agrees : AskingAgrees strobe_rises_at_the_start
unfolding everything asked strobe_rises_at_the_start
strobe_rises_at_the_start_agrees = record { well_formed = refl; asked = refl }

pub cycle_starts_agrees : AskingAgrees cycle_starts
unfolding everything asked cycle_starts
cycle_starts_agrees = record { well_formed = refl; asked = refl }

pub cycle_ends_agrees : AskingAgrees cycle_ends
unfolding everything asked cycle_ends
cycle_ends_agrees = record { well_formed = refl; asked = refl }

pub cycle_starts_with_a_reset_agrees : AskingAgrees cycle_starts_with_a_reset
unfolding everything asked cycle_starts_with_a_reset
cycle_starts_with_a_reset_agrees = record { well_formed = refl; asked = refl }

pub cycle_starts_after_a_reset_agrees : AskingAgrees cycle_starts_after_a_reset
unfolding everything asked cycle_starts_after_a_reset
cycle_starts_after_a_reset_agrees = record { well_formed = refl; asked = refl }

pub transfer_starts_agrees : AskingAgrees transfer_starts
unfolding everything asked transfer_starts
transfer_starts_agrees = record { well_formed = refl; asked = refl }

pub transfer_starts_by_both_agrees : AskingAgrees transfer_starts_by_both
unfolding everything asked transfer_starts_by_both
transfer_starts_by_both_agrees = record { well_formed = refl; asked = refl }

pub write_starts_agrees : AskingAgrees write_starts
unfolding everything asked write_starts
write_starts_agrees = record { well_formed = refl; asked = refl }

pub write_after_a_read_starts_agrees : AskingAgrees write_after_a_read_starts
unfolding everything asked write_after_a_read_starts
write_after_a_read_starts_agrees = record { well_formed = refl; asked = refl }

pub strobe_rises_agrees : AskingAgrees strobe_rises
unfolding everything asked strobe_rises
strobe_rises_agrees = record { well_formed = refl; asked = refl }

pub second_strobe_rises_agrees : AskingAgrees second_strobe_rises
unfolding everything asked second_strobe_rises
second_strobe_rises_agrees = record { well_formed = refl; asked = refl }

pub second_strobe_falls_agrees : AskingAgrees second_strobe_falls
unfolding everything asked second_strobe_falls
second_strobe_falls_agrees = record { well_formed = refl; asked = refl }

pub answer_falls_agrees : AskingAgrees answer_falls
unfolding everything asked answer_falls
answer_falls_agrees = record { well_formed = refl; asked = refl }

pub bus_error_falls_agrees : AskingAgrees bus_error_falls
unfolding everything asked bus_error_falls
bus_error_falls_agrees = record { well_formed = refl; asked = refl }

pub answer_falls_with_a_reset_agrees : AskingAgrees answer_falls_with_a_reset
unfolding everything asked answer_falls_with_a_reset
answer_falls_with_a_reset_agrees = record { well_formed = refl; asked = refl }

pub answer_rises_at_the_start_agrees : AskingAgrees answer_rises_at_the_start
unfolding everything asked answer_rises_at_the_start
answer_rises_at_the_start_agrees = record { well_formed = refl; asked = refl }

pub cycle_starts_after_a_break_agrees : AskingAgrees cycle_starts_after_a_break
unfolding everything asked cycle_starts_after_a_break
cycle_starts_after_a_break_agrees = record { well_formed = refl; asked = refl }

pub cycle_starts_in_the_next_part_agrees : AskingAgrees cycle_starts_in_the_next_part
unfolding everything asked cycle_starts_in_the_next_part
cycle_starts_in_the_next_part_agrees = record { well_formed = refl; asked = refl }

pub transfer_is_answered_agrees : AskingAgrees transfer_is_answered
unfolding everything asked transfer_is_answered
transfer_is_answered_agrees = record { well_formed = refl; asked = refl }

pub answer_rises_agrees : AskingAgrees answer_rises
unfolding everything asked answer_rises
answer_rises_agrees = record { well_formed = refl; asked = refl }

pub bus_error_rises_agrees : AskingAgrees bus_error_rises
unfolding everything asked bus_error_rises
bus_error_rises_agrees = record { well_formed = refl; asked = refl }

pub two_of_a_single_cycle_agrees : AskingAgrees two_of_a_single_cycle
unfolding everything asked two_of_a_single_cycle
two_of_a_single_cycle_agrees = record { well_formed = refl; asked = refl }

pub two_of_a_block_cycle_agrees : AskingAgrees two_of_a_block_cycle
unfolding everything asked two_of_a_block_cycle
two_of_a_block_cycle_agrees = record { well_formed = refl; asked = refl }

pub two_of_a_free_cycle_agrees : AskingAgrees two_of_a_free_cycle
unfolding everything asked two_of_a_free_cycle
two_of_a_free_cycle_agrees = record { well_formed = refl; asked = refl }

pub two_of_an_acknowledge_cycle_agrees : AskingAgrees two_of_an_acknowledge_cycle
unfolding everything asked two_of_an_acknowledge_cycle
two_of_an_acknowledge_cycle_agrees = record { well_formed = refl; asked = refl }

pub one_of_a_block_cycle_agrees : AskingAgrees one_of_a_block_cycle
unfolding everything asked one_of_a_block_cycle
one_of_a_block_cycle_agrees = record { well_formed = refl; asked = refl }

pub one_of_an_acknowledge_cycle_agrees : AskingAgrees one_of_an_acknowledge_cycle
unfolding everything asked one_of_an_acknowledge_cycle
one_of_an_acknowledge_cycle_agrees = record { well_formed = refl; asked = refl }

pub unanswered_acknowledge_agrees : AskingAgrees unanswered_acknowledge
unfolding everything asked unanswered_acknowledge
unanswered_acknowledge_agrees = record { well_formed = refl; asked = refl }

pub two_of_two_cycles_agrees : AskingAgrees two_of_two_cycles
unfolding everything asked two_of_two_cycles
two_of_two_cycles_agrees = record { well_formed = refl; asked = refl }

pub level_is_requested_agrees : AskingAgrees level_is_requested
unfolding everything asked level_is_requested
level_is_requested_agrees = record { well_formed = refl; asked = refl }

pub level_is_granted_agrees : AskingAgrees level_is_granted
unfolding everything asked level_is_granted
level_is_granted_agrees = record { well_formed = refl; asked = refl }

pub grant_is_passed_on_agrees : AskingAgrees grant_is_passed_on
unfolding everything asked grant_is_passed_on
grant_is_passed_on_agrees = record { well_formed = refl; asked = refl }

pub arbiter_ends_its_grant_agrees : AskingAgrees arbiter_ends_its_grant
unfolding everything asked arbiter_ends_its_grant
arbiter_ends_its_grant_agrees = record { well_formed = refl; asked = refl }

pub slot_ends_its_grant_agrees : AskingAgrees slot_ends_its_grant
unfolding everything asked slot_ends_its_grant
slot_ends_its_grant_agrees = record { well_formed = refl; asked = refl }

pub slot_grants_agrees : AskingAgrees slot_grants
unfolding everything asked slot_grants
slot_grants_agrees = record { well_formed = refl; asked = refl }

pub bus_is_taken_agrees : AskingAgrees bus_is_taken
unfolding everything asked bus_is_taken
bus_is_taken_agrees = record { well_formed = refl; asked = refl }

pub bus_is_let_go_agrees : AskingAgrees bus_is_let_go
unfolding everything asked bus_is_let_go
bus_is_let_go_agrees = record { well_formed = refl; asked = refl }

pub slot_acknowledges_agrees : AskingAgrees slot_acknowledges
unfolding everything asked slot_acknowledges
slot_acknowledges_agrees = record { well_formed = refl; asked = refl }

pub last_slot_acknowledges_agrees : AskingAgrees last_slot_acknowledges
unfolding everything asked last_slot_acknowledges
last_slot_acknowledges_agrees = record { well_formed = refl; asked = refl }

pub acknowledge_is_asked_for_agrees : AskingAgrees acknowledge_is_asked_for
unfolding everything asked acknowledge_is_asked_for
acknowledge_is_asked_for_agrees = record { well_formed = refl; asked = refl }

-- each recording of `asking` is well formed, and asks the rules that stand beside it
pub asking_agrees : All AskingAgrees asking
asking_agrees = All-from_recursion AskingAgrees asking
    (never_idle_agrees & idle_agrees & strobe_rises_at_the_start_agrees & cycle_starts_agrees & cycle_ends_agrees
    & cycle_starts_with_a_reset_agrees & cycle_starts_after_a_reset_agrees & transfer_starts_agrees
    & transfer_starts_by_both_agrees & write_starts_agrees & write_after_a_read_starts_agrees & strobe_rises_agrees
    & second_strobe_rises_agrees & second_strobe_falls_agrees & answer_falls_agrees & bus_error_falls_agrees
    & answer_falls_with_a_reset_agrees & answer_rises_at_the_start_agrees & cycle_starts_after_a_break_agrees
    & cycle_starts_in_the_next_part_agrees & transfer_is_answered_agrees & answer_rises_agrees & bus_error_rises_agrees
    & two_of_a_single_cycle_agrees & two_of_a_block_cycle_agrees & two_of_a_free_cycle_agrees
    & two_of_an_acknowledge_cycle_agrees & one_of_a_block_cycle_agrees & one_of_an_acknowledge_cycle_agrees
    & unanswered_acknowledge_agrees & two_of_two_cycles_agrees & level_is_requested_agrees & level_is_granted_agrees
    & grant_is_passed_on_agrees & arbiter_ends_its_grant_agrees & slot_ends_its_grant_agrees & slot_grants_agrees
    & bus_is_taken_agrees & bus_is_let_go_agrees & slot_acknowledges_agrees & last_slot_acknowledges_agrees
    & acknowledge_is_asked_for_agrees & tt)
