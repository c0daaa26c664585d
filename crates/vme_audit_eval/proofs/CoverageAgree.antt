-- The audit of each recording of `coverage` has, by the definitions, the results that stand beside it: computed. The
-- lemma `NAME_agrees` says so of the recording NAME.
use Rattle.std.proofs.Common.{refl}
use Rattle.std.proofs.lemmas.List.Elements.{All-from_recursion}
use Rattle.std.specs.Prelude.{All}
use Rattle.vme_eval.proofs.Everything.{everything, rows}
use Rattle.vme_eval.proofs.Facts.{◌&◌}
use Rattle.vme_audit_eval.proofs.Computing.{audits, computed}
use Rattle.vme_audit_eval.specs.Audited.{AuditAgrees}
use Rattle.vme_audit_eval.specs.Coverage.{nothing_known, idle_and_nothing_wanted, idle_and_one_wanted, read_in_a_tenure}
use Rattle.vme_audit_eval.specs.Coverage.{one_answer_of_two, tenure_cut_off, bus_error_to_a_write, free_cycles}
use Rattle.vme_audit_eval.specs.Coverage.{interrupt_acknowledge, bus_hangs, bus_hangs_and_one_wanted}
use Rattle.vme_audit_eval.specs.Coverage.{hang_that_is_reset}
use Rattle.vme_audit_eval.specs.Coverage.{hang_after_a_reset, hang_after_a_break, transfer_cut_off}
use Rattle.vme_audit_eval.specs.Coverage.{broken_and_not_covered, unreadable_and_not_covered, never_idle_and_one_wanted}
use Rattle.vme_audit_eval.specs.Coverage.{stopped_at_the_first, stopped_at_the_second, stopped_nowhere, coverage}
use Rattle.vme_audit_eval.specs.Breaks.{two_stray_answers, break_in_the_last_step, nothing_judged_while_lost}

pub nothing_known_agrees : AuditAgrees nothing_known
unfolding everything rows audits nothing_known
nothing_known_agrees = computed nothing_known refl refl refl refl refl

pub idle_and_nothing_wanted_agrees : AuditAgrees idle_and_nothing_wanted
unfolding everything rows audits idle_and_nothing_wanted
idle_and_nothing_wanted_agrees = computed idle_and_nothing_wanted refl refl refl refl refl

pub idle_and_one_wanted_agrees : AuditAgrees idle_and_one_wanted
unfolding everything rows audits idle_and_one_wanted idle_and_nothing_wanted
idle_and_one_wanted_agrees = computed idle_and_one_wanted refl refl refl refl refl

pub read_in_a_tenure_agrees : AuditAgrees read_in_a_tenure
unfolding everything rows audits read_in_a_tenure
read_in_a_tenure_agrees = computed read_in_a_tenure refl refl refl refl refl

pub one_answer_of_two_agrees : AuditAgrees one_answer_of_two
unfolding everything rows audits one_answer_of_two read_in_a_tenure
one_answer_of_two_agrees = computed one_answer_of_two refl refl refl refl refl

pub tenure_cut_off_agrees : AuditAgrees tenure_cut_off
unfolding everything rows audits tenure_cut_off
tenure_cut_off_agrees = computed tenure_cut_off refl refl refl refl refl

pub bus_error_to_a_write_agrees : AuditAgrees bus_error_to_a_write
unfolding everything rows audits bus_error_to_a_write
bus_error_to_a_write_agrees = computed bus_error_to_a_write refl refl refl refl refl

pub free_cycles_agrees : AuditAgrees free_cycles
unfolding everything rows audits free_cycles
free_cycles_agrees = computed free_cycles refl refl refl refl refl

pub interrupt_acknowledge_agrees : AuditAgrees interrupt_acknowledge
unfolding everything rows audits interrupt_acknowledge
interrupt_acknowledge_agrees = computed interrupt_acknowledge refl refl refl refl refl

pub bus_hangs_agrees : AuditAgrees bus_hangs
unfolding everything rows audits bus_hangs
bus_hangs_agrees = computed bus_hangs refl refl refl refl refl

pub bus_hangs_and_one_wanted_agrees : AuditAgrees bus_hangs_and_one_wanted
unfolding everything rows audits bus_hangs_and_one_wanted bus_hangs
bus_hangs_and_one_wanted_agrees = computed bus_hangs_and_one_wanted refl refl refl refl refl

pub hang_that_is_reset_agrees : AuditAgrees hang_that_is_reset
unfolding everything rows audits hang_that_is_reset bus_hangs
hang_that_is_reset_agrees = computed hang_that_is_reset refl refl refl refl refl

pub hang_after_a_reset_agrees : AuditAgrees hang_after_a_reset
unfolding everything rows audits hang_after_a_reset
hang_after_a_reset_agrees = computed hang_after_a_reset refl refl refl refl refl

pub hang_after_a_break_agrees : AuditAgrees hang_after_a_break
unfolding everything rows audits hang_after_a_break
hang_after_a_break_agrees = computed hang_after_a_break refl refl refl refl refl

pub transfer_cut_off_agrees : AuditAgrees transfer_cut_off
unfolding everything rows audits transfer_cut_off
transfer_cut_off_agrees = computed transfer_cut_off refl refl refl refl refl

pub broken_and_not_covered_agrees : AuditAgrees broken_and_not_covered
unfolding everything rows audits broken_and_not_covered break_in_the_last_step
broken_and_not_covered_agrees = computed broken_and_not_covered refl refl refl refl refl

pub unreadable_and_not_covered_agrees : AuditAgrees unreadable_and_not_covered
unfolding everything rows audits unreadable_and_not_covered nothing_judged_while_lost
unreadable_and_not_covered_agrees = computed unreadable_and_not_covered refl refl refl refl refl

pub never_idle_and_one_wanted_agrees : AuditAgrees never_idle_and_one_wanted
unfolding everything rows audits never_idle_and_one_wanted break_in_the_last_step
never_idle_and_one_wanted_agrees = computed never_idle_and_one_wanted refl refl refl refl refl

pub stopped_at_the_first_agrees : AuditAgrees stopped_at_the_first
unfolding everything rows audits stopped_at_the_first two_stray_answers
stopped_at_the_first_agrees = computed stopped_at_the_first refl refl refl refl refl

pub stopped_at_the_second_agrees : AuditAgrees stopped_at_the_second
unfolding everything rows audits stopped_at_the_second two_stray_answers
stopped_at_the_second_agrees = computed stopped_at_the_second refl refl refl refl refl

pub stopped_nowhere_agrees : AuditAgrees stopped_nowhere
unfolding everything rows audits stopped_nowhere two_stray_answers
stopped_nowhere_agrees = computed stopped_nowhere refl refl refl refl refl

-- each recording of `coverage` is well formed, and its audit has the starts, breaks, counts and outcome that stand
-- beside it
pub coverage_agrees : All AuditAgrees coverage
coverage_agrees = All-from_recursion AuditAgrees coverage
    (nothing_known_agrees & idle_and_nothing_wanted_agrees & idle_and_one_wanted_agrees & read_in_a_tenure_agrees
    & one_answer_of_two_agrees & tenure_cut_off_agrees & bus_error_to_a_write_agrees & free_cycles_agrees
    & interrupt_acknowledge_agrees & bus_hangs_agrees & bus_hangs_and_one_wanted_agrees & hang_that_is_reset_agrees
    & hang_after_a_reset_agrees & hang_after_a_break_agrees & transfer_cut_off_agrees & broken_and_not_covered_agrees
    & unreadable_and_not_covered_agrees & never_idle_and_one_wanted_agrees & stopped_at_the_first_agrees
    & stopped_at_the_second_agrees & stopped_nowhere_agrees & tt)
