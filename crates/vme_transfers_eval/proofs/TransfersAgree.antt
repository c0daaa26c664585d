-- Each recording of `transfers` has, by the definitions, the verdict and the rows that stand beside it: computed.
use Rattle.std.proofs.Common.{refl}
use Rattle.std.proofs.lemmas.List.Elements.{All-from_recursion}
use Rattle.std.specs.Prelude.{All}
use Rattle.vme_eval.specs.Recording.{Agrees}
use Rattle.vme_eval.specs.Transfers.{transfers, read_cycle, read_cycle_from_idle, pipelined_cycles, bus_error}
use Rattle.vme_eval.specs.Transfers.{starts_before_the_answer_rose, answer_rises_as_the_next_transfer_starts}
use Rattle.vme_eval.specs.Transfers.{strobes_rise_early, strobes_rise_with_answer, one_strobe_rises_early}
use Rattle.vme_eval.specs.Transfers.{strobe_falls_after_the_answer, strobe_falls_with_the_answer}
use Rattle.vme_eval.specs.Transfers.{second_strobe_falls_before_the_answer, stray_answer, bus_error_to_nobody}
use Rattle.vme_eval.specs.Transfers.{answered_at_its_first_instant, answered_by_both_lines_in_turn}
use Rattle.vme_eval.specs.Transfers.{answered_by_both_lines_at_once, answered_again_by_the_same_line}
use Rattle.vme_eval.specs.Transfers.{answer_withdrawn_early, second_answer_withdrawn_early}
use Rattle.vme_eval.specs.Transfers.{answer_rises_with_the_strobes, cycle_ends_unanswered, cycle_ends_with_the_answer}
use Rattle.vme_eval.specs.Transfers.{transfer_as_the_cycle_ends, answer_without_a_cycle, strobe_before_the_cycle}
use Rattle.vme_eval.specs.Transfers.{transfer_between_two_cycles}
use Rattle.vme_eval.proofs.Everything.{everything, rows}
use Rattle.vme_eval.proofs.Facts.{◌&◌}

pub read_cycle_agrees : Agrees read_cycle
unfolding everything rows read_cycle
read_cycle_agrees = record { well_formed = refl; verdict = refl; rows = refl }

pub read_cycle_from_idle_agrees : Agrees read_cycle_from_idle
unfolding everything rows read_cycle_from_idle
read_cycle_from_idle_agrees = record { well_formed = refl; verdict = refl; rows = refl }

pub pipelined_cycles_agrees : Agrees pipelined_cycles
unfolding everything rows pipelined_cycles
pipelined_cycles_agrees = record { well_formed = refl; verdict = refl; rows = refl }

pub bus_error_agrees : Agrees bus_error
unfolding everything rows bus_error
bus_error_agrees = record { well_formed = refl; verdict = refl; rows = refl }

pub starts_before_the_answer_rose_agrees : Agrees starts_before_the_answer_rose
unfolding everything rows starts_before_the_answer_rose
starts_before_the_answer_rose_agrees = record { well_formed = refl; verdict = refl; rows = refl }

pub answer_rises_as_the_next_transfer_starts_agrees : Agrees answer_rises_as_the_next_transfer_starts
unfolding everything rows answer_rises_as_the_next_transfer_starts
answer_rises_as_the_next_transfer_starts_agrees = record { well_formed = refl; verdict = refl; rows = refl }

pub strobes_rise_early_agrees : Agrees strobes_rise_early
unfolding everything rows strobes_rise_early
strobes_rise_early_agrees = record { well_formed = refl; verdict = refl; rows = refl }

pub strobes_rise_with_answer_agrees : Agrees strobes_rise_with_answer
unfolding everything rows strobes_rise_with_answer
strobes_rise_with_answer_agrees = record { well_formed = refl; verdict = refl; rows = refl }

pub one_strobe_rises_early_agrees : Agrees one_strobe_rises_early
unfolding everything rows one_strobe_rises_early
one_strobe_rises_early_agrees = record { well_formed = refl; verdict = refl; rows = refl }

pub strobe_falls_after_the_answer_agrees : Agrees strobe_falls_after_the_answer
unfolding everything rows strobe_falls_after_the_answer
strobe_falls_after_the_answer_agrees = record { well_formed = refl; verdict = refl; rows = refl }

pub strobe_falls_with_the_answer_agrees : Agrees strobe_falls_with_the_answer
unfolding everything rows strobe_falls_with_the_answer
strobe_falls_with_the_answer_agrees = record { well_formed = refl; verdict = refl; rows = refl }

pub second_strobe_falls_before_the_answer_agrees : Agrees second_strobe_falls_before_the_answer
unfolding everything rows second_strobe_falls_before_the_answer
second_strobe_falls_before_the_answer_agrees = record { well_formed = refl; verdict = refl; rows = refl }

pub stray_answer_agrees : Agrees stray_answer
unfolding everything rows stray_answer
stray_answer_agrees = record { well_formed = refl; verdict = refl; rows = refl }

pub bus_error_to_nobody_agrees : Agrees bus_error_to_nobody
unfolding everything rows bus_error_to_nobody
bus_error_to_nobody_agrees = record { well_formed = refl; verdict = refl; rows = refl }

pub answered_at_its_first_instant_agrees : Agrees answered_at_its_first_instant
unfolding everything rows answered_at_its_first_instant
answered_at_its_first_instant_agrees = record { well_formed = refl; verdict = refl; rows = refl }

pub answered_by_both_lines_in_turn_agrees : Agrees answered_by_both_lines_in_turn
unfolding everything rows answered_by_both_lines_in_turn
answered_by_both_lines_in_turn_agrees = record { well_formed = refl; verdict = refl; rows = refl }

pub answered_by_both_lines_at_once_agrees : Agrees answered_by_both_lines_at_once
unfolding everything rows answered_by_both_lines_at_once
answered_by_both_lines_at_once_agrees = record { well_formed = refl; verdict = refl; rows = refl }

pub answered_again_by_the_same_line_agrees : Agrees answered_again_by_the_same_line
unfolding everything rows answered_again_by_the_same_line
answered_again_by_the_same_line_agrees = record { well_formed = refl; verdict = refl; rows = refl }

pub answer_withdrawn_early_agrees : Agrees answer_withdrawn_early
unfolding everything rows answer_withdrawn_early
answer_withdrawn_early_agrees = record { well_formed = refl; verdict = refl; rows = refl }

pub second_answer_withdrawn_early_agrees : Agrees second_answer_withdrawn_early
unfolding everything rows second_answer_withdrawn_early
second_answer_withdrawn_early_agrees = record { well_formed = refl; verdict = refl; rows = refl }

pub answer_rises_with_the_strobes_agrees : Agrees answer_rises_with_the_strobes
unfolding everything rows answer_rises_with_the_strobes
answer_rises_with_the_strobes_agrees = record { well_formed = refl; verdict = refl; rows = refl }

pub cycle_ends_unanswered_agrees : Agrees cycle_ends_unanswered
unfolding everything rows cycle_ends_unanswered
cycle_ends_unanswered_agrees = record { well_formed = refl; verdict = refl; rows = refl }

pub cycle_ends_with_the_answer_agrees : Agrees cycle_ends_with_the_answer
unfolding everything rows cycle_ends_with_the_answer
cycle_ends_with_the_answer_agrees = record { well_formed = refl; verdict = refl; rows = refl }

pub transfer_as_the_cycle_ends_agrees : Agrees transfer_as_the_cycle_ends
unfolding everything rows transfer_as_the_cycle_ends
transfer_as_the_cycle_ends_agrees = record { well_formed = refl; verdict = refl; rows = refl }

pub answer_without_a_cycle_agrees : Agrees answer_without_a_cycle
unfolding everything rows answer_without_a_cycle
answer_without_a_cycle_agrees = record { well_formed = refl; verdict = refl; rows = refl }

pub strobe_before_the_cycle_agrees : Agrees strobe_before_the_cycle
unfolding everything rows strobe_before_the_cycle
strobe_before_the_cycle_agrees = record { well_formed = refl; verdict = refl; rows = refl }

pub transfer_between_two_cycles_agrees : Agrees transfer_between_two_cycles
unfolding everything rows transfer_between_two_cycles
transfer_between_two_cycles_agrees = record { well_formed = refl; verdict = refl; rows = refl }

-- all recordings of `transfers` have the verdict and the rows that stand beside them
pub transfers_agree : All Agrees transfers
transfers_agree = All-from_recursion Agrees transfers
    (read_cycle_agrees & read_cycle_from_idle_agrees & pipelined_cycles_agrees & bus_error_agrees
    & starts_before_the_answer_rose_agrees & answer_rises_as_the_next_transfer_starts_agrees & strobes_rise_early_agrees
    & strobes_rise_with_answer_agrees & one_strobe_rises_early_agrees & strobe_falls_after_the_answer_agrees
    & strobe_falls_with_the_answer_agrees & second_strobe_falls_before_the_answer_agrees & stray_answer_agrees
    & bus_error_to_nobody_agrees & answered_at_its_first_instant_agrees & answered_by_both_lines_in_turn_agrees
    & answered_by_both_lines_at_once_agrees & answered_again_by_the_same_line_agrees & answer_withdrawn_early_agrees
    & second_answer_withdrawn_early_agrees & answer_rises_with_the_strobes_agrees & cycle_ends_unanswered_agrees
    & cycle_ends_with_the_answer_agrees & transfer_as_the_cycle_ends_agrees & answer_without_a_cycle_agrees
    & strobe_before_the_cycle_agrees & transfer_between_two_cycles_agrees & tt)
