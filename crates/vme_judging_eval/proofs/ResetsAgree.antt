-- Each recording of `resets` has, by the definitions, the verdict and the rows that stand beside it: computed.
use Rattle.std.proofs.Common.{refl}
use Rattle.std.proofs.lemmas.List.Elements.{All-from_recursion}
use Rattle.std.specs.Prelude.{All}
use Rattle.vme_eval.specs.Recording.{Agrees}
use Rattle.vme_eval.specs.Resets.{resets, reset_in_a_read, busy_after_the_reset, answer_after_the_reset}
use Rattle.vme_eval.specs.Resets.{strobe_lost_with_the_reset, reset_line_lost, reset_forgets_a_request}
use Rattle.vme_eval.specs.Resets.{request_without_a_reset, reset_for_good, reset_before_judging, reset_at_the_end}
use Rattle.vme_eval.specs.Resets.{two_resets, stray_answer_with_the_reset, stray_answers_around_the_reset}
use Rattle.vme_eval.specs.Resets.{strobe_unknown_after_the_reset, strobe_lost_after_the_reset}
use Rattle.vme_eval.specs.Resets.{reset_after_a_lost_strobe, address_changes_after_the_reset}
use Rattle.vme_eval.specs.Resets.{address_changes_after_a_lost_strobe, direction_changes_after_the_reset}
use Rattle.vme_eval.specs.Resets.{direction_changes_after_lost_strobes, data_changes_after_the_reset}
use Rattle.vme_eval.specs.Resets.{read_after_the_reset_of_a_write, answer_withdrawn_in_the_reset}
use Rattle.vme_eval.specs.Resets.{answer_withdrawn_early_after_the_reset, answer_in_the_reset}
use Rattle.vme_eval.specs.Resets.{block_write_after_the_reset_of_a_block_read, bus_granted_again_after_the_reset}
use Rattle.vme_eval.specs.Resets.{grant_taken_twice_after_the_reset, grant_before_the_reset_taken}
use Rattle.vme_eval.specs.Resets.{bus_taken_as_judging_starts_again, open_tenure_ends_in_the_reset}
use Rattle.vme_eval.specs.Resets.{everything_ends_at_the_reset, tenure_ends_at_the_reset}
use Rattle.vme_eval.specs.Resets.{unreadable_after_a_break_before_the_reset}
use Rattle.vme_eval.proofs.Everything.{everything, rows}
use Rattle.vme_eval.proofs.Facts.{◌&◌}

pub reset_in_a_read_agrees : Agrees reset_in_a_read
unfolding everything rows reset_in_a_read
reset_in_a_read_agrees = record { well_formed = refl; verdict = refl; rows = refl }

pub busy_after_the_reset_agrees : Agrees busy_after_the_reset
unfolding everything rows busy_after_the_reset
busy_after_the_reset_agrees = record { well_formed = refl; verdict = refl; rows = refl }

pub answer_after_the_reset_agrees : Agrees answer_after_the_reset
unfolding everything rows answer_after_the_reset
answer_after_the_reset_agrees = record { well_formed = refl; verdict = refl; rows = refl }

pub strobe_lost_with_the_reset_agrees : Agrees strobe_lost_with_the_reset
unfolding everything rows strobe_lost_with_the_reset
strobe_lost_with_the_reset_agrees = record { well_formed = refl; verdict = refl; rows = refl }

pub reset_line_lost_agrees : Agrees reset_line_lost
unfolding everything rows reset_line_lost
reset_line_lost_agrees = record { well_formed = refl; verdict = refl; rows = refl }

pub reset_forgets_a_request_agrees : Agrees reset_forgets_a_request
unfolding everything rows reset_forgets_a_request
reset_forgets_a_request_agrees = record { well_formed = refl; verdict = refl; rows = refl }

pub request_without_a_reset_agrees : Agrees request_without_a_reset
unfolding everything rows request_without_a_reset
request_without_a_reset_agrees = record { well_formed = refl; verdict = refl; rows = refl }

pub reset_for_good_agrees : Agrees reset_for_good
unfolding everything rows reset_for_good
reset_for_good_agrees = record { well_formed = refl; verdict = refl; rows = refl }

pub reset_before_judging_agrees : Agrees reset_before_judging
unfolding everything rows reset_before_judging
reset_before_judging_agrees = record { well_formed = refl; verdict = refl; rows = refl }

pub reset_at_the_end_agrees : Agrees reset_at_the_end
unfolding everything rows reset_at_the_end
reset_at_the_end_agrees = record { well_formed = refl; verdict = refl; rows = refl }

pub two_resets_agrees : Agrees two_resets
unfolding everything rows two_resets
two_resets_agrees = record { well_formed = refl; verdict = refl; rows = refl }

pub stray_answer_with_the_reset_agrees : Agrees stray_answer_with_the_reset
unfolding everything rows stray_answer_with_the_reset
stray_answer_with_the_reset_agrees = record { well_formed = refl; verdict = refl; rows = refl }

pub stray_answers_around_the_reset_agrees : Agrees stray_answers_around_the_reset
unfolding everything rows stray_answers_around_the_reset
stray_answers_around_the_reset_agrees = record { well_formed = refl; verdict = refl; rows = refl }

pub strobe_unknown_after_the_reset_agrees : Agrees strobe_unknown_after_the_reset
unfolding everything rows strobe_unknown_after_the_reset
strobe_unknown_after_the_reset_agrees = record { well_formed = refl; verdict = refl; rows = refl }

pub strobe_lost_after_the_reset_agrees : Agrees strobe_lost_after_the_reset
unfolding everything rows strobe_lost_after_the_reset
strobe_lost_after_the_reset_agrees = record { well_formed = refl; verdict = refl; rows = refl }

pub reset_after_a_lost_strobe_agrees : Agrees reset_after_a_lost_strobe
unfolding everything rows reset_after_a_lost_strobe
reset_after_a_lost_strobe_agrees = record { well_formed = refl; verdict = refl; rows = refl }

pub address_changes_after_the_reset_agrees : Agrees address_changes_after_the_reset
unfolding everything rows address_changes_after_the_reset
address_changes_after_the_reset_agrees = record { well_formed = refl; verdict = refl; rows = refl }

pub address_changes_after_a_lost_strobe_agrees : Agrees address_changes_after_a_lost_strobe
unfolding everything rows address_changes_after_a_lost_strobe
address_changes_after_a_lost_strobe_agrees = record { well_formed = refl; verdict = refl; rows = refl }

pub direction_changes_after_the_reset_agrees : Agrees direction_changes_after_the_reset
unfolding everything rows direction_changes_after_the_reset
direction_changes_after_the_reset_agrees = record { well_formed = refl; verdict = refl; rows = refl }

pub direction_changes_after_lost_strobes_agrees : Agrees direction_changes_after_lost_strobes
unfolding everything rows direction_changes_after_lost_strobes
direction_changes_after_lost_strobes_agrees = record { well_formed = refl; verdict = refl; rows = refl }

pub data_changes_after_the_reset_agrees : Agrees data_changes_after_the_reset
unfolding everything rows data_changes_after_the_reset
data_changes_after_the_reset_agrees = record { well_formed = refl; verdict = refl; rows = refl }

pub read_after_the_reset_of_a_write_agrees : Agrees read_after_the_reset_of_a_write
unfolding everything rows read_after_the_reset_of_a_write
read_after_the_reset_of_a_write_agrees = record { well_formed = refl; verdict = refl; rows = refl }

pub answer_withdrawn_in_the_reset_agrees : Agrees answer_withdrawn_in_the_reset
unfolding everything rows answer_withdrawn_in_the_reset
answer_withdrawn_in_the_reset_agrees = record { well_formed = refl; verdict = refl; rows = refl }

pub answer_withdrawn_early_after_the_reset_agrees : Agrees answer_withdrawn_early_after_the_reset
unfolding everything rows answer_withdrawn_early_after_the_reset
answer_withdrawn_early_after_the_reset_agrees = record { well_formed = refl; verdict = refl; rows = refl }

pub answer_in_the_reset_agrees : Agrees answer_in_the_reset
unfolding everything rows answer_in_the_reset
answer_in_the_reset_agrees = record { well_formed = refl; verdict = refl; rows = refl }

pub block_write_after_the_reset_of_a_block_read_agrees : Agrees block_write_after_the_reset_of_a_block_read
unfolding everything rows block_write_after_the_reset_of_a_block_read
block_write_after_the_reset_of_a_block_read_agrees = record { well_formed = refl; verdict = refl; rows = refl }

pub bus_granted_again_after_the_reset_agrees : Agrees bus_granted_again_after_the_reset
unfolding everything rows bus_granted_again_after_the_reset
bus_granted_again_after_the_reset_agrees = record { well_formed = refl; verdict = refl; rows = refl }

pub grant_taken_twice_after_the_reset_agrees : Agrees grant_taken_twice_after_the_reset
unfolding everything rows grant_taken_twice_after_the_reset
grant_taken_twice_after_the_reset_agrees = record { well_formed = refl; verdict = refl; rows = refl }

pub grant_before_the_reset_taken_agrees : Agrees grant_before_the_reset_taken
unfolding everything rows grant_before_the_reset_taken
grant_before_the_reset_taken_agrees = record { well_formed = refl; verdict = refl; rows = refl }

pub bus_taken_as_judging_starts_again_agrees : Agrees bus_taken_as_judging_starts_again
unfolding everything rows bus_taken_as_judging_starts_again
bus_taken_as_judging_starts_again_agrees = record { well_formed = refl; verdict = refl; rows = refl }

pub open_tenure_ends_in_the_reset_agrees : Agrees open_tenure_ends_in_the_reset
unfolding everything rows open_tenure_ends_in_the_reset
open_tenure_ends_in_the_reset_agrees = record { well_formed = refl; verdict = refl; rows = refl }

pub everything_ends_at_the_reset_agrees : Agrees everything_ends_at_the_reset
unfolding everything rows everything_ends_at_the_reset
everything_ends_at_the_reset_agrees = record { well_formed = refl; verdict = refl; rows = refl }

pub tenure_ends_at_the_reset_agrees : Agrees tenure_ends_at_the_reset
unfolding everything rows tenure_ends_at_the_reset
tenure_ends_at_the_reset_agrees = record { well_formed = refl; verdict = refl; rows = refl }

pub unreadable_after_a_break_before_the_reset_agrees : Agrees unreadable_after_a_break_before_the_reset
unfolding everything rows unreadable_after_a_break_before_the_reset
unreadable_after_a_break_before_the_reset_agrees = record { well_formed = refl; verdict = refl; rows = refl }

-- all recordings of `resets` have the verdict and the rows that stand beside them
pub resets_agree : All Agrees resets
resets_agree = All-from_recursion Agrees resets
    (reset_in_a_read_agrees & busy_after_the_reset_agrees & answer_after_the_reset_agrees
    & strobe_lost_with_the_reset_agrees & reset_line_lost_agrees & reset_forgets_a_request_agrees
    & request_without_a_reset_agrees & reset_for_good_agrees & reset_before_judging_agrees & reset_at_the_end_agrees
    & two_resets_agrees & stray_answer_with_the_reset_agrees & stray_answers_around_the_reset_agrees
    & strobe_unknown_after_the_reset_agrees & strobe_lost_after_the_reset_agrees & reset_after_a_lost_strobe_agrees
    & address_changes_after_the_reset_agrees & address_changes_after_a_lost_strobe_agrees
    & direction_changes_after_the_reset_agrees & direction_changes_after_lost_strobes_agrees
    & data_changes_after_the_reset_agrees & read_after_the_reset_of_a_write_agrees
    & answer_withdrawn_in_the_reset_agrees & answer_withdrawn_early_after_the_reset_agrees & answer_in_the_reset_agrees
    & block_write_after_the_reset_of_a_block_read_agrees & bus_granted_again_after_the_reset_agrees
    & grant_taken_twice_after_the_reset_agrees & grant_before_the_reset_taken_agrees
    & bus_taken_as_judging_starts_again_agrees & open_tenure_ends_in_the_reset_agrees
    & everything_ends_at_the_reset_agrees & tenure_ends_at_the_reset_agrees
    & unreadable_after_a_break_before_the_reset_agrees & tt)
