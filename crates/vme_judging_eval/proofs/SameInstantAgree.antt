-- Each recording of `same_instant` has, by the definitions, the verdict and the rows that stand beside it: computed.
use Rattle.std.proofs.Common.{refl}
use Rattle.std.proofs.lemmas.List.Elements.{All-from_recursion}
use Rattle.std.specs.Prelude.{All}
use Rattle.vme_eval.specs.Recording.{Agrees}
use Rattle.vme_eval.specs.SameInstant.{same_instant, modifier_and_direction_unknown}
use Rattle.vme_eval.specs.SameInstant.{direction_unknown_as_the_answer_is_low, data_unknown_as_the_answer_is_low}
use Rattle.vme_eval.specs.SameInstant.{answered_again_as_the_answer_is_withdrawn, address_and_direction_change}
use Rattle.vme_eval.specs.SameInstant.{direction_and_data_change, direction_changes_with_a_second_answer}
use Rattle.vme_eval.specs.SameInstant.{block_turns_as_a_slot_grants, slot_grants_as_another_ends_its_grant}
use Rattle.vme_eval.specs.SameInstant.{slot_ends_its_grant_as_a_level_is_granted, two_levels_granted_while_busy}
use Rattle.vme_eval.specs.SameInstant.{unasked_level_granted_while_busy, past_the_last_slot_with_an_acknowledge}
use Rattle.vme_eval.specs.SameInstant.{acknowledge_of_nothing, acknowledge_after_answer_and_strobe}
use Rattle.vme_eval.specs.SameInstant.{acknowledge_with_a_second_write, second_acknowledge_is_a_write}
use Rattle.vme_eval.specs.SameInstant.{address_and_data_unknown}
use Rattle.vme_eval.proofs.Everything.{everything, rows}
use Rattle.vme_eval.proofs.Facts.{◌&◌}

pub modifier_and_direction_unknown_agrees : Agrees modifier_and_direction_unknown
unfolding everything rows modifier_and_direction_unknown
modifier_and_direction_unknown_agrees = record { well_formed = refl; verdict = refl; rows = refl }

pub direction_unknown_as_the_answer_is_low_agrees : Agrees direction_unknown_as_the_answer_is_low
unfolding everything rows direction_unknown_as_the_answer_is_low
direction_unknown_as_the_answer_is_low_agrees = record { well_formed = refl; verdict = refl; rows = refl }

pub data_unknown_as_the_answer_is_low_agrees : Agrees data_unknown_as_the_answer_is_low
unfolding everything rows data_unknown_as_the_answer_is_low
data_unknown_as_the_answer_is_low_agrees = record { well_formed = refl; verdict = refl; rows = refl }

pub answered_again_as_the_answer_is_withdrawn_agrees : Agrees answered_again_as_the_answer_is_withdrawn
unfolding everything rows answered_again_as_the_answer_is_withdrawn
answered_again_as_the_answer_is_withdrawn_agrees = record { well_formed = refl; verdict = refl; rows = refl }

pub address_and_direction_change_agrees : Agrees address_and_direction_change
unfolding everything rows address_and_direction_change
address_and_direction_change_agrees = record { well_formed = refl; verdict = refl; rows = refl }

pub direction_and_data_change_agrees : Agrees direction_and_data_change
unfolding everything rows direction_and_data_change
direction_and_data_change_agrees = record { well_formed = refl; verdict = refl; rows = refl }

pub direction_changes_with_a_second_answer_agrees : Agrees direction_changes_with_a_second_answer
unfolding everything rows direction_changes_with_a_second_answer
direction_changes_with_a_second_answer_agrees = record { well_formed = refl; verdict = refl; rows = refl }

pub block_turns_as_a_slot_grants_agrees : Agrees block_turns_as_a_slot_grants
unfolding everything rows block_turns_as_a_slot_grants
block_turns_as_a_slot_grants_agrees = record { well_formed = refl; verdict = refl; rows = refl }

pub slot_grants_as_another_ends_its_grant_agrees : Agrees slot_grants_as_another_ends_its_grant
unfolding everything rows slot_grants_as_another_ends_its_grant
slot_grants_as_another_ends_its_grant_agrees = record { well_formed = refl; verdict = refl; rows = refl }

pub slot_ends_its_grant_as_a_level_is_granted_agrees : Agrees slot_ends_its_grant_as_a_level_is_granted
unfolding everything rows slot_ends_its_grant_as_a_level_is_granted
slot_ends_its_grant_as_a_level_is_granted_agrees = record { well_formed = refl; verdict = refl; rows = refl }

pub two_levels_granted_while_busy_agrees : Agrees two_levels_granted_while_busy
unfolding everything rows two_levels_granted_while_busy
two_levels_granted_while_busy_agrees = record { well_formed = refl; verdict = refl; rows = refl }

pub unasked_level_granted_while_busy_agrees : Agrees unasked_level_granted_while_busy
unfolding everything rows unasked_level_granted_while_busy
unasked_level_granted_while_busy_agrees = record { well_formed = refl; verdict = refl; rows = refl }

pub past_the_last_slot_with_an_acknowledge_agrees : Agrees past_the_last_slot_with_an_acknowledge
unfolding everything rows past_the_last_slot_with_an_acknowledge
past_the_last_slot_with_an_acknowledge_agrees = record { well_formed = refl; verdict = refl; rows = refl }

pub acknowledge_of_nothing_agrees : Agrees acknowledge_of_nothing
unfolding everything rows acknowledge_of_nothing
acknowledge_of_nothing_agrees = record { well_formed = refl; verdict = refl; rows = refl }

pub acknowledge_after_answer_and_strobe_agrees : Agrees acknowledge_after_answer_and_strobe
unfolding everything rows acknowledge_after_answer_and_strobe
acknowledge_after_answer_and_strobe_agrees = record { well_formed = refl; verdict = refl; rows = refl }

pub acknowledge_with_a_second_write_agrees : Agrees acknowledge_with_a_second_write
unfolding everything rows acknowledge_with_a_second_write
acknowledge_with_a_second_write_agrees = record { well_formed = refl; verdict = refl; rows = refl }

pub second_acknowledge_is_a_write_agrees : Agrees second_acknowledge_is_a_write
unfolding everything rows second_acknowledge_is_a_write
second_acknowledge_is_a_write_agrees = record { well_formed = refl; verdict = refl; rows = refl }

pub address_and_data_unknown_agrees : Agrees address_and_data_unknown
unfolding everything rows address_and_data_unknown
address_and_data_unknown_agrees = record { well_formed = refl; verdict = refl; rows = refl }

-- all recordings of `same_instant` have the verdict and the rows that stand beside them
pub same_instant_agree : All Agrees same_instant
same_instant_agree = All-from_recursion Agrees same_instant
    (modifier_and_direction_unknown_agrees & direction_unknown_as_the_answer_is_low_agrees
    & data_unknown_as_the_answer_is_low_agrees & answered_again_as_the_answer_is_withdrawn_agrees
    & address_and_direction_change_agrees & direction_and_data_change_agrees
    & direction_changes_with_a_second_answer_agrees & block_turns_as_a_slot_grants_agrees
    & slot_grants_as_another_ends_its_grant_agrees & slot_ends_its_grant_as_a_level_is_granted_agrees
    & two_levels_granted_while_busy_agrees & unasked_level_granted_while_busy_agrees
    & past_the_last_slot_with_an_acknowledge_agrees & acknowledge_of_nothing_agrees
    & acknowledge_after_answer_and_strobe_agrees & acknowledge_with_a_second_write_agrees
    & second_acknowledge_is_a_write_agrees & address_and_data_unknown_agrees & tt)
