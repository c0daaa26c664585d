-- Each recording of `held_lines` has, by the definitions, the verdict and the rows that stand beside it: computed.
use Rattle.std.proofs.Common.{refl}
use Rattle.std.proofs.lemmas.List.Elements.{All-from_recursion}
use Rattle.std.specs.Prelude.{All}
use Rattle.vme_eval.specs.Recording.{Agrees}
use Rattle.vme_eval.specs.HeldLines.{held_lines, short_address, address_changes_early, address_changes_with_answer}
use Rattle.vme_eval.specs.HeldLines.{unneeded_line_changes, address_lost_in_the_cycle, highest_address_line_changes}
use Rattle.vme_eval.specs.HeldLines.{address_changes_as_the_cycle_ends, address_changes_after_an_answer_at_the_start}
use Rattle.vme_eval.specs.HeldLines.{unknown_modifier, floating_modifier, address_lost_as_the_cycle_starts}
use Rattle.vme_eval.specs.HeldLines.{address_known_as_the_cycle_starts, highest_address_line_unknown, direction_unknown}
use Rattle.vme_eval.specs.HeldLines.{direction_known_as_the_transfer_starts, direction_changes_as_the_transfer_starts}
use Rattle.vme_eval.specs.HeldLines.{direction_changes, direction_changes_after_the_answer}
use Rattle.vme_eval.specs.HeldLines.{direction_changes_as_a_strobe_rises, level_of_an_acknowledge_changes}
use Rattle.vme_eval.specs.HeldLines.{acknowledge_line_changes, highest_modifier_line_changes}
use Rattle.vme_eval.specs.HeldLines.{lowest_modifier_line_changes, long_word_line_changes, lowest_address_line_changes}
use Rattle.vme_eval.proofs.Everything.{everything, rows}
use Rattle.vme_eval.proofs.Facts.{◌&◌}

pub short_address_agrees : Agrees short_address
unfolding everything rows short_address
short_address_agrees = record { well_formed = refl; verdict = refl; rows = refl }

pub address_changes_early_agrees : Agrees address_changes_early
unfolding everything rows address_changes_early
address_changes_early_agrees = record { well_formed = refl; verdict = refl; rows = refl }

pub address_changes_with_answer_agrees : Agrees address_changes_with_answer
unfolding everything rows address_changes_with_answer
address_changes_with_answer_agrees = record { well_formed = refl; verdict = refl; rows = refl }

pub unneeded_line_changes_agrees : Agrees unneeded_line_changes
unfolding everything rows unneeded_line_changes
unneeded_line_changes_agrees = record { well_formed = refl; verdict = refl; rows = refl }

pub address_lost_in_the_cycle_agrees : Agrees address_lost_in_the_cycle
unfolding everything rows address_lost_in_the_cycle
address_lost_in_the_cycle_agrees = record { well_formed = refl; verdict = refl; rows = refl }

pub highest_address_line_changes_agrees : Agrees highest_address_line_changes
unfolding everything rows highest_address_line_changes
highest_address_line_changes_agrees = record { well_formed = refl; verdict = refl; rows = refl }

pub address_changes_as_the_cycle_ends_agrees : Agrees address_changes_as_the_cycle_ends
unfolding everything rows address_changes_as_the_cycle_ends
address_changes_as_the_cycle_ends_agrees = record { well_formed = refl; verdict = refl; rows = refl }

pub address_changes_after_an_answer_at_the_start_agrees : Agrees address_changes_after_an_answer_at_the_start
unfolding everything rows address_changes_after_an_answer_at_the_start
address_changes_after_an_answer_at_the_start_agrees = record { well_formed = refl; verdict = refl; rows = refl }

pub unknown_modifier_agrees : Agrees unknown_modifier
unfolding everything rows unknown_modifier
unknown_modifier_agrees = record { well_formed = refl; verdict = refl; rows = refl }

pub floating_modifier_agrees : Agrees floating_modifier
unfolding everything rows floating_modifier
floating_modifier_agrees = record { well_formed = refl; verdict = refl; rows = refl }

pub address_lost_as_the_cycle_starts_agrees : Agrees address_lost_as_the_cycle_starts
unfolding everything rows address_lost_as_the_cycle_starts
address_lost_as_the_cycle_starts_agrees = record { well_formed = refl; verdict = refl; rows = refl }

pub address_known_as_the_cycle_starts_agrees : Agrees address_known_as_the_cycle_starts
unfolding everything rows address_known_as_the_cycle_starts
address_known_as_the_cycle_starts_agrees = record { well_formed = refl; verdict = refl; rows = refl }

pub highest_address_line_unknown_agrees : Agrees highest_address_line_unknown
unfolding everything rows highest_address_line_unknown
highest_address_line_unknown_agrees = record { well_formed = refl; verdict = refl; rows = refl }

pub direction_unknown_agrees : Agrees direction_unknown
unfolding everything rows direction_unknown
direction_unknown_agrees = record { well_formed = refl; verdict = refl; rows = refl }

pub direction_known_as_the_transfer_starts_agrees : Agrees direction_known_as_the_transfer_starts
unfolding everything rows direction_known_as_the_transfer_starts
direction_known_as_the_transfer_starts_agrees = record { well_formed = refl; verdict = refl; rows = refl }

pub direction_changes_as_the_transfer_starts_agrees : Agrees direction_changes_as_the_transfer_starts
unfolding everything rows direction_changes_as_the_transfer_starts
direction_changes_as_the_transfer_starts_agrees = record { well_formed = refl; verdict = refl; rows = refl }

pub direction_changes_agrees : Agrees direction_changes
unfolding everything rows direction_changes
direction_changes_agrees = record { well_formed = refl; verdict = refl; rows = refl }

pub direction_changes_after_the_answer_agrees : Agrees direction_changes_after_the_answer
unfolding everything rows direction_changes_after_the_answer
direction_changes_after_the_answer_agrees = record { well_formed = refl; verdict = refl; rows = refl }

pub direction_changes_as_a_strobe_rises_agrees : Agrees direction_changes_as_a_strobe_rises
unfolding everything rows direction_changes_as_a_strobe_rises
direction_changes_as_a_strobe_rises_agrees = record { well_formed = refl; verdict = refl; rows = refl }

pub level_of_an_acknowledge_changes_agrees : Agrees level_of_an_acknowledge_changes
unfolding everything rows level_of_an_acknowledge_changes
level_of_an_acknowledge_changes_agrees = record { well_formed = refl; verdict = refl; rows = refl }

pub acknowledge_line_changes_agrees : Agrees acknowledge_line_changes
unfolding everything rows acknowledge_line_changes
acknowledge_line_changes_agrees = record { well_formed = refl; verdict = refl; rows = refl }

pub highest_modifier_line_changes_agrees : Agrees highest_modifier_line_changes
unfolding everything rows highest_modifier_line_changes
highest_modifier_line_changes_agrees = record { well_formed = refl; verdict = refl; rows = refl }

pub lowest_modifier_line_changes_agrees : Agrees lowest_modifier_line_changes
unfolding everything rows lowest_modifier_line_changes
lowest_modifier_line_changes_agrees = record { well_formed = refl; verdict = refl; rows = refl }

pub long_word_line_changes_agrees : Agrees long_word_line_changes
unfolding everything rows long_word_line_changes
long_word_line_changes_agrees = record { well_formed = refl; verdict = refl; rows = refl }

pub lowest_address_line_changes_agrees : Agrees lowest_address_line_changes
unfolding everything rows lowest_address_line_changes
lowest_address_line_changes_agrees = record { well_formed = refl; verdict = refl; rows = refl }

-- all recordings of `held_lines` have the verdict and the rows that stand beside them
pub held_lines_agree : All Agrees held_lines
held_lines_agree = All-from_recursion Agrees held_lines
    (short_address_agrees & address_changes_early_agrees & address_changes_with_answer_agrees
    & unneeded_line_changes_agrees & address_lost_in_the_cycle_agrees & highest_address_line_changes_agrees
    & address_changes_as_the_cycle_ends_agrees & address_changes_after_an_answer_at_the_start_agrees
    & unknown_modifier_agrees & floating_modifier_agrees & address_lost_as_the_cycle_starts_agrees
    & address_known_as_the_cycle_starts_agrees & highest_address_line_unknown_agrees & direction_unknown_agrees
    & direction_known_as_the_transfer_starts_agrees & direction_changes_as_the_transfer_starts_agrees
    & direction_changes_agrees & direction_changes_after_the_answer_agrees & direction_changes_as_a_strobe_rises_agrees
    & level_of_an_acknowledge_changes_agrees & acknowledge_line_changes_agrees & highest_modifier_line_changes_agrees
    & lowest_modifier_line_changes_agrees & long_word_line_changes_agrees & lowest_address_line_changes_agrees & tt)
