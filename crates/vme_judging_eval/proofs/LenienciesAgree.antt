-- Each recording of `leniencies` has, by the definitions, the verdict and the rows that stand beside it: computed.
use Rattle.std.proofs.Common.{refl}
use Rattle.std.proofs.lemmas.List.Elements.{All-from_recursion}
use Rattle.std.specs.Prelude.{All}
use Rattle.vme_eval.specs.Recording.{Agrees}
use Rattle.vme_eval.specs.Leniencies.{leniencies, chain_net_left_low, acknowledge_net_left_low}
use Rattle.vme_eval.specs.Leniencies.{acknowledge_passed_on_twice, read_modify_write_at_two_addresses}
use Rattle.vme_eval.specs.Leniencies.{read_modify_write_of_two_sizes, block_of_long_words_without_its_long_word_line}
use Rattle.vme_eval.specs.Leniencies.{modifier_changes_in_a_block, write_after_the_bus_error_of_the_read}
use Rattle.vme_eval.specs.Leniencies.{strobe_long_before_the_cycle, acknowledge_of_level_0}
use Rattle.vme_eval.specs.Leniencies.{grant_taken_after_the_request, answer_and_direction_after_one_strobe}
use Rattle.vme_eval.proofs.Everything.{everything, rows}
use Rattle.vme_eval.proofs.Facts.{◌&◌}

pub chain_net_left_low_agrees : Agrees chain_net_left_low
unfolding everything rows chain_net_left_low
chain_net_left_low_agrees = record { well_formed = refl; verdict = refl; rows = refl }

pub acknowledge_net_left_low_agrees : Agrees acknowledge_net_left_low
unfolding everything rows acknowledge_net_left_low
acknowledge_net_left_low_agrees = record { well_formed = refl; verdict = refl; rows = refl }

pub acknowledge_passed_on_twice_agrees : Agrees acknowledge_passed_on_twice
unfolding everything rows acknowledge_passed_on_twice
acknowledge_passed_on_twice_agrees = record { well_formed = refl; verdict = refl; rows = refl }

pub read_modify_write_at_two_addresses_agrees : Agrees read_modify_write_at_two_addresses
unfolding everything rows read_modify_write_at_two_addresses
read_modify_write_at_two_addresses_agrees = record { well_formed = refl; verdict = refl; rows = refl }

pub read_modify_write_of_two_sizes_agrees : Agrees read_modify_write_of_two_sizes
unfolding everything rows read_modify_write_of_two_sizes
read_modify_write_of_two_sizes_agrees = record { well_formed = refl; verdict = refl; rows = refl }

pub block_of_long_words_without_its_long_word_line_agrees : Agrees block_of_long_words_without_its_long_word_line
unfolding everything rows block_of_long_words_without_its_long_word_line
block_of_long_words_without_its_long_word_line_agrees = record { well_formed = refl; verdict = refl; rows = refl }

pub modifier_changes_in_a_block_agrees : Agrees modifier_changes_in_a_block
unfolding everything rows modifier_changes_in_a_block
modifier_changes_in_a_block_agrees = record { well_formed = refl; verdict = refl; rows = refl }

pub write_after_the_bus_error_of_the_read_agrees : Agrees write_after_the_bus_error_of_the_read
unfolding everything rows write_after_the_bus_error_of_the_read
write_after_the_bus_error_of_the_read_agrees = record { well_formed = refl; verdict = refl; rows = refl }

pub strobe_long_before_the_cycle_agrees : Agrees strobe_long_before_the_cycle
unfolding everything rows strobe_long_before_the_cycle
strobe_long_before_the_cycle_agrees = record { well_formed = refl; verdict = refl; rows = refl }

pub acknowledge_of_level_0_agrees : Agrees acknowledge_of_level_0
unfolding everything rows acknowledge_of_level_0
acknowledge_of_level_0_agrees = record { well_formed = refl; verdict = refl; rows = refl }

pub grant_taken_after_the_request_agrees : Agrees grant_taken_after_the_request
unfolding everything rows grant_taken_after_the_request
grant_taken_after_the_request_agrees = record { well_formed = refl; verdict = refl; rows = refl }

pub answer_and_direction_after_one_strobe_agrees : Agrees answer_and_direction_after_one_strobe
unfolding everything rows answer_and_direction_after_one_strobe
answer_and_direction_after_one_strobe_agrees = record { well_formed = refl; verdict = refl; rows = refl }

-- all recordings of `leniencies` have the verdict and the rows that stand beside them
pub leniencies_agree : All Agrees leniencies
leniencies_agree = All-from_recursion Agrees leniencies
    (chain_net_left_low_agrees & acknowledge_net_left_low_agrees & acknowledge_passed_on_twice_agrees
    & read_modify_write_at_two_addresses_agrees & read_modify_write_of_two_sizes_agrees
    & block_of_long_words_without_its_long_word_line_agrees & modifier_changes_in_a_block_agrees
    & write_after_the_bus_error_of_the_read_agrees & strobe_long_before_the_cycle_agrees & acknowledge_of_level_0_agrees
    & grant_taken_after_the_request_agrees & answer_and_direction_after_one_strobe_agrees & tt)
