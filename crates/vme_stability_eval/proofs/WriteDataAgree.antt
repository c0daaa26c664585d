-- Each recording of `write_data` has, by the definitions, the verdict and the rows that stand beside it: computed.
use Rattle.std.proofs.Common.{refl}
use Rattle.std.proofs.lemmas.List.Elements.{All-from_recursion}
use Rattle.std.specs.Prelude.{All}
use Rattle.vme_eval.specs.Recording.{Agrees}
use Rattle.vme_eval.specs.WriteData.{write_data, data_unknown, unmoved_data_unknown, data_change_with_the_answer}
use Rattle.vme_eval.specs.WriteData.{data_change, unmoved_data_change, data_of_a_read, second_byte_unknown}
use Rattle.vme_eval.specs.WriteData.{second_byte_unknown_with_the_answer, second_byte_unknown_after_the_answer}
use Rattle.vme_eval.specs.WriteData.{upper_byte_alone, second_byte_changes, data_lost, data_change_after_the_answer}
use Rattle.vme_eval.specs.WriteData.{long_word, long_word_unknown, long_word_changes, no_long_word_at_an_odd_word}
use Rattle.vme_eval.specs.WriteData.{lanes_unknown, answered_as_it_starts, byte_lost_as_the_second_strobe_falls}
use Rattle.vme_eval.specs.WriteData.{second_byte_unknown_as_the_direction_changes, digits_unknown_by_an_inner_line}
use Rattle.vme_eval.specs.WriteData.{long_word_by_one_strobe, strobe_rises_with_the_answer_of_a_write}
use Rattle.vme_eval.specs.WriteData.{byte_known_once_it_is_moved, long_word_unknown_by_the_second_strobe}
use Rattle.vme_eval.specs.WriteData.{no_byte_by_an_unknown_size, no_long_word_by_an_unknown_size}
use Rattle.vme_eval.specs.WriteData.{no_long_word_at_an_unknown_address, data_known_as_the_strobe_falls}
use Rattle.vme_eval.specs.WriteData.{second_byte_unknown_after_a_bus_error, highest_line_of_a_long_word_changes}
use Rattle.vme_eval.specs.WriteData.{data_unknown_in_an_acknowledge, data_unknown_with_lowest_address_line_low}
use Rattle.vme_eval.specs.WriteData.{data_lost_with_a_bus_error}
use Rattle.vme_eval.proofs.Everything.{everything, rows}
use Rattle.vme_eval.proofs.Facts.{◌&◌}

pub data_unknown_agrees : Agrees data_unknown
unfolding everything rows data_unknown
data_unknown_agrees = record { well_formed = refl; verdict = refl; rows = refl }

pub unmoved_data_unknown_agrees : Agrees unmoved_data_unknown
unfolding everything rows unmoved_data_unknown
unmoved_data_unknown_agrees = record { well_formed = refl; verdict = refl; rows = refl }

pub data_change_with_the_answer_agrees : Agrees data_change_with_the_answer
unfolding everything rows data_change_with_the_answer
data_change_with_the_answer_agrees = record { well_formed = refl; verdict = refl; rows = refl }

pub data_change_agrees : Agrees data_change
unfolding everything rows data_change
data_change_agrees = record { well_formed = refl; verdict = refl; rows = refl }

pub unmoved_data_change_agrees : Agrees unmoved_data_change
unfolding everything rows unmoved_data_change
unmoved_data_change_agrees = record { well_formed = refl; verdict = refl; rows = refl }

pub data_of_a_read_agrees : Agrees data_of_a_read
unfolding everything rows data_of_a_read
data_of_a_read_agrees = record { well_formed = refl; verdict = refl; rows = refl }

pub second_byte_unknown_agrees : Agrees second_byte_unknown
unfolding everything rows second_byte_unknown
second_byte_unknown_agrees = record { well_formed = refl; verdict = refl; rows = refl }

pub second_byte_unknown_with_the_answer_agrees : Agrees second_byte_unknown_with_the_answer
unfolding everything rows second_byte_unknown_with_the_answer
second_byte_unknown_with_the_answer_agrees = record { well_formed = refl; verdict = refl; rows = refl }

pub second_byte_unknown_after_the_answer_agrees : Agrees second_byte_unknown_after_the_answer
unfolding everything rows second_byte_unknown_after_the_answer
second_byte_unknown_after_the_answer_agrees = record { well_formed = refl; verdict = refl; rows = refl }

pub upper_byte_alone_agrees : Agrees upper_byte_alone
unfolding everything rows upper_byte_alone
upper_byte_alone_agrees = record { well_formed = refl; verdict = refl; rows = refl }

pub second_byte_changes_agrees : Agrees second_byte_changes
unfolding everything rows second_byte_changes
second_byte_changes_agrees = record { well_formed = refl; verdict = refl; rows = refl }

pub data_lost_agrees : Agrees data_lost
unfolding everything rows data_lost
data_lost_agrees = record { well_formed = refl; verdict = refl; rows = refl }

pub data_change_after_the_answer_agrees : Agrees data_change_after_the_answer
unfolding everything rows data_change_after_the_answer
data_change_after_the_answer_agrees = record { well_formed = refl; verdict = refl; rows = refl }

pub long_word_agrees : Agrees long_word
unfolding everything rows long_word
long_word_agrees = record { well_formed = refl; verdict = refl; rows = refl }

pub long_word_unknown_agrees : Agrees long_word_unknown
unfolding everything rows long_word_unknown
long_word_unknown_agrees = record { well_formed = refl; verdict = refl; rows = refl }

pub long_word_changes_agrees : Agrees long_word_changes
unfolding everything rows long_word_changes
long_word_changes_agrees = record { well_formed = refl; verdict = refl; rows = refl }

pub no_long_word_at_an_odd_word_agrees : Agrees no_long_word_at_an_odd_word
unfolding everything rows no_long_word_at_an_odd_word
no_long_word_at_an_odd_word_agrees = record { well_formed = refl; verdict = refl; rows = refl }

pub lanes_unknown_agrees : Agrees lanes_unknown
unfolding everything rows lanes_unknown
lanes_unknown_agrees = record { well_formed = refl; verdict = refl; rows = refl }

pub answered_as_it_starts_agrees : Agrees answered_as_it_starts
unfolding everything rows answered_as_it_starts
answered_as_it_starts_agrees = record { well_formed = refl; verdict = refl; rows = refl }

pub byte_lost_as_the_second_strobe_falls_agrees : Agrees byte_lost_as_the_second_strobe_falls
unfolding everything rows byte_lost_as_the_second_strobe_falls
byte_lost_as_the_second_strobe_falls_agrees = record { well_formed = refl; verdict = refl; rows = refl }

pub second_byte_unknown_as_the_direction_changes_agrees : Agrees second_byte_unknown_as_the_direction_changes
unfolding everything rows second_byte_unknown_as_the_direction_changes
second_byte_unknown_as_the_direction_changes_agrees = record { well_formed = refl; verdict = refl; rows = refl }

pub digits_unknown_by_an_inner_line_agrees : Agrees digits_unknown_by_an_inner_line
unfolding everything rows digits_unknown_by_an_inner_line
digits_unknown_by_an_inner_line_agrees = record { well_formed = refl; verdict = refl; rows = refl }

pub long_word_by_one_strobe_agrees : Agrees long_word_by_one_strobe
unfolding everything rows long_word_by_one_strobe
long_word_by_one_strobe_agrees = record { well_formed = refl; verdict = refl; rows = refl }

pub strobe_rises_with_the_answer_of_a_write_agrees : Agrees strobe_rises_with_the_answer_of_a_write
unfolding everything rows strobe_rises_with_the_answer_of_a_write
strobe_rises_with_the_answer_of_a_write_agrees = record { well_formed = refl; verdict = refl; rows = refl }

pub byte_known_once_it_is_moved_agrees : Agrees byte_known_once_it_is_moved
unfolding everything rows byte_known_once_it_is_moved
byte_known_once_it_is_moved_agrees = record { well_formed = refl; verdict = refl; rows = refl }

pub long_word_unknown_by_the_second_strobe_agrees : Agrees long_word_unknown_by_the_second_strobe
unfolding everything rows long_word_unknown_by_the_second_strobe
long_word_unknown_by_the_second_strobe_agrees = record { well_formed = refl; verdict = refl; rows = refl }

pub no_byte_by_an_unknown_size_agrees : Agrees no_byte_by_an_unknown_size
unfolding everything rows no_byte_by_an_unknown_size
no_byte_by_an_unknown_size_agrees = record { well_formed = refl; verdict = refl; rows = refl }

pub no_long_word_by_an_unknown_size_agrees : Agrees no_long_word_by_an_unknown_size
unfolding everything rows no_long_word_by_an_unknown_size
no_long_word_by_an_unknown_size_agrees = record { well_formed = refl; verdict = refl; rows = refl }

pub no_long_word_at_an_unknown_address_agrees : Agrees no_long_word_at_an_unknown_address
unfolding everything rows no_long_word_at_an_unknown_address
no_long_word_at_an_unknown_address_agrees = record { well_formed = refl; verdict = refl; rows = refl }

pub data_known_as_the_strobe_falls_agrees : Agrees data_known_as_the_strobe_falls
unfolding everything rows data_known_as_the_strobe_falls
data_known_as_the_strobe_falls_agrees = record { well_formed = refl; verdict = refl; rows = refl }

pub second_byte_unknown_after_a_bus_error_agrees : Agrees second_byte_unknown_after_a_bus_error
unfolding everything rows second_byte_unknown_after_a_bus_error
second_byte_unknown_after_a_bus_error_agrees = record { well_formed = refl; verdict = refl; rows = refl }

pub highest_line_of_a_long_word_changes_agrees : Agrees highest_line_of_a_long_word_changes
unfolding everything rows highest_line_of_a_long_word_changes
highest_line_of_a_long_word_changes_agrees = record { well_formed = refl; verdict = refl; rows = refl }

pub data_unknown_in_an_acknowledge_agrees : Agrees data_unknown_in_an_acknowledge
unfolding everything rows data_unknown_in_an_acknowledge
data_unknown_in_an_acknowledge_agrees = record { well_formed = refl; verdict = refl; rows = refl }

pub data_unknown_with_lowest_address_line_low_agrees : Agrees data_unknown_with_lowest_address_line_low
unfolding everything rows data_unknown_with_lowest_address_line_low
data_unknown_with_lowest_address_line_low_agrees = record { well_formed = refl; verdict = refl; rows = refl }

pub data_lost_with_a_bus_error_agrees : Agrees data_lost_with_a_bus_error
unfolding everything rows data_lost_with_a_bus_error
data_lost_with_a_bus_error_agrees = record { well_formed = refl; verdict = refl; rows = refl }

-- all recordings of `write_data` have the verdict and the rows that stand beside them
pub write_data_agree : All Agrees write_data
write_data_agree = All-from_recursion Agrees write_data
    (data_unknown_agrees & unmoved_data_unknown_agrees & data_change_with_the_answer_agrees & data_change_agrees
    & unmoved_data_change_agrees & data_of_a_read_agrees & second_byte_unknown_agrees
    & second_byte_unknown_with_the_answer_agrees & second_byte_unknown_after_the_answer_agrees & upper_byte_alone_agrees
    & second_byte_changes_agrees & data_lost_agrees & data_change_after_the_answer_agrees & long_word_agrees
    & long_word_unknown_agrees & long_word_changes_agrees & no_long_word_at_an_odd_word_agrees & lanes_unknown_agrees
    & answered_as_it_starts_agrees & byte_lost_as_the_second_strobe_falls_agrees
    & second_byte_unknown_as_the_direction_changes_agrees & digits_unknown_by_an_inner_line_agrees
    & long_word_by_one_strobe_agrees & strobe_rises_with_the_answer_of_a_write_agrees
    & byte_known_once_it_is_moved_agrees & long_word_unknown_by_the_second_strobe_agrees
    & no_byte_by_an_unknown_size_agrees & no_long_word_by_an_unknown_size_agrees
    & no_long_word_at_an_unknown_address_agrees & data_known_as_the_strobe_falls_agrees
    & second_byte_unknown_after_a_bus_error_agrees & highest_line_of_a_long_word_changes_agrees
    & data_unknown_in_an_acknowledge_agrees & data_unknown_with_lowest_address_line_low_agrees
    & data_lost_with_a_bus_error_agrees & tt)
