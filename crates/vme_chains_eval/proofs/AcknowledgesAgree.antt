-- Each recording of `acknowledges` has, by the definitions, the verdict and the rows that stand beside it: computed.
use Rattle.std.proofs.Common.{refl}
use Rattle.std.proofs.lemmas.List.Elements.{All-from_recursion}
use Rattle.std.specs.Prelude.{All}
use Rattle.vme_eval.specs.Recording.{Agrees}
use Rattle.vme_eval.specs.Acknowledges.{acknowledges, acknowledge_cycle, acknowledge_of_level_3, acknowledge_skips_slot}
use Rattle.vme_eval.specs.Acknowledges.{acknowledge_outside_an_acknowledge_cycle, acknowledge_with_its_input}
use Rattle.vme_eval.specs.Acknowledges.{acknowledge_as_its_input_rises, acknowledge_before_strobe}
use Rattle.vme_eval.specs.Acknowledges.{acknowledge_before_the_cycle, acknowledge_by_the_second_strobe}
use Rattle.vme_eval.specs.Acknowledges.{acknowledge_as_the_strobe_rises, acknowledge_as_the_second_strobe_rises}
use Rattle.vme_eval.specs.Acknowledges.{acknowledge_as_the_second_strobe_falls}
use Rattle.vme_eval.specs.Acknowledges.{acknowledge_near_a_strobe_and_near_the_cycle, acknowledge_after_answer}
use Rattle.vme_eval.specs.Acknowledges.{acknowledge_after_an_answer_at_the_start}
use Rattle.vme_eval.specs.Acknowledges.{acknowledge_after_the_answer_of_a_data_cycle, acknowledge_with_the_answer}
use Rattle.vme_eval.specs.Acknowledges.{acknowledge_after_a_bus_error, acknowledge_as_the_next_cycle_starts}
use Rattle.vme_eval.specs.Acknowledges.{acknowledge_write, acknowledge_turns_to_a_read}
use Rattle.vme_eval.specs.Acknowledges.{acknowledge_is_a_read_from_its_start, acknowledged_twice}
use Rattle.vme_eval.proofs.Everything.{everything, rows}
use Rattle.vme_eval.proofs.Facts.{◌&◌}

pub acknowledge_cycle_agrees : Agrees acknowledge_cycle
unfolding everything rows acknowledge_cycle
acknowledge_cycle_agrees = record { well_formed = refl; verdict = refl; rows = refl }

pub acknowledge_of_level_3_agrees : Agrees acknowledge_of_level_3
unfolding everything rows acknowledge_of_level_3
acknowledge_of_level_3_agrees = record { well_formed = refl; verdict = refl; rows = refl }

pub acknowledge_skips_slot_agrees : Agrees acknowledge_skips_slot
unfolding everything rows acknowledge_skips_slot
acknowledge_skips_slot_agrees = record { well_formed = refl; verdict = refl; rows = refl }

pub acknowledge_outside_an_acknowledge_cycle_agrees : Agrees acknowledge_outside_an_acknowledge_cycle
unfolding everything rows acknowledge_outside_an_acknowledge_cycle
acknowledge_outside_an_acknowledge_cycle_agrees = record { well_formed = refl; verdict = refl; rows = refl }

pub acknowledge_with_its_input_agrees : Agrees acknowledge_with_its_input
unfolding everything rows acknowledge_with_its_input
acknowledge_with_its_input_agrees = record { well_formed = refl; verdict = refl; rows = refl }

pub acknowledge_as_its_input_rises_agrees : Agrees acknowledge_as_its_input_rises
unfolding everything rows acknowledge_as_its_input_rises
acknowledge_as_its_input_rises_agrees = record { well_formed = refl; verdict = refl; rows = refl }

pub acknowledge_before_strobe_agrees : Agrees acknowledge_before_strobe
unfolding everything rows acknowledge_before_strobe
acknowledge_before_strobe_agrees = record { well_formed = refl; verdict = refl; rows = refl }

pub acknowledge_before_the_cycle_agrees : Agrees acknowledge_before_the_cycle
unfolding everything rows acknowledge_before_the_cycle
acknowledge_before_the_cycle_agrees = record { well_formed = refl; verdict = refl; rows = refl }

pub acknowledge_by_the_second_strobe_agrees : Agrees acknowledge_by_the_second_strobe
unfolding everything rows acknowledge_by_the_second_strobe
acknowledge_by_the_second_strobe_agrees = record { well_formed = refl; verdict = refl; rows = refl }

pub acknowledge_as_the_strobe_rises_agrees : Agrees acknowledge_as_the_strobe_rises
unfolding everything rows acknowledge_as_the_strobe_rises
acknowledge_as_the_strobe_rises_agrees = record { well_formed = refl; verdict = refl; rows = refl }

pub acknowledge_as_the_second_strobe_rises_agrees : Agrees acknowledge_as_the_second_strobe_rises
unfolding everything rows acknowledge_as_the_second_strobe_rises
acknowledge_as_the_second_strobe_rises_agrees = record { well_formed = refl; verdict = refl; rows = refl }

pub acknowledge_as_the_second_strobe_falls_agrees : Agrees acknowledge_as_the_second_strobe_falls
unfolding everything rows acknowledge_as_the_second_strobe_falls
acknowledge_as_the_second_strobe_falls_agrees = record { well_formed = refl; verdict = refl; rows = refl }

pub acknowledge_near_a_strobe_and_near_the_cycle_agrees : Agrees acknowledge_near_a_strobe_and_near_the_cycle
unfolding everything rows acknowledge_near_a_strobe_and_near_the_cycle
acknowledge_near_a_strobe_and_near_the_cycle_agrees = record { well_formed = refl; verdict = refl; rows = refl }

pub acknowledge_after_answer_agrees : Agrees acknowledge_after_answer
unfolding everything rows acknowledge_after_answer
acknowledge_after_answer_agrees = record { well_formed = refl; verdict = refl; rows = refl }

pub acknowledge_after_an_answer_at_the_start_agrees : Agrees acknowledge_after_an_answer_at_the_start
unfolding everything rows acknowledge_after_an_answer_at_the_start
acknowledge_after_an_answer_at_the_start_agrees = record { well_formed = refl; verdict = refl; rows = refl }

pub acknowledge_after_the_answer_of_a_data_cycle_agrees : Agrees acknowledge_after_the_answer_of_a_data_cycle
unfolding everything rows acknowledge_after_the_answer_of_a_data_cycle
acknowledge_after_the_answer_of_a_data_cycle_agrees = record { well_formed = refl; verdict = refl; rows = refl }

pub acknowledge_with_the_answer_agrees : Agrees acknowledge_with_the_answer
unfolding everything rows acknowledge_with_the_answer
acknowledge_with_the_answer_agrees = record { well_formed = refl; verdict = refl; rows = refl }

pub acknowledge_after_a_bus_error_agrees : Agrees acknowledge_after_a_bus_error
unfolding everything rows acknowledge_after_a_bus_error
acknowledge_after_a_bus_error_agrees = record { well_formed = refl; verdict = refl; rows = refl }

pub acknowledge_as_the_next_cycle_starts_agrees : Agrees acknowledge_as_the_next_cycle_starts
unfolding everything rows acknowledge_as_the_next_cycle_starts
acknowledge_as_the_next_cycle_starts_agrees = record { well_formed = refl; verdict = refl; rows = refl }

pub acknowledge_write_agrees : Agrees acknowledge_write
unfolding everything rows acknowledge_write
acknowledge_write_agrees = record { well_formed = refl; verdict = refl; rows = refl }

pub acknowledge_turns_to_a_read_agrees : Agrees acknowledge_turns_to_a_read
unfolding everything rows acknowledge_turns_to_a_read
acknowledge_turns_to_a_read_agrees = record { well_formed = refl; verdict = refl; rows = refl }

pub acknowledge_is_a_read_from_its_start_agrees : Agrees acknowledge_is_a_read_from_its_start
unfolding everything rows acknowledge_is_a_read_from_its_start
acknowledge_is_a_read_from_its_start_agrees = record { well_formed = refl; verdict = refl; rows = refl }

pub acknowledged_twice_agrees : Agrees acknowledged_twice
unfolding everything rows acknowledged_twice
acknowledged_twice_agrees = record { well_formed = refl; verdict = refl; rows = refl }

-- all recordings of `acknowledges` have the verdict and the rows that stand beside them
pub acknowledges_agree : All Agrees acknowledges
acknowledges_agree = All-from_recursion Agrees acknowledges
    (acknowledge_cycle_agrees & acknowledge_of_level_3_agrees & acknowledge_skips_slot_agrees
    & acknowledge_outside_an_acknowledge_cycle_agrees & acknowledge_with_its_input_agrees
    & acknowledge_as_its_input_rises_agrees & acknowledge_before_strobe_agrees & acknowledge_before_the_cycle_agrees
    & acknowledge_by_the_second_strobe_agrees & acknowledge_as_the_strobe_rises_agrees
    & acknowledge_as_the_second_strobe_rises_agrees & acknowledge_as_the_second_strobe_falls_agrees
    & acknowledge_near_a_strobe_and_near_the_cycle_agrees & acknowledge_after_answer_agrees
    & acknowledge_after_an_answer_at_the_start_agrees & acknowledge_after_the_answer_of_a_data_cycle_agrees
    & acknowledge_with_the_answer_agrees & acknowledge_after_a_bus_error_agrees
    & acknowledge_as_the_next_cycle_starts_agrees & acknowledge_write_agrees & acknowledge_turns_to_a_read_agrees
    & acknowledge_is_a_read_from_its_start_agrees & acknowledged_twice_agrees & tt)
