-- Each recording of `tenures` has, by the definitions, the verdict and the rows that stand beside it: computed.
use Rattle.std.proofs.Common.{refl}
use Rattle.std.proofs.lemmas.List.Elements.{All-from_recursion}
use Rattle.std.specs.Prelude.{All}
use Rattle.vme_eval.specs.Recording.{Agrees}
use Rattle.vme_eval.specs.Tenures.{tenures, tenure_on_level_0, tenure_on_level_1, tenure_on_level_2}
use Rattle.vme_eval.specs.Tenures.{taken_by_the_last_slot, open_tenure_ends, tenure_after_an_open_one, two_tenures}
use Rattle.vme_eval.specs.Tenures.{grant_read_at_the_instant_before, slot_read_as_the_bus_is_taken}
use Rattle.vme_eval.specs.Tenures.{another_levels_grant_taken, higher_levels_grant_taken, grant_chain_with_a_gap}
use Rattle.vme_eval.specs.Tenures.{bus_taken_ungranted, taken_by_a_slots_grant_alone, grant_taken_twice}
use Rattle.vme_eval.specs.Tenures.{grant_of_the_same_instant_taken_twice, taken_again_by_a_slots_grant}
use Rattle.vme_eval.specs.Tenures.{third_tenure_without_a_grant, cycle_without_the_bus}
use Rattle.vme_eval.specs.Tenures.{cycle_starts_as_the_bus_is_taken, cycle_starts_as_the_bus_is_let_go}
use Rattle.vme_eval.specs.Tenures.{everything_starts_at_one_instant, grant_past_last_slot}
use Rattle.vme_eval.specs.Tenures.{past_the_last_slot_as_the_grant_ends}
use Rattle.vme_eval.proofs.Everything.{everything, rows}
use Rattle.vme_eval.proofs.Facts.{◌&◌}

pub tenure_on_level_0_agrees : Agrees tenure_on_level_0
unfolding everything rows tenure_on_level_0
tenure_on_level_0_agrees = record { well_formed = refl; verdict = refl; rows = refl }

pub tenure_on_level_1_agrees : Agrees tenure_on_level_1
unfolding everything rows tenure_on_level_1
tenure_on_level_1_agrees = record { well_formed = refl; verdict = refl; rows = refl }

pub tenure_on_level_2_agrees : Agrees tenure_on_level_2
unfolding everything rows tenure_on_level_2
tenure_on_level_2_agrees = record { well_formed = refl; verdict = refl; rows = refl }

pub taken_by_the_last_slot_agrees : Agrees taken_by_the_last_slot
unfolding everything rows taken_by_the_last_slot
taken_by_the_last_slot_agrees = record { well_formed = refl; verdict = refl; rows = refl }

pub open_tenure_ends_agrees : Agrees open_tenure_ends
unfolding everything rows open_tenure_ends
open_tenure_ends_agrees = record { well_formed = refl; verdict = refl; rows = refl }

pub tenure_after_an_open_one_agrees : Agrees tenure_after_an_open_one
unfolding everything rows tenure_after_an_open_one
tenure_after_an_open_one_agrees = record { well_formed = refl; verdict = refl; rows = refl }

pub two_tenures_agrees : Agrees two_tenures
unfolding everything rows two_tenures
two_tenures_agrees = record { well_formed = refl; verdict = refl; rows = refl }

pub grant_read_at_the_instant_before_agrees : Agrees grant_read_at_the_instant_before
unfolding everything rows grant_read_at_the_instant_before
grant_read_at_the_instant_before_agrees = record { well_formed = refl; verdict = refl; rows = refl }

pub slot_read_as_the_bus_is_taken_agrees : Agrees slot_read_as_the_bus_is_taken
unfolding everything rows slot_read_as_the_bus_is_taken
slot_read_as_the_bus_is_taken_agrees = record { well_formed = refl; verdict = refl; rows = refl }

pub another_levels_grant_taken_agrees : Agrees another_levels_grant_taken
unfolding everything rows another_levels_grant_taken
another_levels_grant_taken_agrees = record { well_formed = refl; verdict = refl; rows = refl }

pub higher_levels_grant_taken_agrees : Agrees higher_levels_grant_taken
unfolding everything rows higher_levels_grant_taken
higher_levels_grant_taken_agrees = record { well_formed = refl; verdict = refl; rows = refl }

pub grant_chain_with_a_gap_agrees : Agrees grant_chain_with_a_gap
unfolding everything rows grant_chain_with_a_gap
grant_chain_with_a_gap_agrees = record { well_formed = refl; verdict = refl; rows = refl }

pub bus_taken_ungranted_agrees : Agrees bus_taken_ungranted
unfolding everything rows bus_taken_ungranted
bus_taken_ungranted_agrees = record { well_formed = refl; verdict = refl; rows = refl }

pub taken_by_a_slots_grant_alone_agrees : Agrees taken_by_a_slots_grant_alone
unfolding everything rows taken_by_a_slots_grant_alone
taken_by_a_slots_grant_alone_agrees = record { well_formed = refl; verdict = refl; rows = refl }

pub grant_taken_twice_agrees : Agrees grant_taken_twice
unfolding everything rows grant_taken_twice
grant_taken_twice_agrees = record { well_formed = refl; verdict = refl; rows = refl }

pub grant_of_the_same_instant_taken_twice_agrees : Agrees grant_of_the_same_instant_taken_twice
unfolding everything rows grant_of_the_same_instant_taken_twice
grant_of_the_same_instant_taken_twice_agrees = record { well_formed = refl; verdict = refl; rows = refl }

pub taken_again_by_a_slots_grant_agrees : Agrees taken_again_by_a_slots_grant
unfolding everything rows taken_again_by_a_slots_grant
taken_again_by_a_slots_grant_agrees = record { well_formed = refl; verdict = refl; rows = refl }

pub third_tenure_without_a_grant_agrees : Agrees third_tenure_without_a_grant
unfolding everything rows third_tenure_without_a_grant
third_tenure_without_a_grant_agrees = record { well_formed = refl; verdict = refl; rows = refl }

pub cycle_without_the_bus_agrees : Agrees cycle_without_the_bus
unfolding everything rows cycle_without_the_bus
cycle_without_the_bus_agrees = record { well_formed = refl; verdict = refl; rows = refl }

pub cycle_starts_as_the_bus_is_taken_agrees : Agrees cycle_starts_as_the_bus_is_taken
unfolding everything rows cycle_starts_as_the_bus_is_taken
cycle_starts_as_the_bus_is_taken_agrees = record { well_formed = refl; verdict = refl; rows = refl }

pub cycle_starts_as_the_bus_is_let_go_agrees : Agrees cycle_starts_as_the_bus_is_let_go
unfolding everything rows cycle_starts_as_the_bus_is_let_go
cycle_starts_as_the_bus_is_let_go_agrees = record { well_formed = refl; verdict = refl; rows = refl }

pub everything_starts_at_one_instant_agrees : Agrees everything_starts_at_one_instant
unfolding everything rows everything_starts_at_one_instant
everything_starts_at_one_instant_agrees = record { well_formed = refl; verdict = refl; rows = refl }

pub grant_past_last_slot_agrees : Agrees grant_past_last_slot
unfolding everything rows grant_past_last_slot
grant_past_last_slot_agrees = record { well_formed = refl; verdict = refl; rows = refl }

pub past_the_last_slot_as_the_grant_ends_agrees : Agrees past_the_last_slot_as_the_grant_ends
unfolding everything rows past_the_last_slot_as_the_grant_ends
past_the_last_slot_as_the_grant_ends_agrees = record { well_formed = refl; verdict = refl; rows = refl }

-- all recordings of `tenures` have the verdict and the rows that stand beside them
pub tenures_agree : All Agrees tenures
tenures_agree = All-from_recursion Agrees tenures
    (tenure_on_level_0_agrees & tenure_on_level_1_agrees & tenure_on_level_2_agrees & taken_by_the_last_slot_agrees
    & open_tenure_ends_agrees & tenure_after_an_open_one_agrees & two_tenures_agrees
    & grant_read_at_the_instant_before_agrees & slot_read_as_the_bus_is_taken_agrees & another_levels_grant_taken_agrees
    & higher_levels_grant_taken_agrees & grant_chain_with_a_gap_agrees & bus_taken_ungranted_agrees
    & taken_by_a_slots_grant_alone_agrees & grant_taken_twice_agrees & grant_of_the_same_instant_taken_twice_agrees
    & taken_again_by_a_slots_grant_agrees & third_tenure_without_a_grant_agrees & cycle_without_the_bus_agrees
    & cycle_starts_as_the_bus_is_taken_agrees & cycle_starts_as_the_bus_is_let_go_agrees
    & everything_starts_at_one_instant_agrees & grant_past_last_slot_agrees
    & past_the_last_slot_as_the_grant_ends_agrees & tt)
