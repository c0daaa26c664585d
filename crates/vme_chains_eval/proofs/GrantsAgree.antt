-- Each recording of `grants` has, by the definitions, the verdict and the rows that stand beside it: computed.
use Rattle.std.proofs.Common.{refl}
use Rattle.std.proofs.lemmas.List.Elements.{All-from_recursion}
use Rattle.std.specs.Prelude.{All}
use Rattle.vme_eval.specs.Recording.{Agrees}
use Rattle.vme_eval.specs.Grants.{grants, slot_grants_ungranted, slot_grants_with_its_input}
use Rattle.vme_eval.specs.Grants.{slot_grants_as_its_input_rises, slot_ends_its_grant_early}
use Rattle.vme_eval.specs.Grants.{slot_ends_its_grant_as_its_input_falls, second_level_granted}
use Rattle.vme_eval.specs.Grants.{higher_level_granted_second, two_levels_granted_at_once}
use Rattle.vme_eval.specs.Grants.{another_level_granted_as_the_first_ends, grant_while_busy, slot_grants_while_busy}
use Rattle.vme_eval.specs.Grants.{grant_falls_as_the_bus_is_let_go, grant_unasked, request_with_the_grant}
use Rattle.vme_eval.specs.Grants.{request_low_at_the_start, request_of_the_grant_before_serves_again}
use Rattle.vme_eval.specs.Grants.{request_before_another_levels_grant, request_of_two_grants_before, grant_withdrawn}
use Rattle.vme_eval.proofs.Everything.{everything, rows}
use Rattle.vme_eval.proofs.Facts.{◌&◌}

pub slot_grants_ungranted_agrees : Agrees slot_grants_ungranted
unfolding everything rows slot_grants_ungranted
slot_grants_ungranted_agrees = record { well_formed = refl; verdict = refl; rows = refl }

pub slot_grants_with_its_input_agrees : Agrees slot_grants_with_its_input
unfolding everything rows slot_grants_with_its_input
slot_grants_with_its_input_agrees = record { well_formed = refl; verdict = refl; rows = refl }

pub slot_grants_as_its_input_rises_agrees : Agrees slot_grants_as_its_input_rises
unfolding everything rows slot_grants_as_its_input_rises
slot_grants_as_its_input_rises_agrees = record { well_formed = refl; verdict = refl; rows = refl }

pub slot_ends_its_grant_early_agrees : Agrees slot_ends_its_grant_early
unfolding everything rows slot_ends_its_grant_early
slot_ends_its_grant_early_agrees = record { well_formed = refl; verdict = refl; rows = refl }

pub slot_ends_its_grant_as_its_input_falls_agrees : Agrees slot_ends_its_grant_as_its_input_falls
unfolding everything rows slot_ends_its_grant_as_its_input_falls
slot_ends_its_grant_as_its_input_falls_agrees = record { well_formed = refl; verdict = refl; rows = refl }

pub second_level_granted_agrees : Agrees second_level_granted
unfolding everything rows second_level_granted
second_level_granted_agrees = record { well_formed = refl; verdict = refl; rows = refl }

pub higher_level_granted_second_agrees : Agrees higher_level_granted_second
unfolding everything rows higher_level_granted_second
higher_level_granted_second_agrees = record { well_formed = refl; verdict = refl; rows = refl }

pub two_levels_granted_at_once_agrees : Agrees two_levels_granted_at_once
unfolding everything rows two_levels_granted_at_once
two_levels_granted_at_once_agrees = record { well_formed = refl; verdict = refl; rows = refl }

pub another_level_granted_as_the_first_ends_agrees : Agrees another_level_granted_as_the_first_ends
unfolding everything rows another_level_granted_as_the_first_ends
another_level_granted_as_the_first_ends_agrees = record { well_formed = refl; verdict = refl; rows = refl }

pub grant_while_busy_agrees : Agrees grant_while_busy
unfolding everything rows grant_while_busy
grant_while_busy_agrees = record { well_formed = refl; verdict = refl; rows = refl }

pub slot_grants_while_busy_agrees : Agrees slot_grants_while_busy
unfolding everything rows slot_grants_while_busy
slot_grants_while_busy_agrees = record { well_formed = refl; verdict = refl; rows = refl }

pub grant_falls_as_the_bus_is_let_go_agrees : Agrees grant_falls_as_the_bus_is_let_go
unfolding everything rows grant_falls_as_the_bus_is_let_go
grant_falls_as_the_bus_is_let_go_agrees = record { well_formed = refl; verdict = refl; rows = refl }

pub grant_unasked_agrees : Agrees grant_unasked
unfolding everything rows grant_unasked
grant_unasked_agrees = record { well_formed = refl; verdict = refl; rows = refl }

pub request_with_the_grant_agrees : Agrees request_with_the_grant
unfolding everything rows request_with_the_grant
request_with_the_grant_agrees = record { well_formed = refl; verdict = refl; rows = refl }

pub request_low_at_the_start_agrees : Agrees request_low_at_the_start
unfolding everything rows request_low_at_the_start
request_low_at_the_start_agrees = record { well_formed = refl; verdict = refl; rows = refl }

pub request_of_the_grant_before_serves_again_agrees : Agrees request_of_the_grant_before_serves_again
unfolding everything rows request_of_the_grant_before_serves_again
request_of_the_grant_before_serves_again_agrees = record { well_formed = refl; verdict = refl; rows = refl }

pub request_before_another_levels_grant_agrees : Agrees request_before_another_levels_grant
unfolding everything rows request_before_another_levels_grant
request_before_another_levels_grant_agrees = record { well_formed = refl; verdict = refl; rows = refl }

pub request_of_two_grants_before_agrees : Agrees request_of_two_grants_before
unfolding everything rows request_of_two_grants_before
request_of_two_grants_before_agrees = record { well_formed = refl; verdict = refl; rows = refl }

pub grant_withdrawn_agrees : Agrees grant_withdrawn
unfolding everything rows grant_withdrawn
grant_withdrawn_agrees = record { well_formed = refl; verdict = refl; rows = refl }

-- all recordings of `grants` have the verdict and the rows that stand beside them
pub grants_agree : All Agrees grants
grants_agree = All-from_recursion Agrees grants
    (slot_grants_ungranted_agrees & slot_grants_with_its_input_agrees & slot_grants_as_its_input_rises_agrees
    & slot_ends_its_grant_early_agrees & slot_ends_its_grant_as_its_input_falls_agrees & second_level_granted_agrees
    & higher_level_granted_second_agrees & two_levels_granted_at_once_agrees
    & another_level_granted_as_the_first_ends_agrees & grant_while_busy_agrees & slot_grants_while_busy_agrees
    & grant_falls_as_the_bus_is_let_go_agrees & grant_unasked_agrees & request_with_the_grant_agrees
    & request_low_at_the_start_agrees & request_of_the_grant_before_serves_again_agrees
    & request_before_another_levels_grant_agrees & request_of_two_grants_before_agrees & grant_withdrawn_agrees & tt)
