-- Which rules recordings ask: for each event one in which it happens, and similar ones in which it doesn't.
use Rattle.std.specs.Prelude.{List, [], ◌∷◌}
use Rattle.vme_trace.specs.LineNumbers.{AS, DS0, DS1, DTACK, BERR, IACK, WRITE, AM, BBSY, BR, SYSRESET, grant, iack}
use Rattle.vme_trace.specs.Trace.{Trace}
use Rattle.vme_trace.specs.declared.rule.Rule.{Rule}
use Rattle.vme_trace.specs.declared.rule.Rule.TheVariants.{U1, U2, U3, U4, H1, H2, H3, H4, H5, H6, H7, H8, S1, S2, S3}
use Rattle.vme_trace.specs.declared.rule.Rule.TheVariants.{C1, C2, G1, G2, G3, G4, G5, B1, B2, B3, B4, I1, I2, I3, I4}
use Rattle.vme_trace.specs.declared.rule.Rule.TheVariants.{I5}
use Rattle.vme_trace.specs.declared.step.Change.{Change}
use Rattle.vme_eval.specs.Steps.{low, high, unknown_lines, steps_from, from_idle, from_idle_but}
use Rattle.vme_eval.specs.Steps.{transfer_on_busy_bus}
use Rattle.vme_audit_eval.specs.Audited.{Asking}

abbrev pub asks : Trace → List Rule → Asking
asks t rules = record { trace = t; asked = rules }

-- a bus that is never idle asks nothing, though its strobe falls, and an idle one only that its lines stay known
unfoldable pub never_idle : Asking
never_idle = asks (record { opening = unknown_lines; steps = steps_from 0 ((high AS ∷ []) ∷ (low AS ∷ []) ∷ []) }) []

unfoldable pub idle : Asking
idle = asks (from_idle []) (U1 ∷ [])

-- a strobe rises, and with that the bus is idle: the rise isn't judged
unfoldable pub strobe_rises_at_the_start : Asking
strobe_rises_at_the_start = asks (from_idle_but AS ((high AS ∷ []) ∷ [])) (U1 ∷ [])

-- the address strobe falls, and then rises
unfoldable pub cycle_starts : Asking
cycle_starts = asks (from_idle_but BBSY ((low AS ∷ []) ∷ [])) (U1 ∷ U2 ∷ S1 ∷ B3 ∷ [])

unfoldable pub cycle_ends : Asking
cycle_ends = asks (from_idle_but BBSY ((low AS ∷ []) ∷ (high AS ∷ []) ∷ [])) (U1 ∷ U2 ∷ H7 ∷ S1 ∷ B3 ∷ [])

-- the address strobe falls as the bus is reset, or after a reset
unfoldable pub cycle_starts_with_a_reset : Asking
cycle_starts_with_a_reset = asks (from_idle_but BBSY ((low AS ∷ low SYSRESET ∷ []) ∷ [])) (U1 ∷ [])

unfoldable pub cycle_starts_after_a_reset : Asking
cycle_starts_after_a_reset =
    asks (from_idle_but BBSY ((low SYSRESET ∷ []) ∷ (high SYSRESET ∷ []) ∷ (low AS ∷ []) ∷ [])) (U1 ∷ U2 ∷ S1 ∷ B3 ∷ [])

-- a strobe falls, or both do
unfoldable pub transfer_starts : Asking
transfer_starts = asks (from_idle ((low DS0 ∷ []) ∷ [])) (U1 ∷ U3 ∷ H1 ∷ S2 ∷ [])

unfoldable pub transfer_starts_by_both : Asking
transfer_starts_by_both = asks (from_idle ((low DS0 ∷ low DS1 ∷ []) ∷ [])) (U1 ∷ U3 ∷ H1 ∷ S2 ∷ [])

-- a write starts, and a read that WRITE follows
unfoldable pub write_starts : Asking
write_starts = asks (from_idle ((low WRITE ∷ []) ∷ (low DS1 ∷ []) ∷ [])) (U1 ∷ U3 ∷ U4 ∷ H1 ∷ S2 ∷ S3 ∷ [])

unfoldable pub write_after_a_read_starts : Asking
write_after_a_read_starts = asks (from_idle ((low DS1 ∷ []) ∷ (low WRITE ∷ []) ∷ [])) (U1 ∷ U3 ∷ H1 ∷ S2 ∷ [])

-- a strobe rises, or the other one falls, after the start
unfoldable pub strobe_rises : Asking
strobe_rises = asks (from_idle ((low DS0 ∷ []) ∷ (high DS0 ∷ []) ∷ [])) (U1 ∷ U3 ∷ H1 ∷ H2 ∷ S2 ∷ [])

unfoldable pub second_strobe_rises : Asking
second_strobe_rises =
    asks (from_idle ((low DS0 ∷ low DS1 ∷ []) ∷ (high DS1 ∷ []) ∷ [])) (U1 ∷ U3 ∷ H1 ∷ H2 ∷ S2 ∷ [])

unfoldable pub second_strobe_falls : Asking
second_strobe_falls = asks (from_idle ((low DS0 ∷ []) ∷ (low DS1 ∷ []) ∷ [])) (U1 ∷ U3 ∷ H1 ∷ H3 ∷ S2 ∷ [])

-- an answer line falls: each of the two
unfoldable pub answer_falls : Asking
answer_falls = asks (from_idle ((low DTACK ∷ []) ∷ [])) (U1 ∷ H4 ∷ H5 ∷ [])

unfoldable pub bus_error_falls : Asking
bus_error_falls = asks (from_idle ((low BERR ∷ []) ∷ [])) (U1 ∷ H4 ∷ H5 ∷ [])

-- an answer line falls as the bus is reset
unfoldable pub answer_falls_with_a_reset : Asking
answer_falls_with_a_reset = asks (from_idle ((low DTACK ∷ low SYSRESET ∷ []) ∷ [])) (U1 ∷ [])

-- after a break an answer line rises, and with that the bus is idle: the rise isn't judged
unfoldable pub answer_rises_at_the_start : Asking
answer_rises_at_the_start = asks (from_idle ((low DTACK ∷ []) ∷ (high DTACK ∷ []) ∷ [])) (U1 ∷ H4 ∷ H5 ∷ [])

-- a cycle starts after a break, before the bus is idle again, or after it was
unfoldable pub cycle_starts_after_a_break : Asking
cycle_starts_after_a_break = asks (from_idle_but BBSY ((low DTACK ∷ []) ∷ (low AS ∷ []) ∷ [])) (U1 ∷ H4 ∷ H5 ∷ [])

unfoldable pub cycle_starts_in_the_next_part : Asking
cycle_starts_in_the_next_part =
    asks (from_idle_but BBSY ((low DTACK ∷ []) ∷ (high DTACK ∷ []) ∷ (low AS ∷ []) ∷ []))
    (U1 ∷ U2 ∷ H4 ∷ H5 ∷ S1 ∷ B3 ∷ [])

-- a transfer is answered, by a line that then rises
unfoldable pub transfer_is_answered : Asking
transfer_is_answered =
    asks (transfer_on_busy_bus (low (AM 1) ∷ []) ((low DTACK ∷ []) ∷ []))
    (U1 ∷ U2 ∷ U3 ∷ H1 ∷ H4 ∷ H5 ∷ H8 ∷ S1 ∷ S2 ∷ B3 ∷ [])

unfoldable pub answer_rises : Asking
answer_rises =
    asks (transfer_on_busy_bus (low (AM 1) ∷ []) ((low DTACK ∷ []) ∷ (high DTACK ∷ []) ∷ []))
    (U1 ∷ U2 ∷ U3 ∷ H1 ∷ H4 ∷ H5 ∷ H6 ∷ H8 ∷ S1 ∷ S2 ∷ B3 ∷ [])

unfoldable pub bus_error_rises : Asking
bus_error_rises =
    asks (transfer_on_busy_bus (low (AM 1) ∷ []) ((low BERR ∷ []) ∷ (high BERR ∷ []) ∷ []))
    (U1 ∷ U2 ∷ U3 ∷ H1 ∷ H4 ∷ H5 ∷ H6 ∷ H8 ∷ S1 ∷ S2 ∷ B3 ∷ [])

-- two transfers of a cycle are answered, by its class
abbrev pub answered_twice : List Change → Trace
answered_twice changes =
    transfer_on_busy_bus changes
    ((low DTACK ∷ []) ∷ (high DS0 ∷ []) ∷ (high DTACK ∷ []) ∷ (low DS0 ∷ []) ∷ (low DTACK ∷ []) ∷ [])

unfoldable pub two_of_a_single_cycle : Asking
two_of_a_single_cycle =
    asks (answered_twice (low (AM 1) ∷ []))
    (U1 ∷ U2 ∷ U3 ∷ H1 ∷ H2 ∷ H4 ∷ H5 ∷ H6 ∷ H8 ∷ S1 ∷ S2 ∷ C1 ∷ B3 ∷ [])

unfoldable pub two_of_a_block_cycle : Asking
two_of_a_block_cycle =
    asks (answered_twice (low (AM 2) ∷ []))
    (U1 ∷ U2 ∷ U3 ∷ H1 ∷ H2 ∷ H4 ∷ H5 ∷ H6 ∷ H8 ∷ S1 ∷ S2 ∷ C2 ∷ B3 ∷ [])

unfoldable pub two_of_a_free_cycle : Asking
two_of_a_free_cycle =
    asks (answered_twice (low (AM 5) ∷ []))
    (U1 ∷ U2 ∷ U3 ∷ H1 ∷ H2 ∷ H4 ∷ H5 ∷ H6 ∷ H8 ∷ S1 ∷ S2 ∷ B3 ∷ [])

unfoldable pub two_of_an_acknowledge_cycle : Asking
two_of_an_acknowledge_cycle =
    asks (answered_twice (low IACK ∷ []))
    (U1 ∷ U2 ∷ U3 ∷ H1 ∷ H2 ∷ H4 ∷ H5 ∷ H6 ∷ H8 ∷ S1 ∷ S2 ∷ B3 ∷ I4 ∷ I5 ∷ [])

-- one transfer of a cycle is answered, by its class: only an interrupt acknowledge has a rule for that
unfoldable pub one_of_a_block_cycle : Asking
one_of_a_block_cycle =
    asks (transfer_on_busy_bus (low (AM 2) ∷ []) ((low DTACK ∷ []) ∷ []))
    (U1 ∷ U2 ∷ U3 ∷ H1 ∷ H4 ∷ H5 ∷ H8 ∷ S1 ∷ S2 ∷ B3 ∷ [])

unfoldable pub one_of_an_acknowledge_cycle : Asking
one_of_an_acknowledge_cycle =
    asks (transfer_on_busy_bus (low IACK ∷ []) ((low DTACK ∷ []) ∷ []))
    (U1 ∷ U2 ∷ U3 ∷ H1 ∷ H4 ∷ H5 ∷ H8 ∷ S1 ∷ S2 ∷ B3 ∷ I4 ∷ [])

-- an acknowledge that isn't answered
unfoldable pub unanswered_acknowledge : Asking
unanswered_acknowledge = asks (transfer_on_busy_bus (low IACK ∷ []) []) (U1 ∷ U2 ∷ U3 ∷ H1 ∷ S1 ∷ S2 ∷ B3 ∷ [])

-- two transfers are answered, each in a cycle of its own
unfoldable pub two_of_two_cycles : Asking
two_of_two_cycles =
    asks
    (transfer_on_busy_bus (low (AM 1) ∷ [])
    ((low DTACK ∷ []) ∷ (high AS ∷ high DS0 ∷ []) ∷ (high DTACK ∷ []) ∷ (low AS ∷ []) ∷ (low DS0 ∷ [])
    ∷ (low DTACK ∷ [])
    ∷ []))
    (U1 ∷ U2 ∷ U3 ∷ H1 ∷ H2 ∷ H4 ∷ H5 ∷ H6 ∷ H7 ∷ H8 ∷ S1 ∷ S2 ∷ B3 ∷ [])

-- a level is requested and granted, a slot passes the grant on, the bus is taken, and both grants end
unfoldable pub level_is_requested : Asking
level_is_requested = asks (from_idle ((low (BR 3) ∷ []) ∷ [])) (U1 ∷ [])

unfoldable pub level_is_granted : Asking
level_is_granted = asks (from_idle ((low (BR 3) ∷ []) ∷ (low (grant 3 0) ∷ []) ∷ [])) (U1 ∷ G3 ∷ G4 ∷ G5 ∷ [])

unfoldable pub grant_is_passed_on : Asking
grant_is_passed_on =
    asks (from_idle ((low (BR 3) ∷ []) ∷ (low (grant 3 0) ∷ []) ∷ (low (grant 3 1) ∷ []) ∷ []))
    (U1 ∷ G1 ∷ G3 ∷ G4 ∷ G5 ∷ [])

unfoldable pub arbiter_ends_its_grant : Asking
arbiter_ends_its_grant =
    asks (from_idle ((low (BR 3) ∷ []) ∷ (low (grant 3 0) ∷ []) ∷ (low (grant 3 1) ∷ []) ∷ (high (grant 3 0) ∷ [])
    ∷ []))
    (U1 ∷ G1 ∷ G3 ∷ G4 ∷ G5 ∷ [])

unfoldable pub slot_ends_its_grant : Asking
slot_ends_its_grant =
    asks
    (from_idle
    ((low (BR 3) ∷ []) ∷ (low (grant 3 0) ∷ []) ∷ (low (grant 3 1) ∷ []) ∷ (high (grant 3 0) ∷ [])
    ∷ (high (grant 3 1) ∷ []) ∷ []))
    (U1 ∷ G1 ∷ G2 ∷ G3 ∷ G4 ∷ G5 ∷ [])

-- the last slot passes a grant on at level 0, without having one
unfoldable pub slot_grants : Asking
slot_grants = asks (from_idle ((low (grant 0 3) ∷ []) ∷ [])) (U1 ∷ G1 ∷ G4 ∷ [])

-- the bus becomes busy, and free
unfoldable pub bus_is_taken : Asking
bus_is_taken = asks (from_idle ((low BBSY ∷ []) ∷ [])) (U1 ∷ B1 ∷ B2 ∷ B4 ∷ [])

unfoldable pub bus_is_let_go : Asking
bus_is_let_go = asks (from_idle_but BBSY ((high BBSY ∷ []) ∷ [])) (U1 ∷ [])

-- a slot passes an acknowledge on: the first slot, or the last one
unfoldable pub slot_acknowledges : Asking
slot_acknowledges = asks (from_idle ((low (iack 1) ∷ []) ∷ [])) (U1 ∷ I1 ∷ I2 ∷ I3 ∷ [])

unfoldable pub last_slot_acknowledges : Asking
last_slot_acknowledges = asks (from_idle ((low (iack 3) ∷ []) ∷ [])) (U1 ∷ I1 ∷ I2 ∷ I3 ∷ [])

-- an acknowledge is asked for, and no slot passes it on
unfoldable pub acknowledge_is_asked_for : Asking
acknowledge_is_asked_for = asks (from_idle ((low IACK ∷ []) ∷ [])) (U1 ∷ [])

abbrev pub asking : List Asking
asking = never_idle ∷ idle ∷ strobe_rises_at_the_start ∷ cycle_starts ∷ cycle_ends ∷ cycle_starts_with_a_reset
    ∷ cycle_starts_after_a_reset ∷ transfer_starts ∷ transfer_starts_by_both ∷ write_starts
    ∷ write_after_a_read_starts ∷ strobe_rises ∷ second_strobe_rises ∷ second_strobe_falls ∷ answer_falls
    ∷ bus_error_falls ∷ answer_falls_with_a_reset ∷ answer_rises_at_the_start ∷ cycle_starts_after_a_break
    ∷ cycle_starts_in_the_next_part
    ∷ transfer_is_answered ∷ answer_rises ∷ bus_error_rises ∷ two_of_a_single_cycle ∷ two_of_a_block_cycle
    ∷ two_of_a_free_cycle ∷ two_of_an_acknowledge_cycle ∷ one_of_a_block_cycle ∷ one_of_an_acknowledge_cycle
    ∷ unanswered_acknowledge ∷ two_of_two_cycles ∷ level_is_requested ∷ level_is_granted ∷ grant_is_passed_on
    ∷ arbiter_ends_its_grant ∷ slot_ends_its_grant ∷ slot_grants ∷ bus_is_taken ∷ bus_is_let_go ∷ slot_acknowledges
    ∷ last_slot_acknowledges ∷ acknowledge_is_asked_for ∷ []
