-- Tenures of the bus, and the grants that they take.
use Rattle.std.specs.Prelude.{List, [], ◌∷◌, codes}
use Rattle.vme_trace.specs.LineNumbers.{AS, DS0, DS1, DTACK, BR, BBSY, grant}
use Rattle.vme_trace.specs.declared.rule.Rule.TheVariants.{B1, B2, B3, B4}
use Rattle.vme_trace.specs.declared.verdict.Verdict.TheVariants.{Conforming, Broken}
use Rattle.vme_eval.specs.Recording.{Recording}
use Rattle.vme_eval.specs.Steps.{low, high, addressing, from_idle, from_idle_but, once_granted, passed_on}

-- a grant of level 0 is taken by slot 1
unfoldable pub tenure_on_level_0 : Recording
tenure_on_level_0 = record {
  trace =
      from_idle ((low (BR 0) ∷ []) ∷ (low (grant 0 0) ∷ []) ∷ (low BBSY ∷ high (BR 0) ∷ [])
      ∷ (high (grant 0 0) ∷ []) ∷ (high BBSY ∷ []) ∷ []);
  verdict = Conforming;
  rows = codes "start 1" ∷ codes "tenure 4 level 0 slot 1 end 6" ∷ codes "verdict conforming" ∷ [];
}

-- a grant of level 1 is taken by slot 2
unfoldable pub tenure_on_level_1 : Recording
tenure_on_level_1 = record {
  trace =
      from_idle ((low (BR 1) ∷ []) ∷ (low (grant 1 0) ∷ []) ∷ (low (grant 1 1) ∷ [])
      ∷ (low BBSY ∷ high (BR 1) ∷ []) ∷ (high (grant 1 0) ∷ []) ∷ (high (grant 1 1) ∷ []) ∷ (high BBSY ∷ []) ∷ []);
  verdict = Conforming;
  rows = codes "start 1" ∷ codes "tenure 5 level 1 slot 2 end 8" ∷ codes "verdict conforming" ∷ [];
}

-- a grant of level 2 is taken by slot 3
unfoldable pub tenure_on_level_2 : Recording
tenure_on_level_2 = record {
  trace =
      from_idle ((low (BR 2) ∷ []) ∷ (low (grant 2 0) ∷ []) ∷ (low (grant 2 1) ∷ []) ∷ (low (grant 2 2) ∷ [])
      ∷ (low BBSY ∷ high (BR 2) ∷ []) ∷ (high (grant 2 0) ∷ []) ∷ (high (grant 2 1) ∷ [])
      ∷ (high (grant 2 2) ∷ []) ∷ (high BBSY ∷ []) ∷ []);
  verdict = Conforming;
  rows = codes "start 1" ∷ codes "tenure 6 level 2 slot 3 end 10" ∷ codes "verdict conforming" ∷ [];
}

-- a grant is taken by the last slot
unfoldable pub taken_by_the_last_slot : Recording
taken_by_the_last_slot = record {
  trace =
      passed_on ((low BBSY ∷ high (BR 3) ∷ []) ∷ (high (grant 3 0) ∷ []) ∷ (high (grant 3 1) ∷ [])
      ∷ (high (grant 3 2) ∷ []) ∷ (high BBSY ∷ []) ∷ []);
  verdict = Conforming;
  rows = codes "start 1" ∷ codes "tenure 6 level 3 slot 3 end 10" ∷ codes "verdict conforming" ∷ [];
}

-- the bus is busy where judging starts, and gets free
unfoldable pub open_tenure_ends : Recording
open_tenure_ends = record {
  trace = from_idle_but BBSY ((high BBSY ∷ []) ∷ []);
  verdict = Conforming;
  rows = codes "start 1" ∷ codes "tenure 1 open end 2" ∷ codes "verdict conforming" ∷ [];
}

-- the bus is busy where judging starts, gets free, and then busy by a grant and free again
unfoldable pub tenure_after_an_open_one : Recording
tenure_after_an_open_one = record {
  trace =
      from_idle_but BBSY ((high BBSY ∷ []) ∷ (low (BR 3) ∷ []) ∷ (low (grant 3 0) ∷ [])
      ∷ (low BBSY ∷ high (BR 3) ∷ []) ∷ (high (grant 3 0) ∷ []) ∷ (high BBSY ∷ []) ∷ []);
  verdict = Conforming;
  rows =
      codes "start 1" ∷ codes "tenure 1 open end 2" ∷ codes "tenure 5 level 3 slot 1 end 7"
      ∷ codes "verdict conforming" ∷ [];
}

-- a tenure on level 3 and one on level 2, which both end
unfoldable pub two_tenures : Recording
two_tenures = record {
  trace =
      from_idle ((low (BR 3) ∷ []) ∷ (low (grant 3 0) ∷ []) ∷ (low BBSY ∷ high (BR 3) ∷ [])
      ∷ (high (grant 3 0) ∷ []) ∷ (high BBSY ∷ []) ∷ (low (BR 2) ∷ []) ∷ (low (grant 2 0) ∷ [])
      ∷ (low BBSY ∷ high (BR 2) ∷ []) ∷ (high (grant 2 0) ∷ []) ∷ (high BBSY ∷ []) ∷ []);
  verdict = Conforming;
  rows =
      codes "start 1" ∷ codes "tenure 4 level 3 slot 1 end 6" ∷ codes "tenure 9 level 2 slot 1 end 11"
      ∷ codes "verdict conforming" ∷ [];
}

-- the grant ends as the bus gets busy
unfoldable pub grant_read_at_the_instant_before : Recording
grant_read_at_the_instant_before = record {
  trace =
      from_idle ((low (BR 3) ∷ []) ∷ (low (grant 3 0) ∷ []) ∷ (low (grant 3 1) ∷ [])
      ∷ (low BBSY ∷ high (BR 3) ∷ high (grant 3 0) ∷ []) ∷ (high (grant 3 1) ∷ []) ∷ (high BBSY ∷ []) ∷ []);
  verdict = Conforming;
  rows = codes "start 1" ∷ codes "tenure 5 level 3 slot 2 end 7" ∷ codes "verdict conforming" ∷ [];
}

-- the grant reaches slot 2 as the bus gets busy
unfoldable pub slot_read_as_the_bus_is_taken : Recording
slot_read_as_the_bus_is_taken = record {
  trace =
      from_idle ((low (BR 3) ∷ []) ∷ (low (grant 3 0) ∷ []) ∷ (low BBSY ∷ high (BR 3) ∷ low (grant 3 1) ∷ [])
      ∷ (high (grant 3 0) ∷ []) ∷ (high (grant 3 1) ∷ []) ∷ (high BBSY ∷ []) ∷ []);
  verdict = Conforming;
  rows = codes "start 1" ∷ codes "tenure 4 level 3 slot 2 end 7" ∷ codes "verdict conforming" ∷ [];
}

-- a grant of level 2 falls as that of level 3 ends and the bus gets busy
unfoldable pub another_levels_grant_taken : Recording
another_levels_grant_taken = record {
  trace =
      from_idle ((low (BR 2) ∷ low (BR 3) ∷ []) ∷ (low (grant 3 0) ∷ [])
      ∷ (low BBSY ∷ low (grant 2 0) ∷ high (grant 3 0) ∷ []) ∷ (high (grant 2 0) ∷ []) ∷ []);
  verdict = Conforming;
  rows = codes "start 1" ∷ codes "tenure 4 level 2 slot 1 end -" ∷ codes "verdict conforming" ∷ [];
}

-- a grant of level 3 falls as that of level 2 ends and the bus gets busy
unfoldable pub higher_levels_grant_taken : Recording
higher_levels_grant_taken = record {
  trace =
      from_idle ((low (BR 2) ∷ low (BR 3) ∷ []) ∷ (low (grant 2 0) ∷ [])
      ∷ (low BBSY ∷ high (grant 2 0) ∷ low (grant 3 0) ∷ []) ∷ (high (grant 3 0) ∷ []) ∷ []);
  verdict = Conforming;
  rows = codes "start 1" ∷ codes "tenure 4 level 3 slot 1 end -" ∷ codes "verdict conforming" ∷ [];
}

-- the grant of slot 3 is left from before, and slot 1 takes the bus
unfoldable pub grant_chain_with_a_gap : Recording
grant_chain_with_a_gap = record {
  trace =
      from_idle ((low (BR 3) ∷ []) ∷ (low (grant 3 0) ∷ []) ∷ (low (grant 3 1) ∷ []) ∷ (low (grant 3 2) ∷ [])
      ∷ (high (grant 3 0) ∷ []) ∷ (high (grant 3 1) ∷ []) ∷ (low (grant 3 0) ∷ []) ∷ (low BBSY ∷ []) ∷ []);
  verdict = Conforming;
  rows = codes "start 1" ∷ codes "tenure 9 level 3 slot 1 end -" ∷ codes "verdict conforming" ∷ [];
}

-- the bus gets busy again after all grants ended
unfoldable pub bus_taken_ungranted : Recording
bus_taken_ungranted = record {
  trace =
      passed_on ((low BBSY ∷ high (BR 3) ∷ []) ∷ (high (grant 3 0) ∷ []) ∷ (high (grant 3 1) ∷ [])
      ∷ (high (grant 3 2) ∷ []) ∷ (high BBSY ∷ []) ∷ (low BBSY ∷ []) ∷ []);
  verdict = Broken (record { instant = 11; time = 100; rule = B1; line = BBSY });
  rows = codes "start 1" ∷ codes "tenure 6 level 3 slot 3 end 10" ∷ codes "verdict broken B1 11 BBSY" ∷ [];
}

-- the grant is left on a net that a slot drives
unfoldable pub taken_by_a_slots_grant_alone : Recording
taken_by_a_slots_grant_alone = record {
  trace =
      from_idle ((low (BR 3) ∷ []) ∷ (low (grant 3 0) ∷ []) ∷ (low (grant 3 1) ∷ []) ∷ (high (grant 3 0) ∷ [])
      ∷ (low BBSY ∷ []) ∷ []);
  verdict = Broken (record { instant = 6; time = 50; rule = B1; line = BBSY });
  rows = codes "start 1" ∷ codes "verdict broken B1 6 BBSY" ∷ [];
}

-- the bus is let go early, and taken again by the grant that is still there
unfoldable pub grant_taken_twice : Recording
grant_taken_twice = record {
  trace = passed_on ((low BBSY ∷ high (BR 3) ∷ []) ∷ (high BBSY ∷ []) ∷ (low BBSY ∷ []) ∷ []);
  verdict = Broken (record { instant = 8; time = 70; rule = B2; line = BBSY });
  rows = codes "start 1" ∷ codes "tenure 6 level 3 slot 3 end 7" ∷ codes "verdict broken B2 8 BBSY" ∷ [];
}

-- the grant fell as the bus was taken, and the bus is taken again
unfoldable pub grant_of_the_same_instant_taken_twice : Recording
grant_of_the_same_instant_taken_twice = record {
  trace = from_idle ((low (BR 3) ∷ []) ∷ (low BBSY ∷ low (grant 3 0) ∷ []) ∷ (high BBSY ∷ []) ∷ (low BBSY ∷ []) ∷ []);
  verdict = Broken (record { instant = 5; time = 40; rule = B2; line = BBSY });
  rows = codes "start 1" ∷ codes "tenure 3 level 3 slot 1 end 4" ∷ codes "verdict broken B2 5 BBSY" ∷ [];
}

-- since the bus was taken a grant fell only on a net that a slot drives
unfoldable pub taken_again_by_a_slots_grant : Recording
taken_again_by_a_slots_grant = record {
  trace =
      from_idle ((low (BR 3) ∷ []) ∷ (low (grant 3 0) ∷ []) ∷ (low BBSY ∷ []) ∷ (high BBSY ∷ [])
      ∷ (low (grant 3 1) ∷ []) ∷ (low BBSY ∷ []) ∷ []);
  verdict = Broken (record { instant = 7; time = 60; rule = B2; line = BBSY });
  rows = codes "start 1" ∷ codes "tenure 4 level 3 slot 1 end 5" ∷ codes "verdict broken B2 7 BBSY" ∷ [];
}

-- a second grant is taken, and then the bus again
unfoldable pub third_tenure_without_a_grant : Recording
third_tenure_without_a_grant = record {
  trace =
      from_idle ((low (BR 3) ∷ []) ∷ (low (grant 3 0) ∷ []) ∷ (low BBSY ∷ high (BR 3) ∷ [])
      ∷ (high (grant 3 0) ∷ []) ∷ (high BBSY ∷ []) ∷ (low (BR 3) ∷ []) ∷ (low (grant 3 0) ∷ []) ∷ (low BBSY ∷ [])
      ∷ (high BBSY ∷ []) ∷ (low BBSY ∷ []) ∷ []);
  verdict = Broken (record { instant = 11; time = 100; rule = B2; line = BBSY });
  rows =
      codes "start 1" ∷ codes "tenure 4 level 3 slot 1 end 6" ∷ codes "tenure 9 level 3 slot 1 end 10"
      ∷ codes "verdict broken B2 11 BBSY" ∷ [];
}

-- a cycle starts while the bus is free
unfoldable pub cycle_without_the_bus : Recording
cycle_without_the_bus = record {
  trace = from_idle ((low AS ∷ []) ∷ []);
  verdict = Broken (record { instant = 2; time = 10; rule = B3; line = AS });
  rows = codes "start 1" ∷ codes "verdict broken B3 2 AS" ∷ [];
}

-- a cycle starts as the bus gets busy
unfoldable pub cycle_starts_as_the_bus_is_taken : Recording
cycle_starts_as_the_bus_is_taken = record {
  trace =
      from_idle ((low (BR 3) ∷ []) ∷ (low (grant 3 0) ∷ []) ∷ (low AS ∷ low BBSY ∷ []) ∷ (high (grant 3 0) ∷ [])
      ∷ (high AS ∷ []) ∷ (high BBSY ∷ []) ∷ []);
  verdict = Conforming;
  rows =
      codes "start 1" ∷ codes "tenure 4 level 3 slot 1 end 7" ∷ codes "cycle 4 K 3F FFFFFE end 6"
      ∷ codes "verdict conforming" ∷ [];
}

-- a cycle starts as the bus gets free
unfoldable pub cycle_starts_as_the_bus_is_let_go : Recording
cycle_starts_as_the_bus_is_let_go = record {
  trace =
      once_granted (addressing ∷ (low AS ∷ high BBSY ∷ []) ∷ (low DS0 ∷ low DS1 ∷ []) ∷ (low DTACK ∷ [])
      ∷ (high AS ∷ high DS0 ∷ high DS1 ∷ []) ∷ (high DTACK ∷ []) ∷ []);
  verdict = Conforming;
  rows =
      codes "start 1" ∷ codes "tenure 5 level 3 slot 2 end 9" ∷ codes "cycle 9 S 39 FFFFDE end 12"
      ∷ codes "transfer 10 of 9 read DTACK 11 close 12" ∷ codes "verdict conforming" ∷ [];
}

-- a tenure, a cycle and a transfer start at one instant
unfoldable pub everything_starts_at_one_instant : Recording
everything_starts_at_one_instant = record {
  trace =
      from_idle ((low (BR 3) ∷ []) ∷ (low (grant 3 0) ∷ []) ∷ (low AS ∷ low DS0 ∷ low BBSY ∷ high (BR 3) ∷ [])
      ∷ (high (grant 3 0) ∷ []) ∷ (low DTACK ∷ []) ∷ (high AS ∷ high DS0 ∷ []) ∷ (high DTACK ∷ [])
      ∷ (high BBSY ∷ []) ∷ []);
  verdict = Conforming;
  rows =
      codes "start 1" ∷ codes "tenure 4 level 3 slot 1 end 9" ∷ codes "cycle 4 K 3F FFFFFE end 7"
      ∷ codes "transfer 4 of 4 read DTACK 6 close 7" ∷ codes "verdict conforming" ∷ [];
}

-- the bus is taken by a grant that went past the last slot
unfoldable pub grant_past_last_slot : Recording
grant_past_last_slot = record {
  trace = passed_on ((low (grant 3 3) ∷ []) ∷ (low BBSY ∷ []) ∷ []);
  verdict = Broken (record { instant = 7; time = 60; rule = B4; line = BBSY });
  rows = codes "start 1" ∷ codes "verdict broken B4 7 BBSY" ∷ [];
}

-- the bus is taken as a grant ends that went past the last slot
unfoldable pub past_the_last_slot_as_the_grant_ends : Recording
past_the_last_slot_as_the_grant_ends = record {
  trace = passed_on ((low (grant 3 3) ∷ []) ∷ (low BBSY ∷ high (grant 3 0) ∷ []) ∷ []);
  verdict = Broken (record { instant = 7; time = 60; rule = B4; line = BBSY });
  rows = codes "start 1" ∷ codes "verdict broken B4 7 BBSY" ∷ [];
}

-- all recordings of this module
abbrev pub tenures : List Recording
tenures = tenure_on_level_0 ∷ tenure_on_level_1 ∷ tenure_on_level_2 ∷ taken_by_the_last_slot ∷ open_tenure_ends
    ∷ tenure_after_an_open_one ∷ two_tenures ∷ grant_read_at_the_instant_before ∷ slot_read_as_the_bus_is_taken
    ∷ another_levels_grant_taken ∷ higher_levels_grant_taken ∷ grant_chain_with_a_gap ∷ bus_taken_ungranted
    ∷ taken_by_a_slots_grant_alone ∷ grant_taken_twice ∷ grant_of_the_same_instant_taken_twice
    ∷ taken_again_by_a_slots_grant ∷ third_tenure_without_a_grant ∷ cycle_without_the_bus
    ∷ cycle_starts_as_the_bus_is_taken ∷ cycle_starts_as_the_bus_is_let_go ∷ everything_starts_at_one_instant
    ∷ grant_past_last_slot ∷ past_the_last_slot_as_the_grant_ends ∷ []
