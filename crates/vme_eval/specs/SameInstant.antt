-- Recordings that break two rules at one instant: the break of the rule that comes first is named. Each comment says
-- what the two breaks are of, that one first.
use Rattle.std.specs.Prelude.{List, [], ◌∷◌, codes}
use Rattle.vme_trace.specs.LineNumbers.{AS, DS0, DS1, DTACK, BERR, WRITE, AM, A, BBSY, BR, D, grant, iack}
use Rattle.vme_trace.specs.declared.rule.Rule.TheVariants.{U2, U3, U4, H5, S1, S2, C2, G1, G2, G3, G4, B4, I1, I2, I3}
use Rattle.vme_trace.specs.declared.rule.Rule.TheVariants.{I4}
use Rattle.vme_trace.specs.declared.verdict.Verdict.TheVariants.{Broken, Unreadable}
use Rattle.vme_eval.specs.Recording.{Recording}
use Rattle.vme_eval.specs.Steps.{low, high, unknown, addressing, acknowledging, from_idle, from_idle_but, once_granted}
use Rattle.vme_eval.specs.Steps.{passed_on}

-- the address strobe and a strobe fall together: the modifier, and then the direction
unfoldable pub modifier_and_direction_unknown : Recording
modifier_and_direction_unknown = record {
  trace = once_granted ((unknown (AM 3) ∷ unknown WRITE ∷ []) ∷ (low AS ∷ low DS0 ∷ []) ∷ []);
  verdict = Unreadable (record { instant = 9; time = 80; rule = U2; line = AM 3 });
  rows = codes "start 1" ∷ codes "tenure 5 level 3 slot 2 end -" ∷ codes "verdict unreadable U2 9 AM3" ∷ [];
}

-- the direction, and then the answer of the transfer before
unfoldable pub direction_unknown_as_the_answer_is_low : Recording
direction_unknown_as_the_answer_is_low = record {
  trace =
      once_granted ((low (AM 2) ∷ low (A 5) ∷ []) ∷ (low AS ∷ []) ∷ (low DS0 ∷ low DS1 ∷ []) ∷ (low BERR ∷ [])
      ∷ (high DS0 ∷ high DS1 ∷ []) ∷ (unknown WRITE ∷ []) ∷ (low DS0 ∷ []) ∷ []);
  verdict = Unreadable (record { instant = 14; time = 130; rule = U3; line = WRITE });
  rows =
      codes "start 1" ∷ codes "tenure 5 level 3 slot 2 end -" ∷ codes "cycle 9 K 3B FFFFDE end -"
      ∷ codes "transfer 10 of 9 read BERR 11 close 12" ∷ codes "verdict unreadable U3 14 WRITE" ∷ [];
}

-- a data line, and then the answer of the transfer before
unfoldable pub data_unknown_as_the_answer_is_low : Recording
data_unknown_as_the_answer_is_low = record {
  trace =
      once_granted ((low (AM 1) ∷ low (A 5) ∷ []) ∷ (low AS ∷ []) ∷ (low DS0 ∷ low DS1 ∷ []) ∷ (low BERR ∷ [])
      ∷ (high DS0 ∷ high DS1 ∷ []) ∷ (low WRITE ∷ unknown (D 3) ∷ []) ∷ (low DS0 ∷ []) ∷ []);
  verdict = Unreadable (record { instant = 14; time = 130; rule = U4; line = D 3 });
  rows =
      codes "start 1" ∷ codes "tenure 5 level 3 slot 2 end -" ∷ codes "cycle 9 S 3D FFFFDE end -"
      ∷ codes "transfer 10 of 9 read BERR 11 close 12" ∷ codes "verdict unreadable U4 14 D03" ∷ [];
}

-- the second answer, and then the first one that rises
unfoldable pub answered_again_as_the_answer_is_withdrawn : Recording
answered_again_as_the_answer_is_withdrawn = record {
  trace =
      once_granted (addressing ∷ (low AS ∷ []) ∷ (low DS0 ∷ []) ∷ (low DTACK ∷ []) ∷ (high DTACK ∷ low BERR ∷ []) ∷ []);
  verdict = Broken (record { instant = 12; time = 110; rule = H5; line = BERR });
  rows =
      codes "start 1" ∷ codes "tenure 5 level 3 slot 2 end -" ∷ codes "cycle 9 S 39 FFFFDE end -"
      ∷ codes "transfer 10 of 9 read DTACK 11 close -" ∷ codes "verdict broken H5 12 BERR" ∷ [];
}

-- the address, and then the direction
unfoldable pub address_and_direction_change : Recording
address_and_direction_change = record {
  trace = once_granted (addressing ∷ (low AS ∷ []) ∷ (low DS0 ∷ low DS1 ∷ []) ∷ (low WRITE ∷ high (A 5) ∷ []) ∷ []);
  verdict = Broken (record { instant = 11; time = 100; rule = S1; line = A 5 });
  rows =
      codes "start 1" ∷ codes "tenure 5 level 3 slot 2 end -" ∷ codes "cycle 9 S 39 FFFFDE end -"
      ∷ codes "transfer 10 read pending" ∷ codes "verdict broken S1 11 A05" ∷ [];
}

-- the direction, and then a data line
unfoldable pub direction_and_data_change : Recording
direction_and_data_change = record {
  trace =
      once_granted ((low (AM 1) ∷ low (AM 2) ∷ low WRITE ∷ low (A 5) ∷ []) ∷ (low AS ∷ []) ∷ (low DS0 ∷ low DS1 ∷ [])
      ∷ (high WRITE ∷ low (D 3) ∷ []) ∷ []);
  verdict = Broken (record { instant = 11; time = 100; rule = S2; line = WRITE });
  rows =
      codes "start 1" ∷ codes "tenure 5 level 3 slot 2 end -" ∷ codes "cycle 9 S 39 FFFFDE end -"
      ∷ codes "transfer 10 write pending" ∷ codes "verdict broken S2 11 WRITE" ∷ [];
}

-- the direction, and then the second read
unfoldable pub direction_changes_with_a_second_answer : Recording
direction_changes_with_a_second_answer = record {
  trace =
      once_granted ((low (AM 1) ∷ low (A 5) ∷ []) ∷ (low AS ∷ []) ∷ (low DS0 ∷ low DS1 ∷ []) ∷ (low DTACK ∷ [])
      ∷ (high DS0 ∷ high DS1 ∷ []) ∷ (high DTACK ∷ []) ∷ (low DS0 ∷ low DS1 ∷ []) ∷ (low DTACK ∷ low WRITE ∷ [])
      ∷ []);
  verdict = Broken (record { instant = 15; time = 140; rule = S2; line = WRITE });
  rows =
      codes "start 1" ∷ codes "tenure 5 level 3 slot 2 end -" ∷ codes "cycle 9 S 3D FFFFDE end -"
      ∷ codes "transfer 10 of 9 read DTACK 11 close 12" ∷ codes "transfer 14 read pending"
      ∷ codes "verdict broken S2 15 WRITE" ∷ [];
}

-- the block transfer, and then the grant
unfoldable pub block_turns_as_a_slot_grants : Recording
block_turns_as_a_slot_grants = record {
  trace =
      once_granted ((low (AM 2) ∷ low (A 5) ∷ []) ∷ (low AS ∷ []) ∷ (low DS0 ∷ low DS1 ∷ []) ∷ (low DTACK ∷ [])
      ∷ (high DS0 ∷ high DS1 ∷ []) ∷ (high DTACK ∷ []) ∷ (low WRITE ∷ []) ∷ (low DS0 ∷ low DS1 ∷ [])
      ∷ (low DTACK ∷ low (grant 3 2) ∷ []) ∷ []);
  verdict = Broken (record { instant = 16; time = 150; rule = C2; line = DTACK });
  rows =
      codes "start 1" ∷ codes "tenure 5 level 3 slot 2 end -" ∷ codes "cycle 9 K 3B FFFFDE end -"
      ∷ codes "transfer 10 of 9 read DTACK 11 close 12" ∷ codes "transfer 15 write pending"
      ∷ codes "verdict broken C2 16 DTACK" ∷ [];
}

-- the output that falls, and then the one that rises
unfoldable pub slot_grants_as_another_ends_its_grant : Recording
slot_grants_as_another_ends_its_grant = record {
  trace =
      from_idle ((low (BR 3) ∷ []) ∷ (low (grant 3 0) ∷ []) ∷ (low (grant 3 1) ∷ [])
      ∷ (low (grant 2 2) ∷ high (grant 3 1) ∷ []) ∷ []);
  verdict = Broken (record { instant = 5; time = 40; rule = G1; line = grant 2 2 });
  rows = codes "start 1" ∷ codes "verdict broken G1 5 BG2.2" ∷ [];
}

-- the output that rises, and then the second level
unfoldable pub slot_ends_its_grant_as_a_level_is_granted : Recording
slot_ends_its_grant_as_a_level_is_granted = record {
  trace =
      from_idle ((low (BR 2) ∷ low (BR 3) ∷ []) ∷ (low (grant 3 0) ∷ []) ∷ (low (grant 3 1) ∷ [])
      ∷ (low (grant 2 0) ∷ high (grant 3 1) ∷ []) ∷ []);
  verdict = Broken (record { instant = 5; time = 40; rule = G2; line = grant 3 1 });
  rows = codes "start 1" ∷ codes "verdict broken G2 5 BG3.1" ∷ [];
}

-- the second level, and then that the bus is busy
unfoldable pub two_levels_granted_while_busy : Recording
two_levels_granted_while_busy = record {
  trace = once_granted ((low (BR 2) ∷ low (BR 3) ∷ []) ∷ (low (grant 2 0) ∷ low (grant 3 0) ∷ []) ∷ []);
  verdict = Broken (record { instant = 9; time = 80; rule = G3; line = grant 2 0 });
  rows = codes "start 1" ∷ codes "tenure 5 level 3 slot 2 end -" ∷ codes "verdict broken G3 9 BG2.0" ∷ [];
}

-- that the bus is busy, and then that nobody requested
unfoldable pub unasked_level_granted_while_busy : Recording
unasked_level_granted_while_busy = record {
  trace = once_granted ((low (grant 2 0) ∷ []) ∷ []);
  verdict = Broken (record { instant = 8; time = 70; rule = G4; line = grant 2 0 });
  rows = codes "start 1" ∷ codes "tenure 5 level 3 slot 2 end -" ∷ codes "verdict broken G4 8 BG2.0" ∷ [];
}

-- the tenure, and then the acknowledge
unfoldable pub past_the_last_slot_with_an_acknowledge : Recording
past_the_last_slot_with_an_acknowledge = record {
  trace = passed_on ((low (grant 3 3) ∷ []) ∷ (low BBSY ∷ low (iack 1) ∷ []) ∷ []);
  verdict = Broken (record { instant = 7; time = 60; rule = B4; line = BBSY });
  rows = codes "start 1" ∷ codes "verdict broken B4 7 BBSY" ∷ [];
}

-- the input, and then the strobes
unfoldable pub acknowledge_of_nothing : Recording
acknowledge_of_nothing = record {
  trace = from_idle ((low (iack 1) ∷ []) ∷ []);
  verdict = Broken (record { instant = 2; time = 10; rule = I1; line = iack 1 });
  rows = codes "start 1" ∷ codes "verdict broken I1 2 IA.1" ∷ [];
}

-- the strobes, and then the answer
unfoldable pub acknowledge_after_answer_and_strobe : Recording
acknowledge_after_answer_and_strobe = record {
  trace =
      once_granted (acknowledging ∷ (low AS ∷ []) ∷ (low DS0 ∷ []) ∷ (low DTACK ∷ []) ∷ (high DS0 ∷ [])
      ∷ (high DTACK ∷ []) ∷ (low (iack 1) ∷ []) ∷ []);
  verdict = Broken (record { instant = 14; time = 130; rule = I2; line = iack 1 });
  rows =
      codes "start 1" ∷ codes "tenure 5 level 3 slot 2 end -" ∷ codes "cycle 9 I 5 end -"
      ∷ codes "transfer 10 of 9 read DTACK 11 close 12" ∷ codes "verdict broken I2 14 IA.1" ∷ [];
}

-- the acknowledge, and then the write
unfoldable pub acknowledge_with_a_second_write : Recording
acknowledge_with_a_second_write = record {
  trace =
      once_granted (acknowledging ∷ (low AS ∷ []) ∷ (low DS0 ∷ []) ∷ (low DTACK ∷ []) ∷ (high DS0 ∷ [])
      ∷ (high DTACK ∷ low WRITE ∷ []) ∷ (low DS0 ∷ []) ∷ (low DTACK ∷ low (iack 1) ∷ []) ∷ []);
  verdict = Broken (record { instant = 15; time = 140; rule = I3; line = iack 1 });
  rows =
      codes "start 1" ∷ codes "tenure 5 level 3 slot 2 end -" ∷ codes "cycle 9 I 5 end -"
      ∷ codes "transfer 10 of 9 read DTACK 11 close 12" ∷ codes "transfer 14 write pending"
      ∷ codes "verdict broken I3 15 IA.1" ∷ [];
}

-- the write, and then the second transfer
unfoldable pub second_acknowledge_is_a_write : Recording
second_acknowledge_is_a_write = record {
  trace =
      once_granted (acknowledging ∷ (low AS ∷ []) ∷ (low DS0 ∷ []) ∷ (low DTACK ∷ []) ∷ (high DS0 ∷ [])
      ∷ (high DTACK ∷ low WRITE ∷ []) ∷ (low DS0 ∷ []) ∷ (low DTACK ∷ []) ∷ []);
  verdict = Broken (record { instant = 15; time = 140; rule = I4; line = DTACK });
  rows =
      codes "start 1" ∷ codes "tenure 5 level 3 slot 2 end -" ∷ codes "cycle 9 I 5 end -"
      ∷ codes "transfer 10 of 9 read DTACK 11 close 12" ∷ codes "transfer 14 write pending"
      ∷ codes "verdict broken I4 15 DTACK" ∷ [];
}

-- the address, and then a data line
unfoldable pub address_and_data_unknown : Recording
address_and_data_unknown = record {
  trace = from_idle_but BBSY ((low AS ∷ low DS0 ∷ low WRITE ∷ unknown (A 5) ∷ unknown (D 0) ∷ []) ∷ []);
  verdict = Unreadable (record { instant = 2; time = 10; rule = U2; line = A 5 });
  rows = codes "start 1" ∷ codes "tenure 1 open end -" ∷ codes "verdict unreadable U2 2 A05" ∷ [];
}

-- all recordings of this module
abbrev pub same_instant : List Recording
same_instant = modifier_and_direction_unknown ∷ direction_unknown_as_the_answer_is_low
    ∷ data_unknown_as_the_answer_is_low ∷ answered_again_as_the_answer_is_withdrawn ∷ address_and_direction_change
    ∷ direction_and_data_change ∷ direction_changes_with_a_second_answer ∷ block_turns_as_a_slot_grants
    ∷ slot_grants_as_another_ends_its_grant ∷ slot_ends_its_grant_as_a_level_is_granted
    ∷ two_levels_granted_while_busy ∷ unasked_level_granted_while_busy ∷ past_the_last_slot_with_an_acknowledge
    ∷ acknowledge_of_nothing ∷ acknowledge_after_answer_and_strobe ∷ acknowledge_with_a_second_write
    ∷ second_acknowledge_is_a_write ∷ address_and_data_unknown ∷ []
