-- Interrupt acknowledges along their chain.
use Rattle.std.specs.Prelude.{List, [], ◌∷◌, codes}
use Rattle.vme_trace.specs.LineNumbers.{AS, DS0, DS1, DTACK, BERR, IACK, WRITE, A, BBSY, iack}
use Rattle.vme_trace.specs.declared.rule.Rule.TheVariants.{I1, I2, I3, I4, I5}
use Rattle.vme_trace.specs.declared.verdict.Verdict.TheVariants.{Conforming, Broken}
use Rattle.vme_eval.specs.Recording.{Recording}
use Rattle.vme_eval.specs.Steps.{low, high, addressing, acknowledging, once_granted}

-- slot 1 passes an acknowledge of level 5 on
unfoldable pub acknowledge_cycle : Recording
acknowledge_cycle = record {
  trace =
      once_granted (acknowledging ∷ (low AS ∷ []) ∷ (low DS0 ∷ []) ∷ (low (iack 1) ∷ []) ∷ (low DTACK ∷ [])
      ∷ (high AS ∷ high DS0 ∷ high (iack 1) ∷ []) ∷ (high DTACK ∷ high IACK ∷ []) ∷ (high BBSY ∷ []) ∷ []);
  verdict = Conforming;
  rows =
      codes "start 1" ∷ codes "tenure 5 level 3 slot 2 end 15" ∷ codes "cycle 9 I 5 end 13"
      ∷ codes "transfer 10 of 9 read DTACK 12 close 13" ∷ codes "verdict conforming" ∷ [];
}

-- an acknowledge of level 3
unfoldable pub acknowledge_of_level_3 : Recording
acknowledge_of_level_3 = record {
  trace =
      once_granted ((low IACK ∷ low (A 3) ∷ []) ∷ (low AS ∷ []) ∷ (low DS0 ∷ []) ∷ (low DTACK ∷ [])
      ∷ (high AS ∷ high DS0 ∷ []) ∷ (high DTACK ∷ high IACK ∷ []) ∷ (high BBSY ∷ []) ∷ []);
  verdict = Conforming;
  rows =
      codes "start 1" ∷ codes "tenure 5 level 3 slot 2 end 14" ∷ codes "cycle 9 I 3 end 12"
      ∷ codes "transfer 10 of 9 read DTACK 11 close 12" ∷ codes "verdict conforming" ∷ [];
}

-- slot 2 passes an acknowledge on before slot 1 does
unfoldable pub acknowledge_skips_slot : Recording
acknowledge_skips_slot = record {
  trace = once_granted (acknowledging ∷ (low AS ∷ []) ∷ (low DS0 ∷ []) ∷ (low (iack 2) ∷ []) ∷ []);
  verdict = Broken (record { instant = 11; time = 100; rule = I1; line = iack 2 });
  rows =
      codes "start 1" ∷ codes "tenure 5 level 3 slot 2 end -" ∷ codes "cycle 9 I 5 end -"
      ∷ codes "transfer 10 read pending" ∷ codes "verdict broken I1 11 IA.2" ∷ [];
}

-- slot 1 passes an acknowledge on while there is none
unfoldable pub acknowledge_outside_an_acknowledge_cycle : Recording
acknowledge_outside_an_acknowledge_cycle = record {
  trace = once_granted (addressing ∷ (low AS ∷ []) ∷ (low DS0 ∷ []) ∷ (low (iack 1) ∷ []) ∷ []);
  verdict = Broken (record { instant = 11; time = 100; rule = I1; line = iack 1 });
  rows =
      codes "start 1" ∷ codes "tenure 5 level 3 slot 2 end -" ∷ codes "cycle 9 S 39 FFFFDE end -"
      ∷ codes "transfer 10 read pending" ∷ codes "verdict broken I1 11 IA.1" ∷ [];
}

-- slot 1 passes an acknowledge on as it is asked for
unfoldable pub acknowledge_with_its_input : Recording
acknowledge_with_its_input = record {
  trace =
      once_granted ((low (A 2) ∷ []) ∷ (low AS ∷ low DS0 ∷ low IACK ∷ low (iack 1) ∷ []) ∷ (low DTACK ∷ [])
      ∷ (high AS ∷ high DS0 ∷ high (iack 1) ∷ []) ∷ (high DTACK ∷ high IACK ∷ []) ∷ []);
  verdict = Conforming;
  rows =
      codes "start 1" ∷ codes "tenure 5 level 3 slot 2 end -" ∷ codes "cycle 9 I 5 end 11"
      ∷ codes "transfer 9 of 9 read DTACK 10 close 11" ∷ codes "verdict conforming" ∷ [];
}

-- slot 2 passes an acknowledge on as its input rises
unfoldable pub acknowledge_as_its_input_rises : Recording
acknowledge_as_its_input_rises = record {
  trace =
      once_granted (acknowledging ∷ (low AS ∷ []) ∷ (low DS0 ∷ []) ∷ (low (iack 1) ∷ [])
      ∷ (high (iack 1) ∷ low (iack 2) ∷ []) ∷ (low DTACK ∷ []) ∷ []);
  verdict = Conforming;
  rows =
      codes "start 1" ∷ codes "tenure 5 level 3 slot 2 end -" ∷ codes "cycle 9 I 5 end -"
      ∷ codes "transfer 10 of 9 read DTACK 13 close -" ∷ codes "verdict conforming" ∷ [];
}

-- an acknowledge is passed on before a strobe falls
unfoldable pub acknowledge_before_strobe : Recording
acknowledge_before_strobe = record {
  trace = once_granted (acknowledging ∷ (low AS ∷ []) ∷ (low (iack 1) ∷ []) ∷ []);
  verdict = Broken (record { instant = 10; time = 90; rule = I2; line = iack 1 });
  rows =
      codes "start 1" ∷ codes "tenure 5 level 3 slot 2 end -" ∷ codes "cycle 9 I 5 end -"
      ∷ codes "verdict broken I2 10 IA.1" ∷ [];
}

-- an acknowledge is passed on before the address strobe falls
unfoldable pub acknowledge_before_the_cycle : Recording
acknowledge_before_the_cycle = record {
  trace = once_granted (acknowledging ∷ (low DS0 ∷ []) ∷ (low (iack 1) ∷ []) ∷ []);
  verdict = Broken (record { instant = 10; time = 90; rule = I2; line = iack 1 });
  rows =
      codes "start 1" ∷ codes "tenure 5 level 3 slot 2 end -" ∷ codes "transfer 9 read pending"
      ∷ codes "verdict broken I2 10 IA.1" ∷ [];
}

-- an acknowledge is passed on while only the second strobe is low
unfoldable pub acknowledge_by_the_second_strobe : Recording
acknowledge_by_the_second_strobe = record {
  trace =
      once_granted (acknowledging ∷ (low AS ∷ []) ∷ (low DS1 ∷ []) ∷ (low (iack 1) ∷ []) ∷ (low DTACK ∷ [])
      ∷ (high AS ∷ high DS1 ∷ high (iack 1) ∷ []) ∷ (high DTACK ∷ high IACK ∷ []) ∷ []);
  verdict = Conforming;
  rows =
      codes "start 1" ∷ codes "tenure 5 level 3 slot 2 end -" ∷ codes "cycle 9 I 5 end 13"
      ∷ codes "transfer 10 of 9 read DTACK 12 close 13" ∷ codes "verdict conforming" ∷ [];
}

-- the strobe rises as the address strobe falls and the acknowledge is passed on
unfoldable pub acknowledge_as_the_strobe_rises : Recording
acknowledge_as_the_strobe_rises = record {
  trace = once_granted (acknowledging ∷ (low DS0 ∷ []) ∷ (low AS ∷ high DS0 ∷ low DTACK ∷ low (iack 1) ∷ []) ∷ []);
  verdict = Conforming;
  rows =
      codes "start 1" ∷ codes "tenure 5 level 3 slot 2 end -" ∷ codes "transfer 9 of 10 read DTACK 10 close 10"
      ∷ codes "cycle 10 I 5 end -" ∷ codes "verdict conforming" ∷ [];
}

-- the second strobe rises as the address strobe falls and the acknowledge is passed on
unfoldable pub acknowledge_as_the_second_strobe_rises : Recording
acknowledge_as_the_second_strobe_rises = record {
  trace = once_granted (acknowledging ∷ (low DS1 ∷ []) ∷ (low AS ∷ high DS1 ∷ low DTACK ∷ low (iack 1) ∷ []) ∷ []);
  verdict = Conforming;
  rows =
      codes "start 1" ∷ codes "tenure 5 level 3 slot 2 end -" ∷ codes "transfer 9 of 10 read DTACK 10 close 10"
      ∷ codes "cycle 10 I 5 end -" ∷ codes "verdict conforming" ∷ [];
}

-- an acknowledge is passed on as the other strobe falls
unfoldable pub acknowledge_as_the_second_strobe_falls : Recording
acknowledge_as_the_second_strobe_falls = record {
  trace =
      once_granted (acknowledging ∷ (low AS ∷ []) ∷ (low DS1 ∷ low (iack 1) ∷ []) ∷ (low DTACK ∷ [])
      ∷ (high AS ∷ high DS1 ∷ high (iack 1) ∷ []) ∷ (high DTACK ∷ high IACK ∷ []) ∷ []);
  verdict = Conforming;
  rows =
      codes "start 1" ∷ codes "tenure 5 level 3 slot 2 end -" ∷ codes "cycle 9 I 5 end 12"
      ∷ codes "transfer 10 of 9 read DTACK 11 close 12" ∷ codes "verdict conforming" ∷ [];
}

-- an acknowledge is passed on as the address strobe rises and a strobe falls
unfoldable pub acknowledge_near_a_strobe_and_near_the_cycle : Recording
acknowledge_near_a_strobe_and_near_the_cycle = record {
  trace =
      once_granted (acknowledging ∷ (low AS ∷ []) ∷ (low DS0 ∷ []) ∷ (low DTACK ∷ []) ∷ (high DS0 ∷ [])
      ∷ (high DTACK ∷ []) ∷ (high AS ∷ low DS0 ∷ low (iack 1) ∷ []) ∷ []);
  verdict = Conforming;
  rows =
      codes "start 1" ∷ codes "tenure 5 level 3 slot 2 end -" ∷ codes "cycle 9 I 5 end 14"
      ∷ codes "transfer 10 of 9 read DTACK 11 close 12" ∷ codes "transfer 14 read pending"
      ∷ codes "verdict conforming" ∷ [];
}

-- an acknowledge is passed on after the answer
unfoldable pub acknowledge_after_answer : Recording
acknowledge_after_answer = record {
  trace = once_granted (acknowledging ∷ (low AS ∷ []) ∷ (low DS0 ∷ []) ∷ (low DTACK ∷ []) ∷ (low (iack 1) ∷ []) ∷ []);
  verdict = Broken (record { instant = 12; time = 110; rule = I3; line = iack 1 });
  rows =
      codes "start 1" ∷ codes "tenure 5 level 3 slot 2 end -" ∷ codes "cycle 9 I 5 end -"
      ∷ codes "transfer 10 of 9 read DTACK 11 close -" ∷ codes "verdict broken I3 12 IA.1" ∷ [];
}

-- an acknowledge is passed on after an answer that falls with the address strobe
unfoldable pub acknowledge_after_an_answer_at_the_start : Recording
acknowledge_after_an_answer_at_the_start = record {
  trace = once_granted (acknowledging ∷ (low DS0 ∷ []) ∷ (low AS ∷ low DTACK ∷ []) ∷ (low (iack 1) ∷ []) ∷ []);
  verdict = Broken (record { instant = 11; time = 100; rule = I3; line = iack 1 });
  rows =
      codes "start 1" ∷ codes "tenure 5 level 3 slot 2 end -" ∷ codes "transfer 9 of 10 read DTACK 10 close -"
      ∷ codes "cycle 10 I 5 end -" ∷ codes "verdict broken I3 11 IA.1" ∷ [];
}

-- an acknowledge is passed on after the answer of a cycle that isn't an acknowledge
unfoldable pub acknowledge_after_the_answer_of_a_data_cycle : Recording
acknowledge_after_the_answer_of_a_data_cycle = record {
  trace =
      once_granted (addressing ∷ (low AS ∷ []) ∷ (low DS0 ∷ []) ∷ (low DTACK ∷ low IACK ∷ []) ∷ (low (iack 1) ∷ [])
      ∷ []);
  verdict = Broken (record { instant = 12; time = 110; rule = I3; line = iack 1 });
  rows =
      codes "start 1" ∷ codes "tenure 5 level 3 slot 2 end -" ∷ codes "cycle 9 S 39 FFFFDE end -"
      ∷ codes "transfer 10 of 9 read DTACK 11 close -" ∷ codes "verdict broken I3 12 IA.1" ∷ [];
}

-- an acknowledge is passed on with the answer
unfoldable pub acknowledge_with_the_answer : Recording
acknowledge_with_the_answer = record {
  trace =
      once_granted (acknowledging ∷ (low AS ∷ []) ∷ (low DS0 ∷ []) ∷ (low DTACK ∷ low (iack 1) ∷ [])
      ∷ (high AS ∷ high DS0 ∷ high (iack 1) ∷ []) ∷ (high DTACK ∷ high IACK ∷ []) ∷ []);
  verdict = Conforming;
  rows =
      codes "start 1" ∷ codes "tenure 5 level 3 slot 2 end -" ∷ codes "cycle 9 I 5 end 12"
      ∷ codes "transfer 10 of 9 read DTACK 11 close 12" ∷ codes "verdict conforming" ∷ [];
}

-- an acknowledge is passed on after a bus error
unfoldable pub acknowledge_after_a_bus_error : Recording
acknowledge_after_a_bus_error = record {
  trace =
      once_granted (acknowledging ∷ (low AS ∷ []) ∷ (low DS0 ∷ []) ∷ (low BERR ∷ []) ∷ (low (iack 1) ∷ [])
      ∷ (high AS ∷ high DS0 ∷ high (iack 1) ∷ []) ∷ (high BERR ∷ high IACK ∷ []) ∷ []);
  verdict = Conforming;
  rows =
      codes "start 1" ∷ codes "tenure 5 level 3 slot 2 end -" ∷ codes "cycle 9 I 5 end 13"
      ∷ codes "transfer 10 of 9 read BERR 11 close 13" ∷ codes "verdict conforming" ∷ [];
}

-- an acknowledge is passed on as the address strobe falls again
unfoldable pub acknowledge_as_the_next_cycle_starts : Recording
acknowledge_as_the_next_cycle_starts = record {
  trace =
      once_granted (acknowledging ∷ (low AS ∷ []) ∷ (low DS0 ∷ []) ∷ (low DTACK ∷ []) ∷ (high AS ∷ [])
      ∷ (low AS ∷ low (iack 1) ∷ []) ∷ (high DS0 ∷ high (iack 1) ∷ []) ∷ (high DTACK ∷ []) ∷ []);
  verdict = Conforming;
  rows =
      codes "start 1" ∷ codes "tenure 5 level 3 slot 2 end -" ∷ codes "cycle 9 I 5 end 12"
      ∷ codes "transfer 10 of 9 read DTACK 11 close 14" ∷ codes "cycle 13 I 5 end -" ∷ codes "verdict conforming" ∷ [];
}

-- an acknowledge is a write
unfoldable pub acknowledge_write : Recording
acknowledge_write = record {
  trace =
      once_granted ((low IACK ∷ low WRITE ∷ low (A 2) ∷ []) ∷ (low AS ∷ []) ∷ (low DS0 ∷ []) ∷ (low (iack 1) ∷ [])
      ∷ (low DTACK ∷ []) ∷ (high AS ∷ high DS0 ∷ high (iack 1) ∷ []) ∷ (high DTACK ∷ high IACK ∷ [])
      ∷ (high BBSY ∷ []) ∷ []);
  verdict = Broken (record { instant = 12; time = 110; rule = I4; line = DTACK });
  rows =
      codes "start 1" ∷ codes "tenure 5 level 3 slot 2 end -" ∷ codes "cycle 9 I 5 end -"
      ∷ codes "transfer 10 write pending" ∷ codes "verdict broken I4 12 DTACK" ∷ [];
}

-- an acknowledge is a write where it starts, and none where it is answered
unfoldable pub acknowledge_turns_to_a_read : Recording
acknowledge_turns_to_a_read = record {
  trace =
      once_granted ((low IACK ∷ low WRITE ∷ low (A 2) ∷ []) ∷ (low AS ∷ []) ∷ (low DS0 ∷ [])
      ∷ (high DS0 ∷ low DTACK ∷ high WRITE ∷ []) ∷ []);
  verdict = Broken (record { instant = 11; time = 100; rule = I4; line = DTACK });
  rows =
      codes "start 1" ∷ codes "tenure 5 level 3 slot 2 end -" ∷ codes "cycle 9 I 5 end -"
      ∷ codes "transfer 10 write pending" ∷ codes "verdict broken I4 11 DTACK" ∷ [];
}

-- the direction rises as the strobe of an acknowledge falls
unfoldable pub acknowledge_is_a_read_from_its_start : Recording
acknowledge_is_a_read_from_its_start = record {
  trace =
      once_granted ((low IACK ∷ low WRITE ∷ low (A 2) ∷ []) ∷ (low AS ∷ []) ∷ (low DS0 ∷ high WRITE ∷ [])
      ∷ (low DTACK ∷ []) ∷ (high AS ∷ high DS0 ∷ []) ∷ (high DTACK ∷ high IACK ∷ []) ∷ []);
  verdict = Conforming;
  rows =
      codes "start 1" ∷ codes "tenure 5 level 3 slot 2 end -" ∷ codes "cycle 9 I 5 end 12"
      ∷ codes "transfer 10 of 9 read DTACK 11 close 12" ∷ codes "verdict conforming" ∷ [];
}

-- an acknowledge has a second transfer
unfoldable pub acknowledged_twice : Recording
acknowledged_twice = record {
  trace =
      once_granted (acknowledging ∷ (low AS ∷ []) ∷ (low DS0 ∷ []) ∷ (low DTACK ∷ []) ∷ (high DS0 ∷ [])
      ∷ (high DTACK ∷ []) ∷ (low DS0 ∷ []) ∷ (low DTACK ∷ []) ∷ []);
  verdict = Broken (record { instant = 15; time = 140; rule = I5; line = DTACK });
  rows =
      codes "start 1" ∷ codes "tenure 5 level 3 slot 2 end -" ∷ codes "cycle 9 I 5 end -"
      ∷ codes "transfer 10 of 9 read DTACK 11 close 12" ∷ codes "transfer 14 read pending"
      ∷ codes "verdict broken I5 15 DTACK" ∷ [];
}

-- all recordings of this module
abbrev pub acknowledges : List Recording
acknowledges = acknowledge_cycle ∷ acknowledge_of_level_3 ∷ acknowledge_skips_slot
    ∷ acknowledge_outside_an_acknowledge_cycle ∷ acknowledge_with_its_input ∷ acknowledge_as_its_input_rises
    ∷ acknowledge_before_strobe ∷ acknowledge_before_the_cycle ∷ acknowledge_by_the_second_strobe
    ∷ acknowledge_as_the_strobe_rises ∷ acknowledge_as_the_second_strobe_rises
    ∷ acknowledge_as_the_second_strobe_falls ∷ acknowledge_near_a_strobe_and_near_the_cycle ∷ acknowledge_after_answer
    ∷ acknowledge_after_an_answer_at_the_start ∷ acknowledge_after_the_answer_of_a_data_cycle
    ∷ acknowledge_with_the_answer ∷ acknowledge_after_a_bus_error ∷ acknowledge_as_the_next_cycle_starts
    ∷ acknowledge_write ∷ acknowledge_turns_to_a_read ∷ acknowledge_is_a_read_from_its_start ∷ acknowledged_twice ∷ []
