-- Transfers, answers and the address strobe.
use Rattle.std.specs.Prelude.{List, [], ◌∷◌, codes}
use Rattle.vme_trace.specs.LineNumbers.{AS, DS0, DS1, DTACK, BERR, AM, A, BBSY, iack}
use Rattle.vme_trace.specs.declared.rule.Rule.TheVariants.{H1, H2, H3, H4, H5, H6, H7, H8}
use Rattle.vme_trace.specs.declared.verdict.Verdict.TheVariants.{Conforming, Broken}
use Rattle.vme_eval.specs.Recording.{Recording}
use Rattle.vme_eval.specs.Steps.{low, high, addressing, acknowledging, once_granted, granted_from_idle}

-- a read
unfoldable pub read_cycle : Recording
read_cycle = record {
  trace =
      once_granted (addressing ∷ (low AS ∷ []) ∷ (low DS0 ∷ low DS1 ∷ []) ∷ (low DTACK ∷ [])
      ∷ (high AS ∷ high DS0 ∷ high DS1 ∷ []) ∷ (high DTACK ∷ []) ∷ (high BBSY ∷ []) ∷ []);
  verdict = Conforming;
  rows =
      codes "start 1" ∷ codes "tenure 5 level 3 slot 2 end 14" ∷ codes "cycle 9 S 39 FFFFDE end 12"
      ∷ codes "transfer 10 of 9 read DTACK 11 close 12" ∷ codes "verdict conforming" ∷ [];
}

-- a read from an idle opening on, without the step that makes the bus idle
unfoldable pub read_cycle_from_idle : Recording
read_cycle_from_idle = record {
  trace =
      granted_from_idle (addressing ∷ (low AS ∷ []) ∷ (low DS0 ∷ low DS1 ∷ []) ∷ (low DTACK ∷ [])
      ∷ (high AS ∷ high DS0 ∷ high DS1 ∷ []) ∷ (high DTACK ∷ []) ∷ (high BBSY ∷ []) ∷ []);
  verdict = Conforming;
  rows =
      codes "start 0" ∷ codes "tenure 4 level 3 slot 2 end 13" ∷ codes "cycle 8 S 39 FFFFDE end 11"
      ∷ codes "transfer 9 of 8 read DTACK 10 close 11" ∷ codes "verdict conforming" ∷ [];
}

-- the address strobe falls again while the first transfer's strobes and answer are still low
unfoldable pub pipelined_cycles : Recording
pipelined_cycles = record {
  trace =
      once_granted (addressing ∷ (low AS ∷ []) ∷ (low DS0 ∷ low DS1 ∷ []) ∷ (low DTACK ∷ []) ∷ (high AS ∷ [])
      ∷ (high (A 5) ∷ []) ∷ (low AS ∷ []) ∷ (high DS0 ∷ high DS1 ∷ []) ∷ (high DTACK ∷ [])
      ∷ (low DS0 ∷ low DS1 ∷ []) ∷ (low DTACK ∷ []) ∷ (high AS ∷ high DS0 ∷ high DS1 ∷ [])
      ∷ (high DTACK ∷ high BBSY ∷ []) ∷ []);
  verdict = Conforming;
  rows =
      codes "start 1" ∷ codes "tenure 5 level 3 slot 2 end 20" ∷ codes "cycle 9 S 39 FFFFDE end 12"
      ∷ codes "transfer 10 of 9 read DTACK 11 close 15" ∷ codes "cycle 14 S 39 FFFFFE end 19"
      ∷ codes "transfer 17 of 14 read DTACK 18 close 19" ∷ codes "verdict conforming" ∷ [];
}

-- a read that is answered by the bus error line
unfoldable pub bus_error : Recording
bus_error = record {
  trace =
      once_granted (addressing ∷ (low AS ∷ []) ∷ (low DS0 ∷ low DS1 ∷ []) ∷ (low BERR ∷ [])
      ∷ (high AS ∷ high DS0 ∷ high DS1 ∷ []) ∷ (high BERR ∷ []) ∷ (high BBSY ∷ []) ∷ []);
  verdict = Conforming;
  rows =
      codes "start 1" ∷ codes "tenure 5 level 3 slot 2 end 14" ∷ codes "cycle 9 S 39 FFFFDE end 12"
      ∷ codes "transfer 10 of 9 read BERR 11 close 12" ∷ codes "verdict conforming" ∷ [];
}

-- a transfer starts while the answer of the one before it is low
unfoldable pub starts_before_the_answer_rose : Recording
starts_before_the_answer_rose = record {
  trace =
      once_granted ((low (AM 2) ∷ low (A 5) ∷ []) ∷ (low AS ∷ []) ∷ (low DS0 ∷ low DS1 ∷ []) ∷ (low BERR ∷ [])
      ∷ (high DS0 ∷ high DS1 ∷ []) ∷ (low DS0 ∷ low DS1 ∷ []) ∷ []);
  verdict = Broken (record { instant = 13; time = 120; rule = H1; line = BERR });
  rows =
      codes "start 1" ∷ codes "tenure 5 level 3 slot 2 end -" ∷ codes "cycle 9 K 3B FFFFDE end -"
      ∷ codes "transfer 10 of 9 read BERR 11 close 12" ∷ codes "verdict broken H1 13 BERR" ∷ [];
}

-- the answer of a transfer rises as the next one starts
unfoldable pub answer_rises_as_the_next_transfer_starts : Recording
answer_rises_as_the_next_transfer_starts = record {
  trace =
      once_granted ((low (AM 2) ∷ low (A 5) ∷ []) ∷ (low AS ∷ []) ∷ (low DS0 ∷ low DS1 ∷ []) ∷ (low DTACK ∷ [])
      ∷ (high DS0 ∷ high DS1 ∷ []) ∷ (low DS0 ∷ low DS1 ∷ high DTACK ∷ []) ∷ (low DTACK ∷ []) ∷ []);
  verdict = Conforming;
  rows =
      codes "start 1" ∷ codes "tenure 5 level 3 slot 2 end -" ∷ codes "cycle 9 K 3B FFFFDE end -"
      ∷ codes "transfer 10 of 9 read DTACK 11 close 12" ∷ codes "transfer 13 of 9 read DTACK 14 close -"
      ∷ codes "verdict conforming" ∷ [];
}

-- both strobes rise before the answer
unfoldable pub strobes_rise_early : Recording
strobes_rise_early = record {
  trace =
      once_granted (addressing ∷ (low AS ∷ []) ∷ (low DS0 ∷ low DS1 ∷ []) ∷ (high DS0 ∷ high DS1 ∷ [])
      ∷ (low DTACK ∷ []) ∷ []);
  verdict = Broken (record { instant = 11; time = 100; rule = H2; line = DS0 });
  rows =
      codes "start 1" ∷ codes "tenure 5 level 3 slot 2 end -" ∷ codes "cycle 9 S 39 FFFFDE end -"
      ∷ codes "transfer 10 read pending" ∷ codes "verdict broken H2 11 DS0" ∷ [];
}

-- both strobes rise with the answer
unfoldable pub strobes_rise_with_answer : Recording
strobes_rise_with_answer = record {
  trace =
      once_granted (addressing ∷ (low AS ∷ []) ∷ (low DS0 ∷ low DS1 ∷ []) ∷ (high DS0 ∷ high DS1 ∷ low DTACK ∷ [])
      ∷ (high AS ∷ []) ∷ (high DTACK ∷ []) ∷ (high BBSY ∷ []) ∷ []);
  verdict = Conforming;
  rows =
      codes "start 1" ∷ codes "tenure 5 level 3 slot 2 end 14" ∷ codes "cycle 9 S 39 FFFFDE end 12"
      ∷ codes "transfer 10 of 9 read DTACK 11 close 11" ∷ codes "verdict conforming" ∷ [];
}

-- one strobe of two rises before the answer
unfoldable pub one_strobe_rises_early : Recording
one_strobe_rises_early = record {
  trace =
      once_granted (addressing ∷ (low AS ∷ []) ∷ (low DS0 ∷ low DS1 ∷ []) ∷ (high DS1 ∷ []) ∷ (low DTACK ∷ []) ∷ []);
  verdict = Broken (record { instant = 11; time = 100; rule = H2; line = DS1 });
  rows =
      codes "start 1" ∷ codes "tenure 5 level 3 slot 2 end -" ∷ codes "cycle 9 S 39 FFFFDE end -"
      ∷ codes "transfer 10 read pending" ∷ codes "verdict broken H2 11 DS1" ∷ [];
}

-- the second strobe falls after the answer
unfoldable pub strobe_falls_after_the_answer : Recording
strobe_falls_after_the_answer = record {
  trace = once_granted (addressing ∷ (low AS ∷ []) ∷ (low DS0 ∷ []) ∷ (low DTACK ∷ []) ∷ (low DS1 ∷ []) ∷ []);
  verdict = Broken (record { instant = 12; time = 110; rule = H3; line = DS1 });
  rows =
      codes "start 1" ∷ codes "tenure 5 level 3 slot 2 end -" ∷ codes "cycle 9 S 39 FFFFDE end -"
      ∷ codes "transfer 10 of 9 read DTACK 11 close -" ∷ codes "verdict broken H3 12 DS1" ∷ [];
}

-- the second strobe falls with the answer
unfoldable pub strobe_falls_with_the_answer : Recording
strobe_falls_with_the_answer = record {
  trace =
      once_granted (addressing ∷ (low AS ∷ []) ∷ (low DS0 ∷ []) ∷ (low DS1 ∷ low DTACK ∷ [])
      ∷ (high AS ∷ high DS0 ∷ high DS1 ∷ []) ∷ (high DTACK ∷ []) ∷ (high BBSY ∷ []) ∷ []);
  verdict = Conforming;
  rows =
      codes "start 1" ∷ codes "tenure 5 level 3 slot 2 end 14" ∷ codes "cycle 9 S 39 FFFFDE end 12"
      ∷ codes "transfer 10 of 9 read DTACK 11 close 12" ∷ codes "verdict conforming" ∷ [];
}

-- the strobes fall one after the other, which is one transfer
unfoldable pub second_strobe_falls_before_the_answer : Recording
second_strobe_falls_before_the_answer = record {
  trace =
      once_granted (addressing ∷ (low AS ∷ []) ∷ (low DS1 ∷ []) ∷ (low DS0 ∷ []) ∷ (low DTACK ∷ [])
      ∷ (high AS ∷ high DS0 ∷ high DS1 ∷ []) ∷ (high DTACK ∷ []) ∷ []);
  verdict = Conforming;
  rows =
      codes "start 1" ∷ codes "tenure 5 level 3 slot 2 end -" ∷ codes "cycle 9 S 39 FFFFDE end 13"
      ∷ codes "transfer 10 of 9 read DTACK 12 close 13" ∷ codes "verdict conforming" ∷ [];
}

-- an answer without a strobe
unfoldable pub stray_answer : Recording
stray_answer = record {
  trace = once_granted (addressing ∷ (low AS ∷ []) ∷ (low DTACK ∷ []) ∷ []);
  verdict = Broken (record { instant = 10; time = 90; rule = H4; line = DTACK });
  rows =
      codes "start 1" ∷ codes "tenure 5 level 3 slot 2 end -" ∷ codes "cycle 9 S 39 FFFFDE end -"
      ∷ codes "verdict broken H4 10 DTACK" ∷ [];
}

-- a bus error without a transfer
unfoldable pub bus_error_to_nobody : Recording
bus_error_to_nobody = record {
  trace = once_granted ((low BERR ∷ []) ∷ []);
  verdict = Broken (record { instant = 8; time = 70; rule = H4; line = BERR });
  rows = codes "start 1" ∷ codes "tenure 5 level 3 slot 2 end -" ∷ codes "verdict broken H4 8 BERR" ∷ [];
}

-- the answer falls with the strobe
unfoldable pub answered_at_its_first_instant : Recording
answered_at_its_first_instant = record {
  trace =
      once_granted (addressing ∷ (low AS ∷ []) ∷ (low DS0 ∷ low DTACK ∷ []) ∷ (high AS ∷ high DS0 ∷ [])
      ∷ (high DTACK ∷ []) ∷ (high BBSY ∷ []) ∷ []);
  verdict = Conforming;
  rows =
      codes "start 1" ∷ codes "tenure 5 level 3 slot 2 end 13" ∷ codes "cycle 9 S 39 FFFFDE end 11"
      ∷ codes "transfer 10 of 9 read DTACK 10 close 11" ∷ codes "verdict conforming" ∷ [];
}

-- an acknowledge cycle is answered by one line and then by the other
unfoldable pub answered_by_both_lines_in_turn : Recording
answered_by_both_lines_in_turn = record {
  trace =
      once_granted (acknowledging ∷ (low AS ∷ []) ∷ (low DS0 ∷ []) ∷ (low BERR ∷ [])
      ∷ (low DTACK ∷ low (iack 1) ∷ []) ∷ []);
  verdict = Broken (record { instant = 12; time = 110; rule = H5; line = DTACK });
  rows =
      codes "start 1" ∷ codes "tenure 5 level 3 slot 2 end -" ∷ codes "cycle 9 I 5 end -"
      ∷ codes "transfer 10 of 9 read BERR 11 close -" ∷ codes "verdict broken H5 12 DTACK" ∷ [];
}

-- a transfer is answered by both lines at one instant
unfoldable pub answered_by_both_lines_at_once : Recording
answered_by_both_lines_at_once = record {
  trace = once_granted (addressing ∷ (low AS ∷ []) ∷ (low DS0 ∷ low DS1 ∷ []) ∷ (low DTACK ∷ low BERR ∷ []) ∷ []);
  verdict = Broken (record { instant = 11; time = 100; rule = H5; line = DTACK });
  rows =
      codes "start 1" ∷ codes "tenure 5 level 3 slot 2 end -" ∷ codes "cycle 9 S 39 FFFFDE end -"
      ∷ codes "transfer 10 read pending" ∷ codes "verdict broken H5 11 DTACK" ∷ [];
}

-- the answer rises and falls again while a strobe is low
unfoldable pub answered_again_by_the_same_line : Recording
answered_again_by_the_same_line = record {
  trace =
      once_granted (addressing ∷ (low AS ∷ []) ∷ (low DS0 ∷ low DS1 ∷ []) ∷ (low DTACK ∷ []) ∷ (high DS0 ∷ [])
      ∷ (high DTACK ∷ []) ∷ (low DTACK ∷ []) ∷ []);
  verdict = Broken (record { instant = 14; time = 130; rule = H5; line = DTACK });
  rows =
      codes "start 1" ∷ codes "tenure 5 level 3 slot 2 end -" ∷ codes "cycle 9 S 39 FFFFDE end -"
      ∷ codes "transfer 10 of 9 read DTACK 11 close -" ∷ codes "verdict broken H5 14 DTACK" ∷ [];
}

-- the answer rises while both strobes are low
unfoldable pub answer_withdrawn_early : Recording
answer_withdrawn_early = record {
  trace =
      once_granted (addressing ∷ (low AS ∷ []) ∷ (low DS0 ∷ low DS1 ∷ []) ∷ (low BERR ∷ []) ∷ (high BERR ∷ []) ∷ []);
  verdict = Broken (record { instant = 12; time = 110; rule = H6; line = BERR });
  rows =
      codes "start 1" ∷ codes "tenure 5 level 3 slot 2 end -" ∷ codes "cycle 9 S 39 FFFFDE end -"
      ∷ codes "transfer 10 of 9 read BERR 11 close -" ∷ codes "verdict broken H6 12 BERR" ∷ [];
}

-- the second answer rises early: a strobe rose only after the first answer
unfoldable pub second_answer_withdrawn_early : Recording
second_answer_withdrawn_early = record {
  trace =
      once_granted ((low (AM 2) ∷ low (A 5) ∷ []) ∷ (low AS ∷ []) ∷ (low DS0 ∷ low DS1 ∷ []) ∷ (low DTACK ∷ [])
      ∷ (high DS0 ∷ high DS1 ∷ []) ∷ (high DTACK ∷ []) ∷ (low DS0 ∷ low DS1 ∷ []) ∷ (low DTACK ∷ [])
      ∷ (high DTACK ∷ []) ∷ []);
  verdict = Broken (record { instant = 16; time = 150; rule = H6; line = DTACK });
  rows =
      codes "start 1" ∷ codes "tenure 5 level 3 slot 2 end -" ∷ codes "cycle 9 K 3B FFFFDE end -"
      ∷ codes "transfer 10 of 9 read DTACK 11 close 12" ∷ codes "transfer 14 of 9 read DTACK 15 close -"
      ∷ codes "verdict broken H6 16 DTACK" ∷ [];
}

-- the answer rises as the strobes do
unfoldable pub answer_rises_with_the_strobes : Recording
answer_rises_with_the_strobes = record {
  trace =
      once_granted (addressing ∷ (low AS ∷ []) ∷ (low DS0 ∷ low DS1 ∷ []) ∷ (low DTACK ∷ [])
      ∷ (high AS ∷ high DS0 ∷ high DS1 ∷ high DTACK ∷ []) ∷ (high BBSY ∷ []) ∷ []);
  verdict = Conforming;
  rows =
      codes "start 1" ∷ codes "tenure 5 level 3 slot 2 end 13" ∷ codes "cycle 9 S 39 FFFFDE end 12"
      ∷ codes "transfer 10 of 9 read DTACK 11 close 12" ∷ codes "verdict conforming" ∷ [];
}

-- the address strobe rises before the answer
unfoldable pub cycle_ends_unanswered : Recording
cycle_ends_unanswered = record {
  trace = once_granted (addressing ∷ (low AS ∷ []) ∷ (low DS0 ∷ low DS1 ∷ []) ∷ (high AS ∷ []) ∷ []);
  verdict = Broken (record { instant = 11; time = 100; rule = H7; line = AS });
  rows =
      codes "start 1" ∷ codes "tenure 5 level 3 slot 2 end -" ∷ codes "cycle 9 S 39 FFFFDE end -"
      ∷ codes "transfer 10 read pending" ∷ codes "verdict broken H7 11 AS" ∷ [];
}

-- the address strobe rises with the answer
unfoldable pub cycle_ends_with_the_answer : Recording
cycle_ends_with_the_answer = record {
  trace =
      once_granted (addressing ∷ (low AS ∷ []) ∷ (low DS0 ∷ []) ∷ (high AS ∷ low DTACK ∷ []) ∷ (high DS0 ∷ [])
      ∷ (high DTACK ∷ []) ∷ (high BBSY ∷ []) ∷ []);
  verdict = Conforming;
  rows =
      codes "start 1" ∷ codes "tenure 5 level 3 slot 2 end 14" ∷ codes "cycle 9 S 39 FFFFDE end 11"
      ∷ codes "transfer 10 of 9 read DTACK 11 close 12" ∷ codes "verdict conforming" ∷ [];
}

-- a transfer starts and is answered as the address strobe rises
unfoldable pub transfer_as_the_cycle_ends : Recording
transfer_as_the_cycle_ends = record {
  trace = once_granted (addressing ∷ (low AS ∷ []) ∷ (high AS ∷ low DS0 ∷ low DTACK ∷ []) ∷ []);
  verdict = Conforming;
  rows =
      codes "start 1" ∷ codes "tenure 5 level 3 slot 2 end -" ∷ codes "cycle 9 S 39 FFFFDE end 10"
      ∷ codes "transfer 10 of 9 read DTACK 10 close -" ∷ codes "verdict conforming" ∷ [];
}

-- an answer while the address strobe is high
unfoldable pub answer_without_a_cycle : Recording
answer_without_a_cycle = record {
  trace = once_granted ((low DS0 ∷ []) ∷ (low DTACK ∷ []) ∷ []);
  verdict = Broken (record { instant = 9; time = 80; rule = H8; line = DTACK });
  rows =
      codes "start 1" ∷ codes "tenure 5 level 3 slot 2 end -" ∷ codes "transfer 8 read pending"
      ∷ codes "verdict broken H8 9 DTACK" ∷ [];
}

-- the strobe falls before the address strobe: the row of the transfer comes before that of its cycle
unfoldable pub strobe_before_the_cycle : Recording
strobe_before_the_cycle = record {
  trace =
      once_granted (addressing ∷ (low DS0 ∷ []) ∷ (low AS ∷ []) ∷ (low DTACK ∷ []) ∷ (high AS ∷ high DS0 ∷ [])
      ∷ (high DTACK ∷ []) ∷ (high BBSY ∷ []) ∷ []);
  verdict = Conforming;
  rows =
      codes "start 1" ∷ codes "tenure 5 level 3 slot 2 end 14" ∷ codes "transfer 9 of 10 read DTACK 11 close 12"
      ∷ codes "cycle 10 S 39 FFFFDE end 12" ∷ codes "verdict conforming" ∷ [];
}

-- a transfer that starts as a cycle ends is of the next cycle if it is answered there
unfoldable pub transfer_between_two_cycles : Recording
transfer_between_two_cycles = record {
  trace =
      once_granted (addressing ∷ (low AS ∷ []) ∷ (low DS0 ∷ []) ∷ (low DTACK ∷ []) ∷ (high DS0 ∷ [])
      ∷ (high DTACK ∷ []) ∷ (high AS ∷ low DS1 ∷ []) ∷ (low AS ∷ []) ∷ (low DTACK ∷ [])
      ∷ (high AS ∷ high DS1 ∷ []) ∷ (high DTACK ∷ []) ∷ (high BBSY ∷ []) ∷ []);
  verdict = Conforming;
  rows =
      codes "start 1" ∷ codes "tenure 5 level 3 slot 2 end 19" ∷ codes "cycle 9 S 39 FFFFDE end 14"
      ∷ codes "transfer 10 of 9 read DTACK 11 close 12" ∷ codes "transfer 14 of 15 read DTACK 16 close 17"
      ∷ codes "cycle 15 S 39 FFFFDE end 17" ∷ codes "verdict conforming" ∷ [];
}

-- all recordings of this module
abbrev pub transfers : List Recording
transfers = read_cycle ∷ read_cycle_from_idle ∷ pipelined_cycles ∷ bus_error ∷ starts_before_the_answer_rose
    ∷ answer_rises_as_the_next_transfer_starts ∷ strobes_rise_early ∷ strobes_rise_with_answer
    ∷ one_strobe_rises_early ∷ strobe_falls_after_the_answer ∷ strobe_falls_with_the_answer
    ∷ second_strobe_falls_before_the_answer ∷ stray_answer ∷ bus_error_to_nobody ∷ answered_at_its_first_instant
    ∷ answered_by_both_lines_in_turn ∷ answered_by_both_lines_at_once ∷ answered_again_by_the_same_line
    ∷ answer_withdrawn_early ∷ second_answer_withdrawn_early ∷ answer_rises_with_the_strobes ∷ cycle_ends_unanswered
    ∷ cycle_ends_with_the_answer ∷ transfer_as_the_cycle_ends ∷ answer_without_a_cycle ∷ strobe_before_the_cycle
    ∷ transfer_between_two_cycles ∷ []
