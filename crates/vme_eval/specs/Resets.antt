-- Resets of the bus, which end what is judged, and the starts after them.
use Rattle.std.specs.Prelude.{List, [], ◌∷◌, codes}
use Rattle.vme_trace.specs.LineNumbers.{AS, DS0, DS1, DTACK, BERR, WRITE, AM, A, BBSY, BR, D, SYSRESET, grant}
use Rattle.vme_trace.specs.declared.rule.Rule.TheVariants.{U1, H4, H6, G5, B1, B2}
use Rattle.vme_trace.specs.declared.verdict.Verdict.TheVariants.{Conforming, Broken, Unreadable, NeverIdle}
use Rattle.vme_eval.specs.Recording.{Recording}
use Rattle.vme_eval.specs.Steps.{low, high, unknown, addressing, from_idle, from_idle_but, once_granted}

-- a reset amid a read, which ends before it is answered
unfoldable pub reset_in_a_read : Recording
reset_in_a_read = record {
  trace =
      once_granted (addressing ∷ (low AS ∷ []) ∷ (low DS0 ∷ low DS1 ∷ []) ∷ (low SYSRESET ∷ [])
      ∷ (high AS ∷ high DS0 ∷ high DS1 ∷ high BBSY ∷ []) ∷ (high SYSRESET ∷ []) ∷ []);
  verdict = Conforming;
  rows =
      codes "start 1" ∷ codes "tenure 5 level 3 slot 2 end -" ∷ codes "cycle 9 S 39 FFFFDE end -"
      ∷ codes "transfer 10 read pending" ∷ codes "reset 11" ∷ codes "start 13" ∷ codes "verdict conforming" ∷ [];
}

-- the bus is busy still as it is judged again
unfoldable pub busy_after_the_reset : Recording
busy_after_the_reset = record {
  trace =
      once_granted (addressing ∷ (low AS ∷ []) ∷ (low DS0 ∷ low DS1 ∷ []) ∷ (low SYSRESET ∷ [])
      ∷ (high AS ∷ high DS0 ∷ high DS1 ∷ []) ∷ (high SYSRESET ∷ []) ∷ []);
  verdict = Conforming;
  rows =
      codes "start 1" ∷ codes "tenure 5 level 3 slot 2 end -" ∷ codes "cycle 9 S 39 FFFFDE end -"
      ∷ codes "transfer 10 read pending" ∷ codes "reset 11" ∷ codes "start 13" ∷ codes "tenure 13 open end -"
      ∷ codes "verdict conforming" ∷ [];
}

-- the read that the reset ended is answered after it
unfoldable pub answer_after_the_reset : Recording
answer_after_the_reset = record {
  trace =
      once_granted (addressing ∷ (low AS ∷ []) ∷ (low DS0 ∷ low DS1 ∷ []) ∷ (low SYSRESET ∷ [])
      ∷ (high AS ∷ high DS0 ∷ high DS1 ∷ high BBSY ∷ []) ∷ (high SYSRESET ∷ []) ∷ (low DTACK ∷ []) ∷ []);
  verdict = Broken (record { instant = 14; time = 130; rule = H4; line = DTACK });
  rows =
      codes "start 1" ∷ codes "tenure 5 level 3 slot 2 end -" ∷ codes "cycle 9 S 39 FFFFDE end -"
      ∷ codes "transfer 10 read pending" ∷ codes "reset 11" ∷ codes "start 13"
      ∷ codes "verdict broken H4 14 DTACK" ∷ [];
}

-- the address strobe becomes unknown as the reset comes
unfoldable pub strobe_lost_with_the_reset : Recording
strobe_lost_with_the_reset = record {
  trace =
      once_granted (addressing ∷ (low AS ∷ []) ∷ (low DS0 ∷ low DS1 ∷ []) ∷ (unknown AS ∷ low SYSRESET ∷ [])
      ∷ (high AS ∷ high DS0 ∷ high DS1 ∷ high BBSY ∷ []) ∷ (high SYSRESET ∷ []) ∷ []);
  verdict = Conforming;
  rows =
      codes "start 1" ∷ codes "tenure 5 level 3 slot 2 end -" ∷ codes "cycle 9 S 39 FFFFDE end -"
      ∷ codes "transfer 10 read pending" ∷ codes "reset 11" ∷ codes "start 13" ∷ codes "verdict conforming" ∷ [];
}

-- the reset line becomes unknown
unfoldable pub reset_line_lost : Recording
reset_line_lost = record {
  trace = once_granted (addressing ∷ (low AS ∷ []) ∷ (low DS0 ∷ low DS1 ∷ []) ∷ (unknown SYSRESET ∷ []) ∷ []);
  verdict = Unreadable (record { instant = 11; time = 100; rule = U1; line = SYSRESET });
  rows =
      codes "start 1" ∷ codes "tenure 5 level 3 slot 2 end -" ∷ codes "cycle 9 S 39 FFFFDE end -"
      ∷ codes "transfer 10 read pending" ∷ codes "verdict unreadable U1 11 SYSRESET" ∷ [];
}

-- a request before the reset serves no grant after it
unfoldable pub reset_forgets_a_request : Recording
reset_forgets_a_request = record {
  trace =
      from_idle ((low (BR 3) ∷ []) ∷ (high (BR 3) ∷ low SYSRESET ∷ []) ∷ (high SYSRESET ∷ [])
      ∷ (low (grant 3 0) ∷ []) ∷ []);
  verdict = Broken (record { instant = 5; time = 40; rule = G5; line = grant 3 0 });
  rows =
      codes "start 1" ∷ codes "reset 3" ∷ codes "start 4" ∷ codes "verdict broken G5 5 BG3.0" ∷ [];
}

-- a request that ended serves a grant, where there is no reset between them
unfoldable pub request_without_a_reset : Recording
request_without_a_reset = record {
  trace = from_idle ((low (BR 3) ∷ []) ∷ (high (BR 3) ∷ []) ∷ (low (grant 3 0) ∷ []) ∷ []);
  verdict = Conforming;
  rows = codes "start 1" ∷ codes "verdict conforming" ∷ [];
}

-- the bus is reset for good
unfoldable pub reset_for_good : Recording
reset_for_good = record {
  trace =
      from_idle_but SYSRESET ((low (BR 3) ∷ []) ∷ (low (grant 3 0) ∷ []) ∷ (low (grant 3 1) ∷ [])
      ∷ (low BBSY ∷ high (BR 3) ∷ []) ∷ (high (grant 3 0) ∷ []) ∷ (high (grant 3 1) ∷ []) ∷ addressing ∷ (low AS ∷ [])
      ∷ (low DS0 ∷ low DS1 ∷ []) ∷ (low DTACK ∷ []) ∷ (high AS ∷ high DS0 ∷ high DS1 ∷ []) ∷ (high DTACK ∷ [])
      ∷ (high BBSY ∷ []) ∷ []);
  verdict = NeverIdle;
  rows = codes "verdict never-idle" ∷ [];
}

-- the bus is reset until it is judged
unfoldable pub reset_before_judging : Recording
reset_before_judging = record {
  trace = from_idle_but SYSRESET ((high SYSRESET ∷ []) ∷ []);
  verdict = Conforming;
  rows = codes "start 2" ∷ codes "verdict conforming" ∷ [];
}

-- the bus is reset at the last instant
unfoldable pub reset_at_the_end : Recording
reset_at_the_end = record {
  trace = from_idle ((low SYSRESET ∷ []) ∷ []);
  verdict = Conforming;
  rows = codes "start 1" ∷ codes "reset 2" ∷ codes "verdict conforming" ∷ [];
}

-- two resets, and starts after both
unfoldable pub two_resets : Recording
two_resets = record {
  trace =
      from_idle ((low SYSRESET ∷ []) ∷ (high SYSRESET ∷ []) ∷ (low SYSRESET ∷ []) ∷ (high SYSRESET ∷ []) ∷ []);
  verdict = Conforming;
  rows =
      codes "start 1" ∷ codes "reset 2" ∷ codes "start 3" ∷ codes "reset 4" ∷ codes "start 5"
      ∷ codes "verdict conforming" ∷ [];
}

-- an answer to nobody as the reset comes
unfoldable pub stray_answer_with_the_reset : Recording
stray_answer_with_the_reset = record {
  trace = from_idle ((low DTACK ∷ low SYSRESET ∷ []) ∷ (high DTACK ∷ high SYSRESET ∷ []) ∷ []);
  verdict = Conforming;
  rows = codes "start 1" ∷ codes "reset 2" ∷ codes "start 3" ∷ codes "verdict conforming" ∷ [];
}

-- an answer to nobody before the reset, and another after it
unfoldable pub stray_answers_around_the_reset : Recording
stray_answers_around_the_reset = record {
  trace =
      from_idle ((low DTACK ∷ []) ∷ (low SYSRESET ∷ []) ∷ (high DTACK ∷ high SYSRESET ∷ []) ∷ (low BERR ∷ []) ∷ []);
  verdict = Broken (record { instant = 2; time = 10; rule = H4; line = DTACK });
  rows = codes "start 1" ∷ codes "verdict broken H4 2 DTACK" ∷ [];
}

-- the address strobe is unknown after the reset, until the bus is idle
unfoldable pub strobe_unknown_after_the_reset : Recording
strobe_unknown_after_the_reset = record {
  trace =
      from_idle ((low SYSRESET ∷ []) ∷ (unknown AS ∷ []) ∷ (high SYSRESET ∷ []) ∷ (high AS ∷ []) ∷ []);
  verdict = Conforming;
  rows = codes "start 1" ∷ codes "reset 2" ∷ codes "start 5" ∷ codes "verdict conforming" ∷ [];
}

-- the address strobe becomes unknown once the bus was idle again
unfoldable pub strobe_lost_after_the_reset : Recording
strobe_lost_after_the_reset = record {
  trace = from_idle ((low SYSRESET ∷ []) ∷ (high SYSRESET ∷ []) ∷ (unknown AS ∷ []) ∷ (high AS ∷ []) ∷ []);
  verdict = Unreadable (record { instant = 4; time = 30; rule = U1; line = AS });
  rows =
      codes "start 1" ∷ codes "reset 2" ∷ codes "start 3" ∷ codes "verdict unreadable U1 4 AS" ∷ [];
}

-- the bus is idle again after a strobe became unknown: what comes then isn't judged
unfoldable pub reset_after_a_lost_strobe : Recording
reset_after_a_lost_strobe = record {
  trace =
      from_idle ((unknown AS ∷ []) ∷ (high AS ∷ low SYSRESET ∷ []) ∷ (high SYSRESET ∷ []) ∷ (low DTACK ∷ []) ∷ []);
  verdict = Unreadable (record { instant = 2; time = 10; rule = U1; line = AS });
  rows = codes "start 1" ∷ codes "verdict unreadable U1 2 AS" ∷ [];
}

-- the cycle of the read that the reset ended needs its address and its modifier no more
unfoldable pub address_changes_after_the_reset : Recording
address_changes_after_the_reset = record {
  trace =
      once_granted (addressing ∷ (low AS ∷ []) ∷ (low DS0 ∷ low DS1 ∷ []) ∷ (low SYSRESET ∷ [])
      ∷ (high AS ∷ high DS0 ∷ high DS1 ∷ high BBSY ∷ []) ∷ (high SYSRESET ∷ []) ∷ (high (A 5) ∷ [])
      ∷ (high (AM 2) ∷ []) ∷ []);
  verdict = Conforming;
  rows =
      codes "start 1" ∷ codes "tenure 5 level 3 slot 2 end -" ∷ codes "cycle 9 S 39 FFFFDE end -"
      ∷ codes "transfer 10 read pending" ∷ codes "reset 11" ∷ codes "start 13" ∷ codes "verdict conforming" ∷ [];
}

-- the cycle that the reset ended needs its address no more, though the address strobe never rises: it becomes unknown
-- in the reset, and then high
unfoldable pub address_changes_after_a_lost_strobe : Recording
address_changes_after_a_lost_strobe = record {
  trace =
      once_granted (addressing ∷ (low AS ∷ []) ∷ (low DS0 ∷ low DS1 ∷ []) ∷ (low SYSRESET ∷ []) ∷ (unknown AS ∷ [])
      ∷ (high AS ∷ high DS0 ∷ high DS1 ∷ high BBSY ∷ []) ∷ (high SYSRESET ∷ []) ∷ (high (A 5) ∷ [])
      ∷ (high (AM 2) ∷ []) ∷ []);
  verdict = Conforming;
  rows =
      codes "start 1" ∷ codes "tenure 5 level 3 slot 2 end -" ∷ codes "cycle 9 S 39 FFFFDE end -"
      ∷ codes "transfer 10 read pending" ∷ codes "reset 11" ∷ codes "start 14" ∷ codes "verdict conforming" ∷ [];
}

-- the read that the reset ended holds its direction no more
unfoldable pub direction_changes_after_the_reset : Recording
direction_changes_after_the_reset = record {
  trace =
      once_granted (addressing ∷ (low AS ∷ []) ∷ (low DS0 ∷ low DS1 ∷ []) ∷ (low SYSRESET ∷ [])
      ∷ (high AS ∷ high DS0 ∷ high DS1 ∷ high BBSY ∷ []) ∷ (high SYSRESET ∷ []) ∷ (low WRITE ∷ []) ∷ []);
  verdict = Conforming;
  rows =
      codes "start 1" ∷ codes "tenure 5 level 3 slot 2 end -" ∷ codes "cycle 9 S 39 FFFFDE end -"
      ∷ codes "transfer 10 read pending" ∷ codes "reset 11" ∷ codes "start 13" ∷ codes "verdict conforming" ∷ [];
}

-- the read that the reset ended holds its direction no more, though no data strobe ever rises: they become unknown in
-- the reset, and then high
unfoldable pub direction_changes_after_lost_strobes : Recording
direction_changes_after_lost_strobes = record {
  trace =
      once_granted (addressing ∷ (low AS ∷ []) ∷ (low DS0 ∷ low DS1 ∷ []) ∷ (low SYSRESET ∷ [])
      ∷ (unknown DS0 ∷ unknown DS1 ∷ []) ∷ (high AS ∷ high DS0 ∷ high DS1 ∷ high BBSY ∷ []) ∷ (high SYSRESET ∷ [])
      ∷ (low WRITE ∷ []) ∷ []);
  verdict = Conforming;
  rows =
      codes "start 1" ∷ codes "tenure 5 level 3 slot 2 end -" ∷ codes "cycle 9 S 39 FFFFDE end -"
      ∷ codes "transfer 10 read pending" ∷ codes "reset 11" ∷ codes "start 14" ∷ codes "verdict conforming" ∷ [];
}

-- the write that the reset ended holds its data no more
unfoldable pub data_changes_after_the_reset : Recording
data_changes_after_the_reset = record {
  trace =
      once_granted (addressing ∷ (low AS ∷ low WRITE ∷ []) ∷ (low DS0 ∷ low DS1 ∷ []) ∷ (low SYSRESET ∷ [])
      ∷ (high AS ∷ high DS0 ∷ high DS1 ∷ high BBSY ∷ []) ∷ (high SYSRESET ∷ []) ∷ (low (D 3) ∷ []) ∷ []);
  verdict = Conforming;
  rows =
      codes "start 1" ∷ codes "tenure 5 level 3 slot 2 end -" ∷ codes "cycle 9 S 39 FFFFDE end -"
      ∷ codes "transfer 10 write pending" ∷ codes "reset 11" ∷ codes "start 13" ∷ codes "verdict conforming" ∷ [];
}

-- the strobes of the write that the reset ended never rise. A data line that it moved is unknown as a read starts, and
-- changes in the read
unfoldable pub read_after_the_reset_of_a_write : Recording
read_after_the_reset_of_a_write = record {
  trace =
      once_granted (addressing ∷ (low AS ∷ low WRITE ∷ []) ∷ (low DS0 ∷ low DS1 ∷ []) ∷ (low SYSRESET ∷ [])
      ∷ (high AS ∷ unknown DS0 ∷ unknown DS1 ∷ []) ∷ (high DS0 ∷ high DS1 ∷ high WRITE ∷ unknown (D 0) ∷ [])
      ∷ (high SYSRESET ∷ []) ∷ (low AS ∷ low DS0 ∷ low DS1 ∷ []) ∷ (low (D 0) ∷ []) ∷ (low DTACK ∷ [])
      ∷ (high AS ∷ high DS0 ∷ high DS1 ∷ []) ∷ (high DTACK ∷ []) ∷ []);
  verdict = Conforming;
  rows =
      codes "start 1" ∷ codes "tenure 5 level 3 slot 2 end -" ∷ codes "cycle 9 S 39 FFFFDE end -"
      ∷ codes "transfer 10 write pending" ∷ codes "reset 11" ∷ codes "start 14" ∷ codes "tenure 14 open end -"
      ∷ codes "cycle 15 S 39 FFFFDE end 18" ∷ codes "transfer 15 of 15 read DTACK 17 close 18"
      ∷ codes "verdict conforming" ∷ [];
}

-- the answer of a read is withdrawn in the reset before a strobe rises, and the next cycle is a read too. No recording
-- shows whether H6 looks for the fall of an answer before a start: each answer line is high there, so one that rises
-- fell after it
unfoldable pub answer_withdrawn_in_the_reset : Recording
answer_withdrawn_in_the_reset = record {
  trace =
      once_granted (addressing ∷ (low AS ∷ []) ∷ (low DS0 ∷ low DS1 ∷ []) ∷ (low DTACK ∷ []) ∷ (low SYSRESET ∷ [])
      ∷ (high DTACK ∷ []) ∷ (high AS ∷ high DS0 ∷ high DS1 ∷ []) ∷ (high SYSRESET ∷ [])
      ∷ (low AS ∷ low DS0 ∷ low DS1 ∷ []) ∷ (low DTACK ∷ []) ∷ (high AS ∷ high DS0 ∷ high DS1 ∷ [])
      ∷ (high DTACK ∷ []) ∷ []);
  verdict = Conforming;
  rows =
      codes "start 1" ∷ codes "tenure 5 level 3 slot 2 end -" ∷ codes "cycle 9 S 39 FFFFDE end -"
      ∷ codes "transfer 10 of 9 read DTACK 11 close -" ∷ codes "reset 12" ∷ codes "start 15"
      ∷ codes "tenure 15 open end -" ∷ codes "cycle 16 S 39 FFFFDE end 18"
      ∷ codes "transfer 16 of 16 read DTACK 17 close 18" ∷ codes "verdict conforming" ∷ [];
}

-- the answer after the reset is withdrawn before a strobe rises: the strobe that rose in the reset counts no more
unfoldable pub answer_withdrawn_early_after_the_reset : Recording
answer_withdrawn_early_after_the_reset = record {
  trace =
      once_granted (addressing ∷ (low AS ∷ []) ∷ (low DS0 ∷ low DS1 ∷ []) ∷ (low DTACK ∷ []) ∷ (low SYSRESET ∷ [])
      ∷ (high DTACK ∷ []) ∷ (high AS ∷ high DS0 ∷ high DS1 ∷ []) ∷ (high SYSRESET ∷ [])
      ∷ (low AS ∷ low DS0 ∷ low DS1 ∷ []) ∷ (low DTACK ∷ []) ∷ (high DTACK ∷ []) ∷ []);
  verdict = Broken (record { instant = 18; time = 170; rule = H6; line = DTACK });
  rows =
      codes "start 1" ∷ codes "tenure 5 level 3 slot 2 end -" ∷ codes "cycle 9 S 39 FFFFDE end -"
      ∷ codes "transfer 10 of 9 read DTACK 11 close -" ∷ codes "reset 12" ∷ codes "start 15"
      ∷ codes "tenure 15 open end -" ∷ codes "cycle 16 S 39 FFFFDE end -"
      ∷ codes "transfer 16 of 16 read DTACK 17 close -" ∷ codes "verdict broken H6 18 DTACK" ∷ [];
}

-- the read that the reset ended is answered while the bus is reset
unfoldable pub answer_in_the_reset : Recording
answer_in_the_reset = record {
  trace =
      once_granted (addressing ∷ (low AS ∷ []) ∷ (low DS0 ∷ low DS1 ∷ []) ∷ (low SYSRESET ∷ []) ∷ (low DTACK ∷ [])
      ∷ (high AS ∷ high DS0 ∷ high DS1 ∷ high DTACK ∷ high BBSY ∷ []) ∷ (high SYSRESET ∷ []) ∷ []);
  verdict = Conforming;
  rows =
      codes "start 1" ∷ codes "tenure 5 level 3 slot 2 end -" ∷ codes "cycle 9 S 39 FFFFDE end -"
      ∷ codes "transfer 10 read pending" ∷ codes "reset 11" ∷ codes "start 14" ∷ codes "verdict conforming" ∷ [];
}

-- a block of reads that the reset ended, and a block of writes after it
unfoldable pub block_write_after_the_reset_of_a_block_read : Recording
block_write_after_the_reset_of_a_block_read = record {
  trace =
      once_granted ((low (AM 2) ∷ low (A 5) ∷ []) ∷ (low AS ∷ []) ∷ (low DS0 ∷ low DS1 ∷ []) ∷ (low DTACK ∷ [])
      ∷ (low SYSRESET ∷ []) ∷ (high AS ∷ high DS0 ∷ high DS1 ∷ high DTACK ∷ []) ∷ (high SYSRESET ∷ [])
      ∷ (low AS ∷ low DS0 ∷ low DS1 ∷ low WRITE ∷ []) ∷ (low DTACK ∷ []) ∷ (high AS ∷ high DS0 ∷ high DS1 ∷ [])
      ∷ (high DTACK ∷ []) ∷ []);
  verdict = Conforming;
  rows =
      codes "start 1" ∷ codes "tenure 5 level 3 slot 2 end -" ∷ codes "cycle 9 K 3B FFFFDE end -"
      ∷ codes "transfer 10 of 9 read DTACK 11 close -" ∷ codes "reset 12" ∷ codes "start 14"
      ∷ codes "tenure 14 open end -" ∷ codes "cycle 15 K 3B FFFFDE end 17"
      ∷ codes "transfer 15 of 15 write DTACK 16 close 17 data ----FFFF" ∷ codes "verdict conforming" ∷ [];
}

-- a grant is taken, the bus is reset, and another grant is taken
unfoldable pub bus_granted_again_after_the_reset : Recording
bus_granted_again_after_the_reset = record {
  trace =
      from_idle ((low (BR 3) ∷ []) ∷ (low (grant 3 0) ∷ []) ∷ (low BBSY ∷ high (BR 3) ∷ []) ∷ (low SYSRESET ∷ [])
      ∷ (high BBSY ∷ high (grant 3 0) ∷ []) ∷ (high SYSRESET ∷ []) ∷ (low (BR 3) ∷ []) ∷ (low (grant 3 0) ∷ [])
      ∷ (low BBSY ∷ high (BR 3) ∷ []) ∷ (high (grant 3 0) ∷ []) ∷ []);
  verdict = Conforming;
  rows =
      codes "start 1" ∷ codes "tenure 4 level 3 slot 1 end -" ∷ codes "reset 5" ∷ codes "start 7"
      ∷ codes "tenure 10 level 3 slot 1 end -" ∷ codes "verdict conforming" ∷ [];
}

-- the grant after the reset is taken twice
unfoldable pub grant_taken_twice_after_the_reset : Recording
grant_taken_twice_after_the_reset = record {
  trace =
      from_idle ((low (BR 3) ∷ []) ∷ (low (grant 3 0) ∷ []) ∷ (low BBSY ∷ high (BR 3) ∷ []) ∷ (low SYSRESET ∷ [])
      ∷ (high BBSY ∷ high (grant 3 0) ∷ []) ∷ (high SYSRESET ∷ []) ∷ (low (BR 3) ∷ []) ∷ (low (grant 3 0) ∷ [])
      ∷ (low BBSY ∷ high (BR 3) ∷ []) ∷ (high BBSY ∷ []) ∷ (low BBSY ∷ []) ∷ []);
  verdict = Broken (record { instant = 12; time = 110; rule = B2; line = BBSY });
  rows =
      codes "start 1" ∷ codes "tenure 4 level 3 slot 1 end -" ∷ codes "reset 5" ∷ codes "start 7"
      ∷ codes "tenure 10 level 3 slot 1 end 11" ∷ codes "verdict broken B2 12 BBSY" ∷ [];
}

-- a grant that came before the reset is taken after it, which breaks B1. B1 is broken wherever no grant fell after a
-- start, since each grant net is high there. So no recording shows whether B2 counts a grant before the start
unfoldable pub grant_before_the_reset_taken : Recording
grant_before_the_reset_taken = record {
  trace =
      from_idle ((low (BR 3) ∷ []) ∷ (low (grant 3 0) ∷ []) ∷ (low SYSRESET ∷ [])
      ∷ (high (BR 3) ∷ high (grant 3 0) ∷ []) ∷ (high SYSRESET ∷ []) ∷ (low BBSY ∷ []) ∷ []);
  verdict = Broken (record { instant = 7; time = 60; rule = B1; line = BBSY });
  rows = codes "start 1" ∷ codes "reset 4" ∷ codes "start 6" ∷ codes "verdict broken B1 7 BBSY" ∷ [];
}

-- the bus is taken as judging starts again: the tenure is open there, and takes no grant
unfoldable pub bus_taken_as_judging_starts_again : Recording
bus_taken_as_judging_starts_again = record {
  trace = from_idle ((low SYSRESET ∷ []) ∷ (low BBSY ∷ high SYSRESET ∷ []) ∷ []);
  verdict = Conforming;
  rows =
      codes "start 1" ∷ codes "reset 2" ∷ codes "start 3" ∷ codes "tenure 3 open end -"
      ∷ codes "verdict conforming" ∷ [];
}

-- a tenure that was open at the start ends while the bus is reset
unfoldable pub open_tenure_ends_in_the_reset : Recording
open_tenure_ends_in_the_reset = record {
  trace = from_idle_but BBSY ((low SYSRESET ∷ []) ∷ (high BBSY ∷ []) ∷ (high SYSRESET ∷ []) ∷ []);
  verdict = Conforming;
  rows =
      codes "start 1" ∷ codes "tenure 1 open end -" ∷ codes "reset 2" ∷ codes "start 4"
      ∷ codes "verdict conforming" ∷ [];
}

-- an open tenure, a cycle and a transfer end at the instant of the reset: their ends aren't listed
unfoldable pub everything_ends_at_the_reset : Recording
everything_ends_at_the_reset = record {
  trace =
      from_idle_but BBSY ((low AS ∷ low DS0 ∷ low DTACK ∷ []) ∷ (high AS ∷ high DS0 ∷ high BBSY ∷ low SYSRESET ∷ [])
      ∷ []);
  verdict = Conforming;
  rows =
      codes "start 1" ∷ codes "tenure 1 open end -" ∷ codes "cycle 2 K 3F FFFFFE end -"
      ∷ codes "transfer 2 of 2 read DTACK 2 close -" ∷ codes "reset 3" ∷ codes "verdict conforming" ∷ [];
}

-- a tenure that a grant began ends at the instant of the reset: its end isn't listed
unfoldable pub tenure_ends_at_the_reset : Recording
tenure_ends_at_the_reset = record {
  trace =
      from_idle ((low (BR 3) ∷ []) ∷ (low (grant 3 0) ∷ []) ∷ (low BBSY ∷ high (BR 3) ∷ []) ∷ (high (grant 3 0) ∷ [])
      ∷ (high BBSY ∷ low SYSRESET ∷ []) ∷ []);
  verdict = Conforming;
  rows = codes "start 1" ∷ codes "tenure 4 level 3 slot 1 end -" ∷ codes "reset 6" ∷ codes "verdict conforming" ∷ [];
}

-- an answer to nobody before the reset, and an unknown direction after it: the earlier break is named
unfoldable pub unreadable_after_a_break_before_the_reset : Recording
unreadable_after_a_break_before_the_reset = record {
  trace =
      from_idle ((low BERR ∷ []) ∷ (low SYSRESET ∷ []) ∷ (high BERR ∷ high SYSRESET ∷ [])
      ∷ (low DS0 ∷ unknown WRITE ∷ []) ∷ []);
  verdict = Broken (record { instant = 2; time = 10; rule = H4; line = BERR });
  rows = codes "start 1" ∷ codes "verdict broken H4 2 BERR" ∷ [];
}

-- all recordings of this module
abbrev pub resets : List Recording
resets = reset_in_a_read ∷ busy_after_the_reset ∷ answer_after_the_reset ∷ strobe_lost_with_the_reset
    ∷ reset_line_lost ∷ reset_forgets_a_request ∷ request_without_a_reset ∷ reset_for_good ∷ reset_before_judging
    ∷ reset_at_the_end ∷ two_resets ∷ stray_answer_with_the_reset ∷ stray_answers_around_the_reset
    ∷ strobe_unknown_after_the_reset ∷ strobe_lost_after_the_reset ∷ reset_after_a_lost_strobe
    ∷ address_changes_after_the_reset ∷ address_changes_after_a_lost_strobe ∷ direction_changes_after_the_reset
    ∷ direction_changes_after_lost_strobes ∷ data_changes_after_the_reset ∷ read_after_the_reset_of_a_write
    ∷ answer_withdrawn_in_the_reset ∷ answer_withdrawn_early_after_the_reset ∷ answer_in_the_reset
    ∷ block_write_after_the_reset_of_a_block_read ∷ bus_granted_again_after_the_reset
    ∷ grant_taken_twice_after_the_reset ∷ grant_before_the_reset_taken ∷ bus_taken_as_judging_starts_again
    ∷ open_tenure_ends_in_the_reset ∷ everything_ends_at_the_reset ∷ tenure_ends_at_the_reset
    ∷ unreadable_after_a_break_before_the_reset ∷ []
