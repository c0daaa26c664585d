-- Data lines that a write moves: known as its strobes fall, and held until the answer.
use Rattle.std.specs.Prelude.{List, [], ◌∷◌, codes}
use Rattle.vme_trace.specs.LineNumbers.{AS, DS0, DS1, DTACK, BERR, IACK, LWORD, WRITE, AM, A, BBSY, D}
use Rattle.vme_trace.specs.declared.rule.Rule.TheVariants.{U4, H3, S3}
use Rattle.vme_trace.specs.declared.verdict.Verdict.TheVariants.{Conforming, Broken, Unreadable}
use Rattle.vme_eval.specs.Recording.{Recording}
use Rattle.vme_eval.specs.Steps.{low, high, unknown, from_idle_but, once_granted}

-- a data line that the write moves is unknown as the strobes fall
unfoldable pub data_unknown : Recording
data_unknown = record {
  trace =
      once_granted ((low (AM 1) ∷ low (A 5) ∷ []) ∷ (low AS ∷ []) ∷ (low DS0 ∷ low DS1 ∷ []) ∷ (low DTACK ∷ [])
      ∷ (high DS0 ∷ high DS1 ∷ []) ∷ (high DTACK ∷ []) ∷ (low WRITE ∷ unknown (D 0) ∷ [])
      ∷ (low DS0 ∷ low DS1 ∷ []) ∷ (low DTACK ∷ []) ∷ (high AS ∷ high DS0 ∷ high DS1 ∷ []) ∷ (high DTACK ∷ []) ∷ []);
  verdict = Unreadable (record { instant = 15; time = 140; rule = U4; line = D 0 });
  rows =
      codes "start 1" ∷ codes "tenure 5 level 3 slot 2 end -" ∷ codes "cycle 9 S 3D FFFFDE end -"
      ∷ codes "transfer 10 of 9 read DTACK 11 close 12" ∷ codes "verdict unreadable U4 15 D00" ∷ [];
}

-- a data line that the write doesn't move is unknown
unfoldable pub unmoved_data_unknown : Recording
unmoved_data_unknown = record {
  trace =
      once_granted ((low (AM 1) ∷ low (A 5) ∷ []) ∷ (low AS ∷ []) ∷ (low DS0 ∷ low DS1 ∷ []) ∷ (low DTACK ∷ [])
      ∷ (high DS0 ∷ high DS1 ∷ []) ∷ (high DTACK ∷ []) ∷ (low WRITE ∷ unknown (D 16) ∷ [])
      ∷ (low DS0 ∷ low DS1 ∷ []) ∷ (low DTACK ∷ []) ∷ (high AS ∷ high DS0 ∷ high DS1 ∷ []) ∷ (high DTACK ∷ []) ∷ []);
  verdict = Conforming;
  rows =
      codes "start 1" ∷ codes "tenure 5 level 3 slot 2 end -" ∷ codes "cycle 9 S 3D FFFFDE end 17"
      ∷ codes "transfer 10 of 9 read DTACK 11 close 12" ∷ codes "transfer 15 of 9 write DTACK 16 close 17 data ----FFFF"
      ∷ codes "verdict conforming" ∷ [];
}

-- a data line changes with the answer of the write
unfoldable pub data_change_with_the_answer : Recording
data_change_with_the_answer = record {
  trace =
      once_granted ((low (AM 1) ∷ low (A 5) ∷ []) ∷ (low AS ∷ []) ∷ (low DS0 ∷ low DS1 ∷ []) ∷ (low DTACK ∷ [])
      ∷ (high DS0 ∷ high DS1 ∷ []) ∷ (high DTACK ∷ []) ∷ (low WRITE ∷ []) ∷ (low DS0 ∷ low DS1 ∷ [])
      ∷ (low DTACK ∷ low (D 3) ∷ []) ∷ (high AS ∷ high DS0 ∷ high DS1 ∷ []) ∷ (high DTACK ∷ []) ∷ []);
  verdict = Conforming;
  rows =
      codes "start 1" ∷ codes "tenure 5 level 3 slot 2 end -" ∷ codes "cycle 9 S 3D FFFFDE end 17"
      ∷ codes "transfer 10 of 9 read DTACK 11 close 12" ∷ codes "transfer 15 of 9 write DTACK 16 close 17 data ----FFFF"
      ∷ codes "verdict conforming" ∷ [];
}

-- a data line changes before the answer of the write
unfoldable pub data_change : Recording
data_change = record {
  trace =
      once_granted ((low (AM 1) ∷ low (A 5) ∷ []) ∷ (low AS ∷ []) ∷ (low DS0 ∷ low DS1 ∷ []) ∷ (low DTACK ∷ [])
      ∷ (high DS0 ∷ high DS1 ∷ []) ∷ (high DTACK ∷ []) ∷ (low WRITE ∷ []) ∷ (low DS0 ∷ low DS1 ∷ [])
      ∷ (low (D 7) ∷ []) ∷ (low DTACK ∷ []) ∷ []);
  verdict = Broken (record { instant = 16; time = 150; rule = S3; line = D 7 });
  rows =
      codes "start 1" ∷ codes "tenure 5 level 3 slot 2 end -" ∷ codes "cycle 9 S 3D FFFFDE end -"
      ∷ codes "transfer 10 of 9 read DTACK 11 close 12" ∷ codes "transfer 15 write pending"
      ∷ codes "verdict broken S3 16 D07" ∷ [];
}

-- a data line that the write doesn't move changes before the answer
unfoldable pub unmoved_data_change : Recording
unmoved_data_change = record {
  trace =
      once_granted ((low (AM 1) ∷ low (A 5) ∷ []) ∷ (low AS ∷ []) ∷ (low DS0 ∷ low DS1 ∷ []) ∷ (low DTACK ∷ [])
      ∷ (high DS0 ∷ high DS1 ∷ []) ∷ (high DTACK ∷ []) ∷ (low WRITE ∷ []) ∷ (low DS0 ∷ low DS1 ∷ [])
      ∷ (low (D 16) ∷ []) ∷ (low DTACK ∷ []) ∷ (high AS ∷ high DS0 ∷ high DS1 ∷ []) ∷ (high DTACK ∷ []) ∷ []);
  verdict = Conforming;
  rows =
      codes "start 1" ∷ codes "tenure 5 level 3 slot 2 end -" ∷ codes "cycle 9 S 3D FFFFDE end 18"
      ∷ codes "transfer 10 of 9 read DTACK 11 close 12" ∷ codes "transfer 15 of 9 write DTACK 17 close 18 data ----FFFF"
      ∷ codes "verdict conforming" ∷ [];
}

-- data lines of a read are unknown, and change before the answer
unfoldable pub data_of_a_read : Recording
data_of_a_read = record {
  trace =
      once_granted ((low (AM 1) ∷ low (AM 2) ∷ low (A 5) ∷ unknown (D 3) ∷ []) ∷ (low AS ∷ [])
      ∷ (low DS0 ∷ low DS1 ∷ []) ∷ (low (D 3) ∷ []) ∷ (low DTACK ∷ []) ∷ (high AS ∷ high DS0 ∷ high DS1 ∷ [])
      ∷ (high DTACK ∷ []) ∷ []);
  verdict = Conforming;
  rows =
      codes "start 1" ∷ codes "tenure 5 level 3 slot 2 end -" ∷ codes "cycle 9 S 39 FFFFDE end 13"
      ∷ codes "transfer 10 of 9 read DTACK 12 close 13" ∷ codes "verdict conforming" ∷ [];
}

-- the byte of the second strobe is unknown as it falls
unfoldable pub second_byte_unknown : Recording
second_byte_unknown = record {
  trace =
      once_granted ((low (AM 1) ∷ low (AM 2) ∷ low WRITE ∷ low (A 5) ∷ unknown (D 8) ∷ []) ∷ (low AS ∷ [])
      ∷ (low DS0 ∷ []) ∷ (low DS1 ∷ []) ∷ []);
  verdict = Unreadable (record { instant = 11; time = 100; rule = U4; line = D 8 });
  rows =
      codes "start 1" ∷ codes "tenure 5 level 3 slot 2 end -" ∷ codes "cycle 9 S 39 FFFFDE end -"
      ∷ codes "transfer 10 write pending" ∷ codes "verdict unreadable U4 11 D08" ∷ [];
}

-- the byte of the second strobe is unknown as it falls with the answer
unfoldable pub second_byte_unknown_with_the_answer : Recording
second_byte_unknown_with_the_answer = record {
  trace =
      once_granted ((low (AM 1) ∷ low (AM 2) ∷ low WRITE ∷ low (A 5) ∷ unknown (D 8) ∷ []) ∷ (low AS ∷ [])
      ∷ (low DS0 ∷ []) ∷ (low DS1 ∷ low DTACK ∷ []) ∷ []);
  verdict = Unreadable (record { instant = 11; time = 100; rule = U4; line = D 8 });
  rows =
      codes "start 1" ∷ codes "tenure 5 level 3 slot 2 end -" ∷ codes "cycle 9 S 39 FFFFDE end -"
      ∷ codes "transfer 10 write pending" ∷ codes "verdict unreadable U4 11 D08" ∷ [];
}

-- the byte of the second strobe is unknown as it falls after the answer, which is another break
unfoldable pub second_byte_unknown_after_the_answer : Recording
second_byte_unknown_after_the_answer = record {
  trace =
      once_granted ((low (AM 1) ∷ low (AM 2) ∷ low WRITE ∷ low (A 5) ∷ unknown (D 8) ∷ []) ∷ (low AS ∷ [])
      ∷ (low DS0 ∷ []) ∷ (low DTACK ∷ []) ∷ (low DS1 ∷ []) ∷ []);
  verdict = Broken (record { instant = 12; time = 110; rule = H3; line = DS1 });
  rows =
      codes "start 1" ∷ codes "tenure 5 level 3 slot 2 end -" ∷ codes "cycle 9 S 39 FFFFDE end -"
      ∷ codes "transfer 10 of 9 write DTACK 11 close - data ------FF" ∷ codes "verdict broken H3 12 DS1" ∷ [];
}

-- the upper byte alone is written, and the lower one is unknown
unfoldable pub upper_byte_alone : Recording
upper_byte_alone = record {
  trace =
      once_granted ((low (AM 1) ∷ low (AM 2) ∷ low WRITE ∷ low (A 5) ∷ unknown (D 7) ∷ []) ∷ (low AS ∷ [])
      ∷ (low DS1 ∷ []) ∷ (low DTACK ∷ []) ∷ (high AS ∷ high DS1 ∷ []) ∷ (high DTACK ∷ []) ∷ []);
  verdict = Conforming;
  rows =
      codes "start 1" ∷ codes "tenure 5 level 3 slot 2 end -" ∷ codes "cycle 9 S 39 FFFFDE end 12"
      ∷ codes "transfer 10 of 9 write DTACK 11 close 12 data ----FF--" ∷ codes "verdict conforming" ∷ [];
}

-- the byte of the second strobe changes as it falls
unfoldable pub second_byte_changes : Recording
second_byte_changes = record {
  trace =
      once_granted ((low (AM 1) ∷ low (AM 2) ∷ low WRITE ∷ low (A 5) ∷ []) ∷ (low AS ∷ []) ∷ (low DS0 ∷ [])
      ∷ (low DS1 ∷ low (D 8) ∷ []) ∷ (low DTACK ∷ []) ∷ (high AS ∷ high DS0 ∷ high DS1 ∷ [])
      ∷ (high DTACK ∷ []) ∷ []);
  verdict = Conforming;
  rows =
      codes "start 1" ∷ codes "tenure 5 level 3 slot 2 end -" ∷ codes "cycle 9 S 39 FFFFDE end 13"
      ∷ codes "transfer 10 of 9 write DTACK 12 close 13 data ----FEFF" ∷ codes "verdict conforming" ∷ [];
}

-- a data line becomes unknown before the answer of the write
unfoldable pub data_lost : Recording
data_lost = record {
  trace =
      once_granted ((low (AM 1) ∷ low (AM 2) ∷ low WRITE ∷ low (A 5) ∷ []) ∷ (low AS ∷ []) ∷ (low DS0 ∷ low DS1 ∷ [])
      ∷ (unknown (D 15) ∷ []) ∷ []);
  verdict = Broken (record { instant = 11; time = 100; rule = S3; line = D 15 });
  rows =
      codes "start 1" ∷ codes "tenure 5 level 3 slot 2 end -" ∷ codes "cycle 9 S 39 FFFFDE end -"
      ∷ codes "transfer 10 write pending" ∷ codes "verdict broken S3 11 D15" ∷ [];
}

-- a data line changes after the answer of the write
unfoldable pub data_change_after_the_answer : Recording
data_change_after_the_answer = record {
  trace =
      once_granted ((low (AM 1) ∷ low (AM 2) ∷ low WRITE ∷ low (A 5) ∷ []) ∷ (low AS ∷ []) ∷ (low DS0 ∷ low DS1 ∷ [])
      ∷ (low DTACK ∷ []) ∷ (low (D 3) ∷ []) ∷ (high AS ∷ high DS0 ∷ high DS1 ∷ []) ∷ (high DTACK ∷ []) ∷ []);
  verdict = Conforming;
  rows =
      codes "start 1" ∷ codes "tenure 5 level 3 slot 2 end -" ∷ codes "cycle 9 S 39 FFFFDE end 13"
      ∷ codes "transfer 10 of 9 write DTACK 11 close 13 data ----FFFF" ∷ codes "verdict conforming" ∷ [];
}

-- a long word whose data lines are known and held
unfoldable pub long_word : Recording
long_word = record {
  trace =
      once_granted ((low (AM 1) ∷ low (AM 2) ∷ low LWORD ∷ low WRITE ∷ low (A 1) ∷ low (A 5) ∷ low (D 31) ∷ [])
      ∷ (low AS ∷ []) ∷ (low DS0 ∷ low DS1 ∷ []) ∷ (low DTACK ∷ []) ∷ (high AS ∷ high DS0 ∷ high DS1 ∷ [])
      ∷ (high DTACK ∷ []) ∷ []);
  verdict = Conforming;
  rows =
      codes "start 1" ∷ codes "tenure 5 level 3 slot 2 end -" ∷ codes "cycle 9 S 39 FFFFDC end 12"
      ∷ codes "transfer 10 of 9 write DTACK 11 close 12 data 7FFFFFFF" ∷ codes "verdict conforming" ∷ [];
}

-- the highest data line of a long word is unknown
unfoldable pub long_word_unknown : Recording
long_word_unknown = record {
  trace =
      once_granted ((low (AM 1) ∷ low (AM 2) ∷ low LWORD ∷ low WRITE ∷ low (A 1) ∷ low (A 5) ∷ unknown (D 31) ∷ [])
      ∷ (low AS ∷ []) ∷ (low DS0 ∷ low DS1 ∷ []) ∷ []);
  verdict = Unreadable (record { instant = 10; time = 90; rule = U4; line = D 31 });
  rows =
      codes "start 1" ∷ codes "tenure 5 level 3 slot 2 end -" ∷ codes "cycle 9 S 39 FFFFDC end -"
      ∷ codes "verdict unreadable U4 10 D31" ∷ [];
}

-- the lowest data line of a long word changes before the answer
unfoldable pub long_word_changes : Recording
long_word_changes = record {
  trace =
      once_granted ((low (AM 1) ∷ low (AM 2) ∷ low LWORD ∷ low WRITE ∷ low (A 1) ∷ low (A 5) ∷ [])
      ∷ (low AS ∷ []) ∷ (low DS0 ∷ low DS1 ∷ []) ∷ (low (D 0) ∷ []) ∷ []);
  verdict = Broken (record { instant = 11; time = 100; rule = S3; line = D 0 });
  rows =
      codes "start 1" ∷ codes "tenure 5 level 3 slot 2 end -" ∷ codes "cycle 9 S 39 FFFFDC end -"
      ∷ codes "transfer 10 write pending" ∷ codes "verdict broken S3 11 D00" ∷ [];
}

-- the long word line is low and A01 high: nothing is moved
unfoldable pub no_long_word_at_an_odd_word : Recording
no_long_word_at_an_odd_word = record {
  trace =
      once_granted ((low (AM 1) ∷ low (AM 2) ∷ low LWORD ∷ low WRITE ∷ low (A 5) ∷ unknown (D 31) ∷ []) ∷ (low AS ∷ [])
      ∷ (low DS0 ∷ low DS1 ∷ []) ∷ (low DTACK ∷ []) ∷ (high AS ∷ high DS0 ∷ high DS1 ∷ []) ∷ (high DTACK ∷ []) ∷ []);
  verdict = Conforming;
  rows =
      codes "start 1" ∷ codes "tenure 5 level 3 slot 2 end -" ∷ codes "cycle 9 S 39 FFFFDE end 12"
      ∷ codes "transfer 10 of 9 write DTACK 11 close 12 data --------" ∷ codes "verdict conforming" ∷ [];
}

-- the second transfer of a block becomes one of a long word before its answer, and two lines of the upper half are
-- unknown, the first of one digit and the last of another. No board may drive it: a master holds the long word line and
-- the address until its transfer is answered
unfoldable pub lanes_unknown : Recording
lanes_unknown = record {
  trace =
      once_granted ((low (AM 2) ∷ low WRITE ∷ low (A 5) ∷ unknown (D 16) ∷ unknown (D 23) ∷ []) ∷ (low AS ∷ [])
      ∷ (low DS0 ∷ low DS1 ∷ [])
      ∷ (low DTACK ∷ []) ∷ (high DS0 ∷ high DS1 ∷ []) ∷ (high DTACK ∷ []) ∷ (low DS0 ∷ low DS1 ∷ [])
      ∷ (low LWORD ∷ low (A 1) ∷ []) ∷ (low DTACK ∷ []) ∷ (high AS ∷ high DS0 ∷ high DS1 ∷ []) ∷ (high DTACK ∷ [])
      ∷ []);
  verdict = Conforming;
  rows =
      codes "start 1" ∷ codes "tenure 5 level 3 slot 2 end -" ∷ codes "cycle 9 K 3B FFFFDE end 17"
      ∷ codes "transfer 10 of 9 write DTACK 11 close 12 data ----FFFF"
      ∷ codes "transfer 14 of 9 write DTACK 16 close 17 data FFXXFFFF" ∷ codes "verdict conforming" ∷ [];
}

-- a write is answered as it starts
unfoldable pub answered_as_it_starts : Recording
answered_as_it_starts = record {
  trace =
      once_granted ((low (AM 1) ∷ low (AM 2) ∷ low WRITE ∷ low (A 5) ∷ []) ∷ (low AS ∷ [])
      ∷ (low DS0 ∷ low DS1 ∷ low DTACK ∷ low (D 0) ∷ []) ∷ (high AS ∷ high DS0 ∷ high DS1 ∷ []) ∷ (high DTACK ∷ [])
      ∷ []);
  verdict = Conforming;
  rows =
      codes "start 1" ∷ codes "tenure 5 level 3 slot 2 end -" ∷ codes "cycle 9 S 39 FFFFDE end 11"
      ∷ codes "transfer 10 of 9 write DTACK 10 close 11 data ----FFFE" ∷ codes "verdict conforming" ∷ [];
}

-- outside any cycle the second strobe and the long word line fall, so that nothing is moved any more, and the byte of
-- the first strobe is lost there
unfoldable pub byte_lost_as_the_second_strobe_falls : Recording
byte_lost_as_the_second_strobe_falls = record {
  trace = from_idle_but BBSY ((low DS0 ∷ low WRITE ∷ []) ∷ (low DS1 ∷ low LWORD ∷ unknown (D 0) ∷ []) ∷ []);
  verdict = Broken (record { instant = 3; time = 20; rule = S3; line = D 0 });
  rows =
      codes "start 1" ∷ codes "tenure 1 open end -" ∷ codes "transfer 2 write pending" ∷ codes "verdict broken S3 3 D00"
      ∷ [];
}

-- outside any cycle the byte of the second strobe is unknown as it falls, and the direction changes there
unfoldable pub second_byte_unknown_as_the_direction_changes : Recording
second_byte_unknown_as_the_direction_changes = record {
  trace = from_idle_but BBSY ((low DS0 ∷ low WRITE ∷ []) ∷ (low DS1 ∷ high WRITE ∷ unknown (D 8) ∷ []) ∷ []);
  verdict = Unreadable (record { instant = 3; time = 20; rule = U4; line = D 8 });
  rows =
      codes "start 1" ∷ codes "tenure 1 open end -" ∷ codes "transfer 2 write pending"
      ∷ codes "verdict unreadable U4 3 D08" ∷ [];
}

-- two digits of which one line is unknown, the second of the one and the third of the other. The strobe moves nothing
-- as it falls, by the long word line, which rises before the answer. No board may drive that either
unfoldable pub digits_unknown_by_an_inner_line : Recording
digits_unknown_by_an_inner_line = record {
  trace =
      from_idle_but BBSY ((low AS ∷ low (AM 2) ∷ []) ∷ (low DS0 ∷ low WRITE ∷ []) ∷ (low DTACK ∷ []) ∷ (high DS0 ∷ [])
      ∷ (high DTACK ∷ low LWORD ∷ unknown (D 1) ∷ unknown (D 6) ∷ []) ∷ (low DS0 ∷ []) ∷ (high LWORD ∷ [])
      ∷ (low DTACK ∷ []) ∷ []);
  verdict = Conforming;
  rows =
      codes "start 1" ∷ codes "tenure 1 open end -" ∷ codes "cycle 2 K 3B FFFFFE end -"
      ∷ codes "transfer 3 of 2 write DTACK 4 close 5 data ------FF"
      ∷ codes "transfer 7 of 2 write DTACK 9 close - data ------XX" ∷ codes "verdict conforming" ∷ [];
}

-- a long word asks for both strobes. A write that a bus error answers has data too
unfoldable pub long_word_by_one_strobe : Recording
long_word_by_one_strobe = record {
  trace = from_idle_but BBSY ((low AS ∷ low DS1 ∷ low BERR ∷ low LWORD ∷ low WRITE ∷ low (A 1) ∷ []) ∷ []);
  verdict = Conforming;
  rows =
      codes "start 1" ∷ codes "tenure 1 open end -" ∷ codes "cycle 2 K 3F FFFFFC end -"
      ∷ codes "transfer 2 of 2 write BERR 2 close - data --------" ∷ codes "verdict conforming" ∷ [];
}

-- a strobe rises with the answer of a write, as a line of the other byte becomes unknown
unfoldable pub strobe_rises_with_the_answer_of_a_write : Recording
strobe_rises_with_the_answer_of_a_write = record {
  trace =
      from_idle_but BBSY ((low AS ∷ low DS0 ∷ low DS1 ∷ low WRITE ∷ []) ∷ (high DS1 ∷ low DTACK ∷ unknown (D 0) ∷ [])
      ∷ []);
  verdict = Conforming;
  rows =
      codes "start 1" ∷ codes "tenure 1 open end -" ∷ codes "cycle 2 K 3F FFFFFE end -"
      ∷ codes "transfer 2 of 2 write DTACK 3 close - data ----FFFF" ∷ codes "verdict conforming" ∷ [];
}

-- a data line that isn't moved as the strobe falls is unknown there, and known only once it is moved
unfoldable pub byte_known_once_it_is_moved : Recording
byte_known_once_it_is_moved = record {
  trace =
      from_idle_but BBSY ((low DS0 ∷ low LWORD ∷ low WRITE ∷ unknown (D 0) ∷ []) ∷ (high LWORD ∷ []) ∷ (low (D 0) ∷ [])
      ∷ []);
  verdict = Broken (record { instant = 4; time = 30; rule = S3; line = D 0 });
  rows =
      codes "start 1" ∷ codes "tenure 1 open end -" ∷ codes "transfer 2 write pending" ∷ codes "verdict broken S3 4 D00"
      ∷ [];
}

-- the second strobe makes a long word of what the first one strobed, and a line of the first one's byte is unknown
unfoldable pub long_word_unknown_by_the_second_strobe : Recording
long_word_unknown_by_the_second_strobe = record {
  trace = from_idle_but BBSY ((low DS0 ∷ low LWORD ∷ low WRITE ∷ low (A 1) ∷ unknown (D 0) ∷ []) ∷ (low DS1 ∷ []) ∷ []);
  verdict = Unreadable (record { instant = 3; time = 20; rule = U4; line = D 0 });
  rows =
      codes "start 1" ∷ codes "tenure 1 open end -" ∷ codes "transfer 2 write pending"
      ∷ codes "verdict unreadable U4 3 D00" ∷ [];
}

-- the long word line is unknown: no byte is moved
unfoldable pub no_byte_by_an_unknown_size : Recording
no_byte_by_an_unknown_size = record {
  trace = from_idle_but BBSY ((low DS0 ∷ unknown LWORD ∷ low WRITE ∷ unknown (D 0) ∷ []) ∷ []);
  verdict = Conforming;
  rows =
      codes "start 1" ∷ codes "tenure 1 open end -" ∷ codes "transfer 2 write pending" ∷ codes "verdict conforming"
      ∷ [];
}

-- the long word line is unknown: no long word is moved
unfoldable pub no_long_word_by_an_unknown_size : Recording
no_long_word_by_an_unknown_size = record {
  trace = from_idle_but BBSY ((low DS0 ∷ low DS1 ∷ unknown LWORD ∷ low WRITE ∷ low (A 1) ∷ unknown (D 31) ∷ []) ∷ []);
  verdict = Conforming;
  rows =
      codes "start 1" ∷ codes "tenure 1 open end -" ∷ codes "transfer 2 write pending" ∷ codes "verdict conforming"
      ∷ [];
}

-- the long word line is low and A01 unknown: nothing is moved
unfoldable pub no_long_word_at_an_unknown_address : Recording
no_long_word_at_an_unknown_address = record {
  trace = from_idle_but BBSY ((low DS0 ∷ low DS1 ∷ low LWORD ∷ low WRITE ∷ unknown (A 1) ∷ unknown (D 31) ∷ []) ∷ []);
  verdict = Conforming;
  rows =
      codes "start 1" ∷ codes "tenure 1 open end -" ∷ codes "transfer 2 write pending" ∷ codes "verdict conforming"
      ∷ [];
}

-- a data line becomes known as the strobe falls
unfoldable pub data_known_as_the_strobe_falls : Recording
data_known_as_the_strobe_falls = record {
  trace = from_idle_but BBSY ((unknown (D 1) ∷ []) ∷ (low DS0 ∷ low WRITE ∷ high (D 1) ∷ []) ∷ []);
  verdict = Conforming;
  rows =
      codes "start 1" ∷ codes "tenure 1 open end -" ∷ codes "transfer 3 write pending" ∷ codes "verdict conforming"
      ∷ [];
}

-- the byte of the second strobe is unknown as it falls after a bus error, which is another break
unfoldable pub second_byte_unknown_after_a_bus_error : Recording
second_byte_unknown_after_a_bus_error = record {
  trace =
      from_idle_but BBSY ((low AS ∷ low DS0 ∷ low WRITE ∷ []) ∷ (low BERR ∷ []) ∷ (low DS1 ∷ unknown (D 8) ∷ []) ∷ []);
  verdict = Broken (record { instant = 4; time = 30; rule = H3; line = DS1 });
  rows =
      codes "start 1" ∷ codes "tenure 1 open end -" ∷ codes "cycle 2 K 3F FFFFFE end -"
      ∷ codes "transfer 2 of 2 write BERR 3 close - data ------FF" ∷ codes "verdict broken H3 4 DS1" ∷ [];
}

-- the highest data line of a long word changes before the answer
unfoldable pub highest_line_of_a_long_word_changes : Recording
highest_line_of_a_long_word_changes = record {
  trace = from_idle_but BBSY ((low DS0 ∷ low DS1 ∷ low LWORD ∷ low WRITE ∷ low (A 1) ∷ []) ∷ (low (D 31) ∷ []) ∷ []);
  verdict = Broken (record { instant = 3; time = 20; rule = S3; line = D 31 });
  rows =
      codes "start 1" ∷ codes "tenure 1 open end -" ∷ codes "transfer 2 write pending" ∷ codes "verdict broken S3 3 D31"
      ∷ [];
}

-- an acknowledge is a write, and a data line that it moves is unknown
unfoldable pub data_unknown_in_an_acknowledge : Recording
data_unknown_in_an_acknowledge = record {
  trace = from_idle_but BBSY ((low AS ∷ low DS1 ∷ low IACK ∷ low WRITE ∷ unknown (D 15) ∷ []) ∷ []);
  verdict = Unreadable (record { instant = 2; time = 10; rule = U4; line = D 15 });
  rows = codes "start 1" ∷ codes "tenure 1 open end -" ∷ codes "verdict unreadable U4 2 D15" ∷ [];
}

-- A01 has no part in what is moved where the long word line is high
unfoldable pub data_unknown_with_lowest_address_line_low : Recording
data_unknown_with_lowest_address_line_low = record {
  trace = from_idle_but BBSY ((low DS0 ∷ low WRITE ∷ low (A 1) ∷ unknown (D 2) ∷ []) ∷ []);
  verdict = Unreadable (record { instant = 2; time = 10; rule = U4; line = D 2 });
  rows = codes "start 1" ∷ codes "tenure 1 open end -" ∷ codes "verdict unreadable U4 2 D02" ∷ [];
}

-- a data line becomes unknown with a bus error
unfoldable pub data_lost_with_a_bus_error : Recording
data_lost_with_a_bus_error = record {
  trace = from_idle_but BBSY ((low AS ∷ low DS0 ∷ low WRITE ∷ []) ∷ (low BERR ∷ unknown (D 2) ∷ []) ∷ []);
  verdict = Conforming;
  rows =
      codes "start 1" ∷ codes "tenure 1 open end -" ∷ codes "cycle 2 K 3F FFFFFE end -"
      ∷ codes "transfer 2 of 2 write BERR 3 close - data ------FF" ∷ codes "verdict conforming" ∷ [];
}

-- all recordings of this module
abbrev pub write_data : List Recording
write_data = data_unknown ∷ unmoved_data_unknown ∷ data_change_with_the_answer ∷ data_change ∷ unmoved_data_change
    ∷ data_of_a_read ∷ second_byte_unknown ∷ second_byte_unknown_with_the_answer
    ∷ second_byte_unknown_after_the_answer ∷ upper_byte_alone ∷ second_byte_changes ∷ data_lost
    ∷ data_change_after_the_answer ∷ long_word ∷ long_word_unknown ∷ long_word_changes ∷ no_long_word_at_an_odd_word
    ∷ lanes_unknown ∷ answered_as_it_starts ∷ byte_lost_as_the_second_strobe_falls
    ∷ second_byte_unknown_as_the_direction_changes ∷ digits_unknown_by_an_inner_line ∷ long_word_by_one_strobe
    ∷ strobe_rises_with_the_answer_of_a_write ∷ byte_known_once_it_is_moved ∷ long_word_unknown_by_the_second_strobe
    ∷ no_byte_by_an_unknown_size ∷ no_long_word_by_an_unknown_size ∷ no_long_word_at_an_unknown_address
    ∷ data_known_as_the_strobe_falls ∷ second_byte_unknown_after_a_bus_error ∷ highest_line_of_a_long_word_changes
    ∷ data_unknown_in_an_acknowledge ∷ data_unknown_with_lowest_address_line_low ∷ data_lost_with_a_bus_error ∷ []
