-- What conforms though the standard's order of edges forbids it.
use Rattle.std.specs.Prelude.{List, [], ◌∷◌, codes}
use Rattle.vme_trace.specs.LineNumbers.{AS, DS0, DS1, DTACK, BERR, IACK, LWORD, WRITE, AM, A, BBSY, BR, D, grant, iack}
use Rattle.vme_trace.specs.declared.verdict.Verdict.TheVariants.{Conforming}
use Rattle.vme_eval.specs.Recording.{Recording}
use Rattle.vme_eval.specs.Steps.{low, high, unknown, from_idle, from_idle_but}

-- slot 1 never lets go of its grant output: the next grant, which comes to slot 1 alone, counts as one of slot 2
unfoldable pub chain_net_left_low : Recording
chain_net_left_low = record {
  trace =
      from_idle ((low (BR 3) ∷ []) ∷ (low (grant 3 0) ∷ []) ∷ (low (grant 3 1) ∷ []) ∷ (low BBSY ∷ high (BR 3) ∷ [])
      ∷ (high (grant 3 0) ∷ []) ∷ (high BBSY ∷ []) ∷ (low (BR 3) ∷ []) ∷ (low (grant 3 0) ∷ []) ∷ (low BBSY ∷ []) ∷ []);
  verdict = Conforming;
  rows =
      codes "start 1" ∷ codes "tenure 5 level 3 slot 2 end 7" ∷ codes "tenure 10 level 3 slot 2 end -"
      ∷ codes "verdict conforming" ∷ [];
}

-- slot 1 lets its acknowledge output low past the end of the cycle and into the next acknowledge
unfoldable pub acknowledge_net_left_low : Recording
acknowledge_net_left_low = record {
  trace =
      from_idle_but BBSY ((low IACK ∷ []) ∷ (low AS ∷ []) ∷ (low DS0 ∷ []) ∷ (low (iack 1) ∷ []) ∷ (low DTACK ∷ [])
      ∷ (high AS ∷ high DS0 ∷ []) ∷ (high DTACK ∷ []) ∷ (low AS ∷ []) ∷ (low DS0 ∷ []) ∷ (low DTACK ∷ []) ∷ []);
  verdict = Conforming;
  rows =
      codes "start 1" ∷ codes "tenure 1 open end -" ∷ codes "cycle 3 I 7 end 7"
      ∷ codes "transfer 4 of 3 read DTACK 6 close 7" ∷ codes "cycle 9 I 7 end -"
      ∷ codes "transfer 10 of 9 read DTACK 11 close -" ∷ codes "verdict conforming" ∷ [];
}

-- slot 1 lets go of its acknowledge output and drives it again in one cycle
unfoldable pub acknowledge_passed_on_twice : Recording
acknowledge_passed_on_twice = record {
  trace =
      from_idle_but BBSY ((low IACK ∷ []) ∷ (low AS ∷ []) ∷ (low DS0 ∷ []) ∷ (low (iack 1) ∷ []) ∷ (high (iack 1) ∷ [])
      ∷ (low (iack 1) ∷ []) ∷ (low DTACK ∷ []) ∷ (high AS ∷ high DS0 ∷ []) ∷ (high DTACK ∷ high (iack 1) ∷ []) ∷ []);
  verdict = Conforming;
  rows =
      codes "start 1" ∷ codes "tenure 1 open end -" ∷ codes "cycle 3 I 7 end 9"
      ∷ codes "transfer 4 of 3 read DTACK 8 close 9" ∷ codes "verdict conforming" ∷ [];
}

-- the address changes between the read and the write of one cycle, by modifier 3D
unfoldable pub read_modify_write_at_two_addresses : Recording
read_modify_write_at_two_addresses = record {
  trace =
      from_idle_but BBSY ((low (AM 1) ∷ []) ∷ (low AS ∷ []) ∷ (low DS0 ∷ []) ∷ (low DTACK ∷ []) ∷ (high DS0 ∷ [])
      ∷ (high DTACK ∷ low WRITE ∷ low (A 5) ∷ []) ∷ (low DS0 ∷ []) ∷ (low DTACK ∷ []) ∷ (high AS ∷ high DS0 ∷ [])
      ∷ (high DTACK ∷ []) ∷ []);
  verdict = Conforming;
  rows =
      codes "start 1" ∷ codes "tenure 1 open end -" ∷ codes "cycle 3 S 3D FFFFFE end 10"
      ∷ codes "transfer 4 of 3 read DTACK 5 close 6" ∷ codes "transfer 8 of 3 write DTACK 9 close 10 data ------FF"
      ∷ codes "verdict conforming" ∷ [];
}

-- the read is of a byte, and the write of a long word
unfoldable pub read_modify_write_of_two_sizes : Recording
read_modify_write_of_two_sizes = record {
  trace =
      from_idle_but BBSY ((low (AM 1) ∷ []) ∷ (low AS ∷ []) ∷ (low DS0 ∷ []) ∷ (low DTACK ∷ []) ∷ (high DS0 ∷ [])
      ∷ (high DTACK ∷ low LWORD ∷ low WRITE ∷ low (A 1) ∷ []) ∷ (low DS0 ∷ low DS1 ∷ []) ∷ (low DTACK ∷ [])
      ∷ (high AS ∷ high DS0 ∷ high DS1 ∷ []) ∷ (high DTACK ∷ []) ∷ []);
  verdict = Conforming;
  rows =
      codes "start 1" ∷ codes "tenure 1 open end -" ∷ codes "cycle 3 S 3D FFFFFE end 10"
      ∷ codes "transfer 4 of 3 read DTACK 5 close 6" ∷ codes "transfer 8 of 3 write DTACK 9 close 10 data FFFFFFFF"
      ∷ codes "verdict conforming" ∷ [];
}

-- a block of long words whose master lets go of the long word line after the first answer: of the second only 16 lines
-- are listed, and asked to be known and held
unfoldable pub block_of_long_words_without_its_long_word_line : Recording
block_of_long_words_without_its_long_word_line = record {
  trace =
      from_idle_but BBSY ((low (AM 2) ∷ low LWORD ∷ low WRITE ∷ low (A 1) ∷ []) ∷ (low AS ∷ [])
      ∷ (low DS0 ∷ low DS1 ∷ []) ∷ (low DTACK ∷ []) ∷ (high DS0 ∷ high DS1 ∷ high LWORD ∷ [])
      ∷ (high DTACK ∷ unknown (D 31) ∷ []) ∷ (low DS0 ∷ low DS1 ∷ []) ∷ (low (D 30) ∷ []) ∷ (low DTACK ∷ [])
      ∷ (high AS ∷ high DS0 ∷ high DS1 ∷ []) ∷ (high DTACK ∷ []) ∷ []);
  verdict = Conforming;
  rows =
      codes "start 1" ∷ codes "tenure 1 open end -" ∷ codes "cycle 3 K 3B FFFFFC end 11"
      ∷ codes "transfer 4 of 3 write DTACK 5 close 6 data FFFFFFFF"
      ∷ codes "transfer 8 of 3 write DTACK 10 close 11 data ----FFFF" ∷ codes "verdict conforming" ∷ [];
}

-- the modifier of a block changes after the first answer
unfoldable pub modifier_changes_in_a_block : Recording
modifier_changes_in_a_block = record {
  trace =
      from_idle_but BBSY ((low (AM 2) ∷ []) ∷ (low AS ∷ []) ∷ (low DS0 ∷ []) ∷ (low DTACK ∷ [])
      ∷ (high DS0 ∷ high (AM 2) ∷ []) ∷ (high DTACK ∷ []) ∷ (low DS0 ∷ []) ∷ (low DTACK ∷ [])
      ∷ (high AS ∷ high DS0 ∷ []) ∷ (high DTACK ∷ []) ∷ []);
  verdict = Conforming;
  rows =
      codes "start 1" ∷ codes "tenure 1 open end -" ∷ codes "cycle 3 K 3B FFFFFE end 10"
      ∷ codes "transfer 4 of 3 read DTACK 5 close 6" ∷ codes "transfer 8 of 3 read DTACK 9 close 10"
      ∷ codes "verdict conforming" ∷ [];
}

-- a read-modify-write continues after a bus error answered its read
unfoldable pub write_after_the_bus_error_of_the_read : Recording
write_after_the_bus_error_of_the_read = record {
  trace =
      from_idle_but BBSY ((low (AM 1) ∷ []) ∷ (low AS ∷ []) ∷ (low DS0 ∷ []) ∷ (low BERR ∷ []) ∷ (high DS0 ∷ [])
      ∷ (high BERR ∷ low WRITE ∷ []) ∷ (low DS0 ∷ []) ∷ (low DTACK ∷ []) ∷ (high AS ∷ high DS0 ∷ []) ∷ (high DTACK ∷ [])
      ∷ []);
  verdict = Conforming;
  rows =
      codes "start 1" ∷ codes "tenure 1 open end -" ∷ codes "cycle 3 S 3D FFFFFE end 10"
      ∷ codes "transfer 4 of 3 read BERR 5 close 6" ∷ codes "transfer 8 of 3 write DTACK 9 close 10 data ------FF"
      ∷ codes "verdict conforming" ∷ [];
}

-- a strobe falls several instants before the address strobe
unfoldable pub strobe_long_before_the_cycle : Recording
strobe_long_before_the_cycle = record {
  trace =
      from_idle_but BBSY ((low DS0 ∷ []) ∷ (low (A 5) ∷ []) ∷ (low (A 6) ∷ []) ∷ (low (A 7) ∷ []) ∷ (low AS ∷ [])
      ∷ (low DTACK ∷ []) ∷ (high AS ∷ high DS0 ∷ []) ∷ (high DTACK ∷ []) ∷ []);
  verdict = Conforming;
  rows =
      codes "start 1" ∷ codes "tenure 1 open end -" ∷ codes "transfer 2 of 6 read DTACK 7 close 8"
      ∷ codes "cycle 6 K 3F FFFF1E end 8" ∷ codes "verdict conforming" ∷ [];
}

-- an acknowledge of level 0, which no interrupt request has
unfoldable pub acknowledge_of_level_0 : Recording
acknowledge_of_level_0 = record {
  trace =
      from_idle_but BBSY ((low IACK ∷ low (A 1) ∷ low (A 2) ∷ low (A 3) ∷ []) ∷ (low AS ∷ []) ∷ (low DS0 ∷ [])
      ∷ (low DTACK ∷ []) ∷ (high AS ∷ high DS0 ∷ []) ∷ (high DTACK ∷ []) ∷ []);
  verdict = Conforming;
  rows =
      codes "start 1" ∷ codes "tenure 1 open end -" ∷ codes "cycle 3 I 0 end 6"
      ∷ codes "transfer 4 of 3 read DTACK 5 close 6" ∷ codes "verdict conforming" ∷ [];
}

-- a grant is taken though the request is gone
unfoldable pub grant_taken_after_the_request : Recording
grant_taken_after_the_request = record {
  trace =
      from_idle ((low (BR 3) ∷ []) ∷ (low (grant 3 0) ∷ []) ∷ (high (BR 3) ∷ []) ∷ (low BBSY ∷ [])
      ∷ (high (grant 3 0) ∷ []) ∷ []);
  verdict = Conforming;
  rows = codes "start 1" ∷ codes "tenure 5 level 3 slot 1 end -" ∷ codes "verdict conforming" ∷ [];
}

-- one strobe of two rises, and then the answer rises and the direction changes
unfoldable pub answer_and_direction_after_one_strobe : Recording
answer_and_direction_after_one_strobe = record {
  trace =
      from_idle_but BBSY ((low AS ∷ []) ∷ (low DS0 ∷ low DS1 ∷ []) ∷ (low DTACK ∷ []) ∷ (high DS1 ∷ [])
      ∷ (high DTACK ∷ low WRITE ∷ []) ∷ (high AS ∷ high DS0 ∷ []) ∷ []);
  verdict = Conforming;
  rows =
      codes "start 1" ∷ codes "tenure 1 open end -" ∷ codes "cycle 2 K 3F FFFFFE end 7"
      ∷ codes "transfer 3 of 2 read DTACK 4 close 7" ∷ codes "verdict conforming" ∷ [];
}

-- all recordings of this module
abbrev pub leniencies : List Recording
leniencies = chain_net_left_low ∷ acknowledge_net_left_low ∷ acknowledge_passed_on_twice
    ∷ read_modify_write_at_two_addresses ∷ read_modify_write_of_two_sizes
    ∷ block_of_long_words_without_its_long_word_line ∷ modifier_changes_in_a_block
    ∷ write_after_the_bus_error_of_the_read ∷ strobe_long_before_the_cycle ∷ acknowledge_of_level_0
    ∷ grant_taken_after_the_request ∷ answer_and_direction_after_one_strobe ∷ []
