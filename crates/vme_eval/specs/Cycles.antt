-- Classes of cycles, and cycles of several transfers.
use Rattle.std.specs.Prelude.{List, [], ◌∷◌, codes}
use Rattle.vme_trace.specs.LineNumbers.{AS, DS0, DS1, DTACK, IACK, WRITE, AM, A, BBSY}
use Rattle.vme_trace.specs.declared.rule.Rule.TheVariants.{C1, C2}
use Rattle.vme_trace.specs.declared.verdict.Verdict.TheVariants.{Conforming, Broken}
use Rattle.vme_eval.specs.Recording.{Recording}
use Rattle.vme_eval.specs.Steps.{low, high, once_granted}

-- a read and then a write of one cycle, by modifier 3D
unfoldable pub read_modify_write : Recording
read_modify_write = record {
  trace =
      once_granted ((low (AM 1) ∷ low (A 5) ∷ []) ∷ (low AS ∷ []) ∷ (low DS0 ∷ low DS1 ∷ []) ∷ (low DTACK ∷ [])
      ∷ (high DS0 ∷ high DS1 ∷ []) ∷ (high DTACK ∷ []) ∷ (low WRITE ∷ []) ∷ (low DS0 ∷ low DS1 ∷ [])
      ∷ (low DTACK ∷ []) ∷ (high AS ∷ high DS0 ∷ high DS1 ∷ []) ∷ (high DTACK ∷ []) ∷ []);
  verdict = Conforming;
  rows =
      codes "start 1" ∷ codes "tenure 5 level 3 slot 2 end -" ∷ codes "cycle 9 S 3D FFFFDE end 17"
      ∷ codes "transfer 10 of 9 read DTACK 11 close 12" ∷ codes "transfer 15 of 9 write DTACK 16 close 17 data ----FFFF"
      ∷ codes "verdict conforming" ∷ [];
}

-- a write and then a read of one cycle
unfoldable pub write_then_read : Recording
write_then_read = record {
  trace =
      once_granted ((low (AM 1) ∷ low WRITE ∷ low (A 5) ∷ []) ∷ (low AS ∷ []) ∷ (low DS0 ∷ low DS1 ∷ [])
      ∷ (low DTACK ∷ []) ∷ (high DS0 ∷ high DS1 ∷ []) ∷ (high DTACK ∷ []) ∷ (high WRITE ∷ [])
      ∷ (low DS0 ∷ low DS1 ∷ []) ∷ (low DTACK ∷ []) ∷ (high AS ∷ high DS0 ∷ high DS1 ∷ []) ∷ (high DTACK ∷ []) ∷ []);
  verdict = Broken (record { instant = 16; time = 150; rule = C1; line = DTACK });
  rows =
      codes "start 1" ∷ codes "tenure 5 level 3 slot 2 end -" ∷ codes "cycle 9 S 3D FFFFDE end -"
      ∷ codes "transfer 10 of 9 write DTACK 11 close 12 data ----FFFF" ∷ codes "transfer 15 read pending"
      ∷ codes "verdict broken C1 16 DTACK" ∷ [];
}

-- two writes of one cycle
unfoldable pub two_writes : Recording
two_writes = record {
  trace =
      once_granted ((low (AM 1) ∷ low (A 5) ∷ []) ∷ (low WRITE ∷ []) ∷ (low AS ∷ []) ∷ (low DS0 ∷ low DS1 ∷ [])
      ∷ (low DTACK ∷ []) ∷ (high DS0 ∷ high DS1 ∷ []) ∷ (high DTACK ∷ []) ∷ (low DS0 ∷ low DS1 ∷ [])
      ∷ (low DTACK ∷ []) ∷ []);
  verdict = Broken (record { instant = 16; time = 150; rule = C1; line = DTACK });
  rows =
      codes "start 1" ∷ codes "tenure 5 level 3 slot 2 end -" ∷ codes "cycle 10 S 3D FFFFDE end -"
      ∷ codes "transfer 11 of 10 write DTACK 12 close 13 data ----FFFF" ∷ codes "transfer 15 write pending"
      ∷ codes "verdict broken C1 16 DTACK" ∷ [];
}

-- a third transfer after a read and a write
unfoldable pub read_write_write : Recording
read_write_write = record {
  trace =
      once_granted ((low (AM 1) ∷ low (A 5) ∷ []) ∷ (low AS ∷ []) ∷ (low DS0 ∷ low DS1 ∷ []) ∷ (low DTACK ∷ [])
      ∷ (high DS0 ∷ high DS1 ∷ []) ∷ (high DTACK ∷ []) ∷ (low WRITE ∷ []) ∷ (low DS0 ∷ low DS1 ∷ [])
      ∷ (low DTACK ∷ []) ∷ (high DS0 ∷ high DS1 ∷ []) ∷ (high DTACK ∷ []) ∷ (low DS0 ∷ low DS1 ∷ [])
      ∷ (low DTACK ∷ []) ∷ []);
  verdict = Broken (record { instant = 20; time = 190; rule = C1; line = DTACK });
  rows =
      codes "start 1" ∷ codes "tenure 5 level 3 slot 2 end -" ∷ codes "cycle 9 S 3D FFFFDE end -"
      ∷ codes "transfer 10 of 9 read DTACK 11 close 12" ∷ codes "transfer 15 of 9 write DTACK 16 close 17 data ----FFFF"
      ∷ codes "transfer 19 write pending" ∷ codes "verdict broken C1 20 DTACK" ∷ [];
}

-- the first of two reads is answered as the cycle starts
unfoldable pub answer_as_the_cycle_starts_counts : Recording
answer_as_the_cycle_starts_counts = record {
  trace =
      once_granted ((low (AM 1) ∷ low (A 5) ∷ []) ∷ (low DS0 ∷ []) ∷ (low AS ∷ low DTACK ∷ []) ∷ (high DS0 ∷ [])
      ∷ (high DTACK ∷ []) ∷ (low DS0 ∷ []) ∷ (low DTACK ∷ []) ∷ []);
  verdict = Broken (record { instant = 14; time = 130; rule = C1; line = DTACK });
  rows =
      codes "start 1" ∷ codes "tenure 5 level 3 slot 2 end -" ∷ codes "transfer 9 of 10 read DTACK 10 close 11"
      ∷ codes "cycle 10 S 3D FFFFDE end -" ∷ codes "transfer 13 read pending" ∷ codes "verdict broken C1 14 DTACK" ∷ [];
}

-- two reads of a block transfer, by modifier 3B
unfoldable pub block_read : Recording
block_read = record {
  trace =
      once_granted ((low (AM 2) ∷ low (A 5) ∷ []) ∷ (low AS ∷ []) ∷ (low DS0 ∷ low DS1 ∷ []) ∷ (low DTACK ∷ [])
      ∷ (high DS0 ∷ high DS1 ∷ []) ∷ (high DTACK ∷ []) ∷ (low DS0 ∷ low DS1 ∷ []) ∷ (low DTACK ∷ [])
      ∷ (high AS ∷ high DS0 ∷ high DS1 ∷ []) ∷ (high DTACK ∷ []) ∷ (high BBSY ∷ []) ∷ []);
  verdict = Conforming;
  rows =
      codes "start 1" ∷ codes "tenure 5 level 3 slot 2 end 18" ∷ codes "cycle 9 K 3B FFFFDE end 16"
      ∷ codes "transfer 10 of 9 read DTACK 11 close 12" ∷ codes "transfer 14 of 9 read DTACK 15 close 16"
      ∷ codes "verdict conforming" ∷ [];
}

-- a block transfer reads and then writes
unfoldable pub block_turns : Recording
block_turns = record {
  trace =
      once_granted ((low (AM 2) ∷ low (A 5) ∷ []) ∷ (low AS ∷ []) ∷ (low DS0 ∷ low DS1 ∷ []) ∷ (low DTACK ∷ [])
      ∷ (high DS0 ∷ high DS1 ∷ []) ∷ (high DTACK ∷ low WRITE ∷ []) ∷ (low DS0 ∷ low DS1 ∷ []) ∷ (low DTACK ∷ [])
      ∷ []);
  verdict = Broken (record { instant = 15; time = 140; rule = C2; line = DTACK });
  rows =
      codes "start 1" ∷ codes "tenure 5 level 3 slot 2 end -" ∷ codes "cycle 9 K 3B FFFFDE end -"
      ∷ codes "transfer 10 of 9 read DTACK 11 close 12" ∷ codes "transfer 14 write pending"
      ∷ codes "verdict broken C2 15 DTACK" ∷ [];
}

-- a block transfer writes and then reads
unfoldable pub block_turns_from_write_to_read : Recording
block_turns_from_write_to_read = record {
  trace =
      once_granted ((low (AM 2) ∷ low WRITE ∷ low (A 5) ∷ []) ∷ (low AS ∷ []) ∷ (low DS0 ∷ low DS1 ∷ [])
      ∷ (low DTACK ∷ []) ∷ (high DS0 ∷ high DS1 ∷ []) ∷ (high DTACK ∷ []) ∷ (high WRITE ∷ [])
      ∷ (low DS0 ∷ low DS1 ∷ []) ∷ (low DTACK ∷ []) ∷ []);
  verdict = Broken (record { instant = 16; time = 150; rule = C2; line = DTACK });
  rows =
      codes "start 1" ∷ codes "tenure 5 level 3 slot 2 end -" ∷ codes "cycle 9 K 3B FFFFDE end -"
      ∷ codes "transfer 10 of 9 write DTACK 11 close 12 data ----FFFF" ∷ codes "transfer 15 read pending"
      ∷ codes "verdict broken C2 16 DTACK" ∷ [];
}

-- a cycle by modifier 10, which is free
unfoldable pub free_cycle : Recording
free_cycle = record {
  trace =
      once_granted ((low (AM 0) ∷ low (AM 1) ∷ low (AM 2) ∷ low (AM 3) ∷ low (AM 5) ∷ []) ∷ (low AS ∷ [])
      ∷ (low DS0 ∷ []) ∷ (low DTACK ∷ []) ∷ (high AS ∷ high DS0 ∷ []) ∷ (high DTACK ∷ []) ∷ (high BBSY ∷ []) ∷ []);
  verdict = Conforming;
  rows =
      codes "start 1" ∷ codes "tenure 5 level 3 slot 2 end 14" ∷ codes "cycle 9 F 10 end 12"
      ∷ codes "transfer 10 of 9 read DTACK 11 close 12" ∷ codes "verdict conforming" ∷ [];
}

-- a free cycle may have any transfers, by modifier 00
unfoldable pub free_cycle_reads_writes_and_reads : Recording
free_cycle_reads_writes_and_reads = record {
  trace =
      once_granted ((low (AM 0) ∷ low (AM 1) ∷ low (AM 2) ∷ low (AM 3) ∷ low (AM 4) ∷ low (AM 5) ∷ [])
      ∷ (low AS ∷ []) ∷ (low DS0 ∷ low DS1 ∷ []) ∷ (low DTACK ∷ []) ∷ (high DS0 ∷ high DS1 ∷ [])
      ∷ (high DTACK ∷ []) ∷ (low WRITE ∷ []) ∷ (low DS0 ∷ low DS1 ∷ []) ∷ (low DTACK ∷ [])
      ∷ (high DS0 ∷ high DS1 ∷ []) ∷ (high DTACK ∷ []) ∷ (high WRITE ∷ []) ∷ (low DS0 ∷ low DS1 ∷ [])
      ∷ (low DTACK ∷ []) ∷ (high DS0 ∷ high DS1 ∷ []) ∷ (high DTACK ∷ []) ∷ (high AS ∷ []) ∷ (high BBSY ∷ []) ∷ []);
  verdict = Conforming;
  rows =
      codes "start 1" ∷ codes "tenure 5 level 3 slot 2 end 25" ∷ codes "cycle 9 F 00 end 24"
      ∷ codes "transfer 10 of 9 read DTACK 11 close 12" ∷ codes "transfer 15 of 9 write DTACK 16 close 17 data ----FFFF"
      ∷ codes "transfer 20 of 9 read DTACK 21 close 22" ∷ codes "verdict conforming" ∷ [];
}

-- a read by modifier 0D: eight digits, the highest address line high
unfoldable pub extended_read : Recording
extended_read = record {
  trace =
      once_granted ((low (AM 1) ∷ low (AM 4) ∷ low (AM 5) ∷ low (A 5) ∷ high (A 24) ∷ high (A 25) ∷ high (A 26)
      ∷ high (A 27) ∷ high (A 28) ∷ high (A 29) ∷ high (A 30) ∷ high (A 31) ∷ []) ∷ (low AS ∷ [])
      ∷ (low DS0 ∷ []) ∷ (low DTACK ∷ []) ∷ (high AS ∷ high DS0 ∷ []) ∷ (high DTACK ∷ []) ∷ (high BBSY ∷ []) ∷ []);
  verdict = Conforming;
  rows =
      codes "start 1" ∷ codes "tenure 5 level 3 slot 2 end 14" ∷ codes "cycle 9 S 0D FFFFFFDE end 12"
      ∷ codes "transfer 10 of 9 read DTACK 11 close 12" ∷ codes "verdict conforming" ∷ [];
}

-- a read by modifier 0B, the highest address line low
unfoldable pub extended_block_read : Recording
extended_block_read = record {
  trace =
      once_granted ((low (AM 2) ∷ low (AM 4) ∷ low (AM 5) ∷ high (A 24) ∷ high (A 25) ∷ high (A 26) ∷ high (A 27)
      ∷ high (A 28) ∷ high (A 29) ∷ high (A 30) ∷ low (A 31) ∷ []) ∷ (low AS ∷ []) ∷ (low DS0 ∷ [])
      ∷ (low DTACK ∷ []) ∷ (high AS ∷ high DS0 ∷ []) ∷ (high DTACK ∷ []) ∷ (high BBSY ∷ []) ∷ []);
  verdict = Conforming;
  rows =
      codes "start 1" ∷ codes "tenure 5 level 3 slot 2 end 14" ∷ codes "cycle 9 K 0B 7FFFFFFE end 12"
      ∷ codes "transfer 10 of 9 read DTACK 11 close 12" ∷ codes "verdict conforming" ∷ [];
}

-- the class is by the levels where the address strobe falls
unfoldable pub acknowledge_line_rises_as_the_cycle_starts : Recording
acknowledge_line_rises_as_the_cycle_starts = record {
  trace = once_granted ((low IACK ∷ []) ∷ (low AS ∷ high IACK ∷ []) ∷ (high AS ∷ []) ∷ []);
  verdict = Conforming;
  rows =
      codes "start 1" ∷ codes "tenure 5 level 3 slot 2 end -" ∷ codes "cycle 9 K 3F FFFFFE end 10"
      ∷ codes "verdict conforming" ∷ [];
}

-- all recordings of this module
abbrev pub cycles : List Recording
cycles = read_modify_write ∷ write_then_read ∷ two_writes ∷ read_write_write ∷ answer_as_the_cycle_starts_counts
    ∷ block_read ∷ block_turns ∷ block_turns_from_write_to_read ∷ free_cycle ∷ free_cycle_reads_writes_and_reads
    ∷ extended_read ∷ extended_block_read ∷ acknowledge_line_rises_as_the_cycle_starts ∷ []
