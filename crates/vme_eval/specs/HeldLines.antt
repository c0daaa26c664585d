-- Lines that are known and held while a cycle or a transfer lasts.
use Rattle.std.specs.Prelude.{List, [], ◌∷◌, codes}
use Rattle.vme_trace.specs.LineNumbers.{AS, DS0, DS1, DTACK, IACK, LWORD, WRITE, AM, A, BBSY}
use Rattle.vme_trace.specs.declared.rule.Rule.TheVariants.{U2, U3, S1, S2}
use Rattle.vme_trace.specs.declared.verdict.Verdict.TheVariants.{Conforming, Broken, Unreadable}
use Rattle.vme_eval.specs.Recording.{Recording}
use Rattle.vme_eval.specs.Steps.{low, high, unknown, addressing, from_idle_but, once_granted}

-- a short address, by modifier 29
unfoldable pub short_address : Recording
short_address = record {
  trace =
      once_granted ((low (AM 1) ∷ low (AM 2) ∷ low (AM 4) ∷ low (A 5) ∷ []) ∷ (low AS ∷ [])
      ∷ (low DS0 ∷ low DS1 ∷ []) ∷ (low DTACK ∷ []) ∷ (high AS ∷ high DS0 ∷ high DS1 ∷ []) ∷ (high DTACK ∷ [])
      ∷ (high BBSY ∷ []) ∷ []);
  verdict = Conforming;
  rows =
      codes "start 1" ∷ codes "tenure 5 level 3 slot 2 end 14" ∷ codes "cycle 9 S 29 FFDE end 12"
      ∷ codes "transfer 10 of 9 read DTACK 11 close 12" ∷ codes "verdict conforming" ∷ [];
}

-- a needed line changes before the answer
unfoldable pub address_changes_early : Recording
address_changes_early = record {
  trace =
      once_granted ((low (AM 1) ∷ low (AM 2) ∷ low (AM 4) ∷ low (A 5) ∷ []) ∷ (low AS ∷ [])
      ∷ (low DS0 ∷ low DS1 ∷ high (A 5) ∷ []) ∷ (low DTACK ∷ []) ∷ (high AS ∷ high DS0 ∷ high DS1 ∷ [])
      ∷ (high DTACK ∷ []) ∷ (high BBSY ∷ []) ∷ []);
  verdict = Broken (record { instant = 10; time = 90; rule = S1; line = A 5 });
  rows =
      codes "start 1" ∷ codes "tenure 5 level 3 slot 2 end -" ∷ codes "cycle 9 S 29 FFDE end -"
      ∷ codes "verdict broken S1 10 A05" ∷ [];
}

-- a needed line changes with the answer
unfoldable pub address_changes_with_answer : Recording
address_changes_with_answer = record {
  trace =
      once_granted ((low (AM 1) ∷ low (AM 2) ∷ low (AM 4) ∷ low (A 5) ∷ []) ∷ (low AS ∷ [])
      ∷ (low DS0 ∷ low DS1 ∷ []) ∷ (low DTACK ∷ high (A 5) ∷ []) ∷ (high AS ∷ high DS0 ∷ high DS1 ∷ [])
      ∷ (high DTACK ∷ []) ∷ (high BBSY ∷ []) ∷ []);
  verdict = Conforming;
  rows =
      codes "start 1" ∷ codes "tenure 5 level 3 slot 2 end 14" ∷ codes "cycle 9 S 29 FFDE end 12"
      ∷ codes "transfer 10 of 9 read DTACK 11 close 12" ∷ codes "verdict conforming" ∷ [];
}

-- a short address has no line 16
unfoldable pub unneeded_line_changes : Recording
unneeded_line_changes = record {
  trace =
      once_granted ((low (AM 1) ∷ low (AM 2) ∷ low (AM 4) ∷ low (A 5) ∷ []) ∷ (low AS ∷ [])
      ∷ (low DS0 ∷ low DS1 ∷ low (A 16) ∷ []) ∷ (low DTACK ∷ []) ∷ (high AS ∷ high DS0 ∷ high DS1 ∷ [])
      ∷ (high DTACK ∷ []) ∷ (high BBSY ∷ []) ∷ []);
  verdict = Conforming;
  rows =
      codes "start 1" ∷ codes "tenure 5 level 3 slot 2 end 14" ∷ codes "cycle 9 S 29 FFDE end 12"
      ∷ codes "transfer 10 of 9 read DTACK 11 close 12" ∷ codes "verdict conforming" ∷ [];
}

-- a needed line becomes unknown after the cycle starts
unfoldable pub address_lost_in_the_cycle : Recording
address_lost_in_the_cycle = record {
  trace = once_granted (addressing ∷ (low AS ∷ []) ∷ (unknown (A 5) ∷ []) ∷ []);
  verdict = Broken (record { instant = 10; time = 90; rule = S1; line = A 5 });
  rows =
      codes "start 1" ∷ codes "tenure 5 level 3 slot 2 end -" ∷ codes "cycle 9 S 39 FFFFDE end -"
      ∷ codes "verdict broken S1 10 A05" ∷ [];
}

-- the highest line of an extended address changes
unfoldable pub highest_address_line_changes : Recording
highest_address_line_changes = record {
  trace =
      once_granted ((low (AM 1) ∷ low (AM 4) ∷ low (AM 5) ∷ high (A 24) ∷ high (A 25) ∷ high (A 26) ∷ high (A 27)
      ∷ high (A 28) ∷ high (A 29) ∷ high (A 30) ∷ high (A 31) ∷ []) ∷ (low AS ∷ []) ∷ (low (A 31) ∷ []) ∷ []);
  verdict = Broken (record { instant = 10; time = 90; rule = S1; line = A 31 });
  rows =
      codes "start 1" ∷ codes "tenure 5 level 3 slot 2 end -" ∷ codes "cycle 9 S 0D FFFFFFFE end -"
      ∷ codes "verdict broken S1 10 A31" ∷ [];
}

-- a needed line changes as the address strobe rises, with no transfer before
unfoldable pub address_changes_as_the_cycle_ends : Recording
address_changes_as_the_cycle_ends = record {
  trace = once_granted (addressing ∷ (low AS ∷ []) ∷ (high AS ∷ high (A 5) ∷ []) ∷ (high BBSY ∷ []) ∷ []);
  verdict = Conforming;
  rows =
      codes "start 1" ∷ codes "tenure 5 level 3 slot 2 end 11" ∷ codes "cycle 9 S 39 FFFFDE end 10"
      ∷ codes "verdict conforming" ∷ [];
}

-- a needed line changes after an answer that falls with the address strobe
unfoldable pub address_changes_after_an_answer_at_the_start : Recording
address_changes_after_an_answer_at_the_start = record {
  trace =
      once_granted (addressing ∷ (low DS0 ∷ []) ∷ (low AS ∷ low DTACK ∷ []) ∷ (high (A 5) ∷ [])
      ∷ (high AS ∷ high DS0 ∷ []) ∷ (high DTACK ∷ []) ∷ (high BBSY ∷ []) ∷ []);
  verdict = Conforming;
  rows =
      codes "start 1" ∷ codes "tenure 5 level 3 slot 2 end 14" ∷ codes "transfer 9 of 10 read DTACK 10 close 12"
      ∷ codes "cycle 10 S 39 FFFFDE end 12" ∷ codes "verdict conforming" ∷ [];
}

-- a line of the modifier is unknown
unfoldable pub unknown_modifier : Recording
unknown_modifier = record {
  trace =
      once_granted ((low (AM 1) ∷ low (AM 2) ∷ unknown (AM 3) ∷ low (A 5) ∷ []) ∷ (low AS ∷ [])
      ∷ (low DS0 ∷ low DS1 ∷ []) ∷ (low DTACK ∷ []) ∷ (high AS ∷ high DS0 ∷ high DS1 ∷ []) ∷ (high DTACK ∷ [])
      ∷ (high BBSY ∷ []) ∷ []);
  verdict = Unreadable (record { instant = 9; time = 80; rule = U2; line = AM 3 });
  rows = codes "start 1" ∷ codes "tenure 5 level 3 slot 2 end -" ∷ codes "verdict unreadable U2 9 AM3" ∷ [];
}

-- a modifier that nobody drives reads 3F
unfoldable pub floating_modifier : Recording
floating_modifier = record {
  trace =
      once_granted ((low (A 5) ∷ []) ∷ (low AS ∷ []) ∷ (low DS0 ∷ low DS1 ∷ []) ∷ (low DTACK ∷ [])
      ∷ (high AS ∷ high DS0 ∷ high DS1 ∷ []) ∷ (high DTACK ∷ []) ∷ (high BBSY ∷ []) ∷ []);
  verdict = Conforming;
  rows =
      codes "start 1" ∷ codes "tenure 5 level 3 slot 2 end 14" ∷ codes "cycle 9 K 3F FFFFDE end 12"
      ∷ codes "transfer 10 of 9 read DTACK 11 close 12" ∷ codes "verdict conforming" ∷ [];
}

-- a needed line becomes unknown as the address strobe falls
unfoldable pub address_lost_as_the_cycle_starts : Recording
address_lost_as_the_cycle_starts = record {
  trace = once_granted ((low (AM 1) ∷ low (AM 2) ∷ []) ∷ (low AS ∷ unknown (A 5) ∷ []) ∷ []);
  verdict = Unreadable (record { instant = 9; time = 80; rule = U2; line = A 5 });
  rows = codes "start 1" ∷ codes "tenure 5 level 3 slot 2 end -" ∷ codes "verdict unreadable U2 9 A05" ∷ [];
}

-- a needed line becomes known as the address strobe falls
unfoldable pub address_known_as_the_cycle_starts : Recording
address_known_as_the_cycle_starts = record {
  trace =
      once_granted ((low (AM 1) ∷ low (AM 2) ∷ unknown (A 5) ∷ []) ∷ (low AS ∷ low (A 5) ∷ []) ∷ (high AS ∷ [])
      ∷ (high BBSY ∷ []) ∷ []);
  verdict = Conforming;
  rows =
      codes "start 1" ∷ codes "tenure 5 level 3 slot 2 end 11" ∷ codes "cycle 9 S 39 FFFFDE end 10"
      ∷ codes "verdict conforming" ∷ [];
}

-- the highest line of an extended address is unknown
unfoldable pub highest_address_line_unknown : Recording
highest_address_line_unknown = record {
  trace =
      once_granted ((low (AM 1) ∷ low (AM 4) ∷ low (AM 5) ∷ high (A 24) ∷ high (A 25) ∷ high (A 26) ∷ high (A 27)
      ∷ high (A 28) ∷ high (A 29) ∷ high (A 30) ∷ []) ∷ (low AS ∷ []) ∷ []);
  verdict = Unreadable (record { instant = 9; time = 80; rule = U2; line = A 31 });
  rows = codes "start 1" ∷ codes "tenure 5 level 3 slot 2 end -" ∷ codes "verdict unreadable U2 9 A31" ∷ [];
}

-- the direction becomes unknown as the strobe falls
unfoldable pub direction_unknown : Recording
direction_unknown = record {
  trace = once_granted (addressing ∷ (low AS ∷ []) ∷ (low DS0 ∷ unknown WRITE ∷ []) ∷ []);
  verdict = Unreadable (record { instant = 10; time = 90; rule = U3; line = WRITE });
  rows =
      codes "start 1" ∷ codes "tenure 5 level 3 slot 2 end -" ∷ codes "cycle 9 S 39 FFFFDE end -"
      ∷ codes "verdict unreadable U3 10 WRITE" ∷ [];
}

-- the direction becomes known as the strobe falls
unfoldable pub direction_known_as_the_transfer_starts : Recording
direction_known_as_the_transfer_starts = record {
  trace =
      once_granted ((unknown WRITE ∷ []) ∷ (low AS ∷ []) ∷ (low DS0 ∷ low WRITE ∷ []) ∷ (low DTACK ∷ [])
      ∷ (high AS ∷ high DS0 ∷ []) ∷ (high DTACK ∷ []) ∷ []);
  verdict = Conforming;
  rows =
      codes "start 1" ∷ codes "tenure 5 level 3 slot 2 end -" ∷ codes "cycle 9 K 3F FFFFFE end 12"
      ∷ codes "transfer 10 of 9 write DTACK 11 close 12 data ------FF" ∷ codes "verdict conforming" ∷ [];
}

-- the direction changes as the strobe falls
unfoldable pub direction_changes_as_the_transfer_starts : Recording
direction_changes_as_the_transfer_starts = record {
  trace =
      once_granted ((low WRITE ∷ []) ∷ (low AS ∷ []) ∷ (low DS0 ∷ high WRITE ∷ []) ∷ (low DTACK ∷ [])
      ∷ (high AS ∷ high DS0 ∷ []) ∷ (high DTACK ∷ []) ∷ []);
  verdict = Conforming;
  rows =
      codes "start 1" ∷ codes "tenure 5 level 3 slot 2 end -" ∷ codes "cycle 9 K 3F FFFFFE end 12"
      ∷ codes "transfer 10 of 9 read DTACK 11 close 12" ∷ codes "verdict conforming" ∷ [];
}

-- the direction changes before the answer
unfoldable pub direction_changes : Recording
direction_changes = record {
  trace = once_granted (addressing ∷ (low AS ∷ []) ∷ (low DS0 ∷ low DS1 ∷ []) ∷ (low WRITE ∷ []) ∷ []);
  verdict = Broken (record { instant = 11; time = 100; rule = S2; line = WRITE });
  rows =
      codes "start 1" ∷ codes "tenure 5 level 3 slot 2 end -" ∷ codes "cycle 9 S 39 FFFFDE end -"
      ∷ codes "transfer 10 read pending" ∷ codes "verdict broken S2 11 WRITE" ∷ [];
}

-- the direction changes after the answer, before a strobe rises
unfoldable pub direction_changes_after_the_answer : Recording
direction_changes_after_the_answer = record {
  trace =
      once_granted (addressing ∷ (low AS ∷ []) ∷ (low DS0 ∷ low DS1 ∷ []) ∷ (low DTACK ∷ []) ∷ (low WRITE ∷ []) ∷ []);
  verdict = Broken (record { instant = 12; time = 110; rule = S2; line = WRITE });
  rows =
      codes "start 1" ∷ codes "tenure 5 level 3 slot 2 end -" ∷ codes "cycle 9 S 39 FFFFDE end -"
      ∷ codes "transfer 10 of 9 read DTACK 11 close -" ∷ codes "verdict broken S2 12 WRITE" ∷ [];
}

-- the direction changes as the first strobe rises
unfoldable pub direction_changes_as_a_strobe_rises : Recording
direction_changes_as_a_strobe_rises = record {
  trace =
      once_granted (addressing ∷ (low AS ∷ []) ∷ (low DS0 ∷ low DS1 ∷ []) ∷ (low DTACK ∷ [])
      ∷ (high DS1 ∷ low WRITE ∷ []) ∷ (high AS ∷ high DS0 ∷ []) ∷ (high DTACK ∷ []) ∷ (high BBSY ∷ []) ∷ []);
  verdict = Conforming;
  rows =
      codes "start 1" ∷ codes "tenure 5 level 3 slot 2 end 15" ∷ codes "cycle 9 S 39 FFFFDE end 13"
      ∷ codes "transfer 10 of 9 read DTACK 11 close 13" ∷ codes "verdict conforming" ∷ [];
}

-- an acknowledge needs the three lines of its level, and neither the modifier, the long word line nor A04. What it
-- needs is by the levels where the address strobe falls
unfoldable pub level_of_an_acknowledge_changes : Recording
level_of_an_acknowledge_changes = record {
  trace =
      from_idle_but BBSY ((low AS ∷ low IACK ∷ []) ∷ (low (AM 0) ∷ low (AM 5) ∷ low LWORD ∷ low (A 4) ∷ [])
      ∷ (low (A 3) ∷ []) ∷ []);
  verdict = Broken (record { instant = 4; time = 30; rule = S1; line = A 3 });
  rows =
      codes "start 1" ∷ codes "tenure 1 open end -" ∷ codes "cycle 2 I 7 end -" ∷ codes "verdict broken S1 4 A03" ∷ [];
}

-- a cycle that is no acknowledge needs the acknowledge line
unfoldable pub acknowledge_line_changes : Recording
acknowledge_line_changes = record {
  trace = from_idle_but BBSY ((low AS ∷ []) ∷ (low IACK ∷ []) ∷ []);
  verdict = Broken (record { instant = 3; time = 20; rule = S1; line = IACK });
  rows =
      codes "start 1" ∷ codes "tenure 1 open end -" ∷ codes "cycle 2 K 3F FFFFFE end -"
      ∷ codes "verdict broken S1 3 IACK" ∷ [];
}

-- the highest line of the modifier changes before the answer
unfoldable pub highest_modifier_line_changes : Recording
highest_modifier_line_changes = record {
  trace = from_idle_but BBSY ((low AS ∷ []) ∷ (low (AM 5) ∷ []) ∷ []);
  verdict = Broken (record { instant = 3; time = 20; rule = S1; line = AM 5 });
  rows =
      codes "start 1" ∷ codes "tenure 1 open end -" ∷ codes "cycle 2 K 3F FFFFFE end -"
      ∷ codes "verdict broken S1 3 AM5" ∷ [];
}

-- the lowest line of the modifier changes before the answer
unfoldable pub lowest_modifier_line_changes : Recording
lowest_modifier_line_changes = record {
  trace = from_idle_but BBSY ((low AS ∷ []) ∷ (low (AM 0) ∷ []) ∷ []);
  verdict = Broken (record { instant = 3; time = 20; rule = S1; line = AM 0 });
  rows =
      codes "start 1" ∷ codes "tenure 1 open end -" ∷ codes "cycle 2 K 3F FFFFFE end -"
      ∷ codes "verdict broken S1 3 AM0" ∷ [];
}

-- the long word line changes before the answer
unfoldable pub long_word_line_changes : Recording
long_word_line_changes = record {
  trace = from_idle_but BBSY ((low AS ∷ []) ∷ (low LWORD ∷ []) ∷ []);
  verdict = Broken (record { instant = 3; time = 20; rule = S1; line = LWORD });
  rows =
      codes "start 1" ∷ codes "tenure 1 open end -" ∷ codes "cycle 2 K 3F FFFFFE end -"
      ∷ codes "verdict broken S1 3 LWORD" ∷ [];
}

-- the lowest line of the address changes before the answer
unfoldable pub lowest_address_line_changes : Recording
lowest_address_line_changes = record {
  trace = from_idle_but BBSY ((low AS ∷ []) ∷ (low (A 1) ∷ []) ∷ []);
  verdict = Broken (record { instant = 3; time = 20; rule = S1; line = A 1 });
  rows =
      codes "start 1" ∷ codes "tenure 1 open end -" ∷ codes "cycle 2 K 3F FFFFFE end -"
      ∷ codes "verdict broken S1 3 A01" ∷ [];
}

-- all recordings of this module
abbrev pub held_lines : List Recording
held_lines = short_address ∷ address_changes_early ∷ address_changes_with_answer ∷ unneeded_line_changes
    ∷ address_lost_in_the_cycle ∷ highest_address_line_changes ∷ address_changes_as_the_cycle_ends
    ∷ address_changes_after_an_answer_at_the_start ∷ unknown_modifier ∷ floating_modifier
    ∷ address_lost_as_the_cycle_starts ∷ address_known_as_the_cycle_starts ∷ highest_address_line_unknown
    ∷ direction_unknown ∷ direction_known_as_the_transfer_starts ∷ direction_changes_as_the_transfer_starts
    ∷ direction_changes ∷ direction_changes_after_the_answer ∷ direction_changes_as_a_strobe_rises
    ∷ level_of_an_acknowledge_changes ∷ acknowledge_line_changes ∷ highest_modifier_line_changes
    ∷ lowest_modifier_line_changes ∷ long_word_line_changes ∷ lowest_address_line_changes ∷ []
