-- Recordings of one slot, as from a dump; and where judging starts and ends, and which of two breaks is named.
use Rattle.std.specs.Prelude.{List, [], ◌∷◌, codes}
use Rattle.vme_trace.specs.LineNumbers.{AS, DS0, DS1, DTACK, BERR, IACK, A}
use Rattle.vme_trace.specs.declared.rule.Rule.TheVariants.{U1, H4, S1}
use Rattle.vme_trace.specs.declared.verdict.Verdict.TheVariants.{Conforming, Broken, Unreadable, NeverIdle}
use Rattle.vme_eval.specs.Recording.{Recording}
use Rattle.vme_eval.specs.Steps.{low, high, unknown, at, addressing, first_six_high, dumped, dumped_at, from_idle}
use Rattle.vme_eval.specs.Steps.{from_idle_but, once_granted}

-- one slot, the bus busy from the opening on: a read
unfoldable pub dumped_read : Recording
dumped_read = record {
  trace =
      dumped (first_six_high ∷ (low AS ∷ []) ∷ (low DS0 ∷ []) ∷ (low DTACK ∷ []) ∷ (high AS ∷ high DS0 ∷ [])
      ∷ (high DTACK ∷ []) ∷ []);
  verdict = Conforming;
  rows =
      codes "start 1" ∷ codes "tenure 1 open end -" ∷ codes "cycle 2 S 3D FFFFFE end 5"
      ∷ codes "transfer 3 of 2 read DTACK 4 close 5" ∷ codes "verdict conforming" ∷ [];
}

-- the opening alone, which isn't idle
unfoldable pub dumped_nothing : Recording
dumped_nothing = record {
  trace = dumped [];
  verdict = NeverIdle;
  rows = codes "verdict never-idle" ∷ [];
}

-- an answer in place of the strobe
unfoldable pub dumped_stray_answer : Recording
dumped_stray_answer = record {
  trace =
      dumped_at (at 0 first_six_high ∷ at 10 (low AS ∷ []) ∷ at 20 (low DTACK ∷ []) ∷ at 40 (high AS ∷ [])
      ∷ at 50 (high DTACK ∷ []) ∷ []);
  verdict = Broken (record { instant = 3; time = 20; rule = H4; line = DTACK });
  rows =
      codes "start 1" ∷ codes "tenure 1 open end -" ∷ codes "cycle 2 S 3D FFFFFE end -"
      ∷ codes "verdict broken H4 3 DTACK" ∷ [];
}

-- the address strobe becomes unknown
unfoldable pub dumped_unknown_strobe : Recording
dumped_unknown_strobe = record {
  trace =
      dumped (first_six_high ∷ (unknown AS ∷ []) ∷ (low DS0 ∷ []) ∷ (low DTACK ∷ []) ∷ (high AS ∷ high DS0 ∷ [])
      ∷ (high DTACK ∷ []) ∷ []);
  verdict = Unreadable (record { instant = 2; time = 10; rule = U1; line = AS });
  rows = codes "start 1" ∷ codes "tenure 1 open end -" ∷ codes "verdict unreadable U1 2 AS" ∷ [];
}

-- the dump is switched off amid the transfer
unfoldable pub dumped_gap : Recording
dumped_gap = record {
  trace =
      dumped_at (at 0 first_six_high ∷ at 10 (low AS ∷ []) ∷ at 20 (low DS0 ∷ [])
      ∷ at 25 (unknown AS ∷ unknown DS0 ∷ unknown DS1 ∷ unknown DTACK ∷ unknown BERR ∷ unknown IACK ∷ [])
      ∷ at 30 (low DTACK ∷ []) ∷ at 40 (high AS ∷ high DS0 ∷ []) ∷ at 50 (high DTACK ∷ []) ∷ []);
  verdict = Unreadable (record { instant = 4; time = 25; rule = U1; line = AS });
  rows =
      codes "start 1" ∷ codes "tenure 1 open end -" ∷ codes "cycle 2 S 3D FFFFFE end -"
      ∷ codes "transfer 3 read pending" ∷ codes "verdict unreadable U1 4 AS" ∷ [];
}

-- the address strobe becomes unknown at the first judged instant
unfoldable pub strobe_lost_at_once : Recording
strobe_lost_at_once = record {
  trace = from_idle ((unknown AS ∷ []) ∷ []);
  verdict = Unreadable (record { instant = 2; time = 10; rule = U1; line = AS });
  rows = codes "start 1" ∷ codes "verdict unreadable U1 2 AS" ∷ [];
}

-- an answer that rises where the bus is first idle is no edge that is judged
unfoldable pub answer_low_before_judging : Recording
answer_low_before_judging = record {
  trace = from_idle_but BERR ((high BERR ∷ []) ∷ []);
  verdict = Conforming;
  rows = codes "start 2" ∷ codes "verdict conforming" ∷ [];
}

-- an address line becomes unknown, which is no control line
unfoldable pub address_lost_between_cycles : Recording
address_lost_between_cycles = record {
  trace = from_idle ((unknown (A 5) ∷ []) ∷ []);
  verdict = Conforming;
  rows = codes "start 1" ∷ codes "verdict conforming" ∷ [];
}

-- of two breaks the earlier one is named, though its rule is the later one
unfoldable pub earlier_break_of_a_later_rule : Recording
earlier_break_of_a_later_rule = record {
  trace = once_granted (addressing ∷ (low AS ∷ []) ∷ (high (A 5) ∷ []) ∷ (unknown AS ∷ []) ∷ []);
  verdict = Broken (record { instant = 10; time = 90; rule = S1; line = A 5 });
  rows =
      codes "start 1" ∷ codes "tenure 5 level 3 slot 2 end -" ∷ codes "cycle 9 S 39 FFFFDE end -"
      ∷ codes "verdict broken S1 10 A05" ∷ [];
}

-- all recordings of this module
abbrev pub dumps : List Recording
dumps = dumped_read ∷ dumped_nothing ∷ dumped_stray_answer ∷ dumped_unknown_strobe ∷ dumped_gap ∷ strobe_lost_at_once
    ∷ answer_low_before_judging ∷ address_lost_between_cycles ∷ earlier_break_of_a_later_rule ∷ []
