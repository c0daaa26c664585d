-- Grants along their chains, and the requests that they answer.
use Rattle.std.specs.Prelude.{List, [], ◌∷◌, codes}
use Rattle.vme_trace.specs.LineNumbers.{BR, BBSY, grant}
use Rattle.vme_trace.specs.declared.rule.Rule.TheVariants.{G1, G2, G3, G4, G5}
use Rattle.vme_trace.specs.declared.verdict.Verdict.TheVariants.{Conforming, Broken}
use Rattle.vme_eval.specs.Recording.{Recording}
use Rattle.vme_eval.specs.Steps.{low, high, from_idle, from_idle_but, once_granted, passed_on}

-- a slot passes a grant on that it wasn't given
unfoldable pub slot_grants_ungranted : Recording
slot_grants_ungranted = record {
  trace = from_idle ((low (grant 3 1) ∷ []) ∷ []);
  verdict = Broken (record { instant = 2; time = 10; rule = G1; line = grant 3 1 });
  rows = codes "start 1" ∷ codes "verdict broken G1 2 BG3.1" ∷ [];
}

-- a slot's output falls with its input
unfoldable pub slot_grants_with_its_input : Recording
slot_grants_with_its_input = record {
  trace =
      from_idle ((low (BR 3) ∷ []) ∷ (low (grant 3 0) ∷ low (grant 3 1) ∷ []) ∷ (low BBSY ∷ high (BR 3) ∷ [])
      ∷ (high (grant 3 0) ∷ []) ∷ (high (grant 3 1) ∷ []) ∷ (high BBSY ∷ []) ∷ []);
  verdict = Conforming;
  rows = codes "start 1" ∷ codes "tenure 4 level 3 slot 2 end 7" ∷ codes "verdict conforming" ∷ [];
}

-- a slot's output falls as its input rises
unfoldable pub slot_grants_as_its_input_rises : Recording
slot_grants_as_its_input_rises = record {
  trace =
      from_idle ((low (BR 3) ∷ []) ∷ (low (grant 3 0) ∷ []) ∷ (high (grant 3 0) ∷ low (grant 3 1) ∷ [])
      ∷ (high (grant 3 1) ∷ []) ∷ []);
  verdict = Conforming;
  rows = codes "start 1" ∷ codes "verdict conforming" ∷ [];
}

-- a slot's output rises while its input is low
unfoldable pub slot_ends_its_grant_early : Recording
slot_ends_its_grant_early = record {
  trace =
      from_idle ((low (BR 3) ∷ []) ∷ (low (grant 3 0) ∷ []) ∷ (low (grant 3 1) ∷ []) ∷ (high (grant 3 1) ∷ []) ∷ []);
  verdict = Broken (record { instant = 5; time = 40; rule = G2; line = grant 3 1 });
  rows = codes "start 1" ∷ codes "verdict broken G2 5 BG3.1" ∷ [];
}

-- a slot's output rises as its input falls for the next grant
unfoldable pub slot_ends_its_grant_as_its_input_falls : Recording
slot_ends_its_grant_as_its_input_falls = record {
  trace =
      from_idle ((low (BR 3) ∷ []) ∷ (low (grant 3 0) ∷ []) ∷ (low (grant 3 1) ∷ [])
      ∷ (low BBSY ∷ high (BR 3) ∷ []) ∷ (high (grant 3 0) ∷ []) ∷ (high BBSY ∷ low (BR 3) ∷ [])
      ∷ (low (grant 3 0) ∷ high (grant 3 1) ∷ []) ∷ (low BBSY ∷ []) ∷ []);
  verdict = Conforming;
  rows =
      codes "start 1" ∷ codes "tenure 5 level 3 slot 2 end 7" ∷ codes "tenure 9 level 3 slot 1 end -"
      ∷ codes "verdict conforming" ∷ [];
}

-- a second level is granted
unfoldable pub second_level_granted : Recording
second_level_granted = record {
  trace = from_idle ((low (BR 2) ∷ low (BR 3) ∷ []) ∷ (low (grant 3 0) ∷ []) ∷ (low (grant 2 0) ∷ []) ∷ []);
  verdict = Broken (record { instant = 4; time = 30; rule = G3; line = grant 2 0 });
  rows = codes "start 1" ∷ codes "verdict broken G3 4 BG2.0" ∷ [];
}

-- a second level is granted, which is the higher one
unfoldable pub higher_level_granted_second : Recording
higher_level_granted_second = record {
  trace = from_idle ((low (BR 2) ∷ low (BR 3) ∷ []) ∷ (low (grant 2 0) ∷ []) ∷ (low (grant 3 0) ∷ []) ∷ []);
  verdict = Broken (record { instant = 4; time = 30; rule = G3; line = grant 3 0 });
  rows = codes "start 1" ∷ codes "verdict broken G3 4 BG3.0" ∷ [];
}

-- two levels are granted at one instant
unfoldable pub two_levels_granted_at_once : Recording
two_levels_granted_at_once = record {
  trace = from_idle ((low (BR 2) ∷ low (BR 3) ∷ []) ∷ (low (grant 2 0) ∷ low (grant 3 0) ∷ []) ∷ []);
  verdict = Broken (record { instant = 3; time = 20; rule = G3; line = grant 2 0 });
  rows = codes "start 1" ∷ codes "verdict broken G3 3 BG2.0" ∷ [];
}

-- a level is granted as the grant of another ends
unfoldable pub another_level_granted_as_the_first_ends : Recording
another_level_granted_as_the_first_ends = record {
  trace =
      passed_on ((low BBSY ∷ low (BR 2) ∷ high (BR 3) ∷ []) ∷ (high BBSY ∷ [])
      ∷ (low (grant 2 0) ∷ high (grant 3 0) ∷ []) ∷ (low BBSY ∷ []) ∷ []);
  verdict = Conforming;
  rows =
      codes "start 1" ∷ codes "tenure 6 level 3 slot 3 end 7" ∷ codes "tenure 9 level 2 slot 1 end -"
      ∷ codes "verdict conforming" ∷ [];
}

-- the arbiter grants while the bus is busy
unfoldable pub grant_while_busy : Recording
grant_while_busy = record {
  trace = once_granted ((low (BR 3) ∷ []) ∷ (low (grant 3 0) ∷ []) ∷ []);
  verdict = Broken (record { instant = 9; time = 80; rule = G4; line = grant 3 0 });
  rows = codes "start 1" ∷ codes "tenure 5 level 3 slot 2 end -" ∷ codes "verdict broken G4 9 BG3.0" ∷ [];
}

-- a slot passes a grant on while the bus is busy
unfoldable pub slot_grants_while_busy : Recording
slot_grants_while_busy = record {
  trace = from_idle ((low (BR 3) ∷ []) ∷ (low (grant 3 0) ∷ []) ∷ (low BBSY ∷ []) ∷ (low (grant 3 1) ∷ []) ∷ []);
  verdict = Broken (record { instant = 5; time = 40; rule = G4; line = grant 3 1 });
  rows = codes "start 1" ∷ codes "tenure 4 level 3 slot 1 end -" ∷ codes "verdict broken G4 5 BG3.1" ∷ [];
}

-- the arbiter grants as the bus gets free
unfoldable pub grant_falls_as_the_bus_is_let_go : Recording
grant_falls_as_the_bus_is_let_go = record {
  trace =
      once_granted ((low (BR 3) ∷ []) ∷ (high BBSY ∷ low (grant 3 0) ∷ []) ∷ (low BBSY ∷ [])
      ∷ (high (grant 3 0) ∷ []) ∷ []);
  verdict = Conforming;
  rows =
      codes "start 1" ∷ codes "tenure 5 level 3 slot 2 end 9" ∷ codes "tenure 10 level 3 slot 1 end -"
      ∷ codes "verdict conforming" ∷ [];
}

-- a level is granted that nobody requested
unfoldable pub grant_unasked : Recording
grant_unasked = record {
  trace = from_idle ((low (grant 3 0) ∷ []) ∷ []);
  verdict = Broken (record { instant = 2; time = 10; rule = G5; line = grant 3 0 });
  rows = codes "start 1" ∷ codes "verdict broken G5 2 BG3.0" ∷ [];
}

-- the request falls with the grant
unfoldable pub request_with_the_grant : Recording
request_with_the_grant = record {
  trace =
      from_idle ((low (BR 3) ∷ low (grant 3 0) ∷ []) ∷ (low BBSY ∷ high (BR 3) ∷ []) ∷ (high (grant 3 0) ∷ [])
      ∷ (high BBSY ∷ []) ∷ []);
  verdict = Conforming;
  rows = codes "start 1" ∷ codes "tenure 3 level 3 slot 1 end 5" ∷ codes "verdict conforming" ∷ [];
}

-- the request was low only where judging started
unfoldable pub request_low_at_the_start : Recording
request_low_at_the_start = record {
  trace = from_idle_but (BR 3) ((high (BR 3) ∷ []) ∷ (low (grant 3 0) ∷ []) ∷ (high (grant 3 0) ∷ []) ∷ []);
  verdict = Conforming;
  rows = codes "start 1" ∷ codes "verdict conforming" ∷ [];
}

-- the request was low as the grant before fell, and not since
unfoldable pub request_of_the_grant_before_serves_again : Recording
request_of_the_grant_before_serves_again = record {
  trace =
      from_idle ((low (BR 3) ∷ []) ∷ (low (grant 3 0) ∷ []) ∷ (high (BR 3) ∷ []) ∷ (high (grant 3 0) ∷ [])
      ∷ (low (grant 3 0) ∷ []) ∷ []);
  verdict = Conforming;
  rows = codes "start 1" ∷ codes "verdict conforming" ∷ [];
}

-- the request was low only before a grant of another level
unfoldable pub request_before_another_levels_grant : Recording
request_before_another_levels_grant = record {
  trace =
      from_idle ((low (BR 3) ∷ []) ∷ (low (BR 2) ∷ high (BR 3) ∷ []) ∷ (low (grant 2 0) ∷ [])
      ∷ (high (grant 2 0) ∷ []) ∷ (low (grant 3 0) ∷ []) ∷ []);
  verdict = Broken (record { instant = 6; time = 50; rule = G5; line = grant 3 0 });
  rows = codes "start 1" ∷ codes "verdict broken G5 6 BG3.0" ∷ [];
}

-- the request was low as the grant before the last one fell, and not since
unfoldable pub request_of_two_grants_before : Recording
request_of_two_grants_before = record {
  trace =
      from_idle ((low (BR 3) ∷ []) ∷ (low (grant 3 0) ∷ []) ∷ (high (BR 3) ∷ []) ∷ (high (grant 3 0) ∷ [])
      ∷ (low (BR 2) ∷ []) ∷ (low (grant 2 0) ∷ []) ∷ (high (BR 2) ∷ []) ∷ (high (grant 2 0) ∷ [])
      ∷ (low (grant 3 0) ∷ []) ∷ []);
  verdict = Broken (record { instant = 10; time = 90; rule = G5; line = grant 3 0 });
  rows = codes "start 1" ∷ codes "verdict broken G5 10 BG3.0" ∷ [];
}

-- a grant that nobody takes is withdrawn
unfoldable pub grant_withdrawn : Recording
grant_withdrawn = record {
  trace =
      passed_on ((low (grant 3 3) ∷ []) ∷ (high (grant 3 0) ∷ [])
      ∷ (high (grant 3 1) ∷ high (grant 3 2) ∷ high (grant 3 3) ∷ []) ∷ []);
  verdict = Conforming;
  rows = codes "start 1" ∷ codes "verdict conforming" ∷ [];
}

-- all recordings of this module
abbrev pub grants : List Recording
grants = slot_grants_ungranted ∷ slot_grants_with_its_input ∷ slot_grants_as_its_input_rises
    ∷ slot_ends_its_grant_early ∷ slot_ends_its_grant_as_its_input_falls ∷ second_level_granted
    ∷ higher_level_granted_second ∷ two_levels_granted_at_once ∷ another_level_granted_as_the_first_ends
    ∷ grant_while_busy ∷ slot_grants_while_busy ∷ grant_falls_as_the_bus_is_let_go ∷ grant_unasked
    ∷ request_with_the_grant ∷ request_low_at_the_start ∷ request_of_the_grant_before_serves_again
    ∷ request_before_another_levels_grant ∷ request_of_two_grants_before ∷ grant_withdrawn ∷ []
