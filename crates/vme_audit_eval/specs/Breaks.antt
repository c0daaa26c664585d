-- Recordings with several breaks, and what is judged after each.
use Rattle.std.specs.Prelude.{ℕ, List, [], ◌∷◌, None, Some}
use Rattle.vme_trace.specs.LineNumbers.{AS, DS0, DTACK, BERR, AM, BBSY, SYSRESET}
use Rattle.vme_trace.specs.declared.rule.Rule.{Rule}
use Rattle.vme_trace.specs.declared.rule.Rule.TheVariants.{U1, H4, B1, B3}
use Rattle.vme_trace.specs.declared.verdict.Break.{Break}
use Rattle.vme_eval.specs.Steps.{low, high, unknown, from_idle}
use Rattle.vme_audit.specs.Counted.{nothing_counted}
use Rattle.vme_audit.specs.declared.allowance.Allowance.{Allowance}
use Rattle.vme_audit.specs.declared.counts.Counts.{Counts}
use Rattle.vme_audit.specs.declared.outcome.CoverageGap.TheVariants.{NeverIdleBehind, FewAnswers}
use Rattle.vme_audit.specs.declared.outcome.Outcome.TheVariants.{Conforming, NotCovered, Broken, Unreadable}
use Rattle.vme_audit_eval.specs.Audited.{Audited}

abbrev pub at_instant : ℕ → ℕ → Rule → ℕ → Break
at_instant instant time rule line = record { instant = instant; time = time; rule = rule; line = line }

-- breaks of a rule are allowed, on any line or on one
abbrev pub allow : Rule → Allowance
allow r = record { rule = r; line = None }

abbrev pub allow_on : Rule → ℕ → Allowance
allow_on r l = record { rule = r; line = Some l }

-- a read that DTACK answers
abbrev pub one_read : Counts
one_read = record nothing_counted { single = 1; reads = 1; by_dtack = 1 }

-- two stray answers, and the bus is idle again after each
unfoldable pub two_stray_answers : Audited
two_stray_answers = record {
  trace = from_idle ((low DTACK ∷ []) ∷ (high DTACK ∷ []) ∷ (low BERR ∷ []) ∷ (high BERR ∷ []) ∷ []);
  allowances = [];
  wanted = 0;
  starts = 0 ∷ 2 ∷ 4 ∷ [];
  breaks = at_instant 2 10 H4 DTACK ∷ at_instant 4 30 H4 BERR ∷ [];
  counts = nothing_counted;
  outcome = Broken;
}

-- one of the two stray answers is allowed
unfoldable pub one_of_two_allowed : Audited
one_of_two_allowed = record two_stray_answers { allowances = allow_on H4 BERR ∷ [] }

-- each of the two stray answers is allowed by its line
unfoldable pub both_allowed_by_line : Audited
both_allowed_by_line = record two_stray_answers {
  allowances = allow_on H4 BERR ∷ allow_on H4 DTACK ∷ [];
  outcome = Conforming 2;
}

-- both stray answers are allowed by their rule
unfoldable pub both_allowed_by_rule : Audited
both_allowed_by_rule = record two_stray_answers { allowances = allow H4 ∷ []; outcome = Conforming 2 }

-- another rule is allowed, on any line or on theirs
unfoldable pub another_rule_allowed : Audited
another_rule_allowed = record two_stray_answers { allowances = allow B1 ∷ allow_on U1 DTACK ∷ [] }

-- the bus isn't idle again between two stray answers: the second isn't judged
unfoldable pub stray_answer_before_an_idle_instant : Audited
stray_answer_before_an_idle_instant = record {
  trace = from_idle ((low DTACK ∷ []) ∷ (low BERR ∷ []) ∷ (high BERR ∷ []) ∷ []);
  allowances = allow H4 ∷ [];
  wanted = 0;
  starts = 0 ∷ 2 ∷ [];
  breaks = at_instant 2 10 H4 DTACK ∷ [];
  counts = nothing_counted;
  outcome = NotCovered (NeverIdleBehind 2);
}

-- the bus is taken without a grant, at an idle instant: judging continues from that instant on, and a read follows
unfoldable pub break_at_an_idle_instant : Audited
break_at_an_idle_instant = record {
  trace =
      from_idle ((low (AM 1) ∷ low BBSY ∷ []) ∷ (low AS ∷ []) ∷ (low DS0 ∷ []) ∷ (low DTACK ∷ [])
      ∷ (high AS ∷ high DS0 ∷ []) ∷ (high DTACK ∷ []) ∷ []);
  allowances = allow B1 ∷ [];
  wanted = 1;
  starts = 0 ∷ 2 ∷ [];
  breaks = at_instant 2 10 B1 BBSY ∷ [];
  counts = one_read;
  outcome = Conforming 1;
}

-- the instant after the break is judged too, and another rule is broken there: breaks at two consecutive instants
unfoldable pub break_at_the_next_instant : Audited
break_at_the_next_instant = record {
  trace = from_idle ((low BBSY ∷ []) ∷ (low DTACK ∷ []) ∷ []);
  allowances = [];
  wanted = 0;
  starts = 0 ∷ 2 ∷ 3 ∷ [];
  breaks = at_instant 2 10 B1 BBSY ∷ at_instant 3 20 H4 DTACK ∷ [];
  counts = nothing_counted;
  outcome = Broken;
}

-- two rules are broken at one instant: only the first is reported
unfoldable pub two_breaks_at_one_instant : Audited
two_breaks_at_one_instant = record {
  trace = from_idle ((low DTACK ∷ low BBSY ∷ []) ∷ (high DTACK ∷ []) ∷ []);
  allowances = allow H4 ∷ [];
  wanted = 0;
  starts = 0 ∷ 2 ∷ [];
  breaks = at_instant 2 10 H4 DTACK ∷ [];
  counts = nothing_counted;
  outcome = Conforming 1;
}

-- the address strobe becomes unknown and then High again: judging continues, and finds a stray answer
unfoldable pub break_after_a_lost_strobe : Audited
break_after_a_lost_strobe = record {
  trace = from_idle ((unknown AS ∷ []) ∷ (high AS ∷ []) ∷ (low DTACK ∷ []) ∷ []);
  allowances = [];
  wanted = 0;
  starts = 0 ∷ 2 ∷ 4 ∷ [];
  breaks = at_instant 2 10 U1 AS ∷ at_instant 4 30 H4 DTACK ∷ [];
  counts = nothing_counted;
  outcome = Broken;
}

-- the stray answer is allowed, and the unknown level isn't
unfoldable pub lost_strobe_alone : Audited
lost_strobe_alone = record break_after_a_lost_strobe { allowances = allow H4 ∷ []; outcome = Unreadable }

-- while the strobe is unknown, a stray answer isn't judged, and a second line that becomes unknown isn't reported
unfoldable pub nothing_judged_while_lost : Audited
nothing_judged_while_lost = record {
  trace = from_idle ((unknown AS ∷ []) ∷ (low DTACK ∷ []) ∷ (unknown DS0 ∷ high DTACK ∷ []) ∷ (high DS0 ∷ []) ∷ []);
  allowances = allow U1 ∷ [];
  wanted = 0;
  starts = 0 ∷ 2 ∷ [];
  breaks = at_instant 2 10 U1 AS ∷ [];
  counts = nothing_counted;
  outcome = NotCovered (NeverIdleBehind 2);
}

-- a reset while nothing is judged, and one that ends judging: only the second is counted
unfoldable pub resets_between : Audited
resets_between = record {
  trace =
      from_idle ((low DTACK ∷ []) ∷ (high DTACK ∷ low SYSRESET ∷ []) ∷ (high SYSRESET ∷ []) ∷ (low SYSRESET ∷ [])
      ∷ (low DTACK ∷ []) ∷ (high DTACK ∷ high SYSRESET ∷ []) ∷ (low DTACK ∷ []) ∷ []);
  allowances = [];
  wanted = 0;
  starts = 0 ∷ 2 ∷ 8 ∷ [];
  breaks = at_instant 2 10 H4 DTACK ∷ at_instant 8 70 H4 DTACK ∷ [];
  counts = record nothing_counted { resets = 1 };
  outcome = Broken;
}

-- a break in the last step, at which the bus isn't idle, and one at which it is
unfoldable pub break_in_the_last_step : Audited
break_in_the_last_step = record {
  trace = from_idle ((low DTACK ∷ []) ∷ []);
  allowances = allow H4 ∷ [];
  wanted = 0;
  starts = 0 ∷ 2 ∷ [];
  breaks = at_instant 2 10 H4 DTACK ∷ [];
  counts = nothing_counted;
  outcome = NotCovered (NeverIdleBehind 2);
}

unfoldable pub idle_break_in_the_last_step : Audited
idle_break_in_the_last_step = record {
  trace = from_idle ((low BBSY ∷ []) ∷ []);
  allowances = allow B1 ∷ [];
  wanted = 1;
  starts = 0 ∷ 2 ∷ [];
  breaks = at_instant 2 10 B1 BBSY ∷ [];
  counts = nothing_counted;
  outcome = NotCovered (FewAnswers 0 1);
}

-- a cycle while the bus is free: the break at its start cuts it off, and it has no row
unfoldable pub cycle_cut_off_at_its_start : Audited
cycle_cut_off_at_its_start = record {
  trace = from_idle ((low AS ∷ []) ∷ (high AS ∷ []) ∷ []);
  allowances = allow_on B3 AS ∷ [];
  wanted = 0;
  starts = 0 ∷ 2 ∷ [];
  breaks = at_instant 2 10 B3 AS ∷ [];
  counts = nothing_counted;
  outcome = Conforming 1;
}

abbrev pub several_breaks : List Audited
several_breaks = two_stray_answers ∷ one_of_two_allowed ∷ both_allowed_by_line ∷ both_allowed_by_rule
    ∷ another_rule_allowed ∷ stray_answer_before_an_idle_instant ∷ break_at_an_idle_instant
    ∷ break_at_the_next_instant ∷ two_breaks_at_one_instant ∷ break_after_a_lost_strobe ∷ lost_strobe_alone
    ∷ nothing_judged_while_lost ∷ resets_between ∷ break_in_the_last_step ∷ idle_break_in_the_last_step
    ∷ cycle_cut_off_at_its_start ∷ []
