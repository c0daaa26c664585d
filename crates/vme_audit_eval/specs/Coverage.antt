-- What is counted of recordings, and which recordings are covered.
use Rattle.std.specs.Prelude.{List, [], ◌∷◌}
use Rattle.vme_trace.specs.LineNumbers.{AS, DS0, DTACK, BERR, IACK, WRITE, AM, SYSRESET}
use Rattle.vme_trace.specs.declared.rule.Rule.TheVariants.{H2, H4}
use Rattle.vme_eval.specs.Steps.{low, high, unknown_lines, idle_lines, from_idle, once_granted, transfer_on_busy_bus}
use Rattle.vme_audit.specs.Allowances.{stopped_at}
use Rattle.vme_audit.specs.Counted.{nothing_counted}
use Rattle.vme_audit.specs.declared.outcome.CoverageGap.TheVariants.{NeverIdle, NeverIdleBehind, FewAnswers, Hang}
use Rattle.vme_audit.specs.declared.outcome.Outcome.TheVariants.{Conforming, NotCovered, Broken, Unreadable}
use Rattle.vme_audit_eval.specs.Audited.{Audited}
use Rattle.vme_audit_eval.specs.Breaks.{allow, allow_on, at_instant, one_read, two_stray_answers}
use Rattle.vme_audit_eval.specs.Breaks.{break_in_the_last_step, nothing_judged_while_lost}

-- nothing but an opening of which nothing is known
unfoldable pub nothing_known : Audited
nothing_known = record {
  trace = record { opening = unknown_lines; steps = [] };
  allowances = [];
  wanted = 0;
  starts = 0 ∷ [];
  breaks = [];
  counts = nothing_counted;
  outcome = NotCovered NeverIdle;
}

-- only an idle opening, and no answered transfer is required
unfoldable pub idle_and_nothing_wanted : Audited
idle_and_nothing_wanted = record {
  trace = record { opening = idle_lines; steps = [] };
  allowances = [];
  wanted = 0;
  starts = 0 ∷ [];
  breaks = [];
  counts = nothing_counted;
  outcome = Conforming 0;
}

-- only an idle opening, and one answered transfer is required
unfoldable pub idle_and_one_wanted : Audited
idle_and_one_wanted = record idle_and_nothing_wanted { wanted = 1; outcome = NotCovered (FewAnswers 0 1) }

-- a read in a tenure, and one answered transfer is required
unfoldable pub read_in_a_tenure : Audited
read_in_a_tenure = record {
  trace =
      once_granted ((low (AM 1) ∷ []) ∷ (low AS ∷ []) ∷ (low DS0 ∷ []) ∷ (low DTACK ∷ []) ∷ (high AS ∷ high DS0 ∷ [])
      ∷ (high DTACK ∷ []) ∷ []);
  allowances = [];
  wanted = 1;
  starts = 0 ∷ [];
  breaks = [];
  counts = record one_read { tenures = 1 };
  outcome = Conforming 0;
}

-- a read in a tenure, and two answered transfers are required
unfoldable pub one_answer_of_two : Audited
one_answer_of_two = record read_in_a_tenure { wanted = 2; outcome = NotCovered (FewAnswers 1 2) }

-- a break in a tenure: the tenure is counted in the part in which it starts, and not in the part at whose start it is
-- open
unfoldable pub tenure_cut_off : Audited
tenure_cut_off = record {
  trace = once_granted ((low DTACK ∷ []) ∷ (high DTACK ∷ []) ∷ []);
  allowances = [];
  wanted = 0;
  starts = 0 ∷ 8 ∷ [];
  breaks = at_instant 8 70 H4 DTACK ∷ [];
  counts = record nothing_counted { tenures = 1 };
  outcome = Broken;
}

-- a write that BERR answers, in a block transfer cycle: the answer counts
unfoldable pub bus_error_to_a_write : Audited
bus_error_to_a_write = record {
  trace = transfer_on_busy_bus (low WRITE ∷ []) ((low BERR ∷ []) ∷ []);
  allowances = [];
  wanted = 1;
  starts = 0 ∷ [];
  breaks = [];
  counts = record nothing_counted { block = 1; writes = 1; by_berr = 1 };
  outcome = Conforming 0;
}

-- a read in a cycle of a free code, and a cycle without a transfer
unfoldable pub free_cycles : Audited
free_cycles = record {
  trace = transfer_on_busy_bus (low (AM 5) ∷ [])
      ((low DTACK ∷ []) ∷ (high AS ∷ high DS0 ∷ []) ∷ (high DTACK ∷ []) ∷ (low AS ∷ []) ∷ []);
  allowances = [];
  wanted = 1;
  starts = 0 ∷ [];
  breaks = [];
  counts = record nothing_counted { free = 2; reads = 1; by_dtack = 1 };
  outcome = Conforming 0;
}

-- an interrupt acknowledge
unfoldable pub interrupt_acknowledge : Audited
interrupt_acknowledge = record {
  trace = transfer_on_busy_bus (low IACK ∷ []) ((low DTACK ∷ []) ∷ []);
  allowances = [];
  wanted = 1;
  starts = 0 ∷ [];
  breaks = [];
  counts = record nothing_counted { acknowledge = 1; reads = 1; by_dtack = 1 };
  outcome = Conforming 0;
}

-- a transfer without an answer at the end
unfoldable pub bus_hangs : Audited
bus_hangs = record {
  trace = transfer_on_busy_bus (low (AM 1) ∷ low WRITE ∷ []) [];
  allowances = [];
  wanted = 0;
  starts = 0 ∷ [];
  breaks = [];
  counts = record nothing_counted { single = 1; writes = 1; pending = 1 };
  outcome = NotCovered (Hang 4 30);
}

-- a transfer without an answer at the end, and one answered transfer is required: the missing answer takes precedence
unfoldable pub bus_hangs_and_one_wanted : Audited
bus_hangs_and_one_wanted = record bus_hangs { wanted = 1; outcome = NotCovered (FewAnswers 0 1) }

-- a reset ends the transfer without an answer: it doesn't hang
unfoldable pub hang_that_is_reset : Audited
hang_that_is_reset = record bus_hangs {
  trace = transfer_on_busy_bus (low (AM 1) ∷ low WRITE ∷ []) ((low SYSRESET ∷ []) ∷ []);
  counts = record nothing_counted { resets = 1; single = 1; writes = 1; pending = 1 };
  outcome = Conforming 0;
}

-- after a reset another transfer stays without an answer: it hangs
unfoldable pub hang_after_a_reset : Audited
hang_after_a_reset = record {
  trace =
      from_idle ((low DS0 ∷ []) ∷ (low SYSRESET ∷ []) ∷ (high DS0 ∷ high SYSRESET ∷ []) ∷ (low DS0 ∷ []) ∷ []);
  allowances = [];
  wanted = 0;
  starts = 0 ∷ [];
  breaks = [];
  counts = record nothing_counted { resets = 1; reads = 2; pending = 2 };
  outcome = NotCovered (Hang 5 40);
}

-- a transfer after a break hangs
unfoldable pub hang_after_a_break : Audited
hang_after_a_break = record {
  trace = from_idle ((low DTACK ∷ []) ∷ (high DTACK ∷ []) ∷ (low DS0 ∷ []) ∷ []);
  allowances = allow H4 ∷ [];
  wanted = 0;
  starts = 0 ∷ 2 ∷ [];
  breaks = at_instant 2 10 H4 DTACK ∷ [];
  counts = record nothing_counted { reads = 1; pending = 1 };
  outcome = NotCovered (Hang 4 30);
}

-- a break ends a transfer without an answer: it doesn't hang
unfoldable pub transfer_cut_off : Audited
transfer_cut_off = record {
  trace = from_idle ((low DS0 ∷ []) ∷ (high DS0 ∷ []) ∷ []);
  allowances = allow H2 ∷ [];
  wanted = 0;
  starts = 0 ∷ 3 ∷ [];
  breaks = at_instant 3 20 H2 DS0 ∷ [];
  counts = record nothing_counted { reads = 1; pending = 1 };
  outcome = Conforming 1;
}

-- a break takes precedence over a gap in the coverage, and so does what can't be read
unfoldable pub broken_and_not_covered : Audited
broken_and_not_covered = record break_in_the_last_step { allowances = []; outcome = Broken }

unfoldable pub unreadable_and_not_covered : Audited
unreadable_and_not_covered = record nothing_judged_while_lost { allowances = []; outcome = Unreadable }

-- that nothing was judged takes precedence over missing answers
unfoldable pub never_idle_and_one_wanted : Audited
never_idle_and_one_wanted = record break_in_the_last_step { wanted = 1 }

-- reading stops at the first break, whose instant still belongs to the recording
unfoldable pub stopped_at_the_first : Audited
stopped_at_the_first = record two_stray_answers {
  trace = stopped_at [] 1 two_stray_answers.trace;
  starts = 0 ∷ 2 ∷ [];
  breaks = at_instant 2 10 H4 DTACK ∷ [];
}

-- reading stops at the first break that isn't allowed, the second one, after which the bus isn't idle
unfoldable pub stopped_at_the_second : Audited
stopped_at_the_second = record two_stray_answers {
  trace = stopped_at (allow_on H4 DTACK ∷ []) 1 two_stray_answers.trace;
  allowances = allow H4 ∷ [];
  outcome = NotCovered (NeverIdleBehind 4);
}

-- reading would stop at the third break that isn't allowed, of which there is none: the whole recording is read
unfoldable pub stopped_nowhere : Audited
stopped_nowhere = record two_stray_answers {
  trace = stopped_at [] 3 two_stray_answers.trace;
  allowances = allow H4 ∷ [];
  outcome = Conforming 2;
}

abbrev pub coverage : List Audited
coverage = nothing_known ∷ idle_and_nothing_wanted ∷ idle_and_one_wanted ∷ read_in_a_tenure ∷ one_answer_of_two
    ∷ tenure_cut_off ∷ bus_error_to_a_write ∷ free_cycles ∷ interrupt_acknowledge ∷ bus_hangs ∷ bus_hangs_and_one_wanted
    ∷ hang_that_is_reset ∷ hang_after_a_reset ∷ hang_after_a_break ∷ transfer_cut_off ∷ broken_and_not_covered
    ∷ unreadable_and_not_covered ∷ never_idle_and_one_wanted ∷ stopped_at_the_first ∷ stopped_at_the_second
    ∷ stopped_nowhere ∷ []
