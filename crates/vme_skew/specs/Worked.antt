-- Worked recordings, and the recordings to which they settle.
use Rattle.std.specs.Prelude.{◌≡◌, ℕ, ◌-◌, ◌^◌, List, [], ◌∷◌, replicate}
use Rattle.vme_trace.specs.LineNumbers.{line_count, AS, DS0, DTACK, BBSY, SYSRESET}
use Rattle.vme_trace.specs.Trace.{Trace}
use Rattle.vme_trace.specs.declared.level.Level.{Level}
use Rattle.vme_trace.specs.declared.level.Level.TheVariants.{Low, High, Unknown}
use Rattle.vme_trace.specs.declared.step.Change.{Change}
use Rattle.vme_trace.specs.declared.step.Step.{Step}
use Rattle.vme_skew.specs.Settled.{settled, settled_until}

-- the steps after an opening with every line high, a skew, and the steps to which they settle
pub record WorkedGroups : Type 0 where
  pub steps : List Step
  pub skew : ℕ
  pub settled : List Step

-- a recording of one slot that opens with all lines high
abbrev pub from_high : List Step → Trace
from_high steps = record { opening = record { slots = 1; levels = replicate line_count High }; steps = steps }

-- the recording settles to the steps that it names
abbrev pub Settles : WorkedGroups → Type 0
Settles w = settled w.skew (from_high w.steps) ≡ from_high w.settled

abbrev to : ℕ → Level → Change
to l x = record { line = l; level = x }

abbrev low : ℕ → Change
low l = to l Low

abbrev high : ℕ → Change
high l = to l High

abbrev unknown : ℕ → Change
unknown l = to l Unknown

abbrev at : ℕ → List Change → Step
at time changes = record { time = time; changes = changes }

abbrev three_falls : List Step
three_falls = at 10 (low DTACK ∷ []) ∷ at 13 (low AS ∷ []) ∷ at 15 (low BBSY ∷ []) ∷ []

-- a step at just the skew belongs to the group, whose lines come in their order; one later than that begins another
unfoldable pub just_within : WorkedGroups
just_within = record {
  steps = three_falls;
  skew = 3;
  settled = at 10 (low AS ∷ low DTACK ∷ []) ∷ at 15 (low BBSY ∷ []) ∷ [];
}

-- a step at one more than the skew begins a group: the skew is counted from where the group began
unfoldable pub just_past : WorkedGroups
just_past = record {
  steps = three_falls;
  skew = 2;
  settled = at 10 (low DTACK ∷ []) ∷ at 13 (low AS ∷ low BBSY ∷ []) ∷ [];
}

-- a skew of 0 changes nothing
unfoldable pub by_nothing : WorkedGroups
by_nothing = record { steps = three_falls; skew = 0; settled = three_falls }

-- a skew over the length of the recording makes one step of all
unfoldable pub over_all : WorkedGroups
over_all = record { steps = three_falls; skew = 6; settled = at 10 (low AS ∷ low DTACK ∷ low BBSY ∷ []) ∷ [] }

-- the greatest skew makes one step of all
unfoldable pub greatest : WorkedGroups
greatest = record {
  steps = three_falls;
  skew = 2 ^ 64 - 1;
  settled = at 10 (low AS ∷ low DTACK ∷ low BBSY ∷ []) ∷ [];
}

-- a line that falls and rises within a group doesn't change; the other line changes at the time at which the group
-- begins
unfoldable pub glitch : WorkedGroups
glitch = record {
  steps = at 4 (low AS ∷ []) ∷ at 5 (low DS0 ∷ []) ∷ at 6 (high AS ∷ []) ∷ [];
  skew = 5;
  settled = at 4 (low DS0 ∷ []) ∷ [];
}

-- a group that ends as it began makes no step, and the next one begins with the next step
unfoldable pub ends_as_it_began : WorkedGroups
ends_as_it_began = record {
  steps =
      at 0 (low AS ∷ low DS0 ∷ []) ∷ at 5 (high AS ∷ high DS0 ∷ []) ∷ at 6 (low DTACK ∷ [])
      ∷ at 12 (high DTACK ∷ []) ∷ [];
  skew = 5;
  settled = at 6 (low DTACK ∷ []) ∷ at 12 (high DTACK ∷ []) ∷ [];
}

-- a reset and an unknown level that begin and end within a group are gone
unfoldable pub reset_and_loss_within : WorkedGroups
reset_and_loss_within = record {
  steps =
      at 0 (unknown AS ∷ low SYSRESET ∷ []) ∷ at 1 (low DS0 ∷ []) ∷ at 2 (high SYSRESET ∷ []) ∷ at 3 (low AS ∷ []) ∷ [];
  skew = 3;
  settled = at 0 (low AS ∷ low DS0 ∷ []) ∷ [];
}

-- a reset and an unknown level that last longer than the group stay
unfoldable pub reset_and_loss_last : WorkedGroups
reset_and_loss_last = record {
  steps =
      at 0 (low DS0 ∷ []) ∷ at 1 (unknown AS ∷ []) ∷ at 2 (low SYSRESET ∷ [])
      ∷ at 9 (high AS ∷ high SYSRESET ∷ []) ∷ [];
  skew = 3;
  settled = at 0 (unknown AS ∷ low DS0 ∷ low SYSRESET ∷ []) ∷ at 9 (high AS ∷ high SYSRESET ∷ []) ∷ [];
}

-- a recording without steps settles to one without steps
unfoldable pub nothing : WorkedGroups
nothing = record { steps = []; skew = 3; settled = [] }

-- all examples of groups
abbrev pub worked : List WorkedGroups
worked =
    just_within ∷ just_past ∷ by_nothing ∷ over_all ∷ greatest ∷ glitch ∷ ends_as_it_began ∷ reset_and_loss_within
    ∷ reset_and_loss_last ∷ nothing ∷ []

-- ---- what is complete once a time is read

-- the steps after an opening with every line high, a skew, a time, and the settled steps that are complete once that
-- time is read
pub record WorkedTime : Type 0 where
  pub steps : List Step
  pub skew : ℕ
  pub time : ℕ
  pub complete : List Step

-- of the recording the steps that it names are complete
abbrev pub HasComplete : WorkedTime → Type 0
HasComplete w = settled_until w.skew w.time (from_high w.steps) ≡ from_high w.complete

abbrev first_group : List Step
first_group = at 10 (low AS ∷ low DTACK ∷ []) ∷ []

abbrev both_groups : List Step
both_groups = at 10 (low AS ∷ low DTACK ∷ []) ∷ at 15 (low BBSY ∷ []) ∷ []

-- a time that is later than a group by just the skew doesn't end it: a step at that time belongs to it
unfoldable pub later_by_the_skew : WorkedTime
later_by_the_skew = record { steps = three_falls; skew = 3; time = 18; complete = first_group }

-- a time that is later than a group by one more than the skew ends it
unfoldable pub later_by_more : WorkedTime
later_by_more = record { steps = three_falls; skew = 3; time = 19; complete = both_groups }

-- the first group isn't ended by a time that is later by the skew either, but by one more
unfoldable pub first_by_the_skew : WorkedTime
first_by_the_skew = record { steps = three_falls; skew = 3; time = 13; complete = [] }

unfoldable pub first_by_more : WorkedTime
first_by_more = record { steps = three_falls; skew = 3; time = 14; complete = first_group }

-- a time before all groups
unfoldable pub reaches_none : WorkedTime
reaches_none = record { steps = three_falls; skew = 3; time = 0; complete = [] }

-- with the greatest skew no time ends a group
unfoldable pub never_over : WorkedTime
never_over = record { steps = three_falls; skew = 2 ^ 64 - 1; time = 2 ^ 64 - 1; complete = [] }

-- with a skew of 0 all is complete that is earlier than the time
unfoldable pub by_nothing_at_last : WorkedTime
by_nothing_at_last = record {
  steps = three_falls;
  skew = 0;
  time = 15;
  complete = at 10 (low DTACK ∷ []) ∷ at 13 (low AS ∷ []) ∷ [];
}

unfoldable pub by_nothing_after_last : WorkedTime
by_nothing_after_last = record { steps = three_falls; skew = 0; time = 16; complete = three_falls }

-- a group that ends as it began is over without a step
unfoldable pub over_without_step : WorkedTime
over_without_step = record {
  steps = at 4 (low AS ∷ []) ∷ at 5 (high AS ∷ []) ∷ [];
  skew = 1;
  time = 20;
  complete = [];
}

-- all examples of times
abbrev pub worked_times : List WorkedTime
worked_times =
    later_by_the_skew ∷ later_by_more ∷ first_by_the_skew ∷ first_by_more ∷ reaches_none ∷ never_over
    ∷ by_nothing_at_last ∷ by_nothing_after_last ∷ over_without_step ∷ []
