-- The state of a settler, and its current group of steps.
use Rattle.std.specs.Prelude.{◌≡◌, ℕ, ◌==◌, ◌+◌, ◌-◌, ◌≤◌, Bool, true, false, ◌&&◌, ◌||◌, List, [], ◌∷◌, ◌++◌}
use Rattle.std.specs.Prelude.{max, nat_le, nat_lt, None, Option}
use Rattle.std.specs.Option.{option_to_list}
use Rattle.vme_trace.specs.Followed.{with_steps}
use Rattle.vme_trace.specs.Levels.{Levels}
use Rattle.vme_trace.specs.Trace.{Trace, last_instant, levels_at, time_at}
use Rattle.vme_trace.specs.WellFormed.{malformed_step}
use Rattle.vme_trace.specs.declared.step.Step.{Step}
use Rattle.vme_skew.specs.Group.{GroupLevels}
use Rattle.vme_skew.specs.Settled.{group_start, settled_until, step_to, steps_before}

-- a recording of which some steps were taken, and the steps that came out
pub record Settling : Type 0 where
  pub skew : ℕ
  -- the recording of the steps that were taken
  pub given : Trace
  -- the steps that came out
  pub out : List Step
  -- the latest time that is known
  pub reached : ℕ
  -- no step came earlier than a time that was known before, and there was memory for all
  pub in_order : Bool

-- before the first step
abbrev pub unsettled : ℕ → Levels → Settling
unsettled skew opening = record {
  skew = skew;
  given = record { opening = opening; steps = [] };
  out = [];
  reached = 0;
  in_order = true;
}

-- one step more is taken, and the step `out` comes out, if there is one
abbrev pub taken : Settling → Step → Option Step → Settling
taken s step out = record s {
  given = with_steps s.given (step ∷ []);
  out = s.out ++ option_to_list out;
  reached = max s.reached step.time;
  in_order = s.in_order && nat_le s.reached step.time;
}

-- `time` is known, and the step `out` comes out, if there is one
abbrev pub reached_by : Settling → ℕ → Option Step → Settling
reached_by s time out = record s { out = s.out ++ option_to_list out; reached = max s.reached time }

-- the settler after memory ran out
abbrev pub failed : Settling → Settling
failed s = record s { in_order = false }

-- the steps that came out are those of the settled recording that are complete at the latest time that is known
abbrev pub IsSettledSoFar : Settling → Type 0
IsSettledSoFar s = malformed_step s.given ≡ None → s.in_order ≡ true
    → s.out ≡ (settled_until s.skew s.reached s.given).steps

-- ---- the current group

-- the current group isn't known to be over: the steps that came out are those of the groups before it
pub record IsInGroup (skew : ℕ) (t : Trace) (out : List Step) (reached : ℕ) (group : GroupLevels) : Type 0 where
  pub some : (last_instant t == 0) ≡ false
  pub start : group.start ≡ time_at t (group_start skew t (last_instant t))
  pub before : group.before ≡ levels_at t (group_start skew t (last_instant t) - 1)
  pub now : group.now ≡ levels_at t (last_instant t)
  pub made : out ≡ steps_before skew t (last_instant t)
  pub latest : time_at t (last_instant t) ≤ reached
  pub within : nat_lt (time_at t (group_start skew t (last_instant t)) + skew) reached ≡ false

-- the next step begins a group: the steps that came out are those of all groups
pub record IsBetweenGroups (skew : ℕ) (t : Trace) (out : List Step) (reached : ℕ) (group : GroupLevels) : Type 0 where
  pub before : group.before ≡ levels_at t (last_instant t)
  pub now : group.now ≡ levels_at t (last_instant t)
  pub made : out ≡ steps_before skew t (last_instant t) ++ step_to skew t (last_instant t)
  pub latest : time_at t (last_instant t) ≤ reached
  pub over : ((last_instant t == 0) || nat_lt (time_at t (group_start skew t (last_instant t)) + skew) reached) ≡ true

-- the current group isn't known to be over (`true`), or the next step begins a group (`false`)
abbrev pub IsAtGroup : ℕ → Trace → List Step → ℕ → Bool → GroupLevels → Type 0
IsAtGroup skew t out reached true group = IsInGroup skew t out reached group
IsAtGroup skew t out reached false group = IsBetweenGroups skew t out reached group

-- `group` is the current group of a settler in this state
pub record KeepsGroup (s : Settling) (is_begun : Bool) (group : GroupLevels) : Type 0 where
  pub at : malformed_step s.given ≡ None → s.in_order ≡ true → IsAtGroup s.skew s.given s.out s.reached is_begun group
