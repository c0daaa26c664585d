-- A recording by probes that sample one moment of the bus at several times, and the recording to which it settles: its
-- instants are taken in groups, each of which makes one step.
use Rattle.std.specs.Prelude.{◌≡◌, ℕ, zero, suc, Bool, ◌+◌, ◌-◌, ◌==◌, ◌||◌, List, [], ◌++◌, length, nat_lt, None}
use Rattle.std.specs.Prelude.{◌≤◌, All, filter, if◌then◌else◌, Result, Ok, Err}
use Rattle.vme_trace.specs.Followed.{with_steps}
use Rattle.vme_trace.specs.LineNumbers.{line_count}
use Rattle.vme_trace.specs.Trace.{Trace, levels_at, time_at, last_instant}
use Rattle.vme_trace.specs.WellFormed.{malformed_step}
use Rattle.vme_trace.specs.declared.step.Step.{Step}
use Rattle.vme_bind.specs.Recording.{step_between}

-- a recording as one is made: each line has a level at its opening, and no step is malformed
pub record IsRecording (t : Trace) : Type 0 where
  pub whole : length t.opening.levels ≡ line_count
  pub formed : malformed_step t ≡ None

module _ (skew : ℕ) (t : Trace) where
  -- A group begins with the instant after instant `i`, whose own group begins with `start`: if `i` is the opening, or
  -- if the time of the instant after it is more than the skew later than that of `start`.
  abbrev pub begins_after : ℕ → ℕ → Bool
  begins_after start i = (i == 0) || nat_lt (time_at t start + skew) (time_at t (suc i))

  -- the instant with which the group of an instant begins
  unfoldable pub group_start : ℕ → ℕ
  group_start zero = zero
  group_start (suc i) = if begins_after (group_start i) i then suc i else group_start i

  -- the step of the group of an instant, as far as that instant: at the time of the group's beginning, the lines whose
  -- levels differ from those before the group
  abbrev pub step_to : ℕ → List Step
  step_to i = step_between (time_at t (group_start i)) (levels_at t (group_start i - 1)) (levels_at t i)

  -- the steps of the groups before that of an instant
  unfoldable pub steps_before : ℕ → List Step
  steps_before zero = []
  steps_before (suc i) =
      if begins_after (group_start i) i then steps_before i ++ step_to i else steps_before i

-- a recording settled by a skew: the steps of all its groups
unfoldable pub settled : ℕ → Trace → Trace
settled skew t =
    record t { steps = steps_before skew t (last_instant t) ++ step_to skew t (last_instant t) }

-- a recording settled by a skew, or why there is no recording
abbrev pub settled_or : {E : Type 0} → ℕ → Result Trace E → Result Trace E
settled_or skew (Ok t) = Ok (settled skew t)
settled_or skew (Err e) = Err e

-- an instant of a settled recording is complete once a time is read that is more than the skew later: no step that
-- follows belongs to its group
abbrev pub is_complete : ℕ → ℕ → Step → Bool
is_complete skew time step = nat_lt (step.time + skew) time

-- a recording settled by a skew as far as it is complete once a time is read
unfoldable pub settled_until : ℕ → ℕ → Trace → Trace
settled_until skew time t = record t { steps = filter (is_complete skew time) (settled skew t).steps }

-- no step is earlier than `time`
abbrev pub AreFrom : ℕ → List Step → Type 0
AreFrom time steps = All (λ (step : Step). time ≤ step.time) steps

-- `longer` is the recording `t` with some steps after it
abbrev pub IsPrefixOf : Trace → Trace → Type 0
IsPrefixOf t longer = (rest : List Step) × (longer ≡ with_steps t rest)
