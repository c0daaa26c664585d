-- The last steps of a recording.
use Rattle.std.specs.Prelude.{◌≡◌, ◌≤◌, ◌++◌, ℕ, List, [], ◌∷◌, drop, length, map}
use Rattle.std.specs.List.{range_with_len}
use Rattle.vme_trace.specs.Levels.{Levels}
use Rattle.vme_trace.specs.Trace.{Trace, levels_at, time_at}
use Rattle.vme_trace.specs.declared.step.Step.{Step}
use Rattle.vme_account.specs.declared.recent_steps.RecentSteps.{RecentSteps}

-- the recording with one more step
abbrev pub with_step : Trace → Step → Trace
with_step t s = record t { steps = t.steps ++ s ∷ [] }

-- `r` has the last steps of recording `t`, and the levels and the time of the instant before them
pub record AreRecent (r : RecentSteps) (t : Trace) : Type 0 where
  pub levels : r.before ≡ levels_at t r.first
  pub time_is : r.time ≡ time_at t r.first
  pub kept : r.older.items ++ r.newer.items ≡ drop r.first t.steps
  pub within : r.first ≤ length t.steps

-- the levels at `count` instants from `first` on
abbrev pub levels_of : Trace → ℕ → ℕ → List Levels
levels_of t first count = map (levels_at t) (range_with_len first count)
