-- A recording that a binding makes of a dump has its times from the dump.
use Rattle.std.specs.Prelude.{ℕ, ◌≤◌, IsSome, All, List}
use Rattle.vcd_places.specs.Places.{body_in, times_of_body}
use Rattle.vcd_places.specs.Times.{IsAscendingFrom, IsReached}
use Rattle.vme_listing.specs.Recorded.{recorded_rows}
use Rattle.vme_trace.specs.Trace.{Trace, last_instant, time_at}
use Rattle.vme_annotation.specs.Shown.{ShownChange, all_changes}

-- The time stamps of `dump` don't go back. The time of each instant of `t` is 0 or one of them, and up to the last
-- instant these times don't go back. The changes of the rows are at instants of `t`.
pub record HasTimes (dump : List ℕ) (t : Trace) : Type 0 where
  pub defined : IsSome (body_in dump)
  pub sorted : IsAscendingFrom 0 (times_of_body dump)
  pub ordered : (i j : ℕ) → i ≤ j → j ≤ last_instant t → time_at t i ≤ time_at t j
  pub reached : (i : ℕ) → IsReached dump (time_at t i)
  pub within : All (λ (c : ShownChange). c.instant ≤ last_instant t) (all_changes (recorded_rows t))
