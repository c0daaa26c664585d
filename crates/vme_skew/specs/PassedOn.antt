-- What a visitor that settles a recording has passed on.
use Rattle.std.specs.Prelude.{◌≡◌, ℕ, ◌+◌, Bool, true, length, min, None}
use Rattle.vme_trace.specs.LineNumbers.{line_count}
use Rattle.vme_trace.specs.Trace.{Trace, last_instant, time_at}
use Rattle.vme_trace.specs.WellFormed.{capture_limit, malformed_step}
use Rattle.vme_skew.specs.Settling.{Settling}

-- all steps that came out were passed on, and the latest time that is known is that of the last step
pub record IsPassedOn (s : Settling) (recorded : Trace) : Type 0 where
  pub recorded_is : recorded ≡ record { opening = s.given.opening; steps = s.out }
  pub in_order : malformed_step s.given ≡ None → s.in_order ≡ true
  pub reached : malformed_step s.given ≡ None → s.reached ≡ time_at s.given (last_instant s.given)

-- the settler has this skew, its steps are counted up to one over `capture_limit`, and what came out was passed on if
-- there was memory
pub record KeepsSettled (skew own count : ℕ) (is_whole : Bool) (s : Settling) (recorded : Trace) : Type 0 where
  pub own_is : own ≡ skew
  pub skew_is : s.skew ≡ skew
  pub counted : count ≡ min (length s.given.steps) (capture_limit + 1)
  pub all : length s.given.opening.levels ≡ line_count
  pub passed_on : is_whole ≡ true → IsPassedOn s recorded
