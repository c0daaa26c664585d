-- Instants with their times.
use Rattle.std.specs.Prelude.{◌≡◌}
use Rattle.vme_trace.specs.Trace.{Trace, time_at}
use Rattle.vme_account.specs.declared.known_times.KnownTimes.{KnownTimes}
use Rattle.vme_account.specs.declared.known_times.TimedInstant.{TimedInstant}

-- the time of `p` is that of its instant in recording `t`
abbrev pub IsTime : Trace → TimedInstant → Type 0
IsTime t p = p.time ≡ time_at t p.instant

-- all times that are kept are those of their instants
pub record AreTimes (t : Trace) (k : KnownTimes) : Type 0 where
  pub first : IsTime t k.first
  pub start : IsTime t k.start
  pub reset : IsTime t k.reset
  pub tenure : IsTime t k.tenure
  pub cycle : IsTime t k.cycle
  pub waiting : IsTime t k.waiting
  pub unanswered : IsTime t k.unanswered
  pub answered : IsTime t k.answered
  pub answer : IsTime t k.answer
