-- How far an audit reads a recording: up to some number of breaks that aren't allowed.
use Rattle.std.specs.Prelude.{◌≡◌, ℕ, ◌-◌, ◌≤◌, ◌++◌, Bool, true, false, List, length, nat_lt, Option, None, Some}
use Rattle.vme_trace.specs.Followed.{with_steps}
use Rattle.vme_trace.specs.Trace.{Trace}
use Rattle.vme_trace.specs.WellFormed.{malformed_step}
use Rattle.vme_trace.specs.declared.step.Step.{Step}
use Rattle.vme_trace.specs.declared.verdict.Break.{Break}
use Rattle.vme_audit.specs.Allowances.{faults, stopped_at}
use Rattle.vme_audit.specs.Parts.{breaks}
use Rattle.vme_audit.specs.declared.allowance.Allowance.{Allowance}

-- an audit with limit `n` stops after `n` breaks that aren't allowed, 0 having the effect of 1, and without a limit
-- never
abbrev pub stops_by : Option ℕ → ℕ → Bool
stops_by None count = false
stops_by (Some n) count = nat_lt (n - 1) count

-- recording `t` has so many breaks that aren't allowed that an audit of it stops
abbrev pub is_stopped : List Allowance → Option ℕ → Trace → Bool
is_stopped allowances stop t = stops_by stop (length (faults allowances (breaks t)))

-- the recording as far as it is read
abbrev pub read_by : List Allowance → Option ℕ → Trace → Trace
read_by allowances None t = t
read_by allowances (Some n) t = stopped_at allowances n t

-- what was given to an audit so far: which breaks are allowed, where it stops, and the recording
pub record GivenSteps : Type 0 where
  pub allowances : List Allowance
  pub stop : Option ℕ
  pub recording : Trace

-- the given recording as far as it is read
abbrev pub read_of : GivenSteps → Trace
read_of g = read_by g.allowances g.stop g.recording

-- the given recording has so many breaks that aren't allowed that the audit stops
abbrev pub has_stopped : GivenSteps → Bool
has_stopped g = is_stopped g.allowances g.stop g.recording

-- as far as both are read, recording `u` has the breaks of `t`, and after them others
pub record BreaksGoOn (allowances : List Allowance) (stop : Option ℕ) (t u : Trace) : Type 0 where
  pub more : List Break
  pub grown : breaks (read_by allowances stop u) ≡ breaks (read_by allowances stop t) ++ more

-- `holds` is true of each well-formed recording that continues one at which an audit stops
abbrev pub HoldsOnceStopped : List Allowance → Option ℕ → (Trace → Trace → Type 0) → Type 0
HoldsOnceStopped allowances stop holds =
    (t : Trace) (steps : List Step) → malformed_step (with_steps t steps) ≡ None → t.opening.slots ≤ 21
    → is_stopped allowances stop t ≡ true → holds t (with_steps t steps)
