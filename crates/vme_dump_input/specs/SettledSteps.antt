-- The state of a settler after several steps more, taken one after the other.
use Rattle.std.specs.Prelude.{◌≡◌, ◌≤◌, ℕ, zero, suc, All, Bool, true, ◌&&◌, List, [], ◌∷◌, ◌++◌, length, max, nat_le}
use Rattle.std.specs.Prelude.{Option, None, Some}
use Rattle.vme_trace.specs.Followed.{with_steps}
use Rattle.vme_trace.specs.Levels.{Levels}
use Rattle.vme_trace.specs.LineNumbers.{line_count}
use Rattle.vme_trace.specs.Trace.{Trace}
use Rattle.vme_trace.specs.WellFormed.{malformed_step}
use Rattle.vme_trace.specs.declared.step.Step.{Step}
use Rattle.vme_skew.specs.Settled.{settled_until}
use Rattle.vme_skew.specs.Settling.{Settling, unsettled}

-- the latest time that is known after the steps, where it was `reached` before them
unfoldable pub reached_at : ℕ → List Step → ℕ
reached_at reached [] = reached
reached_at reached (step ∷ steps) = reached_at (max reached step.time) steps

-- no step is earlier than a time that is known before it
unfoldable pub are_in_order : ℕ → List Step → Bool
are_in_order reached [] = true
are_in_order reached (step ∷ steps) = nat_le reached step.time && are_in_order (max reached step.time) steps

-- the settler took `steps`, and `out` came out
abbrev pub all_taken : Settling → List Step → List Step → Settling
all_taken s steps out = record s {
  given = with_steps s.given steps;
  out = s.out ++ out;
  reached = reached_at s.reached steps;
  in_order = s.in_order && are_in_order s.reached steps;
}

-- the settler took `steps`, `out` came out, and then `time` is known
abbrev pub settled_to : Settling → List Step → ℕ → List Step → Settling
settled_to s steps time out = record (all_taken s steps out) { reached = max (reached_at s.reached steps) time }

-- ---- the steps that come out, with a skew or without

-- the settler of a dump by this skew, before the first step; there is none if the skew is 0
abbrev pub IsSettlerFor : ℕ → Levels → Option Settling → Type 0
IsSettlerFor zero opening None = Unit {0}
IsSettlerFor (suc n) opening (Some s) = s ≡ unsettled (suc n) opening
IsSettlerFor zero opening (Some s) = ⊥
IsSettlerFor (suc n) opening None = ⊥

-- the settler took the recording `given`, the last time that was read is `time`, and `t` came out
pub record IsSettledTo (skew : ℕ) (s : Settling) (given : Trace) (time : ℕ) (t : Trace) : Type 0 where
  pub by : s.skew ≡ skew
  pub took : s.given ≡ given
  pub in_order : s.in_order ≡ true
  pub known : s.reached ≤ time
  pub settled : t ≡ settled_until skew s.reached given
  pub came : s.out ≡ t.steps

-- as `IsSettledTo`, or there is neither a skew nor a settler, and `t` is `given`
abbrev pub ComesOut : Option ℕ → Option Settling → Trace → ℕ → Trace → Type 0
ComesOut None None given time t = t ≡ given
ComesOut (Some skew) (Some s) given time t = IsSettledTo skew s given time t
ComesOut None (Some s) given time t = ⊥
ComesOut (Some skew) None given time t = ⊥

-- `steps` may follow the recording `given`, where `from` is the last time that was read
pub record GoOnFrom (given : Trace) (from : ℕ) (steps : List Step) : Type 0 where
  pub formed : malformed_step (with_steps given steps) ≡ None
  pub whole : length given.opening.levels ≡ line_count
  pub few : given.opening.slots ≤ 21
  pub follows : All (λ (step : Step). from ≤ step.time) steps

-- as `GoOnFrom`, and neither `from` nor a step is later than `time`
pub record GoOnTo (given : Trace) (from : ℕ) (steps : List Step) (time : ℕ) : Type 0 where
  pub go : GoOnFrom given from steps
  pub within : All (λ (step : Step). step.time ≤ time) steps
  pub on : from ≤ time
