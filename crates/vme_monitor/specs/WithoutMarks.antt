-- Machines that show nothing, and what a summary gives where nothing is shown.
use Rattle.std.proofs.Common.{◌≡◌, ℕ, ◌<◌, List, [], ◌∷◌, length, refl, ap, ◌∙◌, Option, Some, None}
use Rattle.std.specs.Option.{option_map_or}
use Rattle.vme_trace.specs.Levels.{Levels}
use Rattle.vme_trace.specs.Trace.{changed}
use Rattle.vme_trace.specs.declared.step.Change.{Change}
use Rattle.vme_trace.specs.declared.step.Step.{Step}
use Rattle.vme_monitor.specs.Outcome.{Outcome, StandsFor, composed_outcome}
use Rattle.vme_monitor.specs.Run.{machine_step, no_step_marks, outcome_at, quiet, run_of}
use Rattle.vme_monitor.specs.declared.mark.Next.{Next}

-- a summary `says` gives the leaving memory and the first break of the steps x after the opening o; of marks it says
-- nothing
pub record FindsFor {P : Type 0} (run : P → Levels → List Step → Outcome P) (says : P → Outcome P) (count : ℕ)
    (o : Levels) (x : List Step) : Type 0 where
  pub leaving : (p : P) → (says p).leaving ≡ (run p o x).leaving
  pub first_break : (p : P) → (says p).first_break ≡ (run p o x).first_break
  pub counted : count ≡ length x

-- a summary that stands for steps gives their leaving memory and first break
pub stands_finds : {P : Type 0} {run : P → Levels → List Step → Outcome P} {says : P
    → Outcome P} {count : ℕ} {o : Levels} {x : List Step} → StandsFor run says count o x → FindsFor run says count o x
stands_finds stands =
    record {
      leaving = λ p. ap (λ (r : Outcome _). r.leaving) (stands.outcomes p);
      first_break = λ p. ap (λ (r : Outcome _). r.first_break) (stands.outcomes p);
      counted = stands.counted;
    }

-- what a step gives, but for what it shows
abbrev pub unmarked_next : {P : Type 0} → Next P → Next P
unmarked_next n = record { memory = n.memory; fault = n.fault; shown = no_step_marks }

-- a machine's step without marks
abbrev pub unmarked_step : {P S : Type 0} → (P → Levels → Levels → S → Next P) → P → Levels → Levels → S → Next P
unmarked_step next p before after seen = unmarked_next (next p before after seen)

-- an outcome without its marks
abbrev pub unmarked : {P : Type 0} → Outcome P → Outcome P
unmarked a = record { leaving = a.leaving; first_break = a.first_break; marks = [] }

-- without marks too, an observation whose threshold is above a memory's sensitivity leaves the memory as it is
pub unmarked_unchanged : {P S : Type 0} (next : P → Levels → Levels → S → Next P) (sensitivity : P → ℕ) (threshold : S
    → ℕ)
    → ((p : P) (before after : Levels) (seen : S) → sensitivity p < threshold seen → next p before after seen ≡ quiet p)
    → (p : P) (before after : Levels) (seen : S) → sensitivity p < threshold seen
    → unmarked_step next p before after seen ≡ quiet p
unmarked_unchanged next sensitivity threshold unchanged p before after seen is_below = ap unmarked_next
    (unchanged p before after seen is_below)

module _ {P S : Type 0} (observation : Levels → Levels → List Change → Option S)
    (next : P → Levels → Levels → S → Next P) where
  unmarked_step_is : (p : P) (before after : Levels) (cs : List Change)
      → machine_step observation (unmarked_step next) p before after cs
      ≡ unmarked_next (machine_step observation next p before after cs)
  unmarked_step_is p before after cs = by_observation (observation before after cs)
    where
      by_observation : (seen : Option S) → option_map_or (unmarked_step next p before after) seen (quiet p)
          ≡ unmarked_next (option_map_or (next p before after) seen (quiet p))
      by_observation None = refl
      by_observation (Some s) = refl

  -- a run of the machine without marks is the run, without its marks
  pub unmarked_run : (x : List Step) (p : P) (o : Levels)
      → run_of (machine_step observation (unmarked_step next)) p o x
      ≡ unmarked (run_of (machine_step observation next) p o x)
  unmarked_run [] p o = refl
  unmarked_run (s ∷ x) p o =
      let after = changed o s.changes in
      let first = machine_step observation next p o after s.changes in
      ap (λ (n : Next P). composed_outcome 1 (outcome_at 1 s.time n)
      (run_of (machine_step observation (unmarked_step next)) n.memory after x)) (unmarked_step_is p o after s.changes)
      ∙ ap (composed_outcome 1 (outcome_at 1 s.time (unmarked_next first))) (unmarked_run x first.memory after)

  -- a summary of steps without marks finds what the steps do
  pub unmarked_finds : (says : P → Outcome P) (count : ℕ) (o : Levels) (x : List Step)
      → StandsFor (run_of (machine_step observation (unmarked_step next))) says count o x
      → FindsFor (run_of (machine_step observation next)) says count o x
  unmarked_finds says count o x stands =
      record {
        leaving = λ p. ap (λ (r : Outcome P). r.leaving) (stands.outcomes p ∙ unmarked_run x p o);
        first_break = λ p. ap (λ (r : Outcome P). r.first_break) (stands.outcomes p ∙ unmarked_run x p o);
        counted = stands.counted;
      }
