-- Tables without marks agree with the monitors' runs, whose marks are left out.
use Rattle.std.proofs.Common.{◌≡◌, ℕ, false, List, ap, ◌∙◌, Option}
use Rattle.vme_trace.specs.Levels.{Levels}
use Rattle.vme_trace.specs.declared.step.Change.{Change}
use Rattle.vme_trace.specs.declared.step.Step.{Step}
use Rattle.vme_monitor.specs.Outcome.{Outcome}
use Rattle.vme_monitor.specs.Run.{machine_step, run_of}
use Rattle.vme_monitor.specs.WithoutMarks.{unmarked_step, unmarked_run}
use Rattle.vme_monitor.specs.declared.mark.Next.{Next}
use Rattle.vme_part_format.specs.Tables.{TableValue}
use Rattle.vme_part_tables.specs.Runs.{AgreesWithRuns}
use Rattle.vme_parts.proofs.Bare.{AgreesWithRuns-same_runs}

-- a table without marks that agrees with the runs of the steps without marks agrees with the runs
pub AgreesWithRuns-unmarked : {P S : Type 0} (observation : Levels → Levels → List Change → Option S)
    (next : P → Levels → Levels → S → Next P) (count : ℕ) (place : P → ℕ) (t : TableValue) (o : Levels) (x : List Step)
    → AgreesWithRuns false count place t (λ p. run_of (machine_step observation (unmarked_step next)) p o x)
    → AgreesWithRuns false count place t (λ p. run_of (machine_step observation next) p o x)
AgreesWithRuns-unmarked {P} observation next count place t o x s =
    record {
      counted = s.counted;
      ways = s.ways;
      agrees = λ k.
          let e = unmarked_run observation next x k o in
          record {
            leaving = (s.agrees k).leaving ∙ ap (λ (r : Outcome P). place r.leaving) e;
            first_break = (s.agrees k).first_break ∙ ap (λ (r : Outcome P). r.first_break) e;
            marks = (s.agrees k).marks;
          };
    }

-- a table without marks that agrees with a summary of runs without marks agrees with the runs
pub AgreesWithRuns-unmarked_summary : {P S : Type 0} (observation : Levels → Levels → List Change → Option S)
    (next : P → Levels → Levels → S → Next P) (count : ℕ) (place : P → ℕ) (t : TableValue) (says : P → Outcome P)
    (o : Levels) (x : List Step) → ((p : P) → says p ≡ run_of (machine_step observation (unmarked_step next)) p o x)
    → AgreesWithRuns false count place t says
    → AgreesWithRuns false count place t (λ p. run_of (machine_step observation next) p o x)
AgreesWithRuns-unmarked_summary observation next count place t says o x e s =
    AgreesWithRuns-unmarked observation next count place t o x
    (AgreesWithRuns-same_runs false count place t says
    (λ p. run_of (machine_step observation (unmarked_step next)) p o x) e s)
