-- The monitors' runs over steps that follow one another.
use Rattle.std.proofs.Common.{◌≡◌, ℕ, ◌+◌, ◌<◌, ◌^◌, Bool, List, ◌++◌, length}
use Rattle.vme_trace.specs.Levels.{Levels}
use Rattle.vme_trace.specs.Trace.{levels_after}
use Rattle.vme_trace.specs.declared.step.Change.{Change}
use Rattle.vme_trace.specs.declared.step.Step.{Step}
use Rattle.vme_monitor.specs.Outcome.{IsWithin, Outcome, composed_outcome}
use Rattle.vme_monitor.specs.Run.{run_of}
use Rattle.vme_monitor.specs.RuleMonitors.{run_within}
use Rattle.vme_monitor.specs.Runs.{run_joined}
use Rattle.vme_monitor.specs.declared.mark.Next.{Next}
use Rattle.vme_summary.specs.Runs.{acknowledge_at, grant_at, handshake_at, known_at, stability_at}
use Rattle.vme_summary.specs.Runs.{known_run, handshake_run, stability_run, grant_run, acknowledge_run}
use Rattle.vme_part_format.specs.Tables.{TableValue}
use Rattle.vme_part_tables.specs.Runs.{AgreesWithRuns, IsComposition}
use Rattle.vme_part_tables.proofs.Joining.{AgreesWithRuns-composition}

-- the run over x and then y is the run over x, followed by that over y from the memory in which the first ends; the
-- instants of a run over x are from 1 to the number of steps
pub record IsRun {P : Type 0} (run : P → Levels → List Step → Outcome P) : Type 0 where
  pub joined : (p : P) (o : Levels) (x y : List Step)
      → run p o (x ++ y) ≡ composed_outcome (length x) (run p o x) (run (run p o x).leaving (levels_after o x) y)
  pub within : (p : P) (o : Levels) (x : List Step) → IsWithin (length x) (run p o x)

-- `IsRun` holds of the runs of a machine
IsRun-run_of : {P : Type 0} (next : P → Levels → Levels → List Change → Next P) → IsRun (run_of next)
IsRun-run_of next = record { joined = λ p o x y. run_joined next x y p o; within = λ p o x. run_within next x p o }

-- `IsRun` holds of the runs of the monitor of U1
pub IsRun-known : IsRun known_run
unfolding known_run
IsRun-known = IsRun-run_of known_at

-- `IsRun` holds of the runs of the monitor of the handshake
pub IsRun-handshake : IsRun handshake_run
unfolding handshake_run
IsRun-handshake = IsRun-run_of handshake_at

-- `IsRun` holds of the runs of the monitor of the lines that have to be stable
pub IsRun-stability : IsRun stability_run
unfolding stability_run
IsRun-stability = IsRun-run_of stability_at

-- `IsRun` holds of the runs of the monitor of the arbitration
pub IsRun-grant : IsRun grant_run
unfolding grant_run
IsRun-grant = IsRun-run_of grant_at

-- `IsRun` holds of the runs of the monitor of the interrupt acknowledge
pub IsRun-acknowledge : IsRun acknowledge_run
unfolding acknowledge_run
IsRun-acknowledge = IsRun-run_of acknowledge_at

-- the composition c of the tables a and b agrees with the runs over x and then y, if a agrees with those over x, and b
-- with those over y from the levels after x
pub AgreesWithRuns-of_both : {P : Type 0} (run : P → Levels → List Step → Outcome P) → IsRun run → (place : P → ℕ)
    (listing : Bool) (count : ℕ) (o v : Levels) (x y : List Step) (a b c : TableValue) → v ≡ levels_after o x
    → length x + length y < 2 ^ 64 → IsComposition (length x) a b c
    → AgreesWithRuns listing count place a (λ p. run p o x) → AgreesWithRuns listing count place b (λ p. run p v y)
    → AgreesWithRuns listing count place c (λ p. run p o (x ++ y))
AgreesWithRuns-of_both run law place listing count o v x y a b c e fits s p q =
    AgreesWithRuns-composition (length x) (length y) fits place listing count a b c (λ k. run k o x) (λ k. run k v y)
    (λ k. run k o (x ++ y)) s p q (λ k. law.within k v y)
    (λ k. rw e (law.joined k o x y))
