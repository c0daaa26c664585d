-- The loop over the steps: the view has the levels after the steps so far, and the states are those after these.
use Rattle.std.proofs.Common.{◌≡◌, ◌+◌, ◌++◌, List, length, take}
use Rattle.vme_trace.specs.Levels.{Levels}
use Rattle.vme_trace.specs.Trace.{levels_after}
use Rattle.vme_trace.specs.declared.step.Step.{Step}
use Rattle.vme_summary.specs.Progressed.{HasFound}
use Rattle.vme_summary.proofs.monitor_states.MonitorStates.advance_along.Given as goal

abbrev pub invariant-loop-step : goal.invariant-loop-step
invariant-loop-step l =
    record {
      counted : l.instant ≡ l.before + l.step-index;
      before : l.view.before ≡ levels_after l.fn.opening (take l.step-index l.steps);
      after : l.view.after ≡ l.view.before;
      found : (o : Levels) (x : List Step) → l.fn.opening ≡ levels_after o x → l.before ≡ length x
          → HasFound l.fn.self o x → HasFound l.self o (x ++ take l.step-index l.steps);
    }
