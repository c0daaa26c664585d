-- The loop over the steps: the view has the levels after the steps so far, and each monitor's summary gives its runs
-- over these.
use Rattle.std.proofs.Common.{◌≡◌, take}
use Rattle.vme_trace.specs.Trace.{levels_after}
use Rattle.vme_summary.proofs.each_monitor.summarise_monitors.Given as goal

abbrev pub invariant-loop-step : goal.invariant-loop-step
invariant-loop-step g l =
    record {
      counted : l.instant ≡ l.step-index;
      before : l.view.before ≡ levels_after l.fn.opening (take l.step-index l.steps);
      after : l.view.after ≡ l.view.before;
      known : g.A.Stepping.tells_of l.all.known l.fn.opening (take l.step-index l.steps);
      handshake : g.B.Stepping.tells_of l.all.handshake l.fn.opening (take l.step-index l.steps);
      stability : g.C.Stepping.tells_of l.all.stability l.fn.opening (take l.step-index l.steps);
      grant : g.D.Stepping.tells_of l.all.grant l.fn.opening (take l.step-index l.steps);
      acknowledge : g.E.Stepping.tells_of l.all.acknowledge l.fn.opening (take l.step-index l.steps);
    }
