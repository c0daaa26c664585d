-- The loop over steps: those so far are copied, and the levels are those after them.
use Rattle.std.proofs.Common.{◌≡◌, take}
use Rattle.vme_trace.specs.Trace.{levels_after}
use Rattle.vme_trace.proofs.block.Block.copied.Given as goal

abbrev pub invariant-loop-step : goal.invariant-loop-step
invariant-loop-step l = record {
  copied : l.list.items ≡ take l.step-index l.steps;
  reached : l.lines
      ≡ levels_after l.fn.lines (take l.step-index l.steps);
}
