-- The loop over the steps: the levels are those after the steps so far.
use Rattle.std.proofs.Common.{◌≡◌, take}
use Rattle.vme_trace.specs.Trace.{levels_after}
use Rattle.vme_parts.proofs.pieces.lines_after.Given as goal

abbrev pub invariant-loop-step : goal.invariant-loop-step
invariant-loop-step l = l.lines ≡ levels_after l.opening (take l.step-index l.steps)
