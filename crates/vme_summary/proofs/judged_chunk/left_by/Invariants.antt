-- The loop over the steps: the levels so far, changed by the steps that are left, are those after all steps.
use Rattle.std.proofs.Common.{◌≡◌, drop}
use Rattle.vme_trace.specs.Trace.{levels_after}
use Rattle.vme_summary.proofs.judged_chunk.left_by.Given as goal

abbrev pub invariant-loop-step : goal.invariant-loop-step
invariant-loop-step l = levels_after l.left (drop l.step-index l.steps) ≡ levels_after l.fn.lines l.fn.steps
