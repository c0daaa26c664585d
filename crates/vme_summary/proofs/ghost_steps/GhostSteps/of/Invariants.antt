-- The loop over the steps: those so far were taken.
use Rattle.std.proofs.Common.{◌≡◌, take}
use Rattle.vme_summary.proofs.ghost_steps.GhostSteps.of.Given as goal

abbrev pub invariant-loop-step : goal.invariant-loop-step
invariant-loop-step l = l.taken.items ≡ take l.step-index l.steps
