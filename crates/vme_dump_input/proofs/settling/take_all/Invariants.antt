-- The steps so far were taken.
use Rattle.std.proofs.Common.{◌≡◌, take}
use Rattle.vme_dump_input.specs.SettledSteps.{all_taken}
use Rattle.vme_dump_input.proofs.settling.take_all.Given as goal

abbrev pub invariant-loop-step : goal.invariant-loop-step
invariant-loop-step l =
    l.settler ≡ all_taken l.initial.settler (take l.step-index l.steps) l.settled.items
