-- The time scale so far, and what the rest of the dump adds, are the whole time scale.
use Rattle.std.proofs.Common.{◌≡◌, ◌≤◌, ◌++◌, drop}
use Rattle.std.specs.Prelude.{slice_range}
use Rattle.vme_variables.specs.Timescale.{scale_from, time_scale}
use Rattle.vme_variables.proofs.timescale.push_timescale.Given as goal

abbrev pub invariant-loop-at : goal.invariant-loop-at
invariant-loop-at l = (l.start ≤ l.at)
    × (l.text ++ scale_from l.section (slice_range l.dump l.start l.at) (drop l.at l.dump)
    ≡ l.fn.text ++ time_scale l.dump)
