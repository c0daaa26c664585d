-- A recording while it is made.
use Rattle.std.specs.Prelude.{List, ◌++◌}
use Rattle.vme_trace.specs.Trace.{Trace}
use Rattle.vme_trace.specs.declared.step.Step.{Step}

-- the recording t, continued by `steps`
abbrev pub with_steps : Trace → List Step → Trace
with_steps t steps = record t { steps = t.steps ++ steps }
