-- Where reading stops, with the steps before it.
use Rattle.vme_trace.specs.Followed.{with_steps}
use Rattle.vme_trace.specs.Trace.{Trace}
use Rattle.vme_bind.specs.TextReading.{StopsAs, TextReading}
use Rattle.vme_step_reader.specs.declared.stopped_steps.StoppedSteps.{StoppedSteps}

-- the reading is `given`, then the steps of `stopped`, then its fault; nothing is said if memory ran out
abbrev pub StopsBehind : Trace → StoppedSteps → TextReading → Type 0
StopsBehind given stopped reading = StopsAs stopped.fault.line stopped.fault.kind (with_steps given stopped.steps.items)
    stopped.time reading
