-- What ends a stretch at a step.
use Rattle.std.specs.Prelude.{Option, None, Some, List, option_map, if◌then◌else◌}
use Rattle.vme_trace.specs.Changes.{lost_among, touches_control}
use Rattle.vme_trace.specs.Levels.{Levels, is_reset}
use Rattle.vme_trace.specs.declared.step.Change.{Change}
use Rattle.vme_monitor.specs.declared.view.End.{End}
use Rattle.vme_monitor.specs.declared.view.End.TheVariants as end

-- if a control line changes: the reset of the bus, or else the first changed line that is lost
abbrev pub end_among : Levels → List Change → Option End
end_among after cs =
    if touches_control after.slots cs
    then (if is_reset after then Some end.Reset else option_map end.Lost (lost_among after cs))
    else None
