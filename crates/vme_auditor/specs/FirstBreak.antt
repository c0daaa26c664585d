-- The first rule that steps break, by monitors that run from step to step.
use Rattle.std.specs.Prelude.{List, [], ◌∷◌, Option, None, option_map}
use Rattle.std.specs.Option.{option_or}
use Rattle.vme_trace.specs.Levels.{Levels}
use Rattle.vme_trace.specs.Trace.{changed}
use Rattle.vme_trace.specs.declared.step.Step.{Step}
use Rattle.vme_trace.specs.declared.verdict.Break.{Break}
use Rattle.vme_monitor.specs.Outcome.{shifted_break}
use Rattle.vme_auditor.specs.Memories.{fault_at, memories_next}
use Rattle.vme_auditor.specs.declared.memories.Memories.{Memories}

-- the first break of steps after levels `o`, by monitors that start from memories `m`
unfoldable pub first_break_from : Memories → Levels → List Step → Option Break
first_break_from m o [] = None
first_break_from m o (s ∷ ss) =
    let after = changed o s.changes in
    option_or (fault_at m o after s.changes 1 s.time)
    (option_map (shifted_break 1) (first_break_from (memories_next m o after s.changes) after ss))
