-- What is reached after some steps of a recording: the marks before its first break, and that break.
use Rattle.std.specs.Prelude.{ℕ, ◌+◌, List, ◌++◌, map, Option, None, is_some, if◌then◌else◌}
use Rattle.std.specs.List.{fold}
use Rattle.vme_trace.specs.Levels.{Levels}
use Rattle.vme_trace.specs.Trace.{changed}
use Rattle.vme_trace.specs.declared.step.Step.{Step}
use Rattle.vme_trace.specs.declared.verdict.Break.{Break}
use Rattle.vme_monitor.specs.Run.{mark_at}
use Rattle.vme_monitor.specs.declared.mark.Mark.{Mark}
use Rattle.vme_summary.specs.MarkedRows.{opening_marks}
use Rattle.vme_auditor.specs.JoinedMarks.{kinds_shown}
use Rattle.vme_auditor.specs.Memories.{fault_at, memories_at, memories_next}
use Rattle.vme_auditor.specs.declared.memories.Memories.{Memories}

-- The levels after the last step, and its instant; the memories of the monitors up to the first break; that break, and
-- the marks before it.
pub record StepsReached : Type 0 where
  pub levels : Levels
  pub instant : ℕ
  pub memories : Memories
  pub found : Option Break
  pub marks : List Mark

-- before the first step
abbrev pub reached_at : Levels → StepsReached
reached_at o = record { levels = o; instant = 0; memories = memories_at o; found = None; marks = opening_marks o }

-- the break that a step makes
abbrev pub fault_in : StepsReached → Step → Option Break
fault_in r s = fault_at r.memories r.levels (changed r.levels s.changes) s.changes (r.instant + 1) s.time

-- the marks of a step
abbrev pub marks_in : StepsReached → Step → List Mark
marks_in r s =
    map (mark_at (r.instant + 1)) (kinds_shown r.memories r.levels (changed r.levels s.changes) s.changes)

-- one more step, if no break has been found before it
abbrev pub judged : StepsReached → Step → StepsReached
judged r s =
    record {
      levels = changed r.levels s.changes;
      instant = r.instant + 1;
      memories = memories_next r.memories r.levels (changed r.levels s.changes) s.changes;
      found = fault_in r s;
      marks = if is_some (fault_in r s) then r.marks else r.marks ++ marks_in r s;
    }

-- one more step, if a break has been found before it
abbrev pub passed : StepsReached → Step → StepsReached
passed r s = record r { levels = changed r.levels s.changes; instant = r.instant + 1 }

-- one more step
abbrev pub with_step : StepsReached → Step → StepsReached
with_step r s = if is_some r.found then passed r s else judged r s

-- what is reached after steps from opening levels `o`
unfoldable pub reached : Levels → List Step → StepsReached
reached o steps = fold with_step (reached_at o) steps
