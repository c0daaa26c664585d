-- The state of judging with marks after further steps.
use Rattle.std.proofs.Common.{List, ◌++◌, sym, ◌∙◌, Option}
use Rattle.vme_trace.specs.Levels.{Levels}
use Rattle.vme_trace.specs.Trace.{levels_after}
use Rattle.vme_trace.specs.declared.step.Step.{Step}
use Rattle.vme_trace.proofs.CutBlocks.{levels_after-append}
use Rattle.vme_summary.specs.Progressed.{HasMarked, IsMarkedOf, StandsSoFar}
use Rattle.vme_summary.specs.declared.chunk_summary.ChunkSummary.{ChunkSummary}
use Rattle.vme_summary.specs.declared.summary.MonitorSummaries.{MonitorSummaries}

-- if s stands for all steps, and j is the summary of the further ones y, the lines that y leaves and s are the state of
-- judging with marks after y
pub HasMarked-append : (j : ChunkSummary) (s : Option MonitorSummaries) (o : Levels) (x y : List Step)
    → StandsSoFar s o (x ++ y) → IsMarkedOf j (levels_after o x) y → HasMarked (record { left = j.left; summary = s }) o
    (x ++ y)
HasMarked-append j s o x y stands made =
    record { left = made.left ∙ sym (levels_after-append o x y); stands = stands }
