-- For which blocks an extent and a summary together stand.
use Rattle.std.specs.Prelude.{List}
use Rattle.vme_trace.specs.Blocks.{joined_steps}
use Rattle.vme_trace.specs.declared.block.Block.{Block}
use Rattle.vme_summary.specs.Extents.{IsExtent}
use Rattle.vme_summary.specs.Summaries.{SummaryStandsFor}
use Rattle.vme_summary.specs.declared.extent.Extent.{Extent}
use Rattle.vme_summary.specs.declared.summary.MonitorSummaries.{MonitorSummaries}

-- an extent and a summary stand for blocks: these have the extent, and the summary is one of all their steps, after the
-- first opening
pub record StandFor (e : Extent) (s : MonitorSummaries) (blocks : List Block) : Type 0 where
  pub extent : IsExtent e blocks
  pub summary : SummaryStandsFor s e.opening (joined_steps blocks)

-- an extent and a summary stand for some blocks
abbrev pub StandForBlocks : Extent → MonitorSummaries → Type 0
StandForBlocks e s = (blocks : List Block) × StandFor e s blocks
