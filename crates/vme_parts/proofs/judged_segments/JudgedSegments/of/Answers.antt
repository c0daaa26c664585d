use Rattle.std.proofs.Common.{arith, refl}
use Rattle.vme_part_format.specs.Tables.{segment_value}
use Rattle.vme_parts.proofs.SegmentLemmas.{HasJudgedFiles-first}
use Rattle.vme_parts.proofs.judged_segments.JudgedSegments.of.Goals as goal

pub returns-clause-judged : goal.returns-clause-judged
returns-clause-judged c =
    HasJudgedFiles-first _ c.at-begun.result (segment_value c.args.segment.now) refl refl c.step_count.ensures
    (omega (arith, c.step_count.ensures))
    c.at-begun.ensures.found c.past.ensures.found
