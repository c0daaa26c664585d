use Rattle.std.proofs.Common.{List, subst, arith}
use Rattle.vme_part_format.specs.Tables.{SegmentValue}
use Rattle.vme_parts.specs.Telling.{JudgesAll}
use Rattle.vme_parts.proofs.Ordering.{map-first_and_rest, IsSegment-rest, IsSegment-item_at}
use Rattle.vme_parts.proofs.tell.judge_all.Goals as goal

pub judge_from-requires-clause-first : goal.judge_from-requires-clause-first
judge_from-requires-clause-first c =
    IsSegment-item_at c.args.segments.now 0 c.first-item.result (omega (arith, c.in-len1-up.len_at_least))
    c.first-item.is
    c.requires.segments

pub judge_from-requires-clause-rest : goal.judge_from-requires-clause-rest
judge_from-requires-clause-rest c = IsSegment-rest c.args.segments.now c.requires.segments

pub returns-clause-judges : goal.returns-clause-judges
returns-clause-judges c =
    subst (λ (ss : List SegmentValue). JudgesAll ss c.judge_from.result)
    (map-first_and_rest c.args.segments.now c.first-item.result (omega (arith, c.in-len1-up.len_at_least))
    c.first-item.is)
    c.judge_from.ensures.judges
