use Rattle.std.proofs.Common.{◌<◌, length, map, arith}
use Rattle.vme_part_format.specs.Tables.{segment_value}
use Rattle.vme_parts.proofs.Ordering.{IsSegment-item_at}
use Rattle.vme_parts.proofs.ToldFiles.{ComesTo-first, ComesTo-next, JudgesAll-none_left, JudgesAll-stops}
use Rattle.vme_parts.proofs.tell.judge_from.Goals as goal

pub of-judging-requires : goal.of-judging-requires
of-judging-requires c = c.requires.first.tables

pub go_past-requires-clause-tables : goal.go_past-requires-clause-tables
go_past-requires-clause-tables c =
    (IsSegment-item_at c.args.rest.now c.loop-segment.segment-index c.segment-item.result (omega arith)
    c.segment-item.is
    c.requires.rest).tables

pub loop-segment-init : goal.loop-segment-init
loop-segment-init c =
    record {
      fit = c.of-judging.ensures.fit;
      come = ComesTo-first c.of-judging.result (segment_value c.args.first.now) (map segment_value c.args.rest.now)
          c.of-judging.ensures.judged;
    }

pub loop-segment-preserved : goal.loop-segment-preserved
loop-segment-preserved c =
    let lt : c.loop-segment.segment-index < length c.args.rest.now = omega arith in
    record {
      fit = c.go_past.ensures.fit;
      come = ComesTo-next c.loop-segment.judging (segment_value c.args.first.now) c.args.rest.now
          c.loop-segment.segment-index c.segment-item.result lt c.segment-item.is c.loop-segment.invariant.come
          c.go_past.new.self c.in-Ok.ensures.judged;
    }

pub returns-in-Err-clause-judges : goal.returns-in-Err-clause-judges
returns-in-Err-clause-judges c =
    let lt : c.loop-segment.segment-index < length c.args.rest.now = omega arith in
    JudgesAll-stops c.loop-segment.judging (segment_value c.args.first.now) c.args.rest.now c.loop-segment.segment-index
    c.segment-item.result lt c.segment-item.is c.loop-segment.invariant.come c.in-Err.stop c.in-Err.ensures.stops

pub returns-clause-judges : goal.returns-clause-judges
returns-clause-judges c =
    JudgesAll-none_left c.loop-segment.judging (segment_value c.args.first.now) c.args.rest.now
    c.loop-segment.segment-index
    (omega (arith, c.loop-segment-test.false)) c.loop-segment.invariant.come
