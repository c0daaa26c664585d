use Rattle.std.proofs.Common.{arith, refl}
use Rattle.vme_part_format.specs.Tables.{segment_value}
use Rattle.vme_parts.proofs.SegmentLemmas.{HasJudgedFiles-next_segment, HaveTooManySteps-next_segment}
use Rattle.vme_parts.proofs.TornFiles.{IsTornIn-torn_at}
use Rattle.vme_parts.proofs.judged_segments.JudgedSegments.go_past.Goals as goal

pub returns-in-Some-clause-stops : goal.returns-in-Some-clause-stops
returns-in-Some-clause-stops c =
    λ listing e bs ys was p n.
    IsTornIn-torn_at c.args.self.now (segment_value c.args.segment.now) listing e bs ys c.in-Some.file was p n
    c.in-Some.ensures.torn

pub returns-clause-judged : goal.returns-clause-judged
returns-clause-judged c =
    λ listing e bs ys was p n.
    HasJudgedFiles-next_segment c.args.self.now _ (segment_value c.args.segment.now)
    (c.torn_file-torn.ensures.follows c.in_default.is) refl
    c.joined_times-times.ensures (omega arith) (omega arith) c.past-states.ensures.found listing e bs ys was p n

pub returns-in_default-checked_add-clause-stops : goal.returns-in_default-checked_add-clause-stops
returns-in_default-checked_add-clause-stops c =
    λ listing e bs ys was p n.
    HaveTooManySteps-next_segment c.args.self.now (segment_value c.args.segment.now)
    (c.torn_file-torn.ensures.follows c.in_default.is)
    e bs was n listing ys p (omega (arith, c.in_default-checked_add.ensures))
