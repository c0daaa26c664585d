use Rattle.std.proofs.Common.{List, map, subst, sym}
use Rattle.std.specs.Prelude.{Err}
use Rattle.vme_part_format.specs.Tables.{part_value, segment_value}
use Rattle.vme_part_format.specs.declared.segment.Segment.{Segment}
use Rattle.vme_parts.specs.Telling.{JudgesAll, JudgesFiles}
use Rattle.vme_parts.specs.declared.answers.RecordingAnswer.{RecordingAnswer}
use Rattle.vme_parts.proofs.Covered.{LacksFrom-no_segments}
use Rattle.vme_parts.proofs.JoinedParts.{IsSegment-of_part}
use Rattle.vme_parts.proofs.ToldFiles.{JudgesFiles-beyond, JudgesFiles-judged, JudgesFiles-lacking, JudgesFiles-missing}
use Rattle.vme_parts.proofs.ToldFiles.{JudgesFiles-stopped}
use Rattle.vme_parts.proofs.tell.judged.Goals as goal

pub beyond-requires : goal.beyond-requires
beyond-requires c = rw c.as_slice-segments.ensures.value (IsSegment-of_part (part_value c.args.part.now) c.requires)

pub covered-requires : goal.covered-requires
covered-requires c = rw c.as_slice-segments.ensures.value (IsSegment-of_part (part_value c.args.part.now) c.requires)

pub judge_all-requires-clause-segments : goal.judge_all-requires-clause-segments
judge_all-requires-clause-segments c =
    rw c.as_slice-segments.ensures.value (IsSegment-of_part (part_value c.args.part.now) c.requires)

-- if there is no segment, `end` is 0, and the recording has more files
pub judge_all-requires-clause-some : goal.judge_all-requires-clause-some
judge_all-requires-clause-some c =
    λ none. c.lacks.ensures.whole c.if-lacks.false
    (LacksFrom-no_segments c.args.files c.in-Ok.end c.as_slice-segments.result.now none c.in-Ok.ensures.next)

pub returns-in-Some-clause-judges : goal.returns-in-Some-clause-judges
returns-in-Some-clause-judges c =
    JudgesFiles-beyond (part_value c.args.part.now) c.args.files c.in-Some.file
    (rw c.as_slice-segments.ensures.value at c.in-Some.ensures.beyond)

pub returns-in-Err-clause-judges : goal.returns-in-Err-clause-judges
returns-in-Err-clause-judges c =
    JudgesFiles-missing (part_value c.args.part.now) c.args.files c.in-Err.file
    (rw c.as_slice-segments.ensures.value at (c.beyond.ensures.within c.in_default.is))
    (rw c.as_slice-segments.ensures.value at c.in-Err.ensures.gap)

pub returns-then-lacks-clause-judges : goal.returns-then-lacks-clause-judges
returns-then-lacks-clause-judges c =
    JudgesFiles-lacking (part_value c.args.part.now) c.args.files c.in-Ok.end
    (rw c.as_slice-segments.ensures.value at (c.beyond.ensures.within c.in_default.is))
    (rw c.as_slice-segments.ensures.value at c.in-Ok.ensures.next) (c.lacks.ensures.lacks c.if-lacks.true)

pub returns-in-Ok-judge_all-clause-judges : goal.returns-in-Ok-judge_all-clause-judges
returns-in-Ok-judge_all-clause-judges c =
    JudgesFiles-judged (part_value c.args.part.now) c.args.files c.in-Ok.end
    (rw c.as_slice-segments.ensures.value at (c.beyond.ensures.within c.in_default.is))
    (rw c.as_slice-segments.ensures.value at c.in-Ok.ensures.next) (c.lacks.ensures.whole c.if-lacks.false)
    c.in-Ok-judge_all.judging (rw c.as_slice-segments.ensures.value at c.in-Ok-judge_all.ensures.judges)

pub returns-in-Err-judge_all-clause-judges : goal.returns-in-Err-judge_all-clause-judges
returns-in-Err-judge_all-clause-judges c =
    let p = part_value c.args.part.now in
    let why = c.in-Err-judge_all.stop in
    let judges : JudgesAll p.segments (Err why) =
    subst (λ (xs : List Segment). JudgesAll (map segment_value xs) (Err why)) c.as_slice-segments.ensures.value
    c.in-Err-judge_all.ensures.judges in
    subst (λ (what : RecordingAnswer). JudgesFiles p c.args.files (Err what)) (sym c.answer_of.ensures)
    (JudgesFiles-stopped p c.args.files c.in-Ok.end
    (rw c.as_slice-segments.ensures.value at (c.beyond.ensures.within c.in_default.is))
    (rw c.as_slice-segments.ensures.value at c.in-Ok.ensures.next) (c.lacks.ensures.whole c.if-lacks.false) why
    judges)
