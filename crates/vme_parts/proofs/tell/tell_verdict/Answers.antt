use Rattle.vme_part_format.specs.Tables.{part_value}
use Rattle.vme_parts.proofs.ToldFiles.{DeterminesRecordingAnswer-refused, DeterminesRecordingAnswer-verdict}
use Rattle.vme_parts.proofs.tell.tell_verdict.Goals as goal

pub returns-in-Ok : goal.returns-in-Ok
returns-in-Ok c =
    DeterminesRecordingAnswer-verdict (part_value c.args.part.now) c.args.files c.in-Ok.judging c.verdict.result
    c.in-Ok.ensures.judges
    c.verdict.ensures

pub returns-in-Err : goal.returns-in-Err
returns-in-Err c = DeterminesRecordingAnswer-refused (part_value c.args.part.now) c.args.files c.in-Err.answer
    c.in-Err.ensures.judges
