use Rattle.std.proofs.lemmas.Result.{IfOk-weaker, err_from_is_err_and}
use Rattle.vme_part_format.specs.Tables.{part_value, segment_value}
use Rattle.vme_file_part.proofs.SoFar.{IsFoundIn-file, IsPartOfFile-file}
use Rattle.vme_file_part.proofs.file_so_far.FileSoFar.into_part.Goals as goal

pub whole_segment-requires : goal.whole_segment-requires
whole_segment-requires c =
    let (number, listing, start, t, h, sound) = c.requires in
    (c.args.self.first_time, t, IsFoundIn-file number listing start c.args.self t h, sound)

pub returns-clause-stands : goal.returns-clause-stands
returns-clause-stands c number listing start t h sound =
    IfOk-weaker c.part_with.result _ _
    (λ p one. IsPartOfFile-file number listing start c.args.self t h (segment_value c.in_ok-segment.segment)
    (part_value p)
    (c.in_ok-segment.ensures.stands c.args.self.first_time t (IsFoundIn-file number listing start c.args.self t h)
    sound)
    one) c.part_with.ensures.one

pub returns-in_err-segment-clause-refused : goal.returns-in_err-segment-clause-refused
returns-in_err-segment-clause-refused c =
    let p = err_from_is_err_and c.from_residual.result c.from_residual.ensures.1 in
    rw (p.1, p.2) c.in_err-segment.ensures.refused

pub returns-clause-refused : goal.returns-clause-refused
returns-clause-refused c = c.part_with.ensures.refused
