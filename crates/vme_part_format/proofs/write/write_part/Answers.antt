use Rattle.std.proofs.Common.{ap, length, arith}
use Rattle.std.proofs.lemmas.List.{length-map}
use Rattle.std.proofs.lemmas.Result.{IfOk-weaker}
use Rattle.vme_part_format.specs.Tables.{part_value, segment_value}
use Rattle.vme_part_format.proofs.SizeLaws.{length-part_with_marks, IsSmall-compact_part, length-part_without_marks}
use Rattle.vme_part_format.proofs.write.write_part.Goals as goal

pub returns-clause-few : goal.returns-clause-few
returns-clause-few c = λ without.
    let p = c.args.part.now in
    IfOk-weaker c.write_whole.result _ _
    (λ out e. omega (
      arith,
      ap length e,
      length-part_without_marks (part_value p) c.requires without,
      length-map p.segments.items segment_value,
      p.segments.ok.0,
    )) c.write_whole.ensures

pub returns-clause-marked : goal.returns-clause-marked
returns-clause-marked c = λ marked.
    let p = c.args.part.now in
    IfOk-weaker c.write_whole.result _ _
    (λ out e. omega (
      arith,
      ap length e,
      length-part_with_marks (part_value p) c.requires marked,
      length-map p.segments.items segment_value,
      p.segments.ok.0,
    )) c.write_whole.ensures

pub returns-clause-small : goal.returns-clause-small
returns-clause-small c = λ compact one.
    let p = c.args.part.now in
    IfOk-weaker c.write_whole.result _ _
    (λ out e. omega (
      arith,
      ap length e,
      IsSmall-compact_part (part_value p) c.requires compact
          (omega (arith, one, length-map p.segments.items segment_value, p.segments.ok.0)),
    )) c.write_whole.ensures
