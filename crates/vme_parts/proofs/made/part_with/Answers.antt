use Rattle.std.proofs.Common.{List, [], ◌++◌, ◌∷◌, ap, map, ◌∙◌}
use Rattle.vme_part_format.specs.Tables.{segment_value}
use Rattle.vme_part_format.specs.declared.segment.Segment.{Segment}
use Rattle.vme_parts.proofs.made.part_with.Goals as goal

pub returns-clause-one : goal.returns-clause-one
returns-clause-one c =
    ap (map segment_value) c.in_ok-push.ensures.items
    ∙ ap (λ (xs : List Segment). map segment_value (xs ++ c.args.segment ∷ [])) c.new-segments.ensures.items
