use Rattle.vme_part_format.specs.Bounds.{FitsPart}
use Rattle.vme_part_format.specs.Tables.{part_value}
use Rattle.vme_part_command.proofs.ReadLemmas.{All-map}
use Rattle.vme_part_command.proofs.inputs.joined.Goals as goal

pub join_parts-requires : goal.join_parts-requires
join_parts-requires g c = All-map FitsPart part_value c.in-Ok.parts.items c.in-Ok.ensures.read.fit
