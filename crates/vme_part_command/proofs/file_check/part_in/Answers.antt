-- A part is never refused for too many nodes.
use Rattle.std.proofs.Common.{subst}
use Rattle.vme_parts.specs.NodeCounts.{IsLackOfMemory}
use Rattle.vme_parts.specs.declared.part_refusal.PartRefusal.{PartRefusal}
use Rattle.vme_part_command.proofs.file_check.part_in.Goals as goal

pub unreachable-requires : goal.unreachable-requires
unreachable-requires c =
    subst (λ (why : PartRefusal). IsLackOfMemory why) c.in-Err-TooManyNodes.field-0-is
    c.in-Err-TooManyNodes.ensures.refused
