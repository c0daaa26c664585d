-- The steps that follow don't give a table too many nodes.
use Rattle.std.proofs.Common.{◌+◌, length, subst}
use Rattle.vme_parts.specs.NodeCounts.{IsPartRefusal, tables_for}
use Rattle.vme_parts.specs.declared.part_refusal.PartRefusal.{PartRefusal}
use Rattle.vme_file_part.specs.Growing.{AreTooManyNodes}
use Rattle.vme_part_command.proofs.CheckLemmas.{HasFewNodes-batch, not_too_many-within_limit}
use Rattle.vme_part_command.proofs.file_check.judge_more.Goals as goal

pub go_on-requires : goal.go_on-requires
go_on-requires c =
    let (number, listing, start, t, h, few, may) = c.requires in
    (number, listing, start, t, h, may)

pub unreachable-requires : goal.unreachable-requires
unreachable-requires c =
    let (number, listing, start, t, h, few, may) = c.requires in
    not_too_many-within_limit few.0 t c.args.steps.now few.1 may
    (subst (λ (why : PartRefusal). IsPartRefusal (AreTooManyNodes (few.0 + tables_for (length c.args.steps.now))) why)
    c.in-Err-TooManyNodes.field-0-is (c.in-Err-TooManyNodes.ensures.many few.0 few.2))

pub returns-in-Ok-clause-so_far : goal.returns-in-Ok-clause-so_far
returns-in-Ok-clause-so_far c number listing start t h may = c.in-Ok.ensures.so_far number listing start t h may

pub returns-in-Ok-clause-few : goal.returns-in-Ok-clause-few
returns-in-Ok-clause-few c t few whole =
    HasFewNodes-batch few.0 c.in-Ok.file t c.args.steps.now few.1 whole (c.in-Ok.ensures.nodes few.0 few.2)
