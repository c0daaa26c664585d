use Rattle.std.proofs.Common.{◌-◌, arith}
use Rattle.vme_part_tables.proofs.Shortening.{MayTakeIn-of_nodes}
use Rattle.vme_part_tables.proofs.shorten.only_next.Goals as goal

pub returns-then-may_stand_in_one : goal.returns-then-may_stand_in_one
returns-then-may_stand_in_one c =
    let n = c.index-nodes-place.result in
    let between = n.next - c.args.memories in
    MayTakeIn-of_nodes c.args.memories c.args.nodes.now c.args.place between n c.index-nodes-at.result c.requires.place
    (omega (arith, c.if-nodes-at.false)) c.index-nodes-place.is c.index-nodes-at.is
    (omega (arith, c.if-node-memories.false)) (c.may_stand_in_one.ensures.order c.if-may_stand_in_one.true)
    (c.may_stand_in_one.ensures.few c.if-may_stand_in_one.true)
