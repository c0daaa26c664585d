use Rattle.vme_part_format.specs.Tables.{table_value}
use Rattle.vme_parts.proofs.Halves.{CanCompose-few_nodes}
use Rattle.vme_file_part.proofs.MarkedNodes.{listing-too_many_nodes}
use Rattle.vme_file_part.proofs.segments.joined_table.Goals as goal

pub nodes_are_few-requires : goal.nodes_are_few-requires
nodes_are_few-requires c = let (n, p, q) = c.requires in p.ways

pub composed-requires : goal.composed-requires
composed-requires c =
    let (n, p, q) = c.requires in
    CanCompose-few_nodes n (table_value c.args.first) (table_value c.args.second) p q
    (c.nodes_are_few.ensures.few c.if-not-nodes_are_few.false)

pub returns-then-not-nodes_are_few-clause-refused : goal.returns-then-not-nodes_are_few-clause-refused
returns-then-not-nodes_are_few-clause-refused c listing a b =
    let (n, p, q) = c.requires in
    listing-too_many_nodes listing (table_value c.args.first) (table_value c.args.second) p.ways a b
    (c.nodes_are_few.ensures.many c.if-not-nodes_are_few.true)

pub returns-then-not-nodes_are_few-clause-many : goal.returns-then-not-nodes_are_few-clause-many
returns-then-not-nodes_are_few-clause-many c = c.nodes_are_few.ensures.many c.if-not-nodes_are_few.true
