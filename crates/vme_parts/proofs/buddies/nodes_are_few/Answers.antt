use Rattle.std.proofs.Common.{◌≡◌, ◌+◌, ◌<◌, ◌^◌, true, length, map, arith}
use Rattle.std.proofs.lemmas.List.{length-map}
use Rattle.vme_part_format.specs.Tables.{node_value}
use Rattle.vme_parts.proofs.buddies.nodes_are_few.Goals as goal

pub returns-clause-few : goal.returns-clause-few
returns-clause-few c =
    λ t. omega (
      arith,
      length-map c.args.first.now.nodes.items node_value,
      length-map c.args.second.now.nodes.items node_value,
      c.are_few_together.ensures.0 t,
    )

pub returns-clause-many : goal.returns-clause-many
returns-clause-many c =
    λ no few.
    let a = c.args.first.now in
    let b = c.args.second.now in
    let within : length a.entries.items
    + (length (map node_value a.nodes.items) + length (map node_value b.nodes.items)) < 2 ^ 32 = few in
    let yes : c.are_few_together.result ≡ true = c.are_few_together.ensures.1
    (omega (arith, within, length-map a.nodes.items node_value, length-map b.nodes.items node_value)) in
    absurd (cc)
