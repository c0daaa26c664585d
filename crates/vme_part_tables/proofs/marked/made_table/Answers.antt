use Rattle.std.proofs.Common.{List, ap, ◌∙◌, arith, length, map, rules}
use Rattle.std.proofs.lemmas.List.{length-map, length-reverse}
use Rattle.vme_part_format.specs.Tables.{node_value}
use Rattle.vme_part_format.specs.declared.table.TableNode.{TableNode}
use Rattle.vme_part_tables.proofs.MarkedLemmas.{map-reverse, outcome_in-made_table, HasWays-made_table}
use Rattle.vme_part_tables.proofs.marked.made_table.Goals as goal

pub returns-clause-says : goal.returns-clause-says
returns-clause-says c =
    let made = map node_value c.args.made.nodes.items in
    let many = length-map c.args.made.nodes.items node_value in
    outcome_in-made_table c.args.memories made (map node_value c.reverse.new.self.items) c.args.onward.now
    c.loop-place.entries.items
    c.requires.some (rw many c.requires.few) c.requires.made c.requires.ways (search rules)
    (λ k h. rw (many, ← c.requires.memories)
    (c.loop-place.invariant.entries k (omega (arith, c.loop-place-test.false))))
    (ap (map node_value) c.reverse.ensures.items ∙ map-reverse node_value c.args.made.nodes.items)

pub returns-clause-ways : goal.returns-clause-ways
returns-clause-ways c =
    let made = map node_value c.args.made.nodes.items in
    let many = length-map c.args.made.nodes.items node_value in
    HasWays-made_table c.args.memories made (map node_value c.reverse.new.self.items) c.args.onward.now
    c.loop-place.entries.items
    c.requires.some (rw many c.requires.few) c.requires.made c.requires.ways (search rules)
    (λ k h. rw (many, ← c.requires.memories)
    (c.loop-place.invariant.entries k (omega (arith, c.loop-place-test.false))))
    (ap (map node_value) c.reverse.ensures.items ∙ map-reverse node_value c.args.made.nodes.items)

pub returns-clause-nodes : goal.returns-clause-nodes
returns-clause-nodes c =
    ap (λ (ns : List TableNode). length ns) c.reverse.ensures.items ∙ length-reverse c.args.made.nodes.items
