use Rattle.std.proofs.Common.{◌≡◌, ◌-◌, ◌≤◌, rules, ap, sym, ◌∙◌, arith, length, map, take}
use Rattle.std.proofs.lemmas.List.{length-map, take_all}
use Rattle.vme_monitor.proofs.Stepped.{drop-set_next}
use Rattle.vme_part_format.specs.Tables.{node_value}
use Rattle.vme_part_tables.specs.Composed.{node_on, nodes_on}
use Rattle.vme_part_tables.proofs.Composing.{length-nodes_on}
use Rattle.vme_part_tables.proofs.InPlaceChanges.{take-map_rest_set}
use Rattle.vme_part_tables.proofs.compose.connect_nodes.Goals as goal

pub loop-node-preserved : goal.loop-node-preserved
loop-node-preserved c =
    let g = node_on c.args.second.now c.args.steps in
    let j = c.loop-node.between - 1 in
    record {
      between = omega arith;
      done = take-map_rest_set node_value g c.loop-node.nodes c.args.nodes.now c.loop-node.node-index j
          c.node-item.result
          c.connect_node.new.node (search rules) (search rules) (search rules) (omega arith)
          (c.connect_node.ensures ∙ ap (λ n. g j (node_value n)) (sym c.node-item.is)) c.loop-node.invariant.done
          c.loop-node.invariant.rest;
      rest = drop-set_next c.loop-node.nodes c.args.nodes.now c.loop-node.node-index c.connect_node.new.node
          c.loop-node.invariant.rest;
    }

pub returns : goal.returns
returns c =
    let old = map node_value c.args.nodes.now in
    let count : length (nodes_on c.args.second.now c.args.steps old) ≤ c.loop-node.node-index
    = omega (
      arith,
      length-nodes_on c.args.second.now c.args.steps old,
      length-map c.args.nodes.now node_value,
      c.loop-node.auto.nodes,
      c.loop-node-test.false,
    ) in
    let all : take c.loop-node.node-index c.loop-node.nodes ≡ c.loop-node.nodes
    = take_all c.loop-node.node-index c.loop-node.nodes (omega (arith, c.loop-node-test.false)) in
    sym (ap (map node_value) all) ∙ (c.loop-node.invariant.done
    ∙ take_all c.loop-node.node-index (nodes_on c.args.second.now c.args.steps old) count)
