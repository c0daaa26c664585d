use Rattle.std.proofs.Common.{rules, ap, sym, ◌∙◌}
use Rattle.vme_monitor.proofs.Stepped.{map-take_set, drop-set_next}
use Rattle.vme_part_format.specs.Tables.{node_value}
use Rattle.vme_part_tables.specs.Composed.{later_node}
use Rattle.vme_part_tables.proofs.compose.delay_nodes.Goals as goal

pub loop-node-preserved : goal.loop-node-preserved
loop-node-preserved c =
    record {
      done = map-take_set node_value (later_node c.args.by) c.loop-node.nodes c.args.nodes.now c.loop-node.node-index
          c.node-item.result c.delay_node.new.node (search rules) (search rules) (search rules)
          (c.delay_node.ensures ∙ ap (λ n. later_node c.args.by (node_value n)) (sym c.node-item.is))
          c.loop-node.invariant.done c.loop-node.invariant.rest;
      rest = drop-set_next c.loop-node.nodes c.args.nodes.now c.loop-node.node-index c.delay_node.new.node
          c.loop-node.invariant.rest;
    }
