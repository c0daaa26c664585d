use Rattle.std.proofs.Common.{ap, arith, vec_len}
use Rattle.vme_part_tables.proofs.Keeping.{nodes_kept-last_dropped, IsKept-last_next, nodes_kept-last_kept, take-popped}
use Rattle.vme_part_tables.proofs.prune.kept_nodes.Goals as goal

pub next_kept-next-requires-clause-kept : goal.next_kept-next-requires-clause-kept
next_kept-next-requires-clause-kept c =
    IsKept-last_next c.args.memories c.args.keeps.now c.args.nodes.items c.loop-node.nodes.items
    (vec_len c.loop-node.nodes)
    (vec_len c.pop.new.self) c.len-place.result c.in-Some.node c.loop-node.invariant.left c.loop-node.invariant.few
    c.in-Some.ensures.cases c.len-place.ensures
    (c.in-Some.ensures.value c.in-Some.node (omega (arith, c.in-Some.ensures.cases))) c.requires.as_many
    c.requires.kept c.if-keeps-place.true

pub loop-node-preserved-in-Continue-1 : goal.loop-node-preserved-in-Continue-1
loop-node-preserved-in-Continue-1 c =
    record {
      few = omega (arith, c.loop-node.invariant.few, c.in-Some.ensures.cases);
      left = take-popped c.args.nodes.items c.loop-node.nodes.items c.pop.new.self.items (vec_len c.loop-node.nodes)
          (vec_len c.pop.new.self) c.loop-node.invariant.left c.in-Some.ensures.rest c.in-Some.ensures.cases;
      kept = nodes_kept-last_kept c.args.memories c.args.keeps.now c.args.nodes.items c.loop-node.nodes.items
          (vec_len c.loop-node.nodes) (vec_len c.pop.new.self) c.len-place.result c.in-Some.node
          c.loop-node.invariant.left c.loop-node.invariant.few c.in-Some.ensures.cases c.len-place.ensures
          (c.in-Some.ensures.value c.in-Some.node (omega (arith, c.in-Some.ensures.cases))) c.requires.as_many
          c.loop-node.kept.items
          c.push.new.self.items (record {
            next = c.next_kept-next.result;
            first_break = c.in-Some.node.first_break;
            marks = c.in-Some.node.marks;
          }) c.if-keeps-place.true c.in_ok-push.ensures.items
          (ap (λ k. record { next = k; first_break = c.in-Some.node.first_break; marks = c.in-Some.node.marks.items })
          c.next_kept-next.ensures)
          c.loop-node.invariant.kept;
    }

pub loop-node-preserved : goal.loop-node-preserved
loop-node-preserved c =
    record {
      few = omega (arith, c.loop-node.invariant.few, c.in-Some.ensures.cases);
      left = take-popped c.args.nodes.items c.loop-node.nodes.items c.pop.new.self.items (vec_len c.loop-node.nodes)
          (vec_len c.pop.new.self) c.loop-node.invariant.left c.in-Some.ensures.rest c.in-Some.ensures.cases;
      kept = nodes_kept-last_dropped c.args.memories c.args.keeps.now c.args.nodes.items c.loop-node.nodes.items
          (vec_len c.loop-node.nodes) (vec_len c.pop.new.self) c.len-place.result c.in-Some.node
          c.loop-node.invariant.left c.loop-node.invariant.few c.in-Some.ensures.cases c.len-place.ensures
          (c.in-Some.ensures.value c.in-Some.node (omega (arith, c.in-Some.ensures.cases))) c.requires.as_many
          c.loop-node.kept.items
          c.if-keeps-place.false c.loop-node.invariant.kept;
    }
