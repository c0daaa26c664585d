use Rattle.std.proofs.Common.{ap, arith, rules}
use Rattle.vme_part_format.specs.declared.table.TableNode.{TableNode}
use Rattle.vme_part_tables.proofs.Keeping.{KeptGoOn-of_each, IsKept-next_one_more, NodesGoOn-next_bound}
use Rattle.vme_part_tables.proofs.prune.keep_for_nodes.Goals as goal

pub keep_next-requires : goal.keep_next-requires
keep_next-requires c =
    let n = ap (λ (k : TableNode). k.next) c.index-nodes-place.is in
    let below = NodesGoOn-next_bound c.args.memories c.args.nodes.now c.loop-place.place c.index-nodes-place.result
    c.requires.goes_on c.loop-place-test.true in
    record {
      place = omega (arith, c.loop-place.invariant.as_many, c.requires.as_many);
      next = omega (arith, n, below, c.loop-place.invariant.as_many, c.requires.as_many);
    }

pub loop-place-preserved : goal.loop-place-preserved
loop-place-preserved c =
    record {
      as_many = search rules;
      more = λ k h. c.keep_next.ensures.more k (c.loop-place.invariant.more k h);
      nodes = IsKept-next_one_more c.args.memories c.loop-place.keeps c.keep_next.new.keeps c.args.nodes.now
          c.loop-place.place c.index-nodes-place.result c.index-nodes-place.is (search rules) (search rules)
          c.keep_next.ensures.more c.keep_next.ensures.before c.keep_next.ensures.kept c.loop-place.invariant.nodes;
    }

pub returns-clause-nodes : goal.returns-clause-nodes
returns-clause-nodes c =
    KeptGoOn-of_each c.args.memories c.loop-place.keeps c.args.nodes.now (search rules)
    (λ k d h e. c.loop-place.invariant.nodes k d (omega (arith, c.loop-place-test.false)) e)
