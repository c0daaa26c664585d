use Rattle.std.proofs.Common.{get_or, rules, arith}
use Rattle.std.proofs.lemmas.List.{length-map}
use Rattle.vme_part_format.specs.Tables.{node_value}
use Rattle.vme_part_tables.proofs.Keeping.{IsKept-superset}
use Rattle.vme_part_tables.proofs.prune.keep_reached.Goals as goal

pub returns : goal.returns
returns c =
    record {
      as_many = omega (arith, length-map c.args.nodes.now node_value);
      reached = λ k d h. IsKept-superset c.args.memories c.keep_for_entries.new.keeps c.keep_for_nodes.new.keeps
          (search rules) c.keep_for_nodes.ensures.more (get_or c.args.entries.now k d).next
          (c.keep_for_entries.ensures k d h);
      closed = c.keep_for_nodes.ensures.nodes;
    }
