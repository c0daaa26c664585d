use Rattle.std.proofs.Common.{arith}
use Rattle.std.proofs.lemmas.List.{length-map}
use Rattle.vme_part_format.specs.Tables.{node_value, table_value}
use Rattle.vme_part_format.proofs.WriteLaws.{CanWrite-entries, marks_of_nodes-ascend, marks_of_nodes-few}
use Rattle.vme_part_format.proofs.tables.put_table.Goals as goal

pub put_node_count-requires : goal.put_node_count-requires
put_node_count-requires c =
    rw c.as_slice.ensures.value
    (omega (arith, c.requires.4.few, length-map c.args.table.now.nodes.items node_value))

pub put_written-requires : goal.put_written-requires
put_written-requires c =
    rw c.as_slice-2.ensures.value
    (record {
      many = omega (arith, c.requires.4.as_many, c.requires.2);
      can = CanWrite-entries c.args.listing c.requires.0 c.requires.1 (table_value c.args.table.now) c.requires.3
          c.requires.4;
    })

pub put_nodes-requires : goal.put_nodes-requires
put_nodes-requires c =
    rw c.as_slice-3.ensures.value
    (record {
      few = marks_of_nodes-few c.requires.0 c.requires.1 c.args.table.now.nodes.items c.requires.4.nodes;
      ascend = marks_of_nodes-ascend c.requires.0 c.requires.1 c.args.table.now.nodes.items c.requires.4.nodes;
    })
