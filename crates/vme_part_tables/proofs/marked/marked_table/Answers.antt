use Rattle.std.proofs.Common.{◌∙◌, arith, map}
use Rattle.std.proofs.lemmas.List.{length-map}
use Rattle.vme_part_format.specs.Tables.{node_value, table_value}
use Rattle.vme_part_tables.proofs.MarkedLemmas.{AgreesWithRuns-of_onward}
use Rattle.vme_part_tables.proofs.marked.marked_table.Goals as goal

pub returns-clause-agrees : goal.returns-clause-agrees
returns-clause-agrees g c =
    let say = rw c.COUNT.ensures at c.in_ok-onward.ensures.says in
    let told = rw (c.COUNT-2.ensures, c.as_slice.ensures.value) at c.in_ok-table.ensures.says in
    AgreesWithRuns-of_onward g.M.Finite.place_of g.M.Finite.nth_of g.M.Finite.COUNT
    (map node_value c.memory_ways.new.made.nodes.items) c.in_ok-onward.onward.items
    c.args.needs.now (g.M.Monitor.outcome c.args.summary.now) (table_value c.in_ok-table.table) g.met.M.Finite.placed
    g.met.M.Finite.found say told (c.in_ok-table.ensures.counted ∙ c.COUNT-2.ensures) c.in_ok-table.ensures.ways

pub returns-clause-few : goal.returns-clause-few
returns-clause-few g c =
    omega (
      arith,
      c.in_ok-onward.ensures.count,
      c.in_ok-table.ensures.nodes,
      length-map c.in_ok-table.table.nodes.items node_value,
    )
