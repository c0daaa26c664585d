use Rattle.std.proofs.Common.{subst, arith}
use Rattle.vme_part_format.specs.Tables.{table_value}
use Rattle.vme_part_tables.specs.Runs.{IsComposition}
use Rattle.vme_parts.proofs.Halves.{CanCompose-few_nodes}
use Rattle.vme_parts.proofs.NodeCounts.{too_many-not_few}
use Rattle.vme_parts.proofs.PieceLemmas.{AgreesWithRuns-needed}
use Rattle.vme_parts.proofs.pieces.with_piece.Goals as goal

pub composed-requires : goal.composed-requires
composed-requires g c =
    CanCompose-few_nodes g.M.Finite.COUNT (table_value c.args.table) (table_value c.in_ok-next.next) c.requires.table
    (record { ways = c.in_ok-next.ensures.agrees.ways; counted = c.in_ok-next.ensures.agrees.counted })
    (c.nodes_are_few.ensures.few c.if-not-nodes_are_few.false)

pub left_memories-requires : goal.left_memories-requires
left_memories-requires g c = c.requires.table.ways

pub returns-clause-agrees : goal.returns-clause-agrees
returns-clause-agrees g c = λ o x opens count agrees.
    AgreesWithRuns-needed g.M.Monitor.run
    (record { joined = g.met.M.Monitor.joined; within = g.met.M.Monitor.within }) g.M.Finite.place_of
    g.M.Finite.COUNT c.in_ok-needs.needs.items o c.args.opening.now x c.args.piece.now (table_value c.args.table)
    (table_value c.in_ok-next.next) (table_value c.in_ok-table.table) g.met.M.Finite.placed opens
    (omega (arith, c.requires.fits))
    (subst (λ n. IsComposition n (table_value c.args.table) (table_value c.in_ok-next.next)
    (table_value c.in_ok-table.table)) count c.in_ok-table.ensures) c.in_ok-needs.ensures agrees
    (rw c.as_slice.ensures.value at c.in_ok-next.ensures.agrees)

pub returns-clause-few : goal.returns-clause-few
returns-clause-few g c = omega (arith, c.in_ok-table.ensures.few, c.in_ok-next.ensures.few)

pub returns-then-not-nodes_are_few-clause-refused : goal.returns-then-not-nodes_are_few-clause-refused
returns-then-not-nodes_are_few-clause-refused g c =
    too_many-not_few g.M.Finite.COUNT (table_value c.args.table) (table_value c.in_ok-next.next)
    c.requires.table.counted c.in_ok-next.ensures.few (c.nodes_are_few.ensures.many c.if-not-nodes_are_few.true)
