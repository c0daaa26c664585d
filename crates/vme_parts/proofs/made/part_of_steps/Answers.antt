use Rattle.std.proofs.Common.{length}
use Rattle.std.proofs.lemmas.Result.{IfOk-weaker}
use Rattle.vme_summary.specs.Joins.{block_of}
use Rattle.vme_part_format.specs.Tables.{part_value, segment_value}
use Rattle.vme_parts.specs.NodeCounts.{HaveNodesAtMost, tables_for}
use Rattle.vme_parts.specs.OnlyWithMarks.{HaveNodes}
use Rattle.vme_parts.proofs.OneFile.{All-one, IsPartOfFile-one}
use Rattle.vme_parts.proofs.made.part_of_steps.Goals as goal

pub returns-clause-stands : goal.returns-clause-stands
returns-clause-stands c =
    IfOk-weaker c.part_with.result _ _
    (λ p one. IsPartOfFile-one c.args.listing (block_of c.args.number c.args.opening.now c.args.steps.now)
    (segment_value c.in_ok-segment.segment) (part_value p) c.in_ok-segment.ensures.stands one) c.part_with.ensures.one

pub returns-clause-nodes : goal.returns-clause-nodes
returns-clause-nodes c =
    IfOk-weaker c.part_with.result _ _
    (λ p one. All-one (HaveNodes c.args.listing) (segment_value c.in_ok-segment.segment) (part_value p).segments one
    c.in_ok-segment.ensures.stands.nodes) c.part_with.ensures.one

pub returns-clause-few : goal.returns-clause-few
returns-clause-few c =
    IfOk-weaker c.part_with.result _ _
    (λ p one. All-one (HaveNodesAtMost (tables_for (length c.args.steps.now)))
    (segment_value c.in_ok-segment.segment) (part_value p).segments one c.in_ok-segment.ensures.few)
    c.part_with.ensures.one

pub returns-clause-refused : goal.returns-clause-refused
returns-clause-refused c = c.part_with.ensures.refused
