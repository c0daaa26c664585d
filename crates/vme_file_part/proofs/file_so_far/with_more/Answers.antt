-- The steps are judged from the levels after those so far, and the tables are composed.
use Rattle.std.proofs.Common.{◌+◌, arith, length, subst}
use Rattle.std.proofs.lemmas.Result.{IfOk-weaker, err_from_is_err_and}
use Rattle.vme_trace.specs.Levels.{Levels}
use Rattle.vme_summary.specs.Joins.{block_of}
use Rattle.vme_part_format.specs.Tables.{segment_value}
use Rattle.vme_parts.specs.Files.{StandsForFile}
use Rattle.vme_parts.specs.NodeCounts.{tables_for}
use Rattle.vme_file_part.specs.Growing.{AreTooManyNodes}
use Rattle.vme_file_part.proofs.CountedNodes.{HaveNodesAtMost-extended, IsPartRefusal-of_memory}
use Rattle.vme_file_part.proofs.GrownFile.{malformed_step-rest, StandsForFile-grown, left-of_file, steps-of_file}
use Rattle.vme_file_part.proofs.GrownFile.{HasTables-of_file}
use Rattle.vme_file_part.proofs.MarkedNodes.{IsRefusedFile-of_memory}
use Rattle.vme_file_part.proofs.file_so_far.with_more.Goals as goal

pub segment_of_steps-requires-clause-accepted : goal.segment_of_steps-requires-clause-accepted
segment_of_steps-requires-clause-accepted c =
    let (o, x, a, may) = c.requires in
    malformed_step-rest o c.args.segment.left x c.args.steps.now
    (left-of_file c.args.listing (segment_value c.args.segment) (block_of c.args.number o x) a) may.formed

pub segment_of_steps-requires-clause-few : goal.segment_of_steps-requires-clause-few
segment_of_steps-requires-clause-few c =
    let (o, x, a, may) = c.requires in omega (arith, may.few)

pub extended-requires-clause-first : goal.extended-requires-clause-first
extended-requires-clause-first c =
    let (o, x, a, may) = c.requires in
    HasTables-of_file c.args.listing (segment_value c.args.segment) (block_of c.args.number o x) a

pub extended-requires-clause-second : goal.extended-requires-clause-second
extended-requires-clause-second c =
    HasTables-of_file c.args.listing (segment_value c.in_ok-more.more)
    (block_of c.args.number c.args.segment.left c.args.steps.now) c.in_ok-more.ensures.stands

pub extended-requires-clause-steps : goal.extended-requires-clause-steps
extended-requires-clause-steps c =
    let (o, x, a, may) = c.requires in
    omega (
      arith,
      may.few,
      steps-of_file c.args.listing (segment_value c.args.segment) (block_of c.args.number o x) a,
      steps-of_file c.args.listing (segment_value c.in_ok-more.more)
          (block_of c.args.number c.args.segment.left c.args.steps.now) c.in_ok-more.ensures.stands,
    )

pub returns-clause-stands : goal.returns-clause-stands
returns-clause-stands c o x a may =
    let s = segment_value c.args.segment in
    let t = segment_value c.in_ok-more.more in
    let y = c.args.steps.now in
    let left = left-of_file c.args.listing s (block_of c.args.number o x) a in
    IfOk-weaker c.extended.result _ _
    (λ r e. StandsForFile-grown c.args.listing s t (segment_value r) c.args.number o x y a
    (subst (λ (v : Levels). StandsForFile c.args.listing t (block_of c.args.number v y)) left
    c.in_ok-more.ensures.stands) e may.formed may.few) c.extended.ensures.extends

pub returns-clause-refused : goal.returns-clause-refused
returns-clause-refused c =
    let (o, x, a, may) = c.requires in
    c.extended.ensures.refused c.args.listing a.nodes c.in_ok-more.ensures.stands.nodes

pub returns-in_err-more-clause-refused : goal.returns-in_err-more-clause-refused
returns-in_err-more-clause-refused c =
    let p = err_from_is_err_and c.from_residual.result c.from_residual.ensures.1 in
    rw (p.1, p.2) (IsRefusedFile-of_memory c.args.listing c.in_err-more.field-0.0 c.in_err-more.ensures.refused)

pub returns-clause-nodes : goal.returns-clause-nodes
returns-clause-nodes c k a =
    IfOk-weaker c.extended.result _ _
    (λ r e. HaveNodesAtMost-extended k (tables_for (length c.args.steps.now)) (segment_value c.args.segment)
    (segment_value c.in_ok-more.more) (segment_value r) e a c.in_ok-more.ensures.few) c.extended.ensures.extends

pub returns-clause-many : goal.returns-clause-many
returns-clause-many c k a =
    c.extended.ensures.many k (tables_for (length c.args.steps.now)) a c.in_ok-more.ensures.few

pub returns-in_err-more-clause-many : goal.returns-in_err-more-clause-many
returns-in_err-more-clause-many c k a =
    let p = err_from_is_err_and c.from_residual.result c.from_residual.ensures.1 in
    rw (p.1, p.2) (IsPartRefusal-of_memory (AreTooManyNodes (k + tables_for (length c.args.steps.now)))
    c.in_err-more.field-0.0 c.in_err-more.ensures.refused)
