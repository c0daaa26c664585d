-- The first step may belong to the opening.
use Rattle.std.proofs.Common.{List, ap, length, subst, arith, ◌∙◌}
use Rattle.std.specs.Prelude.{IfOk}
use Rattle.std.proofs.lemmas.Result.{IfOk-weaker}
use Rattle.vme_trace.specs.Levels.{Levels}
use Rattle.vme_trace.specs.declared.block.Block.{Block}
use Rattle.vme_trace.specs.declared.step.Step.{Step}
use Rattle.vme_summary.specs.Joins.{block_of}
use Rattle.vme_part_format.specs.Tables.{segment_value}
use Rattle.vme_parts.specs.Files.{StandsForFile}
use Rattle.vme_parts.specs.NodeCounts.{tables_for}
use Rattle.vme_parts.specs.Opened.{opening_of}
use Rattle.vme_file_part.proofs.CountedNodes.{HaveNodesAtMost-more}
use Rattle.vme_file_part.proofs.file_so_far.begun.Goals as goal

pub segment_of_steps-requires-clause-accepted : goal.segment_of_steps-requires-clause-accepted
segment_of_steps-requires-clause-accepted c = c.steps_of_file-steps.ensures.formed c.requires.formed

pub segment_of_steps-requires-clause-few : goal.segment_of_steps-requires-clause-few
segment_of_steps-requires-clause-few c = omega (arith, c.steps_of_file-steps.ensures.few, c.requires.few)

pub returns-clause-stands : goal.returns-clause-stands
returns-clause-stands c =
    let number = c.args.number in
    let made = c.segment_of_steps.result in
    let behind = c.steps_of_file-steps.ensures in
    let rest = c.steps_of_file-steps.result.now in
    subst (λ (b : Block). IfOk made (λ s. StandsForFile c.args.listing (segment_value s) b))
    (ap (λ (o : Levels). block_of number o rest) behind.opening
    ∙ ap (λ (l : List Step).
    block_of number (opening_of number c.args.first_time c.args.opening.now c.args.steps.now) l)
    behind.steps) c.segment_of_steps.ensures.stands

pub returns-clause-refused : goal.returns-clause-refused
returns-clause-refused c = c.segment_of_steps.ensures.refused

pub returns-clause-few : goal.returns-clause-few
returns-clause-few c =
    let rest = c.steps_of_file-steps.result.now in
    IfOk-weaker c.segment_of_steps.result _ _
    (λ s few. HaveNodesAtMost-more (tables_for (length rest)) (tables_for (length c.args.steps.now)) (segment_value s)
    (omega (arith, c.steps_of_file-steps.ensures.few)) few) c.segment_of_steps.ensures.few
