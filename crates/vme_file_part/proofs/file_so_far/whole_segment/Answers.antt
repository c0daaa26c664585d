-- No step was given, or the segment so far is that of the file.
use Rattle.std.proofs.Common.{List, ap, subst, ◌∙◌}
use Rattle.std.proofs.lemmas.Result.{IfOk-weaker}
use Rattle.vme_trace.specs.WellFormed.{malformed_step}
use Rattle.vme_trace.specs.declared.step.Step.{Step}
use Rattle.vme_summary.specs.Joins.{block_of}
use Rattle.vme_part_format.specs.Tables.{segment_value}
use Rattle.vme_parts.specs.Files.{StandsForFile}
use Rattle.vme_file_part.proofs.SoFar.{malformed_step-without_steps, StandsForFile-without_steps, StandsForFile-so_far}
use Rattle.vme_file_part.proofs.file_so_far.whole_segment.Goals as goal

pub returns-in-Some-clause-stands : goal.returns-in-Some-clause-stands
returns-in-Some-clause-stands c start t h sound =
    StandsForFile-so_far c.args.number c.args.listing start c.args.opening.now c.args.segment t h c.in-Some.segment
    c.in-Some.is

pub segment_of_steps-requires-clause-accepted : goal.segment_of_steps-requires-clause-accepted
segment_of_steps-requires-clause-accepted c =
    let (start, t, h, sound) = c.requires in
    ap (λ (l : List Step). malformed_step (record { opening = c.args.opening.now; steps = l }))
    (c.as_slice.ensures.value ∙ c.new-none.ensures.items)
    ∙ malformed_step-without_steps c.args.number c.args.listing start c.args.opening.now c.args.segment t h c.in-None.is
    sound

pub returns-in-None-clause-stands : goal.returns-in-None-clause-stands
returns-in-None-clause-stands c start t h sound =
    let opening = c.args.opening.now in
    IfOk-weaker c.segment_of_steps.result _ _
    (λ s stands. StandsForFile-without_steps c.args.number c.args.listing start opening c.args.segment t h c.in-None.is
    (segment_value s)
    (subst (λ (l : List Step). StandsForFile c.args.listing (segment_value s) (block_of c.args.number opening l))
    (c.as_slice.ensures.value ∙ c.new-none.ensures.items) stands)) c.segment_of_steps.ensures.stands

pub returns-in-None-clause-refused : goal.returns-in-None-clause-refused
returns-in-None-clause-refused c = c.segment_of_steps.ensures.refused
