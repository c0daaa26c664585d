-- The steps are judged after those so far, or they are the first.
use Rattle.std.proofs.Common.{◌+◌, Option, arith, length, subst}
use Rattle.std.proofs.lemmas.Result.{IfErr-weaker, IfOk-weaker}
use Rattle.vme_part_format.specs.Tables.{segment_value}
use Rattle.vme_part_format.specs.declared.segment.Segment.{Segment}
use Rattle.vme_parts.specs.NodeCounts.{IsLackOfMemory, IsPartRefusal, tables_for}
use Rattle.vme_parts.specs.OnlyWithMarks.{IsRefusedFile}
use Rattle.vme_parts.specs.Opened.{opening_of, steps_of}
use Rattle.vme_file_part.specs.Growing.{AreTooManyNodes, HaveNodesSoFar}
use Rattle.vme_file_part.proofs.CountedNodes.{HaveNodesAtMost-more, IsPartRefusal-of_memory}
use Rattle.vme_file_part.proofs.MarkedNodes.{IsRefusedFile-of_memory}
use Rattle.vme_file_part.proofs.SoFar.{IsFoundOfFile-first_steps, IsFoundOfFile-with_steps, FileMayGoOn-first_steps}
use Rattle.vme_file_part.proofs.SoFar.{FileMayGoOn-so_far, StandsForFile-so_far}
use Rattle.vme_file_part.proofs.file_so_far.segment_with.Goals as goal

pub with_more-requires : goal.with_more-requires
with_more-requires c =
    let (t, h, may) = c.requires.found in
    let number = c.args.number in
    let listing = c.args.listing in
    let start = c.args.first_time in (
      opening_of number start t.opening t.steps,
      steps_of number start t.steps,
      StandsForFile-so_far number listing start c.args.opening.now c.args.segment t h c.in-Some.segment c.in-Some.is,
      FileMayGoOn-so_far number listing start c.args.opening.now c.args.segment t h c.in-Some.segment c.in-Some.is
          c.args.steps.now may,
    )

pub returns-in-Some-clause-found : goal.returns-in-Some-clause-found
returns-in-Some-clause-found c t h may =
    let number = c.args.number in
    let listing = c.args.listing in
    let start = c.args.first_time in
    let opening = c.args.opening.now in
    let y = c.args.steps.now in
    IfOk-weaker c.with_more.result _ _
    (λ s stands. IsFoundOfFile-with_steps number listing start opening c.args.segment t h c.in-Some.segment c.in-Some.is
    y s stands)
    (c.with_more.ensures.stands (opening_of number start t.opening t.steps) (steps_of number start t.steps)
    (StandsForFile-so_far number listing start opening c.args.segment t h c.in-Some.segment c.in-Some.is)
    (FileMayGoOn-so_far number listing start opening c.args.segment t h c.in-Some.segment c.in-Some.is y may))

pub begun-requires : goal.begun-requires
begun-requires c =
    let (t, h, may) = c.requires.found in
    FileMayGoOn-first_steps c.args.number c.args.listing c.args.first_time c.args.opening.now c.args.segment t h
    c.in-None.is c.args.steps.now may

pub returns-in-None-clause-found : goal.returns-in-None-clause-found
returns-in-None-clause-found c t h may =
    IfOk-weaker c.begun.result _ _
    (λ s stands. IsFoundOfFile-first_steps c.args.number c.args.listing c.args.first_time c.args.opening.now
    c.args.segment t h
    c.in-None.is c.args.steps.now s c.requires.some stands) c.begun.ensures.stands

pub returns-in-Some-clause-refused : goal.returns-in-Some-clause-refused
returns-in-Some-clause-refused c = c.with_more.ensures.refused

pub returns-in-None-clause-refused : goal.returns-in-None-clause-refused
returns-in-None-clause-refused c =
    IfErr-weaker c.begun.result IsLackOfMemory (IsRefusedFile c.args.listing)
    (λ why memory. IsRefusedFile-of_memory c.args.listing why memory) c.begun.ensures.refused

pub returns-in-Some-clause-nodes : goal.returns-in-Some-clause-nodes
returns-in-Some-clause-nodes c k a =
    c.with_more.ensures.nodes k (subst (λ (s : Option Segment). HaveNodesSoFar k s) c.in-Some.is a)

pub returns-in-None-clause-nodes : goal.returns-in-None-clause-nodes
returns-in-None-clause-nodes c k a =
    let tables = tables_for (length c.args.steps.now) in
    IfOk-weaker c.begun.result _ _
    (λ s few. HaveNodesAtMost-more tables (k + tables) (segment_value s) (omega arith) few) c.begun.ensures.few

pub returns-in-Some-clause-many : goal.returns-in-Some-clause-many
returns-in-Some-clause-many c k a =
    c.with_more.ensures.many k (subst (λ (s : Option Segment). HaveNodesSoFar k s) c.in-Some.is a)

pub returns-in-None-clause-many : goal.returns-in-None-clause-many
returns-in-None-clause-many c k a =
    IfErr-weaker c.begun.result IsLackOfMemory
    (IsPartRefusal (AreTooManyNodes (k + tables_for (length c.args.steps.now))))
    (λ why memory. IsPartRefusal-of_memory (AreTooManyNodes (k + tables_for (length c.args.steps.now))) why memory)
    c.begun.ensures.refused
